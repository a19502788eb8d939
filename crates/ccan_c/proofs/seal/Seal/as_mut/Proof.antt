-- `as_mut` lends what the box holds, and the seal follows it.
use mathlib.Core.Path.{◌≡◌, refl, sym}
use mathlib.Core.Bool.{true≢false}
use mathlib.Core.List.{List, [], ◌∷◌}
use Prim.Native.Nat.{ℕ}
use seplogic.Ra.Ura.{Ura}
use base.Fraction.{full_share}
use mir.Raw.{raw as bare}
use mir.Syntax.{Body, named, place, copy, assign, rv_opd, seq, return}
use mir.Val.{Val, vptr}
use base.Logic.{SProp, ent, sep, id⊢}
use base.Fml.{GName, Fml, ftrue, fsep, flft, Lft, Share}
use prog.Memory.{Memory}
use prog.Routine.{Routine}
use prog.Wp.{Env, WpFn, Tables}
use types.Logic.{Logic, sem}
use contract.Monad.{Fun, fact}
use contract.Running.{tables, tables_of}
use sound.WpLaws.{WpFn-mono}
use types.Kit.{‵, raw, ◌⊛◌, some, later, at_ret, ◌$◌, ◌∵◌, !, qed, by, move, keep, drop, use1, join, split, group, pick, rewrite, fsplit, fsplit3, fjoin, fpack, suffices, frame, await, done}
use types.Part.{whole, sub, look_in}
use types.Run.{stop, fld, addr, load, of_opd, first, blocks, exec, returns, enter}
use types.ByLocal.{alloc_all, pass_all, free_all, look_at, get, through, sets, sets_last, env}
use denote.RattleType.{RattleType, owns}
use denote.Exit.{no}
use denote.Follow.{follows, Part, lends_Part}
use denote.Memory.{part_at, part_of, mem, cell_at}
use denote.RawPtr.{block_ptr}
use denote.Ref.{MutRef, MutBor, mut_vals, mut_Tells}
use denote.Signature.{plain, mut_ref_to}
use denote.Steps.{opens, heard, nothing}
use denote.Triple.Entry.{on_entry}
use denote.Triple.Spec.{triple_of}
use denote.Triple.Table.{entered}
use denote.Triple.Walked.{says, Stays, stay_dropped, walk_of, ends_at, walked, Goes-spent_ref, walk_Meets}
use Rattle.std.specs.Prelude.{IsSome}
use Rattle.std.specs.declared.option.Option.{Option}
use Rattle.std.specs.declared.option.Option.TheVariants.{None, Some}
use Rattle.std.proofs.alloc.Calls.{token}
use Rattle.std_alloc.proofs.BoxSteps.Form.{D, R as Inside, B, τ, handle, word}
use Rattle.std_alloc.proofs.BoxSteps.Steps.{box_out, box_in}
use Rattle.ccan_c.proofs.AsBox.{E}
use Rattle.ccan_c.specs.Lending.{sealing}
use Rattle.ccan_c.specs.contracts.held.Held as Home
use Rattle.ccan_c.specs.contracts.seal.Seal as Sealed
use Rattle.ccan_c.specs.contracts.seal.Seal.as_mut as F
use Rattle.ccan_c.specs.contracts.seal.Seal.as_mut.Key.{name as #self}
use Rattle.ccan_c.proofs.seal.Seal.as_mut.Statement as stated
use Rattle.ccan_c.proofs.seal.Seal.as_mut.Code as code

abbrev Sl : RattleType
Sl = Sealed.the_row

abbrev Hd : RattleType
Hd = Home.the_row

abbrev rest : Body
rest = seq (assign (place 0 []) (rv_opd (copy (place 2 [])))) return

abbrev stayed : Stays (F.ended).signature.params (F.ended).kept
stayed = (stay_dropped (mut_ref_to (0 ∷ []) tt (plain (λ _. Sl))) no, tt)

module _ {M : Type 1} {𝓤 : Ura M} (𝓛 : Logic 𝓤) (at_mem : Memory → SProp 𝓤) (run : Routine
    → Fun 𝓤) (𝓣 : Tables 𝓤 𝓛.H) (κ : Lft) (q : Share) (b o : ℕ) (γ : GName) (d : Sl.Denot) where
  open 𝓛 use {A}

  abbrev self : MutBor Sl.Denot
  self = record { ref_ptr = (b, o); ghost_name = γ; now = d }

  abbrev bound : (walk_of 𝓛 F.ended stayed (F.clauses 𝓛 at_mem run)).Ghost
  bound = (((κ, tt), (q, tt), tt, (self, tt), (vptr b o ∷ [], tt)), tt)

  abbrev Post : Val → SProp 𝓤
  Post = (walk_of 𝓛 F.ended stayed (F.clauses 𝓛 at_mem run)).post bound

  -- the box, holding this
  abbrev boxed : Hd.Denot → D E
  boxed x = record { ptr = d.ptr; alloc = d.alloc; value = x }

  module _ (b' o' : ℕ) (hv : Val) where
    -- all of the seal but what its box holds
    abbrev Rest : Fml
    Rest =
        fsep (fsep (token E.al d.alloc (bare (τ E)) (block_ptr b' o')) (handle E d.alloc hv))
        (cell_at full_share Sl.mir (word E hv b' o' ∷ []) b o)

    back : d.ptr ≡ block_ptr b' o' → (w : Hd.Denot)
        → ent 𝓤 (sep 𝓤 (sem 𝓛 ((mem Hd).own_at w b' o')) (sem 𝓛 Rest)) (sem 𝓛 ((mem Sl).own_at (sealing d w) b o))
    unfolding part_of
    back e w =
        qed 𝓛 (‵ (part_at (Inside E) full_share w b' o') ∷ ‵ Rest ∷ []) ∵
        move ! (1 ∷ []) $ fsplit ! $ fsplit ! $ move ! (3 ∷ []) $ box_in E ! (boxed w) b' o' w e refl $
        use1 𝓛 (‵ (Sl.own_val (sealing d w) (word E hv b' o' ∷ []))) (id⊢ 𝓤 _) $ move ! (1 ∷ 0 ∷ []) $ fjoin ! $
        fpack ! (List Val) (λ us. fsep (cell_at full_share Sl.mir us b o) (Sl.own_val (sealing d w) us))
        (word E hv b' o' ∷ []) $ done !

    exits : (x : Hd.Denot) → d.value ≡ Some x → (γ' : GName)
        → ent 𝓤
        (sep 𝓤 (sem 𝓛 ((MutRef (named 0) κ Hd).own_val (record { ref_ptr = (b', o'); ghost_name = γ'; now = x })
        (vptr b' o' ∷ [])))
        (sep 𝓤 (A.lft κ q) (sem 𝓛 (follows Sl Hd γ γ' (sealing d))))) (Post (vptr b' o'))
    exits x held γ' =
        let lent : MutBor Hd.Denot = record { ref_ptr = (b', o'); ghost_name = γ'; now = x } in
        qed 𝓛 (‵ ((MutRef (named 0) κ Hd).own_val lent (vptr b' o' ∷ [])) ∷ ‵ (flft κ q)
        ∷ ‵ (follows Sl Hd γ γ' (sealing d)) ∷ []) ∵
        suffices ! _ (ends_at 𝓛 F.ended stayed (F.clauses 𝓛 at_mem run) bound (vptr b' o') lent (tt, tt) (tt, tt)) $
        nothing ! $ nothing ! $ fjoin ! $ join ! $ nothing ! $ move ! (2 ∷ 0 ∷ []) $ join ! $ join ! $ frame ! $
        says ! held $ done !

  -- by what the seal has: the box
  walk_at : (v : Option Hd.Denot) → d.value ≡ v → IsSome v
      → ent 𝓤 (on_entry 𝓛 F.signature (κ, tt) (q, tt) (self, tt) (vptr b o ∷ [], tt))
      (WpFn 𝓤 𝓛.H 𝓣.C 𝓣.Λ code.function (vptr b o ∷ []) Post)
  walk_at None e full = absurd (true≢false (sym full))
  walk_at (Some x) held full =
      qed 𝓛 ((‵ (flft κ q) ⊛ ‵ ftrue) ∷ ‵ (owns (MutRef (named 0) κ Sl ∷ []) (self, tt) (vptr b o ∷ [], tt)) ∷ []) ∵
      enter ! 𝓣.C 𝓣.Λ code.function (vptr b o ∷ []) _ $ alloc_all ! (λ ls. pass_all ! refl ((tt, tt), tt) $
      let En : Env 𝓤 𝓛.H = env code.function.locals ls in
      move ! (1 ∷ []) $ fsplit ! $ fsplit3 ! $ drop ! $ move ! (3 ∷ []) $ split ! $ move ! (2 ∷ 3 ∷ 0 ∷ []) $
      opens ! tt Sl {h = d} b o (λ vs. move ! (1 ∷ []) $
      rewrite ! 0 (λ (v : Option Hd.Denot). ‵ (Sl.own_val (record { ptr = d.ptr; alloc = d.alloc; value = v }) vs)) held refl $
      use1 𝓛 (‵ ((B E).own_val (boxed x) vs)) (id⊢ 𝓤 _) $
      box_out E ! (boxed x) vs (λ b' o' hv e ws fa.
      rewrite ! 3 (λ (us : List Val). ‵ (cell_at full_share Sl.mir us b o)) ws refl $
      -- [what the box holds; the token; the handle; the seal's words; the open borrow; obs; auth; true]
      first ! $ blocks ! $
      sets ! (of_opd ! (load ! (through ! refl (fld ! refl (stop !))) (look_in ! 3 (sub ! 0 refl (whole !))))) refl (tt, tt) $
      sets ! (of_opd ! (get ! refl)) refl (tt, tt) $
      sets_last ! (addr ! (through ! refl (stop !))) refl (tt, tt) $
      exec ! 𝓣.C 𝓣.Λ En rest (at_ret En Post) $
      sets ! (of_opd ! (get ! refl)) refl (tt, tt) $
      move ! (1 ∷ 2 ∷ []) $ fjoin ! $ move ! (0 ∷ 2 ∷ []) $ fjoin ! $ move ! (2 ∷ 3 ∷ 4 ∷ 1 ∷ 0 ∷ []) $ group ! 5 $
      use1 𝓛
      (later
      (some (λ (γ' : GName). raw (Part 𝓛 Sl Hd (sealing d) (named 0) κ q b o b' o' γ (sem 𝓛 (Rest b' o' hv))
      (back b' o' hv e) x γ'))))
      (lends_Part 𝓛 Sl Hd (sealing d) (named 0) κ q b o b' o' γ (sem 𝓛 (Rest b' o' hv)) (back b' o' hv e)
      (Sl.coded.code d) (Sl.coded.code d) x) $
      await ! tt $ pick ! (λ γ'.
      returns ! (look_at ! 0 refl) $ free_all ! refl $
      keep ! (0 ∷ []) $ by ! (exits b' o' hv x held γ')))))

  walk : ent 𝓤 (sep 𝓤 (on_entry 𝓛 F.signature (κ, tt) (q, tt) (self, tt) (vptr b o ∷ [], tt)) (fact 𝓤 (IsSome d.value)))
      (WpFn 𝓤 𝓛.H 𝓣.C 𝓣.Λ code.function (vptr b o ∷ []) Post)
  walk =
      qed 𝓛 (raw (on_entry 𝓛 F.signature (κ, tt) (q, tt) (self, tt) (vptr b o ∷ [], tt)) ∷ raw (fact 𝓤 (IsSome d.value)) ∷ []) ∵
      move ! (1 ∷ []) $ heard ! (IsSome d.value) (λ full. by ! (walk_at d.value refl full))

pub as_mut_spec : {M : Type 1} → stated.statement M
unfolding tables_of
as_mut_spec 𝓤 𝓛 𝓜 𝓡 wired =
    let 𝓣 : Tables 𝓤 𝓛.H = tables_of 𝓤 𝓛.H 𝓜 (tables 𝓤 𝓛.H 𝓜 𝓡 𝓡.env) in
    let held = F.clauses 𝓛 𝓜.mem 𝓡.returns in
    let wp = WpFn 𝓤 𝓛.H 𝓣.C 𝓣.Λ code.function in
    entered 𝓤 𝓛.H (triple_of 𝓛 F.signature (F.spec 𝓛 𝓜.mem 𝓡.returns)) 𝓣.C 𝓣.Λ #self code.function (code.unfolded 𝓤 𝓛.H 𝓜 𝓡 wired)
    (walk_Meets 𝓛 F.ended stayed (Goes-spent_ref 𝓛 1 (0 ∷ []) tt (plain (λ _. Sl)), tt) held wp
    (WpFn-mono 𝓤 𝓛.H 𝓛.laws 𝓣 code.function)
    (walked 𝓛 F.ended stayed held wp (λ κs. (mut_vals, tt)) (λ κs. (mut_Tells (named 0) κs.0 Sl, tt))
    (λ κs qs bounds a g are. walk 𝓛 𝓜.mem 𝓡.returns 𝓣 κs.0 qs.0 a.0.ref_ptr.0 a.0.ref_ptr.1 a.0.ghost_name a.0.now)))

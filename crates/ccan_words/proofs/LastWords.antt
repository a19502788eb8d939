-- The words at the end.
use Rattle.std.proofs.Common.{◌≡◌, ◌≢◌, ℕ, zero, suc, ◌+◌, ◌<◌, Bool, List, [], ◌∷◌, get_or}
use Rattle.std.proofs.Common.{Some, None, sym, refl, ap, ◌∙◌, subst, arith, lit<}
use mathlib.Core.Option.{some, some-injective, some-ne-none}
use lib.ListN.{get_elem?}
use Rattle.atomic_table.specs.Table.{State}
use Rattle.ccan_object.specs.declared.profile.Profile.{Profile}
use Rattle.ccan_object.specs.declared.record.Record.{Record}
use Rattle.ccan_object.specs.Profile.{Holds}
use Rattle.ccan_object.specs.Record.{IsRecord, zero_record}
use Rattle.ccan_object.specs.Packing.{packed}
use Rattle.ccan_ram.specs.declared.port.PortName.{PortName}
use Rattle.ccan_ram.specs.declared.port.PortName.TheVariants.{If1, If2, Bus}
use Rattle.ccan_ram.specs.declared.ending.Final.{Final}
use Rattle.ccan_ram.specs.History.{IsLegal, record_at, events_of, last_number, BeginsWith, History}
use Rattle.ccan_ram.specs.SharedRam.{Pass}
use Rattle.ccan_ram.specs.Ending.{IsPart, Ends, final_records}
use Rattle.ccan_words.specs.declared.view.PortView.{PortView}
use Rattle.ccan_words.specs.View.{View}
use Rattle.ccan_ram.specs.ByPort.{only, together}
use Rattle.ccan_words.specs.Layout.{Form, Lies, Shows, IsNumber}
use Rattle.ccan_words.specs.Rule.{Settles, Keeps}
use Rattle.ccan_words.specs.Plays.{Knows}
use Rattle.ccan_words.specs.Version.{IsSeatOf}
use Rattle.ccan_words.specs.Port.{IsPort}
use Rattle.ccan_words.specs.Ending.{AreWordsOf, LeaveRecords, ShowRecord}
use Rattle.ccan_ram.proofs.Records.{stands_records, record_is}
use Rattle.ccan_words.proofs.Histories.{latest}
use Rattle.ccan_words.proofs.Reading.{of_three, three_words}
use Rattle.ccan_words.proofs.Ports.{last_is_number}

pub at_read : (l : List ℕ) (i x : ℕ) → get_elem? l i ≡ some x → get_or l i 0 ≡ x
at_read [] i x e = absurd (some-ne-none x (sym e))
at_read (y ∷ l) zero x e = some-injective y x e
at_read (y ∷ l) (suc i) x e = at_read l i x e

-- ---- the record of an object

module _ {profile : Profile} {most : ℕ} {contends : ℕ → ℕ → Bool} (F : Form profile most contends) (lies : Lies F)
    (shows : Shows F)
    (ws : List ℕ) (k n : ℕ) (object : Holds profile k) (is : get_or ws (F.cell k) 0 ≡ n) where
  module _ (log : History) (t : Settles F ws log) where
    is_last : n ≡ last_number contends k log
    is_last = sym is ∙ t.heads k object

    pub end_number : n ≢ 0 → IsNumber most n
    end_number nz = subst (IsNumber most) (sym is_last) (last_is_number contends most k log t.sound.few (λ z. nz (is_last ∙ z)))

  pub end_none : n ≡ 0 → ShowRecord F ws k zero_record
  end_none z log t = sym ((latest contends k log).none (sym (is_last log t) ∙ z) k (lies.itself k))

  pub end_some : (first : ℕ) (three : List ℕ) (r : Record) → n ≢ 0 → first ≡ F.offset k → AreWordsOf F ws n first three
      → ((s : Record) → IsRecord s → packed s ≡ three → r ≡ s) → ShowRecord F ws k r
  end_some first three r nz first_is w unpacks log t =
      let s = (latest contends k log).some (λ z. nz (is_last log t ∙ z)) in
      let inside = shows.inside k object in
      let good = record_is k s.0 (stands_records log (last_number contends k log) s.0 t.sound.records s.1) in
      let word : (j m : ℕ) → j < 3 → F.offset k + j ≡ m → get_or (packed (record_at k s.0)) j 0 ≡ get_or ws (F.place n m) 0 =
      λ j m l e.
      sym (shows.value k j s.0 object s.2 l)
      ∙ (sym (t.versions (last_number contends k log) (F.offset k + j) s.0 s.1 (omega arith))
      ∙ (λ i. get_or ws (F.place (sym (is_last log t) i) (e i)) 0)) in
      unpacks (record_at k s.0) good
      (three_words (record_at k s.0) w.a w.b w.c
      (of_three (λ j. get_or (packed (record_at k s.0)) j 0 ≡ get_or (w.a ∷ w.b ∷ w.c ∷ []) j 0)
      (word 0 first (lit< tt) (omega arith) ∙ w.a_is)
      (word 1 (first + 1) (lit< tt) (omega arith) ∙ w.b_is)
      (word 2 (first + 2) (lit< tt) (omega arith) ∙ w.c_is)) ∙ sym w.all)
      ∙ s.3 k (lies.itself k)

-- ---- three ports in one seat, at the end

name_is : {profile : Profile} (p n : PortName) (used quota : ℕ) (m : Knows) (i : IsPort m profile p used quota) → p ≡ n
    → IsSeatOf n i.held m
name_is p n used quota m i e = i.view ∙ (λ j. (only (e j) (Some i.held), []))

abbrev three_held : PortView → PortView → PortView → View
three_held a b c = record { if1 = Some a; if2 = Some b; bus = Some c }

pub three : (ma mb mc m1 m2 : Knows) (a b c : PortView) → IsSeatOf If1 a ma → IsSeatOf If2 b mb → IsSeatOf Bus c mc
    → m1 ≡ (together ma.0 mb.0, ma.1) → m2 ≡ (together m1.0 mc.0, m1.1) → m2.0 ≡ three_held a b c
three ma mb mc m1 m2 a b c va vb vc e f =
    let first : m1.0 ≡ record { if1 = Some a; if2 = Some b; bus = None } =
    ap (λ (m : Knows). m.0) e ∙ (λ i. together (va i).0 (vb i).0) in
    ap (λ (m : Knows). m.0) f ∙ (λ i. together (first i) (vc i).0)

pub settled : {profile : Profile} {most : ℕ} {contends : ℕ → ℕ → Bool} (F : Form profile most contends)
    (s : State (Unit {0}) View)
    (r : Keeps F s)
    → Settles F s.words r.log
settled F s r = record {
  sound = record {
    legal = r.sound.legal;
    records = r.sound.records;
    few = λ q. (let a = r.sound.few q in let t = r.top in omega arith);
  };
  wide = r.wide;
  heads = r.heads;
  versions = r.versions;
}

-- the port of this name has seen this
pub record HasSeen (p : PortName) (x : PortView) (a : Pass) : Type 0 where
  pub port_is : a.port ≡ p
  pub seen_is : a.seen ≡ x.seen

part_at : (p : PortName) (x : PortView) (a : Pass) (log : History) → HasSeen p x a → BeginsWith log x.seen
    → events_of p log ≡ events_of p x.seen
    → IsPart a log
part_at p x a log is begins own = record {
  begins = subst (BeginsWith log) (sym is.seen_is) begins;
  own = ap (λ (q : PortName). events_of q log) is.port_is ∙ (own ∙ (λ i. events_of (sym is.port_is i) (sym is.seen_is i)));
}

pub ended : {profile : Profile} {most : ℕ} {contends : ℕ → ℕ → Bool} (F : Form profile most contends) (s : State (Unit {0}) View)
    (r : Keeps F s)
    (ws : List ℕ) (id : ℕ) (v : View) (a b c : Pass) (xa xb xc : PortView) (final : Final) → get_elem? s.views id ≡ some v
    → s.words ≡ ws
    → v ≡ three_held xa xb xc → HasSeen If1 xa a → HasSeen If2 xb b → HasSeen Bus xc c → final.profile ≡ profile
    → final.profile ≡ a.memory.profile
    → LeaveRecords F ws final.records → Ends a b c final
ended {profile} F s r ws id v a b c xa xb xc final at same is ha hb hc whole own value =
    let here = subst (λ (u : View). get_elem? s.views id ≡ some u) is at in
    let w : View = three_held xa xb xc in
    let fa = r.seats id If1 w xa here refl in
    let fb = r.seats id If2 w xb here refl in
    let fc = r.seats id Bus w xc here refl in
    let left : final.records ≡ final_records profile r.log =
    value r.log (subst (λ (l : List ℕ). Settles F l r.log) same (settled F s r)) in
    record {
      profile_is = own;
      history = r.log;
      legal = subst (λ (q : Profile). IsLegal q r.log) (sym whole) r.sound.legal;
      part_if1 = part_at If1 xa a r.log ha fa.part fa.own;
      part_if2 = part_at If2 xb b r.log hb fb.part fb.own;
      part_bus = part_at Bus xc c r.log hc fc.part fc.own;
      left = left ∙ ap (λ (q : Profile). final_records q r.log) (sym whole);
    }

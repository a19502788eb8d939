-- A picture that nobody disturbed is one of a one-thread memory, whoever else uses the memory.
use Rattle.std.proofs.Common.{ℕ, zero, suc, ◌≡◌, List, [], ◌++◌, sym, ap, subst, ◌∙◌, arith}
use Rattle.std.proofs.lemmas.List.{append-nil}
use Rattle.ccan_object.specs.Profile.{objects_in}
use Rattle.ccan_ram.specs.declared.event.Event.{Event}
use Rattle.ccan_ram.specs.History.{NobodyElse, changes_by}
use Rattle.ccan_ram.specs.Terms.{Terms}
use Rattle.ccan_ram.specs.HandlerRegisters.{registers_at}
use Rattle.ccan_ram.specs.Laws.{as_one_thread, PicturesMakeNoChange, UndisturbedPicturesAreOneThread}
use Rattle.ccan_ram.specs.Picture.{pictured, Turn, LostTurns, IsPicture}
use Rattle.ccan_ram.proofs.Histories.{changes_by-append, changes_by-foreign, undisturbed_parts, none_undisturbed}
use Rattle.ccan_ram.proofs.Pictures.{pictured_changes, plain_picture}

module _ (terms : Terms) where
  quiet_turn : (seen added : List Event) → NobodyElse terms.port added → (t : Turn terms seen added)
      → (t.before ≡ []) × (added ≡ pictured terms.port (objects_in terms.profile) seen)
  quiet_turn seen added alone t =
      let shots = pictured terms.port (objects_in terms.profile) (t.before ++ seen) in
      let outer = undisturbed_parts terms.port t.after (shots ++ t.before)
      (subst (λ (es : List Event). NobodyElse terms.port es) t.whole alone) in
      let inner = undisturbed_parts terms.port shots t.before outer.1 in
      let after = none_undisturbed terms.port t.after outer.0 t.foreign_after.not_own in
      let before = none_undisturbed terms.port t.before inner.1 t.foreign_before.not_own in (
        before,
        t.whole
            ∙ ((λ i. after i ++ (pictured terms.port (objects_in terms.profile) (before i ++ seen) ++ before i)) ∙ append-nil _),
      )

  quiet_lost : (n : ℕ) (seen added : List Event) → NobodyElse terms.port added → LostTurns terms n seen added → added ≡ []
  quiet_lost zero seen added alone none = none
  quiet_lost (suc n) seen added alone (last, earlier, whole, lost, rest) =
      let parts = undisturbed_parts terms.port last earlier (subst (λ (es : List Event). NobodyElse terms.port es) whole alone) in
      let is = (quiet_turn (earlier ++ seen) last parts.0 lost.turn).1 in
      let same : changes_by lost.other (last ++ (earlier ++ seen)) ≡ changes_by lost.other (earlier ++ seen) =
      ap (λ (es : List Event). changes_by lost.other (es ++ (earlier ++ seen))) is
      ∙ pictured_changes terms.port lost.other (objects_in terms.profile) (earlier ++ seen) (earlier ++ seen) in
      let less = lost.changed in
      absurd (omega arith)

pub pictures_undisturbed : UndisturbedPicturesAreOneThread
pictures_undisturbed terms shown seen added alone p =
    let parts =
    undisturbed_parts terms.port p.last p.lost (subst (λ (es : List Event). NobodyElse terms.port es) p.whole alone) in
    let none = quiet_lost terms p.times seen p.lost parts.1 p.lose in
    let turn = quiet_turn terms (p.lost ++ seen) p.last parts.0 p.turn in
    let all : added ≡ pictured terms.port (objects_in terms.profile) seen =
    p.whole
    ∙ (ap (λ (es : List Event). p.last ++ es) none
    ∙ (append-nil p.last
    ∙ (turn.1 ∙ ap (λ (es : List Event). pictured terms.port (objects_in terms.profile) (es ++ seen)) none))) in
    let here : shown ≡ registers_at terms.profile seen =
    p.shows ∙ (λ i. registers_at terms.profile (turn.0 i ++ (none i ++ seen))) in
    subst (λ (es : List Event). IsPicture (as_one_thread terms) shown seen es) (sym all)
    (plain_picture (as_one_thread terms) shown seen here)

module _ (terms : Terms) where
  turn_changes : (seen added : List Event) → Turn terms seen added → changes_by terms.port added ≡ 0
  turn_changes seen added t =
      let port = terms.port in
      let place = t.before ++ seen in
      let shots = pictured port (objects_in terms.profile) place in
      let a = ap (changes_by port) t.whole in
      let b = changes_by-append port t.after (shots ++ t.before) in
      let c = changes_by-foreign port t.after t.foreign_after.not_own in
      let d = pictured_changes port port (objects_in terms.profile) place t.before in
      let e = changes_by-foreign port t.before t.foreign_before.not_own in
      omega arith

  lost_changes : (n : ℕ) (seen added : List Event) → LostTurns terms n seen added → changes_by terms.port added ≡ 0
  lost_changes zero seen added none = ap (changes_by terms.port) none
  lost_changes (suc n) seen added (last, earlier, whole, lost, rest) =
      let a = ap (changes_by terms.port) whole in
      let b = changes_by-append terms.port last earlier in
      let c = turn_changes (earlier ++ seen) last lost.turn in
      let d = lost_changes n seen earlier rest in
      omega arith

pub pictures_change_nothing : PicturesMakeNoChange
pictures_change_nothing terms shown seen added p =
    let a = ap (changes_by terms.port) p.whole in
    let b = changes_by-append terms.port p.last p.lost in
    let c = turn_changes terms (p.lost ++ seen) p.last p.turn in
    let d = lost_changes terms p.times seen p.lost p.lose in
    omega arith

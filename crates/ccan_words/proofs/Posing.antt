-- Loads that keep a number, and a load that adds looks at all objects, keep the rule.
use Rattle.std.proofs.Common.{◌≡◌, ℕ, Bool, List, ◌++◌, get_or, sym}
use Rattle.std.proofs.Common.{refl, ◌∙◌, subst, Some}
use lib.Seq.{set-get_or}
use Rattle.atomic_table.specs.Table.{keeps, Allows}
use Rattle.ccan_object.specs.declared.profile.Profile.{Profile}
use Rattle.ccan_object.specs.Profile.{Holds, objects_in}
use Rattle.ccan_ram.specs.declared.port.PortName.{PortName}
use Rattle.ccan_ram.specs.History.{last_number, History}
use Rattle.ccan_words.specs.declared.view.PortView.{PortView}
use Rattle.ccan_ram.specs.ByPort.{holding}
use Rattle.ccan_words.specs.View.{see_all, View}
use Rattle.ccan_words.specs.Layout.{Form, Lies, IsNumber}
use Rattle.ccan_ram.specs.Sound.{IsSound}
use Rattle.ccan_words.specs.Rule.{Keeps}
use Rattle.ccan_words.specs.Plays.{Knows}
use Rattle.ccan_ram.specs.Picture.{pictured}
use Rattle.ccan_ram.proofs.Pictures.{pictured_changes, pictured_last}
use Rattle.ccan_words.specs.Picture.{CountsOn, Poses}
use Rattle.ccan_ram.proofs.Histories.{begins_again}
use Rattle.ccan_words.proofs.Histories.{latest}
use Rattle.ccan_ram.proofs.Holding.{not_held}
use Rattle.ccan_words.proofs.SeatMoves.{with_view, sound_for}
use Rattle.ccan_words.proofs.SeatMoves.{on_for, standing, saw}
use Rattle.ccan_ram.proofs.Sounding.{pictured_stands, pictured_others, pictured_sound}

module _ {profile : Profile} {most : ℕ} {contends : ℕ → ℕ → Bool} (F : Form profile most contends) (lies : Lies F) where
  pub counts_on : (slots id : ℕ) (me : Knows) (word : ℕ) (k : ℕ) → Holds profile k → word ≡ F.cell k
      → Allows (Keeps F) slots id me word (λ n. n) (CountsOn F k me)
  counts_on slots id me word k object is s r _ at _ =
      let v : View = me.0 in
      let found_last : get_or s.words word 0 ≡ last_number contends k r.log =
      subst (λ (z : ℕ). get_or s.words z 0 ≡ last_number contends k r.log) (sym is) (r.heads k object) in (
        see_all r.log v,
        keeps,
        tt,
        subst (λ (ws : List ℕ). Keeps F (with_view s ws id (see_all r.log v))) (sym (set-get_or s.words word 0))
            (saw F s r id v r.log at r.sound (begins_again r.log) (λ q. refl) (λ w. refl) (λ n h t. t) (λ q none. refl)),
        record {
          log = r.log;
          view = refl;
          goes_on = λ p y h. on_for F s r id p v y at h;
          found_last = found_last;
          number = λ nz. let l = latest contends k r.log in
              let t = l.some (λ z. nz (found_last ∙ z)) in subst (IsNumber most) (sym found_last)
              (standing F s r (last_number contends k r.log) t.0 t.1);
        },
      )

  pub poses : (slots id : ℕ) (me : Knows) (word : ℕ) (p : PortName) (x : PortView) → holding p me.0 ≡ Some x
      → Allows (Keeps F) slots id me word (λ n. n) (λ _ n. Poses F p me n)
  poses slots id me word p x held s r _ at _ =
      let v : View = me.0 in
      let shots : History = pictured p (objects_in profile) r.log in
      let log' : History = shots ++ r.log in
      let sound : IsSound profile r.quota log' = pictured_sound profile r.quota p r.log r.sound in (
        see_all log' v,
        keeps,
        tt,
        subst (λ (ws : List ℕ). Keeps F (with_view s ws id (see_all log' v))) (sym (set-get_or s.words word 0))
            (saw F s r id v log' at sound (shots, refl)
            (λ q. pictured_changes p q (objects_in profile) r.log r.log)
            (λ w. pictured_last contends p (objects_in profile) w r.log r.log)
            (λ n h t. pictured_stands p (objects_in profile) r.log r.log n h t)
            (λ q none. pictured_others p q (objects_in profile) r.log r.log (not_held p q v x held none))),
        record {
          log = r.log;
          view = refl;
          goes_on = λ y h. (on_for F s r id p v y at h, sound_for r.quota y.quota log' (r.one_quota id p v y at h) sound);
        },
      )

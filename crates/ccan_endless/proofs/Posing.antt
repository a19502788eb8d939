-- A load that adds looks at all objects keeps the rule.
use Rattle.std.proofs.Common.{◌≡◌, ℕ, List, ◌++◌, refl, inl, Some}
use Rattle.ccan_object.specs.declared.profile.Profile.{Profile}
use Rattle.ccan_object.specs.Profile.{objects_in}
use Rattle.ccan_ram.specs.declared.port.PortName.{PortName}
use Rattle.ccan_ram.specs.History.{History}
use Rattle.ccan_ram.specs.Picture.{pictured}
use Rattle.ccan_ram.proofs.Pictures.{pictured_last, pictured_record}
use Rattle.ccan_endless.specs.declared.view.PortView.{PortView}
use Rattle.ccan_ram.specs.ByPort.{holding}
use Rattle.ccan_endless.specs.View.{see_all, View}
use Rattle.ccan_endless.specs.Layout.{same_object}
use Rattle.ccan_ram.specs.Sound.{IsSound}
use Rattle.ccan_endless.specs.Plays.{Knows}
use Rattle.ccan_endless.specs.Picture.{Poses}
use Rattle.ccan_ram.proofs.Numbers.{stands_more}
use Rattle.ccan_ram.proofs.Holding.{not_held}
use Rattle.ccan_endless.proofs.SeatMoves.{sound_for, Still, on_for, saw}
use Rattle.ccan_endless.proofs.Moves.{Moves, saw_all}
use Rattle.ccan_endless.proofs.Loads.{loaded}
use Rattle.ccan_ram.proofs.Sounding.{pictured_others, pictured_sound}

pictured_still : (profile : Profile) (ws : List ℕ) (p : PortName) (h : History)
    → Still profile ws ws h (pictured p (objects_in profile) h ++ h)
pictured_still profile ws p h = record {
  stand = λ n t. (t.0, stands_more (pictured p (objects_in profile) h) h n t.0 t.1);
  last = λ k. pictured_last same_object p (objects_in profile) k h h;
  object = λ k. pictured_record p (objects_in profile) k h h;
  cells = λ k held. refl;
}

-- ---- the step

module _ (profile : Profile) where
  pub poses : (id : ℕ) (me : Knows) (word : ℕ) (p : PortName) (x : PortView) → holding p me.0 ≡ Some x
      → Moves profile id me word (λ n. n) (λ _ n. Poses profile p me n)
  poses id me word p x held s r at =
      let v : View = me.0 in
      let shots : History = pictured p (objects_in profile) r.log in
      let log' : History = shots ++ r.log in
      let sound : IsSound profile r.quota log' = pictured_sound profile r.quota p r.log r.sound in record {
        view = see_all log' v;
        added = shots;
        seen = inl (saw_all v log');
        keeps = loaded profile s log' id word (see_all log' v)
            (saw profile s r id v log' at sound (shots, refl) (pictured_still profile s.words p r.log)
            (λ q none. pictured_others p q (objects_in profile) r.log r.log (not_held p q v x held none)));
        told = record {
          log = r.log;
          view = refl;
          goes_on = λ y h.
              (on_for profile s r id p v y at h, sound_for r.quota y.quota log' (r.one_quota id p v y at h) sound);
        };
      }

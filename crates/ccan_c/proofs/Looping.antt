-- Loop back mode: test mode, and then LBack.
use Rattle.std.proofs.Common.{ℕ, true, Some, Ok, inr, refl, subst, ◌∙◌}
use Rattle.std.specs.Prelude.{Result}
use Rattle.ccan_ram.specs.Terms.{Terms}
use Rattle.ccan_endless.specs.Chip.{ChipHistory}
use Rattle.ccan_registers.specs.declared.access_error.AccessError.{AccessError}
use Rattle.ccan_registers.specs.ChipSteps.{terms_at}
use Rattle.ccan_registers.specs.ChipSteps.{Makes}
use Rattle.ccan_registers.proofs.Going.{goes_then, weaker}
use Rattle.ccan_c.specs.declared.held.Held.{Held}
use Rattle.ccan_c.specs.Bus.{looping, testing}
use Rattle.ccan_c.specs.BusCall.{LoopsBack, MakesChange}
use Rattle.ccan_c.specs.Codes.{done}
use Rattle.ccan_c.specs.Held.{IsKept, port_of}
use Rattle.ccan_c.specs.HostCall.{code_of_access}
use Rattle.ccan_c.specs.Steps.{Steps}

kept_through : (old mid new : Held) → IsKept old mid → IsKept mid new → IsKept old new
kept_through old mid new f s = record {
  works = record {
    tries = s.works.tries ∙ f.works.tries;
    nodes = s.works.nodes ∙ f.works.nodes;
    map = s.works.map ∙ f.works.map;
  };
  own = s.own ∙ f.own;
  bus = s.bus ∙ f.bus;
  station = s.station ∙ f.station;
}

pub loops : (old mid new : Held) (unit : Unit {0}) (told : Result (Unit {0}) AccessError)
    → Steps (λ terms seen added. Makes terms (testing true) old.chip.settings.tries seen added (Ok unit)) old mid
    → Steps (λ terms seen added. Makes terms looping mid.chip.settings.tries seen added told) mid new
    → Steps (λ terms seen added. LoopsBack terms old.chip.settings.tries true seen added (code_of_access (Some told))) old new
loops old mid new unit told f s =
    let first : Terms → ChipHistory → ChipHistory → Type 0 = λ terms seen added.
    MakesChange terms (testing true) old.chip.settings.tries seen added done in
    let second : Terms → ChipHistory → ChipHistory → Type 0 = λ terms seen added.
    MakesChange terms looping old.chip.settings.tries seen added (code_of_access (Some told)) in
    record {
      kept = kept_through old mid new f.kept s.kept;
      goes =
          weaker (port_of old) (port_of new) _ _
          (goes_then (port_of old) (port_of mid) (port_of new) first second
          (weaker (port_of old) (port_of mid) _ _ f.goes (λ seen added h. (Ok unit, h, refl)))
          (weaker (port_of mid) (port_of new) _ _ s.goes (λ seen added h. (
            told,
            subst (λ (n : ℕ). Makes (terms_at (port_of mid)) looping n seen added told) f.kept.works.tries h,
            refl,
          ))))
          (λ seen added h. inr h);
    }

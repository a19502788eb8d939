use Rattle.std.proofs.Common.{ap, sym, subst, ◌∙◌}
use Rattle.ccan_bus.specs.Bus.{LedTo}
use Rattle.ccan_bus.specs.Past.{opened_at_once}
use Rattle.ccan_chip.specs.declared.port_settings.PortSettings.{PortSettings}
use Rattle.ccan_endless.specs.ChipPort.{ChipPass}
use Rattle.ccan_registers.specs.ChipSteps.{SeesChip}
use Rattle.ccan_c.specs.declared.held.Held.{Held}
use Rattle.ccan_c.specs.Held.{map_of, port_of, station_of, tries_of}
use Rattle.ccan_c.proofs.opening.hold.Goals as goal

pub returns-in-Ok-new : goal.returns-in-Ok-new
returns-in-Ok-new c =
    let same = c.in-Ok-new.ensures.ok in (
      c.in-Ok-new.held.value,
      c.open.ensures,
      record {
        port_is = ap (λ (h : Held). port_of h) same ∙ c.new.ensures.port;
        sees =
            subst (λ (h : Held). SeesChip (port_of h)) (sym same)
            (subst (λ (port : ChipPass). SeesChip port) (sym c.new.ensures.port)
            (record { one = c.sees_one_history.ensures.one; sees = c.sees_one_history.ensures.sees }));
        tries_are = ap (λ (h : Held). tries_of h) same ∙ ap (λ (s : PortSettings). s.tries) c.new.ensures.settings;
        nodes_are = ap (λ (h : Held). h.nodes) same;
        map_is = ap (λ (h : Held). map_of h) same ∙ ap (λ (s : PortSettings). s.map) c.new.ensures.settings;
        own_is = ap (λ (h : Held). h.own) same;
        bus_is = subst (λ (h : Held). LedTo (opened_at_once c.args.begin.now.settings.nodes) h.bus.bus) (sym same)
            c.new-2.ensures.opened;
        station_is =
            ap (λ (h : Held). station_of h) same
            ∙ (λ i. record { loaded = c.new-3.ensures.empty i; under_way = c.new-3.ensures.rests i });
      },
    )

-- The three handles of a chip that opens.
use Rattle.std.proofs.Common.{◌≡◌, ℕ, Some, None, ap, subst, ◌∙◌}
use Rattle.std.specs.Prelude.{Option, IfSome}
use Rattle.ccan_object.specs.declared.profile.Profile.{Profile}
use Rattle.ccan_ram.specs.declared.port.PortName.TheVariants.{If1, If2, Bus}
use Rattle.ccan_ram.specs.SharedRam.{Memory, IsMemoryOf}
use Rattle.ccan_endless.specs.Layout.{most}
use Rattle.ccan_endless.specs.ChipPort.{ChipPass}
use Rattle.ccan_chip.specs.declared.map.Map.{Map}
use Rattle.ccan_registers.specs.declared.interface_set.InterfaceSet.{InterfaceSet}
use Rattle.ccan_c.specs.declared.begin.Begin.{Begin}
use Rattle.ccan_c.specs.declared.chip.Chip.{Chip}
use Rattle.ccan_c.specs.declared.handle.Handle.{Handle}
use Rattle.ccan_c.specs.declared.held.Held.{Held}
use Rattle.ccan_c.specs.Begin.{Begins}
use Rattle.ccan_c.specs.Chip.{AllOpen, Opens}
use Rattle.ccan_c.specs.Held.{IsHolding, IsOpenAs}
use Rattle.ccan_c.specs.Opening.{Opening, begins_as}

-- a handle by another name of its port and of its registers
pub holding_as : (a b : ChipPass) (own left : InterfaceSet) (nodes tries : ℕ) (map : Map) (held : Held) → a ≡ b → own ≡ left
    → IsHolding a nodes tries map own held → IsHolding b nodes tries map left held
holding_as a b own left nodes tries map held port is h =
    subst (λ (u : ChipPass × InterfaceSet). IsHolding u.0 nodes tries map u.1 held) (λ i. (port i, is i)) h

-- handles, each in its place
pub all_open : (chip : Chip) (o p q : Handle) (what when whom : Held → Type 0)
    → chip.if1.handle ≡ o → chip.if2.handle ≡ p → chip.bus.handle ≡ q
    → IsOpenAs what o.seal.value → IsOpenAs when p.seal.value → IsOpenAs whom q.seal.value
    → AllOpen chip (λ h k l. what h × when k × whom l)
all_open chip o p q what when whom e f g (h, is, x) (k, is', y) (l, is'', z) = (
  h,
  k,
  l,
  ap (λ (handle : Handle). handle.seal.value) e ∙ is,
  ap (λ (handle : Handle). handle.seal.value) f ∙ is',
  ap (λ (handle : Handle). handle.seal.value) g ∙ is'',
  (x, y, z),
)

-- what each handle begins with makes a chip that opens so
pub opens_as : (o : Option Chip) (profile : Profile) (opening : Opening) (begin : Begin) (memory : Memory) (a b d : ChipPass)
    → IsMemoryOf profile most memory → begin.own ≡ opening.own
    → a ≡ begins_as memory If1 opening → b ≡ begins_as memory If2 opening → d ≡ begins_as memory Bus opening
    → IfSome o (λ chip. AllOpen chip (λ h k l. Begins a begin h × Begins b begin k × Begins d begin l))
    → IfSome o (Opens profile (record {
      nodes = begin.settings.nodes;
      tries = begin.settings.tries;
      map = begin.map;
      opening = opening;
    }))
opens_as None profile opening begin memory a b d is own e f g all = tt
opens_as (Some chip) profile opening begin memory a b d is own e f g (h, k, l, at, at', at'', (x, y, z)) = record {
  memory = memory;
  memory_is = is;
  handles = (
    h,
    k,
    l,
    at,
    at',
    at'',
    (
      holding_as a _ begin.own _ begin.settings.nodes begin.settings.tries begin.map h e own x,
      holding_as b _ begin.own _ begin.settings.nodes begin.settings.tries begin.map k f own y,
      holding_as d _ begin.own _ begin.settings.nodes begin.settings.tries begin.map l g own z,
    ),
  );
}

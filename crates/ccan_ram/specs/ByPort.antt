-- What there is for each port, or none. Source: this project's own.
use Rattle.std.specs.Prelude.{Option, Some, None}
use Rattle.ccan_ram.specs.declared.port.PortName.{PortName}
use Rattle.ccan_ram.specs.declared.port.PortName.TheVariants.{If1, If2, Bus}
use Rattle.ccan_ram.specs.declared.by_port.ByPort.{ByPort}

module _ {H : Type 0} where
  -- what there is for a port
  abbrev pub holding : PortName → ByPort H → Option H
  holding If1 v = v.if1
  holding If2 v = v.if2
  holding Bus v = v.bus

  -- the same with another for a port
  abbrev pub with_held : PortName → Option H → ByPort H → ByPort H
  with_held If1 o v = record { if1 = o; if2 = v.if2; bus = v.bus }
  with_held If2 o v = record { if1 = v.if1; if2 = o; bus = v.bus }
  with_held Bus o v = record { if1 = v.if1; if2 = v.if2; bus = o }

  -- none for any port
  abbrev pub nothing : ByPort H
  nothing = record { if1 = None; if2 = None; bus = None }

  -- for one port alone, or none
  abbrev pub only : PortName → Option H → ByPort H
  only p o = with_held p o nothing

  -- a change of what there is
  abbrev pub held_as : (H → H) → Option H → Option H
  held_as f None = None
  held_as f (Some x) = Some (f x)

  -- and of all
  abbrev pub each_as : (H → H) → ByPort H → ByPort H
  each_as f v = record { if1 = held_as f v.if1; if2 = held_as f v.if2; bus = held_as f v.bus }

  abbrev pub or_held : Option H → Option H → Option H
  or_held None o = o
  or_held (Some x) o = Some x

  -- what there is in the first, and else in the second
  abbrev pub together : ByPort H → ByPort H → ByPort H
  together v w = record { if1 = or_held v.if1 w.if1; if2 = or_held v.if2 w.if2; bus = or_held v.bus w.bus }

-- What the handles of one chip have in common. Source: this project's own.
use Rattle.std.specs.Prelude.{◌≡◌, Option, Some}
use Rattle.ccan_ram.specs.declared.port.PortName.{PortName}
use Rattle.ccan_c.specs.declared.held.Held.{Held}
use Rattle.ccan_c.specs.Held.{pass_of}

-- if both are open, they are ports of one memory
abbrev pub AreOneMemory : Option Held → Option Held → Type 0
AreOneMemory o p = (h k : Held) → o ≡ Some h → p ≡ Some k → (pass_of h).memory ≡ (pass_of k).memory

-- if it is open, it is the port of this name
abbrev pub IsNamed : PortName → Option Held → Type 0
IsNamed port o = (h : Held) → o ≡ Some h → (pass_of h).port ≡ port

-- How the three states of fault confinement are printed: this project's own.
use Rattle.std.specs.Prelude.{ℕ, List, codes}
use Rattle.ccan_confine.specs.declared.node_state.NodeState.{NodeState}
use Rattle.ccan_confine.specs.declared.node_state.NodeState.TheVariants.{Active, Passive, Off}

abbrev pub state_text : NodeState → List ℕ
state_text Active = codes "active"
state_text Passive = codes "passive"
state_text Off = codes "off"

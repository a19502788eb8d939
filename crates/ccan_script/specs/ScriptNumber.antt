-- The numbers of a script itself: the names of their members, their ranges, and what they are without a member. Source: this
-- project's own.
use Rattle.std.specs.Prelude.{ℕ, List, codes}
use Rattle.ccan_ram.specs.Port.{most_quota}
use Rattle.ccan_ram.specs.Tries.{most_tries}
use Rattle.ccan_line.specs.Limits.{default_nodes, default_profile, default_quota, default_tries, most_nodes, most_profile}
use Rattle.ccan_script.specs.declared.script_number.ScriptNumber.{ScriptNumber}
use Rattle.ccan_script.specs.declared.script_number.ScriptNumber.TheVariants.{Profile, Quota, Tries, Nodes}

abbrev pub number_text : ScriptNumber → List ℕ
number_text Profile = codes "profile"
number_text Quota = codes "quota"
number_text Tries = codes "tries"
number_text Nodes = codes "nodes"

abbrev pub least_of : ScriptNumber → ℕ
least_of Profile = 1
least_of Quota = 1
least_of Tries = 1
least_of Nodes = 0

abbrev pub greatest_of : ScriptNumber → ℕ
greatest_of Profile = most_profile
greatest_of Quota = most_quota
greatest_of Tries = most_tries
greatest_of Nodes = most_nodes

abbrev pub default_of : ScriptNumber → ℕ
default_of Profile = default_profile
default_of Quota = default_quota
default_of Tries = default_tries
default_of Nodes = default_nodes

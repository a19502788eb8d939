use Rattle.std.proofs.Common.{rules}
use Rattle.ccan_confine.proofs.Calls.{listed_ignored, listed_counted, listed_back, adds_result}
use Rattle.ccan_confine.proofs.counters.Counters.recessive_groups.Goals as goal

pub returns-then-not-recovering-clause-listed : goal.returns-then-not-recovering-clause-listed
returns-then-not-recovering-clause-listed c = listed_ignored c.args.groups c.args.self (search rules)

pub returns-then-groups-ge-GROUPS_TO_RETURN-clause-listed : goal.returns-then-groups-ge-GROUPS_TO_RETURN-clause-listed
returns-then-groups-ge-GROUPS_TO_RETURN-clause-listed c =
    adds_result _ _ _ _ (search rules) (listed_back c.args.groups c.args.self (search rules) (search rules))

pub returns-else-groups-ge-GROUPS_TO_RETURN-clause-listed : goal.returns-else-groups-ge-GROUPS_TO_RETURN-clause-listed
returns-else-groups-ge-GROUPS_TO_RETURN-clause-listed c =
    adds_result _ _ _ _ (search rules) (listed_counted c.args.groups c.args.self (search rules) (search rules))

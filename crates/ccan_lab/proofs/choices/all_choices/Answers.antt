use Rattle.std.proofs.Common.{[], List, ℕ, length, subst, rules}
use Rattle.ccan_outcomes.specs.RaceScript.{fields_of}
use Rattle.ccan_object.specs.declared.record.Record.{Record}
use Rattle.ccan_object.specs.Profile.{objects_in}
use Rattle.ccan_ram.specs.declared.port.PortName.TheVariants.{If1, If2, Bus}
use Rattle.ccan_lab.specs.Choices.{HasObjects, HasPort}
use Rattle.ccan_lab.proofs.Chosen.{as_many_places, in_four}
use Rattle.ccan_lab.proofs.choices.all_choices.Goals as goal

pub returns-clause-places : goal.returns-clause-places
returns-clause-places g c =
    let script = fields_of c.args.race.now in
    let IsOutcome = g.T.ByLine.is_outcome c.args.outcomes.now in
    let memories = c.in_ok-memories.memories.items in
    let one : HasPort IsOutcome If1 (length script.if1) [] c.add_port.new.all.items =
    subst (λ (l : List (List (List ℕ))). HasPort IsOutcome If1 (length script.if1) l c.add_port.new.all.items)
    c.new-all.ensures.items (subst (λ (n : ℕ). HasPort IsOutcome If1 n c.new-all.result.items c.add_port.new.all.items)
    (search (rules, c.len.ensures)) c.in_ok-add_port.ensures) in
    let two : HasPort IsOutcome If2 (length script.if2) c.add_port.new.all.items c.add_port-2.new.all.items =
    subst (λ (n : ℕ). HasPort IsOutcome If2 n c.add_port.new.all.items c.add_port-2.new.all.items) (search (rules, c.len-2.ensures))
    c.in_ok-add_port-2.ensures in
    let three : HasPort IsOutcome Bus (length script.bus) c.add_port-2.new.all.items c.add_port-3.new.all.items =
    subst (λ (n : ℕ). HasPort IsOutcome Bus n c.add_port-2.new.all.items c.add_port-3.new.all.items)
    (search (rules, c.len-3.ensures))
    c.in_ok-add_port-3.ensures in
    let four : HasObjects memories (objects_in script.profile) c.add_port-3.new.all.items c.add_objects.new.all.items =
    subst (λ (m : List (List Record)). HasObjects m (objects_in script.profile) c.add_port-3.new.all.items
    c.add_objects.new.all.items) c.as_slice.ensures.value c.in_ok-add_objects.ensures in
    as_many_places script IsOutcome c.requires.complete memories c.in_ok-memories.ensures.memories c.add_port.new.all.items
    c.add_port-2.new.all.items c.add_port-3.new.all.items c.add_objects.new.all.items one two three four

pub returns-clause-lines : goal.returns-clause-lines
returns-clause-lines g c =
    let script = fields_of c.args.race.now in
    let IsOutcome = g.T.ByLine.is_outcome c.args.outcomes.now in
    let memories = c.in_ok-memories.memories.items in
    let one : HasPort IsOutcome If1 (length script.if1) [] c.add_port.new.all.items =
    subst (λ (l : List (List (List ℕ))). HasPort IsOutcome If1 (length script.if1) l c.add_port.new.all.items)
    c.new-all.ensures.items (subst (λ (n : ℕ). HasPort IsOutcome If1 n c.new-all.result.items c.add_port.new.all.items)
    (search (rules, c.len.ensures)) c.in_ok-add_port.ensures) in
    let two : HasPort IsOutcome If2 (length script.if2) c.add_port.new.all.items c.add_port-2.new.all.items =
    subst (λ (n : ℕ). HasPort IsOutcome If2 n c.add_port.new.all.items c.add_port-2.new.all.items) (search (rules, c.len-2.ensures))
    c.in_ok-add_port-2.ensures in
    let three : HasPort IsOutcome Bus (length script.bus) c.add_port-2.new.all.items c.add_port-3.new.all.items =
    subst (λ (n : ℕ). HasPort IsOutcome Bus n c.add_port-2.new.all.items c.add_port-3.new.all.items)
    (search (rules, c.len-3.ensures))
    c.in_ok-add_port-3.ensures in
    let four : HasObjects memories (objects_in script.profile) c.add_port-3.new.all.items c.add_objects.new.all.items =
    subst (λ (m : List (List Record)). HasObjects m (objects_in script.profile) c.add_port-3.new.all.items
    c.add_objects.new.all.items) c.as_slice.ensures.value c.in_ok-add_objects.ensures in
    in_four script IsOutcome c.requires.complete memories c.in_ok-memories.ensures.memories c.add_port.new.all.items
    c.add_port-2.new.all.items c.add_port-3.new.all.items c.add_objects.new.all.items one two three four

use Rattle.std.proofs.Common.{rules, ◌≡◌, ◌∙◌, length}
use Rattle.std.specs.Vec.{vec_len}
use Rattle.ccan_line.specs.Port.{count_of}
use Rattle.ccan_line.specs.Script.{fields_of}
use Rattle.ccan_script.proofs.Befores.{checks_bus}
use Rattle.ccan_script.proofs.race.check_shares.Goals as goal

pub returns : goal.returns
returns c =
    let script = c.args.script.now in
    let if1 : vec_len script.if1 ≡ length script.if1.items = search rules in
    let if2 : vec_len script.if2 ≡ length script.if2.items = search rules in
    let bus : vec_len script.bus ≡ length script.bus.items = search rules in
    checks_bus (count_of (fields_of script)) c.args.before.now c.len.result c.len-2.result c.len-3.result
    (c.len.ensures ∙ if1) (c.len-2.ensures ∙ if2) (c.len-3.ensures ∙ bus) c.check_share-3.result
    c.in_ok-check_share.ensures c.in_ok-check_share-2.ensures c.check_share-3.ensures

use Rattle.ccan_words.proofs.Reading.{three_reads}
use Rattle.ccan_words.proofs.version.fetch.Goals as goal

pub returns-clause-value : goal.returns-clause-value
returns-clause-value g c nz =
    let first = c.offset-first.ensures in
    three_reads (g.L.Layout.form c.args.words.now.profile) c.args.number c.args.object c.offset-first.result c.read-a.result
    c.read-b.result c.read-c.result c.args.seat.now.me _ _ _ c.record_in.result first.value first.inside
    c.read-a.ensures.told c.read-b.ensures.told c.read-c.ensures.told c.record_in.ensures

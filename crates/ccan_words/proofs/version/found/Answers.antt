use Rattle.std.proofs.Common.{sym, subst}
use Rattle.ccan_words.specs.Plays.{Knows}
use Rattle.ccan_words.specs.Version.{Finds}
use Rattle.ccan_words.proofs.Reading.{fetched}
use Rattle.ccan_words.proofs.version.found.Goals as goal

pub returns-clause-told : goal.returns-clause-told
returns-clause-told g c =
    let profile = c.args.words.now.profile in
    let F = g.L.Layout.form profile in
    let looked = c.look-number.ensures.told in
    let fetch = c.fetch-held.ensures in
    let h = c.requires.held in
    subst (λ (m : Knows). Finds F c.args.port c.args.object c.args.seat.now.me c.look-number.result c.fetch-held.result m)
    (sym fetch.same.1) (
      looked,
      fetched F (g.met.L.Layout.lies profile) (g.met.L.Layout.shows profile) c.args.port c.args.object c.look-number.result
          c.fetch-held.result h.0 _ _ h.1 c.requires.object looked fetch.none fetch.value,
    )

use Rattle.std.proofs.Common.{◌∙◌}
use Rattle.ccan_words.proofs.Meeting.{Meeting, met_a, met_b, met}
use Rattle.ccan_words.proofs.ram.RamSharedRam.meet.Given.{Over}
use Rattle.ccan_words.proofs.ram.RamSharedRam.meet.Goals.{After-part}
use Rattle.ccan_words.proofs.ram.RamSharedRam.meet.Goals as goal

-- the four steps on the seats
meeting : (g : Over) (c : After-part g)
    → Meeting (g.L.Layout.form c.args.self.now.words.profile) c.first.inside c.second.inside c.part.new.seat c.part.result
meeting g c =
    let seen_one = c.watch.ensures.same ∙ c.join.ensures.same in
    record {
      theirs = c.part-theirs.result.me;
      both = c.join.new.seat.me;
      seen = c.watch.new.seat.me;
      parted = c.part-theirs.ensures.given;
      joined = c.join.ensures.told;
      watched = c.watch.ensures.told;
      kept = c.part.ensures.kept;
      given = c.part.ensures.given;
      left_table = c.part.ensures.same ∙ seen_one;
      right_table = c.part.ensures.table ∙ seen_one;
    }

pub invariant_of-first : goal.invariant_of-first
invariant_of-first g c =
    met_a (meeting g (goal.at.invariant_of-first g c).After-part) c.first.invariant c.second.invariant
    c.first.view_is c.second.view_is c.requires.first c.requires.second c.requires.two

pub invariant_of-second : goal.invariant_of-second
invariant_of-second g c =
    met_b (meeting g (goal.at.invariant_of-second g c).After-part) c.first.invariant c.second.invariant
    c.first.view_is c.second.view_is c.requires.first c.requires.second c.requires.two

pub returns : goal.returns
returns g c =
    met (meeting g (goal.at.returns g c).After-part) c.first.invariant c.second.invariant
    c.first.view_is c.second.view_is c.requires.first c.requires.second c.requires.two

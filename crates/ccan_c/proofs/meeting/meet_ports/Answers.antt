use Rattle.ccan_c.proofs.Meetings.{have_met}
use Rattle.ccan_c.proofs.meeting.meet_ports.Goals as goal

pub returns : goal.returns
returns c =
    have_met c.args.if1.now c.args.if2.now c.args.bus.now c.meet.new.first c.meet.new.second c.meet-2.new.first
    c.meet-2.new.second c.meet-3.new.first c.meet-3.new.second c.requires.second c.requires.third
    c.meet.ensures.meets c.meet-2.ensures.meets c.meet-3.ensures.meets
    c.meet.ensures.chip c.meet-2.ensures.chip c.meet-3.ensures.chip

use Rattle.std.proofs.Common.{◌≤ℤ◌, ◌<ℤ◌, pos, sym, ◌∙◌, arith}
use Rattle.std.proofs.lemmas.Int.{ints}
use Rattle.qm_geom.proofs.OnlyMeetings.{turned_kept, turned_times}
use Rattle.qm_geom.proofs.Wide.{held_turned_is}
use Rattle.qm_geom.proofs.meeting.Meeting.with_positive_weight.Goals as goal

pub returns-then-self-ge0 : goal.returns-then-self-ge0
returns-then-self-ge0 c =
    let h : pos 0 ≤ℤ c.self.inside.w = grind (arith, ints) in
    rw (← c.self.view_is) (sym (turned_kept _ h))

pub returns : goal.returns
returns c =
    let h : c.self.inside.w <ℤ pos 0 = grind (arith, ints) in
    rw (← c.self.view_is) (held_turned_is _ c.self.invariant ∙ sym (turned_times _ h))

use Rattle.std.proofs.Common.{◌<ℤ◌, pos, ap, sym, subst, ◌∙◌, lit≤}
use Rattle.qm_space.specs.Meet.{meet}
use Rattle.qm_geom.specs.Corners.{with_positive_weight, MeetOnlyIn}
use Rattle.qm_geom.proofs.OnlyMeetings.{turned_positive, turned_beside, turned_is_only, turned_no_only}
use Rattle.qm_geom.proofs.Wide.{held_is, held_is_corner}
use Rattle.qm_numbers.proofs.Bits.{zero_from_bits, bits_of_zero}
use Rattle.qm_geom.proofs.corner.Corner.of.Goals as goal

pub returns-then-meeting-eq0-clause-none : goal.returns-then-meeting-eq0-clause-none
returns-then-meeting-eq0-clause-none c =
    let e = c.meeting.view_is ∙ c.with_positive_weight-meeting.ensures ∙ ap with_positive_weight c.of.ensures in
    turned_no_only c.args.a.now c.args.b.now c.args.c.now (sym (ap (λ p. p.w) e) ∙ zero_from_bits _ _ c.meeting.invariant.w_small (lit≤ tt) c.if-meeting-eq0.true)

pub returns-then-meeting-eq0-clause-beside : goal.returns-then-meeting-eq0-clause-beside
returns-then-meeting-eq0-clause-beside c =
    let e = c.meeting.view_is ∙ c.with_positive_weight-meeting.ensures ∙ ap with_positive_weight c.of.ensures in
    turned_beside c.args.a.now c.args.b.now c.args.c.now (sym (ap (λ p. p.w) e) ∙ zero_from_bits _ _ c.meeting.invariant.w_small (lit≤ tt) c.if-meeting-eq0.true)

pub invariant_of-result : goal.invariant_of-result
invariant_of-result c =
    let e = c.meeting.view_is ∙ c.with_positive_weight-meeting.ensures ∙ ap with_positive_weight c.of.ensures in
    let positive = turned_positive (meet c.args.a.now c.args.b.now c.args.c.now) (λ z. c.if-meeting-eq0.false (bits_of_zero _ (ap (λ p. p.w) e ∙ z))) in
    let weight : pos 0 <ℤ c.meeting.inside.w = rw (ap (λ p. p.w) e) positive in
    held_is_corner _ weight c.meeting.invariant

pub returns-clause-only : goal.returns-clause-only
returns-clause-only c =
    let e = c.meeting.view_is ∙ c.with_positive_weight-meeting.ensures ∙ ap with_positive_weight c.of.ensures in
    let positive = turned_positive (meet c.args.a.now c.args.b.now c.args.c.now) (λ z. c.if-meeting-eq0.false (bits_of_zero _ (ap (λ p. p.w) e ∙ z))) in
    subst (MeetOnlyIn c.args.a.now c.args.b.now c.args.c.now) (sym (held_is _ c.meeting.invariant ∙ e)) (turned_is_only _ _ _ positive)

use Rattle.std.proofs.Common.{◌≤◌, ℤ, w64, lit≤, sym, subst, ◌∙◌, unsigned_abs}
use Rattle.qm_numbers.proofs.Bits.{kept_64}
use Rattle.qm_numbers.proofs.Kept.{kept, small_kept}
use Rattle.qm_space.proofs.CoordinateSizes.{thousandths_of_coordinates}
use Rattle.qm_narrow.specs.inner.Turn.{dot_bound, slack_bound}
use Rattle.qm_narrow.proofs.KeptSizes.{slacks_kept, slacks_small}
use Rattle.qm_narrow.proofs.TurnedNormals.{lies_between}
use Rattle.qm_narrow.proofs.edge.Edge.span.Goals as goal

pub around-requires-clause-distance_small : goal.around-requires-clause-distance_small
around-requires-clause-distance_small c = small_kept c.dot-value.result dot_bound (lit≤ tt) c.dot-value.ensures.size

pub around-requires-clause-slack_small : goal.around-requires-clause-slack_small
around-requires-clause-slack_small c = subst (λ (z : ℤ). unsigned_abs z ≤ slack_bound) (sym (slacks_kept c.turn_slack-turned.result c.point_slack-loose.result c.turn_slack-turned.ensures.small c.point_slack-loose.ensures.small)) (slacks_small c.turn_slack-turned.result c.point_slack-loose.result c.turn_slack-turned.ensures.small c.point_slack-loose.ensures.small)

pub returns : goal.returns
returns c = λ p n weight is turned.
    lies_between c.args.self.now c.args.turn.now c.args.spot.now p n weight is turned
    (kept w64 c.dot-value.result) c.turn_slack-turned.result c.point_slack-loose.result c.between-step.result c.between-step.ensures.exact
    (kept_64 c.dot-value.result dot_bound c.dot-value.ensures.size (lit≤ tt) ∙ c.dot-value.ensures.exact)
    c.turn_slack-turned.ensures.exact c.point_slack-loose.ensures.exact _
    (slacks_kept c.turn_slack-turned.result c.point_slack-loose.result c.turn_slack-turned.ensures.small c.point_slack-loose.ensures.small) c.around.result c.around.ensures

pub between-step-requires-clause-from_in_cube : goal.between-step-requires-clause-from_in_cube
between-step-requires-clause-from_in_cube c = thousandths_of_coordinates _ c.requires.edge.from_in

pub between-step-requires-clause-to_in_cube : goal.between-step-requires-clause-to_in_cube
between-step-requires-clause-to_in_cube c = thousandths_of_coordinates _ c.requires.spot.1.nearest_in

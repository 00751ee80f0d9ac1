use Rattle.std.proofs.Common.{◌∙◌, ap, subst}
use Rattle.qm_space.specs.Turned.{turned}
use Rattle.qm_narrow.specs.inner.Beam.{IsCrossedAhead}
use Rattle.qm_narrow.proofs.Beams.{sees_through}
use Rattle.qm_narrow.proofs.beam.Beam.goes_through.Goals as goal

pub returns-in-Some-crossing_in : goal.returns-in-Some-crossing_in
returns-in-Some-crossing_in c = λ told p q of_beam.
    let near = c.faced-near.ensures in let far = c.faced-far.ensures in
    sees_through c.args.self.now p q of_beam c.args.pass.now c.args.target.now c.faced-near.result c.faced-far.result near.0 far.0
    (near.1 ∙ ap (turned near.0) c.plane.ensures) (far.1 ∙ ap (turned far.0) c.plane-2.ensures)
    c.in-Some.first c.in-Some-crossing_in._second c.in-Some.ensures.0 c.in-Some.ensures.1 c.in-Some-crossing_in.ensures.0 c.in-Some-crossing_in.ensures.1
    (subst (IsCrossedAhead c.in-Some.first c.args.self.now) c.flipped.ensures (c.is_ahead.ensures.0 told))

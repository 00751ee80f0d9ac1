use Rattle.std.proofs.Common.{◌∙◌, refl}
use Rattle.qm_geom.proofs.meeting.normals_crossed.Goals as goal

pub cross-requires : goal.cross-requires
cross-requires c = record { self_small = c.normal.ensures.size; other_small = c.normal-2.ensures.size }

pub returns-clause-exact : goal.returns-clause-exact
returns-clause-exact c = c.cross.ensures.exact ∙ rw (c.normal.ensures.exact, c.normal-2.ensures.exact) refl

pub returns-clause-size : goal.returns-clause-size
returns-clause-size c = c.cross.ensures.size

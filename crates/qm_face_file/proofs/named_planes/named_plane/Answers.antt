use Rattle.std.proofs.Common.{◌∙◌}
use Rattle.qm_face_file.proofs.NamedNumbers.{wall_named}
use Rattle.qm_face_file.proofs.named_planes.named_plane.Goals as goal

pub returns-then-number-lt0 : goal.returns-then-number-lt0
returns-then-number-lt0 c = c.wall_at.ensures ∙ wall_named c.args.planes.now c.args.bound c.args.number c.ranges.number c.if-number-lt0.true

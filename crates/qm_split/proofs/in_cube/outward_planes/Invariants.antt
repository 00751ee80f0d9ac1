use Rattle.std.proofs.Common.{◌≡◌, take}
use Rattle.qm_solids.specs.Outward.{outward_planes}
use Rattle.qm_split.proofs.in_cube.outward_planes.Given as goal

abbrev pub invariant-loop-face : goal.invariant-loop-face
invariant-loop-face l = l.planes.items ≡ outward_planes l.book (take l.face-index l.faces)

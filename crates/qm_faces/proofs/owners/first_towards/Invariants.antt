use Rattle.std.proofs.Common.{◌≡◌, drop}
use Rattle.std.specs.List.{position_from}
use Rattle.qm_surface.specs.Owner.{is_towards}
use Rattle.qm_faces.proofs.owners.first_towards.Given as goal

-- none of the faces before is towards the side
abbrev pub invariant-loop-i : goal.invariant-loop-i
invariant-loop-i l = position_from (is_towards l.plane l.side) 0 l.faces ≡ position_from (is_towards l.plane l.side) l.i (drop l.i l.faces)

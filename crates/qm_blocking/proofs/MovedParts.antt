-- Solids whose planes are moved by a box: full ones stay full, and alike ones alike.
use Rattle.std.proofs.Common.{map, All}
use Rattle.std.proofs.lemmas.List.Elements.{All-map}
use Rattle.qm_space.specs.Plane.{IsBehind}
use Rattle.qm_space.specs.Cuboid.{Cuboid}
use Rattle.qm_solids.specs.Solid.{Solid}
use Rattle.qm_solids.specs.Alike.{IsAlike}
use Rattle.qm_solids.specs.Holding.{IsFull}
use Rattle.qm_solids.proofs.Insides.{behind_all, inside_of_behind}
use Rattle.qm_blocking.specs.Moved.{moved_by, HasOrigin}
use Rattle.qm_blocking.specs.MovedSolids.{moved_solid}
use Rattle.qm_blocking.proofs.MovedPlanes.{behind_moved, moved_multiples}

-- the point inside a full solid is inside the moved one
pub moved_full : (box : Cuboid) (solid : Solid) → HasOrigin box → IsFull solid → IsFull (moved_solid box solid)
moved_full box solid origin full =
    let x = full.within in
    let behind = behind_all solid.outward x full.inside in
    let moved : All (λ h. IsBehind h x) (map (moved_by box) solid.outward) =
    All-map (λ h. IsBehind h x) (moved_by box) solid.outward (λ k h within. behind_moved box _ x origin full.in_cube.weight (behind k h within)) in
    record { within = x; in_cube = full.in_cube; inside = inside_of_behind (map (moved_by box) solid.outward) x moved }

pub moved_alike : (box : Cuboid) (solid other : Solid) → IsAlike solid other → IsAlike (moved_solid box solid) (moved_solid box other)
moved_alike box solid other alike = record {
  same_contents = alike.same_contents;
  multiples = moved_multiples box solid.outward other.outward alike.multiples;
}

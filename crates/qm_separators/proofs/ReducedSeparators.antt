-- Separators of windings inside the world are planes in lowest terms, within the bounds of a book's planes.
use Rattle.std.proofs.Common.{ℕ, ◌<◌, List, length, get_or, sym, subst, arith, ⊎_elim}
use Rattle.qm_space.specs.Point.{Point}
use Rattle.qm_space.specs.Plane.{Plane}
use Rattle.qm_space.specs.Cube.{IsInClosedCube}
use Rattle.qm_space.specs.Reduced.{IsReduced}
use Rattle.qm_convex.specs.Winding.{Winding, corners}
use Rattle.qm_convex.specs.World.{IsInWorld}
use Rattle.qm_convex.proofs.Corners.{corners_length, corner_in_list}
use Rattle.qm_convex.proofs.Squares.{corner_in_closed_cube}
use Rattle.qm_separators.specs.Across.{HasLowestNormal, HasNormalAcross}
use Rattle.qm_separators.specs.Separator.{IsSeparator}
use Rattle.qm_separators.proofs.Normals.{lowest_has_normal}
use Rattle.qm_separators.proofs.Distances.{distance_size}

pub corners_in_cube : (v : Winding) → IsInWorld v → (i : ℕ) (d : Point) → i < length (corners v) → IsInClosedCube (get_or (corners v) i d)
corners_in_cube v world i d h =
    let n = corners_length v in
    let below : i < length v.edges = omega arith in
    subst IsInClosedCube (sym (corner_in_list v i d below)) (corner_in_closed_cube v world i below)

pub across_lowest : (edges others : List Point) (h : Plane) → HasNormalAcross edges others h → HasLowestNormal h
across_lowest edges others h is = is.normal.lowest

pub separator_is_reduced : (s p : Winding) (h : Plane) → IsInWorld s → IsSeparator s p h → IsReduced h
separator_is_reduced s p h s_in is =
    let lowest = ⊎_elim (across_lowest (corners s) (corners p) h) (across_lowest (corners p) (corners s) h) is.across in
    let n = corners_length s in
    let enough = s_in.convex.enough in
    let size = distance_size h (corners s) (omega arith) (corners_in_cube s s_in) is.small is.touches in
    record {
      normal = lowest_has_normal h lowest;
      lowest = λ k x y z d. lowest k x y z;
      nx_small = is.small.x;
      ny_small = is.small.y;
      nz_small = is.small.z;
      d_small = omega arith;
    }

-- The spans of a segment through a hull: where the box, set at a point of the segment, meets an obstacle, the point is strictly
-- inside the moved obstacle, so some span is solid.
use Rattle.std.proofs.Common.{inl, inr, List, refl, sym, subst}
use Rattle.qm_lists.proofs.Elements.{Contains-map, Contains-map_from}
use Rattle.qm_space.specs.Point.{Point}
use Rattle.qm_space.specs.Cuboid.{Cuboid}
use Rattle.qm_space.specs.Reduced.{IsReduced, HasSmallNormal}
use Rattle.std.proofs.lemmas.List.Elements.{All-weaker}
use Rattle.qm_mapfile.specs.declared.entity.Brush.{Brush}
use Rattle.qm_mapfile.specs.declared.entity.MapFile.{MapFile}
use Rattle.qm_contents.specs.declared.contents.Contents.{Contents}
use Rattle.qm_contents.specs.Precedence.{IsAtMost}
use Rattle.qm_contents.proofs.Strengths.{at_most_solid}
use Rattle.qm_solids.specs.Solid.{Solid as Part}
use Rattle.qm_solids.specs.Holding.{Holds, IsInside}
use Rattle.qm_solids.specs.Strongest.{IsOneThat}
use Rattle.qm_solids.specs.Contents.{HasContents}
use Rattle.qm_solids.proofs.Insides.{inside_of_behind}
use Rattle.qm_drawn.specs.Brushes.{world_brushes}
use Rattle.qm_blocking.specs.Moved.{HasOrigin}
use Rattle.qm_blocking.specs.Blocking.{solid_part, AreObstacles}
use Rattle.qm_blocking.specs.MovedSolids.{moved_part, moved_parts}
use Rattle.qm_blocking.specs.HullContents.{IsBlocked, HasHullContents}
use Rattle.qm_blocking.proofs.MovedParts.{moved_full}
use Rattle.qm_blocking.proofs.MovingBoxes.{set_behind_all_moved}
use Rattle.qm_partition.specs.LeafOfPoint.{leaf_record_at}
use Rattle.qm_solid_tree.specs.GivesContents.{GivesContents}
use Rattle.qm_formats.specs.TreeFile.{TreeFile}
use Rattle.qm_hull_trees.specs.Hull.{IsHull}
use Rattle.qm_hull_trees.proofs.HullContents.{obstacles_are, has_obstacle}
use Rattle.qm_spans.specs.Place.{point_on}
use Rattle.qm_traced.proofs.SpanLaws.{meets_solid}
use Rattle.qm_statement.specs.MapSpans.{SpansTellObstacles}

module _ (map : MapFile) (box : Cuboid) (origin : HasOrigin box) (brushes : List Brush) (are : AreObstacles (world_brushes map) brushes) where
  -- ---- what a point is where the box is a point, the moved obstacles make of it

  -- a moved obstacle that holds the point blocks it
  blocked_by : (x : Point) (solid : Part) → IsOneThat (λ s. Holds s x) (moved_parts box brushes) solid → IsBlocked map box x
  blocked_by x solid one =
      let from = Contains-map_from (moved_part box) brushes solid one.listed in
      let obstacle = obstacles_are (world_brushes map) brushes from.0 are from.1 in
      let holds = subst (λ (s : Part). Holds s x) (sym from.2) one.has in
      record { brush = from.0; listed = obstacle.0; is_obstacle = obstacle.1; not_in_front = holds.not_in_front }

  -- an obstacle that blocks the point holds it, moved
  held_by : (x : Point) (blocked : IsBlocked map box x) → IsOneThat (λ s. Holds s x) (moved_parts box brushes) (moved_part box blocked.brush)
  held_by x blocked = record {
    listed = Contains-map (moved_part box) brushes blocked.brush (has_obstacle (world_brushes map) brushes blocked.brush are blocked.listed blocked.is_obstacle);
    has = record { full = moved_full box (solid_part blocked.brush) origin blocked.is_obstacle.full; not_in_front = blocked.not_in_front };
  }

  moved_contents : (x : Point) (contents : Contents) → HasHullContents map box x contents → HasContents (moved_parts box brushes) x contents
  moved_contents x contents (inl solid) = record {
    given = inr (moved_part box solid.1.brush, held_by x solid.1, sym solid.0);
    strongest = λ other one. subst (IsAtMost other.contents) (sym solid.0) (at_most_solid other.contents);
  }
  moved_contents x contents (inr empty) = record {
    given = inl empty.0;
    strongest = λ other one. absurd (empty.1 (blocked_by x other one));
  }

-- ---- solid spans

module _ (map : MapFile) (box : Cuboid) (origin : HasOrigin box) (file : TreeFile) (is : IsHull map box file) where
  gives_moved : GivesContents file.tree (moved_parts box is.is_tree.brushes)
  gives_moved = record {
    named = is.gives_contents.named;
    normals = is.gives_contents.normals;
    gives = λ x in_cube off.
        moved_contents map box origin is.is_tree.brushes is.is_tree.are_obstacles x (leaf_record_at file.tree.planes file.tree.shape x).contents
        (is.gives_contents.gives x in_cube off);
  }

  pub hull_spans : SpansTellObstacles map box file.tree
  hull_spans a b spans i j traced some meets =
      let x = point_on a b i j in
      let brushes = is.is_tree.brushes in
      let solid = moved_part box meets.brush in
      let listed = Contains-map (moved_part box) brushes meets.brush (has_obstacle (world_brushes map) brushes meets.brush is.is_tree.are_obstacles meets.listed meets.is_obstacle) in
      let full = moved_full box (solid_part meets.brush) origin meets.is_obstacle.full in
      let inside : IsInside solid x = inside_of_behind solid.outward x (set_behind_all_moved box (solid_part meets.brush) x meets.met meets.in_box meets.inside) in
      let small = All-weaker IsReduced HasSmallNormal (λ h reduced. record { x = reduced.nx_small; y = reduced.ny_small; z = reduced.nz_small }) file.tree.planes is.is_valid.reduced in
      meets_solid file.tree (moved_parts box brushes) a b gives_moved is.is_valid.well_made.leads small traced.start traced.end
      solid listed full refl spans i j traced.is_trace some inside

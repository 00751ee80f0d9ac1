-- The outline of solids, by one solid after another.
use Rattle.std.proofs.Common.{ℕ, Bool, true, false, List, [], ◌∷◌, ◌++◌, subst, sym}
use Rattle.std.specs.Bool.{MatchBool}
use Rattle.std.proofs.lemmas.List.Elements.{All-nil, All-cons, All-append, Contains-append_left, Contains-append_right}
use Rattle.qm_lists.proofs.Elements.{All-first_part, Contains-nil, Contains-first}
use Rattle.qm_space.specs.Plane.{Plane, IsInFront}
use Rattle.qm_space.specs.Cell.{HasPoint}
use Rattle.qm_space.specs.Cuboid.{Cuboid}
use Rattle.qm_solids.specs.Solid.{Solid, inward}
use Rattle.qm_solids.specs.Flat.{IsFlat}
use Rattle.qm_partition.specs.Tree.{Tree}
use Rattle.qm_partition.specs.Ways.{cell_of_way}
use Rattle.qm_facets.specs.Extent.{HasEachPoint}
use Rattle.qm_facets.specs.inner.Joined.{IsJoined, no_cuboid}
use Rattle.qm_reach.specs.ReachedLeaves.{ReachesLeaf}
use Rattle.qm_reach.proofs.FoundLeaves.{found_are_reached}
use Rattle.qm_outlines.specs.HeldPoints.{IsHeldPoint, HasFull, HasNoFull}
use Rattle.qm_outlines.specs.Outlines.{AreTouchedLeaves, IsOutline}
use Rattle.qm_outlines.specs.inner.Outlined.{IsOutlined, IsCellAdded, IsCellLeftOut}
use Rattle.qm_outlines.proofs.ModelBoxes.{full_of_point, point_of_full, full_joined, flat_joined, no_solids, solid_more, box_of_joined}
use Rattle.qm_outlines.proofs.TouchedLeaves.{none_touched, touched_added, touched_same}

-- a cell without a point reaches no leaf
none_reached : (tree : Tree) (cell : List Plane) (k : ℕ) → (HasPoint cell → ⊥) → ReachesLeaf tree cell k → ⊥
none_reached tree cell k never is =
    never (record { point = is.reached.point; in_cube = is.reached.in_cube; in_cell = All-first_part (λ g. IsInFront g is.reached.point) cell (cell_of_way tree.planes is.way) is.reached.in_cell })

-- one flat solid more changes nothing of it
still_full : (solids : List Solid) (solid : Solid) (some : Bool) → IsFlat solid → MatchBool some (HasFull solids) (HasNoFull solids) → MatchBool some (HasFull (solids ++ solid ∷ [])) (HasNoFull (solids ++ solid ∷ []))
still_full solids solid true flat has = record { solid = has.solid; listed = Contains-append_left solids (solid ∷ []) has.solid has.listed; full = has.full }
still_full solids solid false flat none = All-append IsFlat solids (solid ∷ []) none (All-cons IsFlat solid [] flat (All-nil IsFlat))

module _ (tree : Tree) where
  pub nothing_outlined : IsOutlined tree [] false no_cuboid []
  nothing_outlined = record {
    full = All-nil IsFlat;
    joined = no_solids no_cuboid;
    touched_are = λ k. ((λ listed. absurd (Contains-nil k listed)), (λ touched. absurd (none_touched tree k touched)));
  }

  module _ (solids : List Solid) (solid : Solid) (some : Bool) (old new : Cuboid) (before after : List ℕ) (outlined : IsOutlined tree solids some old before) where
    pub full_outlined : IsCellAdded tree (inward solid) old new before after → IsOutlined tree (solids ++ solid ∷ []) true new after
    full_outlined its = record {
      full = record { solid = solid; listed = Contains-append_right solids (solid ∷ []) solid (Contains-first solid []); full = full_of_point solid its.some };
      joined = solid_more no_cuboid old new solids solid outlined.joined (full_joined solid old new its.some its.joined);
      touched_are = subst (AreTouchedLeaves tree (solids ++ solid ∷ [])) (sym its.added)
          (touched_added tree solids solid before its.own outlined.touched_are (found_are_reached tree (inward solid) its.own its.reached));
    }

    pub flat_outlined : IsCellLeftOut (inward solid) old new before after → IsOutlined tree (solids ++ solid ∷ []) some new after
    flat_outlined its = record {
      full = still_full solids solid some (λ full. its.never (point_of_full solid full)) outlined.full;
      joined = subst (IsJoined no_cuboid (HasEachPoint (IsHeldPoint (solids ++ solid ∷ [])))) (sym its.same_box) (solid_more no_cuboid old old solids solid outlined.joined (flat_joined solid old its.never));
      touched_are = subst (AreTouchedLeaves tree (solids ++ solid ∷ [])) (sym its.same_leaves)
          (touched_same tree solids solid before outlined.touched_are (λ k. none_reached tree (inward solid) k its.never));
    }

  pub outline_found : (solids : List Solid) (box : Cuboid) (touched : List ℕ) → IsOutlined tree solids true box touched → IsOutline tree solids box touched
  outline_found solids box touched is = record { full = is.full; box_is = box_of_joined solids box is.full is.joined; touched_are = is.touched_are }

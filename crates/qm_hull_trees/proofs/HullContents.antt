-- What the moved solids of the obstacles make of a point is what the point is where the box is a point; and that is solid where the
-- box meets an obstacle.
use Rattle.std.proofs.Common.{◌≡◌, inl, inr, List, [], ◌∷◌, Contains, refl, sym, subst, ◌∙◌}
use Rattle.qm_lists.proofs.Elements.{Contains-nil, Contains-first, Contains-later, Contains-cons_cases, Contains-map, Contains-map_from}
use Rattle.qm_space.specs.Point.{Point}
use Rattle.qm_space.specs.Cuboid.{Cuboid}
use Rattle.qm_mapfile.specs.declared.entity.Brush.{Brush}
use Rattle.qm_mapfile.specs.declared.entity.MapFile.{MapFile}
use Rattle.qm_contents.specs.declared.contents.Contents.{Contents}
use Rattle.qm_contents.specs.declared.contents.Contents.TheVariants.{Empty, Solid}
use Rattle.qm_contents.proofs.Strengths.{only_solid}
use Rattle.qm_solids.specs.Solid.{Solid as Part}
use Rattle.qm_solids.specs.Holding.{Holds}
use Rattle.qm_solids.specs.Strongest.{IsOneThat, AreGiven}
use Rattle.qm_solids.specs.Contents.{HasContents}
use Rattle.qm_solids.proofs.Insides.{inside_of_behind, inside_in_front_of_none}
use Rattle.qm_drawn.specs.Brushes.{world_brushes}
use Rattle.qm_blocking.specs.Moved.{HasOrigin}
use Rattle.qm_blocking.specs.Blocking.{solid_part, IsObstacle, AreObstacles, none, counted, left_out}
use Rattle.qm_blocking.specs.MovedSolids.{moved_part, moved_parts}
use Rattle.qm_blocking.specs.HullContents.{IsBlocked, HasHullContents, MeetsBrush}
use Rattle.qm_blocking.proofs.MovedParts.{moved_full}
use Rattle.qm_blocking.proofs.MovingBoxes.{set_behind_all_moved}

-- ---- the obstacles among some brushes are just those

pub obstacles_are : (brushes those : List Brush) (brush : Brush) → AreObstacles brushes those → Contains those brush → Contains brushes brush × IsObstacle brush
obstacles_are [] those brush none has = absurd (Contains-nil brush has)
obstacles_are (first ∷ brushes) (it ∷ those) brush (counted obstacle are) has = elim (Contains-cons_cases first brush those has) [
  | inl same ↦ (subst (λ (b : Brush). Contains (first ∷ brushes) b) same (Contains-first first brushes), subst IsObstacle same obstacle)
  | inr later ↦ let rest = obstacles_are brushes those brush are later in (Contains-later first brush brushes rest.0, rest.1)
]
obstacles_are (first ∷ brushes) those brush (left_out not are) has =
    let rest = obstacles_are brushes those brush are has in (Contains-later first brush brushes rest.0, rest.1)

pub has_obstacle : (brushes those : List Brush) (brush : Brush) → AreObstacles brushes those → Contains brushes brush → IsObstacle brush → Contains those brush
has_obstacle [] those brush none has is = absurd (Contains-nil brush has)
has_obstacle (first ∷ brushes) (it ∷ those) brush (counted obstacle are) has is = elim (Contains-cons_cases first brush brushes has) [
  | inl same ↦ subst (λ (b : Brush). Contains (first ∷ those) b) same (Contains-first first those)
  | inr later ↦ Contains-later first brush those (has_obstacle brushes those brush are later is)
]
has_obstacle (first ∷ brushes) those brush (left_out not are) has is = elim (Contains-cons_cases first brush brushes has) [
  | inl same ↦ absurd (not (subst IsObstacle (sym same) is))
  | inr later ↦ has_obstacle brushes those brush are later is
]

-- ---- where the box is a point

module _ (map : MapFile) (box : Cuboid) (origin : HasOrigin box) (brushes : List Brush) (are : AreObstacles (world_brushes map) brushes) (x : Point) where
  -- a moved solid that holds the point is solid, and blocks
  blocked_by : (solid : Part) → IsOneThat (λ s. Holds s x) (moved_parts box brushes) solid → IsBlocked map box x × (solid.contents ≡ Solid)
  blocked_by solid one =
      let from = Contains-map_from (moved_part box) brushes solid one.listed in
      let obstacle = obstacles_are (world_brushes map) brushes from.0 are from.1 in
      let holds = subst (λ (s : Part). Holds s x) (sym from.2) one.has in (
        record { brush = from.0; listed = obstacle.0; is_obstacle = obstacle.1; not_in_front = holds.not_in_front },
        subst (λ (s : Part). s.contents ≡ Solid) from.2 refl,
      )

  -- what blocks holds the point, moved
  held_by : (blocked : IsBlocked map box x) → IsOneThat (λ s. Holds s x) (moved_parts box brushes) (moved_part box blocked.brush)
  held_by blocked = record {
    listed = Contains-map (moved_part box) brushes blocked.brush (has_obstacle (world_brushes map) brushes blocked.brush are blocked.listed blocked.is_obstacle);
    has = record { full = moved_full box (solid_part blocked.brush) origin blocked.is_obstacle.full; not_in_front = blocked.not_in_front };
  }

  by_given : (contents : Contents) → HasContents (moved_parts box brushes) x contents → AreGiven (λ s. Holds s x) (moved_parts box brushes) contents → HasHullContents map box x contents
  by_given contents has (inl empty) = inr (
    empty,
    λ blocked.
        let solid = only_solid contents (has.strongest (moved_part box blocked.brush) (held_by blocked)) in
        let both : ◌≡◌ {A = Contents} Empty Solid = sym empty ∙ solid in cc,
  )
  by_given contents has (inr by) =
      let blocked = blocked_by by.0 by.1 in inl (sym by.2 ∙ blocked.1, blocked.0)

  pub hull_contents : (contents : Contents) → HasContents (moved_parts box brushes) x contents → HasHullContents map box x contents
  hull_contents contents has = by_given contents has has.given

-- ---- where the box meets an obstacle

module _ (map : MapFile) (box : Cuboid) (x : Point) where
  pub blocked_where_met : MeetsBrush map box x → IsBlocked map box x
  blocked_where_met meets =
      let moved = moved_part box meets.brush in
      let behind = set_behind_all_moved box (solid_part meets.brush) x meets.met meets.in_box meets.inside in
      record {
        brush = meets.brush;
        listed = meets.listed;
        is_obstacle = meets.is_obstacle;
        not_in_front = inside_in_front_of_none moved x (inside_of_behind moved.outward x behind);
      }

  pub solid_if_met : (contents : Contents) → HasHullContents map box x contents → MeetsBrush map box x → contents ≡ Solid
  solid_if_met contents (inl has) meets = has.0
  solid_if_met contents (inr has) meets = absurd (has.1 (blocked_where_met meets))

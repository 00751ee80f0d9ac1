-- A table, lane by lane, and what its rows say.
use Rattle.std.proofs.Common.{◌≡◌, ℕ, ◌+◌, ◌-◌, ◌<◌, ◌≤◌, Bool, true, false, List, [], ◌∷◌, ◌++◌, length, get_or, Some, None, slice_get, ◌⊎◌, inl, inr, ⊎_elim, refl, sym, ap, ◌∙◌, subst, arith, ◌↔◌, if◌then◌else◌}
use Rattle.std.specs.List.{All}
use Rattle.std.proofs.lemmas.List.{length-append}
use Rattle.std.proofs.lemmas.List.Elements.{All-from_get_or}
use Rattle.std.proofs.lemmas.Option.{slice_get-get_or, slice_get_within, slice_get_cases}
use Rattle.qm_lists.specs.WorkList.{IsIn}
use Rattle.qm_lists.proofs.Places.{slice_get-push_cases, slice_get-push_old, slice_get-push_last}
use Rattle.qm_space.specs.Plane.{Plane, flipped}
use Rattle.qm_space.specs.Turned.{turned}
use Rattle.qm_space.proofs.Planes.{flipped_in_front, flipped_behind}
use Rattle.qm_convex.specs.Winding.{corner_at}
use Rattle.qm_contacts.specs.Portals.{Portal}
use Rattle.qm_base.specs.declared.lane.Lane.{Lane}
use Rattle.qm_base.specs.declared.beside.Beside.{Beside}
use Rattle.qm_base.specs.declared.table.Kind.{Kind}
use Rattle.qm_base.specs.inner.Lanes.{AreLanes}
use Rattle.qm_base.specs.inner.Besides.{IsFrontAt, IsBehindAt, no_beside, beside_at, AreBesides}
use Rattle.qm_base.specs.inner.Tables.{ahead, back, AreKinds, IsKindOf, IsTable, IsClassOf, AreClasses, IsLastPlaneOf, IsPlaneAdded, HasPlaneBefore}

-- ---- planes are added

-- the lane before has the plane of the lane: so the last plane is its own
pub plane_had : (lanes : List Lane) (k : ℕ) (planes : List Plane) → ((place : ℕ) → k ≡ place + 1 → IsLastPlaneOf lanes place planes) → HasPlaneBefore lanes k → IsPlaneAdded lanes k planes planes
plane_had lanes k planes before has = record {
  kept = λ class h is. is;
  last = λ lane here.
      let last = before has.before has.next has.lane has.lane_is in
      let both : Some has.own ≡ Some lane = sym has.own_is ∙ here in
      let own : has.own ≡ lane = cc in
      (last.0, last.1 ∙ ap Some (has.same ∙ ap (λ (l : Lane). l.plane) own));
}

pub plane_more : (lanes : List Lane) (k : ℕ) (planes : List Plane) (lane : Lane) → slice_get lanes k ≡ Some lane → IsPlaneAdded lanes k planes (planes ++ lane.plane ∷ [])
plane_more lanes k planes lane is = record {
  kept = λ class h old. slice_get-push_old planes lane.plane h class old;
  last = λ other here.
      let both : Some lane ≡ Some other = sym is ∙ here in
      let same : lane ≡ other = cc in
      (some, ap (slice_get (planes ++ lane.plane ∷ [])) at ∙ slice_get-push_last planes lane.plane ∙ ap (λ (l : Lane). Some l.plane) same);
}
  where
    some : 0 < length (planes ++ lane.plane ∷ [])
    some = let one = length-append planes (lane.plane ∷ []) in omega (arith, one)

    at : length (planes ++ lane.plane ∷ []) - 1 ≡ length planes
    at = let one = length-append planes (lane.plane ∷ []) in omega (arith, one)

pub some_plane : (lanes : List Lane) (k : ℕ) (old new : List Plane) → IsPlaneAdded lanes k old new → k < length lanes → 0 < length new
some_plane lanes k old new added within = by_case (slice_get_cases lanes k)
  where
    by_case : (slice_get lanes k ≡ slice_get lanes k) × (((l : Lane) × (k < length lanes) × (slice_get lanes k ≡ Some l) × (get_or lanes k l ≡ l)) ⊎ ((length lanes ≤ k) × (slice_get lanes k ≡ None))) → 0 < length new
    by_case (same, inl one) = (added.last one.0 one.2).0
    by_case (same, inr past) = absurd (let most = past.0 in omega (arith, most, within))

module _ (lanes : List Lane) where
  pub no_classes : AreClasses lanes 0 [] []
  no_classes = record {
    one_each = refl;
    each = λ k lane kind lane_is kind_is. absurd (let within = slice_get_within [] k kind kind_is in omega (arith, within));
    last = λ k none. absurd (omega (arith, none));
  }

  pub class_more : (place : ℕ) (kinds : List Kind) (old planes : List Plane) (lane : Lane) (kind : Kind) → AreClasses lanes place kinds old → IsPlaneAdded lanes place old planes → slice_get lanes place ≡ Some lane →
      kind.front ≡ lane.front → kind.class ≡ length planes - 1 → AreClasses lanes (place + 1) (kinds ++ kind ∷ []) planes
  class_more place kinds old planes lane kind so_far added here front class = record {
    one_each = let one = length-append kinds (kind ∷ []) in let each = so_far.one_each in omega (arith, one, each);
    each = λ k other its lane_is kind_is. ⊎_elim
        (λ was. let is = so_far.each k other its lane_is was in record { front = is.front; plane = added.kept its.class other.plane is.plane })
        (λ now. this k other its lane_is now)
        (slice_get-push_cases kinds kind its k kind_is);
    last = λ k next. let at : place ≡ k = omega (arith, next) in subst (λ (n : ℕ). IsLastPlaneOf lanes n planes) at added.last;
  }
    where
      of_lane : IsClassOf planes lane kind
      of_lane = record { front = front; plane = ap (slice_get planes) class ∙ (added.last lane here).1 }

      this : (k : ℕ) (other : Lane) (its : Kind) → slice_get lanes k ≡ Some other → (k ≡ length kinds) × (kind ≡ its) → IsClassOf planes other its
      this k other its lane_is now =
          let both : Some lane ≡ Some other = sym here ∙ ap (slice_get lanes) (sym (now.0 ∙ so_far.one_each)) ∙ lane_is in
          let same : lane ≡ other = cc in
          subst (IsClassOf planes other) now.1 (subst (λ (l : Lane). IsClassOf planes l kind) same of_lane)

-- the table of some planes
module _ (portals : List Portal) (lanes : List Lane) (place : ℕ) (kinds : List Kind) (planes : List Plane) (table : List Beside) (are : AreLanes portals lanes) (all : place ≡ length lanes) (so_far : AreClasses lanes place kinds planes) (besides : AreBesides portals lanes planes table) where
  kind_at : (k : ℕ) (lane : Lane) (kind : Kind) → slice_get lanes k ≡ Some lane → slice_get kinds k ≡ Some kind → IsKindOf portals lanes table lane kind
  kind_at k lane kind lane_is kind_is =
      let of = so_far.each k lane kind lane_is kind_is in
      record {
        front = of.front;
        within = let within = slice_get_within planes kind.class lane.plane of.plane in let each = besides.one_each in omega (arith, within, each);
        beside = besides.each kind.class lane.plane of.plane;
      }

  kinds_within : All (λ kind. kind.class < length table) kinds
  kinds_within k d within = by_case (slice_get_cases lanes k)
    where
      by_case : (slice_get lanes k ≡ slice_get lanes k) × (((l : Lane) × (k < length lanes) × (slice_get lanes k ≡ Some l) × (get_or lanes k l ≡ l)) ⊎ ((length lanes ≤ k) × (slice_get lanes k ≡ None))) → (get_or kinds k d).class < length table
      by_case (same, inl some) = (kind_at k some.0 (get_or kinds k d) some.2 (slice_get-get_or kinds k d within)).within
      by_case (same, inr past) = absurd (let each = so_far.one_each in let most = past.0 in omega (arith, each, most, within, all))

  wide_at : (class : ℕ) → class < length table → (length (beside_at table class).front ≡ length lanes) × (length (beside_at table class).behind ≡ length lanes)
  wide_at class in_table = by_case (slice_get_cases planes class)
    where
      by_case : (slice_get planes class ≡ slice_get planes class) × (((h : Plane) × (class < length planes) × (slice_get planes class ≡ Some h) × (get_or planes class h ≡ h)) ⊎ ((length planes ≤ class) × (slice_get planes class ≡ None))) →
          (length (beside_at table class).front ≡ length lanes) × (length (beside_at table class).behind ≡ length lanes)
      by_case (same, inl some) = let is = besides.each class some.0 some.2 in (is.front_wide, is.behind_wide)
      by_case (same, inr past) = absurd (let each = besides.one_each in let most = past.0 in omega (arith, each, most, in_table))

  pub table_all : IsTable portals lanes kinds table
  table_all = record {
    are_lanes = are;
    are_kinds = record {
      one_each = so_far.one_each ∙ all;
      within = kinds_within;
      front_wide = All-from_get_or (λ (beside : Beside). length beside.front ≡ length lanes) table no_beside (λ class in_table. (wide_at class in_table).0);
      behind_wide = All-from_get_or (λ (beside : Beside). length beside.behind ≡ length lanes) table no_beside (λ class in_table. (wide_at class in_table).1);
    };
    each = kind_at;
  }

-- ---- what the rows of a kind say

module _ (portals : List Portal) (lanes : List Lane) (plane : Plane) (k : ℕ) where
  pub front_of_flipped : IsFrontAt portals lanes (flipped plane) k ↔ IsBehindAt portals lanes plane k
  front_of_flipped = (
    (λ at. record { lane = at.lane; portal = at.portal; lane_is = at.lane_is; portal_is = at.portal_is; corner = (at.corner.0, at.corner.1, (flipped_in_front plane (corner_at at.portal.winding at.corner.0)).0 at.corner.2) }),
    (λ at. record { lane = at.lane; portal = at.portal; lane_is = at.lane_is; portal_is = at.portal_is; corner = (at.corner.0, at.corner.1, (flipped_in_front plane (corner_at at.portal.winding at.corner.0)).1 at.corner.2) }),
  )

  pub behind_of_flipped : IsBehindAt portals lanes (flipped plane) k ↔ IsFrontAt portals lanes plane k
  behind_of_flipped = (
    (λ at. record { lane = at.lane; portal = at.portal; lane_is = at.lane_is; portal_is = at.portal_is; corner = (at.corner.0, at.corner.1, (flipped_behind plane (corner_at at.portal.winding at.corner.0)).0 at.corner.2) }),
    (λ at. record { lane = at.lane; portal = at.portal; lane_is = at.lane_is; portal_is = at.portal_is; corner = (at.corner.0, at.corner.1, (flipped_behind plane (corner_at at.portal.winding at.corner.0)).1 at.corner.2) }),
  )

module _ (portals : List Portal) (lanes : List Lane) (table : List Beside) where
  pub ahead_says : (lane : Lane) (kind : Kind) → IsKindOf portals lanes table lane kind → (k : ℕ) → IsIn (ahead table kind) k ↔ IsFrontAt portals lanes (turned lane.front lane.plane) k
  unfolding ahead
  ahead_says lane kind is k = rw (← is.front) (by_side kind.front)
    where
      beside : Beside
      beside = beside_at table kind.class

      by_side : (front : Bool) → IsIn (if front then beside.front else beside.behind) k ↔ IsFrontAt portals lanes (turned front lane.plane) k
      by_side true = is.beside.front k
      by_side false = let other = front_of_flipped portals lanes lane.plane k in let says = is.beside.behind k in ((λ set_now. other.1 (says.0 set_now)), (λ at. says.1 (other.0 at)))

  pub back_says : (lane : Lane) (kind : Kind) → IsKindOf portals lanes table lane kind → (k : ℕ) → IsIn (back table kind) k ↔ IsBehindAt portals lanes (turned lane.front lane.plane) k
  unfolding back
  back_says lane kind is k = rw (← is.front) (by_side kind.front)
    where
      beside : Beside
      beside = beside_at table kind.class

      by_side : (front : Bool) → IsIn (if front then beside.behind else beside.front) k ↔ IsBehindAt portals lanes (turned front lane.plane) k
      by_side true = is.beside.behind k
      by_side false = let other = behind_of_flipped portals lanes lane.plane k in let says = is.beside.front k in ((λ set_now. other.1 (says.0 set_now)), (λ at. says.1 (other.0 at)))

-- a place for each lane
module _ (lanes : List Lane) (kinds : List Kind) (table : List Beside) (are : AreKinds lanes kinds table) (kind : Kind) (within : kind.class < length table) where
  pub ahead_wide : length (ahead table kind) ≡ length lanes
  unfolding ahead
  ahead_wide = by_side kind.front
    where
      by_side : (front : Bool) → length (if front then (beside_at table kind.class).front else (beside_at table kind.class).behind) ≡ length lanes
      by_side true = are.front_wide kind.class no_beside within
      by_side false = are.behind_wide kind.class no_beside within

  pub back_wide : length (back table kind) ≡ length lanes
  unfolding back
  back_wide = by_side kind.front
    where
      by_side : (front : Bool) → length (if front then (beside_at table kind.class).behind else (beside_at table kind.class).front) ≡ length lanes
      by_side true = are.behind_wide kind.class no_beside within
      by_side false = are.front_wide kind.class no_beside within

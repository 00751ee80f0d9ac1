-- The box of solids, by one solid after another: a full one holds the closure of its inside, a flat one holds nothing.
use Rattle.std.proofs.Common.{◌≡◌, ℤ, pos, neg_ℤ, ◌<ℤ◌, false, List, [], ◌∷◌, ◌++◌, All, Contains, get_or, map, subst, sym, arith, ⊎_elim}
use Rattle.std.proofs.Math.IntN.{*ℤ_comm}
use Rattle.std.proofs.lemmas.List.Elements.{Contains-append_left, Contains-append_right, Contains-append_cases}
use Rattle.qm_lists.proofs.Elements.{All-from_map, Contains-nil, Contains-first, Contains-cons_cases}
use Rattle.qm_numbers.proofs.IntegerProducts.{linear, *ℤ-neg}
use Rattle.qm_numbers.proofs.Signs.{cancel_less}
use Rattle.qm_space.specs.Bounds.{extent}
use Rattle.qm_space.specs.Point.{Point, IsWithinExtent}
use Rattle.qm_space.specs.Plane.{Plane, IsNotBehind}
use Rattle.qm_space.specs.Turned.{turned}
use Rattle.qm_space.specs.Cell.{HasPoint}
use Rattle.qm_space.specs.Cuboid.{Stretch, Cuboid, IsInStretch, IsInCuboid}
use Rattle.qm_space.proofs.Planes.{value_flipped}
use Rattle.qm_space.proofs.Cubes.{cube_in_closed}
use Rattle.qm_solids.specs.Solid.{Solid, inward}
use Rattle.qm_solids.specs.Holding.{IsFull, IsInFrontOfNone}
use Rattle.qm_solids.proofs.HeldPoints.{behind_no_inward}
use Rattle.qm_solids.proofs.Insides.{inside_in_front_of_none}
use Rattle.qm_facets.specs.Extent.{IsStretchWithin, IsCuboidWithin, HasEachPoint, IsInClosure}
use Rattle.qm_facets.specs.inner.Joined.{IsJoined, no_cuboid}
use Rattle.qm_facets.proofs.Joining.{in_wider, joined_nothing, joined_same, joined_more}
use Rattle.qm_outlines.specs.HeldPoints.{IsHeldPoint, IsModelBox, HasFull}

-- ---- one solid

pub full_of_point : (solid : Solid) → HasPoint (inward solid) → IsFull solid
full_of_point solid some = record { within = some.point; in_cube = some.in_cube; inside = some.in_cell }

pub point_of_full : (solid : Solid) → IsFull solid → HasPoint (inward solid)
point_of_full solid full = record { point = full.within; in_cube = full.in_cube; in_cell = full.inside }

behind_none : (outward : List Plane) (x : Point) → All (λ g. IsNotBehind g x) (map (turned false) outward) → IsInFrontOfNone outward x
behind_none outward x closed =
    let each = All-from_map (λ g. IsNotBehind g x) (turned false) outward closed in
    λ place h there. let its = value_flipped (get_or outward place h) x in let not = each place h there in omega (arith, linear, its, not)

-- only one is listed
only_listed : (solid other : Solid) → Contains (solid ∷ []) other → solid ≡ other
only_listed solid other listed = ⊎_elim (λ same. same) (λ later. absurd (Contains-nil other later)) (Contains-cons_cases solid other [] listed)

module _ (solid : Solid) where
  held_in_closure : (x : Point) → IsHeldPoint (solid ∷ []) x → IsInClosure (inward solid) x
  held_in_closure x held = record {
    in_cube = held.in_cube;
    not_behind = behind_no_inward solid.outward x (subst (λ (s : Solid). IsInFrontOfNone s.outward x) (sym (only_listed solid held.solid held.listed)) held.holds.not_in_front);
  }

  closure_is_held : IsFull solid → (x : Point) → IsInClosure (inward solid) x → IsHeldPoint (solid ∷ []) x
  closure_is_held full x closed = record {
    in_cube = closed.in_cube;
    solid = solid;
    listed = Contains-first solid [];
    holds = record { full = full; not_in_front = behind_none solid.outward x closed.not_behind };
  }

  -- a full one
  pub full_joined : (old new : Cuboid) → HasPoint (inward solid) → IsJoined old (HasEachPoint (IsInClosure (inward solid))) new → IsJoined old (HasEachPoint (IsHeldPoint (solid ∷ []))) new
  full_joined old new some joined = joined_same old new (HasEachPoint (IsInClosure (inward solid))) (HasEachPoint (IsHeldPoint (solid ∷ [])))
      (λ c. ((λ has x held. has x (held_in_closure x held)), (λ has x closed. has x (closure_is_held (full_of_point solid some) x closed)))) joined

  -- a flat one
  pub flat_joined : (old : Cuboid) → (HasPoint (inward solid) → ⊥) → IsJoined old (HasEachPoint (IsHeldPoint (solid ∷ []))) old
  flat_joined old never = joined_nothing old (HasEachPoint (IsHeldPoint (solid ∷ [])))
      (λ c x held. absurd (never (point_of_full solid (subst IsFull (sym (only_listed solid held.solid held.listed)) held.holds.full))))

-- ---- one solid more

held_wider : (solids : List Solid) (c d : Cuboid) → IsCuboidWithin c d → HasEachPoint (IsHeldPoint solids) c → HasEachPoint (IsHeldPoint solids) d
held_wider solids c d within has x held = in_wider c d x within held.in_cube.weight (has x held)

pub no_solids : (old : Cuboid) → IsJoined old (HasEachPoint (IsHeldPoint [])) old
no_solids old = joined_nothing old (HasEachPoint (IsHeldPoint [])) (λ c x held. absurd (Contains-nil held.solid held.listed))

pub solid_more : (old mid new : Cuboid) (solids : List Solid) (solid : Solid) → IsJoined old (HasEachPoint (IsHeldPoint solids)) mid → IsJoined mid (HasEachPoint (IsHeldPoint (solid ∷ []))) new → IsJoined old (HasEachPoint (IsHeldPoint (solids ++ solid ∷ []))) new
solid_more old mid new solids solid before one =
    joined_more old mid new (HasEachPoint (IsHeldPoint solids)) (HasEachPoint (IsHeldPoint (solid ∷ []))) (HasEachPoint (IsHeldPoint (solids ++ solid ∷ []))) (held_wider solids) (λ c. (both c, parts c)) before one
  where
    both : (c : Cuboid) → HasEachPoint (IsHeldPoint solids) c × HasEachPoint (IsHeldPoint (solid ∷ [])) c → HasEachPoint (IsHeldPoint (solids ++ solid ∷ [])) c
    both c has x held = ⊎_elim
        (λ first. has.0 x (record { in_cube = held.in_cube; solid = held.solid; listed = first; holds = held.holds }))
        (λ last. has.1 x (record { in_cube = held.in_cube; solid = held.solid; listed = last; holds = held.holds }))
        (Contains-append_cases solids (solid ∷ []) held.solid held.listed)

    parts : (c : Cuboid) → HasEachPoint (IsHeldPoint (solids ++ solid ∷ [])) c → HasEachPoint (IsHeldPoint solids) c × HasEachPoint (IsHeldPoint (solid ∷ [])) c
    parts c has = (
      (λ x held. has x (record { in_cube = held.in_cube; solid = held.solid; listed = Contains-append_left solids (solid ∷ []) held.solid held.listed; holds = held.holds })),
      (λ x held. has x (record { in_cube = held.in_cube; solid = held.solid; listed = Contains-append_right solids (solid ∷ []) held.solid held.listed; holds = held.holds })),
    )

-- ---- all of them

-- a stretch that has a coordinate inside the cube has the empty one within
empty_within : (coordinate w : ℤ) (stretch : Stretch) → pos 0 <ℤ w → IsWithinExtent coordinate w → IsInStretch stretch coordinate w → IsStretchWithin (record { low = extent; high = neg_ℤ extent }) stretch
empty_within coordinate w stretch weight inside has =
    let a = has.above in let b = has.below in let l = inside.above in let u = inside.below in
    let c = *ℤ_comm w stretch.low in let d = *ℤ_comm w stretch.high in let e = *ℤ_comm w extent in let f = *ℤ-neg w extent in
    let low = cancel_less w stretch.low extent weight (omega (arith, linear)) in
    let high = cancel_less w (neg_ℤ extent) stretch.high weight (omega (arith, linear)) in
    record { low = omega (arith, linear, low); high = omega (arith, linear, high) }

pub box_of_joined : (solids : List Solid) (box : Cuboid) → HasFull solids → IsJoined no_cuboid (HasEachPoint (IsHeldPoint solids)) box → IsModelBox solids box
box_of_joined solids box some joined = record {
  has_all = joined.has;
  least = λ other has. joined.least other (around other (has some.full.within held)) has;
}
  where
    held : IsHeldPoint solids some.full.within
    held = record {
      in_cube = cube_in_closed some.full.within some.full.in_cube;
      solid = some.solid;
      listed = some.listed;
      holds = record { full = some.full; not_in_front = inside_in_front_of_none some.solid some.full.within some.full.inside };
    }

    around : (other : Cuboid) → IsInCuboid other some.full.within → IsCuboidWithin no_cuboid other
    around other has =
        let x = some.full.within in
        let inside = some.full.in_cube in
        record {
          x = empty_within x.x x.w other.x inside.weight inside.x has.x;
          y = empty_within x.y x.w other.y inside.weight inside.y has.y;
          z = empty_within x.z x.w other.z inside.weight inside.z has.z;
        }

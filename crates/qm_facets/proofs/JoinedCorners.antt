-- A cuboid that grows by the corners of facets, one after another, until it has all of a body.
use Rattle.std.proofs.Common.{◌+◌, ◌<◌, ◌≤◌, ℕ, List, [], ◌∷◌, ◌++◌, get_or, length, subst, sym, refl, arith, Some, ⊎_elim}
use Rattle.std.proofs.lemmas.Bool.{cases_eq}
use Rattle.std.proofs.lemmas.List.Elements.{All-nil, All-push, All-pop, Contains-get_or}
use Rattle.qm_space.specs.Plane.{Plane}
use Rattle.qm_space.specs.Cuboid.{Cuboid, IsInCuboid}
use Rattle.qm_convex.specs.Winding.{Winding, corner_at, IsConvex}
use Rattle.qm_convex.specs.inner.Facets.{Facet}
use Rattle.qm_facets.specs.Body.{IsBody}
use Rattle.qm_facets.specs.Extent.{IsCuboidWithin, HasEachPoint, IsInClosure}
use Rattle.qm_facets.specs.inner.Joined.{IsJoined, HasCorners, HasCornersBefore, HasCornersOfAll, AreConvexFacets}
use Rattle.qm_facets.proofs.Bodies.{one_of_facets}
use Rattle.qm_facets.proofs.BodyCuboids.{cuboid_by_corners}
use Rattle.qm_facets.proofs.Joining.{in_wider, joined_nothing, joined_same, joined_more}

-- ---- the corners of a polygon

pub no_corners : (old : Cuboid) (v : Winding) → IsJoined old (HasCornersBefore v 0) old
no_corners old v = joined_nothing old (HasCornersBefore v 0) (λ c i within. absurd (omega arith))

wider_corners : (v : Winding) (n : ℕ) (c d : Cuboid) → IsConvex v → n ≤ length v.edges → IsCuboidWithin c d → HasCornersBefore v n c → HasCornersBefore v n d
wider_corners v n c d convex fits within has i below = in_wider c d (corner_at v i) within (convex.weight i (omega arith)) (has i below)

pub corner_more : (old mid new : Cuboid) (v : Winding) (n : ℕ) → IsConvex v → n < length v.edges → IsJoined old (HasCornersBefore v n) mid → IsJoined mid (λ c. IsInCuboid c (corner_at v n)) new → IsJoined old (HasCornersBefore v (n + 1)) new
corner_more old mid new v n convex within before one =
    joined_more old mid new (HasCornersBefore v n) (λ c. IsInCuboid c (corner_at v n)) (HasCornersBefore v (n + 1))
    (λ c d. wider_corners v n c d convex (omega arith)) (λ c. (both c, parts c)) before one
  where
    both : (c : Cuboid) → HasCornersBefore v n c × IsInCuboid c (corner_at v n) → HasCornersBefore v (n + 1) c
    both c has i below = ⊎_elim
        (λ same. subst (λ (k : ℕ). IsInCuboid c (corner_at v k)) (sym same) has.1)
        (λ other. has.0 i (omega (arith, other)))
        (cases_eq i n)

    parts : (c : Cuboid) → HasCornersBefore v (n + 1) c → HasCornersBefore v n c × IsInCuboid c (corner_at v n)
    parts c has = ((λ i below. has i (omega arith)), has n (omega arith))

pub all_corners : (old new : Cuboid) (v : Winding) (n : ℕ) → (n < length v.edges → ⊥) → IsJoined old (HasCornersBefore v n) new → n ≤ length v.edges → IsJoined old (HasCorners v) new
all_corners old new v n ended joined fits = joined_same old new (HasCornersBefore v n) (HasCorners v)
    (λ c. ((λ has i within. has i (⊎_elim (λ same. omega (arith, same)) (λ other. absurd (ended (omega (arith, other)))) (cases_eq n (length v.edges)))), (λ has i below. has i (omega arith)))) joined

-- ---- the corners of facets

pub no_facets : (old : Cuboid) → IsJoined old (HasCornersOfAll []) old
no_facets old = joined_nothing old (HasCornersOfAll []) (λ c. All-nil (λ (f : Facet). HasCorners f.winding c))

wider_facets : (facets : List Facet) (c d : Cuboid) → AreConvexFacets facets → IsCuboidWithin c d → HasCornersOfAll facets c → HasCornersOfAll facets d
wider_facets facets c d convex within has = λ place f there i below.
    in_wider c d (corner_at (get_or facets place f).winding i) within ((convex place f there).weight i below) (has place f there i below)

pub facet_more : (old mid new : Cuboid) (facets : List Facet) (found : Facet) → AreConvexFacets facets → IsJoined old (HasCornersOfAll facets) mid → IsJoined mid (HasCorners found.winding) new → IsJoined old (HasCornersOfAll (facets ++ found ∷ [])) new
facet_more old mid new facets found convex before one =
    joined_more old mid new (HasCornersOfAll facets) (HasCorners found.winding) (HasCornersOfAll (facets ++ found ∷ []))
    (λ c d. wider_facets facets c d convex)
    (λ c. (
      (λ has. All-push (λ (f : Facet). HasCorners f.winding c) facets found has.0 has.1),
      (λ has. All-pop (λ (f : Facet). HasCorners f.winding c) (facets ++ found ∷ []) facets (Some found) refl has),
    ))
    before one

-- ---- a body

pub convex_facets : (cell : List Plane) (facets : List Facet) → IsBody cell facets → AreConvexFacets facets
convex_facets cell facets body = λ place f there. (one_of_facets _ _ facets (get_or facets place f) body.are_facets (Contains-get_or facets place f there)).convex

pub body_joined : (cell : List Plane) (facets : List Facet) (old new : Cuboid) → IsBody cell facets → IsJoined old (HasCornersOfAll facets) new → IsJoined old (HasEachPoint (IsInClosure cell)) new
body_joined cell facets old new body joined = joined_same old new (HasCornersOfAll facets) (HasEachPoint (IsInClosure cell))
    (λ c. let law = cuboid_by_corners cell facets body c in (law.1, law.0)) joined

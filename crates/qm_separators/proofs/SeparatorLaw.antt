-- The law of a separator: what goes through the source and then through the pass goes on in front of it.
use Rattle.std.proofs.Common.{subst, arith, inl, inr, ⊎_elim}
use Rattle.qm_space.specs.Point.{Point}
use Rattle.qm_space.specs.Plane.{Plane, IsInFront, IsNotInFront, IsNotBehind, flipped}
use Rattle.qm_space.specs.Line.{IsBetween}
use Rattle.qm_numbers.proofs.IntegerProducts.{linear}
use Rattle.qm_space.proofs.Planes.{value_flipped}
use Rattle.qm_convex.specs.Winding.{Winding, corner_at, IsConvex, IsInRegion}
use Rattle.qm_convex.specs.Sides.{HasNoCornerInFront, HasNoCornerBehind}
use Rattle.qm_convex.proofs.Corners.{corners_length, corner_in_list}
use Rattle.qm_convex.proofs.Hull.{hull}
use Rattle.qm_convex.proofs.Central.{hull_strict, hull_in_front}
use Rattle.qm_segments.proofs.Betweenness.{beyond_in_front}
use Rattle.qm_separators.specs.Separator.{IsSeparator}

-- a plane that has no corner behind it has no point of the winding behind it
pub hull_not_behind : (v : Winding) (g : Plane) → IsConvex v → HasNoCornerBehind v g → (p : Point) → IsInRegion v p → IsNotBehind g p
hull_not_behind v g c a p r =
    let l = hull v (flipped g) c (λ i h. let f = a i h in let e = value_flipped g (corner_at v i) in omega (arith, linear)) p r in
    let e = value_flipped g p in
    omega (arith, linear)

-- a separator has no corner of the source in front
pub none_in_front : (s p : Winding) (h : Plane) → IsSeparator s p h → HasNoCornerInFront s h
none_in_front s p h is i below =
    let a = is.touches.none_in_front h.d (omega (arith, linear)) i (corner_at s i) (let e = corners_length s in omega arith) in
    subst (λ q. IsNotInFront h q) (corner_in_list s i (corner_at s i) below) a

-- what goes through the source and then through the pass is in front from there on
pub beyond_separator : (s p : Winding) (h : Plane) (u x y : Point) → IsConvex s → IsConvex p → IsSeparator s p h → IsInRegion s u → IsInRegion p x → IsBetween x u y → IsInFront h y
beyond_separator s p h u x y s_convex p_convex is in_source in_pass between =
    beyond_in_front h x u y between
    (hull s h s_convex (none_in_front s p h is) u in_source)
    (hull_not_behind p h p_convex is.in_front x in_pass)
    (⊎_elim
    (λ behind. inl (hull_strict s h s_convex (none_in_front s p h is) behind.0 behind.1 behind.2 u in_source))
    (λ front. inr (hull_in_front p h p_convex is.in_front front.0 front.1 front.2 x in_pass))
    is.strict)

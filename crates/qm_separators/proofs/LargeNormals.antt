-- Where the plane through three whole points is too fine, no plane with a small normal has the normal of the points.
use Rattle.std.proofs.Common.{◌≡◌, ◌≤◌, Bool, true, false, ℤ, pos, neg_ℤ, ap, sym, subst, ◌∙◌, arith, unsigned_abs}
use Rattle.std.proofs.lemmas.Int.{ints}
use Rattle.qm_numbers.proofs.IntegerProducts.{neg-*ℤ, *ℤ_zero}
use Rattle.qm_space.specs.Bounds.{normal_bound}
use Rattle.qm_space.specs.Point.{Point, point_times}
use Rattle.qm_space.specs.Plane.{Plane, flipped}
use Rattle.qm_space.specs.Vector.{normal_of}
use Rattle.qm_space.specs.Turned.{turned}
use Rattle.qm_space.specs.Reduced.{leads_positive, HasNormal, HasSmallNormal, HasLargeNormal}
use Rattle.qm_space.specs.ThreePoints.{outward_plane, common_factor, reduced, plane_through}
use Rattle.qm_space.proofs.Planes.{same_point}
use Rattle.qm_space.proofs.NormalSizes.{large_not_small, turned_small}
use Rattle.qm_space.proofs.TurnedPlanes.{turned_on, turned_has_normal}
use Rattle.qm_space.proofs.ReducedPlanes.{flipped_twice, flipped_has_normal, common_factor_positive}
use Rattle.qm_space.proofs.SpannedPlanes.{spanned_whole}
use Rattle.qm_separators.specs.Across.{HasLowestNormal, HasNormalOf}
use Rattle.qm_separators.specs.inner.NormalLike.{HasNormalLike, alike, opposite}
use Rattle.qm_separators.proofs.OutwardPlanes.{outward_holds_second}
use Rattle.qm_separators.proofs.Normals.{lowest_normal, normal_back, normal_alone}

-- ---- what has a small normal

pub alike_small : (g h : Plane) → normal_of g ≡ normal_of h → HasSmallNormal h → HasSmallNormal g
alike_small g h e small = record {
  x = subst (λ (n : ℤ). unsigned_abs n ≤ normal_bound) (sym (ap (λ (p : Point). p.x) e)) small.x;
  y = subst (λ (n : ℤ). unsigned_abs n ≤ normal_bound) (sym (ap (λ (p : Point). p.y) e)) small.y;
  z = subst (λ (n : ℤ). unsigned_abs n ≤ normal_bound) (sym (ap (λ (p : Point). p.z) e)) small.z;
}

like_small : (g h : Plane) → HasNormalLike g h → HasSmallNormal h → HasSmallNormal g
like_small g h (alike e) small = alike_small g h e small
like_small g h (opposite e) small = alike_small g (flipped h) e (turned_small false h small)

-- ---- the plane through the points has their normal

flipped_multiple : (h g : Plane) (k : ℤ) → normal_of h ≡ point_times k (normal_of g) → normal_of (flipped h) ≡ point_times (neg_ℤ k) (normal_of g)
flipped_multiple h g k e = same_point (normal_of (flipped h)) (point_times (neg_ℤ k) (normal_of g))
    (ap (λ (p : Point). neg_ℤ p.x) e ∙ sym (neg-*ℤ k g.nx))
    (ap (λ (p : Point). neg_ℤ p.y) e ∙ sym (neg-*ℤ k g.ny))
    (ap (λ (p : Point). neg_ℤ p.z) e ∙ sym (neg-*ℤ k g.nz))
    (sym (*ℤ_zero (neg_ℤ k)))

module _ (at from to : Point) (weight : from.w ≡ pos 1) (normal : HasNormal (outward_plane at from to)) where
  abbrev out : Plane
  out = outward_plane at from to

  lowest_of_side : (side : Bool) → HasLowestNormal (reduced (turned side out))
  lowest_of_side side = lowest_normal (turned side out) from weight ((turned_on side out from).1 (outward_holds_second at from to weight)) (turned_has_normal side out normal)

  of_side : (side : Bool) → HasNormalOf at from to (reduced (turned side out))
  of_side true =
      let some = common_factor_positive out normal in
      record {
        factor = pos (common_factor out);
        some_factor = λ z. absurd (omega (arith, ints));
        multiple = normal_back out;
        lowest = lowest_of_side true;
      }
  of_side false =
      let some = common_factor_positive (flipped out) (flipped_has_normal out normal) in
      record {
        factor = neg_ℤ (pos (common_factor (flipped out)));
        some_factor = λ z. absurd (omega (arith, ints));
        multiple = ap normal_of (sym (flipped_twice out)) ∙ flipped_multiple (flipped out) (reduced (flipped out)) (pos (common_factor (flipped out))) (normal_back (flipped out));
        lowest = lowest_of_side false;
      }

  through_normal : HasNormalOf at from to (plane_through at from to).0
  unfolding plane_through
  through_normal = subst (λ (q : Plane). HasNormalOf at from to (reduced (turned (leads_positive q) q))) (sym (spanned_whole at from to weight)) (of_side (leads_positive out))

  pub none_small : HasLargeNormal (plane_through at from to).0 → (h : Plane) → HasNormalOf at from to h → HasSmallNormal h → ⊥
  none_small large h is small =
      let g = (plane_through at from to).0 in
      large_not_small g large (like_small g h (normal_alone at from to g h through_normal is) small)

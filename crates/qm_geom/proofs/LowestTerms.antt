-- A plane's four numbers divided by their common factor, as the code divides them.
use Rattle.std.proofs.Common.{◌≡◌, ◌∙◌, ◌<◌, ◌≤◌, ℕ, ℤ, pos, int_div, unsigned_abs, w32, w64, ap, sym, subst, lit≤}
use mir.Syntax.{w128}
use Rattle.std.proofs.lemmas.Int.{to_z-of_z}
use Rattle.qm_numbers.proofs.Bits.{kept_32, kept_64}
use Rattle.qm_numbers.proofs.Kept.{kept, fits_64, fits_128}
use Rattle.qm_space.specs.Bounds.{normal_bound, distance_bound}
use Rattle.qm_space.specs.Plane.{Plane}
use Rattle.qm_space.specs.Reduced.{HasNormal, HasSmallNormal, HasLargeNormal, large_x, large_y, large_z, IsReduced}
use Rattle.qm_space.specs.ThreePoints.{common_factor, reduced}
use Rattle.qm_space.specs.inner.SpannedSizes.{HasSpannedSizes, IsWithinReach}
use Rattle.qm_space.proofs.ReducedPlanes.{same_plane, reduced_is_reduced}
use Rattle.qm_space.proofs.CubeDistances.{reach_of_plane, reduced_within_reach}
use Rattle.qm_geom.proofs.Vectors.{plane}

-- the plane g, of which h are the numbers that fields hold, and its common factor k
module _ (h g : Plane) (k : ℕ) (sizes : HasSpannedSizes h) (same : h ≡ g) (factor : k ≡ common_factor g) where
  abbrev x_part : ℤ
  x_part = int_div (kept w64 h.nx) (pos k)

  abbrev y_part : ℤ
  y_part = int_div (kept w64 h.ny) (pos k)

  abbrev z_part : ℤ
  z_part = int_div (kept w64 h.nz) (pos k)

  abbrev d_part : ℤ
  d_part = int_div (kept w128 h.d) (pos k)

  x_is : x_part ≡ (reduced g).nx
  unfolding reduced
  x_is = ap (λ (n : ℤ). int_div n (pos k)) (to_z-of_z w64 h.nx (fits_64 h.nx _ sizes.nx_small (lit≤ tt))) ∙ (λ i. int_div (same i).nx (pos (factor i)))

  y_is : y_part ≡ (reduced g).ny
  unfolding reduced
  y_is = ap (λ (n : ℤ). int_div n (pos k)) (to_z-of_z w64 h.ny (fits_64 h.ny _ sizes.ny_small (lit≤ tt))) ∙ (λ i. int_div (same i).ny (pos (factor i)))

  z_is : z_part ≡ (reduced g).nz
  unfolding reduced
  z_is = ap (λ (n : ℤ). int_div n (pos k)) (to_z-of_z w64 h.nz (fits_64 h.nz _ sizes.nz_small (lit≤ tt))) ∙ (λ i. int_div (same i).nz (pos (factor i)))

  d_is : d_part ≡ (reduced g).d
  unfolding reduced
  d_is = ap (λ (n : ℤ). int_div n (pos k)) (to_z-of_z w128 h.d (fits_128 h.d _ sizes.d_small (lit≤ tt))) ∙ (λ i. int_div (same i).d (pos (factor i)))

  -- a component that is too great
  pub large_by_x : normal_bound < unsigned_abs x_part → HasLargeNormal (reduced g)
  large_by_x l = large_x (subst (λ (n : ℤ). normal_bound < unsigned_abs n) x_is l)

  pub large_by_y : normal_bound < unsigned_abs y_part → HasLargeNormal (reduced g)
  large_by_y l = large_y (subst (λ (n : ℤ). normal_bound < unsigned_abs n) y_is l)

  pub large_by_z : normal_bound < unsigned_abs z_part → HasLargeNormal (reduced g)
  large_by_z l = large_z (subst (λ (n : ℤ). normal_bound < unsigned_abs n) z_is l)

  -- none is
  module _ (x y z : ℤ) (of_x : (x ≡ x_part) × unsigned_abs x ≤ normal_bound) (of_y : (y ≡ y_part) × unsigned_abs y ≤ normal_bound) (of_z : (z ≡ z_part) × unsigned_abs z ≤ normal_bound) (normal : HasNormal g) (within : IsWithinReach g) where
    small : HasSmallNormal (reduced g)
    small = record {
      x = subst (λ (n : ℤ). unsigned_abs n ≤ normal_bound) (of_x.0 ∙ x_is) of_x.1;
      y = subst (λ (n : ℤ). unsigned_abs n ≤ normal_bound) (of_y.0 ∙ y_is) of_y.1;
      z = subst (λ (n : ℤ). unsigned_abs n ≤ normal_bound) (of_z.0 ∙ z_is) of_z.1;
    }

    reduced_distance : unsigned_abs (reduced g).d ≤ distance_bound
    reduced_distance = reach_of_plane (reduced g) (reduced_within_reach g normal within) small

    pub distance_small : unsigned_abs d_part ≤ distance_bound
    distance_small = subst (λ (n : ℤ). unsigned_abs n ≤ distance_bound) (sym d_is) reduced_distance

    module _ (d : ℤ) (of_d : d ≡ d_part) where
      pub divided_is : plane (kept w32 x) (kept w32 y) (kept w32 z) (kept w64 d) ≡ reduced g
      divided_is = same_plane (plane (kept w32 x) (kept w32 y) (kept w32 z) (kept w64 d)) (reduced g)
          (kept_32 x normal_bound of_x.1 (lit≤ tt) ∙ of_x.0 ∙ x_is)
          (kept_32 y normal_bound of_y.1 (lit≤ tt) ∙ of_y.0 ∙ y_is)
          (kept_32 z normal_bound of_z.1 (lit≤ tt) ∙ of_z.0 ∙ z_is)
          (kept_64 d distance_bound (subst (λ (n : ℤ). unsigned_abs n ≤ distance_bound) (sym of_d) distance_small) (lit≤ tt) ∙ of_d ∙ d_is)

      pub divided_is_reduced : IsReduced (plane (kept w32 x) (kept w32 y) (kept w32 z) (kept w64 d))
      divided_is_reduced = subst IsReduced (sym divided_is) (reduced_is_reduced g normal small reduced_distance)

      pub divided_is_small : HasSmallNormal (plane (kept w32 x) (kept w32 y) (kept w32 z) (kept w64 d))
      divided_is_small = subst (λ (p : Plane). HasSmallNormal p) (sym divided_is) small

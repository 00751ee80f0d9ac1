-- A normal in lowest terms has all planes that have the normal of its points.
use Rattle.std.proofs.Common.{◌≡◌, ℕ, ◌<◌, ◌≤◌, false, ℤ, pos, neg_ℤ, ◌+ℤ◌, ◌-ℤ◌, ◌*ℤ◌, ◌<ℤ◌, w32, w64, List, refl, ap, sym, subst, ◌∙◌, arith, unsigned_abs, int_div, ◌⊎◌, inl, inr, ⊎_elim}
use Rattle.std.specs.Int.{◌∣◌}
use Rattle.std.proofs.lemmas.Int.{ints}
use Rattle.std.proofs.lemmas.Nat.Gcd.{dvd-zero, dvd_trans, dvd_antisymm}
use Rattle.qm_numbers.specs.Gcd.{gcd, gcd_within}
use Rattle.qm_numbers.proofs.IntegerProducts.{linear, *ℤ_zero}
use Rattle.qm_numbers.proofs.Signs.{zero_beside}
use Rattle.qm_numbers.proofs.Kept.{kept, quotient_small}
use Rattle.qm_numbers.proofs.Divisors.{gcd_divides_left, gcd_divides_right, divides_gcd}
use Rattle.qm_space.specs.Bounds.{normal_bound, whole_normal_bound}
use Rattle.qm_space.specs.Point.{Point, point_times}
use Rattle.qm_space.specs.Plane.{Plane, value, IsOn, flipped}
use Rattle.qm_space.specs.Vector.{normal_of}
use Rattle.qm_space.specs.Reduced.{HasNormal, HasSmallNormal, HasLargeNormal, IsReduced}
use Rattle.qm_space.specs.ThreePoints.{outward_plane, common_factor, reduced}
use Rattle.qm_space.proofs.NormalSizes.{large_not_small, turned_small}
use Rattle.qm_space.proofs.ReducedPlanes.{flipped_twice, common_factor_positive, divides_common_factor, common_factor_divides}
use Rattle.qm_convex.specs.Winding.{Winding, corners}
use Rattle.qm_geom.specs.declared.vector.Vector.{Vector}
use Rattle.qm_geom.specs.Vectors.{direction_of, HasSmallComponents}
use Rattle.qm_geom.proofs.Vectors.{plane}
use Rattle.qm_geom.proofs.LowestTerms.{large_by_x, large_by_y, large_by_z, divided_is, divided_is_reduced, divided_is_small}
use Rattle.qm_space.specs.inner.SpannedSizes.{HasSpannedSizes, IsWithinReach}
use Rattle.qm_separators.specs.Across.{HasLowestNormal, HasNormalOf, HasNormalAcross}
use Rattle.qm_separators.specs.Gains.{Gains}
use Rattle.qm_separators.specs.Separator.{IsSeparator}
use Rattle.qm_separators.specs.inner.NormalLike.{HasNormalLike, alike, opposite}
use Rattle.qm_separators.specs.inner.Found.{PartsAlong, AreCandidate, SeparatesBy}
use Rattle.qm_separators.proofs.FoundPlanes.{of_both}
use Rattle.qm_separators.proofs.GainedPlanes.{gains_none, gains_alike, gains_both}
use Rattle.qm_separators.proofs.LargeNormals.{alike_small}
use Rattle.qm_separators.proofs.Normals.{lowest_normal, normal_back, normal_alone, like_lowest, flipped_lowest_normal, lowest_has_normal}
use Rattle.qm_narrow.proofs.Outlooks.{times_back}
use Rattle.qm_narrow.specs.inner.Lowest.{level, IsLowestOf, HasNoLowest}

-- ---- the factor

module _ (n : Vector) where
  abbrev pub in_turn : ℕ
  in_turn = gcd (gcd (unsigned_abs n.x) (unsigned_abs n.y)) (unsigned_abs n.z)

  pub factor_in_turn : in_turn ≡ common_factor (level n)
  factor_in_turn = dvd_antisymm factor common
    where
      two : ℕ
      two = gcd (unsigned_abs n.x) (unsigned_abs n.y)

      left : in_turn ∣ two
      left = gcd_divides_left two (unsigned_abs n.z)

      factor : in_turn ∣ common_factor (level n)
      factor = divides_common_factor in_turn (level n) (record {
        nx = dvd_trans in_turn left (gcd_divides_left (unsigned_abs n.x) (unsigned_abs n.y));
        ny = dvd_trans in_turn left (gcd_divides_right (unsigned_abs n.x) (unsigned_abs n.y));
        nz = gcd_divides_right two (unsigned_abs n.z);
        d = dvd-zero in_turn;
      })

      common : common_factor (level n) ∣ in_turn
      common = let c = common_factor_divides (level n) in divides_gcd two (unsigned_abs n.z) (common_factor (level n)) (divides_gcd (unsigned_abs n.x) (unsigned_abs n.y) (common_factor (level n)) c.nx c.ny) c.nz

  -- ---- a plane with its quotients

  abbrev origin : Point
  origin = record { x = pos 0; y = pos 0; z = pos 0; w = pos 1 }

  holds : IsOn (level n) origin
  unfolding value
  holds =
      let x = *ℤ_zero n.x in let y = *ℤ_zero n.y in let z = *ℤ_zero n.z in
      (λ i. ((x i +ℤ y i) +ℤ z i) -ℤ (pos 0 *ℤ pos 1))

  module _ (some : 0 < common_factor (level n)) where
    has_normal : HasNormal (level n)
    unfolding gcd gcd_within
    has_normal x y z =
        let zero : in_turn ≡ 0 = (λ i. gcd (gcd (unsigned_abs (x i)) (unsigned_abs (y i))) (unsigned_abs (z i))) in
        let same = factor_in_turn in
        absurd (omega (arith, zero, same, some))

    reduced_lowest : HasLowestNormal (reduced (level n))
    reduced_lowest = lowest_normal (level n) origin refl holds has_normal

    positive : pos 0 <ℤ pos (common_factor (level n))
    positive = omega (arith, ints)

    pub lowest_by : (h : Plane) → normal_of h ≡ normal_of (reduced (level n)) → HasSmallNormal h → IsLowestOf n h
    lowest_by h same small = record {
      factor = pos (common_factor (level n));
      positive = positive;
      multiple = normal_back (level n) ∙ ap (point_times (pos (common_factor (level n)))) (sym same);
      lowest = like_lowest h (reduced (level n)) same reduced_lowest;
      small = small;
    }

    pub none_by_large : HasLargeNormal (reduced (level n)) → HasNoLowest n
    none_by_large large at from to h through is small = by_like (normal_alone at from to h g is its)
      where
        g : Plane
        g = reduced (level n)

        its : HasNormalOf at from to g
        its = record {
          factor = pos (common_factor (level n));
          some_factor = λ z. absurd (omega (arith, ints, some));
          multiple = sym through ∙ normal_back (level n);
          lowest = reduced_lowest;
        }

        by_like : HasNormalLike h g → ⊥
        by_like (alike e) = large_not_small g large (alike_small g h (sym e) small)
        by_like (opposite e) = large_not_small g large (subst HasSmallNormal (flipped_twice g) (turned_small false (flipped g) (alike_small (flipped g) h (sym e) small)))

    module _ (small : HasSmallComponents n whole_normal_bound) (k : ℕ) (factor : k ≡ common_factor (level n)) where
      sizes : HasSpannedSizes (level n)
      sizes = let x = small.x_small in let y = small.y_small in let z = small.z_small in record { nx_small = omega arith; ny_small = omega arith; nz_small = omega arith; d_small = omega arith }

      pub none_by_x : normal_bound < unsigned_abs (int_div (kept w64 n.x) (pos k)) → HasNoLowest n
      none_by_x l = none_by_large (large_by_x (level n) (level n) k sizes refl factor l)

      pub none_by_y : normal_bound < unsigned_abs (int_div (kept w64 n.y) (pos k)) → HasNoLowest n
      none_by_y l = none_by_large (large_by_y (level n) (level n) k sizes refl factor l)

      pub none_by_z : normal_bound < unsigned_abs (int_div (kept w64 n.z) (pos k)) → HasNoLowest n
      none_by_z l = none_by_large (large_by_z (level n) (level n) k sizes refl factor l)

      module _ (x y z : ℤ) (of_x : (x ≡ int_div (kept w64 n.x) (pos k)) × unsigned_abs x ≤ normal_bound) (of_y : (y ≡ int_div (kept w64 n.y) (pos k)) × unsigned_abs y ≤ normal_bound) (of_z : (z ≡ int_div (kept w64 n.z) (pos k)) × unsigned_abs z ≤ normal_bound) where
        abbrev through_origin : Plane
        through_origin = plane (kept w32 x) (kept w32 y) (kept w32 z) (pos 0)

        within : IsWithinReach (level n)
        within = omega arith

        of_d : pos 0 ≡ int_div (pos 0) (pos k)
        of_d = let e = quotient_small (pos 0) k in omega (arith, ints)

        pub origin_is_reduced : IsReduced through_origin
        origin_is_reduced = divided_is_reduced (level n) (level n) k sizes refl factor x y z of_x of_y of_z has_normal within (pos 0) of_d

        pub origin_is_lowest : IsLowestOf n through_origin
        origin_is_lowest = lowest_by through_origin
            (ap normal_of (divided_is (level n) (level n) k sizes refl factor x y z of_x of_y of_z has_normal within (pos 0) of_d))
            (divided_is_small (level n) (level n) k sizes refl factor x y z of_x of_y of_z has_normal within (pos 0) of_d)

  pub none_by_zero : common_factor (level n) ≡ 0 → HasNoLowest n
  none_by_zero zero at from to h through is small = let some = common_factor_positive (level n) normal in absurd (omega arith)
    where
      multiple : direction_of n ≡ point_times is.factor (normal_of h)
      multiple = through ∙ is.multiple

      normal : HasNormal (level n)
      normal x y z = lowest_has_normal h is.lowest
          (zero_beside is.factor h.nx is.some_factor (sym (ap (λ (p : Point). p.x) multiple) ∙ x))
          (zero_beside is.factor h.ny is.some_factor (sym (ap (λ (p : Point). p.y) multiple) ∙ y))
          (zero_beside is.factor h.nz is.some_factor (sym (ap (λ (p : Point). p.z) multiple) ∙ z))

-- ---- what is gained by it

module _ (s p : Winding) (at from to : Point) (candidate : AreCandidate s p at from to) (n : Vector) (through : direction_of n ≡ normal_of (outward_plane at from to)) where
  pub gains_nothing : HasNoLowest n → (old : List Plane) → Gains (SeparatesBy s p at from to) old old
  gains_nothing none old = gains_none (SeparatesBy s p at from to) old (λ h sep. none at from to h through sep.1 sep.0.small)

  module _ (plane : Plane) (is : IsLowestOf n plane) where
    its_normal : HasNormalOf at from to plane
    its_normal = record {
      factor = is.factor;
      some_factor = λ z. let l = is.positive in absurd (omega (arith, linear));
      multiple = sym through ∙ is.multiple;
      lowest = is.lowest;
    }

    -- it has the normal of the points to either side
    either_side : (h : Plane) → HasNormalLike h plane → HasNormalOf at from to h
    unfolding its_normal
    either_side h (alike e) = record { factor = is.factor; some_factor = its_normal.some_factor; multiple = its_normal.multiple ∙ ap (point_times is.factor) (sym e); lowest = like_lowest h plane e is.lowest }
    either_side h (opposite e) = record {
      factor = neg_ℤ is.factor;
      some_factor = λ z. let l = is.positive in absurd (omega (arith, linear));
      multiple = its_normal.multiple ∙ times_back is.factor plane ∙ ap (point_times (neg_ℤ is.factor)) (sym e);
      lowest = like_lowest h (flipped plane) e (flipped_lowest_normal plane is.lowest);
    }

    across : (h : Plane) → HasNormalOf at from to h → HasNormalAcross (corners s) (corners p) h ⊎ HasNormalAcross (corners p) (corners s) h
    across h normal = ⊎_elim (λ are. inl (of_both s p at from to h are normal)) (λ are. inr (of_both p s at from to h are normal)) candidate

    separates : (along h : Plane) → HasSmallNormal along → PartsAlong s p along h → HasNormalOf at from to h → SeparatesBy s p at from to h
    separates along h small parts normal = (
      record {
        across = across h normal;
        touches = parts.touches;
        in_front = parts.parts.in_front;
        strict = parts.parts.strict;
        small = alike_small h along parts.normal small;
      },
      normal,
    )

    parts_along : (along h : Plane) → normal_of h ≡ normal_of along → IsSeparator s p h → PartsAlong s p along h
    parts_along along h e sep = record { normal = e; touches = sep.touches; parts = record { in_front = sep.in_front; strict = sep.strict } }

    by_side : (h : Plane) → IsSeparator s p h → HasNormalLike h plane → PartsAlong s p plane h ⊎ PartsAlong s p (flipped plane) h
    by_side h sep (alike e) = inl (parts_along plane h e sep)
    by_side h sep (opposite e) = inr (parts_along (flipped plane) h e sep)

    pub gains_both_sides : (old mid new : List Plane) → Gains (PartsAlong s p plane) old mid → Gains (PartsAlong s p (flipped plane)) mid new → Gains (SeparatesBy s p at from to) old new
    gains_both_sides old mid new first second = gains_alike (λ h. PartsAlong s p plane h ⊎ PartsAlong s p (flipped plane) h) (SeparatesBy s p at from to) old new
        (λ h. (
          (λ either. ⊎_elim
              (λ a. separates plane h is.small a (either_side h (alike a.normal)))
              (λ a. separates (flipped plane) h (turned_small false plane is.small) a (either_side h (opposite a.normal)))
              either),
          (λ sep. by_side h sep.0 (normal_alone at from to h plane sep.1 its_normal)),
        ))
        (gains_both (PartsAlong s p plane) (PartsAlong s p (flipped plane)) old mid new first second)

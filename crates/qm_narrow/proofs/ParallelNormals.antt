-- Normals that are multiples of a plane's, as products of their components and signs tell.
use Rattle.std.proofs.Common.{◌≡◌, true, false, ℤ, pos, ◌+ℤ◌, ◌*ℤ◌, ◌<ℤ◌, [], ◌∷◌, refl, ap, sym, ◌∙◌, arith, neg_ℤ, ⊎_elim}
use Rattle.std.specs.Prelude.{int_lt}
use Rattle.qm_numbers.proofs.IntegerProducts.{linear, *ℤ_one, *ℤ_zero, zero_*ℤ, +ℤ-*ℤ, *ℤ-neg}
use Rattle.qm_numbers.proofs.Divisors.{lowest_combination}
use Rattle.qm_numbers.proofs.Signs.{by_sign, side_test, negative_times_negative, negative_times_positive, zero_beside_positive}
use Rattle.qm_numbers.proofs.Ring.{variable, ◌⊕◌, ◌⊗◌, solved}
use Rattle.qm_space.specs.Point.{Point, point_times}
use Rattle.qm_space.specs.Plane.{Plane, flipped}
use Rattle.qm_space.specs.Vector.{normal_of}
use Rattle.qm_space.proofs.Planes.{same_point}
use Rattle.qm_geom.specs.declared.vector.Vector.{Vector}
use Rattle.qm_geom.specs.Vectors.{direction_of}
use Rattle.qm_separators.specs.Across.{HasLowestNormal}
use Rattle.qm_separators.proofs.Normals.{lowest_has_normal, normal_alone}
use Rattle.qm_separators.specs.inner.NormalLike.{HasNormalLike, alike, opposite}
use Rattle.qm_space.specs.ThreePoints.{outward_plane}
use Rattle.qm_narrow.specs.inner.FoundPlanes.{IsAlong}

-- where the parts of b beside those of a are the same, the sums of parts are
total : (i j k a b c u v w : ℤ) → ((i *ℤ a) +ℤ (j *ℤ b)) +ℤ (k *ℤ c) ≡ pos 1 → (r s : ℤ) → u *ℤ r ≡ s *ℤ a → v *ℤ r ≡ s *ℤ b → w *ℤ r ≡ s *ℤ c → (((i *ℤ u) +ℤ (j *ℤ v)) +ℤ (k *ℤ w)) *ℤ r ≡ s
total i j k a b c u v w one r s x y z =
    let t = variable in
    solved (i ∷ j ∷ k ∷ u ∷ v ∷ w ∷ r ∷ []) (((t 0 ⊗ t 3 ⊕ t 1 ⊗ t 4) ⊕ t 2 ⊗ t 5) ⊗ t 6) ((t 0 ⊗ (t 3 ⊗ t 6) ⊕ t 1 ⊗ (t 4 ⊗ t 6)) ⊕ t 2 ⊗ (t 5 ⊗ t 6)) tt
    ∙ (λ p. ((i *ℤ x p) +ℤ (j *ℤ y p)) +ℤ (k *ℤ z p))
    ∙ solved (i ∷ j ∷ k ∷ a ∷ b ∷ c ∷ s ∷ []) ((t 0 ⊗ (t 6 ⊗ t 3) ⊕ t 1 ⊗ (t 6 ⊗ t 4)) ⊕ t 2 ⊗ (t 6 ⊗ t 5)) (t 6 ⊗ ((t 0 ⊗ t 3 ⊕ t 1 ⊗ t 4) ⊕ t 2 ⊗ t 5)) tt
    ∙ ap (λ q. s *ℤ q) one ∙ *ℤ_one s

-- ---- a normal in lowest terms, and one that points where it does

module _ (n : Vector) (g : Plane) (lowest : HasLowestNormal g) (along : IsAlong n g) where
  factor_of : (m : ℤ) × (direction_of n ≡ point_times m (normal_of g))
  factor_of =
      let c = lowest_combination g.nx g.ny g.nz (pos 0) (λ k x y z d. lowest k x y z) in
      let one : ((c.i *ℤ g.nx) +ℤ (c.j *ℤ g.ny)) +ℤ (c.k *ℤ g.nz) ≡ pos 1 = let e = c.total in let f = *ℤ_zero c.l in omega (arith, linear) in
      let m = ((c.i *ℤ n.x) +ℤ (c.j *ℤ n.y)) +ℤ (c.k *ℤ n.z) in (
        m,
        same_point (direction_of n) (point_times m (normal_of g))
            (sym (total c.i c.j c.k g.nx g.ny g.nz n.x n.y n.z one g.nx n.x refl (sym along.xy) along.zx))
            (sym (total c.i c.j c.k g.nx g.ny g.nz n.x n.y n.z one g.ny n.y along.xy refl (sym along.yz)))
            (sym (total c.i c.j c.k g.nx g.ny g.nz n.x n.y n.z one g.nz n.z (sym along.zx) along.yz refl))
            (sym (*ℤ_zero m)),
      )

  -- of a component and its negative multiple, of one sign, the component is zero
  vanishes : (m a u : ℤ) → m <ℤ pos 0 → u ≡ m *ℤ a → int_lt u (pos 0) ≡ int_lt a (pos 0) → a ≡ pos 0
  vanishes m a u negative e sign = by_sign a
      (λ below. let p = negative_times_negative m a negative below in ⊎_elim
      (λ s. absurd (omega (arith, linear, s, p, e)))
      (λ s. let never : false ≡ true = sym s.0 ∙ sign ∙ lt_true a below in cc)
      (side_test u))
      (λ zero. zero)
      (λ above. let p = negative_times_positive m a negative above in ⊎_elim
      (λ s. let never : true ≡ false = sym s.0 ∙ sign ∙ lt_false a above in cc)
      (λ s. absurd (omega (arith, linear, s, p, e)))
      (side_test u))
    where
      lt_true : (a : ℤ) → a <ℤ pos 0 → int_lt a (pos 0) ≡ true
      lt_true a l = ⊎_elim (λ s. s.0) (λ s. let k = s.1 in absurd (omega (arith, linear))) (side_test a)

      lt_false : (a : ℤ) → pos 0 <ℤ a → int_lt a (pos 0) ≡ false
      lt_false a l = ⊎_elim (λ s. let k = s.1 in absurd (omega (arith, linear))) (λ s. s.0) (side_test a)

  not_below : (m : ℤ) → direction_of n ≡ point_times m (normal_of g) → m <ℤ pos 0 → ⊥
  not_below m e negative = lowest_has_normal g lowest
      (vanishes m g.nx n.x negative (ap (λ (p : Point). p.x) e) along.x_sign)
      (vanishes m g.ny n.y negative (ap (λ (p : Point). p.y) e) along.y_sign)
      (vanishes m g.nz n.z negative (ap (λ (p : Point). p.z) e) along.z_sign)

  -- a plane of which it is a positive multiple has the normal of the other
  module _ (at from to : Point) (through : direction_of n ≡ normal_of (outward_plane at from to)) (h : Plane) (h_lowest : HasLowestNormal h) (k : ℤ) (positive : pos 0 <ℤ k) (multiple : direction_of n ≡ point_times k (normal_of h)) where
    abbrev m : ℤ
    m = factor_of.0

    both : point_times k (normal_of h) ≡ point_times m (normal_of g)
    both = sym multiple ∙ factor_of.1

    some_factor : m ≡ pos 0 → ⊥
    some_factor zero = lowest_has_normal h h_lowest
        (gone h.nx g.nx (ap (λ (p : Point). p.x) both))
        (gone h.ny g.ny (ap (λ (p : Point). p.y) both))
        (gone h.nz g.nz (ap (λ (p : Point). p.z) both))
      where
        gone : (a b : ℤ) → k *ℤ a ≡ m *ℤ b → a ≡ pos 0
        gone a b e = zero_beside_positive k a positive (e ∙ ap (λ (j : ℤ). j *ℤ b) zero ∙ zero_*ℤ b)

    not_opposite : pos 0 <ℤ m → normal_of h ≡ normal_of (flipped g) → ⊥
    not_opposite above e = lowest_has_normal g lowest
        (gone h.nx g.nx (ap (λ (p : Point). p.x) both) (ap (λ (p : Point). p.x) e))
        (gone h.ny g.ny (ap (λ (p : Point). p.y) both) (ap (λ (p : Point). p.y) e))
        (gone h.nz g.nz (ap (λ (p : Point). p.z) both) (ap (λ (p : Point). p.z) e))
      where
        gone : (a b : ℤ) → k *ℤ a ≡ m *ℤ b → a ≡ neg_ℤ b → b ≡ pos 0
        gone a b e f =
            let s = +ℤ-*ℤ k m b in let t = *ℤ-neg k b in let u = ap (λ (z : ℤ). k *ℤ z) f in
            zero_beside_positive (k +ℤ m) b (omega (arith, linear)) (omega (arith, linear))

    by_like : pos 0 <ℤ m → HasNormalLike h g → normal_of h ≡ normal_of g
    by_like above (alike e) = e
    by_like above (opposite e) = absurd (not_opposite above e)

    pub same_normal : normal_of h ≡ normal_of g
    same_normal = by_sign m
        (λ negative. absurd (not_below m factor_of.1 negative))
        (λ zero. absurd (some_factor zero))
        (λ above. by_like above (normal_alone at from to h g
        (record { factor = k; some_factor = λ z. absurd (omega (arith, linear)); multiple = sym through ∙ multiple; lowest = h_lowest })
        (record { factor = m; some_factor = some_factor; multiple = sym through ∙ factor_of.1; lowest = lowest })))

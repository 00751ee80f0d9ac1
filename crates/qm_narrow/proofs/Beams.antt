-- What beams of lines go through, and that what each point of a winding sees so is cut off by no separator.
use Rattle.std.proofs.Common.{◌≡◌, ◌∙◌, refl, ℕ, ◌<◌, Bool, true, false, cond, ℤ, pos, neg_ℤ, ◌+ℤ◌, ◌-ℤ◌, ◌*ℤ◌, ◌<ℤ◌, ◌≤ℤ◌, FitsSigned, w64, [], ◌∷◌, All, length, ap, sym, subst, arith, ⊎_elim}
use Rattle.std.specs.Int.{w128}
use Rattle.std.specs.Prelude.{int_lt, IsTrue, ◌↔◌}
use Rattle.std.proofs.lemmas.Int.{ints, to_z-of_z}
use Rattle.std.proofs.Math.IntN.{*ℤ_comm}
use Rattle.qm_numbers.proofs.IntegerProducts.{linear, -ℤ-*ℤ, neg-*ℤ}
use Rattle.qm_numbers.proofs.Signs.{side_test, times_at_most, product_positive, positive_times_negative}
use Rattle.qm_numbers.proofs.Kept.{kept}
use Rattle.qm_numbers.proofs.Ring.{variable, negated, ◌⊕◌, ◌⊗◌, solved}
use Rattle.qm_space.specs.Point.{Point, point_sum, point_times}
use Rattle.qm_space.specs.Plane.{Plane, value, flipped, IsOn, IsBehind, IsInFront, IsNotInFront}
use Rattle.qm_space.specs.Line.{IsBetween}
use Rattle.qm_space.specs.Turned.{turned}
use Rattle.qm_space.specs.Cuboid.{IsInStretch, least_product, greatest_product, least_value, greatest_value}
use Rattle.qm_space.proofs.Planes.{same_point, flipped_in_front}
use Rattle.qm_space.proofs.TurnedPlanes.{turned_on}
use Rattle.qm_space.proofs.Cuboids.{least_product_bound, greatest_product_bound, least_value_bound, greatest_value_bound}
use Rattle.qm_space.proofs.Crossings.{through, value_through, crossing_on, crossing_weight}
use Rattle.qm_convex.specs.Winding.{Winding, corner_at, IsInRegion, IsConvex}
use Rattle.qm_convex.specs.Sides.{IsWhollyInFront}
use Rattle.qm_convex.proofs.Central.{wholly_in_front}
use Rattle.qm_separators.specs.Separator.{IsSeparator}
use Rattle.qm_separators.proofs.SeparatorLaw.{beyond_separator}
use Rattle.qm_narrow.specs.declared.beam.Beam.{Beam}
use Rattle.qm_narrow.specs.declared.crossing.Crossing.{Crossing}
use Rattle.qm_narrow.specs.inner.Beam.{SeesThrough, IsOfBeam, IsBeamCrossing, IsCrossedAhead}

-- ---- numbers

-- b at least so much at the beginning, u at the end; a and v the values of the plane that is crossed at the end and at the
-- beginning; l and g the products of the one and the other as the code finds them
module _ (a v s t b u l g p q : ℤ) (p_positive : pos 0 <ℤ p) (q_positive : pos 0 <ℤ q) where
  forward : pos 0 <ℤ a → (b *ℤ p) ≤ℤ s → (l *ℤ q) ≤ℤ (b *ℤ a) → (l *ℤ (p *ℤ q)) ≤ℤ (a *ℤ s)
  forward positive begin least =
      let x = times_at_most a (b *ℤ p) s (omega (arith, linear)) begin in
      let y = times_at_most p (l *ℤ q) (b *ℤ a) (omega (arith, linear)) least in
      let n = variable in
      let e = solved (a ∷ b ∷ p ∷ []) (n 0 ⊗ (n 1 ⊗ n 2)) (n 2 ⊗ (n 1 ⊗ n 0)) tt in
      let f = solved (l ∷ p ∷ q ∷ []) (n 0 ⊗ (n 1 ⊗ n 2)) (n 1 ⊗ (n 0 ⊗ n 2)) tt in
      omega (arith, linear, x, y, e, f)

  backward : v <ℤ pos 0 → (u *ℤ q) ≤ℤ t → (u *ℤ v) ≤ℤ (g *ℤ p) → (v *ℤ t) ≤ℤ (g *ℤ (p *ℤ q))
  backward negative end greatest =
      let x = times_at_most (neg_ℤ v) (u *ℤ q) t (omega (arith, linear)) end in
      let y = times_at_most q (u *ℤ v) (g *ℤ p) (omega (arith, linear)) greatest in
      let i = neg-*ℤ v (u *ℤ q) in let j = neg-*ℤ v t in
      let n = variable in
      let e = solved (v ∷ u ∷ q ∷ []) (n 0 ⊗ (n 1 ⊗ n 2)) (n 2 ⊗ (n 1 ⊗ n 0)) tt in
      let f = solved (g ∷ p ∷ q ∷ []) (n 0 ⊗ (n 1 ⊗ n 2)) (n 2 ⊗ (n 0 ⊗ n 1)) tt in
      omega (arith, linear, x, y, e, f, i, j)

  apart : g <ℤ l → (g *ℤ (p *ℤ q)) <ℤ (l *ℤ (p *ℤ q))
  apart less =
      let m = product_positive (l -ℤ g) (p *ℤ q) (omega (arith, linear)) (product_positive p q p_positive q_positive) in
      let e = -ℤ-*ℤ l g (p *ℤ q) in
      omega (arith, linear)

-- ---- products, as the code finds them

module _ (n low high r : ℤ) (n_fits : FitsSigned w64 n) (low_fits : FitsSigned w64 low) (high_fits : FitsSigned w64 high) (r_fits : FitsSigned w128 r) where
  pub least_below : n <ℤ pos 0 → r ≡ kept w64 n *ℤ kept w64 high → kept w128 r ≡ least_product n (record { low = low; high = high })
  unfolding least_product
  least_below below e =
      to_z-of_z w128 r r_fits ∙ e ∙ (λ i. to_z-of_z w64 n n_fits i *ℤ to_z-of_z w64 high high_fits i)
      ∙ ⊎_elim
      (λ t. sym (ap (λ (b : Bool). cond b (n *ℤ high) (n *ℤ low)) t.0))
      (λ t. let other = t.1 in absurd (omega (arith, ints)))
      (side_test n)

  pub least_not_below : pos 0 ≤ℤ n → r ≡ kept w64 n *ℤ kept w64 low → kept w128 r ≡ least_product n (record { low = low; high = high })
  unfolding least_product
  least_not_below not e =
      to_z-of_z w128 r r_fits ∙ e ∙ (λ i. to_z-of_z w64 n n_fits i *ℤ to_z-of_z w64 low low_fits i)
      ∙ ⊎_elim
      (λ t. let other = t.1 in absurd (omega (arith, ints)))
      (λ t. sym (ap (λ (b : Bool). cond b (n *ℤ high) (n *ℤ low)) t.0))
      (side_test n)

  pub greatest_below : n <ℤ pos 0 → r ≡ kept w64 n *ℤ kept w64 low → kept w128 r ≡ greatest_product n (record { low = low; high = high })
  unfolding greatest_product
  greatest_below below e =
      to_z-of_z w128 r r_fits ∙ e ∙ (λ i. to_z-of_z w64 n n_fits i *ℤ to_z-of_z w64 low low_fits i)
      ∙ ⊎_elim
      (λ t. sym (ap (λ (b : Bool). cond b (n *ℤ low) (n *ℤ high)) t.0))
      (λ t. let other = t.1 in absurd (omega (arith, ints)))
      (side_test n)

  pub greatest_not_below : pos 0 ≤ℤ n → r ≡ kept w64 n *ℤ kept w64 high → kept w128 r ≡ greatest_product n (record { low = low; high = high })
  unfolding greatest_product
  greatest_not_below not e =
      to_z-of_z w128 r r_fits ∙ e ∙ (λ i. to_z-of_z w64 n n_fits i *ℤ to_z-of_z w64 high high_fits i)
      ∙ ⊎_elim
      (λ t. let other = t.1 in absurd (omega (arith, ints)))
      (λ t. sym (ap (λ (b : Bool). cond b (n *ℤ low) (n *ℤ high)) t.0))
      (side_test n)

less_is : (x y : ℤ) → x <ℤ y → int_lt x y ≡ true
less_is x y less = by (int_lt x y) refl
  where
    by : (t : Bool) → int_lt x y ≡ t → int_lt x y ≡ true
    by true e = e
    by false e = absurd (omega (arith, ints, less, e))

-- one is less than the other, as the code tells it
pub told_less : (r s x y : ℤ) → FitsSigned w128 r → FitsSigned w128 s → r ≡ x → s ≡ y → IsTrue (int_lt (kept w128 r) (kept w128 s)) ↔ (x <ℤ y)
told_less r s x y r_fits s_fits r_is s_is = rw (to_z-of_z w128 r r_fits, to_z-of_z w128 s s_fits, r_is, s_is) (
  (λ told. omega (arith, ints)),
  (λ less. less_is x y less),
)

-- one number of the four: the planes e and g have the values b and d at the beginning, a and c at the end
nearer_number : (a b c d f t : ℤ) → neg_ℤ d *ℤ ((a *ℤ f) +ℤ (neg_ℤ b *ℤ t)) ≡ (neg_ℤ b *ℤ ((c *ℤ f) +ℤ (neg_ℤ d *ℤ t))) +ℤ (neg_ℤ ((a *ℤ d) +ℤ neg_ℤ (b *ℤ c)) *ℤ f)
nearer_number a b c d f t =
    let n = variable in
    solved (a ∷ b ∷ c ∷ d ∷ f ∷ t ∷ []) (negated (n 3) ⊗ (n 0 ⊗ n 4 ⊕ negated (n 1) ⊗ n 5)) (negated (n 1) ⊗ (n 2 ⊗ n 4 ⊕ negated (n 3) ⊗ n 5) ⊕ negated (n 0 ⊗ n 3 ⊕ negated (n 1 ⊗ n 2)) ⊗ n 4) tt

-- ---- one line of a beam

module _ (beam : Beam) (p q : Point) (of_beam : IsOfBeam beam p q) where
  module _ (e : Plane) (crossing : Crossing) (is : IsBeamCrossing e beam crossing) where
    abbrev at : Point
    at = through e q p

    behind : IsBehind e p
    behind =
        let b = greatest_value_bound e beam.from p of_beam.from in
        let m = positive_times_negative p.w crossing.greatest of_beam.from_weight is.behind in
        let c = *ℤ_comm p.w crossing.greatest in
        let s = is.greatest_is in
        let n : (crossing.greatest *ℤ p.w) ≡ (greatest_value e beam.from *ℤ p.w) = (λ i. s i *ℤ p.w) in
        omega (arith, linear)

    front : IsInFront e q
    front =
        let b = least_value_bound e beam.to q of_beam.to in
        let m = product_positive crossing.end_least q.w is.in_front of_beam.to_weight in
        let s = is.end_least_is in
        let n : (crossing.end_least *ℤ q.w) ≡ (least_value e beam.to *ℤ q.w) = (λ i. s i *ℤ q.w) in
        omega (arith, linear)

    not_in_front : IsNotInFront e p
    not_in_front = let b = behind in omega (arith, linear)

    ends : IsInStretch (record { low = crossing.end_least; high = crossing.end_greatest }) (value e q) q.w
    ends = record {
      above = subst (λ (z : ℤ). (z *ℤ q.w) ≤ℤ value e q) (sym is.end_least_is) (least_value_bound e beam.to q of_beam.to);
      below = subst (λ (z : ℤ). value e q ≤ℤ (z *ℤ q.w)) (sym is.end_greatest_is) (greatest_value_bound e beam.to q of_beam.to);
    }

    begins : IsInStretch (record { low = crossing.least; high = crossing.greatest }) (value e p) p.w
    begins = record {
      above = subst (λ (z : ℤ). (z *ℤ p.w) ≤ℤ value e p) (sym is.least_is) (least_value_bound e beam.from p of_beam.from);
      below = subst (λ (z : ℤ). value e p ≤ℤ (z *ℤ p.w)) (sym is.greatest_is) (greatest_value_bound e beam.from p of_beam.from);
    }

    -- it crosses the plane in front of another one
    ahead : (g : Plane) → IsCrossedAhead crossing beam g → IsInFront g at
    unfolding IsCrossedAhead
    ahead g exceeds =
        let a = value e q in let v = value e p in let s = value g p in let t = value g q in
        let b = least_value g beam.from in let u = least_value g beam.to in
        let l = least_product b (record { low = crossing.end_least; high = crossing.end_greatest }) in
        let k = greatest_product u (record { low = crossing.least; high = crossing.greatest }) in
        let f = forward a v s t b u l k p.w q.w of_beam.from_weight of_beam.to_weight front (least_value_bound g beam.from p of_beam.from) (least_product_bound b (record { low = crossing.end_least; high = crossing.end_greatest }) a q.w ends) in
        let c = backward a v s t b u l k p.w q.w of_beam.from_weight of_beam.to_weight behind (least_value_bound g beam.to q of_beam.to) (greatest_product_bound u (record { low = crossing.least; high = crossing.greatest }) v p.w begins) in
        let d = apart a v s t b u l k p.w q.w of_beam.from_weight of_beam.to_weight exceeds in
        let w = value_through g e q p in
        omega (arith, linear, f, c, d, w)

    -- within the edges of a winding on the plane, turned to one side: so in the winding
    in_winding : (v : Winding) (side : Bool) → e ≡ turned side v.plane → All (IsCrossedAhead crossing beam) v.edges → IsInRegion v at
    in_winding v side same all = record {
      weight = crossing_weight e q p front not_in_front of_beam.to_weight of_beam.from_weight;
      on = (turned_on side v.plane at).0 (subst (λ (h : Plane). IsOn h at) same (crossing_on e q p front not_in_front));
      inside = λ place d within. ahead _ (all place d within);
    }

  -- a plane that is crossed behind another one is crossed nearer to the beginning
  nearer : (e g : Plane) → IsBehind e p → IsBehind g p → IsBehind g (through e q p) → IsBetween (through e q p) (through g q p) p
  nearer e g e_behind g_behind before =
      let v = value_through g e q p in
      record {
        times_p = neg_ℤ (value g p);
        times_q = neg_ℤ (value e p);
        times_r = neg_ℤ ((value e q *ℤ value g p) +ℤ neg_ℤ (value e p *ℤ value g q));
        some_p = omega (arith, linear);
        some_q = omega (arith, linear);
        some_r = omega (arith, linear);
        sum = same_point (point_times (neg_ℤ (value g p)) (through e q p)) (point_sum (point_times (neg_ℤ (value e p)) (through g q p)) (point_times (neg_ℤ ((value e q *ℤ value g p) +ℤ neg_ℤ (value e p *ℤ value g q))) p))
            (nearer_number (value e q) (value e p) (value g q) (value g p) p.x q.x)
            (nearer_number (value e q) (value e p) (value g q) (value g p) p.y q.y)
            (nearer_number (value e q) (value e p) (value g q) (value g p) p.z q.z)
            (nearer_number (value e q) (value e p) (value g q) (value g p) p.w q.w);
      }

  -- through the pass and then through the target
  pub sees_through : (pass target : Winding) (near far : Plane) (near_side far_side : Bool) → near ≡ turned near_side pass.plane → far ≡ turned far_side target.plane →
      (first second : Crossing) → IsBeamCrossing near beam first → All (IsCrossedAhead first beam) pass.edges → IsBeamCrossing far beam second → All (IsCrossedAhead second beam) target.edges →
      IsCrossedAhead first beam (flipped far) → SeesThrough pass target p
  sees_through pass target near far near_side far_side near_is far_is first second first_is first_all second_is second_all before = record {
    first = through near q p;
    second = through far q p;
    in_pass = in_winding near first first_is pass near_side near_is first_all;
    in_target = in_winding far second second_is target far_side far_is second_all;
    between = nearer near far (behind near first first_is) (behind far second second_is) ((flipped_in_front far (through near q p)).0 (ahead near first first_is (flipped far) before));
  }

-- ---- a winding that sees through

module _ (source pass target : Winding) (pass_convex : IsConvex pass) (target_convex : IsConvex target) where
  -- a point that does is in front of each separator of the target and the pass
  seen_in_front : (p : Point) → SeesThrough pass target p → (h : Plane) → IsSeparator target pass h → IsInFront h p
  seen_in_front p sees h is = beyond_separator target pass h sees.second sees.first p target_convex pass_convex is sees.in_target sees.in_pass sees.between

  pub wholly_seen : ((p : Point) → IsInRegion source p → SeesThrough pass target p) → (h : Plane) → IsSeparator target pass h → IsWhollyInFront source h
  wholly_seen all h is p inside = seen_in_front p (all p inside) h is

  -- it is enough that each of its corners does
  pub corners_seen : IsConvex source → ((i : ℕ) → i < length source.edges → SeesThrough pass target (corner_at source i)) → (h : Plane) → IsSeparator target pass h → IsWhollyInFront source h
  corners_seen convex all h is = (wholly_in_front source h convex).1 (
    (λ i below. let f = front i below in omega (arith, linear)),
    (0, (let e = convex.enough in omega arith), front 0 (let e = convex.enough in omega arith)),
  )
    where
      front : (i : ℕ) → i < length source.edges → IsInFront h (corner_at source i)
      front i below = seen_in_front (corner_at source i) (all i below) h is

-- Separators as they are found: by the whole points around a corner, by corners, by edges, and both ways.
use Rattle.std.proofs.Common.{◌≡◌, ℕ, ◌<◌, ℤ, pos, List, [], length, ap, sym, subst, ◌∙◌, refl, ◌⊎◌, inl, inr, ⊎_elim, ◌↔◌}
use Rattle.qm_numbers.specs.Rounding.{IsRoundedDown, IsRoundedUp}
use Rattle.qm_space.specs.Point.{Point}
use Rattle.qm_space.specs.Plane.{Plane}
use Rattle.qm_space.proofs.Planes.{same_point}
use Rattle.qm_convex.specs.Winding.{Winding, corner_at, corners, next_place, IsConvex}
use Rattle.qm_convex.proofs.Corners.{corners_length}
use Rattle.qm_convex.proofs.Places.{next_below}
use Rattle.qm_separators.specs.WholePoints.{IsWholeBy, IsNearestPoint, IsAround}
use Rattle.qm_separators.specs.Across.{HasNormalAcross}
use Rattle.qm_separators.specs.Separator.{IsSeparator}
use Rattle.qm_separators.specs.Gains.{Gains, HasExactly}
use Rattle.qm_separators.proofs.WholePointLaws.{nearest_alone, around_is_mix}
use Rattle.qm_separators.proofs.CornerLists.{corner_of_slice, corner_of_contains}
use Rattle.qm_separators.proofs.FoundPlanes.{of_both}
use Rattle.qm_separators.proofs.GainedPlanes.{gains_alike, gains_both, gained_exactly}
use Rattle.qm_separators.specs.inner.Below.{HasBelow}
use Rattle.qm_separators.specs.inner.Outline.{IsMixOf}
use Rattle.qm_separators.specs.inner.Found.{AreOfEdgeAndCorner, AreBoth, AreCandidate, AreCandidates, SeparatesBy, SeparatesByMix, SeparatesAt, SeparatesByEdge}

-- ---- mixes of two points, parted across one axis

abbrev pub mixed : ℤ → ℤ → ℤ → Point
mixed x y z = record { x = x; y = y; z = z; w = pos 1 }

-- the mixes that the one or the other has
abbrev AreSplit : Point → Point → Point → Point → Type 0
AreSplit below above high low = (at : Point) → IsMixOf below above at ↔ (IsMixOf below high at ⊎ IsMixOf low above at)

module _ (below above : Point) where
  split_x : AreSplit below above (mixed below.x above.y above.z) (mixed above.x below.y below.z)
  split_x at = (
    (λ mix. ⊎_elim
        (λ low. inl (record { x = inl low; y = mix.y; z = mix.z; weight = mix.weight }))
        (λ high. inr (record { x = inr high; y = mix.y; z = mix.z; weight = mix.weight }))
        mix.x),
    (λ either. ⊎_elim
        (λ m. record { x = inl (⊎_elim (λ e. e) (λ e. e) m.x); y = m.y; z = m.z; weight = m.weight })
        (λ m. record { x = inr (⊎_elim (λ e. e) (λ e. e) m.x); y = m.y; z = m.z; weight = m.weight })
        either),
  )

  split_y : below.x ≡ above.x → AreSplit below above (mixed below.x below.y above.z) (mixed above.x above.y below.z)
  split_y flat at = (
    (λ mix. ⊎_elim
        (λ low. inl (record { x = inl (⊎_elim (λ e. e) (λ e. e ∙ sym flat) mix.x); y = inl low; z = mix.z; weight = mix.weight }))
        (λ high. inr (record { x = inr (⊎_elim (λ e. e ∙ flat) (λ e. e) mix.x); y = inr high; z = mix.z; weight = mix.weight }))
        mix.y),
    (λ either. ⊎_elim
        (λ m. record { x = inl (⊎_elim (λ e. e) (λ e. e) m.x); y = inl (⊎_elim (λ e. e) (λ e. e) m.y); z = m.z; weight = m.weight })
        (λ m. record { x = inr (⊎_elim (λ e. e) (λ e. e) m.x); y = inr (⊎_elim (λ e. e) (λ e. e) m.y); z = m.z; weight = m.weight })
        either),
  )

  split_z : below.x ≡ above.x → below.y ≡ above.y → below.w ≡ pos 1 → above.w ≡ pos 1 → (at : Point) → IsMixOf below above at ↔ ((at ≡ below) ⊎ (at ≡ above))
  split_z flat straight below_weight above_weight at = (
    (λ mix. ⊎_elim
        (λ low. inl (same_point at below (⊎_elim (λ e. e) (λ e. e ∙ sym flat) mix.x) (⊎_elim (λ e. e) (λ e. e ∙ sym straight) mix.y) low (mix.weight ∙ sym below_weight)))
        (λ high. inr (same_point at above (⊎_elim (λ e. e ∙ flat) (λ e. e) mix.x) (⊎_elim (λ e. e ∙ straight) (λ e. e) mix.y) high (mix.weight ∙ sym above_weight)))
        mix.z),
    (λ either. ⊎_elim
        (λ e. record { x = inl (ap (λ (p : Point). p.x) e); y = inl (ap (λ (p : Point). p.y) e); z = inl (ap (λ (p : Point). p.z) e); weight = ap (λ (p : Point). p.w) e ∙ below_weight })
        (λ e. record { x = inr (ap (λ (p : Point). p.x) e); y = inr (ap (λ (p : Point). p.y) e); z = inr (ap (λ (p : Point). p.z) e); weight = ap (λ (p : Point). p.w) e ∙ above_weight })
        either),
  )

-- ---- what is gained by both parts

module _ (s p : Winding) (below above from to : Point) where
  -- by two parts of the mixes
  gains_split : (high low : Point) → AreSplit below above high low → (old mid new : List Plane) → Gains (SeparatesByMix s p below high from to) old mid → Gains (SeparatesByMix s p low above from to) mid new → Gains (SeparatesByMix s p below above from to) old new
  gains_split high low split old mid new first second =
      gains_alike (λ h. SeparatesByMix s p below high from to h ⊎ SeparatesByMix s p low above from to h) (SeparatesByMix s p below above from to) old new
      (λ h. (
        (λ either. ⊎_elim (λ a. (a.0, (split a.0).1 (inl a.1), a.2)) (λ a. (a.0, (split a.0).1 (inr a.1), a.2)) either),
        (λ a. ⊎_elim (λ m. inl (a.0, m, a.2)) (λ m. inr (a.0, m, a.2)) ((split a.0).0 a.1)),
      ))
      (gains_both (SeparatesByMix s p below high from to) (SeparatesByMix s p low above from to) old mid new first second)

  -- where the first has them all
  gains_first : (high low : Point) → AreSplit below above high low → ((at : Point) → IsMixOf low above at → IsMixOf below high at) → (old new : List Plane) → Gains (SeparatesByMix s p below high from to) old new → Gains (SeparatesByMix s p below above from to) old new
  gains_first high low split all old new first =
      gains_alike (SeparatesByMix s p below high from to) (SeparatesByMix s p below above from to) old new
      (λ h. (
        (λ a. (a.0, (split a.0).1 (inl a.1), a.2)),
        (λ a. (a.0, ⊎_elim (λ m. m) (λ m. all a.0 m) ((split a.0).0 a.1), a.2)),
      ))
      first

  pub gains_x : (old mid new : List Plane) → Gains (SeparatesByMix s p below (mixed below.x above.y above.z) from to) old mid → Gains (SeparatesByMix s p (mixed above.x below.y below.z) above from to) mid new → Gains (SeparatesByMix s p below above from to) old new
  gains_x = gains_split (mixed below.x above.y above.z) (mixed above.x below.y below.z) (split_x below above)

  pub gains_x_alike : below.x ≡ above.x → (old new : List Plane) → Gains (SeparatesByMix s p below (mixed below.x above.y above.z) from to) old new → Gains (SeparatesByMix s p below above from to) old new
  gains_x_alike flat = gains_first (mixed below.x above.y above.z) (mixed above.x below.y below.z) (split_x below above)
      (λ at m. record { x = inl (⊎_elim (λ e. e ∙ sym flat) (λ e. e ∙ sym flat) m.x); y = m.y; z = m.z; weight = m.weight })

  pub gains_y : below.x ≡ above.x → (old mid new : List Plane) → Gains (SeparatesByMix s p below (mixed below.x below.y above.z) from to) old mid → Gains (SeparatesByMix s p (mixed above.x above.y below.z) above from to) mid new → Gains (SeparatesByMix s p below above from to) old new
  gains_y flat = gains_split (mixed below.x below.y above.z) (mixed above.x above.y below.z) (split_y below above flat)

  pub gains_y_alike : below.x ≡ above.x → below.y ≡ above.y → (old new : List Plane) → Gains (SeparatesByMix s p below (mixed below.x below.y above.z) from to) old new → Gains (SeparatesByMix s p below above from to) old new
  gains_y_alike flat straight = gains_first (mixed below.x below.y above.z) (mixed above.x above.y below.z) (split_y below above flat)
      (λ at m. record { x = inl (⊎_elim (λ e. e ∙ sym flat) (λ e. e ∙ sym flat) m.x); y = inl (⊎_elim (λ e. e ∙ sym straight) (λ e. e ∙ sym straight) m.y); z = m.z; weight = m.weight })

  module _ (flat : below.x ≡ above.x) (straight : below.y ≡ above.y) (below_weight : below.w ≡ pos 1) (above_weight : above.w ≡ pos 1) where
    pub gains_z : (old mid new : List Plane) → Gains (SeparatesBy s p below from to) old mid → Gains (SeparatesBy s p above from to) mid new → Gains (SeparatesByMix s p below above from to) old new
    gains_z old mid new first second = gains_alike (λ h. SeparatesBy s p below from to h ⊎ SeparatesBy s p above from to h) (SeparatesByMix s p below above from to) old new
        (λ h. (
          (λ either. ⊎_elim (λ a. (below, (split_z below above flat straight below_weight above_weight below).1 (inl refl), a)) (λ a. (above, (split_z below above flat straight below_weight above_weight above).1 (inr refl), a)) either),
          (λ a. ⊎_elim
              (λ e. inl (subst (λ (q : Point). SeparatesBy s p q from to h) e a.2))
              (λ e. inr (subst (λ (q : Point). SeparatesBy s p q from to h) e a.2))
              ((split_z below above flat straight below_weight above_weight a.0).0 a.1)),
        ))
        (gains_both (SeparatesBy s p below from to) (SeparatesBy s p above from to) old mid new first second)

    pub gains_z_alike : below.z ≡ above.z → (old new : List Plane) → Gains (SeparatesBy s p below from to) old new → Gains (SeparatesByMix s p below above from to) old new
    gains_z_alike level old new first = gains_alike (SeparatesBy s p below from to) (SeparatesByMix s p below above from to) old new
        (λ h. (
          (λ a. (below, (split_z below above flat straight below_weight above_weight below).1 (inl refl), a)),
          (λ a. subst (λ (q : Point). SeparatesBy s p q from to h) (⊎_elim (λ e. e) (λ e. e ∙ same_point above below (sym flat) (sym straight) (sym level) (above_weight ∙ sym below_weight)) ((split_z below above flat straight below_weight above_weight a.0).0 a.1)) a.2),
        ))
        first

  -- the candidates of parts of the mixes
  module _ (candidates : AreCandidates s p below above from to) where
    candidates_high : (high low : Point) → AreSplit below above high low → AreCandidates s p below high from to
    candidates_high high low split at mix = candidates at ((split at).1 (inl mix))

    candidates_low : (high low : Point) → AreSplit below above high low → AreCandidates s p low above from to
    candidates_low high low split at mix = candidates at ((split at).1 (inr mix))

    pub candidates_x_high : AreCandidates s p below (mixed below.x above.y above.z) from to
    candidates_x_high = candidates_high (mixed below.x above.y above.z) (mixed above.x below.y below.z) (split_x below above)

    pub candidates_x_low : AreCandidates s p (mixed above.x below.y below.z) above from to
    candidates_x_low = candidates_low (mixed below.x above.y above.z) (mixed above.x below.y below.z) (split_x below above)

    pub candidates_y_high : below.x ≡ above.x → AreCandidates s p below (mixed below.x below.y above.z) from to
    candidates_y_high flat = candidates_high (mixed below.x below.y above.z) (mixed above.x above.y below.z) (split_y below above flat)

    pub candidates_y_low : below.x ≡ above.x → AreCandidates s p (mixed above.x above.y below.z) above from to
    candidates_y_low flat = candidates_low (mixed below.x below.y above.z) (mixed above.x above.y below.z) (split_y below above flat)

    pub candidate_below : below.w ≡ pos 1 → AreCandidate s p below from to
    candidate_below weight = candidates below (record { x = inl refl; y = inl refl; z = inl refl; weight = weight })

    pub candidate_above : above.w ≡ pos 1 → AreCandidate s p above from to
    candidate_above weight = candidates above (record { x = inr refl; y = inr refl; z = inr refl; weight = weight })

-- ---- of one edge and one corner

module _ (s p e o : Winding) (i k : ℕ) (i_in : i < length e.edges) (k_in : k < length o.edges) (e_convex : IsConvex e) (o_convex : IsConvex o) (from to below above : Point) (from_is : IsNearestPoint (corner_at e i) from) (to_is : IsNearestPoint (corner_at e (next_place (length e.edges) i)) to) (below_is : IsWholeBy IsRoundedDown (corner_at o k) below) (above_is : IsWholeBy IsRoundedUp (corner_at o k) above) where
  pub are_candidates : AreBoth s p e o → AreCandidates s p below above from to
  are_candidates both at mix = ⊎_elim
      (λ same. inl (subst (λ (v : Winding). AreOfEdgeAndCorner v p at from to) same.0 (subst (λ (v : Winding). AreOfEdgeAndCorner e v at from to) same.1 are)))
      (λ same. inr (subst (λ (v : Winding). AreOfEdgeAndCorner v s at from to) same.0 (subst (λ (v : Winding). AreOfEdgeAndCorner e v at from to) same.1 are)))
      both
    where
      are : AreOfEdgeAndCorner e o at from to
      are = record {
        place = i;
        corner = k;
        place_in = i_in;
        corner_in = k_in;
        from_is = from_is;
        to_is = to_is;
        at_is = (around_is_mix (corner_at o k) below above at (o_convex.weight k k_in) below_is above_is).1 mix;
      }

  pub gains_at : (old new : List Plane) → Gains (SeparatesByMix s p below above from to) old new → Gains (SeparatesAt s p e o i k) old new
  gains_at old new = gains_alike (SeparatesByMix s p below above from to) (SeparatesAt s p e o i k) old new
      (λ h. (
        (λ a. record {
          separator = a.2.0;
          at = a.0;
          from = from;
          to = to;
          from_is = from_is;
          to_is = to_is;
          at_is = (around_is_mix (corner_at o k) below above a.0 (o_convex.weight k k_in) below_is above_is).1 a.1;
          normal = a.2.1;
        }),
        (λ is.
            let next_in = next_below (length e.edges) i i_in in
            let f = nearest_alone (corner_at e i) is.from from (e_convex.weight i i_in) is.from_is from_is in
            let t = nearest_alone (corner_at e (next_place (length e.edges) i)) is.to to (e_convex.weight (next_place (length e.edges) i) next_in) is.to_is to_is in (
              is.at,
              (around_is_mix (corner_at o k) below above is.at (o_convex.weight k k_in) below_is above_is).0 is.at_is,
              subst (λ (q : Point). SeparatesBy s p is.at from q h) t (subst (λ (q : Point). SeparatesBy s p is.at q is.to h) f (is.separator, is.normal)),
            )),
      ))

-- ---- of all edges and corners

module _ (s p e o : Winding) where
  pub gains_edges : (old new : List Plane) → Gains (HasBelow (length e.edges) (SeparatesByEdge s p e o)) old new → Gains (λ h. IsSeparator s p h × HasNormalAcross (corners e) (corners o) h) old new
  gains_edges old new = gains_alike (HasBelow (length e.edges) (SeparatesByEdge s p e o)) (λ h. IsSeparator s p h × HasNormalAcross (corners e) (corners o) h) old new
      (λ h. (forth h, back h))
    where
      forth : (h : Plane) → HasBelow (length e.edges) (SeparatesByEdge s p e o) h → IsSeparator s p h × HasNormalAcross (corners e) (corners o) h
      forth h (i, i_in, (k, k_in, is)) = (is.separator, of_both e o is.at is.from is.to h (record { place = i; corner = k; place_in = i_in; corner_in = k_in; from_is = is.from_is; to_is = is.to_is; at_is = is.at_is }) is.normal)

      back : (h : Plane) → IsSeparator s p h × HasNormalAcross (corners e) (corners o) h → HasBelow (length e.edges) (SeparatesByEdge s p e o) h
      back h (sep, is) =
          let one = corner_of_slice e is.place is.first is.first_is in
          let two = corner_of_slice e (next_place (length (corners e)) is.place) is.second is.second_is in
          let three = corner_of_contains o is.corner is.corner_is in
          let second : is.second ≡ corner_at e (next_place (length e.edges) is.place) = two.1 ∙ ap (λ (n : ℕ). corner_at e (next_place n is.place)) (corners_length e) in (
            is.place,
            one.0,
            (
              three.0,
              three.1,
              record {
                separator = sep;
                at = is.at;
                from = is.from;
                to = is.to;
                from_is = subst (λ (q : Point). IsNearestPoint q is.from) one.1 is.from_is;
                to_is = subst (λ (q : Point). IsNearestPoint q is.to) second is.to_is;
                at_is = subst (λ (q : Point). IsAround q is.at) three.2 is.at_is;
                normal = is.normal;
              },
            ),
          )

-- both ways that is each separator
pub found_exactly : (s p : Winding) (mid new : List Plane) → Gains (λ h. IsSeparator s p h × HasNormalAcross (corners s) (corners p) h) [] mid → Gains (λ h. IsSeparator s p h × HasNormalAcross (corners p) (corners s) h) mid new → HasExactly (IsSeparator s p) new
found_exactly s p mid new first second = gained_exactly (IsSeparator s p) new
    (gains_alike (λ h. (IsSeparator s p h × HasNormalAcross (corners s) (corners p) h) ⊎ (IsSeparator s p h × HasNormalAcross (corners p) (corners s) h)) (IsSeparator s p) [] new
    (λ h. ((λ either. ⊎_elim (λ a. a.0) (λ a. a.0) either), (λ sep. ⊎_elim (λ a. inl (sep, a)) (λ a. inr (sep, a)) sep.across)))
    (gains_both (λ h. IsSeparator s p h × HasNormalAcross (corners s) (corners p) h) (λ h. IsSeparator s p h × HasNormalAcross (corners p) (corners s) h) [] mid new first second))

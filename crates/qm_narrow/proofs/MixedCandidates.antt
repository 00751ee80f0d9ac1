-- Whole points of which each mix is a candidate, with another point in place of one of them.
use Rattle.std.proofs.Common.{◌≡◌, ℤ, List, inl, inr, sym, subst, ⊎_elim}
use Rattle.qm_space.specs.Point.{Point, whole_point, AreCoordinates}
use Rattle.qm_convex.specs.Winding.{Winding}
use Rattle.qm_separators.specs.inner.Found.{AreCandidate}
use Rattle.qm_separators.specs.inner.Outline.{IsMixOf}
use Rattle.qm_separators.proofs.FoundMixes.{mixed}
use Rattle.qm_narrow.specs.declared.outlook.Outlook.{Outlook}
use Rattle.qm_narrow.specs.declared.candidates.Points.{Points}
use Rattle.qm_narrow.specs.inner.WholeCandidates.{AreWholeCandidates, IsToldBy}

-- ---- mixes of a part are mixes of the whole

-- all mixes of the one two points are mixes of the other two
abbrev pub AreMixesOf : Point → Point → Point → Point → Type 0
AreMixesOf low high below above = (at : Point) → IsMixOf low high at → IsMixOf below above at

module _ (below above : Point) where
  pub mixes_x_high : AreMixesOf below (mixed below.x above.y above.z) below above
  mixes_x_high at m = record { x = inl (⊎_elim (λ e. e) (λ e. e) m.x); y = m.y; z = m.z; weight = m.weight }

  pub mixes_x_low : AreMixesOf (mixed above.x below.y below.z) above below above
  mixes_x_low at m = record { x = inr (⊎_elim (λ e. e) (λ e. e) m.x); y = m.y; z = m.z; weight = m.weight }

  pub mixes_y_high : AreMixesOf below (mixed below.x below.y above.z) below above
  mixes_y_high at m = record { x = inl (⊎_elim (λ e. e) (λ e. e) m.x); y = inl (⊎_elim (λ e. e) (λ e. e) m.y); z = m.z; weight = m.weight }

  pub mixes_y_low : AreMixesOf (mixed above.x above.y below.z) above below above
  mixes_y_low at m = record { x = inr (⊎_elim (λ e. e) (λ e. e) m.x); y = inr (⊎_elim (λ e. e) (λ e. e) m.y); z = m.z; weight = m.weight }

module _ {s p : Winding} {outlook : Outlook} {points : Points} (are : AreWholeCandidates s p outlook points) (new : Points) (from_is : new.from ≡ points.from) (to_is : new.to ≡ points.to) where
  by_parts : AreCoordinates new.below → AreCoordinates new.above → AreMixesOf (whole_point new.below) (whole_point new.above) (whole_point points.below) (whole_point points.above) → AreWholeCandidates s p outlook new
  by_parts below above mixes = record {
    below_in = below;
    above_in = above;
    from_in = subst AreCoordinates (sym from_is) are.from_in;
    to_in = subst AreCoordinates (sym to_is) are.to_in;
    each = λ at mix. subst (λ (t : List ℤ). AreCandidate s p at (whole_point new.from) (whole_point t)) (sym to_is) (subst (λ (f : List ℤ). AreCandidate s p at (whole_point f) (whole_point points.to)) (sym from_is) (are.each at (mixes at mix)));
    told = λ at mix. subst (λ (t : List ℤ). IsToldBy s p outlook at (whole_point new.from) (whole_point t)) (sym to_is) (subst (λ (f : List ℤ). IsToldBy s p outlook at (whole_point f) (whole_point points.to)) (sym from_is) (are.told at (mixes at mix)));
  }

  -- with another point above, and with another one below
  pub with_above : {high : List ℤ} {q : Point} → new.below ≡ points.below → new.above ≡ high → AreCoordinates high → whole_point high ≡ q → AreMixesOf (whole_point points.below) q (whole_point points.below) (whole_point points.above) → AreWholeCandidates s p outlook new
  with_above {high} {q} below_is above_is in_cube is mixes = by_parts
      (subst AreCoordinates (sym below_is) are.below_in)
      (subst AreCoordinates (sym above_is) in_cube)
      (subst (λ (b : List ℤ). AreMixesOf (whole_point b) (whole_point new.above) (whole_point points.below) (whole_point points.above)) (sym below_is)
      (subst (λ (a : List ℤ). AreMixesOf (whole_point points.below) (whole_point a) (whole_point points.below) (whole_point points.above)) (sym above_is)
      (subst (λ (x : Point). AreMixesOf (whole_point points.below) x (whole_point points.below) (whole_point points.above)) (sym is) mixes)))

  pub with_below : {low : List ℤ} {q : Point} → new.above ≡ points.above → new.below ≡ low → AreCoordinates low → whole_point low ≡ q → AreMixesOf q (whole_point points.above) (whole_point points.below) (whole_point points.above) → AreWholeCandidates s p outlook new
  with_below {low} {q} above_is below_is in_cube is mixes = by_parts
      (subst AreCoordinates (sym below_is) in_cube)
      (subst AreCoordinates (sym above_is) are.above_in)
      (subst (λ (a : List ℤ). AreMixesOf (whole_point new.below) (whole_point a) (whole_point points.below) (whole_point points.above)) (sym above_is)
      (subst (λ (b : List ℤ). AreMixesOf (whole_point b) (whole_point points.above) (whole_point points.below) (whole_point points.above)) (sym below_is)
      (subst (λ (x : Point). AreMixesOf x (whole_point points.above) (whole_point points.below) (whole_point points.above)) (sym is) mixes)))

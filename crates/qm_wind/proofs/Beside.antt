-- Whether a winding lies in a plane, by the numbers of its own.
use Rattle.std.proofs.Common.{◌≡◌, Bool, true, false, ◌&&◌, ◌↔◌, IsTrue, ap, sym, ◌∙◌, subst, inl, inr, ⊎_elim, true≢false, arith}
use Rattle.std.specs.Ordering.{int_eq}
use Rattle.std.proofs.lemmas.Int.{ints}
use Rattle.qm_space.specs.Plane.{Plane, flipped}
use Rattle.qm_space.specs.Reduced.{IsReduced}
use Rattle.qm_space.proofs.ReducedPlanes.{same_plane, flipped_twice}
use Rattle.qm_convex.specs.Winding.{Winding, IsConvex}
use Rattle.qm_convex.specs.Sides.{LiesIn}
use Rattle.qm_convex.proofs.OwnPlane.{lies_in_own, own_lies_in}

-- what the comparison of two planes answers
abbrev pub is_same : Plane → Plane → Bool
is_same g h = int_eq g.nx h.nx && (int_eq g.ny h.ny && (int_eq g.nz h.nz && int_eq g.d h.d))

same_by_test : (g h : Plane) → is_same g h ≡ true → g ≡ h
same_by_test g h e = same_plane g h (grind (arith, ints)) (grind (arith, ints)) (grind (arith, ints)) (grind (arith, ints))

test_by_same : (g h : Plane) → g ≡ h → is_same g h ≡ true
test_by_same g h e = subst (λ (p : Plane). is_same g p ≡ true) e (grind (arith, ints))

module _ (v : Winding) (own g : Plane) (c : IsConvex v) (o : own ≡ v.plane) (r : IsReduced own) (s : IsReduced g) where
  own_reduced : IsReduced v.plane
  own_reduced = subst IsReduced o r

  turned_back : own ≡ flipped g → g ≡ flipped v.plane
  turned_back e = sym (flipped_twice g) ∙ ap flipped (sym e ∙ o)

  pub on_by_first : (b : Bool) → b ≡ true → b ≡ is_same own g → IsTrue b ↔ LiesIn v g
  on_by_first b t e = ((λ _. own_lies_in v g (inl (sym (same_by_test own g (sym e ∙ t)) ∙ o))), (λ _. t))

  pub on_by_second : (a b : Bool) → a ≡ false → a ≡ is_same own g → b ≡ is_same own (flipped g) → IsTrue b ↔ LiesIn v g
  on_by_second a b f d e = (
    (λ t. own_lies_in v g (inr (turned_back (same_by_test own (flipped g) (sym e ∙ t))))),
    (λ l. ⊎_elim
        (λ same. absurd (true≢false (sym (test_by_same own g (o ∙ sym same)) ∙ sym d ∙ f)))
        (λ turned. e ∙ test_by_same own (flipped g) (o ∙ sym (flipped_twice v.plane) ∙ ap flipped (sym turned)))
        (lies_in_own v g c s own_reduced l)),
  )

-- What lies in front of a plane wholly or not at all.
use Rattle.std.proofs.Common.{◌≡◌, ◌≢◌, ◌⊎◌, inl, inr, Bool, true, false, true≢false, sym, ◌∙◌, subst, arith}
use Rattle.std.proofs.lemmas.Int.{ints}
use Rattle.qm_space.specs.Plane.{Plane, flipped}
use Rattle.qm_numbers.proofs.IntegerProducts.{linear}
use Rattle.qm_space.proofs.Planes.{value_flipped}
use Rattle.qm_space.proofs.ReducedPlanes.{same_plane}
use Rattle.qm_convex.specs.Winding.{Winding, IsConvex}
use Rattle.qm_convex.specs.Sides.{HasNoneInFront, HasSomeInFront, IsWhollyInFront, LiesIn}
use Rattle.qm_convex.proofs.Central.{has_a_point}
use Rattle.qm_wind.specs.declared.lies.Lies.{Lies}
use Rattle.qm_wind.specs.declared.lies.Lies.TheVariants.{Front, Back, Across, On}
use Rattle.qm_wind.specs.Lying.{IsLying}
use Rattle.qm_split.specs.inner.PieceParts.{is_same}

pub some_of_whole : (w : Winding) (g : Plane) → IsConvex w → IsWhollyInFront w g → HasSomeInFront w g
some_of_whole w g convex whole = let at = has_a_point w convex in (at.0, at.1, whole at.0 at.1)

pub none_of_behind : (w : Winding) (g : Plane) → IsWhollyInFront w (flipped g) → HasNoneInFront w g
none_of_behind w g behind x r = let e = value_flipped g x in let b = behind x r in omega (arith, linear)

pub none_of_ahead : (w : Winding) (g : Plane) → IsWhollyInFront w g → HasNoneInFront w (flipped g)
none_of_ahead w g ahead x r = let e = value_flipped g x in let f = ahead x r in omega (arith, linear)

pub none_of_lying : (w : Winding) (g : Plane) → LiesIn w g → HasNoneInFront w g
none_of_lying w g lies x r = let on = lies x r in omega (arith, linear)

pub none_of_lying_flipped : (w : Winding) (g : Plane) → LiesIn w g → HasNoneInFront w (flipped g)
none_of_lying_flipped w g lies x r = let e = value_flipped g x in let on = lies x r in omega (arith, linear)

-- ---- by what code answers

pub test_by_same : (g h : Plane) → g ≡ h → is_same g h ≡ true
test_by_same g h e = subst (λ (p : Plane). is_same g p ≡ true) e (grind (arith, ints))

pub other_by_test : (g h : Plane) (b : Bool) → b ≡ is_same g h → b ≡ false → g ≢ h
other_by_test g h b e f same = true≢false (sym (test_by_same g h same) ∙ sym e ∙ f)

pub same_by_test : (g h : Plane) (b : Bool) → b ≡ is_same g h → b ≡ true → g ≡ h
same_by_test g h b e t = by (sym e ∙ t)
  where
    by : is_same g h ≡ true → g ≡ h
    by f = same_plane g h (grind (arith, ints)) (grind (arith, ints)) (grind (arith, ints)) (grind (arith, ints))

pub some_of_lying : (lies : Lies) (w : Winding) (g : Plane) → IsConvex w → (lies ≡ Front) ⊎ (lies ≡ Across) → IsLying lies w g → HasSomeInFront w g
some_of_lying lies w g convex (inl front) is = some_of_whole w g convex (subst (λ (l : Lies). IsLying l w g) front is)
some_of_lying lies w g convex (inr across) is = (subst (λ (l : Lies). IsLying l w g) across is).0

pub none_of_other : (lies : Lies) (w : Winding) (g : Plane) → (lies ≡ Back) ⊎ (lies ≡ On) → IsLying lies w g → HasNoneInFront w g
none_of_other lies w g (inl back) is = none_of_behind w g (subst (λ (l : Lies). IsLying l w g) back is)
none_of_other lies w g (inr on) is = none_of_lying w g (subst (λ (l : Lies). IsLying l w g) on is)

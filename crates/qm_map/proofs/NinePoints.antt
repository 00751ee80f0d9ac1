-- Nine coordinates as three points.
use Rattle.std.proofs.Common.{◌≡◌, ◌<◌, ℕ, suc, zero, ℤ, true, false, ◌↔◌, List, [], ◌∷◌, length, get_or, slice_index_or, Option, None, Some, sym, arith, All}
use Rattle.qm_space.specs.Point.{IsThousandths, AreThousandths}
use Rattle.qm_space.specs.Line.{AreOnOneLine}
use Rattle.qm_space.specs.ThreePoints.{IsPlaneTooFine}
use Rattle.qm_geom.specs.declared.through_fault.ThroughFault.{ThroughFault}
use Rattle.qm_geom.specs.declared.through_fault.ThroughFault.TheVariants.{NoNormal, TooFine}
use Rattle.qm_mapfile.specs.Face.{point_at}
use Rattle.qm_grammar.specs.Slots.{points_of}
use Rattle.qm_grammar.specs.declared.refusal.Refusal.TheVariants as refusal
use Rattle.qm_grammar.specs.inner.Machine.{give_plane, plane_refusal}
use Rattle.qm_grammar.proofs.Planes.{give_true, false_give, on_line, fine}

-- what tells whether points give a plane, computed
pub gives : (points : List (List ℤ)) → (◌≡◌ {A = Option ThroughFault} None (Some NoNormal) ↔ AreOnOneLine (point_at points 0) (point_at points 1) (point_at points 2)) → (◌≡◌ {A = Option ThroughFault} None (Some TooFine) ↔ IsPlaneTooFine (point_at points 0) (point_at points 1) (point_at points 2)) → give_plane points ≡ true
gives points none found = give_true points (record {
  spans = λ line. absurd (let e = none.1 line in cc);
  not_too_fine = λ is. absurd (let e = found.1 is in cc);
})

pub on_line_refused : (points : List (List ℤ)) → AreOnOneLine (point_at points 0) (point_at points 1) (point_at points 2) → (give_plane points ≡ false) × (refusal.NoNormal ≡ plane_refusal points)
on_line_refused points line = let both = false_give points refusal.NoNormal (on_line (λ spans. spans line)) in (both.0, sym both.1)

pub fine_refused : (points : List (List ℤ)) → IsPlaneTooFine (point_at points 0) (point_at points 1) (point_at points 2) → (give_plane points ≡ false) × (refusal.PlaneTooFine ≡ plane_refusal points)
fine_refused points is = let both = false_give points refusal.PlaneTooFine (fine is) in (both.0, sym both.1)

three : (a b c : ℤ) → IsThousandths a → IsThousandths b → IsThousandths c → AreThousandths (a ∷ b ∷ c ∷ [])
three a b c x y z = λ k d inside. at k d inside
  where
    at : (k : ℕ) (d : ℤ) → k < 3 → IsThousandths (get_or (a ∷ b ∷ c ∷ []) k d)
    at zero d inside = x
    at (suc zero) d inside = y
    at (suc (suc zero)) d inside = z
    at (suc (suc (suc k))) d inside = absurd (omega arith)

pub record HasThreePoints (points : List (List ℤ)) : Type 0 where
  pub first : AreThousandths (slice_index_or points 0 [])
  pub second : AreThousandths (slice_index_or points 1 [])
  pub third : AreThousandths (slice_index_or points 2 [])

-- the points of nine coordinates have coordinates of the cube, where these are such
pub nine_points : (numbers : List ℤ) → length numbers ≡ 9 → All IsThousandths numbers → HasThreePoints (points_of numbers)
nine_points (a ∷ b ∷ c ∷ d ∷ e ∷ f ∷ g ∷ h ∷ i ∷ []) nine all = record {
  first = three a b c (all 0 a (omega arith)) (all 1 a (omega arith)) (all 2 a (omega arith));
  second = three d e f (all 3 a (omega arith)) (all 4 a (omega arith)) (all 5 a (omega arith));
  third = three g h i (all 6 a (omega arith)) (all 7 a (omega arith)) (all 8 a (omega arith));
}
nine_points [] nine all = absurd (omega arith)
nine_points (a ∷ []) nine all = absurd (omega arith)
nine_points (a ∷ b ∷ []) nine all = absurd (omega arith)
nine_points (a ∷ b ∷ c ∷ []) nine all = absurd (omega arith)
nine_points (a ∷ b ∷ c ∷ d ∷ []) nine all = absurd (omega arith)
nine_points (a ∷ b ∷ c ∷ d ∷ e ∷ []) nine all = absurd (omega arith)
nine_points (a ∷ b ∷ c ∷ d ∷ e ∷ f ∷ []) nine all = absurd (omega arith)
nine_points (a ∷ b ∷ c ∷ d ∷ e ∷ f ∷ g ∷ []) nine all = absurd (omega arith)
nine_points (a ∷ b ∷ c ∷ d ∷ e ∷ f ∷ g ∷ h ∷ []) nine all = absurd (omega arith)
nine_points (a ∷ b ∷ c ∷ d ∷ e ∷ f ∷ g ∷ h ∷ i ∷ j ∷ more) nine all = absurd (omega arith)

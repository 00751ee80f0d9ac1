use Rattle.std.proofs.Common.{◌≡◌, ◌<◌, ◌+◌, ℕ, List, false, [], length, get_or, sym, subst, ◌∙◌}
use Rattle.qm_listing.specs.declared.listing.Coordinate.{Coordinate}
use Rattle.qm_listing.specs.WorldListing.{come_before}
use Rattle.qm_listing.proofs.FirstCorners.{first_kept, first_found}
use Rattle.qm_prt.proofs.coordinates.first_corner.Goals.{then-comes_before, else-comes_before}
use Rattle.qm_prt.proofs.coordinates.first_corner.Goals as goal

record IsFirst (corners : List (List Coordinate)) (count first : ℕ) : Type 0 where
  within : first < length corners
  first_is : (k : ℕ) → k < count → come_before (get_or corners k []) (get_or corners first []) ≡ false

pub loop-i-preserved : goal.loop-i-preserved
loop-i-preserved c =
    let at : ℕ → List Coordinate = λ k. get_or c.args.corners.now k [] in
    let test = sym c.comes_before.ensures in
    let next : IsFirst c.args.corners.now (c.loop-i.i + 1) c.if-comes_before.first = elim c.if-comes_before.branch [
      | then-comes_before w ↦
          subst (λ (n : ℕ). IsFirst c.args.corners.now (c.loop-i.i + 1) n) (sym w.first-is)
          (record { within = c.loop-i-test.true; first_is = first_found at c.loop-i.first c.loop-i.i c.loop-i.invariant.first (test ∙ w.if-comes_before.true) })
      | else-comes_before w ↦
          subst (λ (n : ℕ). IsFirst c.args.corners.now (c.loop-i.i + 1) n) (sym w.first-is)
          (record { within = c.loop-i.invariant.within; first_is = first_kept at c.loop-i.first c.loop-i.i c.loop-i.invariant.first (test ∙ w.if-comes_before.false) })
    ] in
    record { within = next.within; first = next.first_is }

-- Counting flat solids.
use Rattle.std.proofs.Common.{◌≡◌, ℕ, suc, ◌+◌, Bool, true, false, cond, List, [], ◌∷◌, All, sym, subst, arith}
use Rattle.std.specs.Prelude.{count_by, not}
use Rattle.std.specs.List.{AllZip}
use Rattle.std.specs.Bool.{MatchBool}
use Rattle.std.proofs.lemmas.List.Elements.{All-head, All-tail}
use Rattle.std.proofs.lemmas.List.Sums.{sum_by-cons}
use Rattle.qm_space.specs.Plane.{Plane}
use Rattle.qm_solids.specs.Solid.{Solid}
use Rattle.qm_solids.specs.Holding.{IsFull}
use Rattle.qm_solids.specs.Flat.{IsFlat, HasFlat, none, one_full, one_flat}
use Rattle.qm_solids.specs.InBook.{BookSolid, solid_in, solids_in, IsKeptIn}
use Rattle.qm_solids.specs.Alike.{IsAlike}
use Rattle.qm_solids.proofs.AlikeSolids.{full_there, full_back}

-- solids that are alike, place by place, have as many flat ones
pub same_flat : (solids others : List Solid) (n : ℕ) → AllZip IsAlike solids others → HasFlat others n → HasFlat solids n
same_flat [] [] n alike none = none
same_flat [] (other ∷ others) n alike has = absurd alike
same_flat (solid ∷ solids) [] n alike has = absurd alike
same_flat (solid ∷ solids) (other ∷ others) n alike (one_full full has) =
    one_full (full_back solid other alike.0 full) (same_flat solids others _ alike.1 has)
same_flat (solid ∷ solids) (other ∷ others) n alike (one_flat flat has) =
    one_flat (λ full. flat (full_there solid other alike.0 full)) (same_flat solids others _ alike.1 has)

-- a number is the count that is given
is_count : (solids : List Solid) (m n : ℕ) → m ≡ n → HasFlat solids m → HasFlat solids n
is_count solids m n is has = subst (λ (k : ℕ). HasFlat solids k) is has

one_more : (solid : Solid) (solids : List Solid) (n : ℕ) (full : Bool) → MatchBool full (IsFull solid) (IsFlat solid) → HasFlat solids n → HasFlat (solid ∷ solids) (cond (not full) 1 0 + n)
one_more solid solids n true is has = is_count (solid ∷ solids) n (0 + n) (omega arith) (one_full is has)
one_more solid solids n false is has = is_count (solid ∷ solids) (suc n) (1 + n) (omega arith) (one_flat is has)

-- the flags count them
pub counted_flat : (book : List Plane) (solids : List BookSolid) → All (IsKeptIn book) solids → HasFlat (solids_in book solids) (count_by (λ solid. not solid.full) solids)
counted_flat book [] kept = none
counted_flat book (solid ∷ solids) kept =
    let rest = counted_flat book solids (All-tail (IsKeptIn book) solid solids kept) in
    let flag = (All-head (IsKeptIn book) solid solids kept).flag in
    let n = count_by (λ (s : BookSolid). not s.full) solids in
    is_count (solids_in book (solid ∷ solids)) (cond (not solid.full) 1 0 + n) (count_by (λ s. not s.full) (solid ∷ solids)) (sym (sum_by-cons (λ (s : BookSolid). cond (not s.full) 1 0) solid solids)) (one_more (solid_in book solid) (solids_in book solids) n solid.full flag rest)

-- Views of passes, and what they have found.
use Rattle.std.proofs.Common.{◌≡◌, ℕ, zero, suc, List, [], ◌∷◌, ◌++◌, set, Some, None, slice_get, refl, sym, ap}
use mathlib.Core.Option.{some, some-injective, some-ne-none}
use lib.ListN.{get_elem?}
use Rattle.qm_shared_rows.specs.Findings.{Findings}
use Rattle.qm_board.specs.BoardRule.{all_found}
use Rattle.qm_board.specs.declared.view.View.{View}

-- the view of a pass has what the pass has found
pub found_at : (views : List View) (id : ℕ) (view : View) → get_elem? views id ≡ some view → slice_get (all_found views) id ≡ Some view.findings
found_at [] id view is = absurd (some-ne-none view (sym is))
found_at (first ∷ views) zero view is = ap (λ (v : View). Some v.findings) (some-injective first view is)
found_at (first ∷ views) (suc id) view is = found_at views id view is

pub found_set : (views : List View) (id : ℕ) (view : View) → all_found (set views id view) ≡ set (all_found views) id view.findings
found_set [] id view = refl
found_set (first ∷ views) zero view = refl
found_set (first ∷ views) (suc id) view = ap (λ (l : List Findings). first.findings ∷ l) (found_set views id view)

pub found_push : (views : List View) (view : View) → all_found (views ++ view ∷ []) ≡ all_found views ++ view.findings ∷ []
found_push [] view = refl
found_push (first ∷ views) view = ap (λ (l : List Findings). first.findings ∷ l) (found_push views view)

-- what a pass has found stands where it was put
pub found_there : (passes : List Findings) (id : ℕ) (old new : Findings) → slice_get passes id ≡ Some old → slice_get (set passes id new) id ≡ Some new
found_there [] id old new is = absurd (let none : None ≡ Some old = is in cc)
found_there (first ∷ passes) zero old new is = refl
found_there (first ∷ passes) (suc id) old new is = found_there passes id old new is

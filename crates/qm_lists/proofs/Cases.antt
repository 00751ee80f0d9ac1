-- Case splits, with what is split in each case.
use Rattle.std.proofs.Common.{◌≡◌, Bool, true, false, ◌&&◌, Option, Some, None, Result, Ok, Err, refl}

-- what is claimed does not name the Bool
pub by_cases : {A : Type 0} (b : Bool) → (b ≡ true → A) → (b ≡ false → A) → A
by_cases true when_true when_false = when_true refl
by_cases false when_true when_false = when_false refl

-- what is claimed names the Bool, as in `if b then x else y`
pub by_cases_of : (P : Bool → Type 0) (b : Bool) → (b ≡ true → P true) → (b ≡ false → P false) → P b
by_cases_of P true when_true when_false = when_true refl
by_cases_of P false when_true when_false = when_false refl

-- where two tests say yes together, each does
pub both_yes : (a b : Bool) → (a && b) ≡ true → (a ≡ true) × (b ≡ true)
both_yes true b test = (refl, test)
both_yes false b test = absurd (let e : false ≡ true = test in cc)

-- an Option is None, or Some of something
pub by_option : {A P : Type 0} (o : Option A) → (o ≡ None → P) → ((a : A) → o ≡ Some a → P) → P
by_option None when_none when_some = when_none refl
by_option (Some a) when_none when_some = when_some a refl

-- a Result is Ok of something, or Err of something
pub by_result : {A E P : Type 0} (r : Result A E) → ((a : A) → r ≡ Ok a → P) → ((e : E) → r ≡ Err e → P) → P
by_result (Ok a) when_ok when_err = when_ok a refl
by_result (Err e) when_ok when_err = when_err e refl

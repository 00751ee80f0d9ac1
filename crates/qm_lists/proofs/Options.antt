-- Tests of an Option, and what they say.
use Rattle.std.proofs.Common.{◌≡◌, true, false, Option, Some, None, is_none, is_some, IsNone, refl}

pub none_from_is_none : {A : Type 0} (o : Option A) → is_none o ≡ true → o ≡ None
none_from_is_none None e = refl
none_from_is_none (Some a) e = absurd cc

pub none_from_is_some : {A : Type 0} (o : Option A) → is_some o ≡ false → o ≡ None
none_from_is_some None e = refl
none_from_is_some (Some a) e = absurd cc

pub IsNone_from_is_none : {A : Type 0} (o : Option A) → is_none o ≡ true → IsNone o
IsNone_from_is_none None e = refl
IsNone_from_is_none (Some a) e = absurd cc

pub is_none_from_IsNone : {A : Type 0} (o : Option A) → IsNone o → is_none o ≡ true
is_none_from_IsNone None e = refl
is_none_from_IsNone (Some a) e = absurd cc

-- an Option that is Some of nothing is None
pub none_if_not_some : {A : Type 0} (o : Option A) → ((a : A) → o ≡ Some a → ⊥) → o ≡ None
none_if_not_some None never = refl
none_if_not_some (Some a) never = absurd (never a refl)

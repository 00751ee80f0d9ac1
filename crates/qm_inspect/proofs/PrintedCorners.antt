-- Three coordinates as text, one after another.
use Rattle.std.proofs.Common.{◌≡◌, ◌∙◌, ℕ, ℤ, List, [], ◌∷◌, ◌++◌, Result, Ok, Err, sym, ap, append_assoc, append-nil, to_z, of_z}
use Rattle.std.specs.Int.{w128}
use Rattle.std.specs.Prelude.{FitsSigned, OnOk}
use Rattle.std.proofs.lemmas.Int.{to_z-of_z}
use Rattle.qm_listing.specs.Numbers.{coordinate_numeral}
use Rattle.qm_listing.specs.WorldListing.{coordinate_at}

-- a number that a call has taken is the one that was given
pub taken_is : (given x : ℤ) → FitsSigned w128 given → given ≡ x → to_z w128 (of_z w128 given) ≡ x
taken_is given x fits is = to_z-of_z w128 given fits ∙ is

-- a coordinate with a space behind it
abbrev pub word_of : ℤ → ℤ → List ℕ
word_of over under = coordinate_numeral (coordinate_at over under) ++ (32 ∷ [])

all_three : (old one two new a b d : List ℕ) → one ≡ old ++ a → two ≡ one ++ b → new ≡ two ++ d → new ≡ old ++ (a ++ (b ++ (d ++ [])))
all_three old one two new a b d one_is two_is new_is =
    new_is
    ∙ ap (λ (text : List ℕ). text ++ d) (two_is ∙ ap (λ (text : List ℕ). text ++ b) one_is)
    ∙ append_assoc (old ++ a) b d
    ∙ append_assoc old a (b ++ d)
    ∙ ap (λ (text : List ℕ). old ++ (a ++ (b ++ text))) (sym (append-nil d))

pub three_more : {X E : Type 0} (old one two new a b d : List ℕ) (result : Result X E) → one ≡ old ++ a → two ≡ one ++ b → OnOk result (new ≡ two ++ d) → OnOk result (new ≡ old ++ (a ++ (b ++ (d ++ []))))
three_more old one two new a b d (Ok x) one_is two_is is = all_three old one two new a b d one_is two_is is
three_more old one two new a b d (Err e) one_is two_is is = tt

-- Of two contents that are not stronger than each other both are the same.
use Rattle.std.proofs.Common.{◌≡◌, ◌⊎◌, inl, inr, ℕ, ◌<◌, ◌≤◌, zero, suc, sym, ap, ◌∙◌, refl, arith}
use Rattle.qm_contents.specs.declared.contents.Contents.{Contents}
use Rattle.qm_contents.specs.declared.contents.Contents.TheVariants.{Empty, Solid}
use Rattle.qm_contents.specs.Precedence.{strength, contents_of_strength, IsAtMost}
use Rattle.qm_contents.proofs.SixKinds.{each_kind}

-- the strength of contents leads to them
pub strength_back : (a : Contents) → contents_of_strength (strength a) ≡ a
strength_back = each_kind (λ a. contents_of_strength (strength a) ≡ a) refl refl refl refl refl refl

pub same_strength : (a b : Contents) → IsAtMost a b → IsAtMost b a → a ≡ b
same_strength a b up down =
    let same : strength a ≡ strength b = omega (arith, up, down) in
    sym (strength_back a) ∙ ap contents_of_strength same ∙ strength_back b

pub empty_is_least : (a : Contents) → IsAtMost Empty a
empty_is_least a = omega arith

-- nothing is stronger than solid
pub at_most_solid : (a : Contents) → IsAtMost a Solid
at_most_solid = each_kind (λ a. IsAtMost a Solid) (omega arith) (omega arith) (omega arith) (omega arith) (omega arith) (omega arith)

-- nothing else is as strong as solid
pub only_solid : (a : Contents) → IsAtMost Solid a → a ≡ Solid
only_solid a most = same_strength a Solid (at_most_solid a) most

pub at_most_itself : (a b : Contents) → a ≡ b → IsAtMost a b
at_most_itself a b same = rw same (omega arith)

pub less_or_not : (m n : ℕ) → (m < n) ⊎ (n ≤ m)
less_or_not m zero = inr (omega arith)
less_or_not zero (suc n) = inl (omega arith)
less_or_not (suc m) (suc n) = elim (less_or_not m n) [ inl less ↦ inl (omega (arith, less)) | inr not ↦ inr (omega (arith, not)) ]

-- others are stronger, or at most as strong
pub stronger_or_not : (a b : Contents) → (strength a < strength b) ⊎ IsAtMost b a
stronger_or_not a b = less_or_not (strength a) (strength b)

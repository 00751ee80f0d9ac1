-- The bytes of values one behind the other.
use Rattle.std.proofs.Common.{◌≡◌, ℕ, ◌+◌, List, [], ◌∷◌, ◌++◌, refl, ap}
use Rattle.std.specs.List.{flat_map}
use Rattle.qm_formats.specs.Layout.{Layout, bytes_of_each}

pub many_bytes : {F X : Type 0} (layout : Layout F X) (k : ℕ) (xs : List X) → bytes_of_each (λ _. layout) k xs ≡ flat_map layout.bytes_of xs
many_bytes layout k [] = refl
many_bytes layout k (x ∷ xs) = ap (λ (rest : List ℕ). layout.bytes_of x ++ rest) (many_bytes layout (k + 1) xs)

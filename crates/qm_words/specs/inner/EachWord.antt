use Rattle.std.specs.Prelude.{ℕ, List, [], ◌∷◌}

-- each of some words has a property
abbrev pub Each : (List ℕ → Type 0) → List (List ℕ) → Type 0
Each P [] = Unit {0}
Each P (word ∷ words) = P word × Each P words

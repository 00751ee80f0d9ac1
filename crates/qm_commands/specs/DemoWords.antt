use Rattle.std.specs.Prelude.{◌≡◌, ◌≤◌, ◌<◌, ◌^◌, ℕ, List, [], ◌∷◌, codes}
use Rattle.std.specs.Fmt.{decimal}

-- `demo N NUMBER`: 1 to 64 rooms, and a number below 2^64, both without a sign or a leading zero
pub record AreDemoWords (words : List (List ℕ)) (rooms number : ℕ) : Type 0 where
  pub words_are : words ≡ codes "demo" ∷ decimal rooms ∷ decimal number ∷ []
  pub some : 1 ≤ rooms
  pub few : rooms ≤ 64
  pub small : number < 2 ^ 64

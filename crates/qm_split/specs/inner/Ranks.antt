use Rattle.std.specs.Prelude.{◌≡◌, ◌⊎◌, ◌<◌, true, false, Option, Some, None}
use Rattle.qm_split.specs.declared.rank.Rank.{Rank}

-- axial before others, and of two that are both axial or both not the one of the lesser number
abbrev pub IsBefore : Rank → Rank → Type 0
IsBefore a b = ((a.axial ≡ true) × (b.axial ≡ false)) ⊎ ((a.axial ≡ b.axial) × (a.number < b.number))

abbrev pub IsNoLater : Rank → Rank → Type 0
IsNoLater a b = IsBefore b a → ⊥

-- one of two ranks, where the first may be missing, and after neither
abbrev pub IsFirstOf : Option Rank → Rank → Rank → Type 0
IsFirstOf None rank first = first ≡ rank
IsFirstOf (Some other) rank first = ((first ≡ other) ⊎ (first ≡ rank)) × IsNoLater first other × IsNoLater first rank

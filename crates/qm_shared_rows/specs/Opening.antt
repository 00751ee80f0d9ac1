use Rattle.std.specs.Prelude.{◌≡◌, ℕ, ◌+◌, ◌*◌, ◌<◌, List, [], ◌∷◌, ◌++◌, map, length, replicate, slice_index}
use Rattle.std.specs.List.{range_with_len, flat_map}
use Rattle.qm_shared_rows.specs.RowSets.{RowSets}
use Rattle.qm_shared_rows.specs.Findings.{Ceiling, Findings, ceiling}
use Rattle.qm_shared_rows.specs.SharedRows.{SharedRows, HasOnly, HasAll, IsToBeKept}

-- Shared rows at the start: nothing is drawn or done, and there is one pass, whose ceilings are the rows. Rows are given as
-- their words, one row after another.

-- word k of the row of a portal
abbrev pub given_word : ℕ → List ℕ → ℕ → ℕ → ℕ
given_word width rows portal k = slice_index rows (portal * width + k)

-- each of these words as a ceiling
abbrev pub ceilings_of : ℕ → ℕ → List ℕ → List Ceiling
ceilings_of portals width rows = flat_map (λ portal. map (λ k. ceiling portal k (given_word width rows portal k)) (range_with_len 0 width)) (range_with_len 0 portals)

abbrev pub first_pass : ℕ → ℕ → List ℕ → Findings
first_pass portals width rows = record { ceilings = ceilings_of portals width rows; known = []; found = []; drawn = [] }

abbrev pub opening_words : ℕ → List ℕ → List ℕ
opening_words portals rows = replicate (1 + portals) 0 ++ rows

abbrev pub opening_of : RowSets → List ℕ → SharedRows
opening_of sets rows = record { words = opening_words sets.portals rows; passes = first_pass sets.portals sets.width rows ∷ [] }

-- rows that may be shared: each has all leaves in sight of its portal, and only numbered leaves
pub record AreGivenRows (sets : RowSets) (rows : List ℕ) : Type 0 where
  pub one_each : length rows ≡ sets.portals * sets.width
  pub sight : (portal k : ℕ) → portal < sets.portals → k < sets.width → HasAll (IsToBeKept sets portal) k (given_word sets.width rows portal k)
  pub numbered : (portal k : ℕ) → portal < sets.portals → k < sets.width → HasOnly (λ leaf. leaf < sets.leaves) k (given_word sets.width rows portal k)

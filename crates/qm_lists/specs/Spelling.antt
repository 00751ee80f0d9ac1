use Rattle.std.specs.Prelude.{◌≡◌, ◌<◌, ◌≤◌, ℕ, zero, suc, ◌+◌, ◌==◌, List, [], ◌∷◌, ◌++◌, replicate, if◌then◌else◌}

-- How the bytes of a row are written: a byte that is not zero stands for itself; a zero byte is followed by the number of
-- zeros in the run, 1 to 255. Runs are as long as possible.

abbrev pub longest_run : ℕ
longest_run = 255

-- there is no byte, or the first one is not zero
abbrev pub BeginsNonzero : List ℕ → Type 0
BeginsNonzero [] = Unit {0}
BeginsNonzero (zero ∷ row) = ⊥
BeginsNonzero (suc byte ∷ row) = Unit {0}

-- the bytes spell a row
abbrev pub SpellsRow : List ℕ → List ℕ → Type 0
SpellsRow [] row = row ≡ []
SpellsRow (suc byte ∷ bytes) row = (rest : List ℕ) × (row ≡ suc byte ∷ rest) × SpellsRow bytes rest
SpellsRow (zero ∷ []) row = ⊥
SpellsRow (zero ∷ count ∷ bytes) row =
    (rest : List ℕ) × (row ≡ replicate count zero ++ rest) × (0 < count) × (count ≤ longest_run) × (count < longest_run → BeginsNonzero rest) × SpellsRow bytes rest

-- one zero more in front of what is spelt
abbrev pub zero_before : List ℕ → List ℕ
zero_before [] = zero ∷ 1 ∷ []
zero_before (suc byte ∷ bytes) = zero ∷ 1 ∷ suc byte ∷ bytes
zero_before (zero ∷ []) = zero ∷ 1 ∷ zero ∷ []
zero_before (zero ∷ count ∷ bytes) = if count == longest_run then zero ∷ count ∷ zero_before bytes else zero ∷ (count + 1) ∷ bytes

-- the one spelling of a row
unfoldable pub runs_of : List ℕ → List ℕ
runs_of [] = []
runs_of (zero ∷ row) = zero_before (runs_of row)
runs_of (suc byte ∷ row) = suc byte ∷ runs_of row

-- Why bytes spell no row of a width: they end too early, a run has no zeros, a run stands behind one that could be longer,
-- or a run is longer than what is due.
pub data RunFaultKind : Type 0 where
  short : RunFaultKind
  zero_count : RunFaultKind
  split_run : RunFaultKind
  overrun : RunFaultKind

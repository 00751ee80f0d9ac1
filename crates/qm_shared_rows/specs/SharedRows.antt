use Rattle.std.specs.Prelude.{◌≡◌, ℕ, ◌+◌, ◌*◌, ◌<◌, true, List, slice_index}
use Rattle.qm_lists.specs.Word.{has_bit}
use Rattle.qm_shared_rows.specs.RowSets.{RowSets}
use Rattle.qm_shared_rows.specs.Findings.{Findings}

-- The words that passes share, and what each pass has found. The first word is the ticket, then comes one done word for each
-- portal, and then the row of each portal.
pub record SharedRows : Type 0 where
  pub words : List ℕ
  pub passes : List Findings

abbrev pub done_place : ℕ → ℕ
done_place portal = 1 + portal

abbrev pub row_place : RowSets → ℕ → ℕ → ℕ
row_place sets portal k = ((1 + sets.portals) + portal * sets.width) + k

abbrev pub ticket_of : SharedRows → ℕ
ticket_of state = slice_index state.words 0

abbrev pub done_of : SharedRows → ℕ → ℕ
done_of state portal = slice_index state.words (done_place portal)

abbrev pub row_word : RowSets → SharedRows → ℕ → ℕ → ℕ
row_word sets state portal k = slice_index state.words (row_place sets portal k)

-- each bit of a word is one of the other word
abbrev pub BitsLieIn : ℕ → ℕ → Type 0
BitsLieIn word other = (bit : ℕ) → bit < 64 → has_bit word bit ≡ true → has_bit other bit ≡ true

-- each bit of word k of a portal's row is a leaf of a set
abbrev pub HasOnly : (ℕ → Type 0) → ℕ → ℕ → Type 0
HasOnly Set k word = (bit : ℕ) → bit < 64 → has_bit word bit ≡ true → Set (64 * k + bit)

-- a leaf that the row of a portal has to keep: a numbered one that is in sight
abbrev pub IsToBeKept : RowSets → ℕ → ℕ → Type 0
IsToBeKept sets portal leaf = (leaf < sets.leaves) × sets.InSight portal leaf

-- each leaf of a set that is one of word k is a bit of it
abbrev pub HasAll : (ℕ → Type 0) → ℕ → ℕ → Type 0
HasAll Set k word = (bit : ℕ) → bit < 64 → Set (64 * k + bit) → has_bit word bit ≡ true

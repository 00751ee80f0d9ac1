use Rattle.std.specs.Prelude.{◌≡◌, ℕ, ◌+◌, ◌*◌, ◌%◌, ◌^◌, ◌<◌, ◌≢◌, true, [], ◌∷◌, ◌++◌, Some, slice_get, slice_set, bit_and, Contains}
use Rattle.qm_lists.specs.Word.{has_bit}
use Rattle.qm_shared_rows.specs.RowSets.{RowSets}
use Rattle.qm_shared_rows.specs.Findings.{Findings, ceiling, done_word, none_found, with_ceiling, with_known, with_found, with_drawn, without_drawn, found_by_both}
use Rattle.qm_shared_rows.specs.SharedRows.{SharedRows, done_place, row_place, ticket_of, done_of, row_word, HasOnly, IsToBeKept}

-- The steps of passes on shared rows: what each asks, and what it does to the words and to what the pass has found.

-- the pass of this number has found this
abbrev pub IsPass : SharedRows → ℕ → Findings → Type 0
IsPass state id pass = slice_get state.passes id ≡ Some pass

-- the words stay, and the pass of this number has found something else
abbrev pub pass_becomes : ℕ → Findings → SharedRows → SharedRows
pass_becomes id pass state = record { words = state.words; passes = slice_set state.passes id pass }

-- so, and a word became another
abbrev pub word_becomes : ℕ → ℕ → SharedRows → SharedRows
word_becomes place word state = record { words = slice_set state.words place word; passes = state.passes }

-- a pass has a ceiling of word k of a portal's row that lies within the bound of the portal
pub record KnowsBound (sets : RowSets) (pass : Findings) (portal k : ℕ) : Type 0 where
  pub word : ℕ
  pub listed : Contains pass.ceilings (ceiling portal k word)
  pub bound : HasOnly (sets.InBound portal) k word

-- a mask clears no bit of word k of a portal's row that has to be kept
abbrev pub KeepsAll : RowSets → ℕ → ℕ → ℕ → ℕ → Type 0
KeepsAll sets portal k mask word = (bit : ℕ) → bit < 64 → has_bit word bit ≡ true → IsToBeKept sets portal (64 * k + bit) → has_bit mask bit ≡ true

-- one step leads from a state to another
pub data IsBoardStep (sets : RowSets) (old : SharedRows) : SharedRows → Type 0 where
  -- a word of a row is loaded: the word found is a ceiling
  row_word_loaded : (id portal k : ℕ) (pass : Findings) → IsPass old id pass → portal < sets.portals → k < sets.width →
      IsBoardStep sets old (pass_becomes id (with_ceiling (ceiling portal k (row_word sets old portal k)) pass) old)
  -- a done word is loaded: the word found is kept
  done_word_loaded : (id portal : ℕ) (pass : Findings) → IsPass old id pass → portal < sets.portals →
      IsBoardStep sets old (pass_becomes id (with_found (done_word portal (done_of old portal)) pass) old)
  -- a word of a row is cut by a mask that clears no leaf in sight: the mask is a ceiling
  row_word_cut : (id portal k mask : ℕ) (pass : Findings) → IsPass old id pass → portal < sets.portals → k < sets.width →
      KeepsAll sets portal k mask (row_word sets old portal k) →
      IsBoardStep sets old (pass_becomes id (with_ceiling (ceiling portal k mask) pass) (word_becomes (row_place sets portal k) (bit_and (row_word sets old portal k) mask) old))
  -- a portal is marked as done by a pass that has, for each word of its row, a ceiling within its bound
  marked_done : (id portal : ℕ) (pass : Findings) → IsPass old id pass → portal < sets.portals →
      ((k : ℕ) → k < sets.width → KnowsBound sets pass portal k) →
      IsBoardStep sets old (pass_becomes id (with_known portal pass) (word_becomes (done_place portal) 1 old))
  -- a number is drawn: the ticket grows by one, and wraps
  number_drawn : (id : ℕ) (pass : Findings) → IsPass old id pass →
      IsBoardStep sets old (pass_becomes id (with_drawn (ticket_of old) pass) (word_becomes 0 ((ticket_of old + 1) % 2 ^ 64) old))
  -- a pass is split: the numbers drawn stay with the first
  pass_split : (id : ℕ) (pass : Findings) → IsPass old id pass →
      IsBoardStep sets old (record { words = old.words; passes = old.passes ++ without_drawn pass ∷ [] })
  -- two passes are joined: the first has what both have found, and the other nothing
  passes_joined : (id other : ℕ) (pass spent : Findings) → IsPass old id pass → other ≢ id → IsPass old other spent →
      IsBoardStep sets old (pass_becomes other none_found (pass_becomes id (found_by_both pass spent) old))

use Rattle.std.specs.Prelude.{◌≡◌, ◌⊎◌, ℕ, ◌+◌, ◌*◌, ◌^◌, ◌<◌, ◌≤◌, ◌==◌, List, length, Contains}
use Rattle.std.specs.List.{sum_by, count_by}
use Rattle.qm_shared_rows.specs.RowSets.{RowSets}
use Rattle.qm_shared_rows.specs.Findings.{Findings, ceiling}
use Rattle.qm_shared_rows.specs.SharedRows.{SharedRows, ticket_of, done_of, row_word, BitsLieIn, HasOnly, HasAll, IsToBeKept}
use Rattle.qm_shared_rows.specs.Steps.{IsPass}

-- The rule of shared rows, which holds at the start and after each step.

-- how many numbers passes have drawn in all
abbrev pub drawn_in_all : List Findings → ℕ
drawn_in_all passes = sum_by (λ pass. length pass.drawn) passes

-- how many times they have drawn a number
abbrev pub times_drawn : ℕ → List Findings → ℕ
times_drawn number passes = sum_by (λ pass. count_by (λ drawn. drawn == number) pass.drawn) passes

-- the ticket is the number of all that were drawn, each below it was drawn once, and no other
pub record IsTicket (state : SharedRows) : Type 0 where
  pub counts : ticket_of state ≡ drawn_in_all state.passes
  pub once : (number : ℕ) → number < ticket_of state → times_drawn number state.passes ≡ 1
  pub no_other : (number : ℕ) → ticket_of state ≤ number → times_drawn number state.passes ≡ 0

pub record IsSoundBoard (sets : RowSets) (state : SharedRows) : Type 0 where
  -- there is a ticket, a done word for each portal, and its row
  pub words_are : length state.words ≡ (1 + sets.portals) + sets.portals * sets.width
  -- a row lacks no leaf in sight of its portal
  pub sight : (portal k : ℕ) → portal < sets.portals → k < sets.width → HasAll (IsToBeKept sets portal) k (row_word sets state portal k)
  -- and has only numbered leaves
  pub numbered : (portal k : ℕ) → portal < sets.portals → k < sets.width → HasOnly (λ leaf. leaf < sets.leaves) k (row_word sets state portal k)
  -- each word of a row lies within each ceiling of it, in every pass
  pub ceilings : (id : ℕ) (pass : Findings) (portal k word : ℕ) → IsPass state id pass → Contains pass.ceilings (ceiling portal k word) → portal < sets.portals → k < sets.width → BitsLieIn (row_word sets state portal k) word
  -- a done word is 0 or 1, and where it is 1, the row lies within the bound of its portal
  pub done : (portal : ℕ) → portal < sets.portals → (done_of state portal ≡ 0) ⊎ (done_of state portal ≡ 1)
  pub bound : (portal k : ℕ) → portal < sets.portals → k < sets.width → done_of state portal ≡ 1 → HasOnly (sets.InBound portal) k (row_word sets state portal k)
  -- a portal that some pass knows as done is done
  pub known : (id : ℕ) (pass : Findings) (portal : ℕ) → IsPass state id pass → Contains pass.known portal → portal < sets.portals → done_of state portal ≡ 1
  -- as long as fewer numbers were drawn than a word can count, the ticket counts them
  pub ticket : drawn_in_all state.passes < 2 ^ 64 → IsTicket state

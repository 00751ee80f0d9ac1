use Rattle.std.specs.Prelude.{ℕ, ◌+◌, List, map, drop, length, Some}
use Rattle.atomic_table.specs.Table.{State}
use Rattle.qm_contacts.specs.World.{World}
use Rattle.qm_shared_rows.specs.Findings.{Findings}
use Rattle.qm_shared_rows.specs.SharedRows.{SharedRows}
use Rattle.qm_shared_rows.specs.Opening.{first_pass, AreGivenRows}
use Rattle.qm_board.specs.WorldSets.{width_of, sets_of}
use Rattle.qm_board.specs.Reached.{IsReachedState}
use Rattle.qm_board.specs.declared.view.View.{View}

-- The rule of the table of a board, which holds at the start and between any two steps: the rows were given so that they may
-- be shared, and what the table has now comes from them by a list of steps of the passes whose views it has.

-- the rows at the start stand behind the ticket and the done words
abbrev pub given_in : World → List ℕ → List ℕ
given_in world words = drop (1 + length world.portals) words

abbrev pub view_of : World → List ℕ → Findings → View
view_of world given findings = record { world = Some world; given = given; findings = findings }

-- what all passes have found
abbrev pub all_found : List View → List Findings
all_found views = map (λ view. view.findings) views

abbrev pub shared_in : State (Unit {0}) View → SharedRows
shared_in state = record { words = state.words; passes = all_found state.views }

pub record IsPlayed (world : World) (given : List ℕ) (state : SharedRows) : Type 0 where
  pub may_be_shared : AreGivenRows (sets_of world) given
  pub comes : IsReachedState world given state

unfoldable pub holds_over : World → List ℕ → State (Unit {0}) View → Type 0
holds_over world given state = IsPlayed world given (shared_in state)

-- the first pass, of a board that began with these words
abbrev pub first_view : World → List ℕ → View
first_view world words = view_of world (given_in world words) (first_pass (length world.portals) (width_of world) (given_in world words))

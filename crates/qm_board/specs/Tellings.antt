use Rattle.std.specs.Prelude.{◌≡◌, ◌⊎◌, ℕ, ◌<◌, [], length, Contains, Some, None}
use Rattle.atomic_table.specs.Table.{Step, Me}
use Rattle.qm_contacts.specs.World.{World}
use Rattle.qm_shared_rows.specs.Findings.{Findings, ceiling, done_word, none_found, with_ceiling, with_known, with_found, with_drawn, without_drawn, found_by_both}
use Rattle.qm_shared_rows.specs.SharedRows.{done_place, row_place}
use Rattle.qm_board.specs.WorldSets.{width_of, sets_of}
use Rattle.qm_board.specs.Reached.{IsReachedWord, IsReachedMark}
use Rattle.qm_board.specs.ReadWords.{IsReadWord}
use Rattle.qm_board.specs.declared.view.View.{View}

-- What each step tells its pass: of the step, the pass before, the number found, and the pass after.

abbrev pub Telling : Type 1
Telling = Step (Unit {0}) → Me (Unit {0}) View → ℕ → Me (Unit {0}) View → Type 0

-- the pass has found this, and is of the same board
pub record HasFound (old new : Me (Unit {0}) View) (findings : Findings) : Type 0 where
  pub same_world : new.0.world ≡ old.0.world
  pub same_given : new.0.given ≡ old.0.given
  pub found : new.0.findings ≡ findings
  pub same_slots : new.1 ≡ old.1

-- the step was at word k of the row of a portal of the world
pub record IsAtRow (word : ℕ) (world : World) (portal k : ℕ) : Type 0 where
  pub portal_in_range : portal < length world.portals
  pub word_in_range : k < width_of world
  pub place : word ≡ row_place (sets_of world) portal k

abbrev pub row_word_loaded : Telling
row_word_loaded step old n new = (world : World) (portal k : ℕ) → old.0.world ≡ Some world → IsAtRow step.word world portal k →
    HasFound old new (with_ceiling (ceiling portal k n) old.0.findings) × IsReadWord world old.0.findings portal k n × IsReachedWord world old.0.given old.0.findings portal k n

abbrev pub row_word_cut : Telling
row_word_cut step old n new = (world : World) (portal k : ℕ) → old.0.world ≡ Some world → IsAtRow step.word world portal k →
    HasFound old new (with_ceiling (ceiling portal k step.first) old.0.findings)

abbrev pub done_word_loaded : Telling
done_word_loaded step old n new = (world : World) (portal : ℕ) → old.0.world ≡ Some world → portal < length world.portals → step.word ≡ done_place portal →
    HasFound old new (with_found (done_word portal n) old.0.findings) × ((n ≡ 0) ⊎ (n ≡ 1)) × (Contains old.0.findings.known portal → n ≡ 1)

abbrev pub marked_done : Telling
marked_done step old n new = (world : World) (portal : ℕ) → old.0.world ≡ Some world → portal < length world.portals → step.word ≡ done_place portal →
    HasFound old new (with_known portal old.0.findings) × IsReachedMark world old.0.given portal (with_known portal old.0.findings)

abbrev pub number_drawn : Telling
number_drawn step old n new = HasFound old new (with_drawn n old.0.findings)

-- ---- views that are split and joined

abbrev pub left_view : View → View
left_view view = view

abbrev pub right_view : View → View
right_view view = record { world = view.world; given = view.given; findings = without_drawn view.findings }

abbrev pub both_views : View → View → View
both_views view other = record { world = view.world; given = view.given; findings = found_by_both view.findings other.findings }

abbrev pub spent_view : View
spent_view = record { world = None; given = []; findings = none_found }

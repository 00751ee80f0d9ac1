-- The steps of shared rows by names of their own, and that what comes from the rows given is shared soundly.
use Rattle.std.proofs.Common.{◌≢◌, ℕ, ◌+◌, ◌%◌, ◌^◌, ◌<◌, List, [], ◌∷◌, ◌++◌, bit_and}
use Rattle.qm_contacts.specs.World.{World}
use Rattle.qm_shared_rows.specs.RowSets.{RowSets}
use Rattle.qm_shared_rows.specs.Findings.{Findings, ceiling, done_word, none_found, with_ceiling, with_known, with_found, with_drawn, without_drawn, found_by_both}
use Rattle.qm_shared_rows.specs.SharedRows.{SharedRows, done_place, row_place, ticket_of, done_of, row_word}
use Rattle.qm_shared_rows.specs.Steps.{IsPass, pass_becomes, word_becomes, KnowsBound, KeepsAll, IsBoardStep, row_word_loaded, done_word_loaded, row_word_cut, marked_done, number_drawn, pass_split, passes_joined}
use Rattle.qm_shared_rows.specs.Opening.{opening_of}
use Rattle.qm_shared_rows.specs.Sound.{IsSoundBoard}
use Rattle.qm_shared_rows.proofs.KeptSteps.{kept_by_run}
use Rattle.qm_shared_rows.proofs.OpeningLaws.{opening_sound}
use Rattle.qm_board.specs.WorldSets.{sets_of}
use Rattle.qm_board.specs.BoardRule.{IsPlayed}

pub sound_of : (world : World) (given : List ℕ) (state : SharedRows) → IsPlayed world given state → IsSoundBoard (sets_of world) state
sound_of world given state played = kept_by_run (sets_of world) (opening_of (sets_of world) given) (opening_sound (sets_of world) given played.may_be_shared) state played.comes

module _ (sets : RowSets) (old : SharedRows) where
  pub loads_row_word : (id portal k : ℕ) (pass : Findings) → IsPass old id pass → portal < sets.portals → k < sets.width →
      IsBoardStep sets old (pass_becomes id (with_ceiling (ceiling portal k (row_word sets old portal k)) pass) old)
  loads_row_word id portal k pass is inside within = row_word_loaded id portal k pass is inside within

  pub loads_done_word : (id portal : ℕ) (pass : Findings) → IsPass old id pass → portal < sets.portals →
      IsBoardStep sets old (pass_becomes id (with_found (done_word portal (done_of old portal)) pass) old)
  loads_done_word id portal pass is inside = done_word_loaded id portal pass is inside

  pub cuts_row_word : (id portal k mask : ℕ) (pass : Findings) → IsPass old id pass → portal < sets.portals → k < sets.width → KeepsAll sets portal k mask (row_word sets old portal k) →
      IsBoardStep sets old (pass_becomes id (with_ceiling (ceiling portal k mask) pass) (word_becomes (row_place sets portal k) (bit_and (row_word sets old portal k) mask) old))
  cuts_row_word id portal k mask pass is inside within keeps = row_word_cut id portal k mask pass is inside within keeps

  pub marks_done : (id portal : ℕ) (pass : Findings) → IsPass old id pass → portal < sets.portals → ((k : ℕ) → k < sets.width → KnowsBound sets pass portal k) →
      IsBoardStep sets old (pass_becomes id (with_known portal pass) (word_becomes (done_place portal) 1 old))
  marks_done id portal pass is inside knows = marked_done id portal pass is inside knows

  pub draws_number : (id : ℕ) (pass : Findings) → IsPass old id pass → IsBoardStep sets old (pass_becomes id (with_drawn (ticket_of old) pass) (word_becomes 0 ((ticket_of old + 1) % 2 ^ 64) old))
  draws_number id pass is = number_drawn id pass is

  pub splits_pass : (id : ℕ) (pass : Findings) → IsPass old id pass → IsBoardStep sets old (record { words = old.words; passes = old.passes ++ without_drawn pass ∷ [] })
  splits_pass id pass is = pass_split id pass is

  pub joins_passes : (id other : ℕ) (pass spent : Findings) → IsPass old id pass → other ≢ id → IsPass old other spent →
      IsBoardStep sets old (pass_becomes other none_found (pass_becomes id (found_by_both pass spent) old))
  joins_passes id other pass spent is apart other_is = passes_joined id other pass spent is apart other_is

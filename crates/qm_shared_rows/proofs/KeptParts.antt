-- The rule of shared rows is kept where a pass finds more, and where words of rows lose bits.
use Rattle.std.proofs.Common.{◌≡◌, inl, inr, ⊎_elim, ℕ, ◌+◌, ◌^◌, ◌<◌, ◌≤◌, ◌==◌, List, length, get_or, set, Some, slice_get, Contains, sym, ap, ◌∙◌, subst, arith}
use Rattle.std.specs.List.{count_by}
use Rattle.qm_shared_rows.specs.RowSets.{RowSets}
use Rattle.qm_shared_rows.specs.Findings.{Findings, ceiling}
use Rattle.qm_shared_rows.specs.SharedRows.{SharedRows, ticket_of, done_of, row_word, BitsLieIn, HasAll, IsToBeKept}
use Rattle.qm_shared_rows.specs.Steps.{IsPass, pass_becomes}
use Rattle.qm_shared_rows.specs.Sound.{drawn_in_all, times_drawn, IsTicket, IsSoundBoard}
use Rattle.qm_shared_rows.proofs.PassLists.{set_cases, sum_stays}

module _ (sets : RowSets) (old : SharedRows) (sound : IsSoundBoard sets old) where
  -- what a pass has found is so
  pub record IsSoundPass (state : SharedRows) (pass : Findings) : Type 0 where
    pub ceilings : (portal k word : ℕ) → Contains pass.ceilings (ceiling portal k word) → portal < sets.portals → k < sets.width → BitsLieIn (row_word sets state portal k) word
    pub known : (portal : ℕ) → Contains pass.known portal → portal < sets.portals → done_of state portal ≡ 1

  pub sound_pass : (id : ℕ) (pass : Findings) → IsPass old id pass → IsSoundPass old pass
  sound_pass id pass is = record {
    ceilings = λ portal k word listed. sound.ceilings id pass portal k word is listed;
    known = λ portal listed. sound.known id pass portal is listed;
  }

  -- ---- the passes change

  pub passes_change : (passes : List Findings) →
      ((id : ℕ) (pass : Findings) → slice_get passes id ≡ Some pass → IsSoundPass old pass) →
      (drawn_in_all passes < 2 ^ 64 → IsTicket (record { words = old.words; passes = passes })) →
      IsSoundBoard sets (record { words = old.words; passes = passes })
  passes_change passes are ticket = record {
    words_are = sound.words_are;
    sight = sound.sight;
    numbered = sound.numbered;
    ceilings = λ id pass portal k word is. (are id pass is).ceilings portal k word;
    done = sound.done;
    bound = sound.bound;
    known = λ id pass portal is. (are id pass is).known portal;
    ticket = ticket;
  }

  -- the ticket counts as it did
  pub ticket_same : (passes : List Findings) → drawn_in_all passes ≡ drawn_in_all old.passes → ((n : ℕ) → times_drawn n passes ≡ times_drawn n old.passes) →
      drawn_in_all passes < 2 ^ 64 → IsTicket (record { words = old.words; passes = passes })
  ticket_same passes all each few =
      let was = sound.ticket (omega (arith, few, all)) in
      record {
        counts = was.counts ∙ sym all;
        once = λ n below. each n ∙ was.once n below;
        no_other = λ n above. each n ∙ was.no_other n above;
      }

  -- one pass finds something else, and has drawn the same
  pub pass_finds : (id : ℕ) (pass new : Findings) → IsPass old id pass → IsSoundPass old new → new.drawn ≡ pass.drawn → IsSoundBoard sets (pass_becomes id new old)
  pass_finds id pass new is new_sound drawn = passes_change (set old.passes id new)
      (λ other other_pass other_is. ⊎_elim
      (λ here. subst (IsSoundPass old) here.1 new_sound)
      (λ elsewhere. sound_pass other other_pass elsewhere.1)
      (set_cases old.passes id other new other_pass other_is))
      (ticket_same (set old.passes id new)
      (sum_stays (λ p. length p.drawn) old.passes id pass new is (ap length drawn))
      (λ n. sum_stays (λ p. count_by (λ m. m == n) p.drawn) old.passes id pass new is (ap (count_by (λ m. m == n)) drawn)))

  -- ---- words of rows lose bits

  pub rows_narrow : (words : List ℕ) → length words ≡ length old.words →
      ((portal k : ℕ) → portal < sets.portals → k < sets.width → BitsLieIn (row_word sets (record { words = words; passes = old.passes }) portal k) (row_word sets old portal k)) →
      ((portal k : ℕ) → portal < sets.portals → k < sets.width → HasAll (IsToBeKept sets portal) k (row_word sets (record { words = words; passes = old.passes }) portal k)) →
      ((portal : ℕ) → portal < sets.portals → get_or words (1 + portal) 0 ≡ done_of old portal) →
      get_or words 0 0 ≡ ticket_of old →
      IsSoundBoard sets (record { words = words; passes = old.passes })
  rows_narrow words long narrow sight done_same ticket_is = record {
    words_are = long ∙ sound.words_are;
    sight = sight;
    numbered = λ portal k inside within bit less is. sound.numbered portal k inside within bit less (narrow portal k inside within bit less is);
    ceilings = λ id pass portal k word is listed inside within bit less has. sound.ceilings id pass portal k word is listed inside within bit less (narrow portal k inside within bit less has);
    done = λ portal inside. ⊎_elim (λ zero. inl (done_same portal inside ∙ zero)) (λ one. inr (done_same portal inside ∙ one)) (sound.done portal inside);
    bound = λ portal k inside within is bit less has. sound.bound portal k inside within (sym (done_same portal inside) ∙ is) bit less (narrow portal k inside within bit less has);
    known = λ id pass portal is listed inside. done_same portal inside ∙ sound.known id pass portal is listed inside;
    ticket = λ few.
        let was = sound.ticket few in
        record {
          counts = ticket_is ∙ was.counts;
          once = λ n below. was.once n (subst (λ (t : ℕ). n < t) ticket_is below);
          no_other = λ n above. was.no_other n (subst (λ (t : ℕ). t ≤ n) ticket_is above);
        };
  }

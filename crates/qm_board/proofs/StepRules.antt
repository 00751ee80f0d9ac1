-- The rule of a board allows each step of a pass, since it is one of the steps of shared rows, and what the step tells.
use Rattle.std.proofs.Common.{◌≡◌, ◌⊎◌, ⊎_elim, ℕ, ◌+◌, ◌%◌, ◌^◌, ◌<◌, List, [], ◌∷◌, ◌++◌, length, get_or, set, Some, bit_and, bit_or, Contains, refl, sym, ap, ◌∙◌, subst, arith}
use mathlib.Core.Option.{none, some}
use lib.ListN.{get_elem?}
use Rattle.std.proofs.lemmas.List.{set-get_or}
use Rattle.atomic_table.specs.Table.{State, Me, step, keeps, Allows, Splits, Joins, stepped}
use Rattle.atomic_table.proofs.Lists.{set_again, set_else}
use Rattle.qm_contacts.specs.World.{World}
use Rattle.qm_shared_rows.specs.RowSets.{RowSets}
use Rattle.qm_shared_rows.specs.Findings.{Findings, ceiling, done_word, none_found, with_ceiling, with_known, with_found, with_drawn, without_drawn, found_by_both}
use Rattle.qm_shared_rows.specs.SharedRows.{SharedRows, done_place, row_place, ticket_of, done_of, row_word, HasAll, IsToBeKept}
use Rattle.qm_shared_rows.specs.Steps.{IsPass, pass_becomes, KnowsBound, IsBoardStep}
use Rattle.qm_shared_rows.specs.Sound.{IsSoundBoard}
use Rattle.qm_shared_rows.specs.Runs.{step_more}
use Rattle.qm_shared_rows.proofs.WordPlaces.{place_sum, same_row, same_k}
use Rattle.qm_shared_rows.proofs.KeptSteps.{kept_by_step}
use Rattle.qm_board.specs.WorldSets.{width_of, sets_of}
use Rattle.qm_board.specs.Reached.{IsReachedState, IsReachedWord, IsReachedMark}
use Rattle.qm_board.specs.ReadWords.{IsReadWord}
use Rattle.qm_board.specs.BoardRule.{view_of, all_found, shared_in, IsPlayed, holds_over}
use Rattle.qm_board.specs.Tellings.{HasFound, IsAtRow, row_word_loaded, done_word_loaded, row_word_cut, marked_done, number_drawn, left_view, right_view, both_views, spent_view}
use Rattle.qm_board.specs.declared.view.View.{View}
use Rattle.qm_lists.proofs.Elements.{Contains-first}
use Rattle.qm_board.proofs.Views.{found_at, found_set, found_there, found_push}
use Rattle.qm_board.proofs.Played.{sound_of, loads_row_word, loads_done_word, cuts_row_word, marks_done, draws_number, splits_pass, joins_passes}

abbrev Table : Type 0
Table = State (Unit {0}) View

abbrev Seated : Type 0
Seated = Me (Unit {0}) View

module _ (world : World) (given : List ℕ) (slots id : ℕ) (me : Seated) (is_world : me.0.world ≡ Some world) (is_given : me.0.given ≡ given) where
  abbrev sets : RowSets
  sets = sets_of world

  abbrev found : Findings
  found = me.0.findings

  -- the words and passes after a step
  abbrev after_step : Table → ℕ → ℕ → Findings → SharedRows
  after_step s place word more = record { words = set s.words place word; passes = set (all_found s.views) id more }

  -- What a step has to show: in whatever state that is reached, it is a step of shared rows, by which the pass finds something
  -- more, and which it is told.
  abbrev Shows : ℕ → (ℕ → ℕ) → (ℕ → Seated → Type 0) → Type 0
  Shows place f then = (s : Table) → IsReachedState world given (shared_in s) → IsSoundBoard sets (shared_in s) → IsPass (shared_in s) id found →
      (more : Findings) × IsBoardStep sets (shared_in s) (after_step s place (f (get_or s.words place 0)) more) × then (get_or s.words place 0) (view_of world given more, me.1)

  allowed : (place : ℕ) (f : ℕ → ℕ) (then : ℕ → Seated → Type 0) → Shows place f then → Allows (holds_over world given) slots id me place f then
  unfolding holds_over
  allowed place f then shows s holds homes is fits =
      let shown = shows s holds.comes (sound_of world given (shared_in s) holds) (found_at s.views id me.0 is) in
      let more = shown.0 in
      let next : IsBoardStep sets (shared_in s) (shared_in (stepped s place (f (get_or s.words place 0)) id me.1 (view_of world given more) keeps)) =
      subst (λ (passes : List Findings). IsBoardStep sets (shared_in s) (record { words = set s.words place (f (get_or s.words place 0)); passes = passes })) (sym (found_set s.views id (view_of world given more))) shown.1 in
      let kept : IsPlayed world given (shared_in (stepped s place (f (get_or s.words place 0)) id me.1 (view_of world given more) keeps)) =
      record { may_be_shared = holds.may_be_shared; comes = step_more holds.comes next } in
      (view_of world given more, keeps, tt, kept, shown.2)

  has_found : (more : Findings) → HasFound me (view_of world given more, me.1) more
  has_found more = record { same_world = sym is_world; same_given = sym is_given; found = refl; same_slots = refl }

  same_world : (other : World) → me.0.world ≡ Some other → world ≡ other
  same_world other is = let both : Some world ≡ Some other = sym is_world ∙ is in cc

  -- a word that is loaded stays
  stays : (s : Table) (place : ℕ) (more : Findings) → IsBoardStep sets (shared_in s) (pass_becomes id more (shared_in s)) → IsBoardStep sets (shared_in s) (after_step s place (get_or s.words place 0) more)
  stays s place more next = subst (λ (words : List ℕ). IsBoardStep sets (shared_in s) (record { words = words; passes = set (all_found s.views) id more })) (sym (set-get_or s.words place 0)) next

  -- ---- at a word of a row

  module _ (portal k : ℕ) (inside : portal < length world.portals) (within : k < width_of world) where
    abbrev here : ℕ
    here = row_place sets portal k

    only_here : (T : World → ℕ → ℕ → Type 0) → T world portal k → (other : World) (q j : ℕ) → me.0.world ≡ Some other → IsAtRow here other q j → T other q j
    only_here T there other q j is at =
        let same = same_world other is in
        let at_same : IsAtRow here world q j = subst (λ (w : World). IsAtRow here w q j) (sym same) at in
        let sum = place_sum sets portal k q j at_same.place in
        let same_portal = same_row portal q (width_of world) k j within at_same.word_in_range sum in
        let same_word = same_k portal q (width_of world) k j within at_same.word_in_range sum in
        subst (λ (w : World). T w q j) same (subst (λ (p : ℕ). T world p j) same_portal (subst (T world portal) same_word there))

    load_here : Allows (holds_over world given) slots id me here (λ n. n) (row_word_loaded (step slots here 0 0 none) me)
    load_here = allowed here (λ n. n) (row_word_loaded (step slots here 0 0 none) me) (λ s comes sound is.
        let word = row_word sets (shared_in s) portal k in
        let more = with_ceiling (ceiling portal k word) found in (
          more,
          stays s here more (loads_row_word sets (shared_in s) id portal k found is inside within),
          (λ other q j other_is at. only_here (λ w p i. HasFound me (view_of world given more, me.1) (with_ceiling (ceiling p i word) found) × IsReadWord w found p i word × IsReachedWord w me.0.given found p i word) (
            has_found more,
            record {
              sight = sound.sight portal k inside within;
              numbered = sound.numbered portal k inside within;
              within = λ word_there listed. sound.ceilings id found portal k word_there is listed inside within;
            },
            record { state = shared_in s; comes = subst (λ (g : List ℕ). IsReachedState world g (shared_in s)) (sym is_given) comes; id = id; pass_is = is; word_is = refl },
          )
              other q j other_is at),
        ))

    pub load_allowed : (place : ℕ) → place ≡ here → Allows (holds_over world given) slots id me place (λ n. n) (row_word_loaded (step slots place 0 0 none) me)
    load_allowed place place_is = subst (λ (i : ℕ). Allows (holds_over world given) slots id me i (λ n. n) (row_word_loaded (step slots i 0 0 none) me)) (sym place_is) load_here

    cut_here : (mask : ℕ) → HasAll (IsToBeKept sets portal) k mask → Allows (holds_over world given) slots id me here (λ n. bit_and n mask) (row_word_cut (step slots here mask 0 none) me)
    cut_here mask has_all = allowed here (λ n. bit_and n mask) (row_word_cut (step slots here mask 0 none) me) (λ s comes sound is.
        let more = with_ceiling (ceiling portal k mask) found in (
          more,
          cuts_row_word sets (shared_in s) id portal k mask found is inside within (λ bit less set kept. has_all bit less kept),
          (λ other q j other_is at. only_here (λ w p i. HasFound me (view_of world given more, me.1) (with_ceiling (ceiling p i mask) found)) (has_found more) other q j other_is at),
        ))

    pub cut_allowed : (mask place : ℕ) → place ≡ here → HasAll (IsToBeKept sets portal) k mask → Allows (holds_over world given) slots id me place (λ n. bit_and n mask) (row_word_cut (step slots place mask 0 none) me)
    cut_allowed mask place place_is has_all = subst (λ (i : ℕ). Allows (holds_over world given) slots id me i (λ n. bit_and n mask) (row_word_cut (step slots i mask 0 none) me)) (sym place_is) (cut_here mask has_all)

  -- ---- at a done word

  module _ (portal : ℕ) (inside : portal < length world.portals) where
    only_there : (T : ℕ → Type 0) → T portal → (q : ℕ) → done_place portal ≡ done_place q → T q
    only_there T there q same = let is : portal ≡ q = omega (arith, same) in subst T is there

    pub done_load_allowed : Allows (holds_over world given) slots id me (done_place portal) (λ n. n) (done_word_loaded (step slots (done_place portal) 0 0 none) me)
    done_load_allowed = allowed (done_place portal) (λ n. n) (done_word_loaded (step slots (done_place portal) 0 0 none) me) (λ s comes sound is.
        let word = done_of (shared_in s) portal in
        let more = with_found (done_word portal word) found in (
          more,
          stays s (done_place portal) more (loads_done_word sets (shared_in s) id portal found is inside),
          (λ other q other_is q_inside place. only_there (λ p. HasFound me (view_of world given more, me.1) (with_found (done_word p word) found) × ((word ≡ 0) ⊎ (word ≡ 1)) × (Contains found.known p → word ≡ 1))
              (has_found more, sound.done portal inside, (λ listed. sound.known id found portal is listed inside))
              q place),
        ))

    one_after : (word : ℕ) → (word ≡ 0) ⊎ (word ≡ 1) → bit_or word 1 ≡ 1
    one_after word either = ⊎_elim (λ zero_is. ap (λ (n : ℕ). bit_or n 1) zero_is) (λ one_is. ap (λ (n : ℕ). bit_or n 1) one_is) either

    pub mark_allowed : ((k : ℕ) → k < width_of world → KnowsBound sets found portal k) → Allows (holds_over world given) slots id me (done_place portal) (λ n. bit_or n 1) (marked_done (step slots (done_place portal) 1 0 none) me)
    mark_allowed knows = allowed (done_place portal) (λ n. bit_or n 1) (marked_done (step slots (done_place portal) 1 0 none) me) (λ s comes sound is.
        let more = with_known portal found in
        let one = one_after (done_of (shared_in s) portal) (sound.done portal inside) in
        let next = marks_done sets (shared_in s) id portal found is inside knows in
        let after = after_step s (done_place portal) 1 more in
        let pass_is = found_there (all_found s.views) id found more is in
        let reached : IsReachedMark world given portal more = record {
          state = after;
          comes = step_more comes next;
          done = (kept_by_step sets (shared_in s) sound after next).known id more portal pass_is (Contains-first portal found.known) inside;
          id = id;
          pass_is = pass_is;
        } in (
          more,
          subst (λ (word : ℕ). IsBoardStep sets (shared_in s) (after_step s (done_place portal) word more)) (sym one) next,
          (λ other q other_is q_inside place. only_there (λ p. HasFound me (view_of world given more, me.1) (with_known p found) × IsReachedMark other me.0.given p (with_known p found))
              (has_found more, subst (λ (w : World). IsReachedMark w me.0.given portal more) (same_world other other_is) (subst (λ (g : List ℕ). IsReachedMark world g portal more) (sym is_given) reached))
              q place),
        ))

  -- ---- at the ticket

  pub draw_allowed : Allows (holds_over world given) slots id me 0 (λ n. (n + 1) % 2 ^ 64) (number_drawn (step slots 0 1 0 none) me)
  draw_allowed = allowed 0 (λ n. (n + 1) % 2 ^ 64) (number_drawn (step slots 0 1 0 none) me) (λ s comes sound is.
      let more = with_drawn (ticket_of (shared_in s)) found in
      (more, draws_number sets (shared_in s) id found is, has_found more))

-- ---- passes that are split and joined

module _ (world : World) (given : List ℕ) (id : ℕ) (view : View) where
  pub split_allowed : Splits (holds_over world given) id view (left_view view) (right_view view)
  unfolding holds_over
  split_allowed s holds is =
      let same : all_found (set s.views id view ++ right_view view ∷ []) ≡ all_found s.views ++ without_drawn view.findings ∷ [] =
      ap (λ (views : List View). all_found (views ++ right_view view ∷ [])) (set_again s.views id view is) ∙ found_push s.views (right_view view) in
      let next = subst (λ (passes : List Findings). IsBoardStep (sets_of world) (shared_in s) (record { words = s.words; passes = passes })) (sym same)
      (splits_pass (sets_of world) (shared_in s) id view.findings (found_at s.views id view is)) in
      record { may_be_shared = holds.may_be_shared; comes = step_more holds.comes next }

  pub join_allowed : (other : ℕ) (spent : View) → Joins (holds_over world given) id view other spent (both_views view spent) spent_view
  unfolding holds_over
  join_allowed other spent s holds is apart other_is =
      let was : get_elem? s.views other ≡ some spent = sym (set_else s.views id other (both_views view spent) apart) ∙ other_is in
      let same : all_found (set (set s.views id (both_views view spent)) other spent_view) ≡ set (set (all_found s.views) id (found_by_both view.findings spent.findings)) other none_found =
      found_set (set s.views id (both_views view spent)) other spent_view ∙ ap (λ (l : List Findings). set l other none_found) (found_set s.views id (both_views view spent)) in
      let next = subst (λ (passes : List Findings). IsBoardStep (sets_of world) (shared_in s) (record { words = s.words; passes = passes })) (sym same)
      (joins_passes (sets_of world) (shared_in s) id other view.findings spent.findings (found_at s.views id view is) apart (found_at s.views other spent was)) in
      record { may_be_shared = holds.may_be_shared; comes = step_more holds.comes next }

-- Each kind of step keeps the rule of shared rows, and no step adds a bit to a row.
use Rattle.std.proofs.Common.{◌≡◌, ◌≢◌, ◌⊎◌, inl, inr, ⊎_elim, ℕ, ◌+◌, ◌*◌, ◌%◌, ◌^◌, ◌<◌, ◌≤◌, ◌==◌, Bool, true, cond, List, [], ◌∷◌, ◌++◌, length, set, bit_and, Contains, refl, sym, ap, ◌∙◌, subst, length-set, eq-eqb, ne_eqb, mod-eq_of_lt, arith}
use Rattle.std.specs.List.{count_by}
use Rattle.std.proofs.lemmas.Bool.{cases_eq, and_parts}
use Rattle.std.proofs.lemmas.List.{length-append, get_or-set_same, get_or-set_other}
use Rattle.std.proofs.lemmas.List.Elements.{Contains-append_cases}
use Rattle.std.proofs.lemmas.List.Sums.{sum_by_push}
use Rattle.qm_lists.specs.Word.{has_bit}
use Rattle.qm_lists.proofs.Bits.{has_bit-and}
use Rattle.qm_lists.proofs.Elements.{Contains-cons_cases, Contains-nil}
use Rattle.qm_lists.proofs.Places.{slice_get-push_cases}
use Rattle.qm_shared_rows.specs.RowSets.{RowSets}
use Rattle.qm_shared_rows.specs.Findings.{Ceiling, Findings, ceiling, done_word, none_found, with_ceiling, with_known, with_found, with_drawn, without_drawn, found_by_both}
use Rattle.qm_shared_rows.specs.SharedRows.{SharedRows, done_place, row_place, ticket_of, done_of, row_word, BitsLieIn, HasOnly, HasAll, IsToBeKept}
use Rattle.qm_shared_rows.specs.Steps.{IsPass, pass_becomes, word_becomes, KnowsBound, KeepsAll, IsBoardStep, row_word_loaded, done_word_loaded, row_word_cut, marked_done, number_drawn, pass_split, passes_joined}
use Rattle.qm_shared_rows.specs.Sound.{drawn_in_all, times_drawn, IsTicket, IsSoundBoard}
use Rattle.qm_shared_rows.specs.Runs.{ComesFrom, no_step, step_more}
use Rattle.qm_shared_rows.proofs.WordPlaces.{row_here, row_else, done_stays, ticket_stays, done_here, done_else, row_stays, ticket_kept, row_not_ticket}
use Rattle.qm_shared_rows.proofs.PassLists.{set_cases, sum_becomes, sum_joins, count-append, count_same, count_other}
use Rattle.qm_shared_rows.proofs.KeptParts.{IsSoundPass, sound_pass, passes_change, ticket_same, pass_finds, rows_narrow}

-- ---- bits of a word that was cut

pub cut_within : (word mask : ℕ) → BitsLieIn (bit_and word mask) word × BitsLieIn (bit_and word mask) mask
cut_within word mask = (
  (λ bit less is. (and_parts (has_bit word bit) (has_bit mask bit) (sym (has_bit-and word mask bit) ∙ is)).0),
  (λ bit less is. (and_parts (has_bit word bit) (has_bit mask bit) (sym (has_bit-and word mask bit) ∙ is)).1),
)

pub cut_has : (word mask bit : ℕ) → has_bit word bit ≡ true → has_bit mask bit ≡ true → has_bit (bit_and word mask) bit ≡ true
cut_has word mask bit first second = has_bit-and word mask bit ∙ rw (first, second) refl

-- ---- what a pass finds more is so

module _ (sets : RowSets) (old : SharedRows) (sound : IsSoundBoard sets old) where
  -- a pass with one ceiling more, within which the word of the row lies
  with_ceiling_sound : (id portal k word : ℕ) (pass : Findings) → IsPass old id pass → BitsLieIn (row_word sets old portal k) word → IsSoundPass sets old sound old (with_ceiling (ceiling portal k word) pass)
  with_ceiling_sound id portal k word pass is within = record {
    ceilings = λ q j other listed inside j_within. ⊎_elim
        (λ here.
        let same_portal : portal ≡ q = ap (λ (c : Ceiling). c.portal) here in
        let same_k : k ≡ j = ap (λ (c : Ceiling). c.k) here in
        let same_word : word ≡ other = ap (λ (c : Ceiling). c.word) here in
        subst (λ (r : ℕ). BitsLieIn (row_word sets old r j) other) same_portal (subst (λ (r : ℕ). BitsLieIn (row_word sets old portal r) other) same_k (subst (BitsLieIn (row_word sets old portal k)) same_word within)))
        (λ later. sound.ceilings id pass q j other is later inside j_within)
        (Contains-cons_cases (ceiling portal k word) (ceiling q j other) pass.ceilings listed);
    known = λ q listed. sound.known id pass q is listed;
  }

  with_known_sound : (id portal : ℕ) (pass : Findings) → IsPass old id pass → done_of old portal ≡ 1 → IsSoundPass sets old sound old (with_known portal pass)
  with_known_sound id portal pass is done = record {
    ceilings = λ q j other listed. sound.ceilings id pass q j other is listed;
    known = λ q listed inside. ⊎_elim
        (λ here. subst (λ (r : ℕ). done_of old r ≡ 1) here done)
        (λ later. sound.known id pass q is later inside)
        (Contains-cons_cases portal q pass.known listed);
  }

-- the portals known after a done word was found
known_found : (word portal : ℕ) (known : List ℕ) (q : ℕ) → Contains (cond (word == 1) (portal ∷ known) known) q → ((word ≡ 1) × (portal ≡ q)) ⊎ Contains known q
known_found word portal known q listed = ⊎_elim
    (λ one. ⊎_elim (λ here. inl (one, here)) (λ later. inr later)
    (Contains-cons_cases portal q known (subst (λ (b : Bool). Contains (cond b (portal ∷ known) known) q) (eq-eqb word 1 one) listed)))
    (λ other. inr (subst (λ (b : Bool). Contains (cond b (portal ∷ known) known) q) (ne_eqb word 1 other) listed))
    (cases_eq word 1)

-- ---- loads

module _ (sets : RowSets) (old : SharedRows) (sound : IsSoundBoard sets old) where
  pub kept_by_row_word_loaded : (id portal k : ℕ) (pass : Findings) → IsPass old id pass → portal < sets.portals → k < sets.width →
      IsSoundBoard sets (pass_becomes id (with_ceiling (ceiling portal k (row_word sets old portal k)) pass) old)
  kept_by_row_word_loaded id portal k pass is inside within =
      pass_finds sets old sound id pass (with_ceiling (ceiling portal k (row_word sets old portal k)) pass) is (with_ceiling_sound sets old sound id portal k (row_word sets old portal k) pass is (λ bit less has. has)) refl

  pub kept_by_done_word_loaded : (id portal : ℕ) (pass : Findings) → IsPass old id pass → portal < sets.portals →
      IsSoundBoard sets (pass_becomes id (with_found (done_word portal (done_of old portal)) pass) old)
  kept_by_done_word_loaded id portal pass is inside = pass_finds sets old sound id pass (with_found (done_word portal (done_of old portal)) pass) is
      (record {
        ceilings = λ q j other listed. sound.ceilings id pass q j other is listed;
        known = λ q listed q_inside. ⊎_elim
            (λ here. subst (λ (r : ℕ). done_of old r ≡ 1) here.1 here.0)
            (λ later. sound.known id pass q is later q_inside)
            (known_found (done_of old portal) portal pass.known q listed);
      })
      refl

  -- ---- a word of a row is cut

  module _ (portal k mask : ℕ) (inside : portal < sets.portals) (within : k < sets.width) (keeps : KeepsAll sets portal k mask (row_word sets old portal k)) where
    abbrev cut_state : SharedRows
    cut_state = word_becomes (row_place sets portal k) (bit_and (row_word sets old portal k) mask) old

    abbrev cut : ℕ
    cut = bit_and (row_word sets old portal k) mask

    cut_here : row_word sets cut_state portal k ≡ cut
    cut_here = row_here sets old.words portal k cut inside within sound.words_are

    abbrev IsHere : ℕ → ℕ → Type 0
    IsHere q j = (portal ≡ q) × (k ≡ j)

    here_or_not : (q j : ℕ) → IsHere q j ⊎ (q ≡ portal → j ≡ k → ⊥)
    here_or_not q j = ⊎_elim
        (λ first. ⊎_elim (λ second. inl (first, second)) (λ not. inr (λ a b. not (sym b))) (cases_eq k j))
        (λ not. inr (λ a b. not (sym a)))
        (cases_eq portal q)

    cut_else : (q j : ℕ) → j < sets.width → (q ≡ portal → j ≡ k → ⊥) → row_word sets cut_state q j ≡ row_word sets old q j
    cut_else q j j_within other = row_else sets old.words portal k cut inside within q j j_within other

    -- what holds of the word that was cut, and of all others as they were, holds of each
    each_word : (P : ℕ → ℕ → ℕ → Type 0) → P portal k cut → ((q j : ℕ) → q < sets.portals → j < sets.width → P q j (row_word sets old q j)) →
        (q j : ℕ) → q < sets.portals → j < sets.width → P q j (row_word sets cut_state q j)
    each_word P here others q j q_inside j_within = ⊎_elim
        (λ is. subst (λ (r : ℕ). P r j (row_word sets cut_state r j)) is.0 (subst (λ (r : ℕ). P portal r (row_word sets cut_state portal r)) is.1 (subst (P portal k) (sym cut_here) here)))
        (λ other. subst (P q j) (sym (cut_else q j j_within other)) (others q j q_inside j_within))
        (here_or_not q j)

    pub cut_narrows : (q j : ℕ) → q < sets.portals → j < sets.width → BitsLieIn (row_word sets cut_state q j) (row_word sets old q j)
    cut_narrows = each_word (λ q j word. BitsLieIn word (row_word sets old q j)) (cut_within (row_word sets old portal k) mask).0 (λ q j q_inside j_within bit less has. has)

    cut_sound : IsSoundBoard sets cut_state
    cut_sound = rows_narrow sets old sound cut_state.words (length-set old.words (row_place sets portal k) cut) cut_narrows
        (each_word (λ q j word. HasAll (IsToBeKept sets q) j word)
        (λ bit less in_sight. cut_has (row_word sets old portal k) mask bit (sound.sight portal k inside within bit less in_sight) (keeps bit less (sound.sight portal k inside within bit less in_sight) in_sight))
        sound.sight)
        (λ q q_inside. done_stays sets old.words portal k cut inside within q q_inside)
        (ticket_stays sets old.words portal k cut inside within)

  pub kept_by_row_word_cut : (id portal k mask : ℕ) (pass : Findings) → IsPass old id pass → portal < sets.portals → k < sets.width → KeepsAll sets portal k mask (row_word sets old portal k) →
      IsSoundBoard sets (pass_becomes id (with_ceiling (ceiling portal k mask) pass) (word_becomes (row_place sets portal k) (bit_and (row_word sets old portal k) mask) old))
  kept_by_row_word_cut id portal k mask pass is inside within keeps =
      let mid = cut_state portal k mask inside within keeps in
      let mid_sound = cut_sound portal k mask inside within keeps in
      pass_finds sets mid mid_sound id pass (with_ceiling (ceiling portal k mask) pass) is
      (with_ceiling_sound sets mid mid_sound id portal k mask pass is
      (subst (λ (w : ℕ). BitsLieIn w mask) (sym (cut_here portal k mask inside within keeps)) (cut_within (row_word sets old portal k) mask).1))
      refl

  -- ---- a portal is marked as done

  module _ (portal : ℕ) (inside : portal < sets.portals) (in_bound : (k : ℕ) → k < sets.width → HasOnly (sets.InBound portal) k (row_word sets old portal k)) where
    abbrev done_state : SharedRows
    done_state = word_becomes (done_place portal) 1 old

    is_done : done_of done_state portal ≡ 1
    is_done = done_here sets old.words portal 1 inside sound.words_are

    row_as_was : (q k : ℕ) → row_word sets done_state q k ≡ row_word sets old q k
    row_as_was q k = row_stays sets old.words portal 1 inside q k

    done_or_as_was : (q : ℕ) → ((portal ≡ q) × (done_of done_state q ≡ 1)) ⊎ (done_of done_state q ≡ done_of old q)
    done_or_as_was q = ⊎_elim
        (λ here. inl (here, subst (λ (r : ℕ). done_of done_state r ≡ 1) here is_done))
        (λ other. inr (done_else sets old.words portal 1 inside q (λ same. other (sym same))))
        (cases_eq portal q)

    done_stays_one : (q : ℕ) → done_of old q ≡ 1 → done_of done_state q ≡ 1
    done_stays_one q one = ⊎_elim (λ here. here.1) (λ same. same ∙ one) (done_or_as_was q)

    done_sound : IsSoundBoard sets done_state
    done_sound = record {
      words_are = length-set old.words (done_place portal) 1 ∙ sound.words_are;
      sight = λ q k q_inside within. subst (HasAll (IsToBeKept sets q) k) (sym (row_as_was q k)) (sound.sight q k q_inside within);
      numbered = λ q k q_inside within. subst (HasOnly (λ leaf. leaf < sets.leaves) k) (sym (row_as_was q k)) (sound.numbered q k q_inside within);
      ceilings = λ id pass q k word is listed q_inside within. subst (λ (w : ℕ). BitsLieIn w word) (sym (row_as_was q k)) (sound.ceilings id pass q k word is listed q_inside within);
      done = λ q q_inside. ⊎_elim
          (λ here. inr here.1)
          (λ same. ⊎_elim (λ zero. inl (same ∙ zero)) (λ one. inr (same ∙ one)) (sound.done q q_inside))
          (done_or_as_was q);
      bound = λ q k q_inside within one. subst (HasOnly (sets.InBound q) k) (sym (row_as_was q k)) (⊎_elim
          (λ here. subst (λ (r : ℕ). HasOnly (sets.InBound r) k (row_word sets old r k)) here.0 (in_bound k within))
          (λ same. sound.bound q k q_inside within (sym same ∙ one))
          (done_or_as_was q));
      known = λ id pass q is listed q_inside. done_stays_one q (sound.known id pass q is listed q_inside);
      ticket = λ few.
          let was = sound.ticket few in
          let ticket_is = ticket_kept sets old.words portal 1 inside in
          record {
            counts = ticket_is ∙ was.counts;
            once = λ n below. was.once n (subst (λ (t : ℕ). n < t) ticket_is below);
            no_other = λ n above. was.no_other n (subst (λ (t : ℕ). t ≤ n) ticket_is above);
          };
    }

  pub kept_by_marked_done : (id portal : ℕ) (pass : Findings) → IsPass old id pass → portal < sets.portals → ((k : ℕ) → k < sets.width → KnowsBound sets pass portal k) →
      IsSoundBoard sets (pass_becomes id (with_known portal pass) (word_becomes (done_place portal) 1 old))
  kept_by_marked_done id portal pass is inside knows =
      let in_bound : (k : ℕ) → k < sets.width → HasOnly (sets.InBound portal) k (row_word sets old portal k) = λ k within bit less has. (knows k within).bound bit less (sound.ceilings id pass portal k (knows k within).word is (knows k within).listed inside within bit less has) in
      let mid = done_state portal inside in_bound in
      let mid_sound = done_sound portal inside in_bound in
      pass_finds sets mid mid_sound id pass (with_known portal pass) is (with_known_sound sets mid mid_sound id portal pass is (is_done portal inside in_bound)) refl

  -- ---- a number is drawn

  module _ (id : ℕ) (pass : Findings) (is : IsPass old id pass) where
    abbrev drawn_state : SharedRows
    drawn_state = pass_becomes id (with_drawn (ticket_of old) pass) (word_becomes 0 ((ticket_of old + 1) % 2 ^ 64) old)

    row_as_drawn : (q k : ℕ) → row_word sets drawn_state q k ≡ row_word sets old q k
    row_as_drawn q k = get_or-set_other old.words 0 (row_place sets q k) ((ticket_of old + 1) % 2 ^ 64) 0 (row_not_ticket sets q k)

    done_as_drawn : (q : ℕ) → done_of drawn_state q ≡ done_of old q
    done_as_drawn q = get_or-set_other old.words 0 (done_place q) ((ticket_of old + 1) % 2 ^ 64) 0 (λ same. absurd (omega (arith, same)))

    ticket_here : ticket_of drawn_state ≡ (ticket_of old + 1) % 2 ^ 64
    ticket_here =
        let high : ℕ = sets.portals * sets.width in
        let long : length old.words ≡ (1 + sets.portals) + high = sound.words_are in
        get_or-set_same old.words 0 ((ticket_of old + 1) % 2 ^ 64) 0 (omega (arith, long))

    one_more : drawn_in_all drawn_state.passes ≡ drawn_in_all old.passes + 1
    one_more = let sum = sum_becomes (λ p. length p.drawn) old.passes id pass (with_drawn (ticket_of old) pass) is in omega (arith, sum)

    times_here : times_drawn (ticket_of old) drawn_state.passes ≡ times_drawn (ticket_of old) old.passes + 1
    times_here =
        let sum = sum_becomes (λ p. count_by (λ m. m == ticket_of old) p.drawn) old.passes id pass (with_drawn (ticket_of old) pass) is in
        let more = count_same (ticket_of old) pass.drawn in
        omega (arith, sum, more)

    times_else : (n : ℕ) → ticket_of old ≢ n → times_drawn n drawn_state.passes ≡ times_drawn n old.passes
    times_else n other =
        let sum = sum_becomes (λ p. count_by (λ m. m == n) p.drawn) old.passes id pass (with_drawn (ticket_of old) pass) is in
        let same = count_other n (ticket_of old) pass.drawn other in
        omega (arith, sum, same)

    ticket_drawn : drawn_in_all drawn_state.passes < 2 ^ 64 → IsTicket drawn_state
    ticket_drawn few =
        let limit : ℕ = 2 ^ 64 in
        let few' : drawn_in_all old.passes + 1 < limit = subst (λ (n : ℕ). n < limit) one_more few in
        let was = sound.ticket (omega (arith, few')) in
        let small : ticket_of old + 1 < limit = subst (λ (n : ℕ). n + 1 < limit) (sym was.counts) few' in
        let next : ticket_of drawn_state ≡ ticket_of old + 1 = ticket_here ∙ mod-eq_of_lt small in
        record {
          counts = next ∙ ap (λ (n : ℕ). n + 1) was.counts ∙ sym one_more;
          once = λ n below. ⊎_elim
              (λ here. subst (λ (m : ℕ). times_drawn m drawn_state.passes ≡ 1) here (times_here ∙ ap (λ (m : ℕ). m + 1) (was.no_other (ticket_of old) (omega arith))))
              (λ other. times_else n other ∙ was.once n (omega (arith, next, below, other)))
              (cases_eq (ticket_of old) n);
          no_other = λ n above. times_else n (λ same. absurd (omega (arith, next, above, same))) ∙ was.no_other n (omega (arith, next, above));
        }

    drawn_pass_sound : (other : ℕ) (found : Findings) → IsPass drawn_state other found → IsSoundPass sets old sound old found
    drawn_pass_sound other found found_is = ⊎_elim
        (λ here. subst (IsSoundPass sets old sound old) here.1 (record { ceilings = λ q k word listed. sound.ceilings id pass q k word is listed; known = λ q listed. sound.known id pass q is listed }))
        (λ elsewhere. sound_pass sets old sound other found elsewhere.1)
        (set_cases old.passes id other (with_drawn (ticket_of old) pass) found found_is)

    pub kept_by_number_drawn : IsSoundBoard sets drawn_state
    kept_by_number_drawn = record {
      words_are = length-set old.words 0 ((ticket_of old + 1) % 2 ^ 64) ∙ sound.words_are;
      sight = λ q k q_inside within. subst (HasAll (IsToBeKept sets q) k) (sym (row_as_drawn q k)) (sound.sight q k q_inside within);
      numbered = λ q k q_inside within. subst (HasOnly (λ leaf. leaf < sets.leaves) k) (sym (row_as_drawn q k)) (sound.numbered q k q_inside within);
      ceilings = λ other found q k word found_is listed q_inside within. subst (λ (w : ℕ). BitsLieIn w word) (sym (row_as_drawn q k)) ((drawn_pass_sound other found found_is).ceilings q k word listed q_inside within);
      done = λ q q_inside. ⊎_elim (λ zero. inl (done_as_drawn q ∙ zero)) (λ one. inr (done_as_drawn q ∙ one)) (sound.done q q_inside);
      bound = λ q k q_inside within one. subst (HasOnly (sets.InBound q) k) (sym (row_as_drawn q k)) (sound.bound q k q_inside within (sym (done_as_drawn q) ∙ one));
      known = λ other found q found_is listed q_inside. done_as_drawn q ∙ (drawn_pass_sound other found found_is).known q listed q_inside;
      ticket = ticket_drawn;
    }

    -- ---- a pass is split

    pub kept_by_pass_split : IsSoundBoard sets (record { words = old.words; passes = old.passes ++ without_drawn pass ∷ [] })
    kept_by_pass_split = passes_change sets old sound (old.passes ++ without_drawn pass ∷ [])
        (λ other found found_is. ⊎_elim
        (λ before. sound_pass sets old sound other found before)
        (λ new. subst (IsSoundPass sets old sound old) new.1 (record { ceilings = λ q k word listed. sound.ceilings id pass q k word is listed; known = λ q listed. sound.known id pass q is listed }))
        (slice_get-push_cases old.passes (without_drawn pass) found other found_is))
        (ticket_same sets old sound (old.passes ++ without_drawn pass ∷ [])
        (let sum = sum_by_push (λ p. length p.drawn) old.passes (without_drawn pass) in omega (arith, sum))
        (λ n. let sum = sum_by_push (λ p. count_by (λ m. m == n) p.drawn) old.passes (without_drawn pass) in omega (arith, sum)))

  -- ---- two passes are joined

  pub kept_by_passes_joined : (id other : ℕ) (pass spent : Findings) → IsPass old id pass → other ≢ id → IsPass old other spent →
      IsSoundBoard sets (pass_becomes other none_found (pass_becomes id (found_by_both pass spent) old))
  kept_by_passes_joined id other pass spent is apart other_is =
      let passes = set (set old.passes id (found_by_both pass spent)) other none_found in
      passes_change sets old sound passes
      (λ number found found_is. ⊎_elim
      (λ here. subst (IsSoundPass sets old sound old) here.1 (record {
        ceilings = λ q k word listed. absurd (Contains-nil (ceiling q k word) listed);
        known = λ q listed. absurd (Contains-nil q listed);
      }))
      (λ not_spent. ⊎_elim
      (λ here. subst (IsSoundPass sets old sound old) here.1 (record {
        ceilings = λ q k word listed. ⊎_elim
            (λ first. sound.ceilings id pass q k word is first)
            (λ second. sound.ceilings other spent q k word other_is second)
            (Contains-append_cases pass.ceilings spent.ceilings (ceiling q k word) listed);
        known = λ q listed. ⊎_elim
            (λ first. sound.known id pass q is first)
            (λ second. sound.known other spent q other_is second)
            (Contains-append_cases pass.known spent.known q listed);
      }))
      (λ elsewhere. sound_pass sets old sound number found elsewhere.1)
      (set_cases old.passes id number (found_by_both pass spent) found not_spent.1))
      (set_cases (set old.passes id (found_by_both pass spent)) other number none_found found found_is))
      (ticket_same sets old sound passes
      (sum_joins (λ p. length p.drawn) old.passes id other pass spent (found_by_both pass spent) none_found is apart other_is (length-append pass.drawn spent.drawn) refl)
      (λ n. sum_joins (λ p. count_by (λ m. m == n) p.drawn) old.passes id other pass spent (found_by_both pass spent) none_found is apart other_is (count-append (λ m. m == n) pass.drawn spent.drawn) refl))

  -- ---- any step

  pub kept_by_step : (new : SharedRows) → IsBoardStep sets old new → IsSoundBoard sets new
  kept_by_step new (row_word_loaded id portal k pass is inside within) = kept_by_row_word_loaded id portal k pass is inside within
  kept_by_step new (done_word_loaded id portal pass is inside) = kept_by_done_word_loaded id portal pass is inside
  kept_by_step new (row_word_cut id portal k mask pass is inside within keeps) = kept_by_row_word_cut id portal k mask pass is inside within keeps
  kept_by_step new (marked_done id portal pass is inside knows) = kept_by_marked_done id portal pass is inside knows
  kept_by_step new (number_drawn id pass is) = kept_by_number_drawn id pass is
  kept_by_step new (pass_split id pass is) = kept_by_pass_split id pass is
  kept_by_step new (passes_joined id other pass spent is apart other_is) = kept_by_passes_joined id other pass spent is apart other_is

  -- no step adds a bit to a word of a row
  pub step_narrows : (new : SharedRows) → IsBoardStep sets old new → (q j : ℕ) → q < sets.portals → j < sets.width → BitsLieIn (row_word sets new q j) (row_word sets old q j)
  step_narrows new (row_word_loaded id portal k pass is inside within) q j q_inside j_within = λ bit less has. has
  step_narrows new (done_word_loaded id portal pass is inside) q j q_inside j_within = λ bit less has. has
  step_narrows new (row_word_cut id portal k mask pass is inside within keeps) q j q_inside j_within = cut_narrows portal k mask inside within keeps q j q_inside j_within
  step_narrows new (marked_done id portal pass is inside knows) q j q_inside j_within = subst (λ (w : ℕ). BitsLieIn w (row_word sets old q j)) (sym (row_stays sets old.words portal 1 inside q j)) (λ bit less has. has)
  step_narrows new (number_drawn id pass is) q j q_inside j_within = subst (λ (w : ℕ). BitsLieIn w (row_word sets old q j)) (sym (row_as_drawn id pass is q j)) (λ bit less has. has)
  step_narrows new (pass_split id pass is) q j q_inside j_within = λ bit less has. has
  step_narrows new (passes_joined id other pass spent is apart other_is) q j q_inside j_within = λ bit less has. has

-- ---- every list of steps

module _ (sets : RowSets) (first : SharedRows) (sound : IsSoundBoard sets first) where
  pub kept_by_run : (state : SharedRows) → ComesFrom sets first state → IsSoundBoard sets state
  kept_by_run state no_step = sound
  kept_by_run state (step_more {old} run step) = kept_by_step sets old (kept_by_run old run) state step

  pub run_narrows : (state : SharedRows) → ComesFrom sets first state → (q j : ℕ) → q < sets.portals → j < sets.width → BitsLieIn (row_word sets state q j) (row_word sets first q j)
  run_narrows state no_step q j q_inside j_within = λ bit less has. has
  run_narrows state (step_more {old} run step) q j q_inside j_within =
      λ bit less has. run_narrows old run q j q_inside j_within bit less (step_narrows sets old (kept_by_run old run) state step q j q_inside j_within bit less has)

-- Shared rows are sound at the start, and the first pass has a ceiling of each word.
use Rattle.std.proofs.Common.{◌≡◌, inl, ⊎_elim, ℕ, zero, suc, ◌+◌, ◌*◌, ◌<◌, List, [], ◌∷◌, map, length, get_or, replicate, Some, None, Contains, refl, sym, ap, ◌∙◌, subst, length-append, arith}
use Rattle.std.specs.List.{flat_map, range_with_len}
use Rattle.std.proofs.lemmas.List.{length-replicate, get_or-replicate, get_or_append_left, get_or-append-add}
use Rattle.std.proofs.lemmas.List.Elements.{Contains-append_left, Contains-append_right, Contains-append_cases}
use Rattle.std.proofs.lemmas.List.FromFn.{length-range_with_len, get_or-range_with_len}
use Rattle.qm_lists.proofs.Elements.{Contains-nil, Contains-first, Contains-later, Contains-cons_cases, Contains-map, Contains-map_from}
use Rattle.qm_shared_rows.specs.RowSets.{RowSets}
use Rattle.qm_shared_rows.specs.Findings.{Ceiling, Findings, ceiling}
use Rattle.qm_shared_rows.specs.SharedRows.{done_place, ticket_of, row_word, BitsLieIn, HasOnly, HasAll, IsToBeKept}
use Rattle.qm_shared_rows.specs.Steps.{IsPass}
use Rattle.qm_shared_rows.specs.Sound.{IsSoundBoard}
use Rattle.qm_shared_rows.specs.Opening.{given_word, ceilings_of, first_pass, opening_words, opening_of, AreGivenRows}

-- ---- lists of lists

Contains-flat_map_from : {X Y : Type 0} (f : X → List Y) (xs : List X) (y : Y) → Contains (flat_map f xs) y → (x : X) × Contains xs x × Contains (f x) y
Contains-flat_map_from f [] y listed = absurd (Contains-nil y listed)
Contains-flat_map_from f (x ∷ xs) y listed = ⊎_elim
    (λ here. (x, Contains-first x xs, here))
    (λ later. let found = Contains-flat_map_from f xs y later in (found.0, Contains-later x found.0 xs found.1, found.2))
    (Contains-append_cases (f x) (flat_map f xs) y listed)

Contains-flat_map : {X Y : Type 0} (f : X → List Y) (xs : List X) (x : X) (y : Y) → Contains xs x → Contains (f x) y → Contains (flat_map f xs) y
Contains-flat_map f [] x y among listed = absurd (Contains-nil x among)
Contains-flat_map f (z ∷ xs) x y among listed = ⊎_elim
    (λ here. Contains-append_left (f z) (flat_map f xs) y (subst (λ r. Contains (f r) y) (sym here) listed))
    (λ later. Contains-append_right (f z) (flat_map f xs) y (Contains-flat_map f xs x y later listed))
    (Contains-cons_cases z x xs among)

counted : (n count : ℕ) → n < count → Contains (range_with_len 0 count) n
counted n count within =
    let long = length-range_with_len 0 count in
    let is = get_or-range_with_len 0 count n n within in
    (n, omega (arith, long, within), omega (arith, is))

-- ---- the ceilings of the first pass

abbrev row_ceilings : ℕ → List ℕ → ℕ → List Ceiling
row_ceilings width rows portal = map (λ k. ceiling portal k (given_word width rows portal k)) (range_with_len 0 width)

-- each of them is a given word
pub ceiling_is_given : (portals width : ℕ) (rows : List ℕ) (portal k word : ℕ) → Contains (ceilings_of portals width rows) (ceiling portal k word) → word ≡ given_word width rows portal k
ceiling_is_given portals width rows portal k word listed =
    let row = Contains-flat_map_from (row_ceilings width rows) (range_with_len 0 portals) (ceiling portal k word) listed in
    let here = Contains-map_from (λ j. ceiling row.0 j (given_word width rows row.0 j)) (range_with_len 0 width) (ceiling portal k word) row.2 in
    let same_portal : row.0 ≡ portal = ap (λ (c : Ceiling). c.portal) here.2 in
    let same_k : here.0 ≡ k = ap (λ (c : Ceiling). c.k) here.2 in
    let same_word : given_word width rows row.0 here.0 ≡ word = ap (λ (c : Ceiling). c.word) here.2 in
    sym same_word ∙ ap (λ (p : ℕ). given_word width rows p here.0) same_portal ∙ ap (given_word width rows portal) same_k

-- and there is one for each word
pub given_is_ceiling : (portals width : ℕ) (rows : List ℕ) (portal k : ℕ) → portal < portals → k < width → Contains (ceilings_of portals width rows) (ceiling portal k (given_word width rows portal k))
given_is_ceiling portals width rows portal k inside within =
    Contains-flat_map (row_ceilings width rows) (range_with_len 0 portals) portal (ceiling portal k (given_word width rows portal k)) (counted portal portals inside)
    (Contains-map (λ j. ceiling portal j (given_word width rows portal j)) (range_with_len 0 width) k (counted k width within))

-- ---- the words at the start

module _ (portals : ℕ) (rows : List ℕ) where
  zeros : length {A = ℕ} (replicate (1 + portals) 0) ≡ 1 + portals
  zeros = length-replicate (1 + portals) 0

  pub opening_zero : (place : ℕ) → place < 1 + portals → get_or (opening_words portals rows) place 0 ≡ 0
  opening_zero place within =
      get_or_append_left (replicate (1 + portals) 0) rows 0 place (omega (arith, zeros, within)) ∙ get_or-replicate (1 + portals) place 0 0 within

  pub opening_row : (place : ℕ) → get_or (opening_words portals rows) ((1 + portals) + place) 0 ≡ get_or rows place 0
  opening_row place =
      ap (λ (n : ℕ). get_or (opening_words portals rows) (n + place) 0) (sym zeros) ∙ get_or-append-add (replicate (1 + portals) 0) rows place 0

  pub opening_long : length (opening_words portals rows) ≡ (1 + portals) + length rows
  opening_long = length-append (replicate (1 + portals) 0) rows ∙ ap (λ (n : ℕ). n + length rows) zeros

module _ (sets : RowSets) (rows : List ℕ) (given : AreGivenRows sets rows) where
  pub opening_word : (portal k : ℕ) → row_word sets (opening_of sets rows) portal k ≡ given_word sets.width rows portal k
  opening_word portal k =
      let start : ℕ = portal * sets.width in
      let place : ((1 + sets.portals) + start) + k ≡ (1 + sets.portals) + (start + k) = omega arith in
      ap (λ (n : ℕ). get_or (opening_words sets.portals rows) n 0) place ∙ opening_row sets.portals rows (portal * sets.width + k)

  only_first : (id : ℕ) (pass : Findings) → IsPass (opening_of sets rows) id pass → first_pass sets.portals sets.width rows ≡ pass
  only_first zero pass is = let e : Some (first_pass sets.portals sets.width rows) ≡ Some pass = is in cc
  only_first (suc id) pass is = absurd (let e : None ≡ Some pass = is in cc)

  pub opening_sound : IsSoundBoard sets (opening_of sets rows)
  opening_sound =
      let not_done = λ (portal : ℕ) (inside : portal < sets.portals). opening_zero sets.portals rows (done_place portal) (omega (arith, inside)) in
      let no_ticket : ticket_of (opening_of sets rows) ≡ 0 = opening_zero sets.portals rows 0 (omega arith) in
      record {
        words_are = opening_long sets.portals rows ∙ ap (λ (n : ℕ). (1 + sets.portals) + n) given.one_each;
        sight = λ portal k inside within. subst (HasAll (IsToBeKept sets portal) k) (sym (opening_word portal k)) (given.sight portal k inside within);
        numbered = λ portal k inside within. subst (HasOnly (λ leaf. leaf < sets.leaves) k) (sym (opening_word portal k)) (given.numbered portal k inside within);
        ceilings = λ id pass portal k word is listed inside within.
            let among : Contains (ceilings_of sets.portals sets.width rows) (ceiling portal k word) = subst (λ (p : Findings). Contains p.ceilings (ceiling portal k word)) (sym (only_first id pass is)) listed in
            subst (BitsLieIn (row_word sets (opening_of sets rows) portal k)) (opening_word portal k ∙ sym (ceiling_is_given sets.portals sets.width rows portal k word among)) (λ bit less has. has);
        done = λ portal inside. inl (not_done portal inside);
        bound = λ portal k inside within one. absurd (let zero = not_done portal inside in omega (arith, zero, one));
        known = λ id pass portal is listed inside. absurd (Contains-nil portal (subst (λ (p : Findings). Contains p.known portal) (sym (only_first id pass is)) listed));
        ticket = λ few. record {
          counts = no_ticket;
          once = λ number below. absurd (omega (arith, below, no_ticket));
          no_other = λ number above. refl;
        };
      }

-- Rows written down as words, with which a board begins.
use Rattle.std.proofs.Common.{◌≡◌, ⊎_elim, ℕ, zero, suc, ◌+◌, ◌*◌, ◌/◌, ◌%◌, ◌<◌, Bool, List, [], ◌∷◌, ◌++◌, length, get_or, replicate, drop, refl, sym, ap, ◌∙◌, subst, append_assoc, append-nil, length-append, arith}
use Rattle.std.specs.Prelude.{All}
use Rattle.std.specs.List.{AllZip}
use Rattle.std.specs.Int.{div_ceil}
use Rattle.std.proofs.lemmas.Bool.{cases_lt}
use Rattle.std.proofs.lemmas.List.{get_or_append_left, get_or-append-add, get_or_default, length_push, length-replicate}
use Rattle.std.proofs.Math.Seq.{drop-append_seam}
use Rattle.qm_lists.specs.Word.{IsWord}
use Rattle.qm_lists.specs.WorkList.{IsIn}
use Rattle.qm_lists.proofs.WorkLists.{place_within}
use Rattle.qm_contacts.specs.World.{World}
use Rattle.qm_segments.specs.Sight.{IsSoundRow}
use Rattle.qm_sight.specs.RowsOfWorld.{AreRowsOfWorld}
use Rattle.qm_sight.specs.WordInSight.{LieWithin}
use Rattle.qm_sight.proofs.RowsRead.{row_there, row_wide, row_sound}
use Rattle.qm_shared_rows.specs.Opening.{given_word, opening_words, first_pass, AreGivenRows}
use Rattle.qm_shared_rows.specs.Runs.{no_step}
use Rattle.qm_shared_rows.proofs.WordPlaces.{row_within}
use Rattle.qm_shared_rows.proofs.OpeningLaws.{given_is_ceiling}
use Rattle.qm_board.specs.WorldSets.{width_of, sets_of}
use Rattle.qm_board.specs.inner.WordsOfRows.{HasPushedRow, AreFirstRows}
use Rattle.qm_board.specs.Reached.{IsReachedState}
use Rattle.qm_board.specs.BoardRule.{given_in, first_view, holds_over}
use Rattle.qm_board.specs.Ceilings.{ceiling_rows}
use Rattle.qm_board.proofs.PublishedRows.{word_has_all}
use Rattle.qm_board.specs.inner.WithinCeilings.{ceiling_portal, ceiling_leaf, ceiling_bit}
use Rattle.atomic_table.specs.Table.{opening}

-- ---- the words of one row

pub none_pushed : (row : List Bool) (words : List ℕ) → HasPushedRow row 0 words words
none_pushed row words = record { words = []; one_each = refl; are_words = λ k less. absurd (omega (arith, less)); new_is = sym (append-nil words) }

pub word_pushed : (row : List Bool) (count next word : ℕ) (old mid new : List ℕ) → HasPushedRow row count old mid → IsWord row count word → new ≡ mid ++ word ∷ [] → next ≡ count + 1 → HasPushedRow row next old new
word_pushed row count next word old mid new so_far is_word new_is next_is =
    let long = so_far.one_each in
    record {
      words = so_far.words ++ word ∷ [];
      one_each = let more = length_push so_far.words word in omega (arith, more, long, next_is);
      are_words = λ k less. ⊎_elim
          (λ before. subst (IsWord row k) (sym (get_or_append_left so_far.words (word ∷ []) 0 k (omega (arith, long, before)))) (so_far.are_words k before))
          (λ not.
          let here : k ≡ count = omega (arith, less, next_is, not) in
          let place : k ≡ length so_far.words + 0 = omega (arith, here, long) in
          let last : get_or (so_far.words ++ word ∷ []) k 0 ≡ word = ap (λ (j : ℕ). get_or (so_far.words ++ word ∷ []) j 0) place ∙ get_or-append-add so_far.words (word ∷ []) 0 0 in
          subst (IsWord row k) (sym last) (subst (λ (j : ℕ). IsWord row j word) (sym here) is_word))
          (cases_lt k count);
      new_is = new_is ∙ ap (λ (l : List ℕ). l ++ word ∷ []) so_far.new_is ∙ append_assoc old so_far.words (word ∷ []);
    }

-- ---- the words of rows

replicate_more : (n x : ℕ) → replicate n x ++ x ∷ [] ≡ replicate (suc n) x
replicate_more zero x = refl
replicate_more (suc n) x = ap (λ (l : List ℕ). x ∷ l) (replicate_more n x)

pub none_given : (portals width : ℕ) (rows : List (List Bool)) (zeros words : List ℕ) → zeros ≡ replicate portals 0 → words ≡ zeros ++ 0 ∷ [] → AreFirstRows portals width rows 0 words
none_given portals width rows zeros words zeros_are is =
    let one_more : suc portals ≡ 1 + portals = omega arith in
    record {
      given = [];
      words_are = is ∙ ap (λ (l : List ℕ). l ++ 0 ∷ []) zeros_are ∙ replicate_more portals 0 ∙ ap (λ (n : ℕ). replicate n 0) one_more ∙ sym (append-nil (replicate (1 + portals) 0));
      one_each = omega arith;
      are_words = λ portal k less. absurd (omega (arith, less));
    }

pub row_given : (portals width : ℕ) (rows : List (List Bool)) (count next : ℕ) (old new : List ℕ) → AreFirstRows portals width rows count old → HasPushedRow (get_or rows count []) width old new → next ≡ count + 1 → AreFirstRows portals width rows next new
row_given portals width rows count next old new so_far pushed next_is =
    let long = so_far.one_each in
    record {
      given = so_far.given ++ pushed.words;
      words_are = pushed.new_is ∙ ap (λ (l : List ℕ). l ++ pushed.words) so_far.words_are ∙ append_assoc (replicate (1 + portals) 0) so_far.given pushed.words;
      one_each =
          let both = length-append so_far.given pushed.words in
          let wide = pushed.one_each in
          let all : ℕ = count * width in
          let long' : length so_far.given ≡ all = long in
          let more : suc count * width ≡ all + width = omega arith in
          let sum : length (so_far.given ++ pushed.words) ≡ all + width = omega (arith, both, wide, long') in
          let step : suc count ≡ next = omega (arith, next_is) in
          sum ∙ sym more ∙ ap (λ (n : ℕ). n * width) step;
      are_words = λ portal k less within. ⊎_elim
          (λ before. subst (IsWord (get_or rows portal []) k)
          (sym (get_or_append_left so_far.given pushed.words 0 (portal * width + k) (subst (λ (n : ℕ). portal * width + k < n) (sym long) (row_within count portal width k before within))))
          (so_far.are_words portal k before within))
          (λ not.
          let here : portal ≡ count = omega (arith, less, next_is, not) in
          let place : portal * width + k ≡ length so_far.given + k = ap (λ (n : ℕ). n * width + k) here ∙ ap (λ (n : ℕ). n + k) (sym long) in
          let word : get_or (so_far.given ++ pushed.words) (portal * width + k) 0 ≡ get_or pushed.words k 0 =
          ap (λ (j : ℕ). get_or (so_far.given ++ pushed.words) j 0) place ∙ get_or-append-add so_far.given pushed.words k 0 in
          subst (IsWord (get_or rows portal []) k) (sym word) (subst (λ (p : ℕ). IsWord (get_or rows p []) k (get_or pushed.words k 0)) (sym here) (pushed.are_words k within)))
          (cases_lt portal count);
    }

-- ---- rows of a world

zip_counted : {X Y : Type 0} (R : X → Y → Type 0) (xs : List X) (ys : List Y) → AllZip R xs ys → length ys ≡ length xs
zip_counted R [] [] zip = refl
zip_counted R [] (y ∷ ys) zip = absurd zip
zip_counted R (x ∷ xs) [] zip = absurd zip
zip_counted R (x ∷ xs) (y ∷ ys) zip = ap suc (zip_counted R xs ys zip.1)

module _ (world : World) (rows : List (List Bool)) (are : AreRowsOfWorld world rows) where
  there : (portal : ℕ) → portal < length world.portals → get_or rows portal [] ≡ get_or rows portal (get_or rows portal [])
  there portal inside = get_or_default rows portal [] (get_or rows portal []) (row_there world rows are portal inside)

  pub rows_counted : length rows ≡ length world.portals
  rows_counted = zip_counted (IsSoundRow world.tree) world.portals rows are.sound

  pub all_wide : All (λ row. div_ceil (length row) 64 ≡ width_of world) rows
  all_wide k d less = ap (λ (n : ℕ). div_ceil n 64) (are.wide k d less)

  -- ---- and what a new board is told

  pub same_sizes : (words : List ℕ) (portals width : ℕ) → portals ≡ length world.portals → width ≡ width_of world → AreFirstRows portals width rows portals words → AreFirstRows (length world.portals) (width_of world) rows (length world.portals) words
  same_sizes words portals width portals_are width_is first =
      subst (λ (p : ℕ). AreFirstRows p (width_of world) rows p words) portals_are (subst (λ (w : ℕ). AreFirstRows portals w rows portals words) width_is first)

  module _ (words : List ℕ) (first : AreFirstRows (length world.portals) (width_of world) rows (length world.portals) words) where
    pub given_rows : AreGivenRows (sets_of world) first.given
    given_rows = record {
      one_each = first.one_each;
      sight = λ portal k inside within. word_has_all world portal k (given_word (width_of world) first.given portal k) (get_or rows portal [])
          (row_sound world rows are portal inside (get_or rows portal []) (there portal inside)) (first.are_words portal k inside within);
      numbered = λ portal k inside within bit less is.
          let wide = row_wide world rows are portal inside (get_or rows portal []) (there portal inside) in
          let set = sym (first.are_words portal k inside within bit less) ∙ is in
          let below = place_within (get_or rows portal []) (64 * k + bit) set in
          omega (arith, below, wide);
    }

    pub given_is : drop (1 + length world.portals) words ≡ first.given
    given_is =
        let zeros : length {A = ℕ} (replicate (1 + length world.portals) 0) ≡ 1 + length world.portals = length-replicate (1 + length world.portals) 0 in
        ap (drop (1 + length world.portals)) first.words_are ∙ ap (λ (n : ℕ). drop n (opening_words (length world.portals) first.given)) (sym zeros) ∙
        drop-append_seam (replicate (1 + length world.portals) 0) first.given

    pub new_board_holds : holds_over world (given_in world words) (opening words [] (first_view world words))
    unfolding holds_over
    new_board_holds =
        let given = given_in world words in
        let all : opening_words (length world.portals) given ≡ words = ap (opening_words (length world.portals)) given_is ∙ sym first.words_are in
        record {
          may_be_shared = subst (AreGivenRows (sets_of world)) (sym given_is) given_rows;
          comes = subst (λ (now : List ℕ). IsReachedState world given (record { words = now; passes = first_pass (length world.portals) (width_of world) given ∷ [] })) all no_step;
        }

    -- whatever they are kept as
    pub new_board_holds_so : (other : World) (all told : List ℕ) → other ≡ world → all ≡ words → told ≡ words → holds_over other (given_in other told) (opening all [] (first_view other told))
    new_board_holds_so other all told same_world same_all same_told =
        subst (λ (w : World). holds_over w (given_in w told) (opening all [] (first_view w told))) (sym same_world)
        (subst (λ (a : List ℕ). holds_over world (given_in world told) (opening a [] (first_view world told))) (sym same_all)
        (subst (λ (t : List ℕ). holds_over world (given_in world t) (opening words [] (first_view world t))) (sym same_told) new_board_holds))

    -- the words of the rows given, whatever world and words are kept as
    pub given_told : (other : World) (told : List ℕ) → other ≡ world → told ≡ words → given_in other told ≡ first.given
    given_told other told same_world same_told = ap (λ (w : World). given_in w told) same_world ∙ ap (λ (t : List ℕ). given_in world t) same_told ∙ given_is

    -- the ceilings of the first pass lie within the rows
    pub first_within : LieWithin (ceiling_rows world (first_pass (length world.portals) (width_of world) first.given)) rows
    first_within portal leaf is =
        let pass = first_pass (length world.portals) (width_of world) first.given in
        let inside = ceiling_portal world pass leaf portal is in
        let below = ceiling_leaf world pass leaf portal is in
        let k_within : leaf / 64 < width_of world = omega (arith, below) in
        let has = ceiling_bit world pass leaf portal is (given_word (width_of world) first.given portal (leaf / 64)) (given_is_ceiling (length world.portals) (width_of world) first.given portal (leaf / 64) inside k_within) in
        let place : 64 * (leaf / 64) + leaf % 64 ≡ leaf = omega arith in
        let less : leaf % 64 < 64 = omega arith in
        subst (IsIn (get_or rows portal [])) place (sym (first.are_words portal (leaf / 64) inside k_within (leaf % 64) less) ∙ has)

    -- what the first pass has found, whatever world and words are kept as
    pub first_found : (other : World) (told : List ℕ) → other ≡ world → told ≡ words → (first_view other told).findings ≡ first_pass (length world.portals) (width_of world) first.given
    first_found other told same_world same_told =
        ap (λ (w : World). (first_view w told).findings) same_world ∙ ap (λ (t : List ℕ). (first_view world t).findings) same_told ∙
        ap (first_pass (length world.portals) (width_of world)) given_is

-- What the rows of a closed board are.
use Rattle.std.proofs.Common.{◌≡◌, ⊎_elim, ℕ, suc, ◌+◌, ◌*◌, ◌/◌, ◌%◌, ◌<◌, Bool, true, false, List, [], ◌∷◌, length, get_or, Some, slice_get, refl, sym, ap, ◌∙◌, subst, arith}
use Rattle.std.specs.List.{AllZip}
use mathlib.Core.Option.{some}
use lib.ListN.{get_elem?}
use Rattle.std.proofs.lemmas.Bool.{cases_lt}
use Rattle.std.proofs.lemmas.List.{get_or_default, get_or_past}
use Rattle.std.proofs.lemmas.Option.{slice_get_within}
use Rattle.qm_lists.specs.Word.{has_bit}
use Rattle.qm_lists.specs.WorkList.{IsIn}
use Rattle.qm_lists.proofs.WorkLists.{place_within}
use Rattle.qm_contacts.specs.NumberedLeaves.{numbered_leaves}
use Rattle.qm_contacts.specs.Portals.{Portal}
use Rattle.qm_contacts.specs.World.{World}
use Rattle.qm_segments.specs.Sight.{IsInSight, IsSoundRow}
use Rattle.qm_sight.specs.RowsOfWorld.{AreRowsOfWorld}
use Rattle.qm_shared_rows.specs.SharedRows.{row_place, row_word}
use Rattle.qm_shared_rows.specs.Sound.{IsSoundBoard}
use Rattle.atomic_table.specs.Table.{State}
use Rattle.qm_board.specs.WorldSets.{IsInBoundAt, width_of, sets_of}
use Rattle.qm_board.specs.Closed.{AreClosedRows}
use Rattle.qm_board.specs.Reached.{AreReachedRows}
use Rattle.qm_board.specs.BoardRule.{shared_in, holds_over}
use Rattle.qm_board.specs.inner.RowsOfWords.{AreRowsOfWords}
use Rattle.qm_board.specs.declared.view.View.{View}
use Rattle.qm_board.proofs.Views.{found_at}
use Rattle.qm_board.proofs.Played.{sound_of}
use Rattle.qm_board.specs.inner.WithinCeilings.{is_in_ceiling}

zip_all : {X Y : Type 0} (R : X → Y → Type 0) (xs : List X) (ys : List Y) (d : Y) → length ys ≡ length xs → ((i : ℕ) (x : X) → slice_get xs i ≡ Some x → R x (get_or ys i d)) → AllZip R xs ys
zip_all R [] [] d long each = tt
zip_all R [] (y ∷ ys) d long each = absurd (omega (arith, long))
zip_all R (x ∷ xs) [] d long each = absurd (omega (arith, long))
zip_all R (x ∷ xs) (y ∷ ys) d long each = (each 0 x refl, zip_all R xs ys d (omega (arith, long)) (λ i z is. each (suc i) z is))

module _ (world : World) (s : State (Unit {0}) View) (words : List ℕ) (words_are : s.words ≡ words) (rows : List (List Bool))
    (read : AreRowsOfWords words (length world.portals) (width_of world) (length (numbered_leaves world.tree)) (length world.portals) rows) (sound : IsSoundBoard (sets_of world) (shared_in s)) where
  abbrev word_at : ℕ → ℕ → ℕ
  word_at portal k = row_word (sets_of world) (shared_in s) portal k

  wide_at : (portal : ℕ) → portal < length world.portals → length (get_or rows portal []) ≡ length (numbered_leaves world.tree)
  wide_at portal inside = (read.rows_are portal inside).wide

  -- a place of a row is a bit of a word
  bit_at : (portal k bit : ℕ) → portal < length world.portals → bit < 64 → 64 * k + bit < length (numbered_leaves world.tree) → get_or (get_or rows portal []) (64 * k + bit) false ≡ has_bit (word_at portal k) bit
  bit_at portal k bit inside less within =
      (read.rows_are portal inside).bits k bit less within ∙ ap (λ (all : List ℕ). has_bit (get_or all (row_place (sets_of world) portal k) 0) bit) (sym words_are)

  portal_within : (portal n : ℕ) → IsIn (get_or rows portal []) n → portal < length world.portals
  portal_within portal n is = ⊎_elim
      (λ inside. let long = read.one_each in omega (arith, inside, long))
      (λ past.
      let none : get_or rows portal [] ≡ [] = get_or_past rows portal [] (omega (arith, past)) in
      let never : false ≡ true = sym (ap (λ (row : List Bool). get_or row n false) none) ∙ is in
      cc)
      (cases_lt portal (length rows))

  leaf_within : (portal n : ℕ) → IsIn (get_or rows portal []) n → n < length (numbered_leaves world.tree)
  leaf_within portal n is = let below = place_within (get_or rows portal []) n is in let wide = wide_at portal (portal_within portal n is) in omega (arith, below, wide)

  word_within : (n : ℕ) → n < length (numbered_leaves world.tree) → n / 64 < width_of world
  word_within n less = omega (arith, less)

  split_place : (n : ℕ) → 64 * (n / 64) + n % 64 ≡ n
  split_place n = omega arith

  bit_less : (n : ℕ) → n % 64 < 64
  bit_less n = omega arith

  sound_at : (i : ℕ) (portal : Portal) → slice_get world.portals i ≡ Some portal → IsSoundRow world.tree portal (get_or rows i [])
  sound_at i portal is n sight =
      let inside = slice_get_within world.portals i portal is in
      let less = slice_get_within (numbered_leaves world.tree) n _ sight.last_is in
      let place = split_place n in
      let there = sound.sight i (n / 64) inside (word_within n less) (n % 64) (bit_less n)
      (subst (λ (leaf : ℕ). leaf < length (numbered_leaves world.tree)) (sym place) less, record { portal = portal; portal_is = is; sight = subst (IsInSight world.tree portal) (sym place) sight }) in
      subst (IsIn (get_or rows i [])) place (bit_at i (n / 64) (n % 64) inside (bit_less n) (omega (arith, less, place)) ∙ there)

  are_rows : AreRowsOfWorld world rows
  are_rows = record {
    sound = zip_all (IsSoundRow world.tree) world.portals rows [] read.one_each sound_at;
    wide = λ k d less. ap length (get_or_default rows k d [] less) ∙ wide_at k (let long = read.one_each in omega (arith, less, long));
  }

  module _ (id : ℕ) (view : View) (view_is : get_elem? s.views id ≡ some view) where
    pub closed_rows : AreClosedRows world view.findings rows
    closed_rows = record {
      are_rows = are_rows;
      within = λ portal n is.
          let inside = portal_within portal n is in
          let leaf = leaf_within portal n is in
          let place = split_place n in
          is_in_ceiling world view.findings n portal inside leaf (λ word listed.
          sound.ceilings id view.findings portal (n / 64) word (found_at s.views id view view_is) listed inside (word_within n leaf) (n % 64) (bit_less n)
          (sym (bit_at portal (n / 64) (n % 64) inside (bit_less n) (omega (arith, leaf, place))) ∙ subst (IsIn (get_or rows portal [])) (sym place) is));
      bound = λ portal n listed is.
          let inside = portal_within portal n is in
          let leaf = leaf_within portal n is in
          let place = split_place n in
          let done = sound.known id view.findings portal (found_at s.views id view view_is) listed inside in
          let has : has_bit (word_at portal (n / 64)) (n % 64) ≡ true =
          sym (bit_at portal (n / 64) (n % 64) inside (bit_less n) (omega (arith, leaf, place))) ∙ subst (IsIn (get_or rows portal [])) (sym place) is in
          subst (IsInBoundAt world portal) place (sound.bound portal (n / 64) inside (word_within n leaf) done (n % 64) (bit_less n) has);
    }

-- the same, of the sizes that a board keeps
module _ (world : World) (words : List ℕ) (portals width leaves : ℕ) (rows : List (List Bool)) (portals_are : portals ≡ length world.portals) (width_is : width ≡ width_of world)
    (leaves_are : leaves ≡ length (numbered_leaves world.tree)) (read : AreRowsOfWords words portals width leaves portals rows)
    (given : List ℕ) (s : State (Unit {0}) View) (holds : holds_over world given s) (words_are : s.words ≡ words) (id : ℕ) (view : View) (view_is : get_elem? s.views id ≡ some view) where
  read_so : AreRowsOfWords words (length world.portals) (width_of world) (length (numbered_leaves world.tree)) (length world.portals) rows
  read_so =
      subst (λ (p : ℕ). AreRowsOfWords words p (width_of world) (length (numbered_leaves world.tree)) p rows) portals_are
      (subst (λ (w : ℕ). AreRowsOfWords words portals w (length (numbered_leaves world.tree)) portals rows) width_is
      (subst (λ (l : ℕ). AreRowsOfWords words portals width l portals rows) leaves_are read))

  pub closed_of_sizes : AreClosedRows world view.findings rows
  unfolding holds_over
  closed_of_sizes = closed_rows world s words words_are rows read_so (sound_of world given (shared_in s) holds) id view view_is

  pub reached_of_sizes : AreReachedRows world given view.findings rows
  unfolding holds_over
  reached_of_sizes = record {
    state = shared_in s;
    comes = holds.comes;
    id = id;
    pass_is = found_at s.views id view view_is;
    rows_are = bit_at world s words words_are rows read_so (sound_of world given (shared_in s) holds);
  }

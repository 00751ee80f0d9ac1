-- Rows that are read from the words of a board.
use Rattle.std.proofs.Common.{◌≡◌, ◌≢◌, ⊎_elim, ℕ, zero, suc, ◌+◌, ◌*◌, ◌/◌, ◌&&◌, Bool, true, false, List, [], ◌∷◌, ◌++◌, length, get_or, replicate, refl, sym, ap, ◌∙◌, subst, arith}
use Rattle.std.specs.Int.{div_ceil}
use mathlib.Core.Option.{some, some-injective, some-ne-none}
use lib.ListN.{get_elem?}
use Rattle.std.proofs.lemmas.Bool.{cases_eq, cases_lt}
use Rattle.std.proofs.lemmas.List.{get_or_append_left, get_or-append-add, length_push, length-replicate, get_or-replicate}
use Rattle.qm_lists.specs.Word.{has_bit, IsMasked}
use Rattle.qm_board.specs.inner.RowsOfWords.{IsRowOfWords, AreRowsOfWords, IsRowUpTo}

pub word_found : (words : List ℕ) (place word : ℕ) → get_elem? words place ≡ some word → get_or words place 0 ≡ word
word_found [] place word is = absurd (some-ne-none word (sym is))
word_found (first ∷ words) zero word is = some-injective first word is
word_found (first ∷ words) (suc place) word is = word_found words place word is

module _ (words : List ℕ) (place leaves : ℕ) where
  pub no_word_read : (row : List Bool) (all : ℕ) → row ≡ replicate all true → all ≡ leaves → IsRowUpTo words place leaves 0 row
  no_word_read row all is long =
      let wide : length row ≡ leaves = ap length is ∙ length-replicate all true ∙ long in
      record {
        wide = wide;
        read = λ k bit less. absurd (omega (arith, less));
        left = λ k bit after less inside. ap (λ (r : List Bool). get_or r (64 * k + bit) false) is ∙ get_or-replicate all (64 * k + bit) true false (omega (arith, inside, long));
      }

  pub word_read : (count next word : ℕ) (old new : List Bool) → IsRowUpTo words place leaves count old → IsMasked old new count word → get_or words (place + count) 0 ≡ word → next ≡ count + 1 → IsRowUpTo words place leaves next new
  word_read count next word old new so_far masked is next_is = record {
    wide = masked.same_length ∙ so_far.wide;
    read = λ k bit less bit_less inside. ⊎_elim
        (λ here.
        let was = so_far.left count bit (omega (arith)) bit_less (omega (arith, here, inside)) in
        let now : get_or new (64 * count + bit) false ≡ has_bit word bit = masked.in_word bit bit_less ∙ ap (λ (b : Bool). b && has_bit word bit) was in
        subst (λ (j : ℕ). get_or new (64 * j + bit) false ≡ has_bit (get_or words (place + j) 0) bit) (sym here) (now ∙ ap (λ (w : ℕ). has_bit w bit) (sym is)))
        (λ other. masked.elsewhere (64 * k + bit) (λ same. other (omega (arith, same, bit_less))) ∙ so_far.read k bit (omega (arith, less, next_is, other)) bit_less inside)
        (cases_eq k count);
    left = λ k bit after bit_less inside.
        let other : (64 * k + bit) / 64 ≢ count = λ same. absurd (omega (arith, same, bit_less, after, next_is)) in
        masked.elsewhere (64 * k + bit) other ∙ so_far.left k bit (omega (arith, after, next_is)) bit_less inside;
  }

  pub row_read : (width : ℕ) (row : List Bool) → IsRowUpTo words place leaves width row → width ≡ div_ceil leaves 64 → IsRowOfWords words place leaves row
  row_read width row so_far width_is = record {
    wide = so_far.wide;
    bits = λ k bit less inside. so_far.read k bit (omega (arith, width_is, inside)) less inside;
  }

-- ---- rows, one after another

module _ (words : List ℕ) (portals width leaves : ℕ) where
  pub no_row_read : AreRowsOfWords words portals width leaves 0 []
  no_row_read = record { one_each = refl; rows_are = λ portal less. absurd (omega (arith, less)) }

  pub one_row_read : (count next : ℕ) (rows : List (List Bool)) (row : List Bool) (new : List (List Bool)) → AreRowsOfWords words portals width leaves count rows →
      IsRowOfWords words ((1 + portals) + count * width) leaves row → new ≡ rows ++ row ∷ [] → next ≡ count + 1 → AreRowsOfWords words portals width leaves next new
  one_row_read count next rows row new so_far is new_is next_is =
      let long = so_far.one_each in
      record {
        one_each = ap length new_is ∙ (let more = length_push rows row in omega (arith, more, long, next_is));
        rows_are = λ portal less. subst (λ (all : List (List Bool)). IsRowOfWords words ((1 + portals) + portal * width) leaves (get_or all portal [])) (sym new_is) (⊎_elim
            (λ before. subst (IsRowOfWords words ((1 + portals) + portal * width) leaves) (sym (get_or_append_left rows (row ∷ []) [] portal (omega (arith, long, before)))) (so_far.rows_are portal before))
            (λ not.
            let here : portal ≡ count = omega (arith, less, next_is, not) in
            let place : portal ≡ length rows + 0 = omega (arith, here, long) in
            let last : get_or (rows ++ row ∷ []) portal [] ≡ row = ap (λ (j : ℕ). get_or (rows ++ row ∷ []) j []) place ∙ get_or-append-add rows (row ∷ []) 0 [] in
            subst (IsRowOfWords words ((1 + portals) + portal * width) leaves) (sym last) (subst (λ (p : ℕ). IsRowOfWords words ((1 + portals) + p * width) leaves row) (sym here) is))
            (cases_lt portal count));
      }

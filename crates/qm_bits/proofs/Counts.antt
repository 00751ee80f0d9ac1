-- How many places are set, counted word by word.
use Rattle.std.proofs.Common.{◌≡◌, ℕ, zero, suc, ◌+◌, ◌-◌, ◌*◌, ◌^◌, ◌<◌, ◌≤◌, Bool, false, cond, List, [], ◌∷◌, ◌++◌, map, length, get_or, count_ones, refl, ap, sym, ◌∙◌, arith}
use Rattle.std.specs.List.{count_by, range_with_len}
use Rattle.std.proofs.lemmas.List.Sums.{count_by-le-length, sum_by-append}
use Rattle.qm_lists.specs.Word.{has_bit}
use Rattle.qm_bits.specs.inner.Rows.{is_set, row_of, IsRow}
use Rattle.qm_bits.specs.inner.Words.{ones_of}
use Rattle.qm_lists.proofs.Bits.{count_ones-bits}
use Rattle.qm_bits.proofs.Rows.{length-row_of, is_set-at}

-- one number, and then the others
count_by-first : {X : Type 0} (f : X → Bool) (x : X) (xs : List X) → count_by f (x ∷ xs) ≡ cond (f x) 1 0 + count_by f xs
count_by-first f x xs =
    let parts : count_by f (x ∷ xs) ≡ (0 + cond (f x) 1 0) + count_by f xs = sum_by-append (λ y. cond (f y) 1 0) (x ∷ []) xs in
    omega arith

-- to count the values of a function is to count by it
count_by-values : (f : ℕ → Bool) (xs : List ℕ) → count_by (λ (s : Bool). s) (map f xs) ≡ count_by f xs
count_by-values f [] = refl
count_by-values f (x ∷ xs) =
    let one = count_by-first (λ (s : Bool). s) (f x) (map f xs) in
    let other = count_by-first f x xs in
    let rest = count_by-values f xs in
    omega arith

-- some numbers, and then some more
count_by-parts : (f : ℕ → Bool) (a n m : ℕ) → count_by f (range_with_len a (n + m)) ≡ count_by f (range_with_len a n) + count_by f (range_with_len (a + n) m)
count_by-parts f a n m = ap (count_by f) (range_with_len-parts a n m) ∙ sum_by-append (λ y. cond (f y) 1 0) (range_with_len a n) (range_with_len (a + n) m)
  where
    moved : (a b m : ℕ) → a ≡ b → range_with_len a m ≡ range_with_len b m
    moved a b m e = ap (λ (c : ℕ). range_with_len c m) e

    longer : (a n m : ℕ) → n ≡ m → range_with_len a n ≡ range_with_len a m
    longer a n m e = ap (range_with_len a) e

    range_with_len-parts : (a n m : ℕ) → range_with_len a (n + m) ≡ range_with_len a n ++ range_with_len (a + n) m
    range_with_len-parts a zero m = longer a (0 + m) m (omega arith) ∙ moved a (a + 0) m (omega arith)
    range_with_len-parts a (suc n) m =
        longer a (suc n + m) (suc (n + m)) (omega arith) ∙ ap (λ (ns : List ℕ). a ∷ ns) (range_with_len-parts (a + 1) n m ∙ ap (λ (ns : List ℕ). range_with_len (a + 1) n ++ ns) (moved (a + 1 + n) (a + suc n) m (omega arith)))

count_by-same : (f g : ℕ → Bool) (a b n : ℕ) → ((i : ℕ) → i < n → f (a + i) ≡ g (b + i)) → count_by f (range_with_len a n) ≡ count_by g (range_with_len b n)
count_by-same f g a b zero same = refl
count_by-same f g a b (suc n) same =
    count_by-first f a (range_with_len (a + 1) n) ∙ ap (λ (c : Bool). cond c 1 0 + count_by f (range_with_len (a + 1) n)) begin ∙ ap (λ (k : ℕ). cond (g b) 1 0 + k) (count_by-same f g (a + 1) (b + 1) n later) ∙ sym (count_by-first g b (range_with_len (b + 1) n))
  where
    at : (h : ℕ → Bool) (i j : ℕ) → i ≡ j → h i ≡ h j
    at h i j e = ap h e

    later : (i : ℕ) → i < n → f (a + 1 + i) ≡ g (b + 1 + i)
    later i within = at f (a + 1 + i) (a + suc i) (omega arith) ∙ same (suc i) (omega arith) ∙ at g (b + suc i) (b + 1 + i) (omega arith)

    begin : f a ≡ g b
    begin = at f a (a + 0) (omega arith) ∙ same 0 (omega arith) ∙ at g (b + 0) b (omega arith)

count_by-none : (f : ℕ → Bool) (a n : ℕ) → ((i : ℕ) → a ≤ i → f i ≡ false) → count_by f (range_with_len a n) ≡ 0
count_by-none f a zero none = refl
count_by-none f a (suc n) none =
    let one : count_by f (a ∷ range_with_len (a + 1) n) ≡ cond (f a) 1 0 + count_by f (range_with_len (a + 1) n) = count_by-first f a (range_with_len (a + 1) n) in
    let clear : cond {A = ℕ} (f a) 1 0 ≡ 0 = ap (λ (c : Bool). cond {A = ℕ} c 1 0) (none a (omega arith)) in
    let rest = count_by-none f (a + 1) n (λ i from. none i (omega arith)) in
    omega (arith, one, clear, rest)

as_numbers : (words : List ℕ) (count : ℕ) → ones_of count words ≡ count_by (is_set words) (range_with_len 0 (64 * count))
unfolding ones_of row_of
as_numbers words count = count_by-values (is_set words) (range_with_len 0 (64 * count))

row_as_numbers : (words : List ℕ) (len : ℕ) → count_by (λ (s : Bool). s) (row_of words len) ≡ count_by (is_set words) (range_with_len 0 len)
unfolding ones_of row_of
row_as_numbers words len = count_by-values (is_set words) (range_with_len 0 len)

pub no_ones : (words : List ℕ) → ones_of 0 words ≡ 0
no_ones words = as_numbers words 0

-- one word more
pub ones_of-next : (words : List ℕ) (i : ℕ) → get_or words i 0 < 2 ^ 64 → ones_of (i + 1) words ≡ ones_of i words + count_ones (get_or words i 0)
ones_of-next words i small =
    as_numbers words (i + 1) ∙ ap (λ n. count_by (is_set words) (range_with_len 0 n)) more ∙ count_by-parts (is_set words) 0 (64 * i) 64 ∙ both
  where
    more : 64 * (i + 1) ≡ 64 * i + 64
    more = omega arith

    both : count_by (is_set words) (range_with_len 0 (64 * i)) + count_by (is_set words) (range_with_len (0 + 64 * i) 64) ≡ ones_of i words + count_ones (get_or words i 0)
    both =
        let before = as_numbers words i in
        let bits = count_ones-bits (get_or words i 0) small in
        let same = count_by-same (is_set words) (has_bit (get_or words i 0)) (0 + 64 * i) 0 64 (λ bit within. ap (is_set words) (omega arith) ∙ is_set-at words i bit within ∙ ap (has_bit (get_or words i 0)) (omega arith)) in
        omega arith

-- in more words there are no fewer
pub ones_of-le : (words : List ℕ) (i n : ℕ) → i ≤ n → ones_of i words ≤ ones_of n words
ones_of-le words i n less =
    let first = as_numbers words i in
    let all = as_numbers words n in
    let parts = count_by-parts (is_set words) 0 (64 * i) (64 * n - 64 * i) in
    let sum : 64 * i + (64 * n - 64 * i) ≡ 64 * n = omega arith in
    let long = ap (λ (k : ℕ). count_by (is_set words) (range_with_len 0 k)) sum in
    omega (arith, first, all, parts, long)

-- past the end of the row there are none
pub ones_of_row : (words : List ℕ) (len : ℕ) → IsRow words len → ones_of (length words) words ≡ count_by (λ (s : Bool). s) (row_of words len)
ones_of_row words len row =
    as_numbers words (length words) ∙ ap (λ n. count_by (is_set words) (range_with_len 0 n)) rest ∙ count_by-parts (is_set words) 0 len (64 * length words - len) ∙ none ∙ sym (row_as_numbers words len)
  where
    rest : 64 * length words ≡ len + (64 * length words - len)
    rest = let count = row.word_count in omega arith

    none : count_by (is_set words) (range_with_len 0 len) + count_by (is_set words) (range_with_len (0 + len) (64 * length words - len)) ≡ count_by (is_set words) (range_with_len 0 len)
    none =
        let past = count_by-none (is_set words) (0 + len) (64 * length words - len) (λ place from. row.clear_past place (omega arith)) in
        omega arith

-- so they are at most as many as the places
pub ones_fit : (words : List ℕ) (len : ℕ) → IsRow words len → ones_of (length words) words < 2 ^ 64
ones_fit words len row =
    let most = count_by-le-length (λ (s : Bool). s) (row_of words len) in
    let long = length-row_of words len in
    omega (arith, most, long, ones_of_row words len row, row.counted)

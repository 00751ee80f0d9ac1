-- Numbers with a byte behind them, and fixed bytes, are read exactly.
use Rattle.std.proofs.Common.{◌≡◌, ◌≤◌, ℕ, suc, ◌+◌, Bool, true, false, cond, eqb, ◌&&◌, List, [], ◌∷◌, ◌++◌, length, take, drop, Option, Some, None, refl, sym, ap, subst, ◌∙◌, arith}
use Rattle.std.specs.List.{list_all, prefix_len}
use Rattle.std.proofs.lemmas.Bool.{and_parts, and_from, eqb-true, eq-eqb}
use Rattle.std.proofs.lemmas.List.{length-drop, drop-drop}
use Rattle.std.proofs.lemmas.List.Folds.{length-prefix_len}
use Rattle.std.proofs.lemmas.List.Sums.{prefix_len-le-length}
use Rattle.qm_formats.specs.Layout.{Decoded, got, bad, Layout, decoded_map, decoded_then, tested, followed_by}
use Rattle.qm_formats.specs.Fields.{first_difference}
use Rattle.qm_formats.specs.Exact.{StandsAt, IsRightAt, IsExact}
use Rattle.qm_formats.proofs.ExactParts.{map_got, then_got, chosen_got, recast_exact, followed_by_exact}
use Rattle.qm_formats.proofs.ExactFields.{part_stands}
use Rattle.qm_formats.proofs.Standing.{stands_both, stands_first, stands_second}
use Rattle.qm_listing.specs.Numerals.{is_number_byte, numeral_ahead, Spelling, spelled, numeral, literal, before, behind}

-- ---- fixed bytes

difference_by_head : (x y : ℕ) (xs ys : List ℕ) (b : Bool) → eqb x y ≡ b → (first_difference xs ys ≡ length xs → ys ≡ xs ++ drop (length xs) ys) → cond b (first_difference xs ys + 1) 0 ≡ suc (length xs) → y ∷ ys ≡ x ∷ (xs ++ drop (length xs) ys)
difference_by_head x y xs ys true head rest none =
    let same = eqb-true x y head in
    let tail = rest (omega (arith, none)) in
    ap (λ (z : ℕ). z ∷ ys) (sym same) ∙ ap (λ (zs : List ℕ). x ∷ zs) tail
difference_by_head x y xs ys false head rest none = absurd (omega (arith, none))

begins : (xs ys : List ℕ) → first_difference xs ys ≡ length xs → ys ≡ xs ++ drop (length xs) ys
begins [] ys none = refl
begins (x ∷ xs) [] none = absurd (omega (arith, none))
begins (x ∷ xs) (y ∷ ys) none = difference_by_head x y xs ys (eqb x y) refl (begins xs ys) none

pub same_beginning : (xs rest : List ℕ) → first_difference xs (xs ++ rest) ≡ length xs
same_beginning [] rest = refl
same_beginning (x ∷ xs) rest = ap (λ (b : Bool). cond b (first_difference xs (xs ++ rest) + 1) 0) (eq-eqb x x refl) ∙ let e = same_beginning xs rest in omega (arith, e)

long_enough : (xs rest more : List ℕ) → rest ≡ xs ++ more → length xs ≤ length rest
long_enough [] rest more is = omega arith
long_enough (x ∷ xs) [] more is = absurd cc
long_enough (x ∷ xs) (y ∷ rest) more is = let tail : rest ≡ xs ++ more = cc in let e = long_enough xs rest more tail in omega (arith, e)

fixed_bytes : (bytes text : List ℕ) (at : ℕ) → at ≤ length text → first_difference bytes (drop at text) ≡ length bytes → StandsAt text at bytes (at + length bytes)
fixed_bytes bytes text at within none =
    let begun = begins bytes (drop at text) none in
    record {
      stands = begun ∙ ap (λ (xs : List ℕ). bytes ++ xs) (drop-drop (length bytes) at text);
      ends = refl;
      within = omega (arith, within, length-drop at text, long_enough bytes (drop at text) (drop (length bytes) (drop at text)) begun);
    }

pub literal_exact : {F : Type 0} (fault : F) (bytes : List ℕ) → IsExact (literal fault bytes)
unfolding literal
literal_exact fault bytes =
    record {
      found = λ text at x next are within is.
          let passed = chosen_got (eqb (first_difference bytes (drop at text)) (length bytes)) tt (at + length bytes) fault at x next is in
          record {
            right = refl;
            stands = subst (λ (n : ℕ). StandsAt text at bytes n) passed.2 (fixed_bytes bytes text at within (eqb-true (first_difference bytes (drop at text)) (length bytes) passed.0));
          };
      again = λ text at x next found.
          let none : first_difference bytes (drop at text) ≡ length bytes = ap (first_difference bytes) found.stands.stands ∙ same_beginning bytes (drop next text) in
          ap (λ (b : Bool). cond b (got tt (at + length bytes)) (bad fault at)) (eq-eqb (first_difference bytes (drop at text)) (length bytes) none)
          ∙ ap (got tt) (sym found.stands.ends);
    }

-- ---- numerals

-- a numeral is a value's exactly where it is the one that is written for it, and has number bytes alone
pub record IsSpelling {X : Type 0} (spelling : Spelling X) : Type 0 where
  pub found : (numeral : List ℕ) (x : X) → spelling.value_of numeral ≡ Some x → (spelling.right x ≡ true) × (spelling.numeral_of x ≡ numeral)
  pub again : (x : X) → spelling.right x ≡ true → spelling.value_of (spelling.numeral_of x) ≡ Some x
  pub bytes : (x : X) → spelling.right x ≡ true → list_all is_number_byte (spelling.numeral_of x) ≡ true

run_by_head : (b : Bool) (x : ℕ) (xs rest : List ℕ) → (b && list_all is_number_byte xs) ≡ true → (list_all is_number_byte xs ≡ true → take (prefix_len is_number_byte (xs ++ rest)) (xs ++ rest) ≡ xs) → take (cond b (1 + prefix_len is_number_byte (xs ++ rest)) 0) (x ∷ (xs ++ rest)) ≡ x ∷ xs
run_by_head true x xs rest all below =
    let count = prefix_len is_number_byte (xs ++ rest) in
    let one_more : 1 + count ≡ suc count = omega arith in
    ap (λ (n : ℕ). take n (x ∷ (xs ++ rest))) one_more ∙ ap (λ (ys : List ℕ). x ∷ ys) (below all)
run_by_head false x xs rest all below = absurd cc

-- a run of number bytes ends before another byte
pub numeral_ends : (xs rest : List ℕ) (byte : ℕ) → list_all is_number_byte xs ≡ true → is_number_byte byte ≡ false → numeral_ahead (xs ++ (byte ∷ rest)) ≡ xs
unfolding numeral_ahead
numeral_ends [] rest byte all ends = ap (λ (b : Bool). take (cond b (1 + prefix_len is_number_byte rest) 0) (byte ∷ rest)) ends
numeral_ends (x ∷ xs) rest byte all ends = run_by_head (is_number_byte x) x xs (byte ∷ rest) all (λ below. numeral_ends xs rest byte below ends)

spelled_got : {F X : Type 0} (fault : F) (at next : ℕ) (value : Option X) (x : X) (end : ℕ) → spelled fault at next value ≡ got x end → (value ≡ Some x) × (next ≡ end)
spelled_got fault at next (Some y) x end is = (let same : y ≡ x = cc in ap (λ (z : _). Some z) same, cc)
spelled_got fault at next None x end is = absurd (cc)

module _ {F X : Type 0} (fault shape : F) (spelling : Spelling X) (is_spelling : IsSpelling spelling) (test : X → Bool) (byte : ℕ) (ends : is_number_byte byte ≡ false) where
  found_numeral : (text : List ℕ) (at : ℕ) (x : X) (next : ℕ) → at ≤ length text → (numeral fault spelling).read text at ≡ got x next → IsRightAt (numeral fault spelling) text at x next
  unfolding numeral numeral_ahead
  found_numeral text at x next within is =
      let run = prefix_len is_number_byte (drop at text) in
      let value = spelled_got fault at (at + length (take run (drop at text))) (spelling.value_of (take run (drop at text))) x next is in
      let own = is_spelling.found (take run (drop at text)) x value.0 in
      let long = length-prefix_len is_number_byte (drop at text) in
      let fits : at + run ≤ length text = omega (arith, within, length-drop at text, prefix_len-le-length is_number_byte (drop at text)) in
      let place : at + run ≡ next = omega (arith, long, value.1) in
      record {
        right = own.0;
        stands = subst (λ (n : ℕ). StandsAt text at (spelling.numeral_of x) n) place (subst (λ (w : List ℕ). StandsAt text at w (at + run)) (sym own.1) (part_stands text at run fits));
      }

  again_numeral : (text : List ℕ) (at : ℕ) (x : X) (next : ℕ) (rest : List ℕ) → IsRightAt (numeral fault spelling) text at x next → drop next text ≡ byte ∷ rest → (numeral fault spelling).read text at ≡ got x next
  unfolding numeral
  again_numeral text at x next rest found stop =
      let stand : drop at text ≡ spelling.numeral_of x ++ (byte ∷ rest) = found.stands.stands ∙ ap (λ (xs : List ℕ). spelling.numeral_of x ++ xs) stop in
      let run : numeral_ahead (drop at text) ≡ spelling.numeral_of x = ap numeral_ahead stand ∙ numeral_ends (spelling.numeral_of x) rest byte (is_spelling.bytes x found.right) ends in
      ap (λ (w : List ℕ). spelled fault at (at + length w) (spelling.value_of w)) run
      ∙ ap (spelled fault at (at + length (spelling.numeral_of x))) (is_spelling.again x found.right)
      ∙ ap (got x) (sym found.stands.ends)

  abbrev tested_numeral : Layout F X
  tested_numeral = tested test shape (λ _ at. at) (numeral fault spelling)

  found_tested : (text : List ℕ) (at : ℕ) (x : X) (next : ℕ) → at ≤ length text → tested_numeral.read text at ≡ got x next → IsRightAt tested_numeral text at x next
  found_tested text at x next within is =
      let value = then_got ((numeral fault spelling).read text at) (λ v mid. cond (test v) (got v mid) (bad shape at)) x next is in
      let passed = chosen_got (test value.0) value.0 value.1 shape at x next value.3 in
      let same = subst (λ (v : X). (numeral fault spelling).read text at ≡ got v value.1) passed.1 value.2 in
      let read = same ∙ ap (got x) passed.2 in
      let found = found_numeral text at x next within read in
      record { right = and_from ((numeral fault spelling).right x) (test x) found.right (sym (ap test passed.1) ∙ passed.0); stands = found.stands }

  again_tested : (text : List ℕ) (at : ℕ) (x : X) (next : ℕ) (rest : List ℕ) → IsRightAt tested_numeral text at x next → drop next text ≡ byte ∷ rest → tested_numeral.read text at ≡ got x next
  again_tested text at x next rest found stop =
      let both = and_parts ((numeral fault spelling).right x) (test x) found.right in
      ap (λ (answer : Decoded F X). decoded_then answer (λ v mid. cond (test v) (got v mid) (bad shape at))) (again_numeral text at x next rest (record { right = both.0; stands = found.stands }) stop)
      ∙ ap (λ (b : Bool). cond b (got x next) (bad shape at)) both.1

  abbrev last_byte : Layout F (Unit {0})
  last_byte = literal shape (byte ∷ [])

  last_stands : (text : List ℕ) (at next : ℕ) → StandsAt text at (last_byte.bytes_of tt) next → drop at text ≡ byte ∷ drop next text
  unfolding literal
  last_stands text at next stand = stand.stands

  numeral_and_byte : IsExact (followed_by tested_numeral last_byte)
  numeral_and_byte =
      record {
        found = λ text at v next are within is.
            let one = then_got (tested_numeral.read text at) (λ x mid. decoded_map (λ (y : Unit {0}). (x, y)) (last_byte.read text mid)) v next is in
            let other = map_got (λ (y : Unit {0}). (one.0, y)) (last_byte.read text one.1) v next one.3 in
            let front = found_tested text at one.0 one.1 within one.2 in
            let back = (literal_exact shape (byte ∷ [])).found text one.1 other.0 next are front.stands.within other.1 in
            let whole : IsRightAt (followed_by tested_numeral last_byte) text at (one.0, other.0) next = record {
              right = and_from (tested_numeral.right one.0) (last_byte.right other.0) front.right back.right;
              stands = stands_both text at (tested_numeral.bytes_of one.0) one.1 (last_byte.bytes_of other.0) next front.stands back.stands;
            } in
            subst (λ (w : _). IsRightAt (followed_by tested_numeral last_byte) text at w next) other.2 whole;
        again = λ text at v next found.
            let rights = and_parts (tested_numeral.right v.0) (last_byte.right v.1) found.right in
            let p = tested_numeral.bytes_of v.0 in
            let q = last_byte.bytes_of v.1 in
            let last = stands_second text at p q next found.stands in
            let one = again_tested text at v.0 (at + length p) (drop next text) (record { right = rights.0; stands = stands_first text at p q next found.stands }) (last_stands text (at + length p) next last) in
            let other = (literal_exact shape (byte ∷ [])).again text (at + length p) v.1 next (record { right = rights.1; stands = last }) in
            ap (λ (answer : Decoded F X). decoded_then answer (λ x mid. decoded_map (λ (y : Unit {0}). (x, y)) (last_byte.read text mid))) one ∙ ap (decoded_map (λ (y : Unit {0}). (v.0, y))) other;
      }

  pub numeral_exact : IsExact (before tested_numeral last_byte)
  numeral_exact = recast_exact (λ v. v.0) (λ x. (x, tt)) (followed_by tested_numeral last_byte) numeral_and_byte (λ v right. refl) (λ x right. refl)

pub before_exact : {F X : Type 0} (first : Layout F X) (last : Layout F (Unit {0})) → IsExact first → IsExact last → IsExact (before first last)
before_exact first last exact other = recast_exact (λ v. v.0) (λ x. (x, tt)) (followed_by first last) (followed_by_exact first last exact other) (λ v right. refl) (λ x right. refl)

pub behind_exact : {F X : Type 0} (first : Layout F (Unit {0})) (last : Layout F X) → IsExact first → IsExact last → IsExact (behind first last)
behind_exact first last exact other = recast_exact (λ v. v.1) (λ x. (tt, x)) (followed_by first last) (followed_by_exact first last exact other) (λ v right. refl) (λ x right. refl)

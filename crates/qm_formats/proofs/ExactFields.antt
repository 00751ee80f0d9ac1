-- The fields of a file are read exactly.
use Rattle.std.proofs.Common.{◌≡◌, ◌<◌, ◌≤◌, ℕ, zero, suc, ◌+◌, ◌-◌, ◌/◌, ◌%◌, ◌^◌, Bool, true, false, cond, ltb, eqb, ◌&&◌, ℤ, pos, negsuc, List, [], ◌∷◌, ◌++◌, length, take, drop, get_or, refl, sym, ap, subst, ◌∙◌, arith, inl, inr, w8, w32, w64}
use Rattle.std.specs.Int.{Width, byte_len, to_le_bytes, from_le_bytes, cast_signed, cast_unsigned, bytes_low_first}
use mir.Val.{bits, hbits}
use Rattle.std.proofs.lemmas.Bool.{and_parts, and_from, cases_lt, lt-ltb, le-ltb, ltb-true, eq-eqb, eqb-true}
use Rattle.std.proofs.lemmas.List.{length-append, length-take, length-drop, take-append-drop, drop-drop, take_at, get_or-take, get_or-drop, get_or_past}
use Rattle.std.proofs.lemmas.Nat.{le_bytes_4, le_bytes_8, from_le_bytes-to_le_bytes_4, from_le_bytes-to_le_bytes_8, mod_below}
use Rattle.std.proofs.lemmas.Int.{to_z-of_z, of_z-to_z}
use Rattle.qm_formats.specs.Fields.{AreBytes, are_bytes, raw, unsigned, signed, fits_signed, first_difference, fixed_before, unwritten}
use Rattle.qm_formats.specs.Layout.{got, bad, tested}
use Rattle.qm_formats.specs.Exact.{StandsAt, IsRightAt, IsExact}
use Rattle.qm_formats.proofs.Standing.{stands_nothing}
use Rattle.qm_formats.proofs.ExactParts.{seen_as_exact, tested_exact}

pub are_bytes-from : (bytes : List ℕ) → AreBytes bytes → are_bytes bytes ≡ true
are_bytes-from [] are = refl
are_bytes-from (byte ∷ bytes) are = and_from (ltb byte 256) (are_bytes bytes) (lt-ltb byte 256 (are 0)) (are_bytes-from bytes (λ i. are (suc i)))

pub bytes-are : (bytes : List ℕ) → are_bytes bytes ≡ true → AreBytes bytes
bytes-are [] is i = omega arith
bytes-are (byte ∷ bytes) is zero = ltb-true byte 256 (and_parts (ltb byte 256) (are_bytes bytes) is).0
bytes-are (byte ∷ bytes) is (suc i) = bytes-are bytes (and_parts (ltb byte 256) (are_bytes bytes) is).1 i

pub bytes_of_part : (file : List ℕ) (at n : ℕ) → AreBytes file → AreBytes (take n (drop at file))
bytes_of_part file at n are i =
    elim (cases_lt i n) [
      | inl less ↦ rw (get_or-take n (drop at file) i 0 less, get_or-drop) (are (at + i))
      | inr more ↦ rw (get_or_past (take n (drop at file)) i 0 (omega (arith, length-take n (drop at file)))) (omega arith)
    ]

-- bytes of a file up to a place within it
pub part_stands : (file : List ℕ) (at n : ℕ) → at + n ≤ length file → StandsAt file at (take n (drop at file)) (at + n)
part_stands file at n within =
    record {
      stands = sym (take-append-drop n (drop at file)) ∙ ap (λ (xs : List ℕ). take n (drop at file) ++ xs) (drop-drop n at file);
      ends = omega (arith, length-take n (drop at file), length-drop at file, within);
      within = within;
    }

module _ {F : Type 0} (short : F) (count : ℕ) where
  found_raw : (file : List ℕ) (at : ℕ) (x : List ℕ) (next : ℕ) → AreBytes file → cond (ltb (length file) (at + count)) (bad short (length file)) (got (take count (drop at file)) (at + count)) ≡ got x next → IsRightAt (raw short count) file at x next
  unfolding raw
  found_raw file at x next are is =
      elim (cases_lt (length file) (at + count)) [
        | inl less ↦ absurd (let e = sym (ap (λ (b : Bool). cond b (bad short (length file)) (got (take count (drop at file)) (at + count))) (lt-ltb (length file) (at + count) less)) ∙ is in cc)
        | inr within ↦
            let e = sym (ap (λ (b : Bool). cond b (bad short (length file)) (got (take count (drop at file)) (at + count))) (le-ltb (length file) (at + count) within)) ∙ is in
            let value : take count (drop at file) ≡ x = cc in
            let place : at + count ≡ next = cc in
            let long : length (take count (drop at file)) ≡ count = omega (arith, length-take count (drop at file), length-drop at file, within) in
            let found : IsRightAt (raw short count) file at (take count (drop at file)) (at + count) = record {
              right = and_from (eqb (length (take count (drop at file))) count) (are_bytes (take count (drop at file))) (eq-eqb (length (take count (drop at file))) count long) (are_bytes-from (take count (drop at file)) (bytes_of_part file at count are));
              stands = part_stands file at count within;
            } in
            subst (λ (n : ℕ). IsRightAt (raw short count) file at x n) place (subst (λ (v : List ℕ). IsRightAt (raw short count) file at v (at + count)) value found)
      ]

  again_raw : (file : List ℕ) (at : ℕ) (x : List ℕ) (next : ℕ) → IsRightAt (raw short count) file at x next → cond (ltb (length file) (at + count)) (bad short (length file)) (got (take count (drop at file)) (at + count)) ≡ got x next
  unfolding raw
  again_raw file at x next found =
      let long : length x ≡ count = eqb-true (length x) count (and_parts (eqb (length x) count) (are_bytes x) found.right).0 in
      let place : at + count ≡ next = omega (arith, long, found.stands.ends) in
      let value : take count (drop at file) ≡ x = ap (take count) found.stands.stands ∙ take_at x (drop next file) count long in
      ap (λ (b : Bool). cond b (bad short (length file)) (got (take count (drop at file)) (at + count))) (le-ltb (length file) (at + count) (omega (arith, place, found.stands.within)))
      ∙ ap (λ (v : List ℕ). got v (at + count)) value ∙ ap (got x) place

  pub raw_exact : IsExact (raw short count)
  unfolding raw
  raw_exact = record { found = λ file at x next are within is. found_raw file at x next are is; again = again_raw }

-- what numbers of a width are, as bytes
record IsWidth (width : Width) : Type 0 where
  number : (n : ℕ) → n < 2 ^ bits width → from_le_bytes width (to_le_bytes width n) ≡ n
  bytes : (bytes : List ℕ) → length bytes ≡ byte_len width → AreBytes bytes → to_le_bytes width (from_le_bytes width bytes) ≡ bytes
  bound : (bytes : List ℕ) → AreBytes bytes → from_le_bytes width bytes < 2 ^ bits width
  long : (n : ℕ) → length (to_le_bytes width n) ≡ byte_len width
  half : 2 ^ bits width ≡ 2 ^ hbits width + 2 ^ hbits width

pub low_first_bytes : (i count n : ℕ) → are_bytes (bytes_low_first i count n) ≡ true
low_first_bytes i zero n = refl
low_first_bytes zero (suc count) n = and_from (ltb (n % 256) 256) (are_bytes (bytes_low_first 1 count n)) (lt-ltb (n % 256) 256 (mod_below n 256 (omega arith))) (low_first_bytes 1 count n)
low_first_bytes (suc i) (suc count) n =
    and_from (ltb (n / 256 ^ suc i % 256) 256) (are_bytes (bytes_low_first (suc (suc i)) count n)) (lt-ltb (n / 256 ^ suc i % 256) 256 (mod_below (n / 256 ^ suc i) 256 (omega arith))) (low_first_bytes (suc (suc i)) count n)

one_byte : (bytes : List ℕ) → length bytes ≡ 1 → AreBytes bytes → get_or bytes 0 0 % 256 ∷ [] ≡ bytes
one_byte [] long are = absurd (omega (arith, long))
one_byte (byte ∷ []) long are = let small : byte < 256 = are 0 in ap (λ (n : ℕ). n ∷ []) (omega arith)
one_byte (byte ∷ other ∷ bytes) long are = absurd (omega (arith, long))

is_w8 : IsWidth w8
is_w8 =
    record {
      number = λ n small. omega arith;
      bytes = one_byte;
      bound = λ bytes are. are 0;
      long = λ n. refl;
      half = refl;
    }

is_w32 : IsWidth w32
is_w32 =
    record {
      number = from_le_bytes-to_le_bytes_4;
      bytes = λ bytes long are. le_bytes_4 bytes (from_le_bytes w32 bytes) long are refl;
      bound = λ bytes are. omega (arith, are 0, are 1, are 2, are 3);
      long = λ n. refl;
      half = refl;
    }

is_w64 : IsWidth w64
is_w64 =
    record {
      number = from_le_bytes-to_le_bytes_8;
      bytes = λ bytes long are. le_bytes_8 bytes (from_le_bytes w64 bytes) long are refl;
      bound = λ bytes are. omega (arith, are 0, are 1, are 2, are 3, are 4, are 5, are 6, are 7);
      long = λ n. refl;
      half = refl;
    }

unsigned_of : {F : Type 0} (short : F) (width : Width) → IsWidth width → IsExact (unsigned short width)
unfolding unsigned raw
unsigned_of short width is =
    seen_as_exact (from_le_bytes width) (to_le_bytes width) (λ n. ltb n (2 ^ bits width)) (raw short (byte_len width)) (raw_exact short (byte_len width)) (λ bytes right.
    let both = and_parts (eqb (length bytes) (byte_len width)) (are_bytes bytes) right in
    let are = bytes-are bytes both.1 in
    (is.bytes bytes (eqb-true (length bytes) (byte_len width) both.0) are, lt-ltb (from_le_bytes width bytes) (2 ^ bits width) (is.bound bytes are))) (λ n right.
    (is.number n (ltb-true n (2 ^ bits width) right), and_from (eqb (length (to_le_bytes width n)) (byte_len width)) (are_bytes (to_le_bytes width n)) (eq-eqb (length (to_le_bytes width n)) (byte_len width) (is.long n)) (low_first_bytes 0 (byte_len width) n)))

pub byte_exact : {F : Type 0} (short : F) → IsExact (unsigned short w8)
byte_exact short = unsigned_of short w8 is_w8

pub unsigned_32_exact : {F : Type 0} (short : F) → IsExact (unsigned short w32)
unsigned_32_exact short = unsigned_of short w32 is_w32

pub unsigned_64_exact : {F : Type 0} (short : F) → IsExact (unsigned short w64)
unsigned_64_exact short = unsigned_of short w64 is_w64

fits_cast : (width : Width) (n : ℕ) → IsWidth width → n < 2 ^ bits width → fits_signed width (cast_signed width n) ≡ true
fits_cast width n is small =
    elim (cases_lt n (2 ^ hbits width)) [
      | inl less ↦ subst (λ (z : ℤ). fits_signed width z ≡ true) (sym (ap (λ (b : Bool). cond b (pos n) (negsuc (2 ^ bits width - suc n))) (lt-ltb n (2 ^ hbits width) less))) (lt-ltb n (2 ^ hbits width) less)
      | inr more ↦
          subst (λ (z : ℤ). fits_signed width z ≡ true) (sym (ap (λ (b : Bool). cond b (pos n) (negsuc (2 ^ bits width - suc n))) (le-ltb n (2 ^ hbits width) more))) (lt-ltb (2 ^ bits width - suc n) (2 ^ hbits width) (omega (arith, is.half)))
    ]

fits_both : (width : Width) (z : ℤ) → IsWidth width → fits_signed width z ≡ true → (cast_signed width (cast_unsigned width z) ≡ z) × (cast_unsigned width z < 2 ^ bits width)
fits_both width (pos n) is fits =
    let small = ltb-true n (2 ^ hbits width) fits in
    (to_z-of_z width (pos n) (record { sfits = small }), omega (arith, small, is.half))
fits_both width (negsuc n) is fits =
    let small = ltb-true n (2 ^ hbits width) fits in
    (to_z-of_z width (negsuc n) (record { sfits = small }), omega (arith, small, is.half))

signed_of : {F : Type 0} (short : F) (width : Width) → IsWidth width → IsExact (signed short width)
unfolding signed unsigned
signed_of short width is =
    seen_as_exact (cast_signed width) (cast_unsigned width) (fits_signed width) (unsigned short width) (unsigned_of short width is) (λ n right.
    let small = ltb-true n (2 ^ bits width) right in
    (of_z-to_z width n small, fits_cast width n is small)) (λ z right.
    let both = fits_both width z is right in
    (both.0, lt-ltb (cast_unsigned width z) (2 ^ bits width) both.1))

pub signed_32_exact : {F : Type 0} (short : F) → IsExact (signed short w32)
signed_32_exact short = signed_of short w32 is_w32

pub signed_64_exact : {F : Type 0} (short : F) → IsExact (signed short w64)
signed_64_exact short = signed_of short w64 is_w64

-- ---- fixed bytes and one more

begins_by_head : (x y : ℕ) (xs ys : List ℕ) (b : Bool) → eqb x y ≡ b → (first_difference xs ys ≡ length xs → xs ++ (get_or ys (length xs) 0 ∷ []) ≡ ys) → cond b (first_difference xs ys + 1) 0 ≡ suc (length xs) → x ∷ (xs ++ (get_or ys (length xs) 0 ∷ [])) ≡ y ∷ ys
begins_by_head x y xs ys true head behind none =
    let same = eqb-true x y head in
    let rest = behind (omega (arith, none)) in
    cc
begins_by_head x y xs ys false head behind none = absurd (omega (arith, none))

begins_with : (xs ys : List ℕ) → first_difference xs ys ≡ length xs → length ys ≡ length xs + 1 → xs ++ (get_or ys (length xs) 0 ∷ []) ≡ ys
begins_with [] [] none long = absurd (omega (arith, long))
begins_with [] (y ∷ []) none long = refl
begins_with [] (y ∷ z ∷ ys) none long = absurd (omega (arith, long))
begins_with (x ∷ xs) [] none long = absurd (omega (arith, long))
begins_with (x ∷ xs) (y ∷ ys) none long = begins_by_head x y xs ys (eqb x y) refl (λ none_behind. begins_with xs ys none_behind (omega (arith, long))) none

own_difference : (xs ys : List ℕ) → first_difference xs (xs ++ ys) ≡ length xs
own_difference [] ys = refl
own_difference (x ∷ xs) ys = ap (λ (b : Bool). cond b (first_difference xs (xs ++ ys) + 1) 0) (eq-eqb x x refl) ∙ let e = own_difference xs ys in omega (arith, e)

byte_behind : (xs : List ℕ) (byte : ℕ) → get_or (xs ++ (byte ∷ [])) (length xs) 0 ≡ byte
byte_behind [] byte = refl
byte_behind (x ∷ xs) byte = byte_behind xs byte

pub bytes_behind : (xs ys : List ℕ) → are_bytes xs ≡ true → are_bytes ys ≡ true → are_bytes (xs ++ ys) ≡ true
bytes_behind [] ys of_xs of_ys = of_ys
bytes_behind (x ∷ xs) ys of_xs of_ys =
    let both = and_parts (ltb x 256) (are_bytes xs) of_xs in
    and_from (ltb x 256) (are_bytes (xs ++ ys)) both.0 (bytes_behind xs ys both.1 of_ys)

pub fixed_before_exact : {F : Type 0} (short other : F) (bytes : List ℕ) (test : ℕ → Bool) → are_bytes bytes ≡ true → IsExact (fixed_before short other bytes test)
unfolding fixed_before raw
fixed_before_exact short other bytes test are =
    seen_as_exact last (λ byte. bytes ++ (byte ∷ [])) (λ byte. ltb byte 256 && test byte) (tested passes other place (raw short (length bytes + 1))) (tested_exact passes other place (raw short (length bytes + 1)) (raw_exact short (length bytes + 1))) (λ found right.
    let both = and_parts ((eqb (length found) (length bytes + 1)) && are_bytes found) (passes found) right in
    let long = and_parts (eqb (length found) (length bytes + 1)) (are_bytes found) both.0 in
    let passed = and_parts (eqb (first_difference bytes found) (length bytes)) (test (last found)) both.1 in
    let small = lt-ltb (last found) 256 (bytes-are found long.1 (length bytes)) in
    (begins_with bytes found (eqb-true (first_difference bytes found) (length bytes) passed.0) (eqb-true (length found) (length bytes + 1) long.0), and_from (ltb (last found) 256) (test (last found)) small passed.1)) (λ byte right.
    let both = and_parts (ltb byte 256) (test byte) right in
    let whole = bytes ++ (byte ∷ []) in
    let long : length whole ≡ length bytes + 1 = omega (arith, length-append bytes (byte ∷ [])) in
    let whole_bytes = bytes_behind bytes (byte ∷ []) are (and_from (ltb byte 256) true both.0 refl) in
    let same = byte_behind bytes byte in (
      same,
      and_from ((eqb (length whole) (length bytes + 1)) && are_bytes whole) (passes whole)
          (and_from (eqb (length whole) (length bytes + 1)) (are_bytes whole) (eq-eqb (length whole) (length bytes + 1) long) whole_bytes)
          (and_from (eqb (first_difference bytes whole) (length bytes)) (test (last whole)) (eq-eqb (first_difference bytes whole) (length bytes) (own_difference bytes (byte ∷ []))) (ap test same ∙ both.1)),
    ))
  where
    last : List ℕ → ℕ
    last found = get_or found (length bytes) 0

    passes : List ℕ → Bool
    passes found = (eqb (first_difference bytes found) (length bytes)) && test (last found)

    place : List ℕ → ℕ → ℕ
    place found at = at + first_difference bytes found

-- ---- numbers that are not written

pub unwritten_exact : {F : Type 0} (value : ℕ) → IsExact (unwritten {F = F} value)
unfolding unwritten
unwritten_exact {F} value =
    record {
      found = λ file at x next are within is.
          let same : value ≡ x = cc in
          let place : at ≡ next = cc in
          let found : IsRightAt (unwritten {F = F} value) file at value at = record { right = eq-eqb value value refl; stands = stands_nothing file at within } in
          subst (λ (n : ℕ). IsRightAt (unwritten {F = F} value) file at x n) place (subst (λ (v : ℕ). IsRightAt (unwritten {F = F} value) file at v at) same found);
      again = λ file at x next found.
          let same : value ≡ x = sym (eqb-true x value found.right) in
          let place : at ≡ next = let e = found.stands.ends in omega (arith, e) in
          ap (λ (v : ℕ). got v at) same ∙ ap (got x) place;
    }

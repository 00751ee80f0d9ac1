use Rattle.std.specs.Prelude.{◌<◌, ℕ, ◌+◌, ◌^◌, ℤ, pos, negsuc, Bool, true, ◌&&◌, ◌==◌, nat_lt, List, [], ◌∷◌, ◌++◌, take, drop, length, slice_index, if◌then◌else◌}
use Rattle.std.specs.Int.{Width, byte_len, to_le_bytes, from_le_bytes, cast_signed, cast_unsigned}
use mir.Val.{bits, hbits}
use Rattle.qm_formats.specs.Layout.{got, bad, Layout, seen_as, tested}

-- The fields of a file. Numbers are little-endian, and signed ones in two's complement.

abbrev pub AreBytes : List ℕ → Type 0
AreBytes bytes = (i : ℕ) → slice_index bytes i < 256

abbrev pub are_bytes : List ℕ → Bool
are_bytes [] = true
are_bytes (byte ∷ bytes) = nat_lt byte 256 && are_bytes bytes

-- so many bytes, and a fault at the end of a file that ends before
unfoldable pub raw : {F : Type 0} → F → ℕ → Layout F (List ℕ)
raw short count =
    record {
      bytes_of = λ bytes. bytes;
      right = λ bytes. (length bytes == count) && are_bytes bytes;
      read = λ file at. if nat_lt (length file) (at + count) then bad short (length file) else got (take count (drop at file)) (at + count);
    }

-- a number from 0 on
unfoldable pub unsigned : {F : Type 0} → F → Width → Layout F ℕ
unsigned short width = seen_as (from_le_bytes width) (to_le_bytes width) (λ n. nat_lt n (2 ^ bits width)) (raw short (byte_len width))

-- whether a number can be written in so many bits, one of which is the sign
abbrev pub fits_signed : Width → ℤ → Bool
fits_signed width (pos n) = nat_lt n (2 ^ hbits width)
fits_signed width (negsuc n) = nat_lt n (2 ^ hbits width)

-- a number that may be negative
unfoldable pub signed : {F : Type 0} → F → Width → Layout F ℤ
signed short width = seen_as (cast_signed width) (cast_unsigned width) (fits_signed width) (unsigned short width)

-- the place of the first difference of two lists, or the length of the shorter one
abbrev pub first_difference : List ℕ → List ℕ → ℕ
first_difference [] ys = 0
first_difference (x ∷ xs) [] = 0
first_difference (x ∷ xs) (y ∷ ys) = if x == y then first_difference xs ys + 1 else 0

-- fixed bytes and one behind them that passes a test, as one record; where others stand, there is a fault at the first
-- that differs or does not pass
unfoldable pub fixed_before : {F : Type 0} → F → F → List ℕ → (ℕ → Bool) → Layout F ℕ
fixed_before short other bytes test =
    seen_as (λ found. slice_index found (length bytes)) (λ byte. bytes ++ (byte ∷ [])) (λ byte. nat_lt byte 256 && test byte) (
    tested (λ found. (first_difference bytes found == length bytes) && test (slice_index found (length bytes))) other (λ found at. at + first_difference bytes found) (raw short (length bytes + 1)))

-- a number that is not written
unfoldable pub unwritten : {F : Type 0} → ℕ → Layout F ℕ
unwritten value = record { bytes_of = λ _. []; right = λ n. n == value; read = λ file at. got value at }

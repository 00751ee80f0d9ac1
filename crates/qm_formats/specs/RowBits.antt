use Rattle.std.specs.Prelude.{ℕ, ◌*◌, ◌/◌, ◌%◌, ◌^◌, Bool, ◌==◌, nat_lt, List, map, length, take, drop, slice_index}
use Rattle.std.specs.Int.{bit_at, div_ceil}
use Rattle.std.specs.List.{range_with_len}
use Rattle.std.specs.Simd.Lanes.{mask_l}
use Rattle.qm_formats.specs.Layout.{Layout, seen_as, tested}
use Rattle.qm_formats.specs.Runs.{in_runs}

-- The bits of a row in bytes: the bit of place i is bit i % 8 of byte i / 8, counted from the lowest.

-- how many bytes so many places need
abbrev pub row_width : ℕ → ℕ
row_width places = div_ceil places 8

-- byte k of a row: the number whose bits are the eight places from 8 * k on, the lowest first
abbrev pub row_byte : List Bool → ℕ → ℕ
row_byte row k = mask_l (take 8 (drop (8 * k) row))

-- the bytes of a row
unfoldable pub packed : List Bool → List ℕ
packed row = map (row_byte row) (range_with_len 0 (row_width (length row)))

-- the first places of bytes
unfoldable pub unpacked : ℕ → List ℕ → List Bool
unpacked places bytes = map (λ i. bit_at (slice_index bytes (i / 8)) (i % 8) == 1) (range_with_len 0 places)

-- no bit past the places is set in bytes of their width
unfoldable pub is_clear_past : ℕ → List ℕ → Bool
is_clear_past places bytes = nat_lt (slice_index bytes (places / 8)) (2 ^ (places % 8))

-- a row of so many places, in runs
unfoldable pub row_bits : {F : Type 0} → F → F → ℕ → Layout F (List Bool)
row_bits end form places =
    seen_as (unpacked places) packed (λ row. length row == places) (tested (is_clear_past places) form (λ _ at. at) (in_runs end form (row_width places)))

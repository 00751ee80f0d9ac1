-- A file that is cut in a field is too short.
use Rattle.std.proofs.Common.{◌≡◌, ◌≤◌, ℕ, ◌+◌, Bool, cond, ltb, List, ◌++◌, length, take, drop, sym, ap, ◌∙◌, arith, inl, inr}
use Rattle.std.specs.Int.{Width, byte_len, to_le_bytes, from_le_bytes, cast_signed, cast_unsigned}
use Rattle.std.proofs.lemmas.Bool.{cases_lt, lt-ltb, le-ltb}
use Rattle.std.proofs.lemmas.List.{length-append, length-drop, take-append-le, drop-append-le}
use Rattle.qm_formats.specs.Layout.{Decoded, got, bad}
use Rattle.qm_formats.specs.Fields.{raw, unsigned, signed, fixed_before, unwritten}
use Rattle.qm_formats.proofs.Cuttable.{IsReadOrShort, IsCuttable, seen_as_cuttable, tested_cuttable}

-- bytes of a part of a file that the cut leaves
kept_part : (front behind : List ℕ) (at count : ℕ) → at + count ≤ length front → take count (drop at (front ++ behind)) ≡ take count (drop at front)
kept_part front behind at count fits =
    ap (take count) (drop-append-le at front behind (omega (arith, fits))) ∙ take-append-le count (drop at front) behind (omega (arith, fits, length-drop at front))

module _ {F : Type 0} (short : F) (count : ℕ) where
  -- so many bytes of a file, or that it is too short
  abbrev read_raw : List ℕ → ℕ → Bool → Decoded F (List ℕ)
  read_raw file at ends = cond ends (bad short (length file)) (got (take count (drop at file)) (at + count))

  cut_raw : (front behind : List ℕ) (at : ℕ) (x : List ℕ) (next : ℕ) → read_raw (front ++ behind) at (ltb (length (front ++ behind)) (at + count)) ≡ got x next → IsReadOrShort short front x next (read_raw front at (ltb (length front) (at + count)))
  cut_raw front behind at x next is =
      elim (cases_lt (length front) (at + count)) [
        | inl less ↦ inr (ap (read_raw front at) (lt-ltb (length front) (at + count) less))
        | inr fits ↦
            let whole = sym (ap (read_raw (front ++ behind) at) (le-ltb (length (front ++ behind)) (at + count) (omega (arith, fits, length-append front behind)))) ∙ is in
            let value : take count (drop at (front ++ behind)) ≡ x = cc in
            let place : at + count ≡ next = cc in
            let same = sym (kept_part front behind at count fits) ∙ value in
            inl (ap (read_raw front at) (le-ltb (length front) (at + count) fits) ∙ ap (λ (v : List ℕ). got v (at + count)) same ∙ ap (got x) place, omega (arith, fits, place))
      ]

  pub raw_cuttable : IsCuttable short (raw short count)
  unfolding raw
  raw_cuttable = record { cut = λ front behind at x next within is. cut_raw front behind at x next is }

module _ {F : Type 0} (short : F) where
  pub unsigned_cuttable : (width : Width) → IsCuttable short (unsigned short width)
  unfolding unsigned
  unsigned_cuttable width = seen_as_cuttable short (from_le_bytes width) (to_le_bytes width) _ (raw short (byte_len width)) (raw_cuttable short (byte_len width))

  pub signed_cuttable : (width : Width) → IsCuttable short (signed short width)
  unfolding signed
  signed_cuttable width = seen_as_cuttable short (cast_signed width) (cast_unsigned width) _ (unsigned short width) (unsigned_cuttable width)

  pub fixed_before_cuttable : (other : F) (bytes : List ℕ) (test : ℕ → Bool) → IsCuttable short (fixed_before short other bytes test)
  unfolding fixed_before
  fixed_before_cuttable other bytes test = seen_as_cuttable short _ _ _ _ (tested_cuttable short _ other _ (raw short (length bytes + 1)) (raw_cuttable short (length bytes + 1)))

  pub unwritten_cuttable : (value : ℕ) → IsCuttable short (unwritten value)
  unfolding unwritten
  unwritten_cuttable value = record { cut = λ front behind at x next within is. inl (is, let place : at ≡ next = cc in omega (arith, within, place)) }

-- Rows of bits in runs are read exactly.
use Rattle.std.proofs.Common.{◌≡◌, ◌≤◌, ℕ, zero, suc, ◌+◌, true, false, eqb, ltb, ◌&&◌, List, [], ◌∷◌, ◌++◌, length, take, drop, get_or, replicate, Result, Ok, Err, refl, sym, ap, subst, ◌∙◌, arith}
use Rattle.std.proofs.lemmas.Bool.{and_parts, and_from, lt-ltb, eq-eqb, eqb-true}
use Rattle.std.proofs.lemmas.List.{length-drop, get_or-drop}
use Rattle.qm_formats.specs.Fields.{AreBytes, are_bytes}
use Rattle.qm_formats.specs.Layout.{got}
use Rattle.qm_formats.specs.Exact.{StandsAt, IsRightAt, IsExact}
use Rattle.qm_lists.specs.Spelling.{SpellsRow, RunFaultKind, short, zero_count, split_run, overrun, runs_of}
use Rattle.qm_formats.specs.Runs.{read_runs, row_answer, in_runs}
use Rattle.qm_formats.specs.RowBits.{row_width, packed, unpacked, is_clear_past, row_bits}
use Rattle.qm_formats.specs.FileParts.{row_form}
use Rattle.qm_formats.specs.FileParts as parts
use Rattle.qm_formats.specs.FileLayout.{own_row_layout}
use Rattle.qm_lists.proofs.Spellings.{spells_runs_of, runs_of-spelt}
use Rattle.qm_formats.proofs.ReadRows.{read_runs_found, read_runs_again}
use Rattle.qm_formats.proofs.ExactParts.{seen_as_exact, tested_exact}
use Rattle.qm_formats.proofs.ExactFields.{are_bytes-from, bytes-are, bytes_of_part, part_stands}
use Rattle.qm_formats.proofs.PackedRows.{length-packed, packed-bytes, packed-clear, length-unpacked, unpacked-packed, packed-unpacked}

zeros_are_bytes : (n : ℕ) (row : List ℕ) → are_bytes row ≡ true → are_bytes (replicate n zero ++ row) ≡ true
zeros_are_bytes zero row are = are
zeros_are_bytes (suc n) row are = zeros_are_bytes n row are

-- what bytes spell are bytes
spelt_bytes : (bytes row : List ℕ) → AreBytes bytes → SpellsRow bytes row → are_bytes row ≡ true
spelt_bytes [] row are h = ap are_bytes h
spelt_bytes (suc byte ∷ bytes) row are h =
    ap are_bytes h.1 ∙ and_from (ltb (suc byte) 256) (are_bytes h.0) (lt-ltb (suc byte) 256 (are 0)) (spelt_bytes bytes h.0 (λ i. are (suc i)) h.2)
spelt_bytes (zero ∷ []) row are h = absurd h
spelt_bytes (zero ∷ count ∷ bytes) row are h = ap are_bytes h.1 ∙ zeros_are_bytes count h.0 (spelt_bytes bytes h.0 (λ i. are (suc (suc i))) h.5)

pub row_answer_got : {F : Type 0} (end form : F) (file : List ℕ) (at : ℕ) (read : Result (List ℕ × ℕ) RunFaultKind) (x : List ℕ) (next : ℕ) → row_answer end form file at read ≡ got x next → (v : List ℕ × ℕ) × (read ≡ Ok v) × (v.0 ≡ x) × (at + v.1 ≡ next)
row_answer_got end form file at (Ok v) x next is = (v, refl, cc, cc)
row_answer_got end form file at (Err short) x next is = absurd (cc)
row_answer_got end form file at (Err zero_count) x next is = absurd (cc)
row_answer_got end form file at (Err split_run) x next is = absurd (cc)
row_answer_got end form file at (Err overrun) x next is = absurd (cc)

module _ {F : Type 0} (end form : F) (width : ℕ) where
  found_runs : (file : List ℕ) (at : ℕ) (x : List ℕ) (next : ℕ) → AreBytes file → at ≤ length file → row_answer end form file at (read_runs width (drop at file)) ≡ got x next → IsRightAt (in_runs end form width) file at x next
  unfolding in_runs
  found_runs file at x next are within is =
      let value = row_answer_got end form file at (read_runs width (drop at file)) x next is in
      let bytes : AreBytes (drop at file) = λ i. rw (get_or-drop at file i 0) (are (at + i)) in
      let read = read_runs_found width (drop at file) value.0 bytes value.1 in
      let row = value.0.0 in
      let used = value.0.1 in
      let part : AreBytes (take used (drop at file)) = bytes_of_part file at used are in
      let spelt = runs_of-spelt (take used (drop at file)) row read.spelt in
      let stands = part_stands file at used (omega (arith, read.within, length-drop at file, within)) in
      let found : IsRightAt (in_runs end form width) file at row (at + used) = record {
        right = and_from (eqb (length row) width) (are_bytes row) (eq-eqb (length row) width read.width) (spelt_bytes (take used (drop at file)) row part read.spelt);
        stands = subst (λ (xs : List ℕ). StandsAt file at xs (at + used)) spelt stands;
      } in
      subst (λ (n : ℕ). IsRightAt (in_runs end form width) file at x n) value.3 (subst (λ (v : List ℕ). IsRightAt (in_runs end form width) file at v (at + used)) value.2 found)

  again_runs : (file : List ℕ) (at : ℕ) (x : List ℕ) (next : ℕ) → IsRightAt (in_runs end form width) file at x next → row_answer end form file at (read_runs width (drop at file)) ≡ got x next
  unfolding in_runs
  again_runs file at x next found =
      let long = eqb-true (length x) width (and_parts (eqb (length x) width) (are_bytes x) found.right).0 in
      let read = ap (read_runs width) found.stands.stands ∙ read_runs_again (runs_of x) x (drop next file) width (spells_runs_of x) long in
      ap (row_answer end form file at) read ∙ ap (got x) (sym found.stands.ends)

  pub in_runs_exact : IsExact (in_runs end form width)
  unfolding in_runs
  in_runs_exact = record { found = found_runs; again = again_runs }

module _ {F : Type 0} (end form : F) (places : ℕ) where
  pub row_bits_exact : IsExact (row_bits end form places)
  unfolding row_bits in_runs
  row_bits_exact =
      let bytes = in_runs end form (row_width places) in
      seen_as_exact (unpacked places) packed (λ row. eqb (length row) places) _ (tested_exact (is_clear_past places) form (λ _ at. at) bytes (in_runs_exact end form (row_width places))) (λ row right.
      let both = and_parts (eqb (length row) (row_width places) && are_bytes row) (is_clear_past places row) right in
      let first = and_parts (eqb (length row) (row_width places)) (are_bytes row) both.0 in
      (packed-unpacked places row (eqb-true (length row) (row_width places) first.0) (bytes-are row first.1) both.1, eq-eqb (length (unpacked places row)) places (length-unpacked places row))) (λ row right.
      let long = eqb-true (length row) places right in
      let wide : length (packed row) ≡ row_width places = length-packed row ∙ ap row_width long in (
        ap (λ (n : ℕ). unpacked n (packed row)) (sym long) ∙ unpacked-packed row,
        and_from (eqb (length (packed row)) (row_width places) && are_bytes (packed row)) (is_clear_past places (packed row)) (and_from (eqb (length (packed row)) (row_width places)) (are_bytes (packed row)) (eq-eqb (length (packed row)) (row_width places) wide) (are_bytes-from (packed row) (packed-bytes row))) (subst (λ (n : ℕ). is_clear_past n (packed row) ≡ true) long (packed-clear row)),
      ))

pub own_row_exact : (places k : ℕ) → IsExact (own_row_layout places k)
unfolding own_row_layout
own_row_exact places k = tested_exact (λ row. get_or row k false) row_form (λ _ at. at) (row_bits parts.short row_form places) (row_bits_exact parts.short row_form places)

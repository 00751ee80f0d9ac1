-- A file that is cut in a row is too short.
use Rattle.std.proofs.Common.{◌≡◌, ◌≤◌, ◌⊎◌, ℕ, zero, suc, ◌+◌, ◌-◌, Bool, true, false, cond, ltb, List, [], ◌∷◌, ◌++◌, length, drop, replicate, Result, Ok, Err, refl, sym, ap, subst, ◌∙◌, arith, inl, inr}
use Rattle.std.proofs.lemmas.Bool.{le-ltb}
use Rattle.std.proofs.lemmas.List.{length-drop, drop-append-le}
use Rattle.qm_formats.specs.Layout.{got}
use Rattle.qm_lists.specs.Spelling.{RunFaultKind, short, overrun}
use Rattle.qm_lists.specs.inner.ReadRuns.{read_behind, read_due}
use Rattle.qm_lists.proofs.FirstFaults.{row_or_fault}
use Rattle.qm_formats.specs.Runs.{row_read, read_runs, row_answer, in_runs}
use Rattle.qm_formats.specs.RowBits.{row_width, row_bits}
use Rattle.qm_formats.specs.FileParts.{row_form}
use Rattle.qm_formats.specs.FileParts as parts
use Rattle.qm_formats.specs.FileLayout.{own_row_layout}
use Rattle.qm_lists.proofs.ReadRuns.{read_behind_ok, not_overrun}
use Rattle.qm_formats.proofs.ExactRows.{row_answer_got}
use Rattle.qm_formats.proofs.Cuttable.{IsCuttable, seen_as_cuttable, tested_cuttable}

-- what is read of bytes that are cut, where a row is read of all: the same within them, or that they are too short
abbrev IsRowOrShort : List ℕ → List ℕ × ℕ → Result (List ℕ × ℕ) RunFaultKind → Type 0
IsRowOrShort bytes v read = ((read ≡ Ok v) × (v.1 ≤ length bytes)) ⊎ (read ≡ Err short)

-- the same with some bytes in front
cut_behind : (row : List ℕ) (n : ℕ) (bytes : List ℕ) (v w : List ℕ × ℕ) (read : Result (List ℕ × ℕ) RunFaultKind) (all : List ℕ) → IsRowOrShort bytes w read → read_behind row n (Ok w) ≡ Ok v → length all ≡ n + length bytes → IsRowOrShort all v (read_behind row n read)
cut_behind row n bytes v w read all of_read is long =
    let whole : (row ++ w.0, n + w.1) ≡ v = cc in
    let used = ap (λ (u : List ℕ × ℕ). u.1) whole in
    elim of_read [
      | inl fits ↦ inl (ap (read_behind row n) fits.0 ∙ is, omega (arith, used, long, fits.1))
      | inr ends ↦ inr (ap (read_behind row n) ends)
    ]

cut_due : (due : ℕ) (behind_run : Bool) (bytes rest : List ℕ) (v : List ℕ × ℕ) → read_due due behind_run (bytes ++ rest) ≡ Ok v → IsRowOrShort bytes v (read_due due behind_run bytes)
cut_due zero behind_run bytes rest v is =
    let nothing : ([], 0) ≡ v = cc in
    let used = ap (λ (u : List ℕ × ℕ). u.1) nothing in
    inl (is, omega (arith, used))
cut_due (suc due) behind_run [] rest v is = inr refl
cut_due (suc due) behind_run (suc byte ∷ bytes) rest v is =
    let read = read_behind_ok (suc byte ∷ []) 1 (read_due due false (bytes ++ rest)) v is in
    let same = sym (ap (read_behind (suc byte ∷ []) 1) read.1) ∙ is in
    cut_behind (suc byte ∷ []) 1 bytes v read.0 (read_due due false bytes) (suc byte ∷ bytes) (cut_due due false bytes rest read.0 read.1) same (omega arith)
cut_due (suc due) true (zero ∷ bytes) rest v is = absurd (cc)
cut_due (suc due) false (zero ∷ []) rest v is = inr refl
cut_due (suc due) false (zero ∷ zero ∷ bytes) rest v is = absurd (cc)
cut_due (suc due) false (zero ∷ suc count ∷ bytes) rest v is =
    let run = replicate (suc count) zero in
    let others = read_due (due - count) (ltb (suc count) 255) in
    let fits = not_overrun due count (read_behind run 2 (others (bytes ++ rest))) v is in
    let read = read_behind_ok run 2 (others (bytes ++ rest)) v fits.1 in
    let same = sym (ap (read_behind run 2) read.1) ∙ fits.1 in
    let within = sym (ap (λ (b : Bool). cond b (Err overrun) (read_behind run 2 (others bytes))) (le-ltb due count fits.0)) in
    subst (IsRowOrShort (zero ∷ suc count ∷ bytes) v) within (
    cut_behind run 2 bytes v read.0 (others bytes) (zero ∷ suc count ∷ bytes) (cut_due (due - count) (ltb (suc count) 255) bytes rest read.0 read.1) same (omega arith))

cut_runs : (width : ℕ) (bytes rest : List ℕ) (v : List ℕ × ℕ) → read_runs width (bytes ++ rest) ≡ Ok v → IsRowOrShort bytes v (read_runs width bytes)
unfolding read_runs row_read row_or_fault
cut_runs width bytes rest v is = cut_due width false bytes rest v is

module _ {F : Type 0} (end form : F) where
  pub in_runs_cuttable : (width : ℕ) → IsCuttable end (in_runs end form width)
  unfolding in_runs
  in_runs_cuttable width =
      record {
        cut = λ front behind at x next within is.
            let value = row_answer_got end form (front ++ behind) at (read_runs width (drop at (front ++ behind))) x next is in
            let read = sym (ap (read_runs width) (drop-append-le at front behind within)) ∙ value.1 in
            let place = value.3 in
            elim (cut_runs width (drop at front) behind value.0 read) [
              | inl fits ↦ inl (ap (row_answer end form front at) fits.0 ∙ ap (λ (row : List ℕ). got row (at + value.0.1)) value.2 ∙ ap (got x) place, omega (arith, fits.1, length-drop at front, within, place))
              | inr ends ↦ inr (ap (row_answer end form front at) ends)
            ];
      }

  pub row_bits_cuttable : (places : ℕ) → IsCuttable end (row_bits end form places)
  unfolding row_bits
  row_bits_cuttable places = seen_as_cuttable end _ _ _ _ (tested_cuttable end _ form _ (in_runs end form (row_width places)) (in_runs_cuttable (row_width places)))

pub own_row_cuttable : (places k : ℕ) → IsCuttable parts.short (own_row_layout places k)
unfolding own_row_layout
own_row_cuttable places k = tested_cuttable parts.short _ row_form _ (row_bits parts.short row_form places) (row_bits_cuttable parts.short row_form places)

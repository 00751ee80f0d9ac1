-- A row is read, run by run, exactly where its spelling stands.
use Rattle.std.proofs.Common.{◌≡◌, ◌<◌, ◌≤◌, ℕ, zero, suc, ◌+◌, ◌-◌, Bool, true, false, cond, ltb, List, [], ◌∷◌, ◌++◌, length, take, replicate, Result, Ok, Err, refl, sym, ap, subst, ◌∙◌, arith, inl, inr}
use Rattle.std.proofs.lemmas.Bool.{cases_lt, lt-ltb, le-ltb, ltb-true}
use Rattle.std.proofs.lemmas.List.{length-append, length-replicate}
use Rattle.std.specs.Prelude.{slice_index}
use Rattle.qm_lists.specs.Spelling.{BeginsNonzero, SpellsRow, RunFaultKind, overrun}
use Rattle.qm_lists.specs.inner.ReadRuns.{read_behind, read_due}
use Rattle.qm_lists.proofs.Spellings.{one_spelling}

abbrev pub AreBelow256 : List ℕ → Type 0
AreBelow256 bytes = (i : ℕ) → slice_index bytes i < 256

-- a row of that width is spelt by the first bytes
pub record IsReadDue (due : ℕ) (behind_run : Bool) (bytes row : List ℕ) (used : ℕ) : Type 0 where
  pub within : used ≤ length bytes
  pub spelt : SpellsRow (take used bytes) row
  pub width : length row ≡ due
  pub begins : behind_run ≡ true → BeginsNonzero row

pub read_behind_ok : (front : List ℕ) (n : ℕ) (read : Result (List ℕ × ℕ) RunFaultKind) (x : List ℕ × ℕ) → read_behind front n read ≡ Ok x → (behind : List ℕ × ℕ) × (read ≡ Ok behind) × (x.0 ≡ front ++ behind.0) × (x.1 ≡ n + behind.1)
read_behind_ok front n (Ok behind) x h =
    let same : (front ++ behind.0, n + behind.1) ≡ x = cc in
    (behind, refl, sym (ap (λ (v : List ℕ × ℕ). v.0) same), sym (ap (λ (v : List ℕ × ℕ). v.1) same))
read_behind_ok front n (Err fault) x h = absurd (cc)

tail_bytes : (byte : ℕ) (bytes : List ℕ) → AreBelow256 (byte ∷ bytes) → AreBelow256 bytes
tail_bytes byte bytes are = λ i. are (suc i)

-- a test that failed
pub not_overrun : (due count : ℕ) (read : Result (List ℕ × ℕ) RunFaultKind) (x : List ℕ × ℕ) → cond (ltb due count) (Err overrun) read ≡ Ok x → (count ≤ due) × (read ≡ Ok x)
not_overrun due count read x h =
    elim (cases_lt due count) [
      | inl less ↦ absurd (let e : Err overrun ≡ Ok x = sym (ap (λ (b : Bool). cond b (Err overrun) read) (lt-ltb due count less)) ∙ h in cc)
      | inr more ↦ (more, sym (ap (λ (b : Bool). cond b (Err overrun) read) (le-ltb due count more)) ∙ h)
    ]

pub read_due_found : (due : ℕ) (behind_run : Bool) (bytes : List ℕ) (x : List ℕ × ℕ) → AreBelow256 bytes → read_due due behind_run bytes ≡ Ok x → IsReadDue due behind_run bytes x.0 x.1
read_due_found zero behind_run bytes x are h =
    let same : ([], 0) ≡ x = cc in
    subst (λ (v : List ℕ × ℕ). IsReadDue zero behind_run bytes v.0 v.1) same (record { within = omega arith; spelt = refl; width = refl; begins = λ _. tt })
read_due_found (suc due) behind_run [] x are h = absurd (cc)
read_due_found (suc due) behind_run (suc byte ∷ bytes) x are h =
    let read = read_behind_ok (suc byte ∷ []) 1 (read_due due false bytes) x h in
    let behind = read_due_found due false bytes read.0 (tail_bytes (suc byte) bytes are) read.1 in
    let one : x.1 ≡ suc read.0.1 = omega (arith, read.3) in
    record {
      within = omega (arith, one, behind.within);
      spelt = subst (λ (n : ℕ). SpellsRow (take n (suc byte ∷ bytes)) x.0) (sym one) (read.0.0, read.2, behind.spelt);
      width = ap length read.2 ∙ ap (λ (n : ℕ). suc n) behind.width;
      begins = λ _. subst BeginsNonzero (sym read.2) tt;
    }
read_due_found (suc due) true (zero ∷ bytes) x are h = absurd (cc)
read_due_found (suc due) false (zero ∷ []) x are h = absurd (cc)
read_due_found (suc due) false (zero ∷ zero ∷ bytes) x are h = absurd (cc)
read_due_found (suc due) false (zero ∷ suc count ∷ bytes) x are h =
    let fits = not_overrun due count (read_behind (replicate (suc count) zero) 2 (read_due (due - count) (ltb (suc count) 255) bytes)) x h in
    let read = read_behind_ok (replicate (suc count) zero) 2 (read_due (due - count) (ltb (suc count) 255) bytes) x fits.1 in
    let behind = read_due_found (due - count) (ltb (suc count) 255) bytes read.0 (λ i. are (suc (suc i))) read.1 in
    let two : x.1 ≡ suc (suc read.0.1) = omega (arith, read.3) in
    let small : suc count < 256 = are 1 in
    record {
      within = omega (arith, two, behind.within);
      spelt = subst (λ (n : ℕ). SpellsRow (take n (zero ∷ suc count ∷ bytes)) x.0) (sym two) (read.0.0, read.2, omega arith, omega (arith, small), λ less. behind.begins (lt-ltb (suc count) 255 less), behind.spelt);
      width = ap length read.2 ∙ length-append (replicate (suc count) zero) read.0.0 ∙ omega (arith, length-replicate (suc count) zero, behind.width, fits.0);
      begins = λ no. absurd (cc no);
    }

read_due_row : (bytes row rest : List ℕ) (width : ℕ) (behind_run : Bool) → SpellsRow bytes row → length row ≡ width → (behind_run ≡ true → BeginsNonzero row) → read_due width behind_run (bytes ++ rest) ≡ Ok (row, length bytes)
read_due_row [] row rest zero behind_run h long begins = ap (λ (xs : List ℕ). Ok (xs, 0)) (sym h)
read_due_row [] row rest (suc width) behind_run h long begins = absurd (omega (arith, long, ap length h))
read_due_row (suc byte ∷ bytes) row rest zero behind_run h long begins = absurd (omega (arith, long, ap length h.1))
read_due_row (suc byte ∷ bytes) row rest (suc width) behind_run h long begins =
    let behind = read_due_row bytes h.0 rest width false h.2 (omega (arith, long, ap length h.1)) (λ no. absurd (cc no)) in
    ap (read_behind (suc byte ∷ []) 1) behind ∙ ap (λ (v : List ℕ × ℕ). Ok v) (ap (λ (xs : List ℕ). (xs, 1 + length bytes)) (sym h.1) ∙ ap (λ (n : ℕ). (row, n)) (omega arith))
read_due_row (zero ∷ []) row rest width behind_run h long begins = absurd h
read_due_row (zero ∷ zero ∷ bytes) row rest width behind_run h long begins = absurd (omega (arith, h.2))
read_due_row (zero ∷ suc count ∷ bytes) row rest zero behind_run h long begins = absurd (omega (arith, long, ap length h.1))
read_due_row (zero ∷ suc count ∷ bytes) row rest (suc width) true h long begins = absurd (subst BeginsNonzero h.1 (begins refl))
read_due_row (zero ∷ suc count ∷ bytes) row rest (suc width) false h long begins =
    let length_is : suc width ≡ suc count + length h.0 = sym long ∙ ap length h.1 ∙ length-append (replicate (suc count) zero) h.0 ∙ ap (λ (n : ℕ). n + length h.0) (length-replicate (suc count) zero) in
    let fits : ltb width count ≡ false = le-ltb width count (omega (arith, length_is)) in
    let due : length h.0 ≡ width - count = omega (arith, length_is) in
    let behind = read_due_row bytes h.0 rest (width - count) (ltb (suc count) 255) h.5 due (λ yes. h.4 (ltb-true (suc count) 255 yes)) in
    let run = replicate (suc count) zero in
    ap (λ (b : Bool). cond b (Err overrun) (read_behind run 2 (read_due (width - count) (ltb (suc count) 255) (bytes ++ rest)))) fits
    ∙ ap (read_behind run 2) behind
    ∙ ap (λ (v : List ℕ × ℕ). Ok v) (ap (λ (xs : List ℕ). (xs, 2 + length bytes)) (sym h.1) ∙ ap (λ (n : ℕ). (row, n)) (omega arith))

pub read_runs_again : (bytes row rest : List ℕ) (width : ℕ) → SpellsRow bytes row → length row ≡ width → read_due width false (bytes ++ rest) ≡ Ok (row, length bytes)
read_runs_again bytes row rest width h long = read_due_row bytes row rest width false h long (λ no. absurd (cc no))

pub read_runs_found : (width : ℕ) (bytes : List ℕ) (x : List ℕ × ℕ) → AreBelow256 bytes → read_due width false bytes ≡ Ok x → IsReadDue width false bytes x.0 x.1
read_runs_found width bytes x are h = read_due_found width false bytes x are h

-- no spelling of a row begins that of another row of the same width
pub no_prefix : (a b x y row other : List ℕ) → SpellsRow a row → SpellsRow b other → length row ≡ length other → a ++ x ≡ b ++ y → (a ≡ b) × (row ≡ other)
no_prefix a b x y row other of_a of_b long same =
    let read_a = read_runs_again a row x (length row) of_a refl in
    let read_b = read_runs_again b other y (length row) of_b (sym long) in
    let read = sym read_a ∙ ap (read_due (length row) false) same ∙ read_b in
    let both : (row, length a) ≡ (other, length b) = cc read in
    let rows = ap (λ (v : List ℕ × ℕ). v.0) both in
    (one_spelling a b row of_a (subst (SpellsRow b) (sym rows) of_b), rows)

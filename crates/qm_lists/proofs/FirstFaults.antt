-- A fault of reading a row tells the first byte that no spelling allows.
use Rattle.std.proofs.Common.{◌≡◌, ◌<◌, ◌≤◌, ℕ, zero, suc, ◌-◌, Bool, true, false, cond, ltb, List, [], ◌∷◌, ◌++◌, length, replicate, Result, Ok, Err, refl, sym, ap, subst, ◌∙◌, append_assoc, arith, inl, inr}
use Rattle.std.proofs.lemmas.Bool.{cases_lt, lt-ltb, le-ltb}
use Rattle.std.proofs.lemmas.List.{append-nil, length-append, length-replicate}
use Rattle.qm_lists.specs.Spelling.{BeginsNonzero, SpellsRow, RunFaultKind, short, zero_count, split_run, overrun}
use Rattle.qm_lists.specs.inner.ReadRuns.{read_behind, read_due}
use Rattle.qm_lists.specs.RowRead.{IsRowReadOfBytes}
use Rattle.qm_lists.specs.FirstWrong.{BeginsSpelling, IsWrongAs, IsFirstWrong, EndTooEarly, IsFaultOf}
use Rattle.qm_lists.proofs.ReadRuns.{AreBelow256, read_runs_again, read_runs_found}

-- a row of so many bytes goes on with these, where a run that could be longer may stand before
record GoesOn (due : ℕ) (behind_run : Bool) (front : List ℕ) : Type 0 where
  more : List ℕ
  row : List ℕ
  long : length row ≡ due
  begins : behind_run ≡ true → BeginsNonzero row
  spelt : SpellsRow (front ++ more) row

-- where the first wrong byte stands, and that what stands behind it does not matter
record WrongDue (due : ℕ) (behind_run : Bool) (bytes : List ℕ) (fault : RunFaultKind) : Type 0 where
  whole : List ℕ
  row : List ℕ
  begun : List ℕ
  byte : ℕ
  behind : List ℕ
  spelt : SpellsRow whole row
  less : length row < due
  begins : behind_run ≡ true → BeginsNonzero row
  wrong : IsWrongAs fault begun byte
  stands : bytes ≡ (whole ++ begun) ++ byte ∷ behind
  goes_on : GoesOn due behind_run (whole ++ begun)
  anyway : (rest : List ℕ) → read_due due behind_run ((whole ++ begun) ++ byte ∷ rest) ≡ Err fault

abbrev FaultDue : ℕ → Bool → List ℕ → RunFaultKind → Type 0
FaultDue due behind_run bytes short = GoesOn due behind_run bytes
FaultDue due behind_run bytes zero_count = WrongDue due behind_run bytes zero_count
FaultDue due behind_run bytes split_run = WrongDue due behind_run bytes split_run
FaultDue due behind_run bytes overrun = WrongDue due behind_run bytes overrun

ones_spelt : (n : ℕ) → SpellsRow (replicate n 1) (replicate n 1)
ones_spelt zero = refl
ones_spelt (suc n) = (replicate n 1, refl, ones_spelt n)

ones_begin : (n : ℕ) → BeginsNonzero (replicate n 1)
ones_begin zero = tt
ones_begin (suc n) = tt

-- every row can go on, and with a zero where no run stands before
goes_on_anyhow : (due : ℕ) (behind_run : Bool) → GoesOn due behind_run []
goes_on_anyhow due behind_run = record { more = replicate due 1; row = replicate due 1; long = length-replicate due 1; begins = λ _. ones_begin due; spelt = ones_spelt due }

goes_on_zero : (due : ℕ) → GoesOn (suc due) false (zero ∷ [])
goes_on_zero due =
    record {
      more = 1 ∷ replicate due 1;
      row = zero ∷ replicate due 1;
      long = ap (λ (n : ℕ). suc n) (length-replicate due 1);
      begins = λ no. absurd (cc no);
      spelt = (replicate due 1, refl, omega arith, omega arith, λ _. ones_begin due, ones_spelt due);
    }

-- ---- one part more in front

goes_on_byte : (due byte : ℕ) (behind_run : Bool) (front : List ℕ) → GoesOn due false front → GoesOn (suc due) behind_run (suc byte ∷ front)
goes_on_byte due byte behind_run front on =
    record { more = on.more; row = suc byte ∷ on.row; long = ap (λ (n : ℕ). suc n) on.long; begins = λ _. tt; spelt = (on.row, refl, on.spelt) }

goes_on_run : (due count : ℕ) (front : List ℕ) → count ≤ due → suc count ≤ 255 → GoesOn (due - count) (ltb (suc count) 255) front → GoesOn (suc due) false (zero ∷ suc count ∷ front)
goes_on_run due count front fits small on =
    record {
      more = on.more;
      row = replicate (suc count) zero ++ on.row;
      long = length-append (replicate (suc count) zero) on.row ∙ omega (arith, length-replicate (suc count) zero, on.long, fits);
      begins = λ no. absurd (cc no);
      spelt = (on.row, refl, omega arith, small, λ less. on.begins (lt-ltb (suc count) 255 less), on.spelt);
    }

wrong_byte : (due byte : ℕ) (behind_run : Bool) (bytes : List ℕ) (fault : RunFaultKind) → WrongDue due false bytes fault → WrongDue (suc due) behind_run (suc byte ∷ bytes) fault
wrong_byte due byte behind_run bytes fault w =
    record {
      whole = suc byte ∷ w.whole;
      row = suc byte ∷ w.row;
      begun = w.begun;
      byte = w.byte;
      behind = w.behind;
      spelt = (w.row, refl, w.spelt);
      less = omega (arith, w.less);
      begins = λ _. tt;
      wrong = w.wrong;
      stands = ap (λ (xs : List ℕ). suc byte ∷ xs) w.stands;
      goes_on = goes_on_byte due byte behind_run (w.whole ++ w.begun) w.goes_on;
      anyway = λ rest. ap (read_behind (suc byte ∷ []) 1) (w.anyway rest);
    }

run_read : (due count : ℕ) (bytes : List ℕ) → count ≤ due → read_due (suc due) false (zero ∷ suc count ∷ bytes) ≡ read_behind (replicate (suc count) zero) 2 (read_due (due - count) (ltb (suc count) 255) bytes)
run_read due count bytes fits =
    ap (λ (b : Bool). cond b (Err overrun) (read_behind (replicate (suc count) zero) 2 (read_due (due - count) (ltb (suc count) 255) bytes))) (le-ltb due count fits)

wrong_run : (due count : ℕ) (bytes : List ℕ) (fault : RunFaultKind) → count ≤ due → suc count ≤ 255 → WrongDue (due - count) (ltb (suc count) 255) bytes fault → WrongDue (suc due) false (zero ∷ suc count ∷ bytes) fault
wrong_run due count bytes fault fits small w =
    record {
      whole = zero ∷ suc count ∷ w.whole;
      row = replicate (suc count) zero ++ w.row;
      begun = w.begun;
      byte = w.byte;
      behind = w.behind;
      spelt = (w.row, refl, omega arith, small, λ less. w.begins (lt-ltb (suc count) 255 less), w.spelt);
      less = omega (arith, length-append (replicate (suc count) zero) w.row, length-replicate (suc count) zero, w.less, fits);
      begins = λ no. absurd (cc no);
      wrong = w.wrong;
      stands = ap (λ (xs : List ℕ). zero ∷ suc count ∷ xs) w.stands;
      goes_on = goes_on_run due count (w.whole ++ w.begun) fits small w.goes_on;
      anyway = λ rest. run_read due count ((w.whole ++ w.begun) ++ w.byte ∷ rest) fits ∙ ap (read_behind (replicate (suc count) zero) 2) (w.anyway rest);
    }

fault_byte : (due byte : ℕ) (behind_run : Bool) (bytes : List ℕ) (fault : RunFaultKind) → FaultDue due false bytes fault → FaultDue (suc due) behind_run (suc byte ∷ bytes) fault
fault_byte due byte behind_run bytes short on = goes_on_byte due byte behind_run bytes on
fault_byte due byte behind_run bytes zero_count w = wrong_byte due byte behind_run bytes zero_count w
fault_byte due byte behind_run bytes split_run w = wrong_byte due byte behind_run bytes split_run w
fault_byte due byte behind_run bytes overrun w = wrong_byte due byte behind_run bytes overrun w

fault_run : (due count : ℕ) (bytes : List ℕ) (fault : RunFaultKind) → count ≤ due → suc count ≤ 255 → FaultDue (due - count) (ltb (suc count) 255) bytes fault → FaultDue (suc due) false (zero ∷ suc count ∷ bytes) fault
fault_run due count bytes short fits small on = goes_on_run due count bytes fits small on
fault_run due count bytes zero_count fits small w = wrong_run due count bytes zero_count fits small w
fault_run due count bytes split_run fits small w = wrong_run due count bytes split_run fits small w
fault_run due count bytes overrun fits small w = wrong_run due count bytes overrun fits small w

-- ---- the first fault

behind_fault : (front : List ℕ) (n : ℕ) (read : Result (List ℕ × ℕ) RunFaultKind) (fault : RunFaultKind) → read_behind front n read ≡ Err fault → read ≡ Err fault
behind_fault front n (Ok read) fault is = absurd (cc)
behind_fault front n (Err other) fault is = is

abbrev failed : RunFaultKind → Result (List ℕ × ℕ) RunFaultKind
failed fault = Err fault

same_fault : (due : ℕ) (behind_run : Bool) (bytes : List ℕ) (fault other : RunFaultKind) → failed fault ≡ failed other → FaultDue due behind_run bytes fault → FaultDue due behind_run bytes other
same_fault due behind_run bytes fault other is found = let same : fault ≡ other = cc in subst (FaultDue due behind_run bytes) same found

fault_due : (due : ℕ) (behind_run : Bool) (bytes : List ℕ) (fault : RunFaultKind) → AreBelow256 bytes → read_due due behind_run bytes ≡ Err fault → FaultDue due behind_run bytes fault
fault_due zero behind_run bytes fault are is = absurd (cc)
fault_due (suc due) behind_run [] fault are is = same_fault (suc due) behind_run [] short fault is (goes_on_anyhow (suc due) behind_run)
fault_due (suc due) behind_run (suc byte ∷ bytes) fault are is =
    fault_byte due byte behind_run bytes fault (fault_due due false bytes fault (λ i. are (suc i)) (behind_fault (suc byte ∷ []) 1 (read_due due false bytes) fault is))
fault_due (suc due) true (zero ∷ bytes) fault are is =
    same_fault (suc due) true (zero ∷ bytes) split_run fault is (record { whole = []; row = []; begun = []; byte = 0; behind = bytes; spelt = refl; less = omega arith; begins = λ _. tt; wrong = (refl, refl); stands = refl; goes_on = goes_on_anyhow (suc due) true; anyway = λ rest. refl })
fault_due (suc due) false (zero ∷ []) fault are is = same_fault (suc due) false (zero ∷ []) short fault is (goes_on_zero due)
fault_due (suc due) false (zero ∷ zero ∷ bytes) fault are is =
    same_fault (suc due) false (zero ∷ zero ∷ bytes) zero_count fault is (record { whole = []; row = []; begun = zero ∷ []; byte = 0; behind = bytes; spelt = refl; less = omega arith; begins = λ _. tt; wrong = (refl, refl); stands = refl; goes_on = goes_on_zero due; anyway = λ rest. refl })
fault_due (suc due) false (zero ∷ suc count ∷ bytes) fault are is =
    elim (cases_lt due count) [
      | inl less ↦
          let run = λ (rest : List ℕ). read_behind (replicate (suc count) zero) 2 (read_due (due - count) (ltb (suc count) 255) rest) in
          let long = λ (rest : List ℕ). ap (λ (b : Bool). cond b (Err overrun) (run rest)) (lt-ltb due count less) in
          same_fault (suc due) false (zero ∷ suc count ∷ bytes) overrun fault (sym (long bytes) ∙ is) (
          record { whole = []; row = []; begun = zero ∷ []; byte = suc count; behind = bytes; spelt = refl; less = omega arith; begins = λ _. tt; wrong = (refl, omega arith); stands = refl; goes_on = goes_on_zero due; anyway = long }
          )
      | inr fits ↦
          let read = behind_fault (replicate (suc count) zero) 2 (read_due (due - count) (ltb (suc count) 255) bytes) fault (sym (run_read due count bytes fits) ∙ is) in
          let small : suc count < 256 = are 1 in
          fault_run due count bytes fault fits (omega (arith, small)) (fault_due (due - count) (ltb (suc count) 255) bytes fault (λ i. are (suc (suc i))) read)
    ]

begins_with : (width : ℕ) (front : List ℕ) → GoesOn width false front → BeginsSpelling width front
begins_with width front on = (on.more, on.row, on.long, on.spelt)

read_again : (width : ℕ) (spelling row : List ℕ) → SpellsRow spelling row → length row ≡ width → read_due width false spelling ≡ Ok (row, length spelling)
read_again width spelling row spells long = ap (read_due width false) (sym (append-nil spelling)) ∙ read_runs_again spelling row [] width spells long

first_wrong : (width : ℕ) (bytes : List ℕ) (fault : RunFaultKind) → WrongDue width false bytes fault → IsFirstWrong width bytes fault
first_wrong width bytes fault w =
    record {
      whole = w.whole;
      row = w.row;
      begun = w.begun;
      byte = w.byte;
      behind = w.behind;
      spelt = w.spelt;
      due = w.less;
      wrong = w.wrong;
      stands = w.stands;
      begins = begins_with width (w.whole ++ w.begun) w.goes_on;
      no_more = λ begun.
          let front = w.whole ++ w.begun in
          let read = read_again width ((front ++ w.byte ∷ []) ++ begun.0) begun.1 begun.3 begun.2 in
          let regrouped : (front ++ w.byte ∷ []) ++ begun.0 ≡ front ++ w.byte ∷ begun.0 = append_assoc front (w.byte ∷ []) begun.0 in
          absurd (let e = sym (w.anyway begun.0) ∙ sym (ap (read_due width false) regrouped) ∙ read in cc);
    }

too_early : (width : ℕ) (bytes : List ℕ) → read_due width false bytes ≡ Err short → GoesOn width false bytes → EndTooEarly width bytes
too_early width bytes is on =
    record {
      begins = begins_with width bytes on;
      no_front = λ spelling row behind long spells stand.
          absurd (let e = sym is ∙ ap (read_due width false) stand ∙ read_runs_again spelling row behind width spells long in cc);
    }

pub first_fault : (width : ℕ) (bytes : List ℕ) (fault : RunFaultKind) → AreBelow256 bytes → read_due width false bytes ≡ Err fault → IsFaultOf width bytes fault
first_fault width bytes short are is = too_early width bytes is (fault_due width false bytes short are is)
first_fault width bytes zero_count are is = first_wrong width bytes zero_count (fault_due width false bytes zero_count are is)
first_fault width bytes split_run are is = first_wrong width bytes split_run (fault_due width false bytes split_run are is)
first_fault width bytes overrun are is = first_wrong width bytes overrun (fault_due width false bytes overrun are is)

-- reading run by run answers as a row in these bytes is to be answered
pub read_row_is : (width : ℕ) (bytes : List ℕ) (answer : Result (List ℕ × ℕ) RunFaultKind) → read_due width false bytes ≡ answer → IsRowReadOfBytes width bytes answer
read_row_is width bytes (Ok read) is = λ are. let found = read_runs_found width bytes read are is in (found.width, found.within, found.spelt)
read_row_is width bytes (Err fault) is = λ are. first_fault width bytes fault are is

-- so there is an answer
unfoldable pub row_or_fault : (width : ℕ) (bytes : List ℕ) → (answer : Result (List ℕ × ℕ) RunFaultKind) × IsRowReadOfBytes width bytes answer
row_or_fault width bytes = (read_due width false bytes, read_row_is width bytes (read_due width false bytes) refl)

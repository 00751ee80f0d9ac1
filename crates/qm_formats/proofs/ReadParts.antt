-- What is read of a row, by what its bytes begin with.
use Rattle.std.proofs.Common.{◌≡◌, ◌≢◌, ◌<◌, ◌≤◌, ℕ, zero, suc, ◌-◌, Bool, false, cond, ltb, List, [], ◌∷◌, length, drop, get_or, replicate, Result, Ok, Err, refl, sym, ap, ◌∙◌, arith}
use Rattle.std.proofs.lemmas.Bool.{le-ltb}
use Rattle.qm_lists.specs.Spelling.{RunFaultKind, overrun}
use Rattle.qm_lists.specs.inner.ReadRuns.{read_behind, read_due}
use Rattle.qm_lists.proofs.FirstFaults.{row_or_fault}
use Rattle.qm_formats.specs.Runs.{row_read, read_runs}

pub run_first : (due : ℕ) (bytes : List ℕ) → 0 < due → 1 < length bytes → get_or bytes 0 0 ≡ 0 → get_or bytes 1 0 ≢ 0 → get_or bytes 1 0 ≤ due → read_due due false bytes ≡ read_behind (replicate (get_or bytes 1 0) zero) 2 (read_due (due - get_or bytes 1 0) (ltb (get_or bytes 1 0) 255) (drop 2 bytes))
run_first zero bytes some there first second fits = absurd (omega arith)
run_first (suc due) [] some there first second fits = absurd (omega (arith, there))
run_first (suc due) (suc x ∷ bytes) some there first second fits = absurd (omega (arith, first))
run_first (suc due) (zero ∷ []) some there first second fits = absurd (omega (arith, there))
run_first (suc due) (zero ∷ zero ∷ bytes) some there first second fits = absurd (second refl)
run_first (suc due) (zero ∷ suc x ∷ bytes) some there first second fits =
    let run = replicate (suc x) zero in
    let same : due - x ≡ suc due - suc x = omega arith in
    ap (λ (b : Bool). cond b (Err overrun) (read_behind run 2 (read_due (due - x) (ltb (suc x) 255) bytes))) (le-ltb due x (omega (arith, fits)))
    ∙ ap (λ (left : ℕ). read_behind run 2 (read_due left (ltb (suc x) 255) bytes)) same

pub read_behind-nothing : (read : Result (List ℕ × ℕ) RunFaultKind) → read_behind [] 0 read ≡ read
read_behind-nothing (Ok read) = ap (λ (k : ℕ). Ok (read.0, k)) (omega arith)
read_behind-nothing (Err fault) = refl

pub read_runs-due : (width : ℕ) (bytes : List ℕ) → read_runs width bytes ≡ read_behind [] 0 (read_due (width - 0) false bytes)
unfolding read_runs row_read row_or_fault
read_runs-due width bytes =
    let whole : width ≡ width - 0 = omega arith in
    ap (λ (due : ℕ). read_due due false bytes) whole ∙ sym (read_behind-nothing (read_due (width - 0) false bytes))

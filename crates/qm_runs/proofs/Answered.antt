-- What an answer says of the bytes, where it is the one that reading gives.
use Rattle.std.proofs.Common.{◌≡◌, ◌≤◌, ℕ, List, ◌++◌, length, take, Result, Ok, Err, refl, sym, ap, ◌∙◌}
use Rattle.std.specs.Prelude.{IfOk, MatchResult}
use Rattle.qm_formats.specs.Fields.{AreBytes}
use Rattle.qm_lists.specs.Spelling.{SpellsRow}
use Rattle.qm_formats.specs.Runs.{read_runs}
use Rattle.qm_formats.proofs.ReadRows.{read_runs_again, read_runs_found}
use Rattle.qm_runs.specs.Answers.{IsRunFault}
use Rattle.qm_runs.specs.declared.run_fault.RunFault.{RunFault}
use Rattle.qm_runs.specs.declared.run_fault.RunFault.TheVariants as faults

module _ {X : Type 0} (row_of : X → List ℕ) (used : X → ℕ) (width : ℕ) (bytes : List ℕ) where
  abbrev pub IsAnswer : Result X RunFault → Type 0
  IsAnswer answer = MatchResult answer (λ read. read_runs width bytes ≡ Ok (row_of read, used read)) (λ fault. IsRunFault fault (read_runs width bytes))

  pub answer_found : (answer : Result X RunFault) → AreBytes bytes → IsAnswer answer → IfOk answer (λ read. (used read ≤ length bytes) × (length (row_of read) ≡ width) × SpellsRow (take (used read) bytes) (row_of read))
  answer_found (Ok read) are is =
      let found = read_runs_found width bytes (row_of read, used read) are is in
      (found.within, found.width, found.spelt)
  answer_found (Err fault) are is = tt

  -- a fault but want of memory is none where a row is read
  no_fault : (fault : RunFault) (read : List ℕ × ℕ) → read_runs width bytes ≡ Ok read → IsRunFault fault (read_runs width bytes) → fault ≡ faults.Memory
  no_fault faults.Short read is fault = absurd (let e = sym is ∙ fault in cc)
  no_fault faults.ZeroCount read is fault = absurd (let e = sym is ∙ fault in cc)
  no_fault faults.SplitRun read is fault = absurd (let e = sym is ∙ fault in cc)
  no_fault faults.Overrun read is fault = absurd (let e = sym is ∙ fault in cc)
  no_fault faults.Memory read is fault = refl

  pub answer_only : (answer : Result X RunFault) → IsAnswer answer → (spelling row rest : List ℕ) → SpellsRow spelling row → length row ≡ width → bytes ≡ spelling ++ rest → MatchResult answer (λ read. (row_of read ≡ row) × (used read ≡ length spelling)) (λ fault. fault ≡ faults.Memory)
  answer_only (Ok read) is spelling row rest spells long stand =
      let again = ap (read_runs width) stand ∙ read_runs_again spelling row rest width spells long in
      let both : (row_of read, used read) ≡ (row, length spelling) = let e = sym is ∙ again in cc in
      (ap (λ (v : List ℕ × ℕ). v.0) both, ap (λ (v : List ℕ × ℕ). v.1) both)
  answer_only (Err fault) is spelling row rest spells long stand =
      no_fault fault (row, length spelling) (ap (read_runs width) stand ∙ read_runs_again spelling row rest width spells long) is

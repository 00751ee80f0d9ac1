-- What is read of a row whose bytes begin with some that are not zero.
use Rattle.std.proofs.Common.{◌≡◌, ◌≢◌, ◌<◌, ◌≤◌, ℕ, zero, suc, ◌-◌, Bool, false, List, [], ◌∷◌, ◌++◌, length, take, drop, get_or, Result, Ok, Err, refl, sym, ap, ◌∙◌, arith}
use Rattle.qm_lists.specs.Spelling.{RunFaultKind}
use Rattle.qm_lists.specs.inner.ReadRuns.{read_behind, read_due}
use Rattle.qm_formats.proofs.ReadParts.{read_behind-nothing}

-- a byte in front of what is read behind others
byte_before : (byte : ℕ) (front : List ℕ) (used : ℕ) (read : Result (List ℕ × ℕ) RunFaultKind) → read_behind (byte ∷ []) 1 (read_behind front used read) ≡ read_behind (byte ∷ front) (suc used) read
byte_before byte front used (Ok read) = ap (λ (k : ℕ). Ok (byte ∷ (front ++ read.0), k)) (omega arith)
byte_before byte front used (Err fault) = refl

-- bytes that are not zero, as many as are due at most
pub record AreNonzero (due count : ℕ) (bytes : List ℕ) : Type 0 where
  pub few : count ≤ due
  pub there : count ≤ length bytes
  pub nonzero : (k : ℕ) → k < count → get_or bytes k 0 ≢ 0

pub nonzero_first : (count due : ℕ) (bytes : List ℕ) → AreNonzero due count bytes → read_due due false bytes ≡ read_behind (take count bytes) count (read_due (due - count) false (drop count bytes))
nonzero_first zero due bytes are =
    let whole : due ≡ due - 0 = omega arith in
    sym (read_behind-nothing (read_due due false bytes)) ∙ ap (λ (n : ℕ). read_behind [] 0 (read_due n false bytes)) whole
nonzero_first (suc count) zero bytes are = absurd (omega (arith, are.few))
nonzero_first (suc count) (suc due) [] are = absurd (omega (arith, are.there))
nonzero_first (suc count) (suc due) (zero ∷ bytes) are = absurd (are.nonzero 0 (omega arith) refl)
nonzero_first (suc count) (suc due) (suc byte ∷ bytes) are =
    let rest : AreNonzero due count bytes = record { few = omega (arith, are.few); there = omega (arith, are.there); nonzero = λ k less. are.nonzero (suc k) (omega (arith, less)) } in
    let left : due - count ≡ suc due - suc count = omega arith in
    ap (read_behind (suc byte ∷ []) 1) (nonzero_first count due bytes rest)
    ∙ byte_before (suc byte) (take count bytes) count (read_due (due - count) false (drop count bytes))
    ∙ ap (λ (n : ℕ). read_behind (suc byte ∷ take count bytes) (suc count) (read_due n false (drop count bytes))) left

-- a byte that is not zero may stand behind any run
pub behind_any : (due : ℕ) (behind_run : Bool) (bytes : List ℕ) → 0 < due → get_or bytes 0 0 ≢ 0 → read_due due behind_run bytes ≡ read_due due false bytes
behind_any zero behind_run bytes some first = absurd (omega (arith, some))
behind_any (suc due) behind_run [] some first = absurd (first refl)
behind_any (suc due) behind_run (zero ∷ bytes) some first = absurd (first refl)
behind_any (suc due) behind_run (suc byte ∷ bytes) some first = refl

-- where the first byte is not zero, the longest part of such bytes has one
pub some_nonzero : (count due : ℕ) (bytes : List ℕ) → 0 < due → get_or bytes 0 0 ≢ 0 → (count < due → count < length bytes → get_or bytes count 0 ≡ 0) → 0 < count
some_nonzero zero due [] some first longest = absurd (first refl)
some_nonzero zero due (byte ∷ bytes) some first longest = absurd (first (longest some (omega arith)))
some_nonzero (suc count) due bytes some first longest = omega arith

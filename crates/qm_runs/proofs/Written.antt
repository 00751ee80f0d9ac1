-- Writing a row part by part.
use Rattle.std.proofs.Common.{◌≡◌, ℕ, List, [], ◌++◌, refl, sym, ap, ◌∙◌, append_assoc}
use Rattle.std.proofs.lemmas.List.{append-nil}
use Rattle.qm_lists.specs.Spelling.{runs_of}

-- what is written stands behind what was there, and the spelling of the rest completes it
pub record IsWritten (old out row rest : List ℕ) : Type 0 where
  pub whole : out ++ runs_of rest ≡ old ++ runs_of row
  pub behind : (more : List ℕ) × (out ≡ old ++ more)

pub written_nothing : (old row : List ℕ) → IsWritten old old row row
written_nothing old row = record { whole = refl; behind = ([], sym (append-nil old)) }

pub written_part : (old out part row rest left : List ℕ) → runs_of rest ≡ part ++ runs_of left → IsWritten old out row rest → IsWritten old (out ++ part) row left
written_part old out part row rest left is written =
    record {
      whole = append_assoc out part (runs_of left) ∙ ap (λ (xs : List ℕ). out ++ xs) (sym is) ∙ written.whole;
      behind = (written.behind.0 ++ part, ap (λ (xs : List ℕ). xs ++ part) written.behind.1 ∙ append_assoc old written.behind.0 part);
    }

pub written_all : (old out row rest : List ℕ) → runs_of rest ≡ [] → IsWritten old out row rest → out ≡ old ++ runs_of row
written_all old out row rest none written = sym (append-nil out) ∙ ap (λ (xs : List ℕ). out ++ xs) (sym none) ∙ written.whole

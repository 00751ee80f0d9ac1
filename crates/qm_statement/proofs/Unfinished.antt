-- A file that is written after others were read.
use Rattle.std.proofs.Common.{◌≡◌, ◌⊎◌, ℕ, List, ◌∙◌, sym, subst, inl, inr}
use Rattle.std.specs.Prelude.{IsTrue}
use Rattle.qm_surroundings.specs.ShelfState.{ShelfState}
use Rattle.qm_surroundings.specs.ShelfChanges.{IsKept, IsKeptElsewhere}
use Rattle.qm_surroundings.specs.WholeFiles.{HoldsExactly, HoldsTheSame, HoldsUnfinished}
use Rattle.qm_statement.specs.Unfinished.{HoldsPart, IsUnfinished, IsWrittenAlone}

module _ (before after : ShelfState) (name : List ℕ) (IsDue : List ℕ → Type 0) where
  -- nothing was written
  pub kept_unfinished : IsKept before after → IsUnfinished before after name IsDue
  kept_unfinished kept = record { others = λ other apart. kept other; part = λ tells. inl (kept name) }

  part_of : (bytes : List ℕ) → IsDue bytes → HoldsUnfinished before after name bytes → HoldsTheSame before after name ⊎ HoldsPart after name IsDue
  part_of bytes due (inl same) = inl same
  part_of bytes due (inr part) = inr (bytes, due, part)

  -- what was written of bytes that are due
  pub unfinished_of : (bytes : List ℕ) → IsDue bytes → IsKeptElsewhere before after name → (IsTrue before.tells → HoldsUnfinished before after name bytes) → IsUnfinished before after name IsDue
  unfinished_of bytes due kept part = record { others = kept; part = λ tells. part_of bytes due (part tells) }

-- nothing was changed before
module _ (before between after : ShelfState) (name bytes : List ℕ) (tells_are : between.tells ≡ before.tells) (kept : IsKept before between) (kept_then : IsKeptElsewhere between after name) where
  kept_since : IsKeptElsewhere before after name
  kept_since other apart = kept_then other apart ∙ kept other

  then_tells : IsTrue before.tells → IsTrue between.tells
  then_tells tells = subst IsTrue (sym tells_are) tells

  since : HoldsUnfinished between after name bytes → HoldsUnfinished before after name bytes
  since (inl same) = inl (same ∙ kept name)
  since (inr part) = inr part

  pub written_since : (IsTrue between.tells → HoldsExactly after name bytes) → IsWrittenAlone before after name bytes
  written_since holds = record { others = kept_since; holds = λ tells. holds (then_tells tells) }

  pub unfinished_since : (IsDue : List ℕ → Type 0) → IsDue bytes → (IsTrue between.tells → HoldsUnfinished between after name bytes) → IsUnfinished before after name IsDue
  unfinished_since IsDue due part = unfinished_of before after name IsDue bytes due kept_since (λ tells. since (part (then_tells tells)))

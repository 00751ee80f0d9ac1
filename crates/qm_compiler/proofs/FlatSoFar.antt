-- Counting the flat ones of more and more solids.
use Rattle.std.proofs.Common.{◌≡◌, ℕ, ◌+◌, ◌<◌, ◌≤◌, true, false, List, length, take, [], ap}
use Rattle.std.specs.Prelude.{not}
use Rattle.std.proofs.lemmas.List.{take_all}
use Rattle.std.proofs.lemmas.List.Sums.{count_by_more_yes, count_by_more_no}
use Rattle.qm_contents.specs.declared.contents.Contents.TheVariants.{Empty}
use Rattle.qm_solids.specs.InBook.{BookSolid, solid_at}
use Rattle.qm_compiler.specs.inner.FlatCount.{flat_count}

module _ (solids : List BookSolid) (i : ℕ) (within : i < length solids) where
  abbrev nothing : BookSolid
  nothing = record { contents = Empty; full = false; faces = [] }

  -- one that is full adds nothing
  pub flat_count-full : (solid_at solids i).full ≡ true → flat_count (take (i + 1) solids) ≡ flat_count (take i solids)
  flat_count-full full = count_by_more_no (λ s. not s.full) solids i nothing within (ap not full)

  -- one that is flat adds one
  pub flat_count-flat : (solid_at solids i).full ≡ false → flat_count (take (i + 1) solids) ≡ flat_count (take i solids) + 1
  flat_count-flat flat = count_by_more_yes (λ s. not s.full) solids i nothing within (ap not flat)

pub flat_count-all : (solids : List BookSolid) (i : ℕ) → length solids ≤ i → flat_count (take i solids) ≡ flat_count solids
flat_count-all solids i all = ap flat_count (take_all i solids all)

use Rattle.std.specs.Prelude.{◌≡◌, ℕ, List, ◌∷◌, ◌++◌, Contains}
use Rattle.qm_space.specs.Point.{Point}
use Rattle.qm_space.specs.Line.{IsBetween}
use Rattle.qm_partition.specs.Tree.{Tree}
use Rattle.qm_contacts.specs.Portals.{Portal}
use Rattle.qm_segments.specs.Segment.{Segment}
use Rattle.qm_segments.specs.LeafNumber.{IsNumberOf}
use Rattle.qm_segments.specs.Passes.{Passes}
use Rattle.qm_segments.specs.Sight.{IsInSight}

-- the leaf of number k is ahead over leaves with a property: some segment that shows it from the portal p has met the state, is
-- in the leaf of number n from there on, and each leaf that it enters after that one has the property
pub record IsAheadOver {State : Type 0} (meets : Segment → Point → State → Type 0) (tree : Tree) (p : Portal) (state : State) (n : ℕ) (Has : ℕ → Type 0) (k : ℕ) : Type 0 where
  pub sight : IsInSight tree p k
  pub at : Point
  pub between : IsBetween at sight.segment.from sight.segment.to
  pub met : meets sight.segment at state
  pub before : List ℕ
  pub here : ℕ
  pub rest : List ℕ
  pub leaves_are : sight.entered ∷ sight.rest ≡ before ++ here ∷ rest
  pub passes : Passes tree at sight.segment.to (here ∷ rest)
  pub here_is : IsNumberOf tree n here
  pub each_has : (m j : ℕ) → Contains rest j → IsNumberOf tree m j → Has m

-- it is ahead: such a segment enters none of the leaves met before any more
abbrev pub IsAhead : {State : Type 0} → (Segment → Point → State → Type 0) → Tree → Portal → State → ℕ → List ℕ → ℕ → Type 0
IsAhead meets tree p state n met_before k = IsAheadOver meets tree p state n (λ m. Contains met_before m → ⊥) k

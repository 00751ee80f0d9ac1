-- The leaves of a model can be written: they ascend below the count of numbered leaves.
use Rattle.std.proofs.Common.{◌≡◌, ◌<◌, ◌≤◌, ℕ, suc, ◌+◌, ◌^◌, List, [], ◌∷◌, All, length, get_or, subst, arith}
use Rattle.std.specs.List.Sorted.{IsStrictlyIncreasing}
use Rattle.std.proofs.lemmas.List.Elements.{All-head, All-tail, Contains-get_or}
use Rattle.std.proofs.lemmas.Option.{slice_get_within}
use Rattle.qm_solids.specs.Solid.{Solid}
use Rattle.qm_partition.specs.Tree.{Tree}
use Rattle.qm_contacts.specs.NumberedLeaves.{numbered_leaves}
use Rattle.qm_outlines.specs.ModelLeaves.{AreModelLeaves}
use Rattle.qm_model_layout.specs.BrushModel.{AscendFrom}

-- the rest of an increasing list
rest_increases : (n : ℕ) (rest : List ℕ) → IsStrictlyIncreasing (n ∷ rest) → IsStrictlyIncreasing rest
rest_increases n rest increases k within =
    let next : suc k + 1 ≡ suc (k + 1) = omega arith in
    subst (λ (i : ℕ). get_or rest k 0 < get_or (n ∷ rest) i 0) next (increases (suc k) (omega (arith, within)))

-- each is at least the number from which they ascend
ascend_below : (least limit : ℕ) (leaves : List ℕ) → limit < 2 ^ 64 → (0 < length leaves → least ≤ get_or leaves 0 0) → IsStrictlyIncreasing leaves → All (λ n. n < limit) leaves → AscendFrom least limit leaves
ascend_below least limit [] few low increases below = tt
ascend_below least limit (n ∷ rest) few low increases below =
    let its = All-head (λ n. n < limit) n rest below in (
      low (omega arith),
      its,
      omega (arith, few, its),
      ascend_below (n + 1) limit rest few (λ some. omega (arith, increases 0 (omega (arith, some)))) (rest_increases n rest increases) (All-tail (λ n. n < limit) n rest below),
    )

pub no_more : (least limit : ℕ) (leaves : List ℕ) → least ≤ limit → AscendFrom least limit leaves → length leaves + least ≤ limit
no_more least limit [] below ascend = omega (arith, below)
no_more least limit (n ∷ rest) below ascend = omega (arith, ascend.0, no_more (n + 1) limit rest (omega (arith, ascend.1)) ascend.3)

module _ (tree : Tree) (solids : List Solid) (leaves : List ℕ) (few : length (numbered_leaves tree) < 2 ^ 64) (are : AreModelLeaves tree solids leaves) where
  each_numbered : All (λ n. n < length (numbered_leaves tree)) leaves
  each_numbered k d within =
      let its = (are.are (get_or leaves k d)).0 (Contains-get_or leaves k d within) in
      slice_get_within (numbered_leaves tree) (get_or leaves k d) its.leaf its.number

  pub leaves_ascend : AscendFrom 0 (length (numbered_leaves tree)) leaves
  leaves_ascend = ascend_below 0 (length (numbered_leaves tree)) leaves few (λ some. omega arith) are.ascending each_numbered

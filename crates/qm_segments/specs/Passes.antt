use Rattle.std.specs.Prelude.{◌≡◌, ◌≢◌, ℕ, List, [], ◌∷◌, Some, slice_get}
use Rattle.qm_space.specs.Point.{Point}
use Rattle.qm_space.specs.Line.{IsBetween}
use Rattle.qm_space.specs.Cell.{IsInCell}
use Rattle.qm_partition.specs.Tree.{Tree}
use Rattle.qm_partition.specs.Ways.{Way, ways, cell_of_way}

-- The leaves through which one goes from one point to another, by their places in the tree.

-- all points between p and q are in the leaf k
pub record IsWithinLeaf (tree : Tree) (p q : Point) (k : ℕ) : Type 0 where
  pub way : Way
  pub way_is : slice_get (ways tree.shape) k ≡ Some way
  pub inside : (x : Point) → IsBetween x p q → IsInCell (cell_of_way tree.planes way) x

-- these leaves in order: within the first one up to some point between, from there through the others
pub data Passes (tree : Tree) : Point → Point → List ℕ → Type 0 where
  within : {p q : Point} {k : ℕ} → IsWithinLeaf tree p q k → Passes tree p q (k ∷ [])
  onward : {p m q : Point} {k n : ℕ} {rest : List ℕ} →
      IsBetween m p q → IsWithinLeaf tree p m k → k ≢ n → Passes tree m q (n ∷ rest) →
      Passes tree p q (k ∷ n ∷ rest)

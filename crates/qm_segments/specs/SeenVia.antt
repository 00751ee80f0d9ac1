use Rattle.std.specs.Prelude.{◌≡◌, ℕ, List, ◌∷◌, ◌++◌, Contains}
use Rattle.qm_partition.specs.Tree.{Tree}
use Rattle.qm_contacts.specs.Portals.{Portal}
use Rattle.qm_segments.specs.LeafNumber.{IsNumberOf}
use Rattle.qm_segments.specs.Sight.{IsInSight}

-- some segment that shows the leaf of number n from the portal p passes, later on, from the leaf that the portal q leaves
-- into the one that q enters
pub record IsSeenVia (tree : Tree) (p q : Portal) (n : ℕ) : Type 0 where
  pub sight : IsInSight tree p n
  pub before : List ℕ
  pub left : ℕ
  pub entered : ℕ
  pub after : List ℕ
  pub leaves_are : sight.entered ∷ sight.rest ≡ before ++ left ∷ entered ∷ after
  pub left_is : IsNumberOf tree q.from left
  pub entered_is : IsNumberOf tree q.to entered

-- the leaf of number m lies on that way: the segment enters it as it passes q, or after that
pub record LiesOnWay (tree : Tree) {p q : Portal} {n : ℕ} (via : IsSeenVia tree p q n) (m : ℕ) : Type 0 where
  pub place : ℕ
  pub entered : Contains (via.entered ∷ via.after) place
  pub number_is : IsNumberOf tree m place

-- it lies farther on than the leaf that q enters, and has a property
pub record LiesFartherOn (tree : Tree) {p q : Portal} {n : ℕ} (via : IsSeenVia tree p q n) (Has : ℕ → Type 0) (m : ℕ) : Type 0 where
  pub other : q.to ≡ m → ⊥
  pub on_way : LiesOnWay tree via m
  pub has : Has m

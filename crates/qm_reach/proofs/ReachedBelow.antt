-- What a cell reaches below a node: in front of the node's plane what its half there reaches, and behind it the other.
use Rattle.std.proofs.Common.{◌≡◌, ℕ, Bool, List, [], ◌∷◌, ◌++◌, map, sym, subst}
use Rattle.std.proofs.lemmas.List.{append_assoc, append-nil}
use Rattle.qm_space.specs.Plane.{Plane}
use Rattle.qm_space.specs.Turned.{turned}
use Rattle.qm_space.specs.Cell.{HasPoint}
use Rattle.qm_space.specs.Book.{plane_at}
use Rattle.qm_partition.specs.declared.node.Leaf.{Leaf}
use Rattle.qm_partition.specs.Partition.{leaf}
use Rattle.qm_partition.specs.Ways.{Way, after_step, cell_of_way}
use Rattle.qm_contacts.specs.Meeting.{LeafBelow, seen_from, leaves_below}
use Rattle.qm_facets.specs.Body.{with_plane}
use Rattle.qm_facets.proofs.MorePlanes.{none_of_more}
use Rattle.qm_reach.specs.ReachedLeaves.{AreReached, no_leaves, reached, missed}

module _ (planes cell : List Plane) where
  pub reached_append : (first second : List LeafBelow) (found others : List ℕ) → AreReached planes cell first found → AreReached planes cell second others → AreReached planes cell (first ++ second) (found ++ others)
  reached_append first second found others no_leaves more = more
  reached_append first second found others (reached is have) more = reached is (reached_append _ second _ others have more)
  reached_append first second found others (missed never have) more = missed never (reached_append _ second _ others have more)

  -- a cell with a point reaches the leaf to which it came
  pub reached_at_leaf : (found : Leaf) (k : ℕ) → HasPoint cell → AreReached planes cell (leaves_below (leaf found) k) (k ∷ [])
  reached_at_leaf found k some = reached (subst HasPoint (sym (append-nil cell)) some) no_leaves

  module _ (n : ℕ) (side : Bool) where
    abbrev h : Plane
    h = turned side (plane_at planes n)

    one_step : (way : Way) → with_plane cell h ++ cell_of_way planes way ≡ cell ++ cell_of_way planes (after_step n side way)
    one_step way = append_assoc cell (h ∷ []) (cell_of_way planes way)

    -- what the half on a side reaches, the cell reaches
    pub reached_through : (leaves : List LeafBelow) (found : List ℕ) → AreReached planes (with_plane cell h) leaves found → AreReached planes cell (map (seen_from n side) leaves) found
    reached_through leaves found no_leaves = no_leaves
    reached_through leaves found (reached {below = below} is have) = reached (subst HasPoint (one_step below.way) is) (reached_through _ _ have)
    reached_through leaves found (missed {below = below} never have) = missed (λ is. never (subst HasPoint (sym (one_step below.way)) is)) (reached_through _ _ have)

    -- and where it has no half there, it reaches nothing
    pub none_reached : (leaves : List LeafBelow) → (HasPoint (with_plane cell h) → ⊥) → AreReached planes cell (map (seen_from n side) leaves) []
    none_reached [] never = no_leaves
    none_reached (below ∷ leaves) never = missed (λ is. none_of_more cell (cell_of_way planes below.way) h never is) (none_reached leaves never)

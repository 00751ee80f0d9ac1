-- How a walk is written: what completes it before a visit completes it after the visit.
use Rattle.std.proofs.Common.{◌≡◌, ℕ, List, [], ◌∷◌, ◌++◌, sym, ap, ◌∙◌, subst}
use Rattle.std.specs.Prelude.{flat_map}
use Rattle.std.proofs.lemmas.List.{append_assoc, append-nil}
use Rattle.qm_partition.specs.declared.visit.Visit.{Visit}
use Rattle.qm_partition.specs.declared.visit.Visit.TheVariants.{Node}
use Rattle.qm_partition.specs.Partition.{Partition, node}
use Rattle.qm_partition.specs.Visits.{visits}
use Rattle.qm_build.specs.inner.Waiting.{IsWalk, Completes}

-- a walk is its own
same_walk : (Has : Partition → Type 0) (walk walk' : List Visit) → walk ≡ walk' → IsWalk Has walk → IsWalk Has walk'
same_walk Has walk walk' same is = subst (λ (w : List Visit). IsWalk Has w) same is

module _ {Cell : Type 0} (Has : Cell → Partition → Type 0) (root : Cell) where
  -- nothing is written, and the root waits
  pub completes_first : Completes Has root (root ∷ []) []
  completes_first [] has = absurd has
  completes_first (shape ∷ []) has = record { shape = shape; has = has.0; visits_are = sym (append-nil (visits shape)) }
  completes_first (shape ∷ other ∷ shapes) has = absurd has.1

  -- nothing waits
  pub completes_last : (walk : List Visit) → Completes Has root [] walk → IsWalk (Has root) walk
  completes_last walk completes = same_walk (Has root) (walk ++ []) walk (append-nil walk) (completes [] tt)

  -- the whole walk of the next cell is written
  pub completes_whole : (cell : Cell) (waiting : List Cell) (walk whole : List Visit) → IsWalk (Has cell) whole → Completes Has root (cell ∷ waiting) walk → Completes Has root waiting (walk ++ whole)
  completes_whole cell waiting walk whole is completes = λ shapes has.
      same_walk (Has root) _ _
      (ap (λ (vs : List Visit). walk ++ (vs ++ flat_map visits shapes)) is.visits_are ∙ sym (append_assoc walk whole (flat_map visits shapes)))
      (completes (is.shape ∷ shapes) (is.has, has))

  module _ (cell front back : Cell) (n : ℕ) (is : (s t : Partition) → Has front s → Has back t → Has cell (node n s t)) (waiting : List Cell) (walk : List Visit) (completes : Completes Has root (cell ∷ waiting) walk) where
    node_walk : (s t : Partition) (rest : List Visit) → walk ++ ((Node n ∷ (visits s ++ visits t)) ++ rest) ≡ (walk ++ Node n ∷ []) ++ (visits s ++ (visits t ++ rest))
    node_walk s t rest = simp append_assoc

    -- the next cell is a node
    pub completes_node : Completes Has root (front ∷ back ∷ waiting) (walk ++ Node n ∷ [])
    completes_node [] has = absurd has
    completes_node (s ∷ []) has = absurd has.1
    completes_node (s ∷ t ∷ shapes) has =
        same_walk (Has root) _ _ (node_walk s t (flat_map visits shapes)) (completes (node n s t ∷ shapes) (is s t has.0 has.1.0, has.1.1))

-- The whole walks of a leaf, and of a node by those of its sides.
use Rattle.std.proofs.Common.{◌≡◌, ℕ, List, [], ◌∷◌, ◌++◌, refl, sym, ap, ◌∙◌, subst}
use Rattle.std.proofs.lemmas.List.{append_assoc}
use Rattle.qm_space.specs.Plane.{Plane}
use Rattle.qm_solids.specs.Solid.{Solid}
use Rattle.qm_partition.specs.declared.node.Leaf.{Leaf as LeafRecord}
use Rattle.qm_partition.specs.declared.visit.Visit.{Visit}
use Rattle.qm_partition.specs.declared.visit.Visit.TheVariants.{Node, Leaf}
use Rattle.qm_partition.specs.Partition.{Partition, leaf, node}
use Rattle.qm_partition.specs.Visits.{visits}
use Rattle.qm_solid_tree.specs.Division.{Divides, undivided, divided, front_of, back_of}
use Rattle.qm_split.specs.declared.fragments.Fragments.{Fragments}
use Rattle.qm_split.specs.declared.fragments.CellHalves.{CellHalves}
use Rattle.qm_split.specs.CellFragments.{AreFragmentsOf, cell_of_fragments}
use Rattle.qm_build.specs.inner.UnderWay.{AreFragments}
use Rattle.qm_build.specs.inner.Waiting.{IsWalk}
use Rattle.qm_build.specs.inner.WalkedCells.{IsWalkOf, AreBothWalked}
use Rattle.qm_build.specs.inner.Tops.{AreSidesOf, IsTopOf}
use Rattle.qm_build.specs.inner.Visited.{IsVisited, is_walked}
use Rattle.qm_build.specs.declared.top.Top.{Top}
use Rattle.qm_build.specs.declared.top.Top.TheVariants.{Leaf as TopLeaf, Node as TopNode}

module _ (solids : List Solid) (book : List Plane) where
  -- fragments of a cell are those of the cell that they name
  pub named : (cell : List Plane) (fragments : Fragments) → AreFragmentsOf solids book cell fragments → AreFragments solids book fragments
  named cell fragments are = subst (λ (c : List Plane). AreFragmentsOf solids book c fragments) (sym are.cell_is) are

  module _ (fragments : Fragments) where
    -- a walk of the cell that they name is one of their cell
    pub whole_walk : (cell : List Plane) → AreFragmentsOf solids book cell fragments → (walk : List Visit) → IsWalkOf solids book fragments walk → IsWalk (Divides solids book cell) walk
    whole_walk cell are walk is = subst (λ (c : List Plane). IsWalk (Divides solids book c) walk) are.cell_is is

    -- what is on its sides are fragments
    pub front_are : {n : ℕ} {halves : CellHalves} → AreSidesOf solids book fragments n halves → AreFragments solids book halves.front
    front_are {halves = halves} sides = named (front_of (cell_of_fragments fragments) sides.plane) halves.front sides.in_front

    pub back_are : {n : ℕ} {halves : CellHalves} → AreSidesOf solids book fragments n halves → AreFragments solids book halves.back
    back_are {halves = halves} sides = named (back_of (cell_of_fragments fragments) sides.plane) halves.back sides.behind

    -- the sides of a cell make partitions of it
    pub sides_divide : (n : ℕ) (halves : CellHalves) → AreSidesOf solids book fragments n halves → (s t : Partition) → Divides solids book (cell_of_fragments halves.front) s → Divides solids book (cell_of_fragments halves.back) t → Divides solids book (cell_of_fragments fragments) (node n s t)
    sides_divide n halves sides s t first second = divided sides.least
        (subst (λ (c : List Plane). Divides solids book c s) sides.in_front.cell_is first)
        (subst (λ (c : List Plane). Divides solids book c t) sides.behind.cell_is second)

    -- a leaf is a whole walk
    leaf_walk : (found : LeafRecord) → IsTopOf solids book fragments (TopLeaf found) → IsWalkOf solids book fragments (Leaf found ∷ [])
    leaf_walk found is = record { shape = leaf found; has = undivided is.0 is.1 is.2; visits_are = refl }

    -- and so is a node with those of its sides
    node_walk : (n : ℕ) (halves : CellHalves) (front back : List Visit) → AreSidesOf solids book fragments n halves → IsWalkOf solids book halves.front front → IsWalkOf solids book halves.back back → IsWalkOf solids book fragments (Node n ∷ (front ++ back))
    node_walk n halves front back sides first second = record {
      shape = node n first.shape second.shape;
      has = sides_divide n halves sides first.shape second.shape first.has second.has;
      visits_are = ap (λ (vs : List Visit). Node n ∷ (vs ++ visits second.shape)) first.visits_are ∙ ap (λ (vs : List Visit). Node n ∷ (front ++ vs)) second.visits_are;
    }

    -- a leaf was written
    pub visited_leaf : (found : LeafRecord) (top : Top) (pending : List Fragments) (walk walk' : List Visit) → top ≡ TopLeaf found → IsTopOf solids book fragments top → walk' ≡ walk ++ Leaf found ∷ [] → IsVisited solids book fragments pending walk pending walk'
    visited_leaf found top pending walk walk' same is wrote =
        is_walked (leaf_walk found (subst (λ (t : Top). IsTopOf solids book fragments t) same is)) refl wrote

    -- the sides of a cell, where a node is met first
    pub sides_of_top : (n : ℕ) (halves : CellHalves) (top : Top) → top ≡ TopNode n halves → IsTopOf solids book fragments top → AreSidesOf solids book fragments n halves
    sides_of_top n halves top same is = subst (λ (t : Top). IsTopOf solids book fragments t) same is

    -- a node was written, and then the walks of both sides
    pub visited_both : (n : ℕ) (halves : CellHalves) (pending : List Fragments) (walk noded walk' : List Visit) → AreSidesOf solids book fragments n halves → noded ≡ walk ++ Node n ∷ [] → AreBothWalked solids book halves noded walk' → IsVisited solids book fragments pending walk pending walk'
    visited_both n halves pending walk noded walk' sides wrote both =
        is_walked (node_walk n halves both.front both.back sides both.in_front both.behind) refl
        (both.written ∙ ap (λ (vs : List Visit). (vs ++ both.front) ++ both.back) wrote ∙ order both.front both.back)
      where
        order : (front back : List Visit) → ((walk ++ Node n ∷ []) ++ front) ++ back ≡ walk ++ (Node n ∷ (front ++ back))
        order front back = simp append_assoc

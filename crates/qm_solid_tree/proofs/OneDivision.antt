-- Solids and a book divide a cell in one way, so that they define one tree.
use Rattle.std.proofs.Common.{◌≡◌, ℕ, false, List, Some, sym, ap, ◌∙◌, subst}
use Rattle.std.specs.Prelude.{slice_get}
use Rattle.qm_space.specs.Plane.{Plane}
use Rattle.qm_solids.specs.Solid.{Solid}
use Rattle.qm_solids.specs.Cells.{ContainsCell}
use Rattle.qm_solids.proofs.CellLaws.{one_least}
use Rattle.qm_solids.proofs.ContentsLaws.{one_contents}
use Rattle.qm_partition.specs.declared.node.Leaf.{Leaf}
use Rattle.qm_partition.specs.Partition.{Partition, leaf, node}
use Rattle.qm_partition.specs.Joining.{joined}
use Rattle.qm_partition.specs.Tree.{Tree}
use Rattle.qm_solid_tree.specs.Division.{front_of, back_of, Divides, undivided, divided}
use Rattle.qm_solid_tree.specs.TreeOf.{IsTreeOf}

-- the plane that stands at one place is one
same_plane_at : (book : List Plane) (n m : ℕ) (h g : Plane) → n ≡ m → slice_get book n ≡ Some h → slice_get book m ≡ Some g → h ≡ g
same_plane_at book n m h g same at_n at_m =
    let both : Some h ≡ Some g = sym at_n ∙ ap (slice_get book) same ∙ at_m in cc

same_leaf : (a b : Leaf) → a.contents ≡ b.contents → a.filled ≡ false → b.filled ≡ false → a ≡ b
same_leaf a b contents filled_a filled_b =
    let filled = filled_a ∙ sym filled_b in
    λ i. record { contents = contents i; filled = filled i }

module _ (solids : List Solid) (book : List Plane) where
  pub one_division : {cell : List Plane} {s t : Partition} → Divides solids book cell s → Divides solids book cell t → s ≡ t
  one_division (undivided {cell = cell} {found = a} none has unfilled) (undivided {found = b} none' has' unfilled') =
      ap leaf (same_leaf a b (one_contents (λ solid. ContainsCell solid cell) solids a.contents b.contents has has') unfilled unfilled')
  one_division (undivided none has unfilled) (divided {n = n} {h = h} least front back) = absurd (none n h least.is_one)
  one_division (divided {n = n} {h = h} least front back) (undivided none has unfilled) = absurd (none n h least.is_one)
  one_division (divided {cell = cell} {n = n} {h = h} {front = front} {back = back} least in_front behind) (divided {n = m} {h = g} {front = front'} {back = back'} least' in_front' behind') =
      let number : n ≡ m = one_least solids book cell n m h g least least' in
      let plane : g ≡ h = sym (same_plane_at book n m h g number least.is_one.numbered least'.is_one.numbered) in
      let fronts : front ≡ front' = one_division in_front (subst (λ (p : Plane). Divides solids book (front_of cell p) front') plane in_front') in
      let backs : back ≡ back' = one_division behind (subst (λ (p : Plane). Divides solids book (back_of cell p) back') plane behind') in
      λ i. node (number i) (fronts i) (backs i)

  -- there is one tree
  pub one_tree : (tree other : Tree) → IsTreeOf solids book tree → IsTreeOf solids book other → tree ≡ other
  one_tree tree other is_one is_other =
      let planes = is_one.planes ∙ sym is_other.planes in
      let shape = is_one.is_joined ∙ ap joined (one_division is_one.divides is_other.divides) ∙ sym is_other.is_joined in
      λ i. record { planes = planes i; shape = shape i }

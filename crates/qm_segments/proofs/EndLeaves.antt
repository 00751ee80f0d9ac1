-- The first and the last leaf that one passes are those of the two ends.
use Rattle.std.proofs.Common.{◌≡◌, ℕ, zero, suc, Bool, true, false, List, [], ◌∷◌, ◌++◌, All, map, get_or, Contains, slice_get, Some, sym, ap, subst, arith, ⊎_elim}
use Rattle.std.proofs.lemmas.List.Elements.{All-contains, Contains-get_or, Contains-append_left, Contains-append_right}
use Rattle.qm_lists.proofs.Elements.{Contains-first, Contains-later, Contains-cons_cases, Contains-map_from}
use Rattle.qm_lists.proofs.Places.{slice_get-append_cases, slice_get-map_from}
use Rattle.qm_space.specs.Point.{Point}
use Rattle.qm_space.specs.Plane.{Plane, value, IsOn, IsNotBehind}
use Rattle.qm_space.specs.Line.{IsBetween}
use Rattle.qm_space.specs.Cell.{IsInCell}
use Rattle.qm_space.specs.Book.{plane_at}
use Rattle.qm_numbers.proofs.IntegerProducts.{linear}
use Rattle.qm_numbers.proofs.Signs.{by_sign}
use Rattle.qm_space.proofs.TurnedPlanes.{turned_on}
use Rattle.qm_partition.specs.declared.step.Step.{Step}
use Rattle.qm_partition.specs.Partition.{Partition, leaf, node}
use Rattle.qm_partition.specs.Tree.{Tree}
use Rattle.qm_partition.specs.Counting.{node_planes}
use Rattle.qm_partition.specs.LeafOfPoint.{node_value, leaf_at, IsOffNodePlanes}
use Rattle.qm_partition.specs.Ways.{Way, after_step, ways, turned_to, cell_of_way}
use Rattle.qm_partition.proofs.Cells.{number_of_cell}
use Rattle.qm_partition.proofs.NodePlanes.{IsOff, off_node_planes}
use Rattle.qm_segments.specs.Passes.{IsWithinLeaf, Passes, within, onward}
use Rattle.qm_segments.proofs.LeavesPassed.{NoneHasBoth, none_up_to, none_from}
use Rattle.qm_segments.proofs.Betweenness.{front_up_to_end, front_from_start, nearer_between, farther_between}

-- each step of a way names the plane of a node
pub way_names_nodes : (shape : Partition) (k : ℕ) (way : Way) (step : Step) → slice_get (ways shape) k ≡ Some way → Contains way step → Contains (node_planes shape) step.plane
way_names_nodes (leaf found) zero way step at there =
    let none : [] ≡ way = cc in
    absurd (let within = (subst (λ (w : Way). Contains w step) (sym none) there).1 in omega arith)
way_names_nodes (leaf found) (suc k) way step at there = absurd cc
way_names_nodes (node n front back) k way step at there = ⊎_elim
    (λ here.
    let of = slice_get-map_from (after_step n true) (ways front) k way here in
    below true of.0 of.2 (λ later. Contains-append_left (node_planes front) (node_planes back) step.plane (way_names_nodes front k of.0 step of.1 later)))
    (λ beyond.
    let of = slice_get-map_from (after_step n false) (ways back) beyond.0 way beyond.2 in
    below false of.0 of.2 (λ later. Contains-append_right (node_planes front) (node_planes back) step.plane (way_names_nodes back beyond.0 of.0 step of.1 later)))
    (slice_get-append_cases (map (after_step n true) (ways front)) (map (after_step n false) (ways back)) way k at)
  where
    below : (side : Bool) (rest : Way) → after_step n side rest ≡ way → (Contains rest step → Contains (node_planes front ++ node_planes back) step.plane) → Contains (n ∷ (node_planes front ++ node_planes back)) step.plane
    below side rest is later = ⊎_elim
        (λ same. subst (λ (m : ℕ). Contains (n ∷ (node_planes front ++ node_planes back)) m) (ap (λ (s : Step). s.plane) same) (Contains-first n (node_planes front ++ node_planes back)))
        (λ in_rest. Contains-later n step.plane (node_planes front ++ node_planes back) (later in_rest))
        (Contains-cons_cases (record { plane = n; front = side }) step rest (subst (λ (w : Way). Contains w step) (sym is) there))

module _ (tree : Tree) where
  -- behind no plane of a way and on no node plane a point is in the way's cell
  pub end_in_cell : (k : ℕ) (way : Way) (x : Point) → slice_get (ways tree.shape) k ≡ Some way → IsOffNodePlanes tree.planes tree.shape x → All (λ g. IsNotBehind g x) (cell_of_way tree.planes way) → IsInCell (cell_of_way tree.planes way) x
  unfolding node_value
  end_in_cell k way x at off not_behind place d there = by_sign (value (get_or (cell_of_way tree.planes way) place d) x)
      (λ below. let not_below = not_behind place d there in absurd (omega (arith, linear)))
      (λ zero. absurd (off_it zero (Contains-map_from (turned_to tree.planes) way (get_or (cell_of_way tree.planes way) place d) (Contains-get_or (cell_of_way tree.planes way) place d there))))
      (λ front. front)
    where
      off_it : IsOn (get_or (cell_of_way tree.planes way) place d) x → (step : Step) × Contains way step × (turned_to tree.planes step ≡ get_or (cell_of_way tree.planes way) place d) → ⊥
      off_it is_on (step, listed, is) =
          All-contains (IsOff tree.planes x) (node_planes tree.shape) step.plane ((off_node_planes tree.planes x tree.shape).0 off) (way_names_nodes tree.shape k way step at listed)
          ((turned_on step.front (plane_at tree.planes step.plane) x).0 (subst (λ (g : Plane). IsOn g x) (sym is) is_on))

  -- ---- what is within a leaf is not behind its planes at the ends

  pub not_behind_at_start : (p q : Point) (k : ℕ) (inside : IsWithinLeaf tree p q k) → All (λ g. IsNotBehind g p) (cell_of_way tree.planes inside.way)
  not_behind_at_start p q k inside place d there = front_from_start (get_or (cell_of_way tree.planes inside.way) place d) p q (λ x b. inside.inside x b place d there)

  pub not_behind_at_end : (p q : Point) (k : ℕ) (inside : IsWithinLeaf tree p q k) → All (λ g. IsNotBehind g q) (cell_of_way tree.planes inside.way)
  not_behind_at_end p q k inside place d there = front_up_to_end (get_or (cell_of_way tree.planes inside.way) place d) p q (λ x b. inside.inside x b place d there)

  pub start_in_leaf : (p q : Point) (k : ℕ) → IsOffNodePlanes tree.planes tree.shape p → IsWithinLeaf tree p q k → leaf_at tree.planes tree.shape p ≡ k
  start_in_leaf p q k off inside = number_of_cell tree.planes tree.shape p k inside.way inside.way_is (end_in_cell k inside.way p inside.way_is off (not_behind_at_start p q k inside))

  pub end_in_leaf : (p q : Point) (k : ℕ) → IsOffNodePlanes tree.planes tree.shape q → IsWithinLeaf tree p q k → leaf_at tree.planes tree.shape q ≡ k
  end_in_leaf p q k off inside = number_of_cell tree.planes tree.shape q k inside.way inside.way_is (end_in_cell k inside.way q inside.way_is off (not_behind_at_end p q k inside))

  -- ---- the first leaf and the last

  pub first_leaf : (p q : Point) (first : ℕ) (rest : List ℕ) → IsOffNodePlanes tree.planes tree.shape p → Passes tree p q (first ∷ rest) → leaf_at tree.planes tree.shape p ≡ first
  first_leaf p q first rest off (within inside) = start_in_leaf p q first off inside
  first_leaf p q first rest off (onward {m = m} at inside apart more) = start_in_leaf p m first off inside

  pub last_leaf_listed : (p q : Point) (first : ℕ) (rest : List ℕ) → IsOffNodePlanes tree.planes tree.shape q → Passes tree p q (first ∷ rest) → Contains (first ∷ rest) (leaf_at tree.planes tree.shape q)
  last_leaf_listed p q first rest off (within inside) = subst (λ (k : ℕ). Contains (first ∷ rest) k) (sym (end_in_leaf p q first off inside)) (Contains-first first rest)
  last_leaf_listed p q first rest off (onward {m = m} {n = n} {rest = others} at inside apart more) = Contains-later first (leaf_at tree.planes tree.shape q) (n ∷ others) (last_leaf_listed m q n others off more)

  -- ---- each leaf that is passed

  -- a part of the way within a leaf
  pub record IsPassed (p q : Point) (k : ℕ) : Type 0 where
    pub start : Point
    pub end : Point
    pub inside : IsWithinLeaf tree start end k
    pub between : (x : Point) → IsBetween x start end → IsBetween x p q
    pub none : (numbers : List ℕ) → NoneHasBoth tree numbers p q → NoneHasBoth tree numbers start end

  pub passed_part : (p q : Point) (first : ℕ) (rest : List ℕ) (k : ℕ) → Passes tree p q (first ∷ rest) → Contains (first ∷ rest) k → IsPassed p q k
  passed_part p q first rest k (within inside) there = ⊎_elim
      (λ same. subst (IsPassed p q) same (record { start = p; end = q; inside = inside; between = λ x b. b; none = λ numbers given. given }))
      (λ more. absurd (let range = more.1 in omega arith))
      (Contains-cons_cases first k [] there)
  passed_part p q first rest k (onward {m = m} {n = n} {rest = others} at inside apart more) there = ⊎_elim
      (λ same. subst (IsPassed p q) same (record { start = p; end = m; inside = inside; between = λ x b. nearer_between p q m x at b; none = λ numbers given. none_up_to tree numbers p m q at given }))
      (λ later.
      let part = passed_part m q n others k more later in
      record { start = part.start; end = part.end; inside = part.inside; between = λ x b. farther_between p q m x at (part.between x b); none = λ numbers given. part.none numbers (none_from tree numbers p m q at given) })
      (Contains-cons_cases first k (n ∷ others) there)

  -- the part in the leaf where one begins
  pub record Begins (p q : Point) (k : ℕ) : Type 0 where
    pub to : Point
    pub inside : IsWithinLeaf tree p to k
    pub between : (x : Point) → IsBetween x p to → IsBetween x p q

  pub begins : (p q : Point) (k : ℕ) (rest : List ℕ) → Passes tree p q (k ∷ rest) → Begins p q k
  begins p q k rest (within inside) = record { to = q; inside = inside; between = λ x b. b }
  begins p q k rest (onward {m = m} at inside apart more) = record { to = m; inside = inside; between = λ x b. nearer_between p q m x at b }

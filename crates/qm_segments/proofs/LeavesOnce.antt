-- Cells are convex, so that no leaf is passed twice.
use Rattle.std.proofs.Common.{◌≡◌, ◌≢◌, ℕ, List, ◌∷◌, Contains, Some, sym, ◌∙◌, subst, arith, ⊎_elim}
use Rattle.std.proofs.lemmas.List.Elements.{All-nil}
use Rattle.qm_lists.proofs.EachPair.{EachPair}
use Rattle.qm_lists.proofs.Pairs.{All-from_contains}
use Rattle.qm_lists.proofs.Elements.{Contains-cons_cases}
use Rattle.qm_space.specs.Point.{Point, point_sum}
use Rattle.qm_space.specs.Line.{IsBetween}
use Rattle.qm_space.specs.Cell.{IsInCell}
use Rattle.qm_partition.specs.Tree.{Tree}
use Rattle.qm_partition.specs.Ways.{Way, cell_of_way}
use Rattle.qm_partition.proofs.Cells.{cells_are_apart}
use Rattle.qm_segments.specs.Passes.{IsWithinLeaf, Passes, within, onward}
use Rattle.qm_segments.proofs.Betweenness.{sum_between, nearer_between, later_between, farther_between, earlier_between, between_in_cell}
use Rattle.qm_segments.proofs.EndLeaves.{IsPassed, passed_part}

module _ (tree : Tree) where
  -- from a leaf through another one does not come back
  no_return : (p m l q : Point) (k n : ℕ) → IsBetween m p q → IsBetween l m q → IsWithinLeaf tree p m k → IsWithinLeaf tree m l n → IsPassed tree l q k → k ≡ n
  no_return p m l q k n at on first other again =
      let x = point_sum p m in
      let y = point_sum m l in
      let z = point_sum again.start again.end in
      let in_x = sum_between p m in
      let in_y = sum_between m l in
      let in_z = again.between z (sum_between again.start again.end) in
      let from_x = later_between p q m x at in_x in
      let on_y = nearer_between m q l y on in_y in
      let x_y = farther_between x q m y from_x on_y in
      let y_z = farther_between y q l z (later_between m q l y on in_y) in_z in
      let same : first.way ≡ again.inside.way = (let e : Some first.way ≡ Some again.inside.way = sym first.way_is ∙ again.inside.way_is in cc) in
      let end_inside = subst (λ (way : Way). IsInCell (cell_of_way tree.planes way) z) (sym same) (again.inside.inside z (sum_between again.start again.end)) in
      cells_are_apart tree.planes tree.shape y k n first.way other.way first.way_is other.way_is
      (between_in_cell (cell_of_way tree.planes first.way) y x z (earlier_between x q y z x_y y_z) (first.inside x in_x) end_inside)
      (other.inside y in_y)

  not_again : (p m q : Point) (k n : ℕ) (rest : List ℕ) → IsBetween m p q → IsWithinLeaf tree p m k → k ≢ n → Passes tree m q (n ∷ rest) → Contains rest k → k ≡ n
  not_again p m q k n rest at first apart (within inside) there = absurd (let range = there.1 in omega arith)
  not_again p m q k n rest at first apart (onward {m = l} {n = next} {rest = others} on inside other more) there = no_return p m l q k n at on first inside (passed_part tree l q next others k more there)

  pub leaves_once : (p q : Point) (first : ℕ) (rest : List ℕ) → Passes tree p q (first ∷ rest) → EachPair (λ a b. a ≢ b) (first ∷ rest)
  leaves_once p q first rest (within inside) = (All-nil (λ b. first ≢ b), tt)
  leaves_once p q first rest (onward {m = m} {n = n} {rest = others} at inside apart more) = (
    All-from_contains (λ b. first ≢ b) (n ∷ others) (λ b there same. ⊎_elim
        (λ is. apart (same ∙ sym is))
        (λ later. apart (not_again p m q first n others at inside apart more (subst (λ (k : ℕ). Contains others k) (sym same) later)))
        (Contains-cons_cases n b others there)),
    leaves_once m q n others more,
  )

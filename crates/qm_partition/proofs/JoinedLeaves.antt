-- Joining keeps the contents of the leaf of every point, on node planes too.
use Rattle.std.proofs.Common.{◌≡◌, ℕ, pos, Bool, true, false, if◌then◌else◌, List, refl, sym, ap, ◌∙◌, arith}
use Rattle.std.specs.Prelude.{int_lt}
use Rattle.std.proofs.lemmas.Bool.Decides.{nat_tests}
use Rattle.qm_space.specs.Point.{Point}
use Rattle.qm_space.specs.Plane.{Plane}
use Rattle.qm_contents.specs.declared.contents.Contents.{Contents}
use Rattle.qm_contents.specs.Precedence.{strength}
use Rattle.qm_contents.proofs.Strengths.{same_strength}
use Rattle.qm_partition.specs.declared.node.Leaf.{Leaf}
use Rattle.qm_partition.specs.Partition.{Partition, leaf, node}
use Rattle.qm_partition.specs.LeafOfPoint.{node_value, leaf_record_at}
use Rattle.qm_partition.specs.Joining.{have_same_contents, joined_node, joined}

pub same_contents_equal : (a b : Leaf) → have_same_contents a b ≡ true → a.contents ≡ b.contents
same_contents_equal a b same =
    let equal : strength a.contents ≡ strength b.contents = grind (arith, nat_tests, same) in
    same_strength a.contents b.contents (omega (arith, equal)) (omega (arith, equal))

module _ (planes : List Plane) (x : Point) where
  -- the contents that a partition has at the point
  abbrev contents_at : Partition → Contents
  contents_at shape = (leaf_record_at planes shape x).contents

  abbrev is_behind : ℕ → Bool
  is_behind n = int_lt (node_value planes n x) (pos 0)

  -- at a node they are those of one of its sides
  at_node : (n : ℕ) (front back : Partition) → contents_at (node n front back) ≡ (if is_behind n then contents_at back else contents_at front)
  at_node n front back = by_side (is_behind n)
    where
      by_side : (b : Bool) → (if b then leaf_record_at planes back x else leaf_record_at planes front x).contents ≡ (if b then contents_at back else contents_at front)
      by_side true = refl
      by_side false = refl

  same_both : (b : Bool) (c d : Contents) → c ≡ d → c ≡ (if b then d else c)
  same_both true c d same = same
  same_both false c d same = refl

  at_leaves : (n : ℕ) (a b : Leaf) (test : Bool) → have_same_contents a b ≡ test → contents_at (if test then leaf a else node n (leaf a) (leaf b)) ≡ contents_at (node n (leaf a) (leaf b))
  at_leaves n a b true same = same_both (is_behind n) a.contents b.contents (same_contents_equal a b same) ∙ sym (at_node n (leaf a) (leaf b))
  at_leaves n a b false same = refl

  at_joined_node : (n : ℕ) (front back : Partition) → contents_at (joined_node n front back) ≡ contents_at (node n front back)
  at_joined_node n (leaf a) (leaf b) = at_leaves n a b (have_same_contents a b) refl
  at_joined_node n (leaf a) (node m front back) = refl
  at_joined_node n (node m front back) behind = refl

  -- joining keeps the contents at the point
  pub joined_keeps_contents : (shape : Partition) → contents_at (joined shape) ≡ contents_at shape
  joined_keeps_contents (leaf found) = refl
  joined_keeps_contents (node n front back) =
      at_joined_node n (joined front) (joined back)
      ∙ at_node n (joined front) (joined back)
      ∙ ap (λ (c : Contents). if is_behind n then c else contents_at (joined front)) (joined_keeps_contents back)
      ∙ ap (λ (c : Contents). if is_behind n then contents_at back else c) (joined_keeps_contents front)
      ∙ sym (at_node n front back)

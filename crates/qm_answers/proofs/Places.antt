-- The answer to a point, by its leaf.
use Rattle.std.proofs.Common.{◌≡◌, ◌∙◌, ℕ, Option, Some, slice_get, sym, ap, subst}
use Rattle.qm_space.specs.Point.{Point}
use Rattle.qm_partition.specs.declared.node.Leaf.{Leaf}
use Rattle.qm_partition.specs.Tree.{Tree}
use Rattle.qm_partition.specs.Counting.{leaves_of}
use Rattle.qm_partition.specs.LeafOfPoint.{leaf_at, leaf_record_at}
use Rattle.qm_partition.proofs.LeafNumbers.{leaf_of_number}
use Rattle.qm_answers.specs.declared.answer.Answer.TheVariants.{Place}
use Rattle.qm_answers.specs.Answers.{IsNumberOfLeaf, IsPlaceAnswer}

-- the leaf of that number is the one to which the point is led
pub found_at :
    (tree : Tree) (point : Point) (k : ℕ) (found : Leaf) →
    k ≡ leaf_at tree.planes tree.shape point → slice_get (leaves_of tree.shape) k ≡ Some found → found ≡ leaf_record_at tree.planes tree.shape point
found_at tree point k found place at =
    let there = sym at ∙ ap (slice_get (leaves_of tree.shape)) place ∙ leaf_of_number tree.planes tree.shape point in
    cc

pub place_answer :
    (tree : Tree) (point : Point) (k : ℕ) (found : Leaf) (number : Option ℕ) →
    k ≡ leaf_at tree.planes tree.shape point → slice_get (leaves_of tree.shape) k ≡ Some found → IsNumberOfLeaf tree k number → IsPlaceAnswer tree point (Place k found.contents found.filled number)
place_answer tree point k found number place at is_number =
    let same = found_at tree point k found place at in
    record {
      number = number;
      is_number = subst (λ (leaf : ℕ). IsNumberOfLeaf tree leaf number) place is_number;
      answer_is = λ i. Place (place i) (same i).contents (same i).filled number;
    }

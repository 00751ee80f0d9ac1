use Rattle.std.proofs.Common.{ℕ, get_or, refl, sym, append-nil, string_bytes}
use Rattle.qm_answers.proofs.SpacedNumbers.{all_numbers, next_number}
use Rattle.qm_inspect.proofs.model_lines.put_leaves.Goals as goal

pub loop-leaf-init : goal.loop-leaf-init
loop-leaf-init c = sym (append-nil (string_bytes c.args.text.now))

pub loop-leaf-preserved : goal.loop-leaf-preserved
loop-leaf-preserved c =
    next_number (λ (leaf : ℕ). leaf) (string_bytes c.args.text.now) (string_bytes c.loop-leaf.text) (string_bytes c.put_leaf.new.text) c.args.leaves.now c.loop-leaf.leaf-index
    (get_or c.args.leaves.now c.loop-leaf.leaf-index 0) 0 c.loop-leaf-test.true refl c.loop-leaf.invariant c.in_ok-put_leaf.ensures

pub returns : goal.returns
returns c =
    all_numbers (λ (leaf : ℕ). leaf) (string_bytes c.args.text.now) (string_bytes c.loop-leaf.text) c.args.leaves.now c.loop-leaf.leaf-index c.loop-leaf.invariant c.loop-leaf-test.false

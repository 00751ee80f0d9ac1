use Rattle.std.proofs.Common.{◌≡◌, ◌++◌, take, string_bytes}
use Rattle.qm_answers.specs.AnswerText.{leaf_numbers}
use Rattle.qm_inspect.proofs.model_lines.put_leaves.Given as goal

-- the numbers of the first leaves are there
abbrev pub invariant-loop-leaf : goal.invariant-loop-leaf
invariant-loop-leaf l = string_bytes l.text ≡ string_bytes l.fn.text ++ leaf_numbers (take l.leaf-index l.leaves)

use Rattle.std.proofs.Common.{◌≡◌, ◌≤◌, ◌<◌, ◌+◌, ◌*◌, ◌∙◌, ℕ, ap, length, take, arith}
use Rattle.std.specs.Prelude.{count_by, slice_index_or}
use Rattle.qm_contacts.specs.NumberedLeaves.{is_numbered}
use Rattle.qm_inspect.proofs.CountedBlocks.{counted_before, few_before}
use Rattle.qm_inspect.proofs.numbered.numbered_before.Goals as goal
use Rattle.qm_inspect.proofs.numbered.numbered_before.Goals.{After-count_numbered}

sum_is : (c : After-count_numbered) → slice_index_or c.args.counts.now c.min-block.result 0 + c.count_numbered.result ≡ count_by is_numbered (take c.args.end c.args.leaves.now)
sum_is c =
    let counts = c.args.counts.now in
    let block = c.min-block.result in
    let within : block < length counts = omega (arith, c.min-block.ensures, c.requires.counts.some) in
    let before : 64 * block ≤ c.args.end = omega (arith, c.min-block.ensures) in
    ap (λ (n : ℕ). slice_index_or counts block 0 + n) c.count_numbered.ensures ∙ counted_before c.args.leaves.now counts c.args.end block c.requires.counts within before

pub overflow_add-result : goal.overflow_add-result
overflow_add-result c =
    let is = sum_is c in
    let few = few_before c.args.leaves.now c.args.end c.requires.within in
    omega (arith, is, few, c.ranges.end)

pub returns : goal.returns
returns c = sum_is c

use Rattle.std.proofs.Common.{◌∙◌, ◌++◌, ◌∷◌, ℕ, List, [], length, sym, ap, subst, arith}
use Rattle.std.proofs.lemmas.List.{length_push}
use Rattle.qm_inspect.specs.inner.BlockCounts.{AreBlockCounts}
use Rattle.qm_inspect.proofs.CountedBlocks.{none_before, one_block_more}
use Rattle.qm_inspect.proofs.numbered.block_counts.Goals as goal

pub loop-k-init : goal.loop-k-init
loop-k-init c =
    let only = c.in_ok-push.ensures.items ∙ ap (λ (counts : List ℕ). counts ++ 0 ∷ []) c.new-counts.ensures.items in
    record { counts = subst (AreBlockCounts c.args.leaves.now) (sym only) (none_before c.args.leaves.now); blocks = ap length only }

pub loop-k-preserved : goal.loop-k-preserved
loop-k-preserved c =
    let counts = c.loop-k.counts.items in
    let before = c.numbered_before-before.result in
    let more = c.in_ok-push-2.ensures.items in
    let longer = ap length more in
    let one_longer = length_push counts before in
    let blocks = c.loop-k.invariant.blocks in
    record {
      counts = subst (AreBlockCounts c.args.leaves.now) (sym more) (one_block_more c.args.leaves.now counts c.loop-k.k before c.loop-k.invariant.counts blocks c.numbered_before-before.ensures);
      blocks = omega (arith, longer, one_longer, blocks);
    }

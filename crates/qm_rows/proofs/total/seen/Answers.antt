use Rattle.std.proofs.Common.{refl, sym, ◌∙◌}
use Rattle.qm_coarse_rows.specs.Seen.{seen_of}
use Rattle.qm_rows.proofs.Counting.{seen_more}
use Rattle.qm_rows.proofs.total.seen.Goals as goal

pub loop-row-init : goal.loop-row-init
unfolding seen_of
loop-row-init c = refl

pub loop-row-preserved : goal.loop-row-preserved
loop-row-preserved c =
    c.sum_or_most-seen.ensures ∙ rw (c.loop-row.invariant, c.count.ensures) (sym (seen_more c.args.rows.now c.loop-row.row-index c.row-item.result c.loop-row-test.true c.row-item.is))

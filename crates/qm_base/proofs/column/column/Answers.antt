use Rattle.std.proofs.Common.{◌≡◌, ◌∙◌, ◌+◌, ◌-◌, ◌*◌, ℕ, List, length, take, drop, refl, subst, arith}
use Rattle.qm_base.specs.inner.Ways.{block_of}
use Rattle.qm_base.specs.inner.Columns.{IsGathered}
use Rattle.qm_base.proofs.WaySteps.{slice_of_block}
use Rattle.qm_base.proofs.ColumnSteps.{column_none, column_more, column_all}
use Rattle.qm_base.proofs.column.column.Goals as goal

pub loop-k-init : goal.loop-k-init
loop-k-init c =
    column_none c.args.seen.now c.args.bit c.copy_from.new.self (c.copy_from.ensures ∙ c.requires.all)

pub loop-k-preserved : goal.loop-k-preserved
loop-k-preserved c =
    let seen = c.args.seen.now in
    let part : List ℕ = take (c.min.result + 64 * c.loop-k.k - 64 * c.loop-k.k) (drop (64 * c.loop-k.k) seen) in
    let is : part ≡ block_of c.loop-k.k seen = slice_of_block c.loop-k.k seen (length seen) c.min.result refl c.min.ensures in
    column_more seen c.args.bit c.loop-k.k c.gathered.result c.loop-k.row c.and_word.new.self c.loop-k.invariant c.and_word.ensures
    (subst (λ (words : List ℕ). IsGathered words c.args.bit c.gathered.result) is c.gathered.ensures)

pub returns : goal.returns
returns c =
    column_all c.args.seen.now c.args.bit c.loop-k.k c.loop-k.row (let end = c.loop-k-test.false in let parts = c.div_ceil-k-end.ensures in omega (arith, end, parts)) c.loop-k.invariant

use Rattle.std.proofs.Common.{get_or, arith}
use Rattle.qm_base.specs.inner.Sweeping.{IsInLane}
use Rattle.qm_base.proofs.ColumnSteps.{gathered_none, gathered_more, gathered_other, gathered_all, bit_moved, moved_bit}
use Rattle.qm_base.proofs.column.gathered.Goals as goal
use Rattle.qm_base.proofs.column.gathered.Goals.{then-words-i-eq1, else-words-i-eq1}

pub loop-i-init : goal.loop-i-init
loop-i-init c = gathered_none c.args.words.now c.args.bit

pub loop-i-preserved : goal.loop-i-preserved
loop-i-preserved c =
    let words = c.args.words.now in
    elim c.if-words-i-eq1.branch [
      | then-words-i-eq1 w ↦
          let is : IsInLane words c.args.bit c.loop-i.i = bit_moved (get_or words c.loop-i.i 0) c.args.bit w.if-words-i-eq1.true in
          rw w.gathered-is (gathered_more words c.args.bit c.loop-i.i c.loop-i.gathered (let test = c.loop-i-test.true in let few = c.requires.few in omega (arith, test, few)) c.loop-i.invariant is)
      | else-words-i-eq1 w ↦
          rw w.gathered-is (gathered_other words c.args.bit c.loop-i.i c.loop-i.gathered c.loop-i.invariant (λ is. w.if-words-i-eq1.false (moved_bit (get_or words c.loop-i.i 0) c.args.bit is)))
    ]

pub returns : goal.returns
returns c = gathered_all c.args.words.now c.args.bit c.loop-i.i c.loop-i.gathered c.loop-i-test.false c.loop-i.invariant

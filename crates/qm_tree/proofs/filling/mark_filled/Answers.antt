use Rattle.std.proofs.Common.{◌≡◌, length, sym, subst, ◌∙◌, arith}
use Rattle.qm_tree.specs.inner.MarkedBelow.{AreMarkedBelow}
use Rattle.qm_tree.proofs.Filled.{next_stays, next_marked}
use Rattle.qm_tree.proofs.filling.mark_filled.Goals as goal
use Rattle.qm_tree.proofs.filling.mark_filled.Goals.{then-get, else-get}

pub loop-k-preserved : goal.loop-k-preserved
loop-k-preserved c =
    let row = c.args.filled.now in
    let old = c.args.leaves.now in
    elim c.if-get.branch [
      | then-get w ↦ rw w.leaves-is (next_marked row old c.loop-k.k c.loop-k.leaves c.loop-k-test.true (sym c.get.ensures ∙ w.if-get.true) c.loop-k.invariant)
      | else-get w ↦ rw w.leaves-is (next_stays row old c.loop-k.k c.loop-k.leaves (sym c.get.ensures ∙ w.if-get.false) c.loop-k.invariant)
    ]

pub returns : goal.returns
returns c =
    let end : c.loop-k.k ≡ length c.args.leaves.now = omega (arith, c.loop-k.auto.k-end, c.loop-k-test.false) in
    subst (λ n. AreMarkedBelow n c.args.filled.now c.args.leaves.now c.loop-k.leaves) end c.loop-k.invariant

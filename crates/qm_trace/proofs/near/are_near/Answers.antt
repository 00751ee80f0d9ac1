use Rattle.std.proofs.Common.{◌≡◌, refl, subst, arith}
use Rattle.qm_partition.specs.Counting.{node_count}
use Rattle.qm_spans.proofs.TracedValues.{AreNearBelow, all_near, near_where_fits, meets_where_all}
use Rattle.qm_trace.proofs.near.are_near.Goals as goal

pub returns-then-not-is_near-clause-value : goal.returns-then-not-is_near-clause-value
returns-then-not-is_near-clause-value c = (
  (λ yes. absurd cc),
  (λ fits. c.if-not-is_near.ensures.value.1 (near_where_fits c.args.tree.now c.loop-n.n (omega (arith, c.loop-n-test.true, c.nodes-n-end.ensures)) fits)),
)

pub returns-then-not-is_near-clause-near : goal.returns-then-not-is_near-clause-near
returns-then-not-is_near-clause-near c =
    λ all. c.if-not-is_near.ensures.near (meets_where_all c.args.tree.now c.loop-n.n (omega (arith, c.loop-n-test.true, c.nodes-n-end.ensures)) all)

pub returns-clause-value : goal.returns-clause-value
returns-clause-value c =
    let tree = c.args.tree.now in
    let end : c.loop-n.n ≡ node_count tree.shape = omega (arith, c.loop-n.auto.n-end, c.loop-n-test.false, c.nodes-n-end.ensures) in
    ((λ yes. all_near tree (subst (AreNearBelow tree) end c.loop-n.invariant)), (λ fits. refl))

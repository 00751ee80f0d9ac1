use Rattle.std.proofs.Common.{◌<◌, ◌≤◌, ◌^◌, ◌∙◌, sym, subst, unsigned_abs, lit≤, arith}
use Rattle.qm_numbers.proofs.Bits.{kept_128}
use Rattle.qm_spans.proofs.TracedValues.{end_value_small, node_is_near, value_of_node}
use Rattle.qm_trace.proofs.walk.value_at_end.Goals as goal
use Rattle.qm_trace.proofs.walk.value_at_end.Goals.{After-value}

small : (c : After-value) → unsigned_abs c.value.result < 2 ^ 64
small c =
    let near = node_is_near c.args.tree.now c.args.n c.node-node.result c.plane.result c.requires.fits c.node-node.ensures.value c.plane.ensures.value in
    let its = end_value_small c.plane.result c.args.end.now c.plane.ensures.reduced near c.requires.end in
    subst (λ z. unsigned_abs z < 2 ^ 64) (sym c.value.ensures) its

pub returns-clause-exact : goal.returns-clause-exact
returns-clause-exact c =
    let w = (goal.at.returns-clause-exact c).After-value in
    let less : unsigned_abs c.value.result ≤ 2 ^ 64 = omega (arith, small w) in
    λ here stands. kept_128 c.value.result (2 ^ 64) less (lit≤ tt) ∙ c.value.ensures
    ∙ value_of_node c.args.tree.now c.args.n here c.node-node.result c.plane.result c.args.end.now c.node-node.ensures.value c.plane.ensures.value stands

pub returns-clause-small : goal.returns-clause-small
returns-clause-small c =
    let w = (goal.at.returns-clause-small c).After-value in
    let less : unsigned_abs c.value.result ≤ 2 ^ 64 = omega (arith, small w) in
    subst (λ z. unsigned_abs z < 2 ^ 64) (sym (kept_128 c.value.result (2 ^ 64) less (lit≤ tt))) (small w)

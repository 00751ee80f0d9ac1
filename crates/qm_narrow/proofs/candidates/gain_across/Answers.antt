use Rattle.std.proofs.Common.{◌≡◌, ℕ, suc, ◌+◌, arith, subst, ◌∙◌}
use Rattle.qm_separators.specs.Gains.{Gains}
use Rattle.qm_separators.specs.inner.Below.{HasBelow}
use Rattle.qm_separators.specs.inner.Found.{SeparatesByEdge}
use Rattle.qm_separators.proofs.GainedPlanes.{gains_at_first, gains_next}
use Rattle.qm_separators.proofs.FoundMixes.{gains_edges}
use Rattle.qm_narrow.proofs.ListedNormals.{found_by_edges}
use Rattle.qm_narrow.proofs.candidates.gain_across.Goals as goal

pub loop-i-init : goal.loop-i-init
loop-i-init c = gains_at_first (SeparatesByEdge c.args.pair.now.source.now c.args.pair.now.pass.now c.args.pair.now.edges.now c.args.pair.now.others.now) c.args.planes.now.items

pub loop-i-preserved : goal.loop-i-preserved
loop-i-preserved c =
    let one : suc c.loop-i.i ≡ c.loop-i.i + 1 = omega arith in
    subst (λ (n : ℕ). Gains (HasBelow n (SeparatesByEdge c.args.pair.now.source.now c.args.pair.now.pass.now c.args.pair.now.edges.now c.args.pair.now.others.now)) c.args.planes.now.items c.gain_by_edge.new.planes.items) one
    (gains_next (SeparatesByEdge c.args.pair.now.source.now c.args.pair.now.pass.now c.args.pair.now.edges.now c.args.pair.now.others.now) c.loop-i.i c.args.planes.now.items c.loop-i.planes.items c.gain_by_edge.new.planes.items c.loop-i.invariant c.in_ok-gain_by_edge.ensures)

pub returns : goal.returns
returns c =
    let a = c.loop-i-test.false in let b = c.loop-i.auto.i-end in let n = c.len-i-end.ensures.count in
    let all : c.loop-i.i ≡ c.len-i-end.result = omega arith in
    gains_edges c.args.pair.now.source.now c.args.pair.now.pass.now c.args.pair.now.edges.now c.args.pair.now.others.now c.args.planes.now.items c.loop-i.planes.items
    (subst (λ (n : ℕ). Gains (HasBelow n (SeparatesByEdge c.args.pair.now.source.now c.args.pair.now.pass.now c.args.pair.now.edges.now c.args.pair.now.others.now)) c.args.planes.now.items c.loop-i.planes.items) (all ∙ n) c.loop-i.invariant)

pub gain_by_edge-requires-clause-found : goal.gain_by_edge-requires-clause-found
gain_by_edge-requires-clause-found c = found_by_edges c.args.pair.now.source.now c.args.pair.now.pass.now c.args.planes.now.items c.loop-i.planes.items c.args.pair.now.edges.now c.args.pair.now.others.now c.loop-i.i c.loop-i.invariant c.requires.found

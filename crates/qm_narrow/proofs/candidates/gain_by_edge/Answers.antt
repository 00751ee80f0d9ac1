use Rattle.std.proofs.Common.{◌≡◌, ℕ, suc, ◌+◌, arith, subst, ◌∙◌}
use Rattle.qm_separators.specs.Gains.{Gains}
use Rattle.qm_separators.specs.inner.Below.{HasBelow}
use Rattle.qm_separators.specs.inner.Found.{SeparatesAt}
use Rattle.qm_separators.proofs.GainedPlanes.{gains_at_first, gains_next}
use Rattle.qm_narrow.proofs.ListedNormals.{found_by_corners}
use Rattle.qm_narrow.proofs.candidates.gain_by_edge.Goals as goal

pub loop-k-init : goal.loop-k-init
loop-k-init c = gains_at_first (SeparatesAt c.args.pair.now.source.now c.args.pair.now.pass.now c.args.pair.now.edges.now c.args.pair.now.others.now c.args.i) c.args.planes.now.items

pub loop-k-preserved : goal.loop-k-preserved
loop-k-preserved c =
    let one : suc c.loop-k.k ≡ c.loop-k.k + 1 = omega arith in
    subst (λ (n : ℕ). Gains (HasBelow n (SeparatesAt c.args.pair.now.source.now c.args.pair.now.pass.now c.args.pair.now.edges.now c.args.pair.now.others.now c.args.i)) c.args.planes.now.items c.gain_at.new.planes.items) one
    (gains_next (SeparatesAt c.args.pair.now.source.now c.args.pair.now.pass.now c.args.pair.now.edges.now c.args.pair.now.others.now c.args.i) c.loop-k.k c.args.planes.now.items c.loop-k.planes.items c.gain_at.new.planes.items c.loop-k.invariant c.in_ok-gain_at.ensures)

pub returns : goal.returns
returns c =
    let a = c.loop-k-test.false in let b = c.loop-k.auto.k-end in let n = c.len-k-end.ensures.count in
    let all : c.loop-k.k ≡ c.len-k-end.result = omega arith in
    subst (λ (n : ℕ). Gains (HasBelow n (SeparatesAt c.args.pair.now.source.now c.args.pair.now.pass.now c.args.pair.now.edges.now c.args.pair.now.others.now c.args.i)) c.args.planes.now.items c.loop-k.planes.items) (all ∙ n) c.loop-k.invariant

pub gain_at-requires-clause-found : goal.gain_at-requires-clause-found
gain_at-requires-clause-found c = found_by_corners c.args.pair.now.source.now c.args.pair.now.pass.now c.args.planes.now.items c.loop-k.planes.items c.args.pair.now.edges.now c.args.pair.now.others.now c.args.i c.loop-k.k c.loop-k.invariant c.requires.found

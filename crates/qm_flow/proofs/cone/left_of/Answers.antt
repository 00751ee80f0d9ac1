use Rattle.std.proofs.Common.{length, ap, ◌∙◌}
use Rattle.std.specs.Bool.{then_some}
use Rattle.qm_chains.proofs.Cones.{left_of_cut}
use Rattle.qm_flow.proofs.cone.left_of.Goals as goal

pub returns-clause-left : goal.returns-clause-left
returns-clause-left g c =
    let its = c.cut_frame.ensures.left in
    left_of_cut c.args.flow.now.world.now c.args.flow.now.first c.args.frame.now c.args.found.now c.args.entered c.cone_of.new.scratch.cone its.mask (then_some c.cut_frame.result c.cut_frame.new.frame) c.in_ok-cone_of.ensures.cone its.cut its.left_is

pub returns-clause-wide : goal.returns-clause-wide
returns-clause-wide g c = record {
  met = ap length c.cut_frame.ensures.met ∙ c.requires.of_world.wide.met;
  mask = c.cut_frame.ensures.wide ∙ c.requires.of_world.wide.mask;
  found = c.in_ok-cone_of.ensures.wide;
}

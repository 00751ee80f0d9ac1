use Rattle.std.proofs.Common.{get_or}
use Rattle.std.proofs.lemmas.List.Elements.{Contains-get_or}
use Rattle.std.proofs.lemmas.Option.{slice_get_within}
use Rattle.qm_lines.proofs.Drawing.{may_draw_after, drawn_none, drawn_on}
use Rattle.qm_lines.proofs.showing.aim_out.Goals as goal

pub leaving-other-items-requires : goal.leaving-other-items-requires
leaving-other-items-requires g c = c.requires.leaf

pub loop-other-init : goal.loop-other-init
loop-other-init g c = drawn_none (g.met.S.RowSource.goes_on_itself _)

pub aim_through-requires : goal.aim_through-requires
aim_through-requires g c =
    let items = c.leaving-other-items.result.now in
    let other = get_or items c.loop-other.other-index 0 in
    let q = (c.leaving-other-items.ensures.leave other).0 (Contains-get_or items c.loop-other.other-index 0 c.loop-other-test.true) in
    record {
      may_draw = may_draw_after c.requires.may_draw (g.met.S.RowSource.same_world _ _) c.loop-other.invariant;
      other = slice_get_within c.args.first.now.world.now.portals other q.0 q.1;
    }

pub returns-in_err-aim_through : goal.returns-in_err-aim_through
returns-in_err-aim_through g c = drawn_on (g.met.S.RowSource.narrower _ _) (g.met.S.RowSource.goes_on_in_turn _ _ _) c.loop-other.invariant c.aim_through.ensures

pub loop-other-preserved : goal.loop-other-preserved
loop-other-preserved g c = drawn_on (g.met.S.RowSource.narrower _ _) (g.met.S.RowSource.goes_on_in_turn _ _ _) c.loop-other.invariant c.aim_through.ensures

use Rattle.std.proofs.Common.{[], get_or, arith}
use Rattle.std.proofs.lemmas.Option.{slice_get_within}
use Rattle.std.proofs.lemmas.List.Elements.{Contains-get_or}
use Rattle.qm_flow.proofs.PairsKept.{flow_same}
use Rattle.qm_flow.proofs.bars.bar_at.Goals as goal

pub get-requires : goal.get-requires
get-requires g c = let wide = (c.requires.pairs []).seen_wide in let within = c.requires.leaf in omega (arith, wide, within)

pub bar_each-requires-clause-portals : goal.bar_each-requires-clause-portals
bar_each-requires-clause-portals g c i other within =
    let its = (c.leaving-portals.ensures.leave (get_or c.leaving-portals.result.now i other)).0 (Contains-get_or c.leaving-portals.result.now i other within) in
    slice_get_within c.args.flow.now.world.now.portals (get_or c.leaving-portals.result.now i other) its.0 its.1

pub returns-else-get-clause-flow : goal.returns-else-get-clause-flow
returns-else-get-clause-flow g c found = flow_same (g.S.RowSource.ceilings c.args.source.now) found c.args.flow.now (c.requires.pairs found)

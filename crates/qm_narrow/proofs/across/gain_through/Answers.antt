use Rattle.std.proofs.Common.{sym, subst, inl}
use Rattle.qm_space.specs.Point.{whole_point}
use Rattle.qm_space.specs.Plane.{Plane}
use Rattle.qm_separators.specs.Across.{HasLowestNormal}
use Rattle.qm_separators.specs.Gains.{Gains}
use Rattle.qm_separators.specs.inner.Found.{PartsAlong}
use Rattle.qm_separators.proofs.Normals.{flipped_lowest_normal}
use Rattle.qm_narrow.proofs.Outlooks.{gains_nowhere, there_as_it_is, there_flipped}
use Rattle.qm_narrow.proofs.FineReaches.{first_side, told_side}
use Rattle.qm_narrow.proofs.ListedNormals.{found_along}
use Rattle.qm_narrow.proofs.LowestNormals.{gains_nothing, gains_both_sides}
use Rattle.qm_narrow.proofs.across.gain_through.Goals as goal

pub gain_where-requires-clause-lowest : goal.gain_where-requires-clause-lowest
gain_where-requires-clause-lowest c = c.in-Some.ensures.lowest

pub gain_where-requires-clause-not : goal.gain_where-requires-clause-not
gain_where-requires-clause-not c =
    there_as_it_is c.args.pair.now.source.now c.args.pair.now.pass.now (whole_point c.args.at) (whole_point c.args.from) (whole_point c.args.to)
    c.normal_through-normal.result c.normal_through-normal.ensures.exact c.args.planes.now.items _ c.as_slice.ensures.value c.requires.found c.past-told.result
    (told_side c.args.pair.now.source.now c.args.pair.now.pass.now c.normal_through-normal.result c.fine_reach.result c.fine_reach-2.result c.fine_reach.ensures c.fine_reach-2.ensures c.args.look.now.ahead c.without-outlook.result.ahead c.past-told.result.ahead
    (c.requires.told.ahead c.normal_through-normal.result c.normal_through-normal.ensures.exact) c.without-outlook.ensures.ahead c.past-told.ensures.ahead)
    (told_side c.args.pair.now.pass.now c.args.pair.now.source.now c.normal_through-normal.result c.fine_reach-2.result c.fine_reach.result c.fine_reach-2.ensures c.fine_reach.ensures c.args.look.now.back c.without-outlook.result.back c.past-told.result.back
    (c.requires.told.back c.normal_through-normal.result c.normal_through-normal.ensures.exact) c.without-outlook.ensures.back c.past-told.ensures.back)
    c.in-Some.plane c.in-Some.ensures

pub gain_where-requires-in-Some-clause-lowest : goal.gain_where-requires-in-Some-clause-lowest
gain_where-requires-in-Some-clause-lowest c = subst HasLowestNormal (sym c.flipped-turned.ensures) (flipped_lowest_normal c.in-Some.plane c.in-Some.ensures.lowest)

pub gain_where-requires-in-Some-clause-not : goal.gain_where-requires-in-Some-clause-not
gain_where-requires-in-Some-clause-not c = λ unset h parts.
    (c.in_ok-gain_where-in-Some.ensures.members h).1 (inl (there_flipped c.args.pair.now.source.now c.args.pair.now.pass.now (whole_point c.args.at) (whole_point c.args.from) (whole_point c.args.to)
    c.normal_through-normal.result c.normal_through-normal.ensures.exact c.args.planes.now.items _ c.as_slice.ensures.value c.requires.found c.past-told.result
    (told_side c.args.pair.now.source.now c.args.pair.now.pass.now c.normal_through-normal.result c.fine_reach.result c.fine_reach-2.result c.fine_reach.ensures c.fine_reach-2.ensures c.args.look.now.ahead c.without-outlook.result.ahead c.past-told.result.ahead
    (c.requires.told.ahead c.normal_through-normal.result c.normal_through-normal.ensures.exact) c.without-outlook.ensures.ahead c.past-told.ensures.ahead)
    (told_side c.args.pair.now.pass.now c.args.pair.now.source.now c.normal_through-normal.result c.fine_reach-2.result c.fine_reach.result c.fine_reach-2.ensures c.fine_reach.ensures c.args.look.now.back c.without-outlook.result.back c.past-told.result.back
    (c.requires.told.back c.normal_through-normal.result c.normal_through-normal.ensures.exact) c.without-outlook.ensures.back c.past-told.ensures.back)
    c.in-Some.plane c.in-Some.ensures unset h
    (subst (λ (g : Plane). PartsAlong c.args.pair.now.source.now c.args.pair.now.pass.now g h) c.flipped-turned.ensures parts)))

pub returns-then-is_none : goal.returns-then-is_none
returns-then-is_none c =
    gains_nowhere c.args.pair.now.source.now c.args.pair.now.pass.now (whole_point c.args.at) (whole_point c.args.from) (whole_point c.args.to)
    c.normal_through-normal.result c.normal_through-normal.ensures.exact c.args.planes.now.items _ c.as_slice.ensures.value c.requires.found c.without-outlook.result
    (first_side c.args.look.now.ahead c.without-outlook.result.ahead (c.requires.told.ahead c.normal_through-normal.result c.normal_through-normal.ensures.exact) c.without-outlook.ensures.ahead)
    (first_side c.args.look.now.back c.without-outlook.result.back (c.requires.told.back c.normal_through-normal.result c.normal_through-normal.ensures.exact) c.without-outlook.ensures.back)
    (c.is_none.ensures.ahead c.if-is_none.true) (c.is_none.ensures.back c.if-is_none.true)

pub returns-then-is_none-2 : goal.returns-then-is_none-2
returns-then-is_none-2 c =
    gains_nowhere c.args.pair.now.source.now c.args.pair.now.pass.now (whole_point c.args.at) (whole_point c.args.from) (whole_point c.args.to)
    c.normal_through-normal.result c.normal_through-normal.ensures.exact c.args.planes.now.items _ c.as_slice.ensures.value c.requires.found c.past-told.result
    (told_side c.args.pair.now.source.now c.args.pair.now.pass.now c.normal_through-normal.result c.fine_reach.result c.fine_reach-2.result c.fine_reach.ensures c.fine_reach-2.ensures c.args.look.now.ahead c.without-outlook.result.ahead c.past-told.result.ahead
    (c.requires.told.ahead c.normal_through-normal.result c.normal_through-normal.ensures.exact) c.without-outlook.ensures.ahead c.past-told.ensures.ahead)
    (told_side c.args.pair.now.pass.now c.args.pair.now.source.now c.normal_through-normal.result c.fine_reach-2.result c.fine_reach.result c.fine_reach-2.ensures c.fine_reach.ensures c.args.look.now.back c.without-outlook.result.back c.past-told.result.back
    (c.requires.told.back c.normal_through-normal.result c.normal_through-normal.ensures.exact) c.without-outlook.ensures.back c.past-told.ensures.back)
    (c.is_none-2.ensures.ahead c.if-is_none-2.true) (c.is_none-2.ensures.back c.if-is_none-2.true)

pub returns-in-None : goal.returns-in-None
returns-in-None c =
    gains_nothing c.args.pair.now.source.now c.args.pair.now.pass.now (whole_point c.args.at) (whole_point c.args.from) (whole_point c.args.to) c.requires.candidate
    c.normal_through-normal.result c.normal_through-normal.ensures.exact c.in-None.ensures c.args.planes.now.items

pub returns-in_ok-gain_where-in-Some-2 : goal.returns-in_ok-gain_where-in-Some-2
returns-in_ok-gain_where-in-Some-2 c =
    gains_both_sides c.args.pair.now.source.now c.args.pair.now.pass.now (whole_point c.args.at) (whole_point c.args.from) (whole_point c.args.to) c.requires.candidate
    c.normal_through-normal.result c.normal_through-normal.ensures.exact c.in-Some.plane c.in-Some.ensures
    c.args.planes.now.items c.gain_where.new.planes.items c.gain_where-in-Some.new.planes.items
    c.in_ok-gain_where-in-Some.ensures
    (subst (λ (h : Plane). Gains (PartsAlong c.args.pair.now.source.now c.args.pair.now.pass.now h) c.gain_where.new.planes.items c.gain_where-in-Some.new.planes.items) c.flipped-turned.ensures c.in_ok-gain_where-in-Some-2.ensures)

pub gain_where-requires-in-Some-clause-found : goal.gain_where-requires-in-Some-clause-found
gain_where-requires-in-Some-clause-found c = found_along c.args.pair.now.source.now c.args.pair.now.pass.now c.args.planes.now.items c.gain_where.new.planes.items _ c.in-Some.ensures.lowest c.in_ok-gain_where-in-Some.ensures c.requires.found

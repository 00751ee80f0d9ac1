use Rattle.std.proofs.Common.{ℕ, List, get_or, refl, subst, arith}
use Rattle.std.proofs.lemmas.List.{take_all}
use Rattle.qm_base.proofs.SweepSteps.{IsSpreadBy, spread_more, spread_all, leaving_within}
use Rattle.qm_base.proofs.EnteringSteps.{place_entered, leaf_entered, portal_entered}
use Rattle.qm_base.proofs.sweeping.spread.Goals as goal

pub offset_bounds-ways-q : goal.offset_bounds-ways-q
offset_bounds-ways-q c =
    let within = leaving_within c.args.world.now.portals c.args.leaf c.leaving-leaving.result.now c.leaving-leaving.ensures c.loop-q.q-index 0 c.loop-q-test.true in
    let each = c.requires.one_each in
    omega (arith, within, each)

pub bounds-ways-q : goal.bounds-ways-q
bounds-ways-q c =
    let within = leaving_within c.args.world.now.portals c.args.leaf c.leaving-leaving.result.now c.leaving-leaving.ensures c.loop-q.q-index 0 c.loop-q-test.true in
    let each = c.requires.one_each in
    omega (arith, within, each)

pub offset_bounds-entered-q : goal.offset_bounds-entered-q
offset_bounds-entered-q c =
    let within = place_entered c.args.world.now c.args.entered.now c.requires.entered c.args.leaf c.leaving-leaving.result.now c.leaving-leaving.ensures c.loop-q.q-index c.loop-q-test.true in
    omega (arith, within)

pub bounds-entered-q : goal.bounds-entered-q
bounds-entered-q c = place_entered c.args.world.now c.args.entered.now c.requires.entered c.args.leaf c.leaving-leaving.result.now c.leaving-leaving.ensures c.loop-q.q-index c.loop-q-test.true

pub loop-q-preserved : goal.loop-q-preserved
loop-q-preserved c =
    let places = c.leaving-leaving.result.now in
    let portal = portal_entered c.args.world.now c.args.entered.now c.requires.entered c.args.leaf places c.leaving-leaving.ensures c.loop-q.q-index c.loop-q-test.true in
    let within = leaf_entered c.args.world.now c.args.entered.now c.requires.entered c.args.leaf places c.leaving-leaving.ensures c.loop-q.q-index c.loop-q-test.true in
    rw portal.2 (spread_more c.args.world.now.portals c.args.ways.now c.args.due c.args.seen.now places c.loop-q.q-index (get_or places c.loop-q.q-index 0) c.loop-q.seen portal.0 c.loop-q-test.true refl c.loop-q.invariant portal.1
    (let to = portal.2 in let wide = c.requires.wide in omega (arith, within, to, wide)))

pub returns : goal.returns
returns c =
    let places = c.leaving-leaving.result.now in
    spread_all c.args.world.now.portals c.args.ways.now c.args.due c.args.seen.now c.args.leaf places c.loop-q.seen c.leaving-leaving.ensures
    (subst (λ (list : List ℕ). IsSpreadBy c.args.world.now.portals c.args.ways.now list c.args.due c.args.seen.now c.loop-q.seen) (take_all c.loop-q.q-index places (let end = c.loop-q-test.false in omega (arith, end))) c.loop-q.invariant)

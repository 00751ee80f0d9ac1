use Rattle.std.proofs.Common.{◌≡◌, ◌∙◌, ap, sym, subst, get_or, length, List}
use Rattle.std.proofs.lemmas.List.{with_items_is}
use Rattle.std.proofs.lemmas.Option.{slice_get-get_or}
use Rattle.qm_base.specs.declared.beside.Beside.{Beside}
use Rattle.qm_base.specs.inner.Besides.{IsPutIn}
use Rattle.qm_base.proofs.LaneSteps.{portals_within}
use Rattle.qm_base.proofs.BesideSteps.{besides_none, besides_more, besides_all, fronts_within, behinds_within}
use Rattle.qm_base.proofs.beside.besides.Goals as goal

pub loop-k-init : goal.loop-k-init
loop-k-init c = besides_none c.args.world.now.portals c.args.lanes.now c.args.planes.now c.in_ok-rows.rows.items c.in_ok-rows.ensures

pub pane-pane-requires : goal.pane-pane-requires
pane-pane-requires c = portals_within c.args.world.now.portals c.args.lanes.now c.requires.each c.loop-k.k c.index-lanes-k.result c.loop-k-test.true

pub put_in-requires-clause-front : goal.put_in-requires-clause-front
put_in-requires-clause-front c = rw c.deref_mut.ensures.value (fronts_within c.args.world.now.portals c.args.lanes.now c.args.planes.now c.loop-k.k c.loop-k.rows.items c.loop-k.invariant c.loop-k-test.true)

pub put_in-requires-clause-behind : goal.put_in-requires-clause-behind
put_in-requires-clause-behind c = rw c.deref_mut.ensures.value (behinds_within c.args.world.now.portals c.args.lanes.now c.args.planes.now c.loop-k.k c.loop-k.rows.items c.loop-k.invariant c.loop-k-test.true)

pub loop-k-preserved : goal.loop-k-preserved
loop-k-preserved c =
    let lanes = c.args.lanes.now in
    let old = c.loop-k.rows in
    let new = c.put_in.new.rows in
    let value = c.pane-pane.ensures in
    let lane = get_or lanes c.loop-k.k c.index-lanes-k.result in
    let same : length new ≡ length old.items = c.put_in.ensures.same_count ∙ ap length c.deref_mut.ensures.value in
    let put = subst (λ (rows : List Beside). IsPutIn c.pane-pane.result.now.winding c.args.planes.now c.loop-k.k rows new) c.deref_mut.ensures.value c.put_in.ensures in
    rw (with_items_is old new (same ∙ sym old.ok.0))
    (besides_more c.args.world.now.portals lanes c.args.planes.now c.loop-k.k lane value.0 c.pane-pane.result.now.winding old.items new
    (slice_get-get_or lanes c.loop-k.k c.index-lanes-k.result c.loop-k-test.true) value.1 value.2 c.loop-k.invariant put)

pub returns : goal.returns
returns c = besides_all c.args.world.now.portals c.args.lanes.now c.args.planes.now c.loop-k.k c.loop-k.rows.items c.loop-k-test.false c.loop-k.invariant

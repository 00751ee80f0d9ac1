use Rattle.std.proofs.Common.{◌≡◌, ◌<◌, ◌∙◌, ℕ, Bool, List, length, sym, subst}
use Rattle.std.proofs.lemmas.Result.{IfOk-weaker}
use Rattle.qm_chains.proofs.Walks.{walk_ends}
use Rattle.qm_contacts.specs.NumberedLeaves.{numbered_leaves}
use Rattle.qm_contacts.specs.OwnPortals.{HasOwnPortals}
use Rattle.qm_contacts.specs.Portals.{Portal}
use Rattle.qm_contacts.specs.World.{World}
use Rattle.qm_lists.specs.WorkList.{IsIn}
use Rattle.qm_chains.specs.Shown.{IsAt, IsShown}
use Rattle.qm_segments.specs.Sight.{IsSoundRow}
use Rattle.qm_sight.specs.InCeiling.{IsInCeiling}
use Rattle.qm_sight.specs.WordInSight.{LieWithin}
use Rattle.qm_flow.specs.inner.BegunPairs.{ArePairsBegun}
use Rattle.qm_flow.specs.inner.FirstMask.{IsFirstMask, IsSomeFirstMask}
use Rattle.qm_flow.specs.inner.FlowPairs.{pairs_of}
use Rattle.qm_flow.specs.inner.FreshStack.{IsFreshStack}
use Rattle.qm_flow.specs.inner.WalkSoFar.{HasEnded}
use Rattle.qm_flow.proofs.portal_row.flow.Goals as goal

pub walk-requires : goal.walk-requires
walk-requires g c =
    let flow = c.in_ok-flow.flow in
    let same = sym c.in_ok-flow.ensures.world in
    let portal = c.args.portal in
    let now = g.S.RowSource.ceilings c.of.new.source in
    record {
      portal = subst (λ (w : World). portal < length w.portals) same c.requires.portal_in_range;
      own_portals = subst HasOwnPortals same c.own_portals.ensures;
      same_world = g.met.S.RowSource.same_world c.args.source.now c.of.new.source c.of.ensures.on ∙ c.requires.same_world ∙ same;
      begun = subst (λ (w : World). ArePairsBegun w portal (pairs_of flow)) same c.in_ok-flow.ensures.begun;
      seen = subst (λ (w : World). IsSomeFirstMask w now portal flow.seen) same (record {
        ceilings = g.S.RowSource.ceilings c.args.source.now;
        below = g.met.S.RowSource.narrower c.args.source.now c.of.new.source c.of.ensures.on;
        mask = c.in_ok-flow.ensures.seen;
      });
      fresh = subst (λ (w : World). IsFreshStack w portal c.in_ok-stack.stack) same c.in_ok-stack.ensures.fresh;
    }

pub returns : goal.returns
returns g c =
    let world = c.args.world.now in
    let flow = c.in_ok-flow.flow in
    let same = c.in_ok-flow.ensures.world in
    let ceilings = g.S.RowSource.ceilings c.args.source.now in
    let Walked = λ (row : List Bool). (all : List (List Bool)) → LieWithin (g.S.RowSource.ceilings c.of.new.source) all → IsFirstMask flow.world.now all c.args.portal flow.seen → HasEnded flow.world.now all c.args.portal row in
    let ends : (row : List Bool) → Walked row → HasEnded world ceilings c.args.portal row =
    λ row all. subst (λ (w : World). HasEnded w ceilings c.args.portal row) same
    (all ceilings (g.met.S.RowSource.narrower c.args.source.now c.of.new.source c.of.ensures.on) (subst (λ (w : World). IsFirstMask w ceilings c.args.portal flow.seen) (sym same) c.in_ok-flow.ensures.seen)) in
    record {
      wide = IfOk-weaker c.walk.result Walked (λ row. length row ≡ length (numbered_leaves world.tree)) (λ row all. (ends row all).wide) c.walk.ensures.walk;
      sound = IfOk-weaker c.walk.result Walked (λ row. (first : Portal) → IsAt world.portals c.args.portal first → IsSoundRow world.tree first row)
          (λ row all first at n sight. walk_ends world (IsInCeiling ceilings) c.args.portal row (ends row all) first at n sight) c.walk.ensures.walk;
      open_chains = IfOk-weaker c.walk.result Walked (λ row. (n : ℕ) → IsIn row n → IsShown world.portals (IsInCeiling ceilings n) c.args.portal n) (λ row all. (ends row all).shown) c.walk.ensures.walk;
      on = g.met.S.RowSource.goes_on_in_turn c.args.source.now c.of.new.source c.walk.new.source c.of.ensures.on c.walk.ensures.on;
    }

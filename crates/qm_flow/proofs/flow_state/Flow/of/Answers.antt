use Rattle.std.proofs.Common.{ℕ, None, true, length, replicate, refl, sym, ap, ◌∙◌, subst, arith}
use Rattle.qm_contacts.specs.Portals.{Portal}
use Rattle.qm_contacts.specs.World.{World}
use Rattle.qm_separators.specs.ChainState.{first_state}
use Rattle.qm_chains.specs.inner.Narrowing.{IsNarrowed}
use Rattle.qm_chains.specs.inner.OwnRows.{AreOwnRows, MustHave, CanHave}
use Rattle.qm_chains.proofs.TriedPortals.{same_portal}
use Rattle.qm_sight.specs.WordInSight.{ceiling_of}
use Rattle.qm_flow.proofs.FirstMasks.{narrowed_is_first, pairs_begin}
use Rattle.qm_flow.proofs.OwnAnswers.{fresh_own}
use Rattle.qm_flow.proofs.flow_state.Flow.of.Goals as goal

pub narrow-requires-clause-portal : goal.narrow-requires-clause-portal
narrow-requires-clause-portal g c =
    let own = fresh_own c.in_ok-own.own (length c.args.world.now.portals) (c.in_ok-own.ensures ∙ ap (λ (n : ℕ). replicate n None) c.portals.ensures) c.args.world.now refl in
    let one = own.one_each in
    let within = c.requires.first in
    omega (arith, one, within)

pub narrow-requires-clause-own : goal.narrow-requires-clause-own
narrow-requires-clause-own g c = subst (λ (w : World). AreOwnRows w c.in_ok-own.own) (sym c.requires.same_world)
    (fresh_own c.in_ok-own.own (length c.args.world.now.portals) (c.in_ok-own.ensures ∙ ap (λ (n : ℕ). replicate n None) c.portals.ensures) c.args.world.now refl)

pub returns-clause-seen : goal.returns-clause-seen
returns-clause-seen g c = narrowed_is_first c.args.world.now (g.S.RowSource.ceilings c.args.source.now) c.args.first c.in_ok-own.own c.in_ok-seen.seen c.narrow.new.mask
    (c.in_ok-own.ensures ∙ ap (λ (n : ℕ). replicate n None) c.portals.ensures) (c.in_ok-seen.ensures ∙ ap (λ (n : ℕ). replicate n true) c.leaves.ensures)
    (subst (λ (w : World). IsNarrowed (MustHave w c.in_ok-own.own c.args.first) (CanHave (ceiling_of (g.S.RowSource.ceilings c.args.source.now) c.args.first) c.in_ok-own.own c.args.first) c.in_ok-seen.seen c.narrow.new.mask) c.requires.same_world c.narrow.ensures.narrowed)

pub returns-clause-begun : goal.returns-clause-begun
returns-clause-begun g c =
    let world = c.args.world.now in
    let none = c.in_ok-own.ensures ∙ ap (λ (n : ℕ). replicate n None) c.portals.ensures in
    let start = c.in_ok-start.ensures in
    pairs_begin world (g.S.RowSource.ceilings c.args.source.now) (record { first = c.args.first; start = c.in_ok-start.start.state; seen = c.narrow.new.mask; own = c.in_ok-own.own }) c.requires.own_portals c.requires.first
    (λ first at. start.state_is ∙ ap (λ (q : Portal). first_state q.winding q.into) (same_portal world.portals c.args.first start.first first start.first_is at))
    (narrowed_is_first world (g.S.RowSource.ceilings c.args.source.now) c.args.first c.in_ok-own.own c.in_ok-seen.seen c.narrow.new.mask none (c.in_ok-seen.ensures ∙ ap (λ (n : ℕ). replicate n true) c.leaves.ensures)
    (subst (λ (w : World). IsNarrowed (MustHave w c.in_ok-own.own c.args.first) (CanHave (ceiling_of (g.S.RowSource.ceilings c.args.source.now) c.args.first) c.in_ok-own.own c.args.first) c.in_ok-seen.seen c.narrow.new.mask) c.requires.same_world c.narrow.ensures.narrowed))
    none

use Rattle.std.proofs.Common.{◌≡◌, ℕ, List, Bool, length, sym, ap, ◌∙◌, subst, arith}
use Rattle.std.specs.Bool.{then_some}
use Rattle.std.proofs.lemmas.Result.{IfOk-weaker}
use Rattle.qm_contacts.specs.NumberedLeaves.{numbered_leaves}
use Rattle.qm_contacts.specs.World.{World}
use Rattle.qm_chains.specs.inner.Frame.{Frame}
use Rattle.qm_chains.specs.inner.Narrowing.{IsNarrowed}
use Rattle.qm_chains.specs.inner.OwnRows.{AreOwnRows, MustHave, CanHave}
use Rattle.qm_chains.specs.inner.Pairs.{Pairs}
use Rattle.qm_sight.specs.WordInSight.{ceiling_of}
use Rattle.qm_flow.specs.inner.FlowPairs.{pairs_of}
use Rattle.qm_flow.specs.inner.Round.{IsTry, TriesBy}
use Rattle.qm_flow.proofs.step.go_through.Goals as goal

-- the mask is narrowed over the ceilings that there are now
narrowed_here : (world source_world : World) (now : List (List Bool)) (pairs : Pairs) (number : ℕ) (inside frame mask : List Bool) → source_world ≡ world → inside ≡ frame →
    IsNarrowed (MustHave source_world pairs.own number) (CanHave (ceiling_of now number) pairs.own number) inside mask → IsNarrowed (MustHave world pairs.own number) (CanHave (ceiling_of now number) pairs.own number) frame mask
narrowed_here world source_world now pairs number inside frame mask same_world same_mask narrowed =
    subst (λ (w : World). IsNarrowed (MustHave w pairs.own number) (CanHave (ceiling_of now number) pairs.own number) frame mask) same_world
    (subst (λ (m : List Bool). IsNarrowed (MustHave source_world pairs.own number) (CanHave (ceiling_of now number) pairs.own number) m mask) same_mask narrowed)

pub returns-then-has_new_beside-clause-tried : goal.returns-then-has_new_beside-clause-tried
returns-then-has_new_beside-clause-tried g c =
    let world = c.args.flow.now.world.now in
    let now = g.S.RowSource.ceilings c.args.source.now in
    let pairs = pairs_of c.args.flow.now in
    let frame = c.args.frame.now in
    let portal = c.args.portal in
    let found = c.args.found.now in
    let mask = c.narrow.new.mask in
    let narrowed = narrowed_here world (g.S.RowSource.world c.args.source.now) now pairs portal c.copy_from.new.self frame.mask mask c.requires.of_world.same_world (c.copy_from.ensures ∙ ap (λ (f : Frame). f.mask) c.frame.view_is) c.narrow.ensures.narrowed in
    IfOk-weaker c.enter_next.result (λ on. TriesBy world pairs frame portal mask found c.enter_next.new.found (then_some on c.enter_next.new.room.next))
    (λ on. IsTry world now pairs frame portal found c.enter_next.new.found (then_some on c.enter_next.new.room.next))
    (λ on tried. tried now narrowed) c.enter_next.ensures.tried

pub returns-clause-tried : goal.returns-clause-tried
returns-clause-tried g c =
    let world = c.args.flow.now.world.now in
    let now = g.S.RowSource.ceilings c.args.source.now in
    c.in_ok-find_alone.ensures.tried now
    (narrowed_here world (g.S.RowSource.world c.args.source.now) now (pairs_of c.args.flow.now) c.args.portal c.copy_from.new.self c.args.frame.now.mask c.narrow.new.mask c.requires.of_world.same_world (c.copy_from.ensures ∙ ap (λ (f : Frame). f.mask) c.frame.view_is) c.narrow.ensures.narrowed)

-- what is asked besides

pub copy_from-requires : goal.copy_from-requires
copy_from-requires g c = ap (λ (f : Frame). length f.mask) c.frame.view_is ∙ c.requires.of_world.wide.mask ∙ sym (ap (λ (f : Frame). length f.mask) c.next.view_is ∙ c.requires.spares.mask)

pub narrow-requires-clause-portal : goal.narrow-requires-clause-portal
narrow-requires-clause-portal g c =
    let one = c.requires.of_world.pairs_are.own_are.one_each in
    let within = c.requires.portal in
    (omega (arith, one, within))

pub narrow-requires-clause-own : goal.narrow-requires-clause-own
narrow-requires-clause-own g c =
    (subst (λ (w : World). AreOwnRows w c.args.flow.now.own) (sym c.requires.of_world.same_world) c.requires.of_world.pairs_are.own_are)

pub narrow-requires-clause-wide : goal.narrow-requires-clause-wide
narrow-requires-clause-wide g c =
    ap length c.copy_from.ensures ∙ ap (λ (f : Frame). length f.mask) c.frame.view_is ∙ c.requires.of_world.wide.mask ∙ ap (λ (w : World). length (numbered_leaves w.tree)) (sym c.requires.of_world.same_world)

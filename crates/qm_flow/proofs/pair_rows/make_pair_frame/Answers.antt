use Rattle.std.proofs.Common.{ℕ, true, false, Bool, List, length, replicate, set, sym, ap, ◌∙◌, subst, arith}
use Rattle.qm_contacts.specs.NumberedLeaves.{numbered_leaves}
use Rattle.qm_contacts.specs.Portals.{Portal}
use Rattle.qm_contacts.specs.World.{World}
use Rattle.qm_chains.specs.inner.Frame.{Frame}
use Rattle.qm_chains.specs.inner.Narrowing.{IsNarrowed}
use Rattle.qm_chains.specs.inner.OwnRows.{AreOwnRows, MustHave, CanHave}
use Rattle.qm_chains.proofs.TriedPortals.{same_portal}
use Rattle.qm_sight.specs.WordInSight.{ceiling_of}
use Rattle.std.proofs.lemmas.List.{length-set, length-replicate}
use Rattle.qm_flow.specs.inner.FlowPairs.{pairs_of}
use Rattle.qm_flow.proofs.FourLeaves.{four_wide, four_met}
use Rattle.qm_flow.proofs.pair_rows.make_pair_frame.Goals as goal

pub narrow-requires-clause-portal : goal.narrow-requires-clause-portal
narrow-requires-clause-portal g c =
    let one = c.requires.own.one_each in
    let within = c.requires.portal in
    (omega (arith, one, within))

pub narrow-requires-clause-own : goal.narrow-requires-clause-own
narrow-requires-clause-own g c =
    (subst (λ (w : World). AreOwnRows w c.args.flow.now.own) (sym c.requires.same_world) c.requires.own)

pub returns-clause-frame : goal.returns-clause-frame
returns-clause-frame g c =
    let world = c.args.flow.now.world.now in
    let pairs = (pairs_of c.args.flow.now) in
    let leaves = length (numbered_leaves world.tree) in
    let ceiling = ceiling_of (g.S.RowSource.ceilings c.args.source.now) c.args.portal in
    let met_is = c.set-4.ensures ∙ ap (λ (row : List Bool). set row c.to-2.result true) (c.set-3.ensures ∙ ap (λ (row : List Bool). set row c.from-2.result true) (c.set-2.ensures ∙ ap (λ (row : List Bool). set row c.to.result true) (c.set.ensures ∙ ap (λ (row : List Bool). set row c.from.result true) (c.clear.ensures ∙ ap (λ (row : List Bool). replicate (length row) false) (ap (λ (f : Frame). f.met) c.frame.view_is) ∙ ap (λ (n : ℕ). replicate n false) c.requires.wide.met)))) in
    let from = c.from.ensures.value in
    let to = c.to.ensures.value in
    let q_from = c.from-2.ensures.value in
    let q_to = c.to-2.ensures.value in
    let narrowed_here = subst (λ (w : World). IsNarrowed (MustHave w c.args.flow.now.own c.args.portal) (CanHave ceiling c.args.flow.now.own c.args.portal) c.copy_from.new.self c.narrow.new.mask) c.requires.same_world c.narrow.ensures.narrowed in
    let narrowed_own = narrowed_here in
    record {
      state_is = ap (λ (f : Frame). f.state) c.frame.view_is;
      met_wide = four_wide leaves c.from.result c.to.result c.from-2.result c.to-2.result _ met_is;
      met_is = λ first q first_is q_is.
          let at = first_is in
          four_met leaves c.from.result c.to.result c.from-2.result c.to-2.result _ met_is first.from first.to q.from q.to
          (from.2 ∙ ap (λ (r : Portal). r.from) (same_portal world.portals c.args.flow.now.first from.0 first from.1 at))
          (to.2 ∙ ap (λ (r : Portal). r.to) (same_portal world.portals c.args.flow.now.first to.0 first to.1 at))
          (q_from.2 ∙ ap (λ (r : Portal). r.from) (same_portal world.portals c.args.portal q_from.0 q q_from.1 q_is))
          (q_to.2 ∙ ap (λ (r : Portal). r.to) (same_portal world.portals c.args.portal q_to.0 q q_to.1 q_is));
      narrowed = subst (λ (row : List Bool). IsNarrowed (MustHave world pairs.own c.args.portal) (CanHave ceiling pairs.own c.args.portal) row c.narrow.new.mask) c.copy_from.ensures narrowed_own;
    }

pub copy_from-requires : goal.copy_from-requires
copy_from-requires g c = c.requires.wide.found ∙ sym (ap (λ (f : Frame). length f.mask) c.frame.view_is ∙ c.requires.wide.mask)

pub narrow-requires-clause-wide : goal.narrow-requires-clause-wide
narrow-requires-clause-wide g c =
    ap length c.copy_from.ensures ∙ c.requires.wide.found ∙ ap (λ (w : World). length (numbered_leaves w.tree)) (sym c.requires.same_world)

pub set-requires : goal.set-requires
set-requires g c =
    let within = c.from.ensures.within in
    let wide = ap length c.clear.ensures ∙ length-replicate (length c.frame.inside.met) false ∙ ap (λ (f : Frame). length f.met) c.frame.view_is ∙ c.requires.wide.met in
    omega (arith, within, wide)

pub set-requires-2 : goal.set-requires-2
set-requires-2 g c =
    let within = c.to.ensures.within in
    let wide = ap length c.set.ensures ∙ length-set c.clear.new.self c.from.result true ∙ ap length c.clear.ensures ∙ length-replicate (length c.frame.inside.met) false ∙ ap (λ (f : Frame). length f.met) c.frame.view_is ∙ c.requires.wide.met in
    omega (arith, within, wide)

pub set-requires-3 : goal.set-requires-3
set-requires-3 g c =
    let within = c.from-2.ensures.within in
    let wide = ap length c.set-2.ensures ∙ length-set c.set.new.self c.to.result true ∙ ap length c.set.ensures ∙ length-set c.clear.new.self c.from.result true ∙ ap length c.clear.ensures ∙ length-replicate (length c.frame.inside.met) false ∙ ap (λ (f : Frame). length f.met) c.frame.view_is ∙ c.requires.wide.met in
    omega (arith, within, wide)

pub set-requires-4 : goal.set-requires-4
set-requires-4 g c =
    let within = c.to-2.ensures.within in
    let wide = ap length c.set-3.ensures ∙ length-set c.set-2.new.self c.from-2.result true ∙ ap length c.set-2.ensures ∙ length-set c.set.new.self c.to.result true ∙ ap length c.set.ensures ∙ length-set c.clear.new.self c.from.result true ∙ ap length c.clear.ensures ∙ length-replicate (length c.frame.inside.met) false ∙ ap (λ (f : Frame). length f.met) c.frame.view_is ∙ c.requires.wide.met in
    omega (arith, within, wide)

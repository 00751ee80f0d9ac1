use Rattle.std.proofs.Common.{◌≡◌, ◌+◌, ◌<◌, ℕ, length, get_or, List, All, map, sym, ap, ◌∙◌, subst, arith}
use Rattle.std.specs.List.{slice_range}
use Rattle.std.proofs.lemmas.List.{get_or_default}
use Rattle.qm_contacts.specs.NumberedLeaves.{numbered_leaves}
use Rattle.qm_contacts.specs.Portals.{Portal}
use Rattle.qm_contacts.specs.World.{World, AreLeaving}
use Rattle.qm_portal.specs.declared.exit.Exit.{Exit}
use Rattle.qm_portal.specs.Exits.{IsExitOf}
use Rattle.qm_portal.proofs.LeafExits.{leaving_exits, each_exit, exits_among}
use Rattle.qm_portal.proofs.worlds.World.exits.Goals as goal

pub returns-clause-leaving : goal.returns-clause-leaving
returns-clause-leaving c =
    let parts = c.self.inside in
    let begins = parts.leaving.begins.items in
    let places = parts.leaving.places.items in
    let rows = c.self.invariant.0.leaving in
    let n = c.args.n in
    let first = c.index.result.now in
    let end = c.index-2.result.now in
    let count : length parts.numbers.numbered.items ≡ length (numbered_leaves c.args.self.now.tree) = ap length c.self.invariant.0.numbers.numbered_are ∙ ap (λ (w : World). length (numbered_leaves w.tree)) c.self.view_is in
    let within : n < length parts.numbers.numbered.items = omega (arith, c.requires, count) in
    let first_is : first ≡ get_or begins n 0 = c.index.ensures ∙ get_or_default begins n first 0 (omega (arith, within, rows.one_each)) in
    let end_is : end ≡ get_or begins (n + 1) 0 = c.index-2.ensures ∙ get_or_default begins (n + 1) end 0 (omega (arith, within, rows.one_each)) in
    let leaving : AreLeaving parts.portals.items n (slice_range places first end) = subst (AreLeaving parts.portals.items n) (λ i. slice_range places (sym first_is i) (sym end_is i)) (rows.rows n within) in
    subst (λ (portals : List Portal). AreLeaving portals n (map (λ (e : Exit). e.portal) (slice_range c.deref.result.now first end))) (ap (λ (w : World). w.portals) c.self.view_is)
    (subst (λ (exits : List Exit). AreLeaving parts.portals.items n (map (λ (e : Exit). e.portal) (slice_range exits first end))) (sym c.deref.ensures.value)
    (leaving_exits parts.portals.items places parts.exits.items c.self.invariant.1 first end n leaving))

pub returns-clause-each : goal.returns-clause-each
returns-clause-each c =
    let parts = c.self.inside in
    let first = c.index.result.now in
    let end = c.index-2.result.now in
    subst (λ (portals : List Portal). All (IsExitOf portals) (slice_range c.deref.result.now first end)) (ap (λ (w : World). w.portals) c.self.view_is)
    (subst (λ (exits : List Exit). All (IsExitOf parts.portals.items) (slice_range exits first end)) (sym c.deref.ensures.value)
    (each_exit parts.portals.items parts.leaving.places.items parts.exits.items c.self.invariant.1 first end))

pub returns-clause-within : goal.returns-clause-within
returns-clause-within c =
    let parts = c.self.inside in
    let first = c.index.result.now in
    let end = c.index-2.result.now in
    let count : length parts.numbers.numbered.items ≡ length (numbered_leaves c.args.self.now.tree) = ap length c.self.invariant.0.numbers.numbered_are ∙ ap (λ (w : World). length (numbered_leaves w.tree)) c.self.view_is in
    subst (λ (leaves : ℕ). All (λ (e : Exit). e.to < leaves) (slice_range c.deref.result.now first end)) count
    (subst (λ (exits : List Exit). All (λ (e : Exit). e.to < length parts.numbers.numbered.items) (slice_range exits first end)) (sym c.deref.ensures.value)
    (exits_among parts.portals.items parts.leaving.places.items parts.exits.items c.self.invariant.1 first end (length parts.numbers.numbered.items) c.self.invariant.0.among))

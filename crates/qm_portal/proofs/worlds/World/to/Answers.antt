use Rattle.std.proofs.Common.{◌≡◌, ◌<◌, ℕ, length, slice_get, Some, sym, ap, ◌∙◌, subst, arith}
use Rattle.qm_contacts.specs.NumberedLeaves.{numbered_leaves}
use Rattle.qm_contacts.specs.Portals.{Portal}
use Rattle.qm_contacts.specs.World.{World}
use Rattle.qm_contacts.proofs.LeavesEntered.{entered_there, entered_at, entered_among}
use Rattle.qm_portal.proofs.worlds.World.to.Goals as goal

pub index-requires : goal.index-requires
index-requires c =
    let parts = c.self.inside in
    let there : c.args.p < length parts.portals.items = subst (λ (w : World). c.args.p < length w.portals) (sym c.self.view_is) c.requires in
    let its = entered_there parts.portals.items parts.entered.items c.self.invariant.0.entered_are c.args.p there in
    omega (arith, its, parts.entered.ok.0)

pub returns-clause-value : goal.returns-clause-value
returns-clause-value c =
    let parts = c.self.inside in
    let there : c.args.p < length parts.portals.items = subst (λ (w : World). c.args.p < length w.portals) (sym c.self.view_is) c.requires in
    subst (λ (w : World). (portal : Portal) × (slice_get w.portals c.args.p ≡ Some portal) × (c.index.result.now ≡ portal.to)) c.self.view_is
    (entered_at parts.portals.items parts.entered.items c.self.invariant.0.entered_are c.args.p there c.index.result.now c.index.ensures)

pub returns-clause-within : goal.returns-clause-within
returns-clause-within c =
    let parts = c.self.inside in
    let there : c.args.p < length parts.portals.items = subst (λ (w : World). c.args.p < length w.portals) (sym c.self.view_is) c.requires in
    let count : length parts.numbers.numbered.items ≡ length (numbered_leaves c.args.self.now.tree) = ap length c.self.invariant.0.numbers.numbered_are ∙ ap (λ (w : World). length (numbered_leaves w.tree)) c.self.view_is in
    subst (λ (n : ℕ). c.index.result.now < n) count
    (entered_among parts.portals.items parts.entered.items c.self.invariant.0.entered_are c.args.p there c.index.result.now c.index.ensures (length parts.numbers.numbered.items) c.self.invariant.0.among)

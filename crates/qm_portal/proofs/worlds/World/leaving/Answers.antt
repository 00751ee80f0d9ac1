use Rattle.std.proofs.Common.{◌≡◌, ◌+◌, ◌<◌, length, get_or, List, sym, ap, ◌∙◌, subst, arith}
use Rattle.std.specs.List.{slice_range}
use Rattle.std.proofs.lemmas.List.{get_or_default}
use Rattle.qm_contacts.specs.NumberedLeaves.{numbered_leaves}
use Rattle.qm_contacts.specs.Portals.{Portal}
use Rattle.qm_contacts.specs.World.{World, AreLeaving}
use Rattle.qm_contacts.specs.inner.Others.{row_at}
use Rattle.qm_portal.proofs.worlds.World.leaving.Goals as goal

pub returns : goal.returns
returns c =
    let parts = c.self.inside in
    let begins = parts.leaving.begins.items in
    let rows = c.self.invariant.0.leaving in
    let n = c.args.n in
    let count : length parts.numbers.numbered.items ≡ length (numbered_leaves c.args.self.now.tree) = ap length c.self.invariant.0.numbers.numbered_are ∙ ap (λ (w : World). length (numbered_leaves w.tree)) c.self.view_is in
    let within : n < length parts.numbers.numbered.items = omega (arith, c.requires, count) in
    let first : c.index.result.now ≡ get_or begins n 0 = c.index.ensures ∙ get_or_default begins n c.index.result.now 0 (omega (arith, within, rows.one_each)) in
    let end : c.index-2.result.now ≡ get_or begins (n + 1) 0 = c.index-2.ensures ∙ get_or_default begins (n + 1) c.index-2.result.now 0 (omega (arith, within, rows.one_each)) in
    let row : row_at begins parts.leaving.places.items n ≡ slice_range c.deref.result.now c.index.result.now c.index-2.result.now = λ i. slice_range (sym c.deref.ensures.value i) (sym first i) (sym end i) in
    subst (λ (portals : List Portal). AreLeaving portals n (slice_range c.deref.result.now c.index.result.now c.index-2.result.now)) (ap (λ (w : World). w.portals) c.self.view_is)
    (subst (AreLeaving parts.portals.items n) row (rows.rows n within))

use Rattle.std.proofs.Common.{◌≡◌, List, ◌++◌, take, length, ◌≤◌, ◌∙◌, sym, ap, subst}
use Rattle.std.proofs.lemmas.Option.{MatchOption-at_some, MatchOption-at_none}
use Rattle.qm_space.specs.Plane.{Plane}
use Rattle.qm_convex.specs.Section.{AreAxialBounds, IsSection, MissesCell}
use Rattle.qm_contacts.specs.inner.Due.{DueCell}
use Rattle.qm_portal.specs.inner.Cells.{CrossesCell}
use Rattle.qm_convex.specs.Cut.{IsPartWithin, HasNoneWithin}
use Rattle.qm_convex.specs.Winding.{Winding}
use Rattle.qm_portal.proofs.AxialBounds.{six_axial}
use Rattle.qm_portal.proofs.CellSections.{crosses_axial, point_before_slanted, section_by_bounds}
use Rattle.qm_portal.proofs.cell.DueCell.section.Goals as goal
use Rattle.qm_portal.proofs.cell.DueCell.section.Goals.{After-split_at, In-Some}

abbrev kept : After-split_at → DueCell
kept c = record { child = c.self.inside.child; bounds = c.self.inside.bounds.items; on_walls = c.self.inside.on_walls.items }

parts : (c : After-split_at) → (kept c).bounds ≡ c.split_at.result.0.now ++ c.split_at.result.1.now
parts c = sym c.deref.ensures.value ∙ c.split_at.ensures.by_index.0

crosses : (c : After-split_at) (planes : List Plane) → CrossesCell planes c.args.self.now c.args.plane.now → CrossesCell planes (kept c) c.args.plane.now
crosses c planes is = subst (λ (d : DueCell). CrossesCell planes d c.args.plane.now) (sym c.self.view_is) is

whole : (c : In-Some) → IsSection c.split_at.result.0.now c.args.plane.now c.in-Some.whole
whole c = MatchOption-at_some (MissesCell c.split_at.result.0.now c.args.plane.now) (λ w. IsSection c.split_at.result.0.now c.args.plane.now w) c.in-Some.whole c.in-Some.is c.in_ok-whole.ensures

pub split_at-requires : goal.split_at-requires
split_at-requires c = subst (λ (bounds : List Plane). 6 ≤ length bounds) (sym c.deref.ensures.value) (six_axial c.self.inside.bounds.items c.self.invariant)

pub between-requires : goal.between-requires
between-requires c = subst AreAxialBounds (sym (c.split_at.ensures.front ∙ ap (take 6) c.deref.ensures.value)) c.self.invariant

pub unreachable-requires : goal.unreachable-requires
unreachable-requires c =
    let at = (goal.at.unreachable-requires c).After-split_at in
    let before = point_before_slanted c.requires.0 (kept at) c.args.plane.now (crosses at c.requires.0 c.requires.1) _ _ (parts at) c.in-Some.whole (whole (goal.at.unreachable-requires c).In-Some) in
    MatchOption-at_none (HasNoneWithin c.in-Some.whole c.split_at.result.1.now) (λ w. IsPartWithin w c.in-Some.whole c.split_at.result.1.now) c.in-None-2.is c.in_ok-section-in-Some.ensures before.0 before.1 before.2

pub unreachable-requires-in-None : goal.unreachable-requires-in-None
unreachable-requires-in-None c =
    let at = (goal.at.unreachable-requires-in-None c).After-split_at in
    crosses_axial c.requires.0 (kept at) c.args.plane.now (crosses at c.requires.0 c.requires.1) _ _ (parts at)
    (MatchOption-at_none (MissesCell c.split_at.result.0.now c.args.plane.now) (λ w. IsSection c.split_at.result.0.now c.args.plane.now w) c.in-None.is c.in_ok-whole.ensures)

pub returns : goal.returns
returns c = λ planes is.
    let at = (goal.at.returns c).After-split_at in
    subst (λ (w : Winding). IsSection planes c.args.plane.now w) (sym c.in_ok-new-in-Some-2.ensures.ok)
    (section_by_bounds planes (kept at) c.args.plane.now (crosses at planes is) _ _ (parts at) c.in-Some.whole (whole (goal.at.returns c).In-Some) c.in-Some-2.section
    (MatchOption-at_some (HasNoneWithin c.in-Some.whole c.split_at.result.1.now) (λ w. IsPartWithin w c.in-Some.whole c.split_at.result.1.now) c.in-Some-2.section c.in-Some-2.is c.in_ok-section-in-Some.ensures))

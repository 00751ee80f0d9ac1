use Rattle.std.proofs.Common.{List, length, rules, tests, ap, ◌∙◌, subst}
use Rattle.std.specs.List.{filter}
use Rattle.std.proofs.lemmas.Fn.{filter_same}
use Rattle.qm_space.specs.Reduced.{IsReduced}
use Rattle.qm_split.specs.declared.piece.Piece.{Piece}
use Rattle.qm_split.specs.declared.contender.Body.{Body}
use Rattle.qm_split.specs.inner.Parts.{IsFoundPart}
use Rattle.qm_split.proofs.BesidePieces.{stands_off}
use Rattle.qm_split.proofs.KeptParts.{part_ahead, shortened, left_pieces}
use Rattle.qm_split.specs.Pieces.{solid_of_contender}
use Rattle.qm_split.proofs.HeldCuboids.{held_beyond}
use Rattle.qm_split.proofs.SidesOfPlanes.{none_of_lying}
use Rattle.qm_split.proofs.contender.Contender.left_beside.Goals as goal

pub returns-clause-part : goal.returns-clause-part
returns-clause-part c = λ book cell contends section none.
    let filtered = filter_same _ (stands_off c.args.plane.now) _ (λ x b q k. search (rules, tests)) _ _ c.retain.ensures.filtered in
    part_ahead c.args.self c.args.section.now c.args.self.body.value.cuboid (filter (stands_off c.args.plane.now) c.args.self.body.value.pieces.items) c.left_part.result c.args.plane.now
    (left_pieces book cell c.args.self contends c.args.plane.now (subst IsReduced c.plane.view_is c.plane.invariant) none)
    (subst (λ (b : Body). IsFoundPart (record { contents = c.args.self.contents; outward = b.outward.value.items }) c.args.section.now b.cuboid (filter (stands_off c.args.plane.now) b.pieces.items) c.left_part.result c.args.plane.now)
    c.deref_mut.ensures.value
    (subst (λ (ps : List Piece). IsFoundPart (record { contents = c.args.self.contents; outward = c.deref_mut.result.now.outward.value.items }) c.args.section.now c.deref_mut.result.now.cuboid ps c.left_part.result c.args.plane.now)
    filtered c.left_part.ensures.part))
    book cell contends section (held_beyond c.args.self.body.value.cuboid (solid_of_contender c.args.self) cell contends.within c.args.plane.now)

pub returns-clause-count : goal.returns-clause-count
returns-clause-count c = λ book cell contends none.
    let filtered = filter_same _ (stands_off c.args.plane.now) _ (λ x b q k. search (rules, tests)) _ _ c.retain.ensures.filtered in
    shortened c.args.self c.args.plane.now c.args.plane.now c.left_part.result (filter (stands_off c.args.plane.now) c.args.self.body.value.pieces.items)
    (left_pieces book cell c.args.self contends c.args.plane.now (subst IsReduced c.plane.view_is c.plane.invariant) none)
    (c.left_part.ensures.count ∙ ap length filtered ∙ ap (λ (b : Body). length (filter (stands_off c.args.plane.now) b.pieces.items)) c.deref_mut.ensures.value)
    (λ w lies. none_of_lying w c.args.plane.now lies)

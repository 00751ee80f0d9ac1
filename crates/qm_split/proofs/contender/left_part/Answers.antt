use Rattle.std.proofs.Common.{[], List, Vec, Global, Some, None, length, refl, sym, ap, ◌∙◌, subst}
use Rattle.qm_space.specs.Plane.{Plane}
use Rattle.qm_split.specs.declared.piece.Piece.{Piece}
use Rattle.qm_split.specs.declared.contender.Body.{Body}
use Rattle.qm_split.specs.inner.Parts.{IsFoundPart}
use Rattle.qm_split.specs.inner.Ranked.{IsLesser}
use Rattle.qm_split.proofs.RankOrder.{no_pieces}
use Rattle.qm_split.proofs.KeptParts.{kept_contender}
use Rattle.qm_split.proofs.contender.left_part.Goals as goal

pub returns-in-Some-clause-part : goal.returns-in-Some-clause-part
returns-in-Some-clause-part c = λ book cell full reduced section held pieces.
    kept_contender book _ _ _ refl full reduced
    (subst (λ (ps : List Piece). IsLesser None ps (Some c.in-Some.least)) (c.deref-2.ensures.value ∙ ap (λ (b : Body). b.pieces.items) c.deref.ensures) c.in-Some.ensures) pieces held

pub returns-in-None-clause-part : goal.returns-in-None-clause-part
returns-in-None-clause-part c =
    let none = no_pieces c.args.body.value.pieces.items
    (subst (λ (ps : List Piece). IsLesser None ps None) (c.deref-2.ensures.value ∙ ap (λ (b : Body). b.pieces.items) c.deref.ensures) c.in-None.ensures) in
    subst (λ (ps : List Piece). IsFoundPart (record { contents = c.args.contents; outward = c.args.body.value.outward.value.items }) c.args.section.now c.args.body.value.cuboid ps c.lost_part.result c.args.plane.now) (sym none)
    (subst (λ (os : List Plane). IsFoundPart (record { contents = c.args.contents; outward = os }) c.args.section.now c.args.body.value.cuboid [] c.lost_part.result c.args.plane.now)
    (c.deref-in-None-3.ensures.value ∙ ap (λ (os : Vec Plane Global). os.items) c.deref-in-None-2.ensures ∙ ap (λ (b : Body). b.outward.value.items) c.deref-in-None.ensures) (c.lost_part.ensures.part c.args.body.value.cuboid))

pub returns-in-None-clause-count : goal.returns-in-None-clause-count
returns-in-None-clause-count c =
    let none = no_pieces c.args.body.value.pieces.items
    (subst (λ (ps : List Piece). IsLesser None ps None) (c.deref-2.ensures.value ∙ ap (λ (b : Body). b.pieces.items) c.deref.ensures) c.in-None.ensures) in
    c.lost_part.ensures.count ∙ sym (ap length none)

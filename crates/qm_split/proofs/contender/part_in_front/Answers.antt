use Rattle.std.proofs.Common.{[], ◌∷◌, ◌++◌, List, Some, None, length, Vec, Global, sym, ap, ◌∙◌, subst}
use Rattle.qm_space.specs.Plane.{Plane}
use Rattle.qm_solids.specs.Solid.{Solid}
use Rattle.qm_split.specs.declared.piece.Piece.{Piece}
use Rattle.qm_split.specs.declared.contender.Body.{Body}
use Rattle.qm_split.specs.Pieces.{ArePiecesInCell, IsHeldWithin}
use Rattle.qm_split.specs.inner.Parts.{IsFoundPart}
use Rattle.qm_split.specs.inner.Ranked.{IsLesser}
use Rattle.qm_split.proofs.RankOrder.{no_pieces}
use Rattle.qm_split.proofs.KeptParts.{kept_contender}
use Rattle.qm_split.proofs.contender.part_in_front.Goals as goal

pub returns-in_ok-body-in-Some-clause-part : goal.returns-in_ok-body-in-Some-clause-part
returns-in_ok-body-in-Some-clause-part c = λ book cell full reduced section held pieces.
    let body = c.in_ok-body-in-Some.ensures.ok in
    kept_contender book _ _ (record { contents = c.args.contents; outward = c.args.outward.now.value.items })
    (ap (λ (os : List Plane). let s : Solid = record { contents = c.args.contents; outward = os } in s) (ap (λ (b : Body). b.outward.value.items) body ∙ ap (λ (os : Vec Plane Global). os.items) c.in_ok-outward-in-Some.ensures.cases))
    full reduced
    (subst (λ (b : Body). IsLesser None b.pieces.items (Some c.in-Some.least)) (sym body) (subst (λ (ps : List Piece). IsLesser None ps (Some c.in-Some.least)) c.deref.ensures.value c.in-Some.ensures))
    (subst (λ (b : Body). ArePiecesInCell book (cell ++ c.args.plane.now ∷ []) (record { contents = c.args.contents; outward = c.args.outward.now.value.items }) b.pieces.items) (sym body) pieces)
    (subst (λ (b : Body). IsHeldWithin b.cuboid (record { contents = c.args.contents; outward = c.args.outward.now.value.items }) (cell ++ c.args.plane.now ∷ [])) (sym body) held)

pub returns-in-None-clause-part : goal.returns-in-None-clause-part
returns-in-None-clause-part c =
    let none = no_pieces c.args.pieces.items (subst (λ (ps : List Piece). IsLesser None ps None) c.deref.ensures.value c.in-None.ensures) in
    subst (λ (ps : List Piece). IsFoundPart (record { contents = c.args.contents; outward = c.args.outward.now.value.items }) c.args.section.now c.args.cuboid ps c.lost_part.result c.args.plane.now) (sym none)
    (subst (λ (os : List Plane). IsFoundPart (record { contents = c.args.contents; outward = os }) c.args.section.now c.args.cuboid [] c.lost_part.result c.args.plane.now)
    (c.deref-in-None-2.ensures.value ∙ ap (λ (os : Vec Plane Global). os.items) c.deref-in-None.ensures) (c.lost_part.ensures.part c.args.cuboid))

pub returns-in-None-clause-count : goal.returns-in-None-clause-count
returns-in-None-clause-count c =
    let none = no_pieces c.args.pieces.items (subst (λ (ps : List Piece). IsLesser None ps None) c.deref.ensures.value c.in-None.ensures) in
    c.lost_part.ensures.count ∙ sym (ap length none)

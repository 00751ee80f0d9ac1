use Rattle.std.proofs.Common.{Vec, Global, List, Option, Some, None, [], refl, sym, ap, ◌∙◌, subst}
use Rattle.qm_space.specs.Plane.{Plane}
use Rattle.qm_solids.specs.Solid.{Solid}
use Rattle.qm_split.specs.declared.piece.Piece.{Piece}
use Rattle.qm_split.specs.declared.contender.Body.{Body}
use Rattle.qm_split.specs.declared.rank.Rank.{Rank}
use Rattle.qm_split.specs.Pieces.{ArePiecesInCell, IsHeldWithin}
use Rattle.qm_split.specs.inner.Ranked.{IsLesser}
use Rattle.qm_split.specs.inner.FacePieces.{solid_behind, HasAllBehind}
use Rattle.qm_lists.proofs.Options.{none_if_not_some}
use Rattle.qm_split.proofs.RankOrder.{no_pieces}
use Rattle.qm_split.proofs.KeptParts.{kept_contender}
use Rattle.qm_split.proofs.FacesInCube.{outward_reduced, contains_cube, held_in_cube}
use Rattle.qm_split.proofs.in_cube.part_in_cube.Goals as goal

pub returns-in_default : goal.returns-in_default
returns-in_default c =
    let none = no_pieces c.in_ok-pieces.pieces.items
    (subst (λ (ps : List Piece). IsLesser None ps None) c.deref.ensures.value
    (subst (λ (o : Option Rank). IsLesser None c.deref.result.now o) (none_if_not_some c.least_of.result c.in_default.not-Some) c.least_of.ensures)) in (
      refl,
      contains_cube c.args.book.now (solid_behind c.args.book.now c.args.faces.now c.args.contents) c.requires.full
          (subst (λ (ps : List Piece). ArePiecesInCell c.args.book.now [] (solid_behind c.args.book.now c.args.faces.now c.args.contents) ps) none (c.in_ok-pieces.ensures c.args.contents c.requires.full)),
    )

pub returns : goal.returns
returns c =
    let body = c.in_ok-body.ensures.ok in
    let solid = solid_behind c.args.book.now c.args.faces.now c.args.contents in
    kept_contender c.args.book.now [] _ solid
    (ap (λ (os : List Plane). let s : Solid = record { contents = c.args.contents; outward = os } in s) (ap (λ (b : Body). b.outward.value.items) body ∙ ap (λ (os : Vec Plane Global). os.items) c.in_ok-outward-2.ensures.ok ∙ c.in_ok-outward.ensures))
    c.requires.full (outward_reduced c.args.book.now c.args.faces.now c.len-planes.ensures.planes c.requires.numbered)
    (subst (λ (b : Body). IsLesser None b.pieces.items (Some c.in-Some.least)) (sym body) (subst (λ (ps : List Piece). IsLesser None ps (Some c.in-Some.least)) c.deref.ensures.value c.in-Some.ensures))
    (subst (λ (b : Body). ArePiecesInCell c.args.book.now [] (solid_behind c.args.book.now c.args.faces.now c.args.contents) b.pieces.items) (sym body) (c.in_ok-pieces.ensures c.args.contents c.requires.full))
    (subst (λ (b : Body). IsHeldWithin b.cuboid (solid_behind c.args.book.now c.args.faces.now c.args.contents) []) (sym body)
    (held_in_cube c.cuboid_behind-cuboid.result solid (subst (HasAllBehind c.cuboid_behind-cuboid.result) (c.deref-2.ensures.value ∙ c.in_ok-outward.ensures) c.cuboid_behind-cuboid.ensures)))

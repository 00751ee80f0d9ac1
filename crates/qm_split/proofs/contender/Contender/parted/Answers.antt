use Rattle.std.proofs.Common.{List, Vec, Global, ap, ◌∙◌, subst}
use Rattle.qm_space.specs.Plane.{Plane, flipped}
use Rattle.qm_space.specs.Cuboid.{Cuboid, IsTightened}
use Rattle.qm_split.specs.declared.piece.Piece.{Piece}
use Rattle.qm_split.specs.declared.contender.Body.{Body}
use Rattle.qm_split.specs.Pieces.{solid_of_contender}
use Rattle.qm_split.specs.inner.PieceParts.{AreFront}
use Rattle.qm_split.specs.inner.Parts.{IsFoundPart}
use Rattle.qm_split.proofs.SidesOfPlanes.{none_of_lying, none_of_lying_flipped}
use Rattle.qm_split.proofs.HeldCuboids.{held_tightened}
use Rattle.qm_split.proofs.KeptParts.{part_ahead, shortened, section_flipped}
use Rattle.qm_split.proofs.contender.Contender.parted.Goals as goal

pub returns-clause-front : goal.returns-clause-front
returns-clause-front c = λ book cell contends section.
    let pieces = ap (λ (ps : Vec Piece Global). ps.items) c.replace-pieces.ensures.value ∙ ap (λ (b : Body). b.pieces.items) c.deref_mut.ensures.value in
    part_ahead c.args.self c.args.section.now c.tightened.result c.in_ok-lists.lists.front.items c.in_ok-front.front c.args.plane.now
    (subst (λ (ps : List Piece). AreFront ps c.args.plane.now c.in_ok-lists.lists.front.items) pieces c.in_ok-lists.ensures.front)
    (subst (λ (os : List Plane). IsFoundPart (record { contents = c.args.self.contents; outward = os }) c.args.section.now c.tightened.result c.in_ok-lists.lists.front.items c.in_ok-front.front c.args.plane.now)
    (ap (λ (b : Body). b.outward.value.items) c.deref-2.ensures ∙ ap (λ (b : Body). b.outward.value.items) c.deref_mut.ensures.value) c.in_ok-front.ensures.part)
    book cell contends section
    (held_tightened c.args.self.body.value.cuboid (solid_of_contender c.args.self) cell contends.within c.args.plane.now c.tightened.result
    (subst (λ (k : Cuboid). IsTightened c.tightened.result k c.args.plane.now)
    (ap (λ (b : Body). b.cuboid) c.deref-3.ensures ∙ ap (λ (b : Body). b.cuboid) c.deref_mut.ensures.value) c.tightened.ensures))

pub returns-clause-back : goal.returns-clause-back
returns-clause-back c = λ book cell contends section.
    let pieces = ap (λ (ps : Vec Piece Global). ps.items) c.replace-pieces.ensures.value ∙ ap (λ (b : Body). b.pieces.items) c.deref_mut.ensures.value in
    let outward = ap (λ (b : Body). b.outward.value.items) c.deref_mut-3.ensures.value ∙ ap (λ (b : Body). b.outward.value.items) c.deref_mut-2.ensures.value ∙ ap (λ (b : Body). b.outward.value.items) c.deref_mut.ensures.value in
    part_ahead c.args.self c.args.section.now c.tightened-2.result c.in_ok-lists.lists.back.items c.left_part-back.result (flipped c.args.plane.now)
    (subst (λ (ps : List Piece). AreFront ps (flipped c.args.plane.now) c.in_ok-lists.lists.back.items) pieces c.in_ok-lists.ensures.back)
    (subst (λ (f : Plane). IsFoundPart (solid_of_contender c.args.self) c.args.section.now c.tightened-2.result c.in_ok-lists.lists.back.items c.left_part-back.result f) c.flipped-behind.ensures
    (subst (λ (k : Cuboid). IsFoundPart (solid_of_contender c.args.self) c.args.section.now k c.in_ok-lists.lists.back.items c.left_part-back.result c.flipped-behind.result) (ap (λ (b : Body). b.cuboid) c.deref_mut-3.ensures.value)
    (subst (λ (os : List Plane). IsFoundPart (record { contents = c.args.self.contents; outward = os }) c.args.section.now c.deref_mut-3.result.now.cuboid c.in_ok-lists.lists.back.items c.left_part-back.result c.flipped-behind.result)
    outward c.left_part-back.ensures.part)))
    book cell contends (section_flipped cell c.args.plane.now c.args.section.now section)
    (held_tightened c.args.self.body.value.cuboid (solid_of_contender c.args.self) cell contends.within (flipped c.args.plane.now) c.tightened-2.result
    (subst (λ (f : Plane). IsTightened c.tightened-2.result c.args.self.body.value.cuboid f) c.flipped-behind.ensures
    (subst (λ (k : Cuboid). IsTightened c.tightened-2.result k c.flipped-behind.result)
    (ap (λ (b : Body). b.cuboid) c.deref-4.ensures ∙ ap (λ (b : Body). b.cuboid) c.deref_mut.ensures.value) c.tightened-2.ensures)))

pub returns-clause-front_count : goal.returns-clause-front_count
returns-clause-front_count c =
    shortened c.args.self c.args.plane.now c.args.plane.now c.in_ok-front.front c.in_ok-lists.lists.front.items
    (subst (λ (ps : List Piece). AreFront ps c.args.plane.now c.in_ok-lists.lists.front.items)
    (ap (λ (ps : Vec Piece Global). ps.items) c.replace-pieces.ensures.value ∙ ap (λ (b : Body). b.pieces.items) c.deref_mut.ensures.value) c.in_ok-lists.ensures.front)
    c.in_ok-front.ensures.count (λ w lies. none_of_lying w c.args.plane.now lies)

pub returns-clause-back_count : goal.returns-clause-back_count
returns-clause-back_count c =
    shortened c.args.self c.args.plane.now (flipped c.args.plane.now) c.left_part-back.result c.in_ok-lists.lists.back.items
    (subst (λ (ps : List Piece). AreFront ps (flipped c.args.plane.now) c.in_ok-lists.lists.back.items)
    (ap (λ (ps : Vec Piece Global). ps.items) c.replace-pieces.ensures.value ∙ ap (λ (b : Body). b.pieces.items) c.deref_mut.ensures.value) c.in_ok-lists.ensures.back)
    c.left_part-back.ensures.count (λ w lies. none_of_lying_flipped w c.args.plane.now lies)

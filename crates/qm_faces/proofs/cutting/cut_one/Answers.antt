use Rattle.std.proofs.Common.{◌≡◌, List, [], ◌∷◌, ◌++◌, length, ◌∙◌, sym, ap, subst, arith}
use Rattle.std.proofs.lemmas.List.{length_push, nil_from_length}
use Rattle.qm_convex.specs.Winding.{Winding}
use Rattle.qm_solids.specs.declared.face.FaceRef.{FaceRef}
use Rattle.qm_solids.specs.InBook.{solid_at}
use Rattle.qm_surface.specs.Owner.{FaceOwner}
use Rattle.qm_faces.specs.inner.Cuts.{IsCarvedBy}
use Rattle.qm_faces.proofs.CutParts.{cut_one_part}
use Rattle.qm_faces.proofs.cutting.cut_one.Goals as goal

pub returns : goal.returns
returns c =
    let part = c.in-Some.part in
    let parts : c.args.rest.items ≡ c.pop.new.self.items ++ part ∷ [] = c.in-Some.ensures.items in
    let nothing : c.pop.new.self.items ≡ [] = nil_from_length c.pop.new.self.items (let one = sym (ap length parts ∙ length_push c.pop.new.self.items part) ∙ c.requires.one in omega (arith, one)) in
    cut_one_part c.args.planes.now c.args.list.now c.args.boundary c.args.owner c.in-Some.part c.args.rest.items c.pop.new.self.items c.carve.new.left.items c.in_ok-inner.inner c.args.pieces.now.items c.add_inner.new.pieces.items
    (parts ∙ ap (λ (ws : List Winding). ws ++ part ∷ []) nothing) nothing
    (subst (λ (faces : List FaceRef). IsCarvedBy c.args.planes.now c.args.boundary.plane faces c.in-Some.part c.in_ok-inner.inner c.pop.new.self.items c.carve.new.left.items) (c.faces-faces.ensures.are ∙ ap (λ (o : FaceOwner). (solid_at c.args.list.now o.brush).faces) c.owner.view_is) c.in_ok-inner.ensures)
    c.in_ok-add_inner.ensures

use Rattle.std.proofs.Common.{◌≡◌, ◌<◌, List, [], ◌∷◌, ◌++◌, All, length, sym, ap, ◌∙◌, subst, arith}
use Rattle.std.proofs.lemmas.Result.{IfOk-weaker}
use Rattle.qm_space.specs.Plane.{Plane}
use Rattle.qm_convex.specs.Winding.{Winding}
use Rattle.qm_contacts.specs.Touching.{Touching}
use Rattle.qm_surface.specs.Owner.{FaceOwner, owners_from}
use Rattle.qm_faces.specs.inner.Cuts.{AreCutFor, AreAddedFor}
use Rattle.qm_faces.proofs.OwnersFound.{owners_listed}
use Rattle.qm_faces.proofs.RowsOfOwners.{key_within}
use Rattle.qm_faces.proofs.PairsThere.{none_added, pieces_added}
use Rattle.qm_faces.proofs.surface.add_pieces.Goals as goal

pub returns-in_default : goal.returns-in_default
returns-in_default c = none_added c.args.tree.now c.args.list.now c.args.pair.now c.args.pieces.now.items c.in_default.ensures

pub cut_all-requires-clause-brushes : goal.cut_all-requires-clause-brushes
cut_all-requires-clause-brushes c =
    let there : c.in-Some.boundary.plane < length c.args.planes.now = subst (λ (hs : List Plane). c.in-Some.boundary.plane < length hs) c.requires.planes c.in-Some.ensures.there in
    subst (All (λ (owner : FaceOwner). owner.brush < length c.args.list.now)) (sym (c.owners_on-owners.ensures ∙ c.requires.rows.rows_are c.in-Some.boundary.plane c.in-Some.boundary.side there))
    (owners_listed c.in-Some.boundary.plane c.in-Some.boundary.side c.args.list.now)

pub returns : goal.returns
returns c =
    let there : c.in-Some.boundary.plane < length c.args.planes.now = subst (λ (hs : List Plane). c.in-Some.boundary.plane < length hs) c.requires.planes c.in-Some.ensures.there in
    let owners_are : c.owners_on-owners.result.now ≡ owners_from c.in-Some.boundary.plane c.in-Some.boundary.side c.args.list.now 0 = c.owners_on-owners.ensures ∙ c.requires.rows.rows_are c.in-Some.boundary.plane c.in-Some.boundary.side there in
    let winding : c.in_ok-whole.field-0 ≡ c.args.pair.now.winding = c.in_ok-whole.ensures ∙ c.deref.ensures ∙ ap (λ (p : Touching). p.winding) c.pair.view_is in
    let rest : c.push.new.self.items ≡ c.args.pair.now.winding ∷ [] = c.in_ok-push.ensures.items ∙ ap (λ (ws : List Winding). ws ++ c.in_ok-whole.field-0 ∷ []) c.new-rest.ensures.items ∙ ap (λ (w : Winding). w ∷ []) winding in
    IfOk-weaker c.cut_all.result
    (λ _. AreCutFor c.args.planes.now c.args.list.now c.in-Some.boundary c.owners_on-owners.result.now c.push.new.self.items c.args.pieces.now.items c.cut_all.new.pieces.items)
    (λ _. AreAddedFor c.args.tree.now c.args.list.now c.args.pair.now c.args.pieces.now.items c.cut_all.new.pieces.items)
    (λ _ cut.
    pieces_added c.args.tree.now c.args.planes.now c.args.list.now c.args.pair.now c.in-Some.boundary c.in-Some.ensures c.owners_on-owners.result.now c.push.new.self.items c.args.pieces.now.items c.cut_all.new.pieces.items
    c.requires.planes owners_are rest cut)
    c.cut_all.ensures

pub owners_on-owners-requires : goal.owners_on-owners-requires
owners_on-owners-requires c =
    let there : c.in-Some.boundary.plane < length c.args.planes.now = subst (λ (hs : List Plane). c.in-Some.boundary.plane < length hs) c.requires.planes c.in-Some.ensures.there in
    let inside = key_within c.in-Some.boundary.plane (length c.args.planes.now) c.in-Some.boundary.side there in
    omega (arith, inside, c.requires.rows.two_each)

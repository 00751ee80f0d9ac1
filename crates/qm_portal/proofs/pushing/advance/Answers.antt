use Rattle.qm_convex.specs.Winding.{Winding}
use Rattle.std.proofs.Common.{◌≡◌, ap, List, ℕ, Option, [], ◌∷◌, sym, subst}
use Rattle.std.proofs.lemmas.List.{append-nil}
use Rattle.qm_contacts.specs.inner.Due.{DuePolygon}
use Rattle.qm_contacts.specs.inner.Pieces.{LeafPiece}
use Rattle.qm_portal.specs.inner.Pushes.{polygon_at, piece_in, IsPushed, MayBeDue}
use Rattle.qm_portal.proofs.PushedPolygons.{pushed_after}
use Rattle.qm_portal.proofs.pushing.advance.Goals as goal
use Rattle.qm_portal.proofs.pushing.advance.Goals.{In_ok-descend}

pub descend-requires : goal.descend-requires
descend-requires c =
    subst (λ (w : Winding). MayBeDue c.args.tree.now (polygon_at w c.polygon.inside.child)) (sym c.deref_mut.ensures.value)
    (subst (MayBeDue c.args.tree.now) (sym c.polygon.view_is) c.requires)

-- what was found on the way down is what is left of the polygon that was due
pushed : (c : In_ok-descend) (own : List LeafPiece) → piece_in c.in_ok-descend.field-0 c.descend.new.winding ≡ own → IsPushed c.args.tree.now c.args.polygon c.args.due.now.items c.descend.new.due.items [] own
pushed c own is =
    subst (λ (p : DuePolygon). IsPushed c.args.tree.now p c.args.due.now.items c.descend.new.due.items [] own) c.polygon.view_is
    (subst (λ (w : Winding). IsPushed c.args.tree.now (polygon_at w c.polygon.inside.child) c.args.due.now.items c.descend.new.due.items [] own) c.deref_mut.ensures.value
    (subst (λ (ps : List LeafPiece). IsPushed c.args.tree.now (polygon_at c.deref_mut.result.now c.polygon.inside.child) c.args.due.now.items c.descend.new.due.items [] ps) is c.in_ok-descend.ensures))

pub returns-in-None : goal.returns-in-None
returns-in-None c =
    pushed_after c.args.tree.now c.args.polygon c.args.due.now.items c.descend.new.due.items [] c.args.pieces.now.items c.args.pieces.now.items
    (pushed (goal.at.returns-in-None c).In_ok-descend [] (ap (λ (leaf : Option ℕ). piece_in leaf c.descend.new.winding) c.in-None.is))
    (sym (append-nil c.args.pieces.now.items))

pub returns-in_ok-push-in-Some : goal.returns-in_ok-push-in-Some
returns-in_ok-push-in-Some c =
    pushed_after c.args.tree.now c.args.polygon c.args.due.now.items c.descend.new.due.items (record { leaf = c.in-Some.leaf; winding = c.descend.new.winding } ∷ []) c.args.pieces.now.items c.push.new.self.items
    (pushed (goal.at.returns-in_ok-push-in-Some c).In_ok-descend _ (ap (λ (leaf : Option ℕ). piece_in leaf c.descend.new.winding) c.in-Some.is))
    c.in_ok-push-in-Some.ensures.items

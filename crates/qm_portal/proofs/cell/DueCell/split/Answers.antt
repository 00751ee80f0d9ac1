use Rattle.std.proofs.Common.{List, refl, ap, ◌∙◌, subst}
use Rattle.qm_space.specs.Plane.{Plane, flipped}
use Rattle.qm_convex.specs.inner.Facets.{Facet, AreCut}
use Rattle.qm_contacts.specs.inner.Bounds.{IsBoundAdded}
use Rattle.qm_contacts.specs.inner.Due.{DueCell}
use Rattle.qm_portal.proofs.cell.DueCell.split.Goals as goal

pub returns-clause-front : goal.returns-clause-front
returns-clause-front c = record {
  child_is = refl;
  bounds = subst (λ (bs : List Plane). IsBoundAdded c.args.plane.now bs c.add_bound-2.new.bounds.items) (ap (λ (d : DueCell). d.bounds) c.self.view_is) c.in_ok-add_bound-2.ensures.added;
  walls = subst (λ (ws : List Facet). AreCut c.args.plane.now ws c.in_ok-walls.walls.front.items) (ap (λ (d : DueCell). d.on_walls) c.self.view_is) c.in_ok-walls.ensures.front;
}

pub returns-clause-back : goal.returns-clause-back
returns-clause-back c = record {
  child_is = refl;
  bounds =
      subst (λ (bs : List Plane). IsBoundAdded (flipped c.args.plane.now) bs c.add_bound.new.bounds.items) (c.in_ok-behind.ensures.items ∙ c.deref.ensures.value ∙ ap (λ (d : DueCell). d.bounds) c.self.view_is)
      (subst (λ (g : Plane). IsBoundAdded g c.in_ok-behind.behind.items c.add_bound.new.bounds.items) c.flipped.ensures c.in_ok-add_bound.ensures.added);
  walls = subst (λ (ws : List Facet). AreCut (flipped c.args.plane.now) ws c.in_ok-walls.walls.back.items) (ap (λ (d : DueCell). d.on_walls) c.self.view_is) c.in_ok-walls.ensures.back;
}

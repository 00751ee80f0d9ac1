use Rattle.std.proofs.Common.{◌<◌, List, length, sym, ap, subst, arith}
use Rattle.qm_contacts.specs.Contacts.{Contacts, AreNeighbours}
use Rattle.qm_contacts.specs.Touching.{Touching}
use Rattle.qm_contacts.specs.inner.Others.{AreOthers, row_at}
use Rattle.qm_contacts.proofs.Touchings.{others_are_neighbours}
use Rattle.qm_portal.proofs.touch_list.TouchList.neighbours.Goals as goal
use Rattle.qm_portal.proofs.touch_list.TouchList.neighbours.Goals.{After-self}

within : (c : After-self) → c.args.leaf < length c.self.inside.outside
within c = omega (arith, c.requires, ap (λ (contacts : Contacts). length contacts.outside) c.self.view_is)

pub row-requires : goal.row-requires
row-requires c =
    let inside = within (goal.at.row-requires c).After-self in
    record {
      leaf = omega (arith, inside, c.self.invariant.one_each);
      ascending = c.self.invariant.ascending c.args.leaf inside;
      within = c.self.invariant.within c.args.leaf inside;
    }

pub returns : goal.returns
returns c = λ tree are.
    let list = c.self.inside in
    subst (AreNeighbours tree c.args.leaf) (sym c.row.ensures)
    (others_are_neighbours tree c.args.self.now c.args.leaf (row_at list.rows.begins.items list.rows.all.items c.args.leaf) are
    (subst (λ (touchings : List Touching). AreOthers touchings c.args.leaf (row_at list.rows.begins.items list.rows.all.items c.args.leaf)) (ap (λ (contacts : Contacts). contacts.touchings) c.self.view_is)
    (c.self.invariant.rows c.args.leaf (within (goal.at.returns c).After-self))))

use Rattle.std.proofs.Common.{ap, ◌∙◌}
use Rattle.qm_contacts.specs.Leak.{Origin, leaf_of_origin}
use Rattle.qm_flood.proofs.TakingPart.{leaf_there, takes_part_test}
use Rattle.qm_flood.proofs.flooding.takes_part.Goals as goal

pub returns : goal.returns
returns c =
    let tree = c.args.tree.now in
    let origin = c.args.origin.now in
    let leaf = c.leaf_at.ensures.value ∙ ap (λ (o : Origin). leaf_of_origin tree o) c.origin.view_is in
    takes_part_test tree origin c.leaf.result c.is_solid.result (leaf_there tree origin c.leaf_at.result c.leaf.result leaf c.leaf.ensures) c.is_solid.ensures

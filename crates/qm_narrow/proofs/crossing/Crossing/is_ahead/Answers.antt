use Rattle.std.proofs.Common.{◌∙◌, rules, w64}
use Rattle.std.proofs.lemmas.Int.{to_z-of_z}
use Rattle.qm_space.specs.Cuboid.{least_product, greatest_product}
use Rattle.qm_narrow.specs.inner.Beam.{IsCrossedAhead}
use Rattle.qm_narrow.proofs.Beams.{told_less}
use Rattle.qm_narrow.proofs.crossing.Crossing.is_ahead.Goals as goal

pub returns : goal.returns
unfolding IsCrossedAhead
returns c =
    let begin = to_z-of_z w64 c.least_value-begin.result (record { sfits = c.least_value-begin.type_inv }) ∙ c.least_value-begin.ensures.exact in
    let end = to_z-of_z w64 c.least_value-end.result (record { sfits = c.least_value-end.type_inv }) ∙ c.least_value-end.ensures.exact in
    let least = to_z-of_z w64 c.args.self.now.least (search rules) in
    let greatest = to_z-of_z w64 c.args.self.now.greatest (search rules) in
    let end_least = to_z-of_z w64 c.args.self.now.end_least (search rules) in
    let end_greatest = to_z-of_z w64 c.args.self.now.end_greatest (search rules) in
    told_less c.greatest_product-backward.result c.least_product-forward.result _ _
    (record { sfits = c.greatest_product-backward.type_inv }) (record { sfits = c.least_product-forward.type_inv })
    (c.greatest_product-backward.ensures ∙ (λ i. greatest_product (end i) (record { low = least i; high = greatest i })))
    (c.least_product-forward.ensures ∙ (λ i. least_product (begin i) (record { low = end_least i; high = end_greatest i })))

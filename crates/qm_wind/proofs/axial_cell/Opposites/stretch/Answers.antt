use Rattle.std.proofs.Common.{ap, ◌∙◌}
use Rattle.qm_wind.specs.declared.axial_cell.Opposites.{Opposites}
use Rattle.qm_wind.proofs.Distances.{kept_distance, kept_negated}
use Rattle.qm_wind.proofs.axial_cell.Opposites.stretch.Goals as goal

pub returns : goal.returns
returns c =
    c.between.ensures ∙ (λ i. record {
      low = kept_distance c.self.inside.0.0.d c.args.self.now.near.d (ap (λ (pair : Opposites). pair.near.d) c.self.view_is) c.requires.near i;
      high = kept_negated c.self.inside.0.1.0.d c.args.self.now.far.d (ap (λ (pair : Opposites). pair.far.d) c.self.view_is) c.requires.far i;
    })

use Rattle.std.proofs.Common.{◌∙◌, ap}
use Rattle.qm_lines.specs.inner.Crossing.{Crossing, spot_where}
use Rattle.qm_lines.proofs.Crossings.{spot_computed, short_values}
use Rattle.qm_lines.proofs.crossing.Crossing.short_spot.Goals as goal

pub short_mixed-requires : goal.short_mixed-requires
short_mixed-requires c =
    let short = short_values c.self.inside.at_begin c.self.inside.at_end c.self.invariant c.if-self.false c.if-self-gt-SHORT.false in
    record { from = short.0; to = short.1 }

pub returns : goal.returns
returns c =
    c.short_mixed.ensures
    ∙ spot_computed c.self.inside.at_begin c.self.inside.at_end c.args.line.now c.self.invariant
    ∙ ap (λ (crossing : Crossing). spot_where crossing c.args.line.now) c.self.view_is

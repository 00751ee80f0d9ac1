use Rattle.std.proofs.Common.{◌^◌, ◌∙◌, ap, lit≤}
use Rattle.qm_numbers.proofs.Kept.{small_kept}
use Rattle.qm_lines.specs.inner.Crossing.{Crossing, spot_where}
use Rattle.qm_lines.proofs.Crossings.{spot_computed}
use Rattle.qm_lines.proofs.crossing.Crossing.spot.Goals as goal

pub mixed-requires : goal.mixed-requires
mixed-requires c = record {
  from = small_kept c.self.inside.at_end (2 ^ 45) (lit≤ tt) c.self.invariant.end_small;
  to = small_kept c.self.inside.at_begin (2 ^ 45) (lit≤ tt) c.self.invariant.begin_small;
}

pub returns : goal.returns
returns c =
    c.mixed.ensures
    ∙ spot_computed c.self.inside.at_begin c.self.inside.at_end c.args.line.now c.self.invariant
    ∙ ap (λ (crossing : Crossing). spot_where crossing c.args.line.now) c.self.view_is

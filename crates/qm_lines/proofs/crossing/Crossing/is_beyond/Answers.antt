use Rattle.std.proofs.Common.{◌^◌, lit≤}
use Rattle.qm_numbers.proofs.Kept.{small_kept}
use Rattle.qm_lines.proofs.crossing.Crossing.is_beyond.Goals as goal

pub mixed-requires : goal.mixed-requires
mixed-requires c = record {
  begin = small_kept c.self.inside.at_begin (2 ^ 45) (lit≤ tt) c.self.invariant.begin_small;
  end = small_kept c.self.inside.at_end (2 ^ 45) (lit≤ tt) c.self.invariant.end_small;
}

use Rattle.std.proofs.Common.{refl}
use Rattle.qm_make.proofs.BrushCounts.{brush_count-few}
use Rattle.qm_make.proofs.format.format.Goals as goal

pub summary-requires : goal.summary-requires
summary-requires c = brush_count-few c.args.map.now c.requires

pub returns : goal.returns
returns c = record {
  is_file = rw c.new-file.ensures.items at c.in_ok-print.ensures.ok;
  means_the_map = c.in_ok-print.ensures.read_again;
  is_not_listed = refl;
  is_status = refl;
  is_text = c.in_ok-summary.ensures;
}

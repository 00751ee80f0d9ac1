use Rattle.qm_traced_files.proofs.MapSpanLaws.{hull_spans_of_compiled}
use Rattle.qm_compile.proofs.laws.hull_spans_tell_obstacles.Goals as goal

pub returns : goal.returns
returns c = λ map options file world summary is. hull_spans_of_compiled map options file world summary is

use Rattle.qm_spans.proofs.OneTrace.{one_trace}
use Rattle.qm_trace.proofs.laws.one_trace.Goals as goal

pub returns : goal.returns
returns c = one_trace

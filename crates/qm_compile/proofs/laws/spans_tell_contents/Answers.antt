use Rattle.qm_traced_files.proofs.MapSpanLaws.{spans_of_compiled, spans_of_leaking}
use Rattle.qm_compile.proofs.laws.spans_tell_contents.Goals as goal

pub returns-clause-without_leak : goal.returns-clause-without_leak
returns-clause-without_leak c = λ map options file world summary is. spans_of_compiled map options file world summary is

pub returns-clause-to_leak : goal.returns-clause-to_leak
returns-clause-to_leak c = λ map file entity trail is. spans_of_leaking map file entity trail is

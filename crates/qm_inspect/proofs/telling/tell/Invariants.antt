use Rattle.std.proofs.Common.{take, string_bytes}
use Rattle.qm_answers.specs.AllAnswers.{AreAnswered}
use Rattle.qm_inspect.proofs.telling.tell.Given as goal

-- the first queries are answered
abbrev pub invariant-loop-k : goal.invariant-loop-k
invariant-loop-k l = AreAnswered l.file (take l.k l.queries) (string_bytes l.lines)

use Rattle.qm_statement.proofs.Completeness.{never_rose}
use Rattle.qm_compile.proofs.laws.run_surely.Goals as goal

pub returns-clause-answers : goal.returns-clause-answers
returns-clause-answers g c = c.run.ensures.answers

pub returns-clause-ends : goal.returns-clause-ends
returns-clause-ends g c order is =
    c.run.ensures.complete.ends order is
    (record { reading = λ name read. never_rose; writing = λ name written. never_rose; printing = never_rose })

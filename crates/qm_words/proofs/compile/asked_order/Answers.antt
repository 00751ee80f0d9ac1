use Rattle.std.proofs.Common.{⊎_elim}
use Rattle.clap.specs.Matches.{found_of}
use Rattle.clap.specs.Walk.{rows_of}
use Rattle.qm_words.proofs.CompileAnswers.{no_map, no_out}
use Rattle.qm_words.proofs.compile.asked_order.Goals as goal

pub returns-in-None : goal.returns-in-None
returns-in-None c =
    let rows = rows_of (found_of c.args.matches.now) in
    ⊎_elim (no_map rows) (no_out rows) c.in-None.ensures

use Rattle.std.proofs.Common.{sym}
use Rattle.qm_words.proofs.OneOrder.{one_order}
use Rattle.qm_statement.proofs.KeptFiles.{kept_by}
use Rattle.qm_compile.proofs.laws.kept_file.Goals as goal

pub returns : goal.returns
returns c = λ words before after status answers. kept_by words before after (λ order other are other_are. sym (one_order words order other are other_are)) status answers

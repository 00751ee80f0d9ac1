use Rattle.std.proofs.Common.{sym}
use Rattle.qm_words.proofs.OneOrder.{one_order}
use Rattle.qm_compile.proofs.Headlines.{headline}
use Rattle.qm_compile.proofs.laws.headline.Goals as goal

pub returns : goal.returns
returns c = λ words before after options listed files are tells answers. headline words before after (λ order other is other_is. sym (one_order words order other is other_is)) options listed files are tells answers

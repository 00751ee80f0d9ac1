use Rattle.std.proofs.Common.{sym, arith}
use Rattle.qm_map.proofs.DueMarks.{told_of_word}
use Rattle.qm_map.proofs.sort.is_mark.Goals as goal

pub returns-in-Word-len1 : goal.returns-in-Word-len1
returns-in-Word-len1 c =
    rw c.mark_byte.ensures (sym (told_of_word c.args.due c.args.kind c.args.bytes.now c.in-Word-len1.is-0 (omega arith)))

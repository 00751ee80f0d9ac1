use Rattle.std.specs.Prelude.{Bool, false}
use Rattle.qm_grammar.specs.declared.mark.Mark.{Mark}
use Rattle.qm_grammar.specs.declared.mark.Sort.{Sort}
use Rattle.qm_grammar.specs.declared.mark.Sort.TheVariants as sort
use Rattle.qm_grammar.specs.inner.Machine.{is_same_mark}

-- whether what stands there is the mark that is due
abbrev pub is_due : Mark → Sort → Bool
is_due due (sort.Mark mark) = is_same_mark due mark
is_due due _ = false

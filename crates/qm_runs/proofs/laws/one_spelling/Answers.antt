use Rattle.std.proofs.Common.{List, ℕ, sym, subst}
use Rattle.qm_lists.specs.Spelling.{SpellsRow}
use Rattle.qm_lists.proofs.Spellings.{runs_of-spelt, spells_runs_of}
use Rattle.qm_runs.proofs.laws.one_spelling.Goals as goal

pub returns : goal.returns
returns c = λ bytes row. (runs_of-spelt bytes row, λ is. subst (λ (written : List ℕ). SpellsRow written row) (sym is) (spells_runs_of row))

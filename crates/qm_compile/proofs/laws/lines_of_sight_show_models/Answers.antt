use Rattle.qm_model_files.proofs.ModelLaws.{lines_of_compiled}
use Rattle.qm_compile.proofs.laws.lines_of_sight_show_models.Goals as goal

pub returns : goal.returns
returns c = λ map options file world summary is models rows read has_rows. lines_of_compiled map options file world summary is models read rows has_rows

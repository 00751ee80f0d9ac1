use Rattle.qm_shared_rows.proofs.KeptSteps.{kept_by_step, kept_by_run, run_narrows}
use Rattle.qm_shared_rows.proofs.OpeningLaws.{opening_sound}
use Rattle.qm_board.specs.WorldSets.{sets_of}
use Rattle.qm_board.proofs.laws.boards_stay_sound.Goals as goal

pub returns-clause-opening : goal.returns-clause-opening
returns-clause-opening c = λ world rows given. opening_sound (sets_of world) rows given

pub returns-clause-kept : goal.returns-clause-kept
returns-clause-kept c = λ world old new sound step. kept_by_step (sets_of world) old sound new step

pub returns-clause-always : goal.returns-clause-always
returns-clause-always c = λ world first state sound run. kept_by_run (sets_of world) first sound state run

pub returns-clause-only_narrow : goal.returns-clause-only_narrow
returns-clause-only_narrow c = λ world first state portal k sound run inside within. run_narrows (sets_of world) first sound state run portal k inside within

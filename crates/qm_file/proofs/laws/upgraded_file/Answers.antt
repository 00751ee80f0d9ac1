use Rattle.qm_formats.proofs.UpgradedFiles.{upgraded_again, upgraded_valid}
use Rattle.qm_file.proofs.laws.upgraded_file.Goals as goal

pub returns : goal.returns
returns c = λ file valid. let both = upgraded_valid file valid in (both.0, both.1, both.2, upgraded_again file)

-- The bytes of a file in version 2 are what is made of it.
use Rattle.std.proofs.Common.{◌≡◌, ℕ, List}
use Rattle.qm_formats.specs.FileLayout.{file_bytes}
use Rattle.qm_formats.specs.TreeFile.{TreeFile, IsValidFile}
use Rattle.qm_formats.specs.Upgraded.{upgraded}
use Rattle.qm_formats.proofs.UpgradedFiles.{upgraded_valid}
use Rattle.qm_answers.proofs.UpgradedAnswers.{upgraded_answers}
use Rattle.qm_statement.specs.UpgradeComesOf.{IsUpgradeOf}

pub upgrade_of : (file : TreeFile) (bytes : List ℕ) → IsValidFile file → bytes ≡ file_bytes (upgraded file) → IsUpgradeOf file bytes
upgrade_of file bytes valid is =
    record { is_file = record { valid = (upgraded_valid file valid).0; exactly = is }; same_answers = upgraded_answers file }

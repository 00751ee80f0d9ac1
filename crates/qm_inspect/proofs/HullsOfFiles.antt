-- The hulls among the parts of a file are those of the file.
use Rattle.std.proofs.Common.{◌≡◌, ℕ, zero, suc}
use Rattle.qm_formats.specs.TreeFile.{TreeFile}
use Rattle.qm_answers.specs.DecodedSections.{decoded_hull}
use Rattle.qm_inspect.specs.declared.parts.Parts.{Parts}
use Rattle.qm_inspect.specs.Parts.{ArePartsOf, hull_in}

pub hull_of_file : (file : TreeFile) (parts : Parts) (hull : ℕ) → ArePartsOf file parts → hull_in parts hull ≡ decoded_hull file hull
hull_of_file file parts zero are = are.second_hull
hull_of_file file parts (suc zero) are = are.first_hull
hull_of_file file parts (suc (suc number)) are = are.second_hull

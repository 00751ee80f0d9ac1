use Rattle.std.proofs.Common.{refl}
use Rattle.qm_formats.specs.FileLayout.{file_bytes}
use Rattle.qm_formats.proofs.WholeFile.{one_file_of}
use Rattle.qm_file.proofs.laws.one_tree_file.Goals as goal

pub returns : goal.returns
returns c = λ file other valid other_valid same fits.
    one_file_of (file_bytes file) file other (record { valid = valid; bytes_are = refl; fits = fits }) (record { valid = other_valid; bytes_are = same; fits = fits })

use Rattle.std.proofs.Common.{length}
use Rattle.qm_formats.proofs.WholeFile.{read_file_found, read_file_again}
use Rattle.qm_file.proofs.laws.read_tree_file.Goals as goal

pub returns : goal.returns
returns c = λ bytes file are. (λ read. read_file_found bytes file (length bytes) are read, λ is. read_file_again bytes file is)

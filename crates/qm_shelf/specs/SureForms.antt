use Rattle.std.specs.Prelude.{ℕ, List, Option}
use Rattle.qm_shelf.specs.NamedFiles.{file_under}
use Rattle.qm_shelf.specs.declared.sure_shelf.SureShelf.{SureShelf}
use Rattle.qm_shelf.specs.declared.sure_sink.SureSink.{SureSink}

-- the bytes of the file under a name, and none where the name is not held
abbrev pub held : SureShelf → List ℕ → Option (List ℕ)
held shelf name = file_under shelf.files name

-- all that was written
abbrev pub written : SureSink → List ℕ
written sink = sink.bytes.items

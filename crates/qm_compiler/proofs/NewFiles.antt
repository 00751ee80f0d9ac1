-- A new file has the form in which maps are compiled.
use Rattle.std.proofs.Common.{◌≡◌, Bool, List, Option, sym, subst, refl}
use Rattle.qm_partition.specs.Tree.{Tree}
use Rattle.qm_formats.specs.TreeFile.{Section, TreeFile}
use Rattle.qm_statement.specs.CompiledForm.{HasCompiledForm}
use Rattle.qm_compiler.specs.inner.NewFile.{new_file}

pub new_form : (file : TreeFile) (tree : Tree) (rows : Option (List (List Bool))) (sections : List Section) → file ≡ new_file tree rows sections → HasCompiledForm file
new_form file tree rows sections is = subst HasCompiledForm (sym is) (record { version = refl; bound = refl })

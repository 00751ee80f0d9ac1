use Rattle.std.specs.Prelude.{◌≡◌, ◌≤◌, ℕ, IsTrue, List, length}
use Rattle.qm_surroundings.specs.ShelfState.{ShelfState, text_under}
use Rattle.qm_formats.specs.Fields.{AreBytes}
use Rattle.qm_formats.specs.FileLayout.{file_limit, IsFileOf}
use Rattle.qm_formats.specs.FileParts.{FileFaultKind}
use Rattle.qm_formats.specs.TreeFaults.{IsFaultOfFileBytes}
use Rattle.qm_formats.specs.TreeFile.{TreeFile}

-- What TREE held: a tree file, or bytes with a first fault. Where the shelf tells what it holds, the bytes are those that it held,
-- and so it is never both.

-- the bytes are those of a valid tree file, and no more than are read
pub record HoldsTreeFile (before : ShelfState) (tree_name : List ℕ) (file : TreeFile) : Type 0 where
  pub bytes : List ℕ
  pub is_held : IsTrue before.tells → bytes ≡ text_under before tree_name
  pub is_file : IsFileOf bytes file

-- the bytes, each below 256 where all are read, have this fault, the first in the order of the parts of a tree file, and this is its
-- place
pub record HoldsTreeFault (before : ShelfState) (tree_name : List ℕ) (kind : FileFaultKind) (place : ℕ) : Type 0 where
  pub bytes : List ℕ
  pub is_held : IsTrue before.tells → bytes ≡ text_under before tree_name
  pub are_bytes : length bytes ≤ file_limit → AreBytes bytes
  pub is_fault : IsFaultOfFileBytes bytes kind place

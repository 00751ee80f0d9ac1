use Rattle.std.specs.Prelude.{◌≡◌, ◌≤◌, ℕ, ◌+◌, List, ◌++◌, length, drop, IsTrue}
use Rattle.qm_formats.specs.Layout.{got, Layout}
use Rattle.qm_formats.specs.Fields.{AreBytes}

-- the part stands at a place of a file, and ends at another
pub record StandsAt (file : List ℕ) (at : ℕ) (part : List ℕ) (next : ℕ) : Type 0 where
  pub stands : drop at file ≡ part ++ drop next file
  pub ends : next ≡ at + length part
  pub within : next ≤ length file

-- what is read at a place is right and stands there
pub record IsRightAt {F X : Type 0} (layout : Layout F X) (file : List ℕ) (at : ℕ) (x : X) (next : ℕ) : Type 0 where
  pub right : IsTrue (layout.right x)
  pub stands : StandsAt file at (layout.bytes_of x) next

-- a value is read exactly where it is right and its bytes stand
pub record IsExact {F X : Type 0} (layout : Layout F X) : Type 0 where
  pub found : (file : List ℕ) (at : ℕ) (x : X) (next : ℕ) → AreBytes file → at ≤ length file → layout.read file at ≡ got x next → IsRightAt layout file at x next
  pub again : (file : List ℕ) (at : ℕ) (x : X) (next : ℕ) → IsRightAt layout file at x next → layout.read file at ≡ got x next

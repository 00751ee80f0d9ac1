use Rattle.std.specs.Prelude.{◌≡◌, ◌<◌, ℕ, Bool, true, false, not, ◌&&◌, List, length, Option, Some, None, Contains, if◌then◌else◌}
use Rattle.qm_space.specs.Point.{Point}
use Rattle.qm_space.specs.Plane.{Plane, IsOn}
use Rattle.qm_space.specs.Book.{plane_at}
use Rattle.qm_partition.specs.declared.node.Leaf.{Leaf}
use Rattle.qm_partition.specs.Tree.{Tree}
use Rattle.qm_contacts.specs.NumberedLeaves.{is_solid, is_numbered}
use Rattle.qm_contacts.specs.Meeting.{Meeting, meetings}
use Rattle.qm_contacts.specs.Contact.{IsContact}
use Rattle.qm_contacts.specs.Portals.{leaf_record}

-- The boundary of a map: where its rock touches leaves that are not solid.

-- a leaf is rock where it is solid and was not filled
abbrev pub is_rock : Leaf → Bool
is_rock found = is_solid found.contents && not found.filled

-- the first leaf is rock, and the second is not solid
abbrev pub is_boundary : Leaf → Leaf → Bool
is_boundary rock other = is_rock rock && is_numbered other

-- on which side of a node the rock is, where of a leaf in front and one behind the one is rock and the other is not solid; true
-- names the front
abbrev pub rock_side : Tree → ℕ → ℕ → Option Bool
rock_side tree front back =
    if is_boundary (leaf_record tree front) (leaf_record tree back) then Some true
    else (if is_boundary (leaf_record tree back) (leaf_record tree front) then Some false else None)

-- of a leaf in front and one behind the one on a side
abbrev pub leaf_on : Bool → ℕ → ℕ → ℕ
leaf_on true front back = front
leaf_on false front back = back

-- the point is on no plane of the book but that of the number n
abbrev pub IsOnNoOther : List Plane → ℕ → Point → Type 0
IsOnNoOther planes n x = (m : ℕ) → m < length planes → IsOn (plane_at planes m) x → m ≡ n

-- a point at which rock, on a side of the node that parts the two, touches a leaf that is not solid; it is on no other plane
pub record IsBoundaryPoint (tree : Tree) (meeting : Meeting) (side : Bool) (x : Point) : Type 0 where
  pub listed : Contains (meetings tree) meeting
  pub sides : rock_side tree meeting.front.leaf meeting.back.leaf ≡ Some side
  pub contact : IsContact tree.planes meeting x
  pub only : IsOnNoOther tree.planes meeting.plane x

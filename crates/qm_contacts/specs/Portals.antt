use Rattle.std.specs.Prelude.{◌≡◌, ℕ, ◌&&◌, Bool, true, false, List, [], ◌∷◌, take, filter, flat_map, count_by, slice_index_or}
use Rattle.qm_space.specs.Plane.{Plane}
use Rattle.qm_space.specs.Turned.{turned}
use Rattle.qm_convex.specs.Winding.{Winding}
use Rattle.qm_contents.specs.declared.contents.Contents.TheVariants.{Solid}
use Rattle.qm_contents.specs.Precedence.{is_same_contents}
use Rattle.qm_partition.specs.declared.node.Leaf.{Leaf}
use Rattle.qm_partition.specs.Tree.{Tree}
use Rattle.qm_partition.specs.Counting.{leaves_of}
use Rattle.qm_contacts.specs.NumberedLeaves.{is_numbered}
use Rattle.qm_contacts.specs.Meeting.{meetings}
use Rattle.qm_contacts.specs.Touching.{Touching, AreTouchings}

-- Through a portal one goes from one numbered leaf to another of equal contents.

-- the polygon through which one goes, its plane turned to the leaf that one enters, and both leaves by their numbers
pub record Portal : Type 0 where
  pub winding : Winding
  pub into : Plane
  pub from : ℕ
  pub to : ℕ

-- the leaf at a place; one that is not there is solid
abbrev pub leaf_record : Tree → ℕ → Leaf
leaf_record tree k = slice_index_or (leaves_of tree.shape) k (record { contents = Solid; filled = false })

-- the number of a numbered leaf: how many come before it
abbrev pub leaf_number : Tree → ℕ → ℕ
leaf_number tree k = count_by is_numbered (take k (leaves_of tree.shape))

-- both leaves are numbered, and their contents are the same
abbrev pub is_passage : Tree → Touching → Bool
is_passage tree found =
    let front = leaf_record tree found.front in
    let back = leaf_record tree found.back in
    is_numbered front && is_same_contents front.contents back.contents

-- the portal to the one side of the polygon's plane
abbrev pub portal : Tree → Touching → Bool → ℕ → ℕ → Portal
portal tree found to_front from to = record {
  winding = found.winding;
  into = turned to_front found.winding.plane;
  from = leaf_number tree from;
  to = leaf_number tree to;
}

-- the portal from the leaf in front to the leaf behind, and the one back
abbrev pub both_ways : Tree → Touching → List Portal
both_ways tree found = portal tree found false found.front found.back ∷ portal tree found true found.back found.front ∷ []

-- the portals of a tree, in the order of its touching pairs
abbrev pub portals_of : Tree → List Touching → List Portal
portals_of tree touchings = flat_map (both_ways tree) (filter (is_passage tree) touchings)

-- a tree has so many passages
pub record HasPassages (tree : Tree) (count : ℕ) : Type 0 where
  pub touchings : List Touching
  pub are_touchings : AreTouchings tree.planes (meetings tree) touchings
  pub counted : count ≡ count_by (is_passage tree) touchings

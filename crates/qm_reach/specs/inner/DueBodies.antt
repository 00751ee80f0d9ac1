-- Bodies that are due where one goes down a tree: each with the child to which it came.
use Rattle.std.specs.Prelude.{ℕ, ◌^◌, Option, Some, None, List, [], ◌∷◌}
use Rattle.qm_lists.specs.inner.Stack.{Leaves, IsTakenOff, StandsForKnown, IsUnderWay}
use Rattle.qm_space.specs.Plane.{Plane}
use Rattle.qm_convex.specs.inner.Facets.{Facet}
use Rattle.qm_partition.specs.declared.node.Child.{Child}
use Rattle.qm_partition.specs.Partition.{Partition}
use Rattle.qm_partition.specs.Tree.{Tree}
use Rattle.qm_partition.specs.Counting.{node_count}
use Rattle.qm_partition.specs.inner.PlacedPart.{nodes_from}
use Rattle.qm_contacts.specs.Meeting.{leaves_below}
use Rattle.qm_contacts.specs.inner.Due.{StandsFor}
use Rattle.qm_facets.specs.Body.{IsBody}
use Rattle.qm_reach.specs.ReachedLeaves.{AreReached}

pub record DueBody : Type 0 where
  pub child : Child
  pub facets : List Facet

abbrev pub body_at : List Facet → Child → DueBody
body_at facets child = record { child = child; facets = facets }

-- a half of a body, if there is one, at its child
abbrev pub half_at_child : Option (List Facet) → Child → List DueBody
half_at_child None child = []
half_at_child (Some facets) child = body_at facets child ∷ []

-- the same, with the cell of which it is the body, and the part of the tree for which the child stands: its nodes are
-- numbered from n on, its leaves from k on
pub record BodyBelow : Type 0 where
  pub due : DueBody
  pub cell : List Plane
  pub part : Partition
  pub n : ℕ
  pub k : ℕ

abbrev pub due_body_of : BodyBelow → DueBody
due_body_of entry = entry.due

-- what is known of a body that is due
pub record IsDueBody (tree : Tree) (entry : BodyBelow) : Type 0 where
  pub stands : StandsFor tree.shape entry.due.child entry.part entry.n entry.k
  pub body : IsBody entry.cell entry.due.facets

-- what it comes to: the leaves of its part that its cell reaches
abbrev pub ComesToLeaves : List Plane → BodyBelow → List ℕ → Type 0
ComesToLeaves planes entry found = AreReached planes entry.cell (leaves_below entry.part entry.k) found

-- more than both children of a node have there is to do at the node
abbrev pub body_weight : Tree → DueBody → ℕ
body_weight tree due = 3 ^ nodes_from (node_count tree.shape) due.child

-- the leaves that a body reaches are some leaves, and those of others that are due
abbrev pub LeavesBodies : Tree → DueBody → List DueBody → List ℕ → Type 0
LeavesBodies tree = Leaves due_body_of (IsDueBody tree) (ComesToLeaves tree.planes)

-- a body is taken off those that are due
abbrev pub IsWalkedOn : Tree → DueBody → List DueBody → List DueBody → List ℕ → List ℕ → Type 0
IsWalkedOn tree = IsTakenOff due_body_of (IsDueBody tree) (ComesToLeaves tree.planes) (body_weight tree)

-- it can be due: it is a body, at a child of the tree
abbrev pub MayBeDueBody : Tree → DueBody → Type 0
MayBeDueBody tree = StandsForKnown due_body_of (IsDueBody tree) (ComesToLeaves tree.planes)

-- what is due and found on the way to all leaves that it reaches
abbrev pub IsWalking : Tree → DueBody → List DueBody → List ℕ → Type 0
IsWalking tree = IsUnderWay due_body_of (IsDueBody tree) (ComesToLeaves tree.planes)

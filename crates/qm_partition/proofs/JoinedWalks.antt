-- Joining visits from the last one to the first gives the visits of the joined partition.
use Rattle.std.proofs.Common.{◌≡◌, ℕ, ◌-◌, Bool, true, false, if◌then◌else◌, List, [], ◌∷◌, ◌++◌, Some, None, take, drop, reverse, length, refl, sym, ap, ◌∙◌}
use Rattle.std.proofs.lemmas.List.{append_assoc, reverse-reverse}
use Rattle.qm_lists.proofs.Reversed.{reverse-push, reverse-but_two}
use Rattle.qm_partition.specs.declared.node.Leaf.{Leaf as LeafRecord}
use Rattle.qm_partition.specs.declared.visit.Visit.{Visit}
use Rattle.qm_partition.specs.declared.visit.Visit.TheVariants.{Node, Leaf}
use Rattle.qm_partition.specs.Partition.{Partition, leaf, node}
use Rattle.qm_partition.specs.Visits.{visits}
use Rattle.qm_partition.specs.Joining.{have_same_contents, joined_node, joined}
use Rattle.qm_partition.specs.inner.JoinedWalk.{joint_of, node_joined, joined_by, joined_from}

pub joined_from-append : (walk walk' done : List Visit) → joined_from (walk ++ walk') done ≡ joined_from walk (joined_from walk' done)
joined_from-append [] walk' done = refl
joined_from-append (visit ∷ walk) walk' done = ap (joined_by visit) (joined_from-append walk walk' done)

-- two leaves behind a node
two_leaves : (n : ℕ) (a b : LeafRecord) (rest : List Visit) (test : Bool) → node_joined n (Leaf a ∷ (Leaf b ∷ rest)) (if test then Some a else None) ≡ visits (if test then leaf a else node n (leaf a) (leaf b)) ++ rest
two_leaves n a b rest true = refl
two_leaves n a b rest false = refl

-- a node behind which both sides are joined
at_joined_node : (n : ℕ) (front back : Partition) (rest : List Visit) → joined_by (Node n) (visits front ++ (visits back ++ rest)) ≡ visits (joined_node n front back) ++ rest
at_joined_node n (leaf a) (leaf b) rest = two_leaves n a b rest (have_same_contents a b)
at_joined_node n (leaf a) (node m front back) rest = refl
at_joined_node n (node m front back) behind rest = ap (λ (walk : List Visit). Node n ∷ (Node m ∷ walk)) (sym (append_assoc (visits front ++ visits back) (visits behind) rest))

pub joined_from-visits : (shape : Partition) (rest : List Visit) → joined_from (visits shape) rest ≡ visits (joined shape) ++ rest
joined_from-visits (leaf found) rest = refl
joined_from-visits (node n front back) rest =
    ap (joined_by (Node n)) (
    joined_from-append (visits front) (visits back) rest
    ∙ ap (joined_from (visits front)) (joined_from-visits back rest)
    ∙ joined_from-visits front (visits (joined back) ++ rest))
    ∙ at_joined_node n (joined front) (joined back) rest

-- ---- on a stack, where the last visit stands first

-- two leaves at the end of a stack become one
joint_at_end : (walk : List Visit) (n : ℕ) (joint : LeafRecord) → Some joint ≡ joint_of walk → reverse (take (length (reverse walk) - 2) (reverse walk) ++ Leaf joint ∷ []) ≡ Leaf joint ∷ drop 2 walk
joint_at_end [] n joint is = absurd cc
joint_at_end (Leaf front ∷ []) n joint is = absurd cc
joint_at_end (Node m ∷ []) n joint is = absurd cc
joint_at_end (a ∷ (b ∷ walk)) n joint is =
    rw (reverse-but_two a b walk) (reverse-push (reverse walk) (Leaf joint) ∙ ap (λ (rest : List Visit). Leaf joint ∷ rest) (reverse-reverse walk))

pub joint_pushed : (stack : List Visit) (n : ℕ) (joint : LeafRecord) → Some joint ≡ joint_of (reverse stack) → reverse (take (length stack - 2) stack ++ Leaf joint ∷ []) ≡ joined_by (Node n) (reverse stack)
joint_pushed stack n joint is =
    let again : reverse (reverse stack) ≡ stack = reverse-reverse stack in
    ap (λ (all : List Visit). reverse (take (length all - 2) all ++ Leaf joint ∷ [])) (sym again)
    ∙ joint_at_end (reverse stack) n joint is
    ∙ ap (node_joined n (reverse stack)) is

-- The node and the leaves of a touching pair are there; the boundary at it; and pieces, pair after pair.
use Rattle.std.proofs.Common.{◌≡◌, ◌+◌, ℕ, suc, Bool, true, false, not, if◌then◌else◌, List, [], ◌∷◌, ◌++◌, take, map, slice_get, Some, None, refl, sym, ap, ◌∙◌, subst, arith}
use Rattle.std.proofs.lemmas.List.{append_assoc, append-nil, map-append}
use Rattle.std.proofs.lemmas.List.Elements.{All-contains}
use Rattle.std.proofs.lemmas.Option.{get_or_from_slice_get, slice_get-map}
use Rattle.std.specs.Prelude.{option_map}
use Rattle.qm_lists.proofs.Elements.{Contains-at}
use Rattle.qm_lists.proofs.Places.{take_next}
use Rattle.qm_contents.specs.declared.contents.Contents.TheVariants.{Solid}
use Rattle.qm_space.specs.Plane.{Plane}
use Rattle.qm_convex.specs.Winding.{Winding}
use Rattle.qm_partition.specs.declared.node.Node.{Node}
use Rattle.qm_partition.specs.declared.node.Leaf.{Leaf}
use Rattle.qm_partition.specs.Partition.{Partition, leaf, node}
use Rattle.qm_partition.specs.Tree.{Tree}
use Rattle.qm_partition.specs.Counting.{leaves_of, node_planes}
use Rattle.qm_partition.specs.Numbering.{nodes_after, leaves_after, nodes_of}
use Rattle.qm_partition.proofs.Counts.{nodes_after-count, leaves_after-count}
use Rattle.qm_contacts.specs.Meeting.{meetings}
use Rattle.qm_contacts.specs.Touching.{Touching, AreTouchings}
use Rattle.qm_contacts.specs.Portals.{leaf_record}
use Rattle.qm_contacts.proofs.Meetings.{IsBetween, meetings_between}
use Rattle.qm_contacts.proofs.Touchings.{meeting_of_touching}
use Rattle.qm_solids.specs.InBook.{BookSolid}
use Rattle.qm_surface.specs.Boundary.{is_boundary, rock_side, leaf_on}
use Rattle.qm_surface.specs.Owner.{FaceOwner, owners_from}
use Rattle.qm_surface.specs.Surface.{FacePiece, AreOwnedPieces, plane_of_node, IsCutUp, boundary, no_boundary, AreFacePieces, none, more}
use Rattle.qm_faces.specs.declared.boundary.Boundary.{Boundary}
use Rattle.qm_faces.specs.inner.Cuts.{AreCutFor, IsPairThere, IsBoundaryAt, AreAddedFor}

-- ---- a touching pair of the tree

pub pair_there : (tree : Tree) (touchings : List Touching) (i : ℕ) (found : Touching) → AreTouchings tree.planes (meetings tree) touchings → slice_get touchings i ≡ Some found → IsPairThere tree found
pair_there tree touchings i found are at =
    let m = meeting_of_touching tree.planes (meetings tree) touchings found are (Contains-at touchings i found at) in
    let Between = IsBetween 0 (nodes_after tree.shape 0) 0 (leaves_after tree.shape 0) in
    let is = All-contains Between (meetings tree) m.0 (meetings_between tree.shape 0 0 []) m.1 in
    record {
      node = omega (arith, is.node_high, m.2.node, nodes_after-count tree.shape 0);
      front = omega (arith, is.leaf_order, is.leaf_high, m.2.front, leaves_after-count tree.shape 0);
      back = omega (arith, is.leaf_high, m.2.back, leaves_after-count tree.shape 0);
    }

-- ---- the plane of a node

abbrev plane_in : Node → ℕ
plane_in here = here.plane

planes_of_nodes : (shape : Partition) (n k : ℕ) → map plane_in (nodes_of shape n k) ≡ node_planes shape
planes_of_nodes (leaf found) n k = refl
planes_of_nodes (node p front back) n k =
    let n_back = nodes_after front (n + 1) in
    let k_back = leaves_after front k in
    ap (λ (rest : List ℕ). p ∷ rest)
    (map-append plane_in (nodes_of front (n + 1) k) (nodes_of back n_back k_back)
    ∙ ap (λ (rest : List ℕ). rest ++ map plane_in (nodes_of back n_back k_back)) (planes_of_nodes front (n + 1) k)
    ∙ ap (λ (rest : List ℕ). node_planes front ++ rest) (planes_of_nodes back n_back k_back))

pub plane_of_its_node : (tree : Tree) (n : ℕ) (here : Node) → slice_get (nodes_of tree.shape 0 0) n ≡ Some here → here.plane ≡ plane_of_node tree n
plane_of_its_node tree n here at =
    sym (get_or_from_slice_get (node_planes tree.shape) n here.plane 0
    (ap (λ (ps : List ℕ). slice_get ps n) (sym (planes_of_nodes tree.shape 0 0)) ∙ slice_get-map plane_in (nodes_of tree.shape 0 0) n ∙ ap (option_map plane_in) at))

-- ---- on which side the rock is

module _ (tree : Tree) (f b : ℕ) (front back : Leaf) (front_is : slice_get (leaves_of tree.shape) f ≡ Some front) (back_is : slice_get (leaves_of tree.shape) b ≡ Some back) where
  abbrev no_leaf : Leaf
  no_leaf = record { contents = Solid; filled = false }

  first_test : is_boundary (leaf_record tree f) (leaf_record tree b) ≡ is_boundary front back
  first_test = λ i. is_boundary (get_or_from_slice_get (leaves_of tree.shape) f front no_leaf front_is i) (get_or_from_slice_get (leaves_of tree.shape) b back no_leaf back_is i)

  second_test : is_boundary (leaf_record tree b) (leaf_record tree f) ≡ is_boundary back front
  second_test = λ i. is_boundary (get_or_from_slice_get (leaves_of tree.shape) b back no_leaf back_is i) (get_or_from_slice_get (leaves_of tree.shape) f front no_leaf front_is i)

  choice : (p q : Bool) → is_boundary front back ≡ p → is_boundary back front ≡ q → rock_side tree f b ≡ (if p then Some true else (if q then Some false else None))
  choice p q first second = λ i. if (first_test ∙ first) i then Some true else (if (second_test ∙ second) i then Some false else None)

  pub rock_in_front : is_boundary front back ≡ true → rock_side tree f b ≡ Some true
  rock_in_front first = choice true (is_boundary back front) first refl

  pub rock_behind : is_boundary front back ≡ false → is_boundary back front ≡ true → rock_side tree f b ≡ Some false
  rock_behind first second = choice false true first second

  pub no_rock_side : is_boundary front back ≡ false → is_boundary back front ≡ false → rock_side tree f b ≡ None
  no_rock_side first second = choice false false first second

-- ---- one pair

-- a pair of which neither leaf is rock beside one that is not solid adds nothing
pub none_added : (tree : Tree) (solids : List BookSolid) (found : Touching) (old : List FacePiece) → rock_side tree found.front found.back ≡ None → AreAddedFor tree solids found old old
none_added tree solids found old nowhere = record { own = []; new_is = sym (append-nil old); cut_up = no_boundary nowhere }

module _ (tree : Tree) (planes : List Plane) (solids : List BookSolid) (found : Touching) (at : Boundary) (is : IsBoundaryAt tree found at) where
  abbrev Owned : List Plane → ℕ → ℕ → List FaceOwner → List Winding → List FacePiece → Type 0
  Owned hs n k owners rest own = AreOwnedPieces hs solids n at.side k owners rest own

  -- and one that is a boundary adds what its owners have
  pub pieces_added : (owners : List FaceOwner) (rest : List Winding) (old new : List FacePiece) → tree.planes ≡ planes → owners ≡ owners_from at.plane at.side solids 0 → rest ≡ found.winding ∷ [] → AreCutFor planes solids at owners rest old new → AreAddedFor tree solids found old new
  pieces_added owners rest old new planes_are owners_are rest_is cut = record {
    own = cut.own;
    new_is = cut.new_is;
    cut_up = boundary is.side
        (subst (λ (n : ℕ). Owned tree.planes n (leaf_on (not at.side) found.front found.back) (owners_from n at.side solids 0) (found.winding ∷ []) cut.own) is.plane
        (subst (λ (k : ℕ). Owned tree.planes at.plane k (owners_from at.plane at.side solids 0) (found.winding ∷ []) cut.own) is.leaf
        (subst (λ (ws : List Winding). Owned tree.planes at.plane at.leaf (owners_from at.plane at.side solids 0) ws cut.own) rest_is
        (subst (λ (os : List FaceOwner). Owned tree.planes at.plane at.leaf os rest cut.own) owners_are
        (subst (λ (hs : List Plane). Owned hs at.plane at.leaf owners rest cut.own) (sym planes_are) cut.are)))));
  }

-- ---- pair after pair

pub pieces_more : (tree : Tree) (solids : List BookSolid) (touchings : List Touching) (pieces : List FacePiece) (found : Touching) (own : List FacePiece) → AreFacePieces tree solids touchings pieces → IsCutUp tree solids found own → AreFacePieces tree solids (touchings ++ found ∷ []) (pieces ++ own)
pieces_more tree solids touchings pieces found own none cut = subst (λ (ps : List FacePiece). AreFacePieces tree solids (found ∷ []) ps) (append-nil own) (more cut none)
pieces_more tree solids touchings pieces found own (more {found = first} {touchings = others} {own = its} {rest = rest} one are) cut =
    subst (λ (ps : List FacePiece). AreFacePieces tree solids (first ∷ (others ++ found ∷ [])) ps) (sym (append_assoc its rest own)) (more one (pieces_more tree solids others rest found own are cut))

pub pieces_next : (tree : Tree) (solids : List BookSolid) (touchings : List Touching) (i : ℕ) (found : Touching) (old new own : List FacePiece) → slice_get touchings i ≡ Some found → AreFacePieces tree solids (take i touchings) old → new ≡ old ++ own → IsCutUp tree solids found own → AreFacePieces tree solids (take (i + 1) touchings) new
pieces_next tree solids touchings i found old new own at so_far new_is cut =
    let one_more : i + 1 ≡ suc i = omega arith in
    subst (λ (ts : List Touching). AreFacePieces tree solids ts new) (sym (ap (λ (k : ℕ). take k touchings) one_more ∙ take_next touchings i found at))
    (subst (λ (ps : List FacePiece). AreFacePieces tree solids (take i touchings ++ found ∷ []) ps) (sym new_is) (pieces_more tree solids (take i touchings) old found own so_far cut))

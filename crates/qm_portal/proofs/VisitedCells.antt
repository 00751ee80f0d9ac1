-- What is found at a cell that is due, and what is left to do there.
use Rattle.std.proofs.Common.{◌≡◌, ◌<◌, ℕ, ◌+◌, Bool, true, false, Some, List, [], ◌∷◌, ◌++◌, refl, sym, ap, ◌∙◌, subst, arith, ◌↔◌}
use Rattle.std.specs.Prelude.{slice_get, sum_by, All}
use Rattle.std.proofs.lemmas.List.{append_assoc, append-nil}
use Rattle.std.proofs.lemmas.List.Elements.{All-nil, All-cons}
use Rattle.qm_numbers.proofs.Powers.{some_power, two_powers}
use Rattle.qm_lists.specs.inner.Stack.{IsLeft, IsUnderWay}
use Rattle.qm_lists.proofs.KeptStacks.{under_way_first, under_way_next, under_way_goes_on, under_way_smaller}
use Rattle.qm_space.specs.Point.{Point}
use Rattle.qm_space.specs.Plane.{Plane, IsOn, flipped}
use Rattle.qm_space.specs.Cell.{IsInCell}
use Rattle.qm_space.specs.Turned.{turned}
use Rattle.qm_space.specs.Book.{plane_at}
use Rattle.qm_space.proofs.Books.{plane_at_from}
use Rattle.qm_convex.specs.Winding.{Winding}
use Rattle.qm_convex.specs.inner.Facets.{Facet}
use Rattle.qm_convex.specs.Section.{IsSection}
use Rattle.qm_partition.specs.declared.node.Node.{Node as NodeRecord}
use Rattle.qm_partition.specs.declared.node.Child.{Child}
use Rattle.qm_partition.specs.declared.node.Child.TheVariants.{Node, Leaf}
use Rattle.qm_partition.specs.Tree.{Tree}
use Rattle.qm_partition.specs.Counting.{node_count}
use Rattle.qm_partition.specs.Numbering.{nodes_of, nodes_after, leaves_after}
use Rattle.qm_partition.specs.Ways.{Way, ways}
use Rattle.qm_partition.specs.inner.PlacedPart.{nodes_from}
use Rattle.qm_partition.proofs.PlacedParts.{sides_come_later}
use Rattle.qm_contacts.specs.Meeting.{leaves_below, then_step}
use Rattle.qm_contacts.specs.Touching.{Touching}
use Rattle.qm_contacts.specs.Outside.{TouchesOutside}
use Rattle.qm_contacts.specs.inner.Descent.{AreBounds, AreWallFacets}
use Rattle.qm_contacts.specs.inner.Pieces.{walled_cell, ArePiecesOfEach}
use Rattle.qm_contacts.specs.inner.Due.{StandsFor, DueCell, DueCellBelow, IsDueCell, cell_due_of, ComesToTouchings, ComesToOutside}
use Rattle.qm_contacts.proofs.Pieces.{walled_split, touchings_at_node}
use Rattle.qm_contacts.proofs.Descent.{facets_below, bounds_below, touches_outside, not_outside}
use Rattle.qm_contacts.proofs.PushedDown.{IsNodePart, IsLeafPart, node_part, leaf_part, node_within}
use Rattle.qm_contacts.proofs.CellsDue.{leaf_way, none_due_at_leaf, outside_due_at_leaf, front_due, back_due, front_known, back_known, point_here, touchings_due_at_node, outside_due_at_node}
use Rattle.qm_portal.specs.inner.Pushes.{IsChildOf, weight_at}
use Rattle.qm_portal.specs.inner.Cells.{CrossesCell, IsHalf}
use Rattle.qm_portal.specs.inner.Walks.{has_facets, cell_weight, MayBeDueCell, IsVisited, IsWalking, ArePairsAdded}

-- ---- a leaf

outside_test : (tree : Tree) (j : ℕ) (way : Way) (on_walls : List Facet) → AreWallFacets tree.planes way on_walls → slice_get (ways tree.shape) j ≡ Some way → (has_facets on_walls ≡ true) ↔ TouchesOutside tree j
outside_test tree j way [] are at = ((λ is. absurd cc), (λ touches. absurd (not_outside tree j way at are touches)))
outside_test tree j way (first ∷ others) are at = ((λ is. touches_outside tree j way first others at are), (λ touches. refl))

module _ (tree : Tree) (cell : DueCell) (j : ℕ) (child_is : cell.child ≡ Leaf j) where
  leaf_of_entry : (entry : DueCellBelow) → cell_due_of entry ≡ cell → IsDueCell tree entry → IsLeafPart entry.part entry.k j
  leaf_of_entry entry same known = leaf_part tree.shape entry.due.child entry.part entry.n entry.k j known.stands (ap (λ (d : DueCell). d.child) same ∙ child_is)

  -- it has no touching pairs, and its facets show whether it touches the outside
  pub visited_leaf : (due : List DueCell) (pairs : List Touching) (outside new : List Bool) → new ≡ outside ++ has_facets cell.on_walls ∷ [] → IsVisited tree cell due due pairs pairs outside new
  visited_leaf due pairs outside new new_is = record {
    touchings = record {
      others = [];
      own = [];
      stack_is = sym (append-nil due);
      done_is = sym (append-nil pairs);
      leaves = λ entry same known. record {
        entries = [];
        kept_is = refl;
        known = All-nil (IsDueCell tree);
        rest = λ all comes. none_due_at_leaf tree.planes entry j all (leaf_of_entry entry same known) comes;
      };
      lighter = some_power (nodes_from (node_count tree.shape) cell.child);
    };
    outside = record {
      others = [];
      own = has_facets cell.on_walls ∷ [];
      stack_is = sym (append-nil due);
      done_is = new_is;
      leaves = λ entry same known. record {
        entries = [];
        kept_is = refl;
        known = All-nil (IsDueCell tree);
        rest = λ all comes.
            let part = leaf_of_entry entry same known in
            let test = outside_test tree j entry.above entry.due.on_walls known.facets (leaf_way tree entry j known part) in
            subst (λ (d : DueCell). ComesToOutside tree entry (has_facets d.on_walls ∷ [] ++ all)) same (outside_due_at_leaf tree entry j (has_facets entry.due.on_walls) all part test comes);
      };
      lighter = some_power (nodes_from (node_count tree.shape) cell.child);
    };
  }

-- ---- a node

pub cell_node_within : (tree : Tree) (cell : DueCell) (n : ℕ) → cell.child ≡ Node n → MayBeDueCell tree cell → n < node_count tree.shape
cell_node_within tree cell n child_is (entry, same, known) =
    node_within tree.shape entry.part entry.n entry.k n (subst (λ (child : Child). StandsFor tree.shape child entry.part entry.n entry.k) (ap (λ (d : DueCell). d.child) same ∙ child_is) known.stands)

module _ (tree : Tree) (cell : DueCell) (n : ℕ) (here : NodeRecord) (g : Plane) (child_is : cell.child ≡ Node n) (at : slice_get (nodes_of tree.shape 0 0) n ≡ Some here) (plane_is : slice_get tree.planes here.plane ≡ Some g) where
  same_plane : plane_at tree.planes here.plane ≡ g
  same_plane = plane_at_from tree.planes here.plane g plane_is

  module _ (entry : DueCellBelow) (same : cell_due_of entry ≡ cell) (known : IsDueCell tree entry) where
    node_of_entry : (n ≡ entry.n) × IsNodePart tree.shape entry.part entry.n entry.k here
    node_of_entry = node_part tree.shape entry.due.child entry.part entry.n entry.k n here known.stands (ap (λ (d : DueCell). d.child) same ∙ child_is) at

    -- the plane of the node has a point of the cell
    crosses_at : CrossesCell (walled_cell tree.planes entry.above) cell g
    crosses_at =
        subst (λ (d : DueCell). CrossesCell (walled_cell tree.planes entry.above) d g) same
        (subst (λ (h : Plane). CrossesCell (walled_cell tree.planes entry.above) entry.due h) same_plane (record {
          bounds = known.bounds.points;
          among = known.bounds.among;
          in_cube = λ x inside. ((walled_split tree.planes entry.above x).0 inside).0;
          point = p.0;
          on = p.1;
          inside = p.2;
        }))
      where
        p : (x : Point) × IsOn (plane_at tree.planes here.plane) x × IsInCell (walled_cell tree.planes entry.above) x
        p = point_here tree entry here node_of_entry.1 entry.due entry.due known

    module _ (section : Winding) (is_section : IsSection (walled_cell tree.planes entry.above) g section) where
      -- the half of the cell, as the node's plane in the tree makes it
      halved : (side : Bool) (child : Child) (half : DueCell) → IsHalf cell (turned side g) child half → IsHalf entry.due (turned side (plane_at tree.planes here.plane)) child half
      halved side child half is = subst (λ (d : DueCell). IsHalf d (turned side (plane_at tree.planes here.plane)) child half) (sym same) (subst (λ (h : Plane). IsHalf cell (turned side h) child half) (sym same_plane) is)

      -- the bounds and facets of the cell of a child
      bounds_of_half : (side : Bool) (child : Child) (half : DueCell) → IsHalf cell (turned side g) child half → AreBounds tree.planes (then_step entry.above here.plane side) half.bounds
      bounds_of_half side child half is = bounds_below tree.planes entry.above here.plane side entry.due.bounds half.bounds known.bounds (halved side child half is).bounds

      facets_of_half : (side : Bool) (child : Child) (half : DueCell) → IsHalf cell (turned side g) child half → AreWallFacets tree.planes (then_step entry.above here.plane side) half.on_walls
      facets_of_half side child half is =
          facets_below tree.planes entry.above here.plane side section entry.due.on_walls half.on_walls (subst (λ (h : Plane). IsSection (walled_cell tree.planes entry.above) h section) (sym same_plane) is_section) known.facets (halved side child half is).walls

      -- both are left
      module _ (front back : DueCell) (front_half : IsHalf cell g here.front front) (back_half : IsHalf cell (flipped g) here.back back) where
        both_known : All (IsDueCell tree) (back_due tree entry here node_of_entry.1 front back ∷ front_due tree entry here node_of_entry.1 front back ∷ [])
        both_known =
            All-cons (IsDueCell tree) (back_due tree entry here node_of_entry.1 front back) (front_due tree entry here node_of_entry.1 front back ∷ [])
            (back_known tree entry here node_of_entry.1 front back known back_half.child_is (bounds_of_half false here.back back back_half) (facets_of_half false here.back back back_half))
            (All-cons (IsDueCell tree) (front_due tree entry here node_of_entry.1 front back) []
            (front_known tree entry here node_of_entry.1 front back known front_half.child_is (bounds_of_half true here.front front front_half) (facets_of_half true here.front front front_half)) (All-nil (IsDueCell tree)))

        outside_left : IsLeft cell_due_of (IsDueCell tree) (ComesToOutside tree) entry (back ∷ front ∷ []) []
        outside_left = record {
          entries = back_due tree entry here node_of_entry.1 front back ∷ front_due tree entry here node_of_entry.1 front back ∷ [];
          kept_is = refl;
          known = both_known;
          rest = outside_due_at_node tree entry here node_of_entry.1 front back;
        }

        touchings_left : (old new : List Touching) (added : ArePairsAdded tree n here section old new) → IsLeft cell_due_of (IsDueCell tree) (ComesToTouchings tree.planes) entry (back ∷ front ∷ []) added.rows.own
        touchings_left old new added = record {
          entries = back_due tree entry here node_of_entry.1 front back ∷ front_due tree entry here node_of_entry.1 front back ∷ [];
          kept_is = refl;
          known = both_known;
          rest = λ all comes. touchings_due_at_node tree entry here is front back added.rows.own all
              (touchings_at_node tree.planes entry.n here.plane entry.above section
              (subst (λ (h : Plane). IsSection (walled_cell tree.planes entry.above) h section) (sym same_plane) is_section)
              (leaves_below is.front entry.k) (leaves_below is.back (leaves_after is.front entry.k)) added.fronts added.rows.own
              (added.have is.front (entry.n + 1) entry.k is.front_stands)
              (subst (λ (m : ℕ). ArePiecesOfEach tree.planes m (leaves_below is.back (leaves_after is.front entry.k)) added.fronts added.rows.own) node_of_entry.0
              (added.rows.rows is.back (nodes_after is.front (entry.n + 1)) (leaves_after is.front entry.k) is.back_stands)))
              comes;
        }
          where
            is : IsNodePart tree.shape entry.part entry.n entry.k here
            is = node_of_entry.1

  -- so the cell crosses
  pub crosses_some : MayBeDueCell tree cell → (planes : List Plane) × CrossesCell planes cell g
  crosses_some (entry, same, known) = (walled_cell tree.planes entry.above, crosses_at entry same known)

  pub front_child : MayBeDueCell tree cell → IsChildOf tree here.front
  front_child (entry, same, known) =
      let is = (node_of_entry entry same known).1 in
      record { part = is.front; n = entry.n + 1; k = entry.k; stands = is.front_stands }

  pub back_child : MayBeDueCell tree cell → IsChildOf tree here.back
  back_child (entry, same, known) =
      let is = (node_of_entry entry same known).1 in
      record { part = is.back; n = nodes_after is.front (entry.n + 1); k = leaves_after is.front entry.k; stands = is.back_stands }

  pub visited_node : (section : Winding) (front back : DueCell) (due middle new : List DueCell) (pairs new_pairs : List Touching) → ((planes : List Plane) → CrossesCell planes cell g → IsSection planes g section) → IsHalf cell g here.front front → IsHalf cell (flipped g) here.back back → middle ≡ due ++ back ∷ [] → new ≡ middle ++ front ∷ [] → ArePairsAdded tree n here section pairs new_pairs → (row : List Bool) → IsVisited tree cell due new pairs new_pairs row row
  visited_node section front back due middle new pairs new_pairs is_section front_half back_half first second added row = record {
    touchings = record {
      others = back ∷ front ∷ [];
      own = added.rows.own;
      stack_is = both;
      done_is = added.rows.added;
      leaves = λ entry same known. touchings_left entry same known section (is_section (walled_cell tree.planes entry.above) (crosses_at entry same known)) front back front_half back_half pairs new_pairs added;
      lighter = less;
    };
    outside = record {
      others = back ∷ front ∷ [];
      own = [];
      stack_is = both;
      done_is = sym (append-nil row);
      leaves = λ entry same known. outside_left entry same known section (is_section (walled_cell tree.planes entry.above) (crosses_at entry same known)) front back front_half back_half;
      lighter = less;
    };
  }
    where
      both : new ≡ due ++ back ∷ front ∷ []
      both = second ∙ ap (λ ds. ds ++ front ∷ []) first ∙ append_assoc due (back ∷ []) (front ∷ [])

      less : sum_by (cell_weight tree) (back ∷ front ∷ []) < weight_at tree cell.child
      less =
          let later = sides_come_later tree.shape n here at in
          let two = two_powers _ _ _ later.0 later.1 in
          let of_front = ap (weight_at tree) front_half.child_is in
          let of_back = ap (weight_at tree) back_half.child_is in
          let whole = ap (weight_at tree) child_is in
          omega (arith, two, of_front, of_back, whole)

-- ---- all cells

pub walk_begins : (tree : Tree) (cell : DueCell) (due : List DueCell) (pairs : List Touching) (outside : List Bool) → due ≡ cell ∷ [] → pairs ≡ [] → outside ≡ [] → IsWalking tree cell due pairs outside
walk_begins tree cell due pairs outside due_is pairs_is outside_is = record {
  touchings =
      subst (λ (ds : List DueCell). IsUnderWay cell_due_of (IsDueCell tree) (ComesToTouchings tree.planes) cell ds pairs) (sym due_is)
      (subst (λ (ts : List Touching). IsUnderWay cell_due_of (IsDueCell tree) (ComesToTouchings tree.planes) cell (cell ∷ []) ts) (sym pairs_is) (under_way_first cell_due_of (IsDueCell tree) (ComesToTouchings tree.planes) cell));
  outside =
      subst (λ (ds : List DueCell). IsUnderWay cell_due_of (IsDueCell tree) (ComesToOutside tree) cell ds outside) (sym due_is)
      (subst (λ (row : List Bool). IsUnderWay cell_due_of (IsDueCell tree) (ComesToOutside tree) cell (cell ∷ []) row) (sym outside_is) (under_way_first cell_due_of (IsDueCell tree) (ComesToOutside tree) cell));
}

module _ (tree : Tree) (first next : DueCell) (before below : List DueCell) (pairs : List Touching) (outside : List Bool) (is : before ≡ below ++ next ∷ []) where
  pub walk_next : MayBeDueCell tree first → IsWalking tree first before pairs outside → MayBeDueCell tree next
  walk_next may walking = under_way_next cell_due_of (IsDueCell tree) (ComesToTouchings tree.planes) first before below next pairs is may walking.touchings

  module _ (new : List DueCell) (new_pairs : List Touching) (new_outside : List Bool) (step : IsVisited tree next below new pairs new_pairs outside new_outside) where
    pub walk_goes_on : IsWalking tree first before pairs outside → IsWalking tree first new new_pairs new_outside
    walk_goes_on walking = record {
      touchings = under_way_goes_on cell_due_of (IsDueCell tree) (ComesToTouchings tree.planes) first before below next pairs is (cell_weight tree) new new_pairs step.touchings walking.touchings;
      outside = under_way_goes_on cell_due_of (IsDueCell tree) (ComesToOutside tree) first before below next outside is (cell_weight tree) new new_outside step.outside walking.outside;
    }

    pub walk_smaller : sum_by (cell_weight tree) new < sum_by (cell_weight tree) before
    walk_smaller = under_way_smaller cell_due_of (IsDueCell tree) (ComesToTouchings tree.planes) first before below next pairs is (cell_weight tree) new new_pairs step.touchings

-- The ways through a part of a tree, behind the way to it, are ways of the whole; the ways to both leaves of a meeting.
use Rattle.std.proofs.Common.{◌≡◌, ℕ, ◌+◌, true, false, List, [], ◌∷◌, ◌++◌, length, map, Contains, Some, sym, ap, ◌∙◌, subst, arith, ⊎_elim}
use Rattle.std.specs.Prelude.{slice_get, option_map}
use Rattle.std.proofs.lemmas.List.{append_assoc, map-append}
use Rattle.std.proofs.lemmas.List.Elements.{All-head, Contains-append_cases}
use Rattle.std.proofs.lemmas.Option.{slice_get-map}
use Rattle.qm_lists.proofs.Elements.{All-last_part}
use Rattle.qm_lists.proofs.Places.{slice_get-append_old, slice_get-append_past}
use Rattle.qm_space.specs.Point.{Point}
use Rattle.qm_space.specs.Plane.{Plane, IsInFront}
use Rattle.qm_space.specs.Turned.{turned}
use Rattle.qm_space.specs.Cell.{IsInCell}
use Rattle.qm_space.specs.Book.{plane_at}
use Rattle.qm_partition.specs.declared.step.Step.{Step}
use Rattle.qm_partition.specs.Partition.{Partition, leaf, node}
use Rattle.qm_partition.specs.Tree.{Tree}
use Rattle.qm_partition.specs.Numbering.{nodes_after, leaves_after}
use Rattle.qm_partition.specs.Ways.{Way, after_step, ways, turned_to, cell_of_way}
use Rattle.qm_partition.proofs.Counts.{leaves_after-count}
use Rattle.qm_partition.proofs.Cells.{to_front-count}
use Rattle.qm_contacts.specs.Meeting.{LeafBelow, leaves_below, Meeting, meeting_at, meetings_at, then_step, meetings_below, meetings}
use Rattle.qm_contacts.proofs.LeavesBelow.{leaf_from_list}
use Rattle.qm_contacts.proofs.Meetings.{from_node_list}

module _ (whole : Partition) (above : Way) (p : ℕ) (front back : Partition) (k : ℕ) (have : (i : ℕ) (way : Way) → slice_get (ways (node p front back)) i ≡ Some way → slice_get (ways whole) (k + i) ≡ Some (above ++ way)) where
  abbrev to_front : List Way
  to_front = map (after_step p true) (ways front)

  abbrev to_back : List Way
  to_back = map (after_step p false) (ways back)

  pub ways_in_front : (i : ℕ) (way : Way) → slice_get (ways front) i ≡ Some way → slice_get (ways whole) (k + i) ≡ Some (then_step above p true ++ way)
  ways_in_front i way at =
      let its = slice_get-map (after_step p true) (ways front) i ∙ ap (option_map (after_step p true)) at in
      have i (after_step p true way) (slice_get-append_old to_front to_back (after_step p true way) i its) ∙ ap Some (sym (append_assoc above (record { plane = p; front = true } ∷ []) way))

  pub ways_behind : (i : ℕ) (way : Way) → slice_get (ways back) i ≡ Some way → slice_get (ways whole) (leaves_after front k + i) ≡ Some (then_step above p false ++ way)
  ways_behind i way at =
      let its = slice_get-append_past to_front to_back i ∙ slice_get-map (after_step p false) (ways back) i ∙ ap (option_map (after_step p false)) at in
      let place : leaves_after front k + i ≡ k + (length to_front + i) = omega (arith, leaves_after-count front k, to_front-count p front) in
      ap (slice_get (ways whole)) place ∙ have (length to_front + i) (after_step p false way) its ∙ ap Some (sym (append_assoc above (record { plane = p; front = false } ∷ []) way))

-- the ways to the two leaves of a meeting: to its node, on to one side of it, and down to the leaf
pub record AreItsWays (whole : Partition) (m : Meeting) : Type 0 where
  pub to_front : slice_get (ways whole) m.front.leaf ≡ Some (m.above ++ record { plane = m.plane; front = true } ∷ m.front.way)
  pub to_back : slice_get (ways whole) m.back.leaf ≡ Some (m.above ++ record { plane = m.plane; front = false } ∷ m.back.way)

pub ways_of_meeting : (whole shape : Partition) (n k : ℕ) (above : Way) (m : Meeting) → ((i : ℕ) (way : Way) → slice_get (ways shape) i ≡ Some way → slice_get (ways whole) (k + i) ≡ Some (above ++ way)) → Contains (meetings_below shape n k above) m → AreItsWays whole m
ways_of_meeting whole (leaf found) n k above m have listed = absurd (let within = listed.1 in omega arith)
ways_of_meeting whole (node p front back) n k above m have listed =
    let n_back = nodes_after front (n + 1) in
    let k_back = leaves_after front k in
    let here = meetings_at n p above (leaves_below front k) (leaves_below back k_back) in
    let in_front = meetings_below front (n + 1) k (then_step above p true) in
    let behind = meetings_below back n_back k_back (then_step above p false) in
    ⊎_elim
    (λ is_here. let found = from_node_list n p above (leaves_below front k) (leaves_below back k_back) m is_here in at_node found.0 found.1 found.2 found.3 found.4)
    (λ below. ⊎_elim
    (λ is_front. ways_of_meeting whole front (n + 1) k (then_step above p true) m (ways_in_front whole above p front back k have) is_front)
    (λ is_behind. ways_of_meeting whole back n_back k_back (then_step above p false) m (ways_behind whole above p front back k have) is_behind)
    (Contains-append_cases in_front behind m below))
    (Contains-append_cases here (in_front ++ behind) m listed)
  where
    at_node : (f b : LeafBelow) → Contains (leaves_below front k) f → Contains (leaves_below back (leaves_after front k)) b → meeting_at n p above f b ≡ m → AreItsWays whole m
    at_node f b in_fronts in_backs is =
        let i = leaf_from_list front k f in_fronts in
        let j = leaf_from_list back (leaves_after front k) b in_backs in
        subst (AreItsWays whole) is (record {
          to_front = ap (slice_get (ways whole)) i.1 ∙ ways_in_front whole above p front back k have i.0 f.way i.2 ∙ ap Some (append_assoc above (record { plane = p; front = true } ∷ []) f.way);
          to_back = ap (slice_get (ways whole)) j.1 ∙ ways_behind whole above p front back k have j.0 b.way j.2 ∙ ap Some (append_assoc above (record { plane = p; front = false } ∷ []) b.way);
        })

pub tree_meeting_ways : (tree : Tree) (m : Meeting) → Contains (meetings tree) m → AreItsWays tree.shape m
tree_meeting_ways tree m listed = ways_of_meeting tree.shape tree.shape 0 0 [] m (λ i way at. ap (slice_get (ways tree.shape)) {x = 0 + i} {y = i} (omega arith) ∙ at) listed

-- ---- the sides of the leaves

-- the points in the cell of a way with a step are on the step's side of its plane
on_side_of_step : (planes : List Plane) (above rest : Way) (step : Step) (way : Way) (x : Point) → above ++ step ∷ rest ≡ way → IsInCell (cell_of_way planes way) x → IsInFront (turned step.front (plane_at planes step.plane)) x
on_side_of_step planes above rest step way x is inside =
    let here = subst (λ (w : Way). IsInCell (cell_of_way planes w) x) (sym is) inside in
    let split = subst (λ (cell : List Plane). IsInCell cell x) (map-append (turned_to planes) above (step ∷ rest)) here in
    All-head (λ h. IsInFront h x) (turned_to planes step) (cell_of_way planes rest) (All-last_part (λ h. IsInFront h x) (cell_of_way planes above) (cell_of_way planes (step ∷ rest)) split)

-- the points of the leaf in front are in front of the parting plane, and those of the leaf behind are in front of it
-- flipped: so the plane of a portal has the entered leaf in front
pub leaf_in_front : (tree : Tree) (m : Meeting) (way : Way) (x : Point) → Contains (meetings tree) m → slice_get (ways tree.shape) m.front.leaf ≡ Some way → IsInCell (cell_of_way tree.planes way) x → IsInFront (plane_at tree.planes m.plane) x
leaf_in_front tree m way x listed at inside =
    let its = tree_meeting_ways tree m listed in
    let e : Some (m.above ++ record { plane = m.plane; front = true } ∷ m.front.way) ≡ Some way = sym its.to_front ∙ at in
    on_side_of_step tree.planes m.above m.front.way (record { plane = m.plane; front = true }) way x (cc) inside

pub leaf_behind : (tree : Tree) (m : Meeting) (way : Way) (x : Point) → Contains (meetings tree) m → slice_get (ways tree.shape) m.back.leaf ≡ Some way → IsInCell (cell_of_way tree.planes way) x → IsInFront (turned false (plane_at tree.planes m.plane)) x
leaf_behind tree m way x listed at inside =
    let its = tree_meeting_ways tree m listed in
    let e : Some (m.above ++ record { plane = m.plane; front = false } ∷ m.back.way) ≡ Some way = sym its.to_back ∙ at in
    on_side_of_step tree.planes m.above m.back.way (record { plane = m.plane; front = false }) way x (cc) inside

-- The plane of a meeting's node, by the number of the node; and the ways to the leaves of a meeting on either side.
use Rattle.std.proofs.Common.{◌≡◌, ◌<◌, ℕ, suc, ◌+◌, Bool, true, false, List, ◌∷◌, ◌++◌, length, slice_get, Some, Contains, refl, sym, ap, ◌∙◌, arith, ⊎_elim, []}
use Rattle.std.proofs.lemmas.List.{length-append}
use Rattle.std.proofs.lemmas.List.Elements.{All-contains, Contains-append_cases}
use Rattle.std.proofs.lemmas.Option.{get_or_from_slice_get}
use Rattle.qm_lists.proofs.Elements.{Contains-at}
use Rattle.qm_lists.proofs.Places.{slice_get-append_old, slice_get-append_past}
use Rattle.qm_partition.specs.Partition.{Partition, leaf, node}
use Rattle.qm_partition.specs.Tree.{Tree, NamesItsPlanes}
use Rattle.qm_partition.specs.Counting.{node_count, node_planes}
use Rattle.qm_partition.specs.Numbering.{nodes_after, leaves_after}
use Rattle.qm_partition.specs.Ways.{Way, ways}
use Rattle.qm_partition.proofs.Counts.{nodes_after-count}
use Rattle.qm_contacts.specs.Meeting.{LeafBelow, leaves_below, Meeting, meetings_at, then_step, meetings_below, meetings}
use Rattle.qm_contacts.proofs.Meetings.{from_node_list}
use Rattle.qm_contacts.proofs.WaysBelow.{tree_meeting_ways}
use Rattle.qm_surface.specs.Boundary.{leaf_on}
use Rattle.qm_surface.specs.Surface.{plane_of_node}

length-node_planes : (shape : Partition) → length (node_planes shape) ≡ node_count shape
length-node_planes (leaf found) = refl
length-node_planes (node p front back) = omega (arith, length-append (node_planes front) (node_planes back), length-node_planes front, length-node_planes back)

-- the planes of a partition's nodes, numbered from n on, are those of the whole
abbrev AreItsPlanes : List ℕ → Partition → ℕ → Type 0
AreItsPlanes whole shape n = (i p : ℕ) → slice_get (node_planes shape) i ≡ Some p → slice_get whole (n + i) ≡ Some p

module _ (whole : List ℕ) (p : ℕ) (front back : Partition) (n : ℕ) (have : AreItsPlanes whole (node p front back) n) where
  planes_here : slice_get whole n ≡ Some p
  planes_here = let number : n ≡ n + 0 = omega arith in ap (slice_get whole) number ∙ have 0 p refl

  planes_in_front : AreItsPlanes whole front (n + 1)
  planes_in_front i q at =
      let number : (n + 1) + i ≡ n + suc i = omega arith in
      ap (slice_get whole) number ∙ have (suc i) q (slice_get-append_old (node_planes front) (node_planes back) q i at)

  planes_behind : AreItsPlanes whole back (nodes_after front (n + 1))
  planes_behind i q at =
      let number : nodes_after front (n + 1) + i ≡ n + suc (length (node_planes front) + i) = omega (arith, nodes_after-count front (n + 1), length-node_planes front) in
      ap (slice_get whole) number ∙ have (suc (length (node_planes front) + i)) q (slice_get-append_past (node_planes front) (node_planes back) i ∙ at)

plane_of_meeting : (whole : List ℕ) (shape : Partition) (n k : ℕ) (above : Way) (m : Meeting) → AreItsPlanes whole shape n → Contains (meetings_below shape n k above) m → slice_get whole m.node ≡ Some m.plane
plane_of_meeting whole (leaf found) n k above m have listed = absurd (let within = listed.1 in omega arith)
plane_of_meeting whole (node p front back) n k above m have listed =
    let n_back = nodes_after front (n + 1) in
    let k_back = leaves_after front k in
    let here = meetings_at n p above (leaves_below front k) (leaves_below back k_back) in
    let in_front = meetings_below front (n + 1) k (then_step above p true) in
    let behind = meetings_below back n_back k_back (then_step above p false) in
    ⊎_elim
    (λ is_here.
    let found = from_node_list n p above (leaves_below front k) (leaves_below back k_back) m is_here in
    let node_is = ap (λ (l : Meeting). l.node) found.4 in
    let plane_is = ap (λ (l : Meeting). l.plane) found.4 in
    ap (slice_get whole) (sym node_is) ∙ planes_here whole p front back n have ∙ ap Some plane_is)
    (λ below. ⊎_elim
    (λ is_front. plane_of_meeting whole front (n + 1) k (then_step above p true) m (planes_in_front whole p front back n have) is_front)
    (λ is_behind. plane_of_meeting whole back n_back k_back (then_step above p false) m (planes_behind whole p front back n have) is_behind)
    (Contains-append_cases in_front behind m below))
    (Contains-append_cases here (in_front ++ behind) m listed)

module _ (tree : Tree) (m : Meeting) (listed : Contains (meetings tree) m) where
  meeting_plane : slice_get (node_planes tree.shape) m.node ≡ Some m.plane
  meeting_plane = plane_of_meeting (node_planes tree.shape) tree.shape 0 0 [] m (λ i p at. let number : 0 + i ≡ i = omega arith in ap (slice_get (node_planes tree.shape)) number ∙ at) listed

  -- the number of the plane, by that of the node
  pub plane_by_node : plane_of_node tree m.node ≡ m.plane
  plane_by_node = get_or_from_slice_get (node_planes tree.shape) m.node m.plane 0 meeting_plane

  -- the plane is there
  pub plane_there : NamesItsPlanes tree → m.plane < length tree.planes
  plane_there named = All-contains (λ n. n < length tree.planes) (node_planes tree.shape) m.plane named (Contains-at (node_planes tree.shape) m.node m.plane meeting_plane)

-- the leaf of a meeting on one side, as seen from the node
abbrev pub below_on : Bool → Meeting → LeafBelow
below_on true m = m.front
below_on false m = m.back

-- the way to it: to the node, to that side, and down
abbrev pub way_on : Bool → Meeting → Way
way_on side m = m.above ++ record { plane = m.plane; front = side } ∷ (below_on side m).way

pub way_leads : (tree : Tree) (side : Bool) (m : Meeting) → Contains (meetings tree) m → slice_get (ways tree.shape) (leaf_on side m.front.leaf m.back.leaf) ≡ Some (way_on side m)
way_leads tree true m listed = (tree_meeting_ways tree m listed).to_front
way_leads tree false m listed = (tree_meeting_ways tree m listed).to_back

-- The node at which two leaves meet: that each two leaves have one, and that a crossing of its plane off the other planes
-- is a contact.
use Rattle.std.proofs.Common.{◌≡◌, ℕ, zero, suc, ◌+◌, ◌-◌, ◌<◌, ◌≤◌, Bool, true, false, not, List, [], ◌++◌, All, get_or, map, Contains, slice_get, Some, refl, sym, ap, ◌∙◌, subst, arith, ◌⊎◌, inl, inr, ⊎_elim, length}
use Rattle.std.proofs.lemmas.Bool.{cases_lt}
use Rattle.std.proofs.Math.Arith.{lt_of_le-ne}
use Rattle.std.proofs.lemmas.Bool.Decides.{eqb_tells}
use Rattle.std.proofs.lemmas.List.{get_or_default}
use Rattle.std.proofs.lemmas.Option.{slice_get-get_or}
use Rattle.std.proofs.lemmas.List.Elements.{All-pop, All-contains, Contains-get_or, Contains-append_left, Contains-append_right, Contains-append_cases}
use Rattle.qm_lists.proofs.Elements.{Contains-at, Contains-cons_cases, Contains-map, Contains-map_from}
use Rattle.qm_lists.proofs.Places.{slice_get-append_cases, slice_get-map_from}
use Rattle.qm_lists.proofs.EachPair.{EachPair, pairs_by_place}
use Rattle.qm_space.specs.Point.{Point}
use Rattle.qm_space.specs.Plane.{Plane, value, IsOn, IsInFront, IsBehind, IsNotBehind}
use Rattle.qm_space.specs.Turned.{turned}
use Rattle.qm_space.specs.Cell.{IsInCell}
use Rattle.qm_space.specs.Book.{plane_at}
use Rattle.qm_numbers.proofs.IntegerProducts.{linear}
use Rattle.qm_numbers.proofs.Signs.{by_sign}
use Rattle.qm_space.proofs.TurnedPlanes.{turned_on, turned_other_in_front}
use Rattle.qm_partition.specs.declared.step.Step.{Step}
use Rattle.qm_partition.specs.Partition.{Partition, leaf, node}
use Rattle.qm_partition.specs.Tree.{Tree}
use Rattle.qm_partition.specs.Counting.{leaf_count}
use Rattle.qm_partition.specs.Numbering.{nodes_after, leaves_after}
use Rattle.qm_partition.specs.Ways.{Way, after_step, ways, turned_to, cell_of_way, HasPoints}
use Rattle.qm_partition.proofs.Counts.{leaves_after-count, leaf_count-node}
use Rattle.qm_partition.proofs.Cells.{length-ways}
use Rattle.qm_contacts.specs.Meeting.{LeafBelow, leaves_below, Meeting, meeting_at, meetings_at, then_step, meetings_below, meetings}
use Rattle.qm_contacts.specs.Contact.{IsContact}
use Rattle.qm_contacts.specs.Crossing.{IsCrossing}
use Rattle.qm_contacts.specs.inner.Pieces.{walled_cell}
use Rattle.qm_contacts.specs.inner.Descent.{HasPointsBelow}
use Rattle.qm_contacts.proofs.Pieces.{walled_split}
use Rattle.qm_contacts.proofs.Descent.{walled-then_step, points_at_root, points_in_front, points_behind, cell_point, section_point}
use Rattle.qm_contacts.proofs.LeavesBelow.{numbered, leaf_listed, leaf_from_list}
use Rattle.qm_contacts.proofs.Meetings.{IsBefore, meetings_ascend, listed_at_node, from_node_list}

-- ---- each two leaves have one

-- the meeting of two leaves of a partition, by their places
pub record Parts (shape : Partition) (n k : ℕ) (above : Way) (i j : ℕ) : Type 0 where
  pub meeting : Meeting
  pub listed : Contains (meetings_below shape n k above) meeting
  pub front : meeting.front.leaf ≡ k + i
  pub back : meeting.back.leaf ≡ k + j

module _ (plane n k : ℕ) (above : Way) (front back : Partition) where
  abbrev n_back : ℕ
  n_back = nodes_after front (n + 1)

  abbrev k_back : ℕ
  k_back = leaves_after front k

  abbrev here : List Meeting
  here = meetings_at n plane above (leaves_below front k) (leaves_below back k_back)

  abbrev in_front : List Meeting
  in_front = meetings_below front (n + 1) k (then_step above plane true)

  abbrev behind : List Meeting
  behind = meetings_below back n_back k_back (then_step above plane false)

  both_in_front : (i j : ℕ) → Parts front (n + 1) k (then_step above plane true) i j → Parts (node plane front back) n k above i j
  both_in_front i j parts = record {
    meeting = parts.meeting;
    listed = Contains-append_right here (in_front ++ behind) parts.meeting (Contains-append_left in_front behind parts.meeting parts.listed);
    front = parts.front;
    back = parts.back;
  }

  both_behind : (i j : ℕ) → Parts back n_back k_back (then_step above plane false) i j → Parts (node plane front back) n k above (leaf_count front + i) (leaf_count front + j)
  both_behind i j parts = record {
    meeting = parts.meeting;
    listed = Contains-append_right here (in_front ++ behind) parts.meeting (Contains-append_right in_front behind parts.meeting parts.listed);
    front = omega (arith, parts.front, leaves_after-count front k);
    back = omega (arith, parts.back, leaves_after-count front k);
  }

  one_of_each : (i j : ℕ) (v w : Way) → slice_get (ways front) i ≡ Some v → slice_get (ways back) j ≡ Some w → Parts (node plane front back) n k above i (leaf_count front + j)
  one_of_each i j v w at_i at_j =
      let m = meeting_at n plane above (numbered (k + i) v) (numbered (k_back + j) w) in
      record {
        meeting = m;
        listed = Contains-append_left here (in_front ++ behind) m (listed_at_node n plane above (leaves_below front k) (leaves_below back k_back) (numbered (k + i) v) (numbered (k_back + j) w) (leaf_listed front k i v at_i) (leaf_listed back k_back j w at_j));
        front = refl;
        back = omega (arith, leaves_after-count front k);
      }

-- of two leaves the one with the lesser number is in front
pub leaves_meet : (shape : Partition) (n k : ℕ) (above : Way) (i j : ℕ) → i < j → j < leaf_count shape → Parts shape n k above i j
leaves_meet (leaf found) n k above i j less within = absurd (omega (arith, less, within))
leaves_meet (node plane front back) n k above i j less within = ⊎_elim
    (λ j_front. both_in_front plane n k above front back i j (leaves_meet front (n + 1) k (then_step above plane true) i j less j_front))
    (λ j_back. ⊎_elim
    (λ i_front.
    subst (λ (b : ℕ). Parts (node plane front back) n k above i b) (rest j j_back)
    (one_of_each plane n k above front back i (j - leaf_count front) (get_or (ways front) i []) (get_or (ways back) (j - leaf_count front) [])
    (slice_get-get_or (ways front) i [] (omega (arith, i_front, length-ways front)))
    (slice_get-get_or (ways back) (j - leaf_count front) [] (omega (arith, j_back, within, count, length-ways back)))))
    (λ i_back.
    subst (λ (a : ℕ). Parts (node plane front back) n k above a j) (rest i i_back)
    (subst (λ (b : ℕ). Parts (node plane front back) n k above (leaf_count front + (i - leaf_count front)) b) (rest j j_back)
    (both_behind plane n k above front back (i - leaf_count front) (j - leaf_count front)
    (leaves_meet back (nodes_after front (n + 1)) (leaves_after front k) (then_step above plane false) (i - leaf_count front) (j - leaf_count front) (omega (arith, less, i_back)) (omega (arith, j_back, within, count))))))
    (cases_lt i (leaf_count front)))
    (cases_lt j (leaf_count front))
  where
    count : leaf_count (node plane front back) ≡ leaf_count front + leaf_count back
    count = leaf_count-node plane front back

    rest : (a : ℕ) → leaf_count front ≤ a → leaf_count front + (a - leaf_count front) ≡ a
    rest a at_least = omega (arith, at_least)

-- ---- the node of a meeting

-- the partitions on both sides of the node, with the leaves that meet
pub record IsAtNode (planes : List Plane) (meeting : Meeting) : Type 0 where
  pub front : Partition
  pub back : Partition
  pub k_front : ℕ
  pub k_back : ℕ
  pub have : HasPointsBelow planes meeting.above (node meeting.plane front back)
  pub in_front : Contains (leaves_below front k_front) meeting.front
  pub behind : Contains (leaves_below back k_back) meeting.back

at_this_node : (planes : List Plane) (n plane : ℕ) (above : Way) (front back : Partition) (k k_back : ℕ) (f b : LeafBelow) (m : Meeting) → meeting_at n plane above f b ≡ m → HasPointsBelow planes above (node plane front back) → Contains (leaves_below front k) f → Contains (leaves_below back k_back) b → IsAtNode planes m
at_this_node planes n plane above front back k k_back f b m is have in_front behind = subst (IsAtNode planes) is (record { front = front; back = back; k_front = k; k_back = k_back; have = have; in_front = in_front; behind = behind })

pub node_of_meeting : (planes : List Plane) (shape : Partition) (n k : ℕ) (above : Way) (m : Meeting) → HasPointsBelow planes above shape → Contains (meetings_below shape n k above) m → IsAtNode planes m
node_of_meeting planes (leaf found) n k above m have listed = absurd (let within = listed.1 in omega arith)
node_of_meeting planes (node plane front back) n k above m have listed =
    let n_back = nodes_after front (n + 1) in
    let k_back = leaves_after front k in
    let here = meetings_at n plane above (leaves_below front k) (leaves_below back k_back) in
    let in_front = meetings_below front (n + 1) k (then_step above plane true) in
    let behind = meetings_below back n_back k_back (then_step above plane false) in
    ⊎_elim
    (λ is_here.
    let found = from_node_list n plane above (leaves_below front k) (leaves_below back k_back) m is_here in
    at_this_node planes n plane above front back k k_back found.0 found.1 m found.4 have found.2 found.3)
    (λ below. ⊎_elim
    (λ is_front. node_of_meeting planes front (n + 1) k (then_step above plane true) m (points_in_front planes above plane front back have) is_front)
    (λ is_behind. node_of_meeting planes back n_back k_back (then_step above plane false) m (points_behind planes above plane front back have) is_behind)
    (Contains-append_cases in_front behind m below))
    (Contains-append_cases here (in_front ++ behind) m listed)

-- ---- a node below has points on both sides of its plane

-- for each plane of a way down there is a point of the cell above that is behind it
pub other_side : (planes : List Plane) (above : Way) (shape : Partition) (i : ℕ) (way : Way) (g : Plane) → HasPointsBelow planes above shape → slice_get (ways shape) i ≡ Some way → Contains (cell_of_way planes way) g → (x : Point) × IsInCell (walled_cell planes above) x × IsBehind g x
other_side planes above (leaf found) zero way g have at listed =
    let none : [] ≡ way = cc in
    absurd (let within = (subst (λ (w : Way). Contains (cell_of_way planes w) g) (sym none) listed).1 in omega arith)
other_side planes above (leaf found) (suc i) way g have at listed = absurd cc
other_side planes above (node n front back) i way g have at listed = ⊎_elim
    (λ here.
    let of = slice_get-map_from (after_step n true) (ways front) i way here in
    on_side true front back (points_in_front planes above n front back have) (points_behind planes above n front back have) of.0 of.2 (λ later. other_side planes (then_step above n true) front i of.0 g (points_in_front planes above n front back have) of.1 later))
    (λ there.
    let of = slice_get-map_from (after_step n false) (ways back) there.0 way there.2 in
    on_side false back front (points_behind planes above n front back have) (points_in_front planes above n front back have) of.0 of.2 (λ later. other_side planes (then_step above n false) back there.0 of.0 g (points_behind planes above n front back have) of.1 later))
    (slice_get-append_cases (map (after_step n true) (ways front)) (map (after_step n false) (ways back)) way i at)
  where
    before : (side : Bool) (x : Point) → IsInCell (walled_cell planes (then_step above n side)) x → IsInCell (walled_cell planes above) x × IsInFront (turned side (plane_at planes n)) x
    before side x inside = All-pop (λ h. IsInFront h x) (walled_cell planes (then_step above n side)) (walled_cell planes above) (Some (turned side (plane_at planes n))) (walled-then_step planes above n side) inside

    on_side : (side : Bool) (near far : Partition) → HasPointsBelow planes (then_step above n side) near → HasPointsBelow planes (then_step above n (not side)) far → (rest : Way) → after_step n side rest ≡ way → (Contains (cell_of_way planes rest) g → (x : Point) × IsInCell (walled_cell planes (then_step above n side)) x × IsBehind g x) → (x : Point) × IsInCell (walled_cell planes above) x × IsBehind g x
    on_side side near far have_near have_far rest is later = ⊎_elim
        (λ same.
        let found = cell_point planes (then_step above n (not side)) far have_far in
        let both = before (not side) found.0 found.1 in
        (found.0, both.0, subst (λ (h : Plane). IsBehind h found.0) same ((turned_other_in_front side (plane_at planes n) found.0).0 both.1)))
        (λ in_rest. let found = later in_rest in (found.0, (before side found.0 found.1).0, found.2))
        (Contains-cons_cases (turned side (plane_at planes n)) g (cell_of_way planes rest) (subst (λ (w : Way). Contains (cell_of_way planes w) g) (sym is) listed))

-- ---- crossings

-- two sides are one, or each the other
by_same_side : {P : Type 0} (s t : Bool) → (s ≡ t → P) → (not s ≡ t → P) → P
by_same_side true true same other = same refl
by_same_side true false same other = other refl
by_same_side false true same other = other refl
by_same_side false false same other = same refl

-- a point that is not behind the planes of a way, and on none of them that does not hold it for a reason that cannot be,
-- is in the cell of the way
not_behind_in_cell : (planes : List Plane) (way : Way) (h : Plane) (x : Point) → All (λ g. IsNotBehind g x) (cell_of_way planes way) → ((step : Step) → Contains way step → IsOn (plane_at planes step.plane) x → plane_at planes step.plane ≡ h) → ((side : Bool) → Contains (cell_of_way planes way) (turned side h) → ⊥) → IsInCell (cell_of_way planes way) x
not_behind_in_cell planes way h x not_behind only never place d there = by_sign (value (get_or (cell_of_way planes way) place d) x)
    (λ below. let not_below = not_behind place d there in absurd (omega (arith, linear)))
    (λ zero. absurd (on_it zero (Contains-map_from (turned_to planes) way (get_or (cell_of_way planes way) place d) (Contains-get_or (cell_of_way planes way) place d there))))
    (λ front. front)
  where
    on_it : IsOn (get_or (cell_of_way planes way) place d) x → (step : Step) × Contains way step × (turned_to planes step ≡ get_or (cell_of_way planes way) place d) → ⊥
    on_it is_on (step, listed, is) =
        let on = (turned_on step.front (plane_at planes step.plane) x).0 (subst (λ (g : Plane). IsOn g x) (sym is) is_on) in
        let same = only step listed on in
        never step.front
        (subst (λ (g : Plane). Contains (cell_of_way planes way) g) (ap (turned step.front) same) (Contains-map (turned_to planes) way step listed))

module _ (planes : List Plane) (m : Meeting) (x : Point) (at : IsAtNode planes m) (crossing : IsCrossing planes m x) where
  abbrev h : Plane
  h = plane_at planes m.plane

  -- the plane is none of those above
  never_above : (side : Bool) → Contains (cell_of_way planes m.above) (turned side h) → ⊥
  never_above side listed =
      let point = section_point planes m.above m.plane at.front at.back at.have in
      let inside = ((walled_split planes m.above point.0).0 point.2).1 in
      let front = All-contains (λ g. IsInFront g point.0) (cell_of_way planes m.above) (turned side h) inside listed in
      let on = (turned_on side h point.0).1 point.1 in
      absurd (omega (arith, linear))

  -- and none of those on a way further down
  never_below : (to_front : Bool) (shape : Partition) (i : ℕ) (way : Way) → HasPointsBelow planes (then_step m.above m.plane to_front) shape → slice_get (ways shape) i ≡ Some way → (side : Bool) → Contains (cell_of_way planes way) (turned side h) → ⊥
  never_below to_front shape i way have at_i side listed =
      by_same_side to_front side
      (λ same.
      let far = other_side planes (then_step m.above m.plane to_front) shape i way (turned side h) have at_i listed in
      let front = last far.0 far.1 in
      let behind = subst (λ (s : Bool). IsBehind (turned s h) far.0) (sym same) far.2 in
      absurd (omega (arith, linear)))
      (λ other.
      let near = have way (Contains-at (ways shape) i way at_i) in
      let front = last near.0 near.1 in
      let ahead = subst (λ (s : Bool). IsInFront (turned s h) near.0) (sym other) (All-contains (λ g. IsInFront g near.0) (cell_of_way planes way) (turned side h) near.2 listed) in
      let behind = (turned_other_in_front to_front h near.0).0 ahead in
      absurd (omega (arith, linear)))
    where
      last : (y : Point) → IsInCell (walled_cell planes (then_step m.above m.plane to_front)) y → IsInFront (turned to_front h) y
      last y inside = (All-pop (λ g. IsInFront g y) (walled_cell planes (then_step m.above m.plane to_front)) (walled_cell planes m.above) (Some (turned to_front h)) (walled-then_step planes m.above m.plane to_front) inside).1

  -- so the point is a contact
  pub crossing_at_node : IsContact planes m x
  crossing_at_node =
      let front = leaf_from_list at.front at.k_front m.front at.in_front in
      let back = leaf_from_list at.back at.k_back m.back at.behind in
      record {
        in_cube = crossing.in_cube;
        on = crossing.on;
        above = not_behind_in_cell planes m.above h x crossing.above (λ step listed. crossing.only step (Contains-append_left m.above (m.front.way ++ m.back.way) step listed)) never_above;
        in_front = not_behind_in_cell planes m.front.way h x crossing.in_front
            (λ step listed. crossing.only step (Contains-append_right m.above (m.front.way ++ m.back.way) step (Contains-append_left m.front.way m.back.way step listed)))
            (never_below true at.front front.0 m.front.way (points_in_front planes m.above m.plane at.front at.back at.have) front.2);
        behind = not_behind_in_cell planes m.back.way h x crossing.behind
            (λ step listed. crossing.only step (Contains-append_right m.above (m.front.way ++ m.back.way) step (Contains-append_right m.front.way m.back.way step listed)))
            (never_below false at.back back.0 m.back.way (points_behind planes m.above m.plane at.front at.back at.have) back.2);
      }

-- where each leaf has a point, a crossing is a contact
pub crossing_is_contact : (tree : Tree) (m : Meeting) (x : Point) → HasPoints tree → Contains (meetings tree) m → IsCrossing tree.planes m x → IsContact tree.planes m x
crossing_is_contact tree m x have listed crossing =
    crossing_at_node tree.planes m x (node_of_meeting tree.planes tree.shape 0 0 [] m (points_at_root tree have) listed) crossing

-- and each two leaves have their meeting
pub tree_leaves_meet : (tree : Tree) (a b : ℕ) → a < b → b < leaf_count tree.shape → (m : Meeting) × Contains (meetings tree) m × (m.front.leaf ≡ a) × (m.back.leaf ≡ b)
tree_leaves_meet tree a b less within = let parts = leaves_meet tree.shape 0 0 [] a b less within in (parts.meeting, parts.listed, omega (arith, parts.front), omega (arith, parts.back))

-- and only once
once_listed : (all : List Meeting) (m l : Meeting) (i j : ℕ) → EachPair IsBefore all → i < length all → j < length all → get_or all i m ≡ m → get_or all j l ≡ l → m.front.leaf ≡ l.front.leaf → m.back.leaf ≡ l.back.leaf → m ≡ l
once_listed all m l i j each of_m of_l is_m is_l fronts backs = ⊎_elim
    (λ same. sym is_m ∙ get_or_default all i m l of_m ∙ ap (λ (k : ℕ). get_or all k l) same.1 ∙ is_l)
    (λ other. absurd (never other.1))
    (eqb_tells i j)
  where
    before : IsBefore m l → ⊥
    before b = b.apart fronts backs

    behind : IsBefore l m → ⊥
    behind b = b.apart (sym fronts) (sym backs)

    either : (i j : ℕ) → (i ≡ j → ⊥) → (i < j) ⊎ (j < i)
    either i j other = ⊎_elim (λ less. inl less) (λ more. inr (lt_of_le-ne more (λ same. other (sym same)))) (cases_lt i j)

    never : (i ≡ j → ⊥) → ⊥
    never other = ⊎_elim
        (λ less. before (subst (λ (x : Meeting). IsBefore x l) is_m (subst (IsBefore (get_or all i m)) (get_or_default all j m l of_l ∙ is_l) (pairs_by_place IsBefore all each i j m less of_l))))
        (λ more. behind (subst (λ (x : Meeting). IsBefore x m) is_l (subst (IsBefore (get_or all j l)) (get_or_default all i l m of_m ∙ is_m) (pairs_by_place IsBefore all each j i l more of_m))))
        (either i j other)

pub one_meeting : (tree : Tree) (m l : Meeting) → Contains (meetings tree) m → Contains (meetings tree) l → m.front.leaf ≡ l.front.leaf → m.back.leaf ≡ l.back.leaf → m ≡ l
one_meeting tree m l of_m of_l fronts backs = once_listed (meetings tree) m l of_m.0 of_l.0 (meetings_ascend tree.shape 0 0 []) of_m.1 of_l.1 of_m.2 of_l.2 fronts backs

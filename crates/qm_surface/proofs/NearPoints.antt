-- Points near a point of a contact, on either side of its plane: they lie in the leaf there. So two contacts have no point in
-- common that is on one plane alone.
use Rattle.std.proofs.Common.{◌≡◌, ◌<◌, ℕ, suc, ◌+◌, ◌≤◌, pos, ◌*ℤ◌, unsigned_abs, Bool, true, false, List, ◌∷◌, All, Contains, length, slice_get, sym, ap, ◌∙◌, subst, arith, ⊎_elim}
use Rattle.std.proofs.lemmas.Int.{ints}
use Rattle.std.proofs.lemmas.Bool.{cases_lt}
use Rattle.std.proofs.lemmas.List.{get_or_past, map-append}
use Rattle.std.proofs.lemmas.List.Elements.{All-cons, All-append, All-map, All-weaker}
use Rattle.std.proofs.lemmas.Option.{get_or_from_slice_get}
use Rattle.qm_lists.proofs.Elements.{All-from_map}
use Rattle.qm_numbers.proofs.IntegerProducts.{linear, *ℤ_zero, zero_*ℤ}
use Rattle.qm_numbers.proofs.Signs.{by_sign, by_least}
use Rattle.qm_space.specs.Point.{Point, IsInCube}
use Rattle.qm_space.specs.Plane.{Plane, value, IsOn, IsInFront, IsBehind, IsNotInFront, plane_of}
use Rattle.qm_space.specs.Cube.{cube_walls}
use Rattle.qm_space.specs.Reduced.{HasNormal}
use Rattle.qm_space.specs.Turned.{turned}
use Rattle.qm_space.specs.Cell.{IsInCell}
use Rattle.qm_space.specs.Book.{plane_at}
use Rattle.qm_space.proofs.Planes.{flipped_in_front}
use Rattle.qm_space.proofs.TurnedPlanes.{turned_on, turned_has_normal}
use Rattle.qm_space.proofs.Openness.{moved, value_moved, reach, each_within_reach, moved_in_front, moved_behind, moved_in_cube, ahead, ahead_in_front}
use Rattle.qm_partition.specs.declared.step.Step.{Step}
use Rattle.qm_partition.specs.Tree.{Tree, NamesItsPlanes}
use Rattle.qm_partition.specs.Counting.{leaves_of, node_planes}
use Rattle.qm_partition.specs.LeafOfPoint.{node_value, leaf_record_at, IsOffNodePlanes}
use Rattle.qm_partition.specs.Ways.{Way, turned_to, cell_of_way}
use Rattle.qm_partition.proofs.Cells.{number_of_cell, cells_are_apart}
use Rattle.qm_partition.proofs.LeafNumbers.{leaf_of_number}
use Rattle.qm_partition.proofs.NodePlanes.{IsOff, off_node_planes}
use Rattle.qm_contacts.specs.Meeting.{Meeting, meetings}
use Rattle.qm_contacts.specs.Contact.{IsContact}
use Rattle.qm_contacts.specs.Portals.{leaf_record}
use Rattle.qm_surface.specs.Boundary.{leaf_on, IsOnNoOther}
use Rattle.qm_surface.proofs.MeetingNodes.{plane_there, below_on, way_on, way_leads}

-- a point y near a point x of the plane of a number: in the cube, on that side of the plane, and on the same side as x of every
-- plane that x is not on
pub record IsNear (planes : List Plane) (n : ℕ) (side : Bool) (x y : Point) : Type 0 where
  pub in_cube : IsInCube y
  pub on_side : IsInFront (turned side (plane_at planes n)) y
  pub in_front : (m : ℕ) → IsInFront (plane_at planes m) x → IsInFront (plane_at planes m) y
  pub behind : (m : ℕ) → IsBehind (plane_at planes m) x → IsBehind (plane_at planes m) y

-- ---- planes by their numbers

abbrev no_plane : Plane
no_plane = plane_of (pos 0) (pos 0) (pos 0) (pos 0)

no_value : (x : Point) → value no_plane x ≡ pos 0
unfolding value
no_value x = let a = zero_*ℤ x.x in let b = zero_*ℤ x.y in let c = zero_*ℤ x.z in let d = zero_*ℤ x.w in omega (arith, linear)

-- the value at v of each plane, also of one that is not there, is within reach
within_reach : (planes : List Plane) (v : Point) (m : ℕ) → unsigned_abs (value (plane_at planes m) v) ≤ reach planes v
within_reach planes v m = ⊎_elim
    (λ within. each_within_reach planes v m no_plane within)
    (λ past.
    let none = ap (λ (h : Plane). unsigned_abs (value h v)) (get_or_past planes m no_plane past) in
    let zero = ap unsigned_abs (no_value v) in
    omega (arith, none, zero))
    (cases_lt m (length planes))

-- a plane that has a point in front of one of its sides is there
pub plane_in_range : (planes : List Plane) (side : Bool) (m : ℕ) (x : Point) → IsInFront (turned side (plane_at planes m)) x → m < length planes
plane_in_range planes side m x front = ⊎_elim
    (λ within. within)
    (λ past.
    let on : IsOn (plane_at planes m) x = ap (λ (h : Plane). value h x) (get_or_past planes m no_plane past) ∙ no_value x in
    let its = (turned_on side (plane_at planes m) x).1 on in
    absurd (omega (arith, ints, its, front)))
    (cases_lt m (length planes))

-- ---- there is such a point

pub near_point : (planes : List Plane) (n : ℕ) (side : Bool) (x : Point) → HasNormal (plane_at planes n) → IsInCube x → IsOn (plane_at planes n) x → (y : Point) × IsNear planes n side x y
near_point planes n side x normal in_cube on =
    let h = turned side (plane_at planes n) in
    let v = ahead h in
    let k : ℕ = suc (reach planes v + reach cube_walls v) in
    let its = value_moved h (pos k) x v in
    let none : pos k *ℤ value h x ≡ pos 0 = ap (λ z. pos k *ℤ z) ((turned_on side (plane_at planes n) x).1 on) ∙ *ℤ_zero (pos k) in
    let front = ahead_in_front h (turned_has_normal side (plane_at planes n) normal) in (
      moved (pos k) x v,
      record {
        in_cube = moved_in_cube x v (pos k) (omega (arith, ints)) in_cube;
        on_side = omega (arith, linear, its, none, front);
        in_front = λ m. moved_in_front (plane_at planes m) x v (pos k) (reach planes v) (within_reach planes v m) (omega (arith, ints));
        behind = λ m. moved_behind (plane_at planes m) x v (pos k) (reach planes v) (within_reach planes v m) (omega (arith, ints));
      },
    )

-- ---- what it has of the first point

module _ (planes : List Plane) (n : ℕ) (side : Bool) (x y : Point) (near : IsNear planes n side x y) where
  pub near_in_front : (t : Bool) (m : ℕ) → IsInFront (turned t (plane_at planes m)) x → IsInFront (turned t (plane_at planes m)) y
  near_in_front true m front = near.in_front m front
  near_in_front false m front = (flipped_in_front (plane_at planes m) y).1 (near.behind m ((flipped_in_front (plane_at planes m) x).0 front))

  -- a plane that does not have it in front does not have the first point in front
  pub near_not_in_front : (t : Bool) (m : ℕ) → IsNotInFront (turned t (plane_at planes m)) y → IsNotInFront (turned t (plane_at planes m)) x
  near_not_in_front t m not = by_least (pos 0) (value (turned t (plane_at planes m)) x)
      (λ front. let ahead = near_in_front t m front in absurd (omega (arith, ints, ahead, not)))
      (λ at_most. at_most)

  pub near_in_cell : (way : Way) → IsInCell (cell_of_way planes way) x → IsInCell (cell_of_way planes way) y
  near_in_cell way inside =
      All-map (λ g. IsInFront g y) (turned_to planes) way
      (All-weaker (λ step. IsInFront (turned_to planes step) x) (λ step. IsInFront (turned_to planes step) y) (λ step. near_in_front step.front step.plane) way
      (All-from_map (λ g. IsInFront g x) (turned_to planes) way inside))

contact_below : (planes : List Plane) (side : Bool) (m : Meeting) (x : Point) → IsContact planes m x → IsInCell (cell_of_way planes (below_on side m).way) x
contact_below planes true m x contact = contact.in_front
contact_below planes false m x contact = contact.behind

-- it lies in the leaf on its side
pub near_in_leaf : (planes : List Plane) (side : Bool) (m : Meeting) (x y : Point) → IsContact planes m x → IsNear planes m.plane side x y → IsInCell (cell_of_way planes (way_on side m)) y
near_in_leaf planes side m x y contact near =
    let down = (below_on side m).way in
    let step : Step = record { plane = m.plane; front = side } in
    subst (λ (cell : List Plane). IsInCell cell y) (sym (map-append (turned_to planes) m.above (step ∷ down)))
    (All-append (λ g. IsInFront g y) (cell_of_way planes m.above) (cell_of_way planes (step ∷ down))
    (near_in_cell planes m.plane side x y near m.above contact.above)
    (All-cons (λ g. IsInFront g y) (turned side (plane_at planes m.plane)) (cell_of_way planes down) near.on_side
    (near_in_cell planes m.plane side x y near down (contact_below planes side m x contact))))

-- and on no node plane, where the first point is on no other plane
module _ (planes : List Plane) (n : ℕ) (side : Bool) (x y : Point) (only : IsOnNoOther planes n x) (near : IsNear planes n side x y) where
  off_plane : (m : ℕ) → m < length planes → IsOn (plane_at planes m) y → ⊥
  off_plane m within on = by_sign (value (plane_at planes m) x)
      (λ behind. let its = near.behind m behind in absurd (omega (arith, ints, its, on)))
      (λ is_on.
      let its = (turned_on side (plane_at planes n) y).1 (subst (λ (k : ℕ). IsOn (plane_at planes k) y) (only m within is_on) on) in
      let front = near.on_side in
      absurd (omega (arith, ints, its, front)))
      (λ front. let its = near.in_front m front in absurd (omega (arith, ints, its, on)))

  is_off : (m : ℕ) → m < length planes → IsOff planes y m
  unfolding node_value
  is_off m within = off_plane m within

pub near_off_nodes : (tree : Tree) (n : ℕ) (side : Bool) (x y : Point) → NamesItsPlanes tree → IsOnNoOther tree.planes n x → IsNear tree.planes n side x y → IsOffNodePlanes tree.planes tree.shape y
near_off_nodes tree n side x y named only near =
    (off_node_planes tree.planes y tree.shape).1 (All-weaker (λ m. m < length tree.planes) (IsOff tree.planes y) (is_off tree.planes n side x y only near) (node_planes tree.shape) named)

-- so it is led to that leaf
pub near_leaf : (tree : Tree) (side : Bool) (m : Meeting) (x y : Point) → Contains (meetings tree) m → IsContact tree.planes m x → IsNear tree.planes m.plane side x y → leaf_record tree (leaf_on side m.front.leaf m.back.leaf) ≡ leaf_record_at tree.planes tree.shape y
near_leaf tree side m x y listed contact near =
    let k = leaf_on side m.front.leaf m.back.leaf in
    let number = number_of_cell tree.planes tree.shape y k (way_on side m) (way_leads tree side m listed) (near_in_leaf tree.planes side m x y contact near) in
    get_or_from_slice_get (leaves_of tree.shape) k (leaf_record_at tree.planes tree.shape y) _
    (ap (slice_get (leaves_of tree.shape)) (sym number) ∙ leaf_of_number tree.planes tree.shape y)

-- ---- two contacts

module _ (tree : Tree) (m l : Meeting) (x : Point) (named : NamesItsPlanes tree) (normals : All HasNormal tree.planes) (m_listed : Contains (meetings tree) m) (l_listed : Contains (meetings tree) l) (of_m : IsContact tree.planes m x) (of_l : IsContact tree.planes l x) (only : IsOnNoOther tree.planes m.plane x) where
  same_leaf : (side : Bool) → leaf_on side m.front.leaf m.back.leaf ≡ leaf_on side l.front.leaf l.back.leaf
  same_leaf side =
      let same : l.plane ≡ m.plane = only l.plane (plane_there tree l l_listed named) of_l.on in
      let normal = normals m.plane no_plane (plane_there tree m m_listed named) in
      let found = near_point tree.planes m.plane side x normal of_m.in_cube of_m.on in
      let other = subst (λ (n : ℕ). IsNear tree.planes n side x found.0) (sym same) found.1 in
      cells_are_apart tree.planes tree.shape found.0 (leaf_on side m.front.leaf m.back.leaf) (leaf_on side l.front.leaf l.back.leaf) (way_on side m) (way_on side l)
      (way_leads tree side m m_listed) (way_leads tree side l l_listed) (near_in_leaf tree.planes side m x found.0 of_m found.1) (near_in_leaf tree.planes side l x found.0 of_l other)

  -- with a point in common that is on one plane alone are contacts of the same two leaves
  pub one_contact : (m.front.leaf ≡ l.front.leaf) × (m.back.leaf ≡ l.back.leaf)
  one_contact = (same_leaf true, same_leaf false)

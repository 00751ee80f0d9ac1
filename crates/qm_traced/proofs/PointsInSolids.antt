-- A point strictly inside a full solid of solid contents is led to a solid leaf, also where it lies on planes of nodes. Some
-- direction is in front of every plane that leads positive; a little that way lies a point off all node planes, which is led
-- to the same leaf.
use Rattle.std.proofs.Common.{◌≡◌, ℕ, suc, ◌+◌, ◌<◌, ◌≤◌, ℤ, pos, negsuc, zero, ◌+ℤ◌, ◌*ℤ◌, ◌<ℤ◌, ◌≤ℤ◌, false, IsTrue, List, ◌++◌, All, length, Contains, inl, inr, refl, sym, subst, arith, unsigned_abs}
use Rattle.std.proofs.lemmas.Int.{ints}
use Rattle.std.proofs.lemmas.List.Elements.{All-head, All-tail, All-weaker}
use Rattle.qm_lists.proofs.Elements.{All-first_part, All-last_part}
use Rattle.qm_numbers.proofs.IntegerProducts.{linear, *ℤ_zero}
use Rattle.qm_numbers.proofs.Signs.{side_test, product_not_negative, abs_product_bound}
use Rattle.qm_contents.specs.declared.contents.Contents.TheVariants.{Solid}
use Rattle.qm_contents.specs.Precedence.{IsAtMost}
use Rattle.qm_contents.specs.declared.contents.Contents.{Contents}
use Rattle.qm_contents.proofs.Strengths.{only_solid}
use Rattle.qm_space.specs.Bounds.{normal_bound}
use Rattle.qm_space.specs.Point.{Point, IsInCube}
use Rattle.qm_space.specs.Plane.{Plane, value, IsInFront}
use Rattle.qm_space.specs.Reduced.{sign_decides, leads_positive, HasSmallNormal}
use Rattle.qm_space.specs.Cube.{cube_walls}
use Rattle.qm_space.specs.Book.{plane_at}
use Rattle.qm_space.proofs.Openness.{moved, value_moved, reach, each_within_reach, moved_behind, moved_in_cell, moved_in_cube}
use Rattle.qm_solids.specs.Solid.{Solid as SolidRecord, inward}
use Rattle.qm_solids.specs.Holding.{IsInside, IsFull, Holds}
use Rattle.qm_solids.proofs.Insides.{inside_in_front_of_none}
use Rattle.qm_partition.specs.declared.node.Leaf.{Leaf}
use Rattle.qm_partition.specs.Partition.{Partition, leaf, node}
use Rattle.qm_partition.specs.Tree.{Tree}
use Rattle.qm_partition.specs.Counting.{node_planes}
use Rattle.qm_partition.specs.LeafOfPoint.{node_value, leaf_record_at, IsOffNodePlanes}
use Rattle.qm_solid_tree.specs.GivesContents.{GivesContents}
use Rattle.qm_spans.proofs.PlaneEnds.{test_below, test_not_below}

-- ---- the direction

abbrev leading : ℤ
leading = pos (normal_bound + 1)

-- so far along x that y and z do not outweigh it, and so far along y that z does not
unfoldable lead : Point
lead = record { x = leading *ℤ leading; y = leading; z = pos 1; w = pos 0 }

first_outweighs : (x y z : ℤ) → unsigned_abs x ≤ normal_bound → unsigned_abs y ≤ normal_bound → unsigned_abs z ≤ normal_bound → IsTrue (sign_decides x (sign_decides y (sign_decides z false))) →
    pos 0 <ℤ (((x *ℤ (leading *ℤ leading)) +ℤ (y *ℤ leading)) +ℤ (z *ℤ pos 1))
first_outweighs (pos (suc m)) y z small_x small_y small_z leads =
    let s = abs_product_bound y leading normal_bound (normal_bound + 1) small_y (omega arith) in
    let t = abs_product_bound z (pos 1) normal_bound 1 small_z (omega arith) in
    omega (arith, ints, s, t)
first_outweighs (negsuc m) y z small_x small_y small_z leads = absurd cc
first_outweighs (pos zero) (pos (suc m)) z small_x small_y small_z leads =
    let t = abs_product_bound z (pos 1) normal_bound 1 small_z (omega arith) in
    omega (arith, ints, t)
first_outweighs (pos zero) (negsuc m) z small_x small_y small_z leads = absurd cc
first_outweighs (pos zero) (pos zero) (pos (suc m)) small_x small_y small_z leads = omega (arith, ints)
first_outweighs (pos zero) (pos zero) (negsuc m) small_x small_y small_z leads = absurd cc
first_outweighs (pos zero) (pos zero) (pos zero) small_x small_y small_z leads = absurd cc

-- it is in front of each plane that leads positive
lead_in_front : (h : Plane) → HasSmallNormal h → IsTrue (leads_positive h) → IsInFront h lead
unfolding value lead
lead_in_front h small leads =
    let e = *ℤ_zero h.d in
    let p = first_outweighs h.nx h.ny h.nz small.x small.y small.z leads in
    omega (arith, linear, e, p)

-- ---- beside a point

-- what is behind the plane of the number stays behind, and what is not is in front
record KeepsSide (planes : List Plane) (x y : Point) (n : ℕ) : Type 0 where
  behind : node_value planes n x <ℤ pos 0 → node_value planes n y <ℤ pos 0
  front : pos 0 ≤ℤ node_value planes n x → pos 0 <ℤ node_value planes n y

module _ (planes : List Plane) (x y : Point) where
  -- so it is off all node planes, and is led to the same leaf
  beside : (shape : Partition) → All (KeepsSide planes x y) (node_planes shape) → IsOffNodePlanes planes shape y × (leaf_record_at planes shape y ≡ leaf_record_at planes shape x)
  beside (leaf found) keeps = (tt, refl)
  beside (node n front back) keeps =
      let here = All-head (KeepsSide planes x y) n (node_planes front ++ node_planes back) keeps in
      let below = All-tail (KeepsSide planes x y) n (node_planes front ++ node_planes back) keeps in
      let in_front = beside front (All-first_part (KeepsSide planes x y) (node_planes front) (node_planes back) below) in
      let in_back = beside back (All-last_part (KeepsSide planes x y) (node_planes front) (node_planes back) below) in
      elim (side_test (node_value planes n x)) [
        | inl is_behind ↦
            let less = here.behind is_behind.1 in
            let test = test_below (node_value planes n y) less in
            (((λ on. absurd (omega (arith, linear, less, on))), in_front.0, in_back.0), rw (test, is_behind.0) in_back.1)
        | inr ahead ↦
            let more = here.front ahead.1 in
            let test = test_not_below (node_value planes n y) (omega (arith, linear, more)) in
            (((λ on. absurd (omega (arith, linear, more, on))), in_front.0, in_back.0), rw (test, ahead.0) in_front.1)
      ]

  -- many times the point, moved by the direction, is such a place
  keeps_sides : (k : ℕ) → y ≡ moved (pos k) x lead → reach planes lead < k → All (λ h. IsTrue (leads_positive h)) planes → All HasSmallNormal planes → (n : ℕ) → n < length planes → KeepsSide planes x y n
  unfolding node_value
  keeps_sides k is large leads small n within =
      let h = plane_at planes n in
      let none : Plane = record { nx = pos 0; ny = pos 0; nz = pos 0; d = pos 0 } in
      let ahead = lead_in_front h (small n none within) (leads n none within) in
      record {
        behind = λ behind. subst (λ (z : Point). value h z <ℤ pos 0) (sym is) (moved_behind h x lead (pos k) (reach planes lead) (each_within_reach planes lead n none within) (omega (arith, ints, large)) behind);
        front = λ front.
            let e = value_moved h (pos k) x lead in
            let p = product_not_negative (pos k) (value h x) (omega (arith, ints)) front in
            subst (λ (z : Point). pos 0 <ℤ value h z) (sym is) (omega (arith, linear, e, p, ahead));
      }

-- ---- a point inside a solid

-- where all points that are on no node plane are led to leaves of the contents that the solids define there
module _ (tree : Tree) (solids : List SolidRecord) (gives : GivesContents tree solids) (leads : All (λ h. IsTrue (leads_positive h)) tree.planes) (small : All HasSmallNormal tree.planes) where
  solid_off_planes : (solid : SolidRecord) (y : Point) → Contains solids solid → IsFull solid → solid.contents ≡ Solid → IsInCube y → IsOffNodePlanes tree.planes tree.shape y → IsInside solid y → (leaf_record_at tree.planes tree.shape y).contents ≡ Solid
  solid_off_planes solid y listed full is_solid in_cube off inside =
      let contents = gives.gives y in_cube off in
      let holds : Holds solid y = record { full = full; not_in_front = inside_in_front_of_none solid y inside } in
      let least = contents.strongest solid (record { listed = listed; has = holds }) in
      only_solid (leaf_record_at tree.planes tree.shape y).contents (subst (λ (c : Contents). IsAtMost c (leaf_record_at tree.planes tree.shape y).contents) is_solid least)

  pub solid_at : (solid : SolidRecord) (x : Point) → Contains solids solid → IsFull solid → solid.contents ≡ Solid → IsInCube x → IsInside solid x → (leaf_record_at tree.planes tree.shape x).contents ≡ Solid
  solid_at solid x listed full is_solid in_cube inside =
      let cell = inward solid in
      let k : ℕ = suc (reach tree.planes lead + reach cell lead + reach cube_walls lead) in
      let y = moved (pos k) x lead in
      let keeps = All-weaker (λ n. n < length tree.planes) (KeepsSide tree.planes x y) (keeps_sides tree.planes x y k refl (omega arith) leads small) (node_planes tree.shape) gives.named in
      let same = beside tree.planes x y tree.shape keeps in
      let y_in = moved_in_cube x lead (pos k) (omega (arith, ints)) in_cube in
      let y_inside = moved_in_cell cell x lead (pos k) (omega (arith, ints)) inside in
      subst (λ (found : Leaf). found.contents ≡ Solid) same.1 (solid_off_planes solid y listed full is_solid y_in same.0 y_inside)

-- How large the value of a node's plane is at the end of a segment that can be traced, and which planes are near.
use Rattle.std.proofs.Common.{◌≡◌, ℕ, ◌+◌, ◌*◌, ◌^◌, ◌<◌, ◌≤◌, max, ◌↔◌, ℤ, pos, ◌+ℤ◌, ◌*ℤ◌, ◌<ℤ◌, List, ◌∷◌, ◌++◌, All, Some, map, length, get_or, ⊎_elim, refl, ap, ap₂, sym, subst, ◌∙◌, arith, unsigned_abs}
use Rattle.std.specs.Prelude.{slice_get, option_map, nat_lt, nat_le, IsTrue}
use Rattle.std.proofs.lemmas.Int.{ints}
use Rattle.std.proofs.lemmas.Bool.{cases_lt, ltb-true, lt-ltb, leb-true, le-leb}
use Rattle.std.proofs.lemmas.List.{map-append, length-map, get_or_default}
use Rattle.std.proofs.lemmas.Option.{slice_get-map, get_or_from_slice_get}
use Rattle.std.proofs.Math.IntN.{*ℤ_comm}
use Rattle.qm_numbers.proofs.IntegerProducts.{linear}
use Rattle.qm_numbers.proofs.Signs.{abs_sum, abs_difference, abs_product_bound, times_at_most}
use Rattle.qm_space.specs.Bounds.{world_extent, normal_bound, cube_distance_bound}
use Rattle.qm_space.specs.Point.{Point}
use Rattle.qm_space.specs.Plane.{Plane, value}
use Rattle.qm_space.specs.Reduced.{IsReduced}
use Rattle.qm_space.specs.Book.{plane_at}
use Rattle.qm_space.specs.InsideBound.{IsWithinBound, IsInsideBound}
use Rattle.qm_space.proofs.Books.{plane_at_from}
use Rattle.qm_space.proofs.Cubes.{cube_in_closed}
use Rattle.qm_space.proofs.CubeDistances.{cube_distance_small}
use Rattle.qm_partition.specs.declared.node.Node.{Node}
use Rattle.qm_partition.specs.Partition.{Partition, leaf, node}
use Rattle.qm_partition.specs.Tree.{Tree}
use Rattle.qm_partition.specs.Counting.{node_count, node_planes}
use Rattle.qm_partition.specs.LeafOfPoint.{node_value}
use Rattle.qm_partition.proofs.Counts.{length-nodes_of}
use Rattle.qm_partition.specs.Numbering.{nodes_after, leaves_after, nodes_of}
use Rattle.qm_partition.proofs.PlacedParts.{each_node_plane}
use Rattle.qm_spans.specs.SegmentTrace.{FitsTraces, MeetsCube, IsTraceEnd}
use Rattle.qm_spans.specs.inner.NearNodes.{IsNearNode}

-- ---- values

coordinate_small : (c w : ℤ) → pos 0 <ℤ w → unsigned_abs w ≤ 1000000 → IsWithinBound world_extent c w → unsigned_abs c ≤ world_extent * 1000000
coordinate_small c w some small within = let above = within.above in let below = within.below in omega (arith, ints, some, small, above, below)

pub end_value_small : (h : Plane) (p : Point) → IsReduced h → unsigned_abs h.d ≤ cube_distance_bound → IsTraceEnd p → unsigned_abs (value h p) < 2 ^ 64
unfolding value
end_value_small h p r near end =
    let bound = world_extent * 1000000 in
    let x = abs_product_bound h.nx p.x normal_bound bound r.nx_small (coordinate_small p.x p.w end.inside.weight end.weight end.inside.x) in
    let y = abs_product_bound h.ny p.y normal_bound bound r.ny_small (coordinate_small p.y p.w end.inside.weight end.weight end.inside.y) in
    let z = abs_product_bound h.nz p.z normal_bound bound r.nz_small (coordinate_small p.z p.w end.inside.weight end.weight end.inside.z) in
    let w = abs_product_bound h.d p.w cube_distance_bound 1000000 near end.weight in
    let s = abs_sum (h.nx *ℤ p.x) (h.ny *ℤ p.y) in
    let t = abs_sum ((h.nx *ℤ p.x) +ℤ (h.ny *ℤ p.y)) (h.nz *ℤ p.z) in
    let u = abs_difference (((h.nx *ℤ p.x) +ℤ (h.ny *ℤ p.y)) +ℤ (h.nz *ℤ p.z)) (h.d *ℤ p.w) in
    omega (arith, x, y, z, w, s, t, u)

-- ---- the cube

-- a larger cube has the points of a smaller one
wider_bound : (m n : ℕ) (c w : ℤ) → m ≤ n → pos 0 <ℤ w → IsWithinBound m c w → IsWithinBound n c w
wider_bound m n c w less some within =
    let m_w = times_at_most w (pos m) (pos n) (omega (arith, linear, some)) (omega (arith, ints, less)) in
    let e = *ℤ_comm w (pos m) in let f = *ℤ_comm w (pos n) in
    let above = within.above in let below = within.below in
    record { above = omega (arith, linear, m_w, e, f, above); below = omega (arith, linear, m_w, e, f, below) }

pub inside_larger : (bound : ℕ) (p : Point) → bound ≤ world_extent → IsInsideBound bound p → IsInsideBound world_extent p
inside_larger bound p less inside = record {
  weight = inside.weight;
  x = wider_bound bound world_extent p.x p.w less inside.weight inside.x;
  y = wider_bound bound world_extent p.y p.w less inside.weight inside.y;
  z = wider_bound bound world_extent p.z p.w less inside.weight inside.z;
}

-- a point is inside where the coordinate that is farthest from 0 is
within : (m w : ℕ) (c : ℤ) → unsigned_abs c < m * w → IsWithinBound m c (pos w)
within m w c near = record { above = omega (arith, ints, near); below = omega (arith, ints, near) }

is_near : (m w : ℕ) (c : ℤ) → IsWithinBound m c (pos w) → unsigned_abs c < m * w
is_near m w c is = let above = is.above in let below = is.below in omega (arith, ints, above, below)

pub inside_by_farthest : (bound : ℕ) (p : Point) → pos 0 <ℤ p.w → (max (max (unsigned_abs p.x) (unsigned_abs p.y)) (unsigned_abs p.z) < bound * unsigned_abs p.w) ↔ IsInsideBound bound p
inside_by_farthest bound p some =
    let w : pos (unsigned_abs p.w) ≡ p.w = omega (arith, ints, some) in (
      λ farthest. record {
        weight = some;
        x = subst (λ (n : ℤ). IsWithinBound bound p.x n) w (within bound (unsigned_abs p.w) p.x (omega (arith, farthest)));
        y = subst (λ (n : ℤ). IsWithinBound bound p.y n) w (within bound (unsigned_abs p.w) p.y (omega (arith, farthest)));
        z = subst (λ (n : ℤ). IsWithinBound bound p.z n) w (within bound (unsigned_abs p.w) p.z (omega (arith, farthest)));
      },
      λ is.
          let near_x = is_near bound (unsigned_abs p.w) p.x (subst (λ (n : ℤ). IsWithinBound bound p.x n) (sym w) is.x) in
          let near_y = is_near bound (unsigned_abs p.w) p.y (subst (λ (n : ℤ). IsWithinBound bound p.y n) (sym w) is.y) in
          let near_z = is_near bound (unsigned_abs p.w) p.z (subst (λ (n : ℤ). IsWithinBound bound p.z n) (sym w) is.z) in
          omega (arith, near_x, near_y, near_z),
    )

-- ---- the planes of nodes

-- the planes of the numbered nodes, in their order
pub planes_of_nodes : (shape : Partition) (n k : ℕ) → map (λ (here : Node). here.plane) (nodes_of shape n k) ≡ node_planes shape
planes_of_nodes (leaf found) n k = refl
planes_of_nodes (node p front back) n k =
    let n_back = nodes_after front (n + 1) in
    let k_back = leaves_after front k in
    ap (λ (numbers : List ℕ). p ∷ numbers)
    (map-append (λ (here : Node). here.plane) (nodes_of front (n + 1) k) (nodes_of back n_back k_back)
    ∙ ap₂ (λ (xs : List ℕ) (ys : List ℕ). xs ++ ys) (planes_of_nodes front (n + 1) k) (planes_of_nodes back n_back k_back))

-- the plane of a numbered node is near where the tree fits
pub node_is_near : (tree : Tree) (i : ℕ) (here : Node) (h : Plane) → FitsTraces tree → slice_get (nodes_of tree.shape 0 0) i ≡ Some here → slice_get tree.planes here.plane ≡ Some h → unsigned_abs h.d ≤ cube_distance_bound
node_is_near tree i here h fits stands at =
    let near = each_node_plane (λ n. unsigned_abs (plane_at tree.planes n).d ≤ cube_distance_bound) tree.shape 0 0 i here fits stands in
    subst (λ (g : Plane). unsigned_abs g.d ≤ cube_distance_bound) (plane_at_from tree.planes here.plane h at) near

-- the planes of nodes one by one: the node of a number has the plane at that place
pub plane_of_node : (tree : Tree) (i : ℕ) (here : Node) (h : Plane) → slice_get (nodes_of tree.shape 0 0) i ≡ Some here → slice_get tree.planes here.plane ≡ Some h → plane_at tree.planes (get_or (node_planes tree.shape) i 0) ≡ h
plane_of_node tree i here h stands at =
    let mapped : slice_get (map (λ (m : Node). m.plane) (nodes_of tree.shape 0 0)) i ≡ Some here.plane = slice_get-map (λ (m : Node). m.plane) (nodes_of tree.shape 0 0) i ∙ ap (option_map (λ (m : Node). m.plane)) stands in
    let number : get_or (node_planes tree.shape) i 0 ≡ here.plane = get_or_from_slice_get (node_planes tree.shape) i here.plane 0 (subst (λ (numbers : List ℕ). slice_get numbers i ≡ Some here.plane) (planes_of_nodes tree.shape 0 0) mapped) in
    ap (plane_at tree.planes) number ∙ plane_at_from tree.planes here.plane h at

-- a plane that meets the cube is near
pub meeting_is_near : (tree : Tree) (n : ℕ) → IsReduced (plane_at tree.planes n) → MeetsCube tree n → unsigned_abs (plane_at tree.planes n).d ≤ cube_distance_bound
meeting_is_near tree n reduced meets =
    cube_distance_small (plane_at tree.planes n) meets.point (cube_in_closed meets.point meets.in_cube) meets.on (record { x = reduced.nx_small; y = reduced.ny_small; z = reduced.nz_small })

-- the value of a node's plane
pub value_of_node : (tree : Tree) (i : ℕ) (here other : Node) (h : Plane) (x : Point) → slice_get (nodes_of tree.shape 0 0) i ≡ Some other → slice_get tree.planes other.plane ≡ Some h → slice_get (nodes_of tree.shape 0 0) i ≡ Some here → value h x ≡ node_value tree.planes here.plane x
unfolding node_value
value_of_node tree i here other h x stands at is =
    let same : other ≡ here = let e : Some other ≡ Some here = sym stands ∙ is in cc in
    sym (ap (λ (g : Plane). value g x) (plane_at_from tree.planes other.plane h at)) ∙ ap (λ (m : Node). value (plane_at tree.planes m.plane) x) same

-- ---- tests

pub near_test : (tree : Tree) (k size : ℕ) (h : Plane) → plane_at tree.planes (get_or (node_planes tree.shape) k 0) ≡ h → size ≡ unsigned_abs h.d → IsTrue (nat_le size cube_distance_bound) ↔ IsNearNode tree k
near_test tree k size h is size_is =
    let e : size ≡ unsigned_abs (plane_at tree.planes (get_or (node_planes tree.shape) k 0)).d = size_is ∙ ap (λ (g : Plane). unsigned_abs g.d) (sym is) in
    subst (λ (n : ℕ). IsTrue (nat_le size cube_distance_bound) ↔ (n ≤ cube_distance_bound)) e ((λ test. leb-true size cube_distance_bound test), (λ less. le-leb size cube_distance_bound less))

pub inside_test : (bound farthest reach : ℕ) (p : Point) → pos 0 <ℤ p.w → farthest ≡ max (max (unsigned_abs p.x) (unsigned_abs p.y)) (unsigned_abs p.z) → reach ≡ bound * unsigned_abs p.w → IsTrue (nat_lt farthest reach) ↔ IsInsideBound bound p
inside_test bound farthest reach p some farthest_is reach_is =
    let inside = inside_by_farthest bound p some in
    let less = subst (λ (m : ℕ). (m < bound * unsigned_abs p.w) ↔ IsInsideBound bound p) (sym farthest_is) inside in
    let both = subst (λ (m : ℕ). (farthest < m) ↔ IsInsideBound bound p) (sym reach_is) less in
    ((λ test. both.0 (ltb-true farthest reach test)), (λ is. lt-ltb farthest reach (both.1 is)))

-- ---- all of them

-- the planes of the first nodes are near
pub record AreNearBelow (tree : Tree) (count : ℕ) : Type 0 where
  pub each : (k : ℕ) → k < count → IsNearNode tree k

pub none_near : (tree : Tree) → AreNearBelow tree 0
none_near tree = record { each = λ k below. absurd (omega (arith, below)) }

pub one_more_near : (tree : Tree) (count : ℕ) → IsNearNode tree count → AreNearBelow tree count → AreNearBelow tree (count + 1)
one_more_near tree count here near = record {
  each = λ k below. ⊎_elim (λ before. near.each k before) (λ not. subst (IsNearNode tree) (omega (arith, below, not)) here) (cases_lt k count);
}

length-node_planes : (shape : Partition) → length (node_planes shape) ≡ node_count shape
length-node_planes shape = ap length (sym (planes_of_nodes shape 0 0)) ∙ length-map (nodes_of shape 0 0) (λ (here : Node). here.plane) ∙ length-nodes_of shape 0 0

-- where all are near the tree fits, and where it fits each is
pub all_near : (tree : Tree) → AreNearBelow tree (node_count tree.shape) → FitsTraces tree
all_near tree near = λ k d within.
    subst (λ (n : ℕ). unsigned_abs (plane_at tree.planes n).d ≤ cube_distance_bound) (get_or_default (node_planes tree.shape) k 0 d within) (near.each k (omega (arith, within, length-node_planes tree.shape)))

pub near_where_fits : (tree : Tree) (k : ℕ) → k < node_count tree.shape → FitsTraces tree → IsNearNode tree k
near_where_fits tree k within fits = fits k 0 (omega (arith, within, length-node_planes tree.shape))

pub meets_where_all : (tree : Tree) (k : ℕ) → k < node_count tree.shape → All (MeetsCube tree) (node_planes tree.shape) → MeetsCube tree (get_or (node_planes tree.shape) k 0)
meets_where_all tree k within all = all k 0 (omega (arith, within, length-node_planes tree.shape))

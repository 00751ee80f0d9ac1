-- Which planes, nodes, leaves and rows can stand in a tree file.
use Rattle.std.proofs.Common.{◌≡◌, ◌<◌, ℕ, zero, suc, ◌+◌, ◌^◌, Bool, true, false, eqb, ltb, leb, ◌&&◌, ℤ, pos, negsuc, List, [], ◌∷◌, length, get_or, inl, inr, refl, sym, subst, arith}
use Rattle.std.specs.Prelude.{IsTrue, unsigned_abs}
use Rattle.std.specs.Int.{◌∣◌, Width, w32, w64}
use mir.Val.{hbits}
use Rattle.std.proofs.Math.Nat.{eq-one_of_dvd-one}
use Rattle.std.proofs.lemmas.Bool.{and_parts, and_from, lt-ltb, ltb-true, le-leb, leb-true, eq-eqb, eqb-true}
use Rattle.qm_space.specs.Plane.{Plane}
use Rattle.qm_space.specs.Bounds.{normal_bound, distance_bound}
use Rattle.qm_space.specs.Reduced.{leads_positive, IsReduced}
use Rattle.qm_space.specs.ThreePoints.{common_factor}
use Rattle.qm_space.proofs.ReducedPlanes.{leading_has_normal, common_factor_divides, divides_common_factor}
use Rattle.qm_contents.specs.declared.contents.Contents.{Contents}
use Rattle.qm_contents.specs.declared.contents.Contents.TheVariants.{Solid}
use Rattle.qm_contents.proofs.SixKinds.{each_kind, each_but_solid, solid_or_not}
use Rattle.qm_partition.specs.declared.node.Child.{Child}
use Rattle.qm_partition.specs.declared.node.Child.TheVariants.{Node, Leaf}
use Rattle.qm_partition.specs.declared.node.Node.{Node as NodeRecord}
use Rattle.qm_partition.specs.declared.node.Leaf.{Leaf as LeafRecord}
use Rattle.qm_partition.specs.WellMade.{IsSolidIfFilled}
use Rattle.qm_formats.specs.Layout.{Layout, right_each}
use Rattle.qm_formats.specs.Fields.{signed, unsigned, fits_signed}
use Rattle.qm_formats.specs.RowBits.{row_bits}
use Rattle.qm_formats.specs.FileParts.{is_plane, plane_layout, child_layout, node_layout, is_leaf, leaf_layout}
use Rattle.qm_formats.specs.FileLayout.{own_row_layout}
use Rattle.qm_formats.proofs.ChildNumbers.{IsBelow, HasBelow}

-- ---- values one behind the other

module _ {F X : Type 0} (layout : ℕ → Layout F X) where
  pub right_each_at : (k count : ℕ) (xs : List X) → right_each layout k count xs ≡ true → (i : ℕ) (d : X) → i < length xs → (layout (k + i)).right (get_or xs i d) ≡ true
  right_each_at k zero [] right i d within = absurd (omega arith)
  right_each_at k zero (x ∷ xs) right i d within = absurd cc
  right_each_at k (suc count) [] right i d within = absurd cc
  right_each_at k (suc count) (x ∷ xs) right zero d within =
      let first = (and_parts ((layout k).right x) (right_each layout (k + 1) count xs) right).0 in
      let place : k ≡ k + 0 = omega arith in
      subst (λ (n : ℕ). (layout n).right x ≡ true) place first
  right_each_at k (suc count) (x ∷ xs) right (suc i) d within =
      let rest = (and_parts ((layout k).right x) (right_each layout (k + 1) count xs) right).1 in
      let place : (k + 1) + i ≡ k + suc i = omega arith in
      subst (λ (n : ℕ). (layout n).right (get_or xs i d) ≡ true) place (right_each_at (k + 1) count xs rest i d (omega (arith, within)))

  pub right_each_from : (k count : ℕ) (xs : List X) → length xs ≡ count → ((i : ℕ) (d : X) → i < length xs → (layout (k + i)).right (get_or xs i d) ≡ true) → right_each layout k count xs ≡ true
  right_each_from k zero [] long each = refl
  right_each_from k zero (x ∷ xs) long each = absurd (omega (arith, long))
  right_each_from k (suc count) [] long each = absurd (omega (arith, long))
  right_each_from k (suc count) (x ∷ xs) long each =
      let place : k + 0 ≡ k = omega arith in
      and_from ((layout k).right x) (right_each layout (k + 1) count xs) (subst (λ (n : ℕ). (layout n).right x ≡ true) place (each 0 x (omega arith)))
      (right_each_from (k + 1) count xs (omega (arith, long)) (λ i d within.
      let later : k + suc i ≡ (k + 1) + i = omega arith in
      subst (λ (n : ℕ). (layout n).right (get_or xs i d) ≡ true) later (each (suc i) d (omega (arith, within)))))

-- ---- planes

pub reduced_plane : (h : Plane) → is_plane h ≡ true → IsReduced h × IsTrue (leads_positive h)
unfolding is_plane
reduced_plane h is =
    let nx = leb (unsigned_abs h.nx) normal_bound in
    let ny = leb (unsigned_abs h.ny) normal_bound in
    let nz = leb (unsigned_abs h.nz) normal_bound in
    let d = leb (unsigned_abs h.d) distance_bound in
    let leads = and_parts (leads_positive h) ((eqb (common_factor h) 1) && (nx && (ny && (nz && d)))) is in
    let lowest = and_parts (eqb (common_factor h) 1) (nx && (ny && (nz && d))) leads.1 in
    let of_nx = and_parts nx (ny && (nz && d)) lowest.1 in
    let of_ny = and_parts ny (nz && d) of_nx.1 in
    let of_nz = and_parts nz d of_ny.1 in
    let one = eqb-true (common_factor h) 1 lowest.0 in
    let reduced : IsReduced h = record {
      normal = leading_has_normal h leads.0;
      lowest = λ k of_x of_y of_z of_d. eq-one_of_dvd-one (subst (λ (n : ℕ). k ∣ n) one (divides_common_factor k h (record { nx = of_x; ny = of_y; nz = of_z; d = of_d })));
      nx_small = leb-true (unsigned_abs h.nx) normal_bound of_nx.0;
      ny_small = leb-true (unsigned_abs h.ny) normal_bound of_ny.0;
      nz_small = leb-true (unsigned_abs h.nz) normal_bound of_nz.0;
      d_small = leb-true (unsigned_abs h.d) distance_bound of_nz.1;
    } in
    (reduced, leads.0)

pub plane_of_reduced : (h : Plane) → IsReduced h → IsTrue (leads_positive h) → is_plane h ≡ true
unfolding is_plane
plane_of_reduced h reduced leads =
    let divides = common_factor_divides h in
    let one = reduced.lowest (common_factor h) divides.nx divides.ny divides.nz divides.d in
    let nx = leb (unsigned_abs h.nx) normal_bound in
    let ny = leb (unsigned_abs h.ny) normal_bound in
    let nz = leb (unsigned_abs h.nz) normal_bound in
    let d = leb (unsigned_abs h.d) distance_bound in
    and_from (leads_positive h) ((eqb (common_factor h) 1) && (nx && (ny && (nz && d)))) leads
    (and_from (eqb (common_factor h) 1) (nx && (ny && (nz && d))) (eq-eqb (common_factor h) 1 one)
    (and_from nx (ny && (nz && d)) (le-leb (unsigned_abs h.nx) normal_bound reduced.nx_small)
    (and_from ny (nz && d) (le-leb (unsigned_abs h.ny) normal_bound reduced.ny_small)
    (and_from nz d (le-leb (unsigned_abs h.nz) normal_bound reduced.nz_small) (le-leb (unsigned_abs h.d) distance_bound reduced.d_small)))))

fits_small : (width : Width) (z : ℤ) → unsigned_abs z < 2 ^ hbits width → fits_signed width z ≡ true
fits_small width (pos n) small = lt-ltb n (2 ^ hbits width) small
fits_small width (negsuc n) small = lt-ltb n (2 ^ hbits width) (omega (arith, small))

pub right_plane : (h : Plane) → plane_layout.right h ≡ true → is_plane h ≡ true
unfolding plane_layout signed
right_plane h right =
    (and_parts (fits_signed w32 h.nx && (fits_signed w32 h.ny && (fits_signed w32 h.nz && fits_signed w64 h.d))) (is_plane h) right).1

pub plane_right : (h : Plane) → IsReduced h → IsTrue (leads_positive h) → plane_layout.right h ≡ true
unfolding plane_layout signed
plane_right h reduced leads =
    let nx = fits_signed w32 h.nx in
    let ny = fits_signed w32 h.ny in
    let nz = fits_signed w32 h.nz in
    let d = fits_signed w64 h.d in
    and_from (nx && (ny && (nz && d))) (is_plane h)
    (and_from nx (ny && (nz && d)) (fits_small w32 h.nx (omega (arith, reduced.nx_small)))
    (and_from ny (nz && d) (fits_small w32 h.ny (omega (arith, reduced.ny_small)))
    (and_from nz d (fits_small w32 h.nz (omega (arith, reduced.nz_small))) (fits_small w64 h.d (omega (arith, reduced.d_small))))))
    (plane_of_reduced h reduced leads)

-- ---- nodes

child_right : (child : Child) → IsBelow (2 ^ 63) (2 ^ 63) child → child_layout.right child ≡ true
unfolding child_layout signed
child_right (Node n) small = lt-ltb n (2 ^ 63) small
child_right (Leaf k) small = lt-ltb k (2 ^ 63) small

pub node_right : (here : NodeRecord) → here.plane < 2 ^ 32 → HasBelow (2 ^ 63) (2 ^ 63) here → node_layout.right here ≡ true
unfolding node_layout unsigned
node_right here plane below =
    and_from (ltb here.plane (2 ^ 32)) (child_layout.right here.front && child_layout.right here.back) (lt-ltb here.plane (2 ^ 32) plane)
    (and_from (child_layout.right here.front) (child_layout.right here.back) (child_right here.front below.front) (child_right here.back below.back))

right_child : (child : Child) → child_layout.right child ≡ true → IsBelow (2 ^ 63) (2 ^ 63) child
unfolding child_layout signed
right_child (Node n) right = ltb-true n (2 ^ 63) right
right_child (Leaf k) right = ltb-true k (2 ^ 63) right

pub right_node : (here : NodeRecord) → node_layout.right here ≡ true → HasBelow (2 ^ 63) (2 ^ 63) here
unfolding node_layout unsigned
right_node here right =
    let children = and_parts (ltb here.plane (2 ^ 32)) (child_layout.right here.front && child_layout.right here.back) right in
    let each = and_parts (child_layout.right here.front) (child_layout.right here.back) children.1 in
    record { front = right_child here.front each.0; back = right_child here.back each.1 }

-- ---- leaves

right_by_contents : (contents : Contents) (filled : Bool) → (IsTrue filled → contents ≡ Solid) → leaf_layout.right (record { contents = contents; filled = filled }) ≡ true
unfolding leaf_layout is_leaf signed unsigned
right_by_contents contents false solid = each_kind (λ c. leaf_layout.right (record { contents = c; filled = false }) ≡ true) refl refl refl refl refl refl contents
right_by_contents contents true solid = subst (λ (c : Contents). leaf_layout.right (record { contents = c; filled = true }) ≡ true) (sym (solid refl)) refl

-- a filled leaf that is not solid cannot stand in a file
filled_other : (contents : Contents) → (contents ≡ Solid → ⊥) → leaf_layout.right (record { contents = contents; filled = true }) ≡ false
unfolding leaf_layout is_leaf signed unsigned
filled_other = each_but_solid (λ c. leaf_layout.right (record { contents = c; filled = true }) ≡ false) refl refl refl refl refl

contents_by_right : (contents : Contents) (filled : Bool) → leaf_layout.right (record { contents = contents; filled = filled }) ≡ true → IsTrue filled → contents ≡ Solid
contents_by_right contents true right is = elim (solid_or_not contents) [
  | inl solid ↦ solid
  | inr other ↦ absurd (let e = filled_other contents other in cc)
]
contents_by_right contents false right is = absurd (let e = is in cc)

pub leaf_right : (found : LeafRecord) → IsSolidIfFilled found → leaf_layout.right found ≡ true
leaf_right found solid = right_by_contents found.contents found.filled solid

pub right_leaf : (found : LeafRecord) → leaf_layout.right found ≡ true → IsSolidIfFilled found
right_leaf found right = contents_by_right found.contents found.filled right

-- ---- rows

pub row_right : (places k : ℕ) (row : List Bool) → length row ≡ places → get_or row k false ≡ true → (own_row_layout places k).right row ≡ true
unfolding own_row_layout row_bits
row_right places k row long own = and_from (eqb (length row) places) (get_or row k false) (eq-eqb (length row) places long) own

pub right_row : (places k : ℕ) (row : List Bool) → (own_row_layout places k).right row ≡ true → (length row ≡ places) × (get_or row k false ≡ true)
unfolding own_row_layout row_bits
right_row places k row right =
    let both = and_parts (eqb (length row) places) (get_or row k false) right in
    (eqb-true (length row) places both.0, both.1)

-- The leaves below a node by their numbers and ways.
use Rattle.std.proofs.Common.{◌≡◌, ℕ, zero, suc, ◌+◌, ◌<◌, ◌≤◌, Bool, true, false, List, [], ◌∷◌, ◌++◌, All, length, map, Contains, slice_get, Some, refl, sym, ap, ◌∙◌, subst, arith, ⊎_elim}
use Rattle.std.proofs.lemmas.List.{length-map}
use Rattle.std.proofs.lemmas.List.Elements.{All-nil, All-cons, All-weaker}
use Rattle.qm_lists.proofs.Elements.{Contains-first, Contains-later, Contains-cons_cases}
use Rattle.qm_lists.proofs.EachPair.{EachPair}
use Rattle.qm_partition.specs.Partition.{Partition, leaf, node}
use Rattle.qm_partition.specs.Numbering.{leaves_after}
use Rattle.qm_partition.specs.Counting.{leaf_count}
use Rattle.qm_partition.specs.Ways.{Way, after_step, ways}
use Rattle.qm_partition.proofs.Counts.{leaves_after-count}
use Rattle.qm_partition.proofs.Cells.{length-ways}
use Rattle.qm_contacts.specs.Meeting.{LeafBelow, seen_from, leaves_below}

abbrev pub numbered : ℕ → Way → LeafBelow
numbered k way = record { leaf = k; way = way }

-- ways, numbered from k on
abbrev pub numbered_ways : List Way → ℕ → List LeafBelow
numbered_ways [] k = []
numbered_ways (way ∷ rest) k = numbered k way ∷ numbered_ways rest (k + 1)

numbered-append : (first second : List Way) (k : ℕ) → numbered_ways (first ++ second) k ≡ numbered_ways first k ++ numbered_ways second (k + length first)
numbered-append [] second k = ap (numbered_ways second) (omega arith)
numbered-append (way ∷ first) second k =
    let more : (k + 1) + length first ≡ k + suc (length first) = omega arith in
    ap (λ (rest : List LeafBelow). record { leaf = k; way = way } ∷ rest) (numbered-append first second (k + 1) ∙ ap (λ (m : ℕ). numbered_ways first (k + 1) ++ numbered_ways second m) more)

numbered-seen : (plane : ℕ) (side : Bool) (all : List Way) (k : ℕ) → map (seen_from plane side) (numbered_ways all k) ≡ numbered_ways (map (after_step plane side) all) k
numbered-seen plane side [] k = refl
numbered-seen plane side (way ∷ all) k = ap (λ (rest : List LeafBelow). record { leaf = k; way = after_step plane side way } ∷ rest) (numbered-seen plane side all (k + 1))

-- the leaves below are the ways of the partition, numbered
pub leaves_are_ways : (shape : Partition) (k : ℕ) → leaves_below shape k ≡ numbered_ways (ways shape) k
leaves_are_ways (leaf found) k = refl
leaves_are_ways (node plane front back) k =
    let fronts = map (after_step plane true) (ways front) in
    let backs = map (after_step plane false) (ways back) in
    let to_front = ap (map (seen_from plane true)) (leaves_are_ways front k) ∙ numbered-seen plane true (ways front) k in
    let to_back = ap (map (seen_from plane false)) (leaves_are_ways back (leaves_after front k)) ∙ numbered-seen plane false (ways back) (leaves_after front k) in
    let count : leaves_after front k ≡ k + length fronts = omega (arith, leaves_after-count front k, length-map (ways front) (after_step plane true), length-ways front) in
    ap (λ (all : List LeafBelow). all ++ map (seen_from plane false) (leaves_below back (leaves_after front k))) to_front
    ∙ ap (λ (all : List LeafBelow). numbered_ways fronts k ++ all) (to_back ∙ ap (numbered_ways backs) count)
    ∙ sym (numbered-append fronts backs k)

-- ---- by their places

same_numbered : (a b : ℕ) (v w : Way) → a ≡ b → v ≡ w → numbered a v ≡ numbered b w
same_numbered a b v w n e = λ i. record { leaf = n i; way = e i }

numbered_at : (all : List Way) (k i : ℕ) (way : Way) → slice_get all i ≡ Some way → Contains (numbered_ways all k) (numbered (k + i) way)
numbered_at [] k i way at = absurd cc
numbered_at (first ∷ all) k zero way at =
    let same : numbered k first ≡ numbered (k + 0) way = same_numbered k (k + 0) first way (omega arith) cc in
    subst (λ (b : LeafBelow). Contains (numbered k first ∷ numbered_ways all (k + 1)) b) same (Contains-first (numbered k first) (numbered_ways all (k + 1)))
numbered_at (first ∷ all) k (suc i) way at =
    let one_more : (k + 1) + i ≡ k + suc i = omega arith in
    subst (λ (n : ℕ). Contains (numbered k first ∷ numbered_ways all (k + 1)) (numbered n way)) one_more
    (Contains-later (numbered k first) (numbered ((k + 1) + i) way) (numbered_ways all (k + 1)) (numbered_at all (k + 1) i way at))

-- a leaf with its way stands below, under its number
pub leaf_listed : (shape : Partition) (k i : ℕ) (way : Way) → slice_get (ways shape) i ≡ Some way → Contains (leaves_below shape k) (numbered (k + i) way)
leaf_listed shape k i way at = subst (λ (all : List LeafBelow). Contains all (numbered (k + i) way)) (sym (leaves_are_ways shape k)) (numbered_at (ways shape) k i way at)

numbered_from_list : (all : List Way) (k : ℕ) (below : LeafBelow) → Contains (numbered_ways all k) below → (i : ℕ) × (below.leaf ≡ k + i) × (slice_get all i ≡ Some below.way)
numbered_from_list [] k below listed = absurd (let within = listed.1 in omega arith)
numbered_from_list (way ∷ all) k below listed = ⊎_elim
    (λ is. (0, sym (ap (λ (b : LeafBelow). b.leaf) is) ∙ omega arith, ap (λ (b : LeafBelow). Some b.way) is))
    (λ later. let found = numbered_from_list all (k + 1) below later in (suc found.0, omega (arith, found.1), found.2))
    (Contains-cons_cases (numbered k way) below (numbered_ways all (k + 1)) listed)

-- and each that stands below is one of the partition's, by its number
pub leaf_from_list : (shape : Partition) (k : ℕ) (below : LeafBelow) → Contains (leaves_below shape k) below → (i : ℕ) × (below.leaf ≡ k + i) × (slice_get (ways shape) i ≡ Some below.way)
leaf_from_list shape k below listed = numbered_from_list (ways shape) k below (subst (λ (all : List LeafBelow). Contains all below) (leaves_are_ways shape k) listed)

length-numbered : (all : List Way) (k : ℕ) → length (numbered_ways all k) ≡ length all
length-numbered [] k = refl
length-numbered (way ∷ all) k = omega (arith, length-numbered all (k + 1))

pub length-leaves_below : (shape : Partition) (k : ℕ) → length (leaves_below shape k) ≡ leaf_count shape
length-leaves_below shape k = ap length (leaves_are_ways shape k) ∙ length-numbered (ways shape) k ∙ length-ways shape

-- ---- their order

numbered_from : (all : List Way) (k least : ℕ) → least ≤ k → All (λ b. (least ≤ b.leaf) × (b.leaf < k + length all)) (numbered_ways all k)
numbered_from [] k least low = All-nil (λ b. (least ≤ b.leaf) × (b.leaf < k + 0))
numbered_from (way ∷ all) k least low =
    All-cons (λ b. (least ≤ b.leaf) × (b.leaf < k + suc (length all))) (numbered k way) (numbered_ways all (k + 1)) (low, omega arith)
    (All-weaker (λ b. (least ≤ b.leaf) × (b.leaf < (k + 1) + length all)) (λ b. (least ≤ b.leaf) × (b.leaf < k + suc (length all))) (λ b both. (both.0, omega (arith, both.1))) (numbered_ways all (k + 1)) (numbered_from all (k + 1) least (omega arith)))

numbered_ascend : (all : List Way) (k : ℕ) → EachPair (λ b c. b.leaf < c.leaf) (numbered_ways all k)
numbered_ascend [] k = tt
numbered_ascend (way ∷ all) k = (
  All-weaker (λ b. (k + 1 ≤ b.leaf) × (b.leaf < (k + 1) + length all)) (λ b. k < b.leaf) (λ b both. omega (arith, both.0)) (numbered_ways all (k + 1)) (numbered_from all (k + 1) (k + 1) (omega arith)),
  numbered_ascend all (k + 1),
)

-- the numbers of the leaves below lie between the counters
pub leaves_between : (shape : Partition) (k : ℕ) → All (λ b. (k ≤ b.leaf) × (b.leaf < leaves_after shape k)) (leaves_below shape k)
leaves_between shape k =
    let count : k + length (ways shape) ≡ leaves_after shape k = omega (arith, leaves_after-count shape k, length-ways shape) in
    subst (λ (all : List LeafBelow). All (λ b. (k ≤ b.leaf) × (b.leaf < leaves_after shape k)) all) (sym (leaves_are_ways shape k))
    (subst (λ (n : ℕ). All (λ b. (k ≤ b.leaf) × (b.leaf < n)) (numbered_ways (ways shape) k)) count (numbered_from (ways shape) k k (omega arith)))

-- and ascend
pub leaves_ascend : (shape : Partition) (k : ℕ) → EachPair (λ b c. b.leaf < c.leaf) (leaves_below shape k)
leaves_ascend shape k = subst (λ (all : List LeafBelow). EachPair (λ b c. b.leaf < c.leaf) all) (sym (leaves_are_ways shape k)) (numbered_ascend (ways shape) k)

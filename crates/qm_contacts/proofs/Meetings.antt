-- Each two leaves of a partition meet exactly once, and the meetings ascend: by node, then by the leaf in front, then by
-- the leaf behind.
use Rattle.std.proofs.Common.{◌≡◌, ℕ, ◌+◌, ◌<◌, ◌≤◌, true, false, List, [], ◌∷◌, ◌++◌, All, get_or, map, Contains, refl, sym, subst, arith, ◌⊎◌, inl, inr, ⊎_elim}
use Rattle.std.proofs.lemmas.List.Concat.{flat_map-cons}
use Rattle.std.proofs.lemmas.List.Elements.{All-nil, All-head, All-tail, All-append, All-map, All-weaker, Contains-append_left, Contains-append_right, Contains-append_cases}
use Rattle.qm_lists.proofs.Elements.{Contains-first, Contains-later, Contains-cons_cases, Contains-map, Contains-map_from}
use Rattle.qm_lists.proofs.EachPair.{EachPair, pairs_append}
use Rattle.qm_partition.specs.Partition.{Partition, leaf, node}
use Rattle.qm_partition.specs.Numbering.{nodes_after, leaves_after}
use Rattle.qm_partition.specs.Ways.{Way}
use Rattle.qm_partition.proofs.Counts.{nodes_after-count, leaves_after-count}
use Rattle.qm_contacts.specs.Meeting.{LeafBelow, leaves_below, Meeting, meeting_at, meetings_at, then_step, meetings_below}
use Rattle.qm_contacts.proofs.LeavesBelow.{leaves_between, leaves_ascend}

-- a meeting comes before another: by its node, its leaf in front, its leaf behind; and its two leaves are not both the
-- other's
pub record IsBefore (m l : Meeting) : Type 0 where
  pub order : (m.node < l.node) ⊎ ((m.node ≡ l.node) × ((m.front.leaf < l.front.leaf) ⊎ ((m.front.leaf ≡ l.front.leaf) × (m.back.leaf < l.back.leaf))))
  pub apart : m.front.leaf ≡ l.front.leaf → m.back.leaf ≡ l.back.leaf → ⊥

-- the numbers of a meeting lie between the counters, and the leaf in front has the lesser one
pub record IsBetween (n nodes_end k leaves_end : ℕ) (m : Meeting) : Type 0 where
  pub node_low : n ≤ m.node
  pub node_high : m.node < nodes_end
  pub leaf_low : k ≤ m.front.leaf
  pub leaf_order : m.front.leaf < m.back.leaf
  pub leaf_high : m.back.leaf < leaves_end

-- ---- the meetings at one node

module _ (n plane : ℕ) (above : Way) where
  pub at_node : (P : Meeting → Type 0) (Q R : LeafBelow → Type 0) (fronts backs : List LeafBelow) → ((front back : LeafBelow) → Q front → R back → P (meeting_at n plane above front back)) → All Q fronts → All R backs → All P (meetings_at n plane above fronts backs)
  at_node P Q R [] backs gives of_front of_back = All-nil P
  at_node P Q R (front ∷ fronts) backs gives of_front of_back =
      subst (All P) (sym (flat_map-cons (λ f. map (meeting_at n plane above f) backs) front fronts))
      (All-append P (map (meeting_at n plane above front) backs) (meetings_at n plane above fronts backs)
      (All-map P (meeting_at n plane above front) backs (All-weaker R (λ back. P (meeting_at n plane above front back)) (λ back. gives front back (All-head Q front fronts of_front)) backs of_back))
      (at_node P Q R fronts backs gives (All-tail Q front fronts of_front) of_back))

  row_ascends : (front : LeafBelow) (backs : List LeafBelow) → EachPair (λ b c. b.leaf < c.leaf) backs → EachPair IsBefore (map (meeting_at n plane above front) backs)
  row_ascends front [] each = tt
  row_ascends front (back ∷ backs) each = (
    All-map (IsBefore (meeting_at n plane above front back)) (meeting_at n plane above front) backs
        (All-weaker (λ c. back.leaf < c.leaf) (λ c. IsBefore (meeting_at n plane above front back) (meeting_at n plane above front c)) (λ c less. record { order = inr (refl, inr (refl, less)); apart = λ same_front same_back. absurd (omega (arith, less, same_back)) }) backs each.0),
    row_ascends front backs each.1,
  )

  node_ascends : (fronts backs : List LeafBelow) → EachPair (λ b c. b.leaf < c.leaf) fronts → EachPair (λ b c. b.leaf < c.leaf) backs → EachPair IsBefore (meetings_at n plane above fronts backs)
  node_ascends [] backs fronts_ascend backs_ascend = tt
  node_ascends (front ∷ fronts) backs fronts_ascend backs_ascend =
      subst (EachPair IsBefore) (sym (flat_map-cons (λ f. map (meeting_at n plane above f) backs) front fronts))
      (pairs_append IsBefore (map (meeting_at n plane above front) backs) (meetings_at n plane above fronts backs) (row_ascends front backs backs_ascend) (node_ascends fronts backs fronts_ascend.1 backs_ascend)
      (All-map (λ m. All (IsBefore m) (meetings_at n plane above fronts backs)) (meeting_at n plane above front) backs (λ place d there. later (get_or backs place d))))
    where
      later : (back : LeafBelow) → All (IsBefore (meeting_at n plane above front back)) (meetings_at n plane above fronts backs)
      later back = at_node (IsBefore (meeting_at n plane above front back)) (λ f. front.leaf < f.leaf) (λ b. Unit {0}) fronts backs
          (λ f b less any. record { order = inr (refl, inl less); apart = λ same_front same_back. absurd (omega (arith, less, same_front)) }) fronts_ascend.0 (λ place d there. tt)

-- ---- the meetings below

pub meetings_between : (shape : Partition) (n k : ℕ) (above : Way) → All (IsBetween n (nodes_after shape n) k (leaves_after shape k)) (meetings_below shape n k above)
meetings_between (leaf found) n k above = All-nil (IsBetween n n k (k + 1))
meetings_between (node plane front back) n k above =
    let n_back = nodes_after front (n + 1) in
    let k_back = leaves_after front k in
    let Between = IsBetween n (nodes_after back n_back) k (leaves_after back k_back) in
    let c = nodes_after-count front (n + 1) in
    let d = nodes_after-count back n_back in
    let e = leaves_after-count front k in
    let f = leaves_after-count back k_back in
    All-append Between (meetings_at n plane above (leaves_below front k) (leaves_below back k_back)) (meetings_below front (n + 1) k (then_step above plane true) ++ meetings_below back n_back k_back (then_step above plane false))
    (at_node n plane above Between (λ b. (k ≤ b.leaf) × (b.leaf < k_back)) (λ b. (k_back ≤ b.leaf) × (b.leaf < leaves_after back k_back)) (leaves_below front k) (leaves_below back k_back)
    (λ x y of_x of_y. record { node_low = omega arith; node_high = omega (arith, c, d); leaf_low = of_x.0; leaf_order = omega (arith, of_x.1, of_y.0); leaf_high = of_y.1 })
    (leaves_between front k) (leaves_between back k_back))
    (All-append Between (meetings_below front (n + 1) k (then_step above plane true)) (meetings_below back n_back k_back (then_step above plane false))
    (All-weaker (IsBetween (n + 1) n_back k k_back) Between
    (λ m is. record { node_low = omega (arith, is.node_low); node_high = omega (arith, is.node_high, d); leaf_low = is.leaf_low; leaf_order = is.leaf_order; leaf_high = omega (arith, is.leaf_high, f) })
    (meetings_below front (n + 1) k (then_step above plane true)) (meetings_between front (n + 1) k (then_step above plane true)))
    (All-weaker (IsBetween n_back (nodes_after back n_back) k_back (leaves_after back k_back)) Between
    (λ m is. record { node_low = omega (arith, is.node_low, c); node_high = is.node_high; leaf_low = omega (arith, is.leaf_low, e); leaf_order = is.leaf_order; leaf_high = is.leaf_high })
    (meetings_below back n_back k_back (then_step above plane false)) (meetings_between back n_back k_back (then_step above plane false))))

module _ (plane n k : ℕ) (above : Way) (front back : Partition) where
  abbrev n_back : ℕ
  n_back = nodes_after front (n + 1)

  abbrev k_back : ℕ
  k_back = leaves_after front k

  abbrev here : List Meeting
  here = meetings_at n plane above (leaves_below front k) (leaves_below back k_back)

  abbrev in_front : List Meeting
  in_front = meetings_below front (n + 1) k (then_step above plane true)

  abbrev behind : List Meeting
  behind = meetings_below back n_back k_back (then_step above plane false)

  -- a meeting here comes before those further down
  here_first : All (λ m. All (IsBefore m) (in_front ++ behind)) here
  here_first = at_node n plane above (λ m. All (IsBefore m) (in_front ++ behind)) (λ b. b.leaf < k_back) (λ b. k_back ≤ b.leaf) (leaves_below front k) (leaves_below back k_back) first
      (All-weaker (λ b. (k ≤ b.leaf) × (b.leaf < k_back)) (λ b. b.leaf < k_back) (λ b both. both.1) (leaves_below front k) (leaves_between front k))
      (All-weaker (λ b. (k_back ≤ b.leaf) × (b.leaf < leaves_after back k_back)) (λ b. k_back ≤ b.leaf) (λ b both. both.0) (leaves_below back k_back) (leaves_between back k_back))
    where
      first : (f b : LeafBelow) → f.leaf < k_back → k_back ≤ b.leaf → All (IsBefore (meeting_at n plane above f b)) (in_front ++ behind)
      first f b low high =
          let c = nodes_after-count front (n + 1) in
          All-append (IsBefore (meeting_at n plane above f b)) in_front behind
          (All-weaker (IsBetween (n + 1) n_back k k_back) (IsBefore (meeting_at n plane above f b))
          (λ m is. record { order = inl (omega (arith, is.node_low)); apart = λ same_front same_back. absurd (omega (arith, same_back, is.leaf_high, high)) }) in_front (meetings_between front (n + 1) k (then_step above plane true)))
          (All-weaker (IsBetween n_back (nodes_after back n_back) k_back (leaves_after back k_back)) (IsBefore (meeting_at n plane above f b))
          (λ m is. record { order = inl (omega (arith, is.node_low, c)); apart = λ same_front same_back. absurd (omega (arith, same_front, is.leaf_low, low)) }) behind (meetings_between back n_back k_back (then_step above plane false)))

  -- one in front comes before those behind
  front_first : All (λ m. All (IsBefore m) behind) in_front
  front_first = All-weaker (IsBetween (n + 1) n_back k k_back) (λ m. All (IsBefore m) behind)
      (λ m is. All-weaker (IsBetween n_back (nodes_after back n_back) k_back (leaves_after back k_back)) (IsBefore m)
      (λ l it. record { order = inl (omega (arith, is.node_high, it.node_low)); apart = λ same_front same_back. absurd (omega (arith, same_front, is.leaf_order, is.leaf_high, it.leaf_low)) })
      behind (meetings_between back n_back k_back (then_step above plane false))) in_front (meetings_between front (n + 1) k (then_step above plane true))

pub meetings_ascend : (shape : Partition) (n k : ℕ) (above : Way) → EachPair IsBefore (meetings_below shape n k above)
meetings_ascend (leaf found) n k above = tt
meetings_ascend (node plane front back) n k above =
    let n_back = nodes_after front (n + 1) in
    let k_back = leaves_after front k in
    let in_front = meetings_below front (n + 1) k (then_step above plane true) in
    let behind = meetings_below back n_back k_back (then_step above plane false) in
    pairs_append IsBefore (meetings_at n plane above (leaves_below front k) (leaves_below back k_back)) (in_front ++ behind)
    (node_ascends n plane above (leaves_below front k) (leaves_below back k_back) (leaves_ascend front k) (leaves_ascend back k_back))
    (pairs_append IsBefore in_front behind (meetings_ascend front (n + 1) k (then_step above plane true)) (meetings_ascend back n_back k_back (then_step above plane false)) (front_first plane n k above front back))
    (here_first plane n k above front back)

-- ---- each two leaves meet

pub listed_at_node : (n plane : ℕ) (above : Way) (fronts backs : List LeafBelow) (front back : LeafBelow) → Contains fronts front → Contains backs back → Contains (meetings_at n plane above fronts backs) (meeting_at n plane above front back)
listed_at_node n plane above [] backs front back in_fronts in_backs = absurd (let within = in_fronts.1 in omega arith)
listed_at_node n plane above (first ∷ fronts) backs front back in_fronts in_backs =
    subst (λ (all : List Meeting). Contains all (meeting_at n plane above front back)) (sym (flat_map-cons (λ f. map (meeting_at n plane above f) backs) first fronts))
    (⊎_elim
    (λ is. Contains-append_left (map (meeting_at n plane above first) backs) (meetings_at n plane above fronts backs) (meeting_at n plane above front back)
    (subst (λ (f : LeafBelow). Contains (map (meeting_at n plane above first) backs) (meeting_at n plane above f back)) is (Contains-map (meeting_at n plane above first) backs back in_backs)))
    (λ later. Contains-append_right (map (meeting_at n plane above first) backs) (meetings_at n plane above fronts backs) (meeting_at n plane above front back) (listed_at_node n plane above fronts backs front back later in_backs))
    (Contains-cons_cases first front fronts in_fronts))

pub from_node_list : (n plane : ℕ) (above : Way) (fronts backs : List LeafBelow) (m : Meeting) → Contains (meetings_at n plane above fronts backs) m → (front : LeafBelow) × (back : LeafBelow) × Contains fronts front × Contains backs back × (meeting_at n plane above front back ≡ m)
from_node_list n plane above [] backs m listed = absurd (let within = listed.1 in omega arith)
from_node_list n plane above (first ∷ fronts) backs m listed = ⊎_elim
    (λ here. let found = Contains-map_from (meeting_at n plane above first) backs m here in (first, found.0, Contains-first first fronts, found.1, found.2))
    (λ later. let found = from_node_list n plane above fronts backs m later in (found.0, found.1, Contains-later first found.0 fronts found.2, found.3, found.4))
    (Contains-append_cases (map (meeting_at n plane above first) backs) (meetings_at n plane above fronts backs) m
    (subst (λ (all : List Meeting). Contains all m) (flat_map-cons (λ f. map (meeting_at n plane above f) backs) first fronts) listed))

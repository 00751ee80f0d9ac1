-- Between two points that no node plane has both, some point is on no node plane.
use Rattle.std.proofs.Common.{◌≡◌, ℕ, pos, List, [], ◌∷◌, Contains, arith, ⊎_elim, subst, sym}
use Rattle.std.proofs.lemmas.List.Elements.{All-contains}
use Rattle.qm_lists.proofs.Elements.{Contains-first, Contains-later, Contains-cons_cases}
use Rattle.qm_lists.proofs.Pairs.{All-from_contains}
use Rattle.qm_space.specs.Point.{Point, point_sum}
use Rattle.qm_space.specs.Plane.{Plane, value, IsOn, IsInFront, IsBehind, flipped}
use Rattle.qm_space.specs.Line.{IsBetween}
use Rattle.qm_space.specs.Book.{plane_at}
use Rattle.qm_numbers.proofs.IntegerProducts.{linear}
use Rattle.qm_numbers.proofs.Signs.{by_sign}
use Rattle.qm_space.proofs.Planes.{value_flipped}
use Rattle.qm_space.proofs.Crossings.{through, crossing_on}
use Rattle.qm_partition.specs.Tree.{Tree}
use Rattle.qm_partition.specs.Counting.{node_planes}
use Rattle.qm_partition.specs.LeafOfPoint.{node_value, IsOffNodePlanes}
use Rattle.qm_partition.proofs.NodePlanes.{IsOff, off_node_planes}
use Rattle.qm_segments.proofs.Betweenness.{sum_between, nearer_between, between_in_front, between_in_front_first}
use Rattle.qm_segments.proofs.LeavesPassed.{crossing_between, NoneHasBoth, none_up_to}

-- ---- off one plane

-- between p and r no point is on the plane; r is q, or between p and q
record IsClearOf (h : Plane) (p q r : Point) : Type 0 where
  near : (x : Point) → IsBetween x p r → IsBetween x p q
  off : (x : Point) → IsBetween x p r → IsOn h x → ⊥

-- where it is not on both, no point up to some place is on it
module _ (h : Plane) (p q : Point) (not_both : IsOn h p → IsOn h q → ⊥) {P : Type 0} (here : IsClearOf h p q q → P) (before : (m : Point) → IsBetween m p q → IsClearOf h p q m → P) where
  in_front : ((x : Point) → IsBetween x p q → IsInFront h x) → P
  in_front front = here (record { near = λ x b. b; off = λ x b on. let f = front x b in absurd (omega (arith, linear)) })

  behind : ((x : Point) → IsBetween x p q → IsInFront (flipped h) x) → P
  behind front = here (record { near = λ x b. b; off = λ x b on. let f = front x b in let e = value_flipped h x in absurd (omega (arith, linear)) })

  parted : (g : Plane) → ((x : Point) → IsOn h x → value g x ≡ pos 0) → IsInFront g p → IsBehind g q → P
  parted g same front back =
      let m = through g p q in
      let at = crossing_between g p q front back in
      let on = crossing_on g p q front (omega (arith, linear, back)) in
      before m at (record {
        near = λ x b. nearer_between p q m x at b;
        off = λ x b on_h. let f = between_in_front_first g x p m b front (omega (arith, linear, on)) in let z = same x on_h in absurd (omega (arith, linear));
      })

  by_plane : P
  by_plane =
      let e = value_flipped h p in
      let f = value_flipped h q in
      by_sign (value h p)
      (λ p_behind. by_sign (value h q)
      (λ q_behind. behind (λ x b. between_in_front (flipped h) x p q b (omega (arith, linear)) (omega (arith, linear))))
      (λ q_on. behind (λ x b. between_in_front_first (flipped h) x p q b (omega (arith, linear)) (omega (arith, linear))))
      (λ q_front. parted (flipped h) (λ x on. let v = value_flipped h x in omega (arith, linear)) (omega (arith, linear)) (omega (arith, linear))))
      (λ p_on. by_sign (value h q)
      (λ q_behind. behind (λ x b. between_in_front (flipped h) x p q b (omega (arith, linear)) (omega (arith, linear))))
      (λ q_on. absurd (not_both p_on q_on))
      (λ q_front. in_front (λ x b. between_in_front h x p q b (omega (arith, linear)) q_front)))
      (λ p_front. by_sign (value h q)
      (λ q_behind. parted h (λ x on. on) p_front q_behind)
      (λ q_on. in_front (λ x b. between_in_front_first h x p q b p_front (omega (arith, linear))))
      (λ q_front. in_front (λ x b. between_in_front h x p q b (omega (arith, linear)) q_front)))

-- ---- off all of them

record IsOffPlace (tree : Tree) (numbers : List ℕ) (p q : Point) : Type 0 where
  point : Point
  between : IsBetween point p q
  off : (n : ℕ) → Contains numbers n → IsOn (plane_at tree.planes n) point → ⊥

off_one_more : (tree : Tree) (n : ℕ) (numbers : List ℕ) (p q r : Point) → IsClearOf (plane_at tree.planes n) p q r → IsOffPlace tree numbers p r → IsOffPlace tree (n ∷ numbers) p q
off_one_more tree n numbers p q r clear found = record {
  point = found.point;
  between = clear.near found.point found.between;
  off = λ m there on. ⊎_elim
      (λ same. clear.off found.point found.between (subst (λ (k : ℕ). IsOn (plane_at tree.planes k) found.point) (sym same) on))
      (λ later. found.off m later on)
      (Contains-cons_cases n m numbers there);
}

off_place : (tree : Tree) (numbers : List ℕ) (p q : Point) → NoneHasBoth tree numbers p q → IsOffPlace tree numbers p q
off_place tree [] p q none = record { point = point_sum p q; between = sum_between p q; off = λ n there on. let within = there.1 in omega arith }
off_place tree (n ∷ numbers) p q none =
    by_plane (plane_at tree.planes n) p q (none n (Contains-first n numbers))
    (λ clear. off_one_more tree n numbers p q q clear (off_place tree numbers p q rest))
    (λ m at clear. off_one_more tree n numbers p q m clear (off_place tree numbers p m (none_up_to tree numbers p m q at rest)))
  where
    rest : NoneHasBoth tree numbers p q
    rest m there = none m (Contains-later n m numbers there)

pub off_between : (tree : Tree) (p q : Point) → NoneHasBoth tree (node_planes tree.shape) p q → (x : Point) × IsBetween x p q × IsOffNodePlanes tree.planes tree.shape x
unfolding node_value
off_between tree p q none =
    let found = off_place tree (node_planes tree.shape) p q none in
    (found.point, found.between, (off_node_planes tree.planes found.point tree.shape).1 (All-from_contains (IsOff tree.planes found.point) (node_planes tree.shape) (λ n there. found.off n there)))

-- a point that is on no node plane is not on one that is on both
pub none_from_off : (tree : Tree) (p q : Point) → IsOffNodePlanes tree.planes tree.shape p → NoneHasBoth tree (node_planes tree.shape) p q
unfolding node_value
none_from_off tree p q off n there on_p on_q = All-contains (IsOff tree.planes p) (node_planes tree.shape) n ((off_node_planes tree.planes p tree.shape).0 off) there on_p

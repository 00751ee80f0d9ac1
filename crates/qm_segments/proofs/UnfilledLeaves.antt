-- A leaf cannot change its filling along a clear segment: where the first leaf is not marked, none that it passes is.
use Rattle.std.proofs.Common.{◌≢◌, ℕ, not, List, [], ◌∷◌, Contains, sym, ap, ◌∙◌, subst, arith, inl, inr, ⊎_elim}
use Rattle.std.proofs.lemmas.Bool.{cases_lt}
use Rattle.qm_lists.proofs.Elements.{Contains-first, Contains-later, Contains-cons_cases}
use Rattle.qm_space.specs.Point.{Point, IsInCube}
use Rattle.qm_space.specs.Line.{IsBetween}
use Rattle.qm_contents.specs.declared.contents.Contents.{Contents}
use Rattle.qm_contents.specs.declared.contents.Contents.TheVariants.{Solid}
use Rattle.qm_partition.specs.Tree.{Tree}
use Rattle.qm_partition.specs.Counting.{node_planes}
use Rattle.qm_partition.specs.LeafOfPoint.{leaf_at, IsOffNodePlanes}
use Rattle.qm_partition.specs.Ways.{HasPoints}
use Rattle.qm_contacts.specs.Contact.{Touch}
use Rattle.qm_contacts.specs.NumberedLeaves.{is_solid}
use Rattle.qm_contacts.specs.PortalChain.{IsPortalBetween}
use Rattle.qm_contacts.proofs.FilledLeaves.{portal_back}
use Rattle.qm_segments.specs.Segment.{Segment, IsOnSegment}
use Rattle.qm_segments.specs.Generic.{IsGeneric}
use Rattle.qm_segments.specs.Clear.{IsClear, LeafHas}
use Rattle.qm_segments.specs.Passes.{IsWithinLeaf, Passes, within, onward}
use Rattle.qm_segments.proofs.Betweenness.{nearer_between, farther_between}
use Rattle.qm_segments.proofs.LeavesPassed.{NoneHasBoth, none_from, none_up_to, passes_leaves}
use Rattle.qm_segments.proofs.EndLeaves.{not_behind_at_start, not_behind_at_end, first_leaf, last_leaf_listed, begins}
use Rattle.qm_segments.proofs.GenericSegments.{on_generic_in_cube, generic_none, passed_contents}
use Rattle.qm_segments.proofs.PortalsListed.{numbered_from_contents}
use Rattle.qm_segments.proofs.CrossedPortals.{IsBesideLeaf, IsOnOnePlane, crossing_contact}

-- ---- leaves that follow each other touch

module _ (tree : Tree) (have : HasPoints tree) where
  crossed_touch : (k n : ℕ) (x : Point) → k ≢ n → IsBesideLeaf tree k x → IsBesideLeaf tree n x → IsInCube x → IsOnOnePlane tree x → Touch tree k n
  crossed_touch k n x apart beside_k beside_n in_cube one = ⊎_elim
      (λ less. let c = crossing_contact tree have k n x less beside_k beside_n in_cube one in inl (record { meeting = c.meeting; listed = c.listed; front = c.front; back = c.back; point = x; contact = c.contact }))
      (λ not_less. let c = crossing_contact tree have n k x (omega (arith, not_less, apart)) beside_n beside_k in_cube one in inr (record { meeting = c.meeting; listed = c.listed; front = c.front; back = c.back; point = x; contact = c.contact }))
      (cases_lt k n)

  module _ (s : Segment) (generic : IsGeneric tree s) (contents : Contents) (not_solid : contents ≢ Solid) (clear : IsClear (LeafHas tree) tree s contents) where
    -- a part of the segment, up to some point of it
    abbrev IsPart : Point → Point → Type 0
    IsPart x q = NoneHasBoth tree (node_planes tree.shape) x q × ((y : Point) → IsBetween y x q → IsBetween y s.from s.to)

    portal_between : (x m q : Point) (k n : ℕ) (rest : List ℕ) → IsPart x q → IsBetween m x q → IsWithinLeaf tree x m k → k ≢ n → Passes tree m q (n ∷ rest) → IsPortalBetween tree k n
    portal_between x m q k n rest part at inside apart more =
        let first = begins tree m q n rest more in
        let has = λ (j : ℕ) (there : Contains (k ∷ n ∷ rest) j). passed_contents tree x q contents k (n ∷ rest) j part.0 (λ y b off. clear y (inr (inr (part.1 y b))) off) (onward at inside apart more) there in
        let has_k = has k (Contains-first k (n ∷ rest)) in
        let has_n = has n (Contains-later k n (n ∷ rest) (Contains-first n rest)) in
        record {
          touch = crossed_touch k n m apart
              (record { way = inside.way; way_is = inside.way_is; not_behind = not_behind_at_end tree x m k inside })
              (record { way = first.inside.way; way_is = first.inside.way_is; not_behind = not_behind_at_start tree m first.to n first.inside })
              (on_generic_in_cube tree s m generic (part.1 m at))
              (λ g h. generic.one_plane m g h (inr (inr (part.1 m at))));
          from = has_k.0;
          to = has_n.0;
          from_is = has_k.1;
          to_is = has_n.1;
          numbered = ap (λ (c : Contents). not (is_solid c)) has_k.2 ∙ numbered_from_contents contents not_solid;
          contents = has_k.2 ∙ sym has_n.2;
        }

    -- what portals keep is kept along the segment
    module _ (Marked : ℕ → Type 0) (closed : (a b : ℕ) → IsPortalBetween tree a b → Marked a → Marked b) where
      none_marked : (x q : Point) (k : ℕ) (rest : List ℕ) → IsPart x q → Passes tree x q (k ∷ rest) → (Marked k → ⊥) → (j : ℕ) → Contains (k ∷ rest) j → Marked j → ⊥
      none_marked x q k rest part (within inside) first j there mark = ⊎_elim (λ same. first (subst Marked (sym same) mark)) (λ more. let range = more.1 in omega arith) (Contains-cons_cases k j [] there)
      none_marked x q k rest part (onward {m = m} {n = n} {rest = others} at inside apart more) first j there mark = ⊎_elim
          (λ same. first (subst Marked (sym same) mark))
          (λ later. none_marked m q n others (none_from tree (node_planes tree.shape) x m q at part.0, λ y b. part.1 y (farther_between x q m y at b)) more
          (λ its. first (closed n k (portal_back tree k n (portal_between x m q k n others part at inside apart more)) its))
          j later mark)
          (Contains-cons_cases k j (n ∷ others) there)

      none_marked_up_to : (q : Point) → IsPart s.from q → IsOffNodePlanes tree.planes tree.shape q → (Marked (leaf_at tree.planes tree.shape s.from) → ⊥) → Marked (leaf_at tree.planes tree.shape q) → ⊥
      none_marked_up_to q part off first mark =
          let passed = passes_leaves tree s.from q part.0 in
          let is_first = first_leaf tree s.from q passed.0 passed.1 generic.from_off passed.2 in
          none_marked s.from q passed.0 passed.1 part passed.2 (λ its. first (subst Marked (sym is_first) its)) (leaf_at tree.planes tree.shape q) (last_leaf_listed tree s.from q passed.0 passed.1 off passed.2) mark

      -- the leaf of each point of the segment is not marked where the first one is not
      pub none_marked_on : (x : Point) → IsOnSegment s x → IsOffNodePlanes tree.planes tree.shape x → (Marked (leaf_at tree.planes tree.shape s.from) → ⊥) → Marked (leaf_at tree.planes tree.shape x) → ⊥
      none_marked_on x on off first mark = ⊎_elim
          (λ same. first (subst (λ (y : Point). Marked (leaf_at tree.planes tree.shape y)) same mark))
          (λ more. ⊎_elim
          (λ same. none_marked_up_to s.to (generic_none tree s generic, λ y b. b) generic.to_off first (subst (λ (y : Point). Marked (leaf_at tree.planes tree.shape y)) same mark))
          (λ b. none_marked_up_to x (none_up_to tree (node_planes tree.shape) s.from x s.to b (generic_none tree s generic), λ y c. nearer_between s.from s.to x y b c) off first mark)
          more)
          on

-- Where a segment enters the next leaf it goes through a portal, of which its last leaf is in sight.
use Rattle.std.proofs.Common.{◌≢◌, ℕ, List, ◌∷◌, Contains, inr}
use Rattle.qm_lists.proofs.Elements.{Contains-first, Contains-later}
use Rattle.qm_space.specs.Point.{Point, point_sum}
use Rattle.qm_space.specs.Line.{IsBetween}
use Rattle.qm_contents.specs.declared.contents.Contents.{Contents}
use Rattle.qm_contents.specs.declared.contents.Contents.TheVariants.{Solid}
use Rattle.qm_partition.specs.Tree.{Tree}
use Rattle.qm_partition.specs.Counting.{node_planes}
use Rattle.qm_partition.specs.LeafOfPoint.{leaf_at}
use Rattle.qm_partition.specs.Ways.{HasPoints}
use Rattle.qm_contacts.specs.Meeting.{meetings}
use Rattle.qm_contacts.specs.Touching.{Touching, AreTouchings}
use Rattle.qm_contacts.specs.Portals.{Portal}
use Rattle.qm_segments.specs.LeafNumber.{IsNumberOf}
use Rattle.qm_segments.specs.Segment.{Segment}
use Rattle.qm_segments.specs.Generic.{IsGeneric}
use Rattle.qm_segments.specs.Clear.{IsClear, LeafHas}
use Rattle.qm_segments.specs.Passes.{IsWithinLeaf, Passes, onward}
use Rattle.qm_segments.specs.GoesThrough.{GoesThrough}
use Rattle.qm_segments.specs.Sight.{IsInSight}
use Rattle.qm_segments.proofs.Betweenness.{sum_between, nearer_between, later_between, farther_between, behind_before, front_after}
use Rattle.qm_segments.proofs.LeavesPassed.{NoneHasBoth, none_up_to}
use Rattle.qm_segments.proofs.OffPlaces.{off_between}
use Rattle.qm_segments.proofs.EndLeaves.{not_behind_at_start, not_behind_at_end, begins}
use Rattle.qm_segments.proofs.GenericSegments.{later_part, on_generic_in_cube, later_generic, later_clear, passed_contents}
use Rattle.qm_segments.proofs.CrossedPortals.{IsPortalAt, crossed_portal}

-- from x on the segment is within the leaf k up to m, and from there on it passes the leaf n and others
pub record EntersNext (tree : Tree) (s : Segment) (x m : Point) (k n : ℕ) (rest : List ℕ) : Type 0 where
  pub at : IsBetween m x s.to
  pub inside : IsWithinLeaf tree x m k
  pub apart : k ≢ n
  pub more : Passes tree m s.to (n ∷ rest)
  pub none : NoneHasBoth tree (node_planes tree.shape) x s.to
  pub near : (y : Point) → IsBetween y x s.to → IsBetween y s.from s.to

-- two leaves and more, taken apart
pub enters_next : (tree : Tree) (s : Segment) (x : Point) (k n : ℕ) (rest : List ℕ) → NoneHasBoth tree (node_planes tree.shape) x s.to → ((y : Point) → IsBetween y x s.to → IsBetween y s.from s.to) → Passes tree x s.to (k ∷ n ∷ rest) → (m : Point) × EntersNext tree s x m k n rest
enters_next tree s x k n rest none near (onward {m = m} at inside apart more) = (m, record { at = at; inside = inside; apart = apart; more = more; none = none; near = near })

module _ (tree : Tree) (have : HasPoints tree) (touchings : List Touching) (are : AreTouchings tree.planes (meetings tree) touchings) (s : Segment) (generic : IsGeneric tree s) (contents : Contents) (not_solid : contents ≢ Solid) (clear : IsClear (LeafHas tree) tree s contents) (x m : Point) (k n : ℕ) (rest : List ℕ) (enters : EntersNext tree s x m k n rest) where
  -- there is a portal there
  pub portal_entered : IsPortalAt tree have touchings are contents not_solid k n m
  portal_entered =
      let first = begins tree m s.to n rest enters.more in
      let passes = onward enters.at enters.inside enters.apart enters.more in
      let has = λ (j : ℕ) (there : Contains (k ∷ n ∷ rest) j). passed_contents tree x s.to contents k (n ∷ rest) j enters.none (λ y b off. clear y (inr (inr (enters.near y b))) off) passes there in
      let has_k = has k (Contains-first k (n ∷ rest)) in
      let has_n = has n (Contains-later k n (n ∷ rest) (Contains-first n rest)) in
      crossed_portal tree have touchings are contents not_solid k n m enters.apart
      (record { way = enters.inside.way; way_is = enters.inside.way_is; not_behind = not_behind_at_end tree x m k enters.inside })
      (record { way = first.inside.way; way_is = first.inside.way_is; not_behind = not_behind_at_start tree m first.to n first.inside })
      (on_generic_in_cube tree s m generic (enters.near m enters.at))
      (λ g h. generic.one_plane m g h (inr (inr (enters.near m enters.at))))
      (record { found = has_k.0; leaf_is = has_k.1; contents_are = has_k.2 })
      (record { found = has_n.0; leaf_is = has_n.1; contents_are = has_n.2 })

  -- through which the segment goes
  pub goes_through_entered : (p : IsPortalAt tree have touchings are contents not_solid k n m) → GoesThrough s p.portal m
  goes_through_entered p =
      let first = begins tree m s.to n rest enters.more in
      let y = point_sum m first.to in
      let on_way = sum_between m first.to in
      let front = p.in_front first.inside.way y first.inside.way_is (first.inside.inside y on_way) in
      let front_end = front_after p.portal.into y m s.to (first.between y on_way) p.on front in
      let between = enters.near m enters.at in
      record { between = between; inside = p.inside; behind = behind_before p.portal.into m s.from s.to between p.on front_end; in_front = front_end }

-- from a place in the leaf before it on, the segment shows its last leaf from a portal between the two leaves
module _ (tree : Tree) (s : Segment) (generic : IsGeneric tree s) (contents : Contents) (not_solid : contents ≢ Solid) (clear : IsClear (LeafHas tree) tree s contents) (x m : Point) (k n : ℕ) (rest : List ℕ) (enters : EntersNext tree s x m k n rest) where
  pub next_in_sight : (p : Portal) (to : ℕ) → IsNumberOf tree p.from k → IsNumberOf tree p.to n → IsNumberOf tree to (leaf_at tree.planes tree.shape s.to) → IsInSight tree p to
  next_in_sight p to from_is to_is last_is =
      let start = off_between tree x m (none_up_to tree (node_planes tree.shape) x m s.to enters.at enters.none) in
      let b = enters.near start.0 (nearer_between x s.to m start.0 enters.at start.1) in
      record {
        segment = later_part s start.0;
        generic = later_generic tree s start.0 generic b start.2;
        contents = contents;
        not_solid = not_solid;
        clear = later_clear tree (LeafHas tree) s start.0 contents b clear;
        left = k;
        entered = n;
        rest = rest;
        passes = onward (later_between x s.to m start.0 enters.at start.1) (record { way = enters.inside.way; way_is = enters.inside.way_is; inside = λ y c. enters.inside.inside y (farther_between x m start.0 y start.1 c) }) enters.apart enters.more;
        from_is = from_is;
        to_is = to_is;
        last_is = last_is;
      }

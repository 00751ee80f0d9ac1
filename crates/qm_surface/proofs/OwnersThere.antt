-- Each boundary point has an owner. Near it, in the rock, the contents are solid, so that a full solid brush holds points there.
-- If none of its faces lay on the plane with the rock inside, it would also hold points near it in the leaf across, which is not
-- solid.
use Rattle.std.proofs.Common.{◌≡◌, ◌<◌, ◌==◌, ℕ, ◌+◌, pos, Bool, true, false, not, ◌&&◌, if◌then◌else◌, List, [], ◌∷◌, All, Contains, length, get_or, slice_get, Option, Some, None, refl, sym, ap, ◌∙◌, subst, arith, ◌⊎◌, inl, inr, ⊎_elim}
use Rattle.std.specs.Prelude.{IsTrue}
use Rattle.std.specs.Bool.{MatchBool}
use Rattle.std.specs.List.{position_from}
use Rattle.std.proofs.lemmas.Int.{ints}
use Rattle.std.proofs.lemmas.Bool.Decides.{eqb_tells}
use Rattle.std.proofs.lemmas.List.Elements.{All-nil, All-cons, All-map, All-contains, Contains-get_or}
use Rattle.std.proofs.lemmas.Option.{slice_get-get_or}
use Rattle.qm_lists.proofs.Cases.{by_cases, both_yes, by_option}
use Rattle.qm_lists.proofs.Elements.{Contains-map_from, All-from_map, Contains-at}
use Rattle.qm_numbers.proofs.Signs.{by_sign}
use Rattle.qm_contents.specs.declared.contents.Contents.{Contents}
use Rattle.qm_contents.specs.declared.contents.Contents.TheVariants.{Solid}
use Rattle.qm_contents.specs.Precedence.{IsAtMost}
use Rattle.qm_contents.proofs.SixKinds.{each_kind}
use Rattle.qm_contents.proofs.Strengths.{only_solid}
use Rattle.qm_space.specs.Point.{Point}
use Rattle.qm_space.specs.Plane.{Plane, value, IsInFront, IsBehind, IsNotInFront, plane_of}
use Rattle.qm_space.proofs.Planes.{flipped_behind}
use Rattle.qm_space.specs.Turned.{turned}
use Rattle.qm_space.specs.Book.{plane_at}
use Rattle.qm_space.proofs.TurnedPlanes.{turned_on}
use Rattle.qm_partition.specs.declared.node.Leaf.{Leaf}
use Rattle.qm_partition.specs.Tree.{Tree}
use Rattle.qm_partition.specs.Counting.{leaves_of}
use Rattle.qm_partition.specs.LeafOfPoint.{leaf_record_at, leaf_at}
use Rattle.qm_partition.specs.WellMade.{IsSolidIfFilled}
use Rattle.qm_partition.proofs.LeafNumbers.{leaf_of_number}
use Rattle.qm_contacts.specs.NumberedLeaves.{is_solid, is_numbered}
use Rattle.qm_contacts.specs.Meeting.{Meeting}
use Rattle.qm_contacts.specs.Portals.{leaf_record}
use Rattle.qm_solids.specs.declared.face.FaceRef.{FaceRef}
use Rattle.qm_solids.specs.Solid.{Solid as SolidPart}
use Rattle.qm_solids.specs.Outward.{outward_of}
use Rattle.qm_solids.specs.Holding.{Holds}
use Rattle.qm_solids.specs.Strongest.{AreGiven}
use Rattle.qm_solids.specs.Contents.{HasContents}
use Rattle.qm_solids.specs.InBook.{BookSolid, solid_in, solids_in, IsKeptIn, IsBookOf}
use Rattle.qm_solid_tree.specs.GivesContents.{GivesContentsOrIsFilled}
use Rattle.qm_surface.specs.Boundary.{is_rock, is_boundary, rock_side, leaf_on, IsBoundaryPoint}
use Rattle.qm_surface.specs.Owner.{is_inner, is_towards, FaceOwner, MayOwn}
use Rattle.qm_surface.proofs.MeetingNodes.{plane_there}
use Rattle.qm_surface.proofs.NearPoints.{IsNear, near_point, near_not_in_front, near_off_nodes, near_leaf}

-- ---- tests, and what they say

solid_from : (contents : Contents) → is_solid contents ≡ true → contents ≡ Solid
solid_from = each_kind (λ c. is_solid c ≡ true → c ≡ Solid) (λ e. absurd cc) (λ e. refl) (λ e. absurd cc) (λ e. absurd cc) (λ e. absurd cc) (λ e. absurd cc)

not_true : (b : Bool) → not b ≡ true → b ≡ true → ⊥
not_true true e f = absurd cc
not_true false e f = absurd cc

by_sides : (p q side : Bool) → (if p then Some true else (if q then Some false else None)) ≡ Some side → (if side then p else q) ≡ true
by_sides true q true e = refl
by_sides true q false e = absurd cc
by_sides false true true e = absurd cc
by_sides false true false e = refl
by_sides false false side e = absurd cc

-- the leaf on the side of the rock is rock, and the one across is not solid
boundary_sides : (tree : Tree) (front back : ℕ) (side : Bool) → rock_side tree front back ≡ Some side → is_boundary (leaf_record tree (leaf_on side front back)) (leaf_record tree (leaf_on (not side) front back)) ≡ true
boundary_sides tree front back true is = by_sides (is_boundary (leaf_record tree front) (leaf_record tree back)) (is_boundary (leaf_record tree back) (leaf_record tree front)) true is
boundary_sides tree front back false is = by_sides (is_boundary (leaf_record tree front) (leaf_record tree back)) (is_boundary (leaf_record tree back) (leaf_record tree front)) false is

flag_from : {A : Type 0} (flag : Bool) → MatchBool flag A (A → ⊥) → A → flag ≡ true
flag_from true tells a = refl
flag_from false tells a = absurd (tells a)

-- no face passes where there is no first one that does
none_passes : (test : FaceRef → Bool) (k : ℕ) (faces : List FaceRef) → position_from test k faces ≡ None → All (λ face. test face ≡ false) faces
none_passes test k [] none = All-nil (λ face. test face ≡ false)
none_passes test k (face ∷ faces) none = by_cases (test face)
    (λ passes. absurd (some_is k (test face) (position_from test (k + 1) faces) passes none))
    (λ fails. All-cons (λ f. test f ≡ false) face faces fails (none_passes test (k + 1) faces (rest_is k (test face) (position_from test (k + 1) faces) fails none)))
  where
    some_is : (k : ℕ) (b : Bool) (rest : Option ℕ) → b ≡ true → (if b then Some k else rest) ≡ None → ⊥
    some_is k true rest e f = absurd cc
    some_is k false rest e f = absurd cc

    rest_is : (k : ℕ) (b : Bool) (rest : Option ℕ) → b ≡ false → (if b then Some k else rest) ≡ None → rest ≡ None
    rest_is k true rest e f = absurd cc
    rest_is k false rest e f = f

-- a face of the plane that does not have the side inside has it outside
outside_is : (face : FaceRef) (side : Bool) → is_inner face side ≡ false → face.out_is_front ≡ side
outside_is face true e = flip_true face.out_is_front e
  where
    flip_true : (b : Bool) → not b ≡ false → b ≡ true
    flip_true true e = refl
    flip_true false e = absurd cc
outside_is face false e = e

-- ---- a boundary point

module _ (tree : Tree) (solids : List BookSolid) (book : IsBookOf tree.planes solids) (gives : GivesContentsOrIsFilled tree (solids_in tree.planes solids)) (filled : All IsSolidIfFilled (leaves_of tree.shape)) (m : Meeting) (side : Bool) (x : Point) (point : IsBoundaryPoint tree m side x) where
  abbrev planes : List Plane
  planes = tree.planes

  there : m.plane < length planes
  there = plane_there tree m point.listed gives.named

  near_on : (s : Bool) → (y : Point) × IsNear planes m.plane s x y
  near_on s = near_point planes m.plane s x (gives.normals m.plane (plane_of (pos 0) (pos 0) (pos 0) (pos 0)) there) point.contact.in_cube point.contact.on

  abbrev leaf_there : Bool → Leaf
  leaf_there s = leaf_record tree (leaf_on s m.front.leaf m.back.leaf)

  leaves_are : (is_rock (leaf_there side) ≡ true) × (is_numbered (leaf_there (not side)) ≡ true)
  leaves_are = both_yes (is_rock (leaf_there side)) (is_numbered (leaf_there (not side))) (boundary_sides tree m.front.leaf m.back.leaf side point.sides)

  -- near the point, on a side, the leaf there is filled or has the contents that the brushes define
  contents_near : (s : Bool) (y : Point) → IsNear planes m.plane s x y → IsTrue (leaf_there s).filled ⊎ HasContents (solids_in planes solids) y (leaf_there s).contents
  contents_near s y near =
      subst (λ (found : Leaf). IsTrue found.filled ⊎ HasContents (solids_in planes solids) y found.contents) (sym (near_leaf tree s m x y point.listed point.contact near))
      (gives.gives y near.in_cube (near_off_nodes tree m.plane s x y gives.named point.only near))

  -- in the rock they are solid
  solid_near : (y : Point) → IsNear planes m.plane side x y → HasContents (solids_in planes solids) y Solid
  solid_near y near =
      let rock = both_yes (is_solid (leaf_there side).contents) (not (leaf_there side).filled) leaves_are.0 in
      ⊎_elim
      (λ is_filled. absurd (not_true (leaf_there side).filled rock.1 is_filled))
      (λ has. subst (λ (c : Contents). HasContents (solids_in planes solids) y c) (solid_from (leaf_there side).contents rock.0) has)
      (contents_near side y near)

  -- and no solid brush holds a point near it in the leaf across
  none_across : (solid : SolidPart) (y : Point) → Contains (solids_in planes solids) solid → solid.contents ≡ Solid → IsNear planes m.plane (not side) x y → Holds solid y → ⊥
  none_across solid y listed is_solid_part near holds = not_true (is_solid (leaf_there (not side)).contents) leaves_are.1 (ap is_solid across)
    where
      record_is : leaf_there (not side) ≡ leaf_record_at planes tree.shape y
      record_is = near_leaf tree (not side) m x y point.listed point.contact near

      across : (leaf_there (not side)).contents ≡ Solid
      across = ⊎_elim
          (λ is_filled.
          let among = Contains-at (leaves_of tree.shape) (leaf_at planes tree.shape y) (leaf_record_at planes tree.shape y) (leaf_of_number planes tree.shape y) in
          let solid_if = subst IsSolidIfFilled (sym record_is) (All-contains IsSolidIfFilled (leaves_of tree.shape) (leaf_record_at planes tree.shape y) filled among) in
          solid_if is_filled)
          (λ has.
          let most = has.strongest solid (record { listed = listed; has = holds }) in
          only_solid (leaf_there (not side)).contents (subst (λ (c : Contents). IsAtMost c (leaf_there (not side)).contents) is_solid_part most))
          (contents_near (not side) y near)

  -- a full solid brush that holds a point near it in the rock
  pub record IsRockBrush (y : Point) : Type 0 where
    pub place : ℕ
    pub solid : BookSolid
    pub listed : slice_get solids place ≡ Some solid
    pub among : Contains (solids_in planes solids) (solid_in planes solid)
    pub contents : solid.contents ≡ Solid
    pub holds : Holds (solid_in planes solid) y

  rock_brush : (y : Point) → IsNear planes m.plane side x y → IsRockBrush y
  rock_brush y near = by_given (solid_near y near).given
    where
      by_given : AreGiven (λ solid. Holds solid y) (solids_in planes solids) Solid → IsRockBrush y
      by_given (inl empty) = absurd cc
      by_given (inr (solid, one, contents)) =
          let from = Contains-map_from (solid_in planes) solids solid one.listed in
          record {
            place = from.1.0;
            solid = from.0;
            listed = slice_get-get_or solids from.1.0 from.0 from.1.1 ∙ ap Some from.1.2;
            among = subst (λ (s : SolidPart). Contains (solids_in planes solids) s) (sym from.2) one.listed;
            contents = ap (λ (s : SolidPart). s.contents) from.2 ∙ contents;
            holds = subst (λ (s : SolidPart). Holds s y) (sym from.2) one.has;
          }

  module _ (y : Point) (near : IsNear planes m.plane side x y) (brush : IsRockBrush y) where
    held : (face : FaceRef) → Contains brush.solid.faces face → IsNotInFront (outward_of planes face) y
    held face among = All-contains (λ f. IsNotInFront (outward_of planes f) y) brush.solid.faces face (All-from_map (λ h. IsNotInFront h y) (outward_of planes) brush.solid.faces brush.holds.not_in_front) among

    -- it holds the point itself
    holds_point : Holds (solid_in planes brush.solid) x
    holds_point = record {
      full = brush.holds.full;
      not_in_front = All-map (λ h. IsNotInFront h x) (outward_of planes) brush.solid.faces
          (λ place d within.
          let face = get_or brush.solid.faces place d in
          near_not_in_front planes m.plane side x y near face.out_is_front face.plane (held face (Contains-get_or brush.solid.faces place d within)));
    }

    abbrev kept : IsKeptIn planes brush.solid
    kept = All-contains (IsKeptIn planes) solids brush.solid book.each (Contains-at solids brush.place brush.solid brush.listed)

    -- without a face towards the rock none of its faces lies on the plane
    no_face_here : All (λ face. is_towards m.plane side face ≡ false) brush.solid.faces → (face : FaceRef) → Contains brush.solid.faces face → face.plane ≡ m.plane → ⊥
    no_face_here none face among same =
        let fails = All-contains (λ f. is_towards m.plane side f ≡ false) brush.solid.faces face none among in
        ⊎_elim
        (λ equal.
        let out = outside_is face side (second_fails (face.plane == m.plane) (is_inner face side) equal.0 fails) in
        let outer : IsInFront (outward_of planes face) y = subst (λ (t : Bool). IsInFront (turned t (plane_at planes face.plane)) y) (sym out) (subst (λ (k : ℕ). IsInFront (turned side (plane_at planes k)) y) (sym same) near.on_side) in
        let inner = held face among in
        absurd (omega (arith, ints, outer, inner)))
        (λ other. absurd (other.1 same))
        (eqb_tells face.plane m.plane)
      where
        second_fails : (a b : Bool) → a ≡ true → (a && b) ≡ false → b ≡ false
        second_fails true b e f = f
        second_fails false b e f = absurd cc

    -- so it would hold points across
    holds_across : All (λ face. is_towards m.plane side face ≡ false) brush.solid.faces → (z : Point) → IsNear planes m.plane (not side) x z → Holds (solid_in planes brush.solid) z
    holds_across none z across = record {
      full = brush.holds.full;
      not_in_front = All-map (λ h. IsNotInFront h z) (outward_of planes) brush.solid.faces
          (λ place d within. one (get_or brush.solid.faces place d) (Contains-get_or brush.solid.faces place d within) (kept.numbered place d within));
    }
      where
        one : (face : FaceRef) → Contains brush.solid.faces face → face.plane < length planes → IsNotInFront (outward_of planes face) z
        one face among within =
            let h = outward_of planes face in
            let not_ahead = near_not_in_front planes m.plane side x y near face.out_is_front face.plane (held face among) in
            by_sign (value h x)
            (λ behind. still_behind face.out_is_front (plane_at planes face.plane) (across.in_front face.plane) (across.behind face.plane) behind)
            (λ on. absurd (no_face_here none face among (point.only face.plane within ((turned_on face.out_is_front (plane_at planes face.plane) x).0 on))))
            (λ ahead. absurd (omega (arith, ints, ahead, not_ahead)))
          where
            still_behind : (t : Bool) (g : Plane) → (IsInFront g x → IsInFront g z) → (IsBehind g x → IsBehind g z) → IsBehind (turned t g) x → IsNotInFront (turned t g) z
            still_behind true g front behind is = let its = behind is in omega (arith, ints, its)
            still_behind false g front behind is = let its = (flipped_behind g z).1 (front ((flipped_behind g x).0 is)) in omega (arith, ints, its)

    abbrev first_face : Option ℕ
    first_face = position_from (is_towards m.plane side) 0 brush.solid.faces

    some_face : (face : ℕ) × (first_face ≡ Some face)
    some_face = by_option first_face
        (λ none.
        let across = near_on (not side) in
        absurd (none_across (solid_in planes brush.solid) across.0 brush.among brush.contents across.1 (holds_across (none_passes (is_towards m.plane side) 0 brush.solid.faces none) across.0 across.1)))
        (λ face is. (face, is))

    counts_by : (full : Bool) (contents : Contents) (face : Option ℕ) → full ≡ true → contents ≡ Solid → (if full && is_solid contents then face else None) ≡ face
    counts_by full contents face is_full is_solid_part = subst (λ (b : Bool). (if b && is_solid contents then face else None) ≡ face) (sym is_full) (subst (λ (c : Contents). (if is_solid c then face else None) ≡ face) (sym is_solid_part) refl)

    brush_may_own : (owner : FaceOwner) × MayOwn planes solids m.plane side x owner
    brush_may_own = (
      record { brush = brush.place; face = some_face.0 },
      record {
        solid = brush.solid;
        listed = brush.listed;
        counts = counts_by brush.solid.full brush.solid.contents first_face (flag_from brush.solid.full kept.flag brush.holds.full) brush.contents ∙ some_face.1;
        holds = holds_point;
      },
    )

  -- some brush may own the point
  pub some_may_own : (owner : FaceOwner) × MayOwn planes solids m.plane side x owner
  some_may_own = let near = near_on side in brush_may_own near.0 near.1 (rock_brush near.0 near.1)

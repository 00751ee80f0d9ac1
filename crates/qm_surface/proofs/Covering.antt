-- The pieces of a map's touching pairs cover its boundary: each boundary point lies in just one of them, which is its owner's,
-- and each piece lies within its contact.
use Rattle.std.proofs.Common.{◌≡◌, ◌<◌, ℕ, ◌+◌, pos, Bool, true, false, not, ◌&&◌, if◌then◌else◌, Option, get_or, List, [], ◌∷◌, ◌++◌, All, Contains, length, slice_get, Some, None, sym, ap, ◌∙◌, subst, arith, ◌⊎◌, inl, inr, ⊎_elim}
use Rattle.std.specs.Bool.{MatchBool}
use Rattle.std.specs.List.{position_from}
use Rattle.std.proofs.lemmas.Int.{ints}
use Rattle.std.proofs.lemmas.Bool.{cases_lt}
use Rattle.std.proofs.lemmas.List.{get_or_past}
use Rattle.std.proofs.lemmas.List.Elements.{All-nil, All-cons, All-head, All-tail, All-append, All-contains, All-contains_itself, All-weaker, Contains-get_or}
use Rattle.std.proofs.lemmas.Option.{get_or_from_slice_get}
use Rattle.qm_lists.proofs.Elements.{Contains-at, Contains-cons_cases}
use Rattle.qm_lists.proofs.EachPair.{EachPair}
use Rattle.qm_numbers.proofs.Signs.{by_least}
use Rattle.qm_contents.specs.declared.contents.Contents.{Contents}
use Rattle.qm_contents.specs.declared.contents.Contents.TheVariants.{Empty}
use Rattle.qm_contacts.specs.NumberedLeaves.{is_solid}
use Rattle.qm_space.specs.Point.{Point}
use Rattle.qm_space.specs.Plane.{Plane, value, IsBehind, flipped}
use Rattle.qm_space.specs.Book.{plane_at}
use Rattle.qm_convex.specs.Winding.{Winding, IsInRegion, IsConvex}
use Rattle.qm_convex.specs.Cut.{IsPartInFront}
use Rattle.qm_convex.proofs.Central.{has_a_point}
use Rattle.qm_partition.specs.Tree.{Tree}
use Rattle.qm_partition.specs.Counting.{leaves_of}
use Rattle.qm_partition.specs.WellMade.{IsSolidIfFilled}
use Rattle.qm_contacts.specs.Meeting.{Meeting, meetings}
use Rattle.qm_contacts.specs.Contact.{IsContact}
use Rattle.qm_contacts.specs.Touching.{Touching, IsTouching, AreTouchings, touching, apart, none as no_touchings}
use Rattle.qm_contacts.proofs.Meetings.{IsBefore, meetings_ascend}
use Rattle.qm_solids.specs.Outward.{AreNumberedIn}
use Rattle.qm_solids.specs.InBook.{BookSolid, solid_at, solids_in, IsKeptIn, IsBookOf}
use Rattle.qm_solid_tree.specs.GivesContents.{GivesContentsOrIsFilled}
use Rattle.qm_surface.specs.Boundary.{rock_side, leaf_on, IsBoundaryPoint}
use Rattle.qm_surface.specs.Owner.{is_towards, FaceOwner, owning_face, owners_from, MayOwn, IsOwnerAt}
use Rattle.qm_surface.specs.Cutting.{cutters}
use Rattle.qm_surface.specs.Surface.{FacePiece, owner_of, piece_of, AreOwnedPieces, plane_of_node, IsCutUp, boundary, no_boundary, AreFacePieces, none, more}
use Rattle.qm_surface.specs.Covered.{IsInPiece, HasOwnPiece, IsBookEdge, IsWithinContact, CoverBoundary}
use Rattle.qm_surface.proofs.OnlyOne.{NoneHas, HasOne, here, IsFirstThat, decide_all, one_before, one_behind, only_place}
use Rattle.qm_surface.proofs.Carving.{Covers, IsBehindAll}
use Rattle.qm_surface.proofs.Cutters.{off_cutters, held_behind, behind_held}
use Rattle.qm_surface.proofs.Owners.{owner_at, some_first, first_is}
use Rattle.qm_surface.proofs.PiecesOfOwners.{pieces_none, piece_found}
use Rattle.qm_surface.proofs.MeetingNodes.{plane_by_node}
use Rattle.qm_surface.proofs.NearPoints.{one_contact}
use Rattle.qm_surface.proofs.OwnersThere.{some_may_own}
use Rattle.qm_surface.proofs.Parts.{IsKeptPiece, pieces_kept}
use Rattle.qm_surface.proofs.BookEdges.{IsBookPlane, cutters_of_book, edges_of_contact, edges_of_part}

-- ---- the faces of brushes are in the book, by whatever number

faces_in_book : (planes : List Plane) (solids : List BookSolid) (brush : ℕ) → IsBookOf planes solids → AreNumberedIn planes (solid_at solids brush).faces
faces_in_book planes solids brush book = ⊎_elim
    (λ within. (All-contains (IsKeptIn planes) solids (solid_at solids brush) book.each (Contains-get_or solids brush no_brush within)).numbered)
    (λ past. subst (λ (solid : BookSolid). AreNumberedIn planes solid.faces) (sym (get_or_past solids brush no_brush past)) (All-nil (λ face. face.plane < length planes)))
    (cases_lt brush (length solids))
  where
    no_brush : BookSolid
    no_brush = record { contents = Empty; full = false; faces = [] }

-- ---- the owner of a boundary point

module _ (tree : Tree) (solids : List BookSolid) (book : IsBookOf tree.planes solids) (gives : GivesContentsOrIsFilled tree (solids_in tree.planes solids)) (filled : All IsSolidIfFilled (leaves_of tree.shape)) where
  module _ (m : Meeting) (side : Bool) (x : Point) (point : IsBoundaryPoint tree m side x) where
    abbrev planes : List Plane
    planes = tree.planes

    abbrev n : ℕ
    n = m.plane

    -- behind all planes by which the owner cuts
    abbrev Behind : FaceOwner → Type 0
    Behind owner = IsBehindAll x (cutters planes n (solid_at solids owner.brush).faces)

    is_behind_or_not : (g : Plane) → IsBehind g x ⊎ (IsBehind g x → ⊥)
    is_behind_or_not g = by_least (value g x) (pos 0) (λ behind. inl behind) (λ not. inr (λ behind. absurd (omega (arith, ints, not, behind))))

    behind_or_not : (owner : FaceOwner) → Behind owner ⊎ (Behind owner → ⊥)
    behind_or_not owner = decide_all (λ g. IsBehind g x) is_behind_or_not (cutters planes n (solid_at solids owner.brush).faces)

    -- a brush that may own the point has it behind all these
    behind_of_owner : (owner : FaceOwner) → MayOwn planes solids n side x owner → Behind owner
    behind_of_owner owner may =
        let same = get_or_from_slice_get solids owner.brush may.solid _ may.listed in
        let kept = All-contains (IsKeptIn planes) solids may.solid book.each (Contains-at solids owner.brush may.solid may.listed) in
        subst (λ (solid : BookSolid). IsBehindAll x (cutters planes n solid.faces)) (sym same)
        (held_behind planes n x may.solid.faces point.only kept.numbered may.holds.not_in_front)

    -- and one of those that count holds the point where it is behind all these
    may_by_behind : (owner : FaceOwner) (solid : BookSolid) → slice_get solids owner.brush ≡ Some solid → owning_face n side solid ≡ Some owner.face → Behind owner → MayOwn planes solids n side x owner
    may_by_behind owner solid listed counts behind =
        let same = get_or_from_slice_get solids owner.brush solid _ listed in
        let kept = All-contains (IsKeptIn planes) solids solid book.each (Contains-at solids owner.brush solid listed) in
        record {
          solid = solid;
          listed = listed;
          counts = counts;
          holds = record {
            full = full_from solid.full solid.contents (position_face solid) owner.face kept.flag counts;
            not_in_front = behind_held planes n x solid.faces point.contact.on (subst (λ (s : BookSolid). IsBehindAll x (cutters planes n s.faces)) same behind);
          };
        }
      where
        position_face : BookSolid → Option ℕ
        position_face solid = position_from (is_towards n side) 0 solid.faces

        full_from : {A : Type 0} (full : Bool) (contents : Contents) (face : Option ℕ) (k : ℕ) → MatchBool full A (A → ⊥) → (if full && is_solid contents then face else None) ≡ Some k → A
        full_from true contents face k tells is = tells
        full_from false contents face k tells is = absurd (let e : None ≡ Some k = is in cc)

    -- the first of those that count behind whose cutters the point is
    pub record HasFirst : Type 0 where
      pub owner : FaceOwner
      pub first_that : IsFirstThat Behind owner (owners_from n side solids 0)
      pub is_owner : IsOwnerAt planes solids n side x owner

    first_owner : HasFirst
    first_owner =
        let some = some_may_own tree solids book gives filled m side x point in
        let number : 0 + some.0.brush ≡ some.0.brush = omega arith in
        let found = some_first n side Behind behind_or_not solids 0 some.0.brush some.1.solid some.0.face some.1.listed some.1.counts
        (subst (λ (b : ℕ). Behind (owner_at b some.0.face)) (sym number) (behind_of_owner some.0 some.1)) in
        let its = first_is n side Behind solids 0 found.0 found.1 in
        let place_is : its.place ≡ found.0.brush = omega (arith, its.brush_is) in
        record {
          owner = found.0;
          first_that = found.1;
          is_owner = record {
            may = may_by_behind found.0 its.solid (ap (slice_get solids) (sym place_is) ∙ its.listed) its.counts its.has;
            least = λ other may. ⊎_elim
                (λ less.
                let same : 0 + other.brush ≡ other.brush = omega arith in
                absurd (its.before other.brush may.solid other.face (omega (arith, less, place_is)) may.listed may.counts (subst (λ (b : ℕ). Behind (owner_at b other.face)) (sym same) (behind_of_owner other may))))
                (λ at_least. at_least)
                (cases_lt other.brush found.0.brush);
          };
        }

    -- ---- its piece among those of its own touching pair

    pub record HasPiece (pieces : List FacePiece) : Type 0 where
      pub piece : FacePiece
      pub one : HasOne (IsInPiece x) piece pieces
      pub leaf : piece.leaf ≡ leaf_on (not side) m.front.leaf m.back.leaf
      pub owner : IsOwnerAt planes solids n side x (owner_of piece)

    own_piece : (found : Touching) (own : List FacePiece) → IsTouching planes m found → IsCutUp tree solids found own → HasPiece own
    own_piece found own is (no_boundary sides) = absurd (let e : None ≡ Some side = sym sides ∙ (λ i. rock_side tree (is.front i) (is.back i)) ∙ point.sides in cc)
    own_piece found own is (boundary {side = s} sides pieces) =
        let its_side : s ≡ side = let e : Some s ≡ Some side = sym sides ∙ (λ i. rock_side tree (is.front i) (is.back i)) ∙ point.sides in cc in
        let plane_is : plane_of_node tree found.node ≡ n = ap (plane_of_node tree) is.node ∙ plane_by_node tree m point.listed in
        let leaf_is : leaf_on (not side) found.front found.back ≡ leaf_on (not side) m.front.leaf m.back.leaf = λ i. leaf_on (not side) (is.front i) (is.back i) in
        let of_side = subst (λ (t : Bool). AreOwnedPieces planes solids (plane_of_node tree found.node) t (leaf_on (not t) found.front found.back) (owners_from (plane_of_node tree found.node) t solids 0) (found.winding ∷ []) own) its_side pieces in
        let of_plane = subst (λ (k : ℕ). AreOwnedPieces planes solids k side (leaf_on (not side) found.front found.back) (owners_from k side solids 0) (found.winding ∷ []) own) plane_is of_side in
        let leaf = leaf_on (not side) found.front found.back in
        let covers : HasOne (Covers x) found.winding (found.winding ∷ []) = here ((is.points x).1 point.contact) (All-nil (λ w. Covers x w → ⊥)) in
        let piece = piece_found planes solids n side leaf x (owners_from n side solids 0) (found.winding ∷ []) own first_owner.owner found.winding of_plane
        (λ place d within. off_cutters planes n x (solid_at solids (get_or (owners_from n side solids 0) place d).brush).faces point.only (faces_in_book planes solids (get_or (owners_from n side solids 0) place d).brush book))
        first_owner.first_that covers in
        record { piece = piece_of leaf side first_owner.owner piece.0; one = piece.1; leaf = leaf_is; owner = first_owner.is_owner }

    -- ---- no other touching pair has the point

    cut_none : (found : Touching) (own : List FacePiece) → IsCutUp tree solids found own → (IsInRegion found.winding x → ⊥) → NoneHas (IsInPiece x) own
    cut_none found own (no_boundary sides) lacks = All-nil (λ p. IsInPiece x p → ⊥)
    cut_none found own (boundary {side = s} sides pieces) lacks =
        pieces_none planes solids (plane_of_node tree found.node) s (leaf_on (not s) found.front found.back) x (owners_from (plane_of_node tree found.node) s solids 0) (found.winding ∷ []) own pieces
        (All-cons (λ w. Covers x w → ⊥) found.winding [] lacks (All-nil (λ w. Covers x w → ⊥)))

    all_none : (touchings : List Touching) (pieces : List FacePiece) → AreFacePieces tree solids touchings pieces → All (λ t. IsInRegion t.winding x → ⊥) touchings → NoneHas (IsInPiece x) pieces
    all_none touchings pieces none lacks = All-nil (λ p. IsInPiece x p → ⊥)
    all_none touchings pieces (more {found = found} {touchings = others} {own = own} {rest = rest} cut are) lacks =
        All-append (λ p. IsInPiece x p → ⊥) own rest
        (cut_none found own cut (All-head (λ t. IsInRegion t.winding x → ⊥) found others lacks))
        (all_none others rest are (All-tail (λ t. IsInRegion t.winding x → ⊥) found others lacks))

    abbrev IsListed : Meeting → Type 0
    IsListed l = Contains (meetings tree) l

    not_after : (l : Meeting) → IsListed l → IsBefore m l → IsContact planes l x → ⊥
    not_after l listed before contact =
        let same = one_contact tree m l x gives.named gives.normals point.listed listed point.contact contact point.only in
        before.apart same.0 same.1

    not_before : (l : Meeting) → IsListed l → IsBefore l m → IsContact planes l x → ⊥
    not_before l listed before contact =
        let same = one_contact tree m l x gives.named gives.normals point.listed listed point.contact contact point.only in
        before.apart (sym same.0) (sym same.1)

    later_lack : (all : List Meeting) (touchings : List Touching) → AreTouchings planes all touchings → All IsListed all → All (IsBefore m) all → All (λ t. IsInRegion t.winding x → ⊥) touchings
    later_lack all touchings no_touchings listed later = All-nil (λ t. IsInRegion t.winding x → ⊥)
    later_lack all touchings (touching {meeting = l} {found = found} {meetings = rest} {touchings = others} is have) listed later =
        All-cons (λ t. IsInRegion t.winding x → ⊥) found others
        (λ r. not_after l (All-head IsListed l rest listed) (All-head (IsBefore m) l rest later) ((is.points x).0 r))
        (later_lack rest others have (All-tail IsListed l rest listed) (All-tail (IsBefore m) l rest later))
    later_lack all touchings (apart {meeting = l} {meetings = rest} never have) listed later =
        later_lack rest touchings have (All-tail IsListed l rest listed) (All-tail (IsBefore m) l rest later)

    -- ---- its piece among all

    piece_before : (own rest : List FacePiece) → HasPiece own → NoneHas (IsInPiece x) rest → HasPiece (own ++ rest)
    piece_before own rest has lacks = record { piece = has.piece; one = one_before (IsInPiece x) has.piece own rest has.one lacks; leaf = has.leaf; owner = has.owner }

    piece_behind : (own rest : List FacePiece) → NoneHas (IsInPiece x) own → HasPiece rest → HasPiece (own ++ rest)
    piece_behind own rest lacks has = record { piece = has.piece; one = one_behind (IsInPiece x) has.piece own rest lacks has.one; leaf = has.leaf; owner = has.owner }

    has_piece : (all : List Meeting) (touchings : List Touching) (pieces : List FacePiece) → AreTouchings planes all touchings → AreFacePieces tree solids touchings pieces → All IsListed all → EachPair IsBefore all → Contains all m → HasPiece pieces
    has_piece all touchings pieces no_touchings are listed each among = absurd (let within = among.1 in omega arith)
    has_piece all touchings pieces (touching {meeting = l} {found = found} {meetings = rest} {touchings = others} is have) (more {own = own} {rest = later} cut are) listed each among = ⊎_elim
        (λ same.
        piece_before own later
        (own_piece found own (subst (λ (k : Meeting). IsTouching planes k found) same is) cut)
        (all_none others later are (later_lack rest others have (All-tail IsListed l rest listed) (subst (λ (k : Meeting). All (IsBefore k) rest) same each.0))))
        (λ in_rest.
        piece_behind own later
        (cut_none found own cut (λ r. not_before l (All-head IsListed l rest listed) (All-contains (IsBefore l) rest m each.0 in_rest) ((is.points x).0 r)))
        (has_piece rest others later have are (All-tail IsListed l rest listed) each.1 in_rest))
        (Contains-cons_cases l m rest among)
    has_piece all touchings pieces (apart {meeting = l} {meetings = rest} never have) are listed each among = ⊎_elim
        (λ same. absurd (never x (subst (λ (k : Meeting). IsContact planes k x) (sym same) point.contact)))
        (λ in_rest. has_piece rest touchings pieces have are (All-tail IsListed l rest listed) each.1 in_rest)
        (Contains-cons_cases l m rest among)

    piece_of_point : (touchings : List Touching) (pieces : List FacePiece) → AreTouchings planes (meetings tree) touchings → AreFacePieces tree solids touchings pieces → HasOwnPiece tree solids m side x pieces
    piece_of_point touchings pieces touch are =
        let has = has_piece (meetings tree) touchings pieces touch are (All-contains_itself (meetings tree)) (meetings_ascend tree.shape 0 0 []) point.listed in
        let alone = only_place (IsInPiece x) has.piece pieces has.one in
        record { place = alone.0; piece = has.piece; alone = alone.1; leaf = has.leaf; owner = has.owner }

  -- ---- each piece is within its contact

  module _ (m : Meeting) (listed : Contains (meetings tree) m) where
    -- part of the contact of a meeting
    pub record IsPartOfContact (v : Winding) : Type 0 where
      pub convex : IsConvex v
      pub plane : v.plane ≡ plane_at tree.planes m.plane
      pub within : (x : Point) → IsInRegion v x → IsContact tree.planes m x
      pub edges : All (IsBookEdge tree.planes) v.edges

    part_of_part : (w v : Winding) (g : Plane) → IsBookEdge tree.planes g → IsPartOfContact w → IsPartInFront v w g → IsPartOfContact v
    part_of_part w v g cuts whole part = record {
      convex = part.convex;
      plane = part.plane ∙ whole.plane;
      within = λ x r. whole.within x ((part.points x).0 r).0;
      edges = edges_of_part tree.planes w v g cuts whole.edges part;
    }

    whole_contact : (found : Touching) → IsTouching tree.planes m found → IsPartOfContact found.winding
    whole_contact found is =
        let point = has_a_point found.winding is.convex in
        record {
          convex = is.convex;
          plane = is.plane;
          within = λ x. (is.points x).0;
          edges = edges_of_contact tree.planes found.winding m point.0 ((is.points point.0).0 point.1) is.edges;
        }

    own_within : (found : Touching) (own : List FacePiece) → IsTouching tree.planes m found → IsCutUp tree solids found own → All (IsWithinContact tree) own
    own_within found own is (no_boundary sides) = All-nil (IsWithinContact tree)
    own_within found own is (boundary {side = s} sides pieces) =
        let leaf = leaf_on (not s) found.front found.back in
        let k = plane_of_node tree found.node in
        let each_cuts : (owner : FaceOwner) → All (IsBookPlane tree.planes) (cutters tree.planes k (solid_at solids owner.brush).faces) =
        λ owner. cutters_of_book tree.planes k (solid_at solids owner.brush).faces (faces_in_book tree.planes solids owner.brush book) in
        let in_front : (w v : Winding) (g : Plane) → IsBookPlane tree.planes g → IsPartOfContact w → IsPartInFront v w g → IsPartOfContact v = λ w v g cuts. part_of_part w v g cuts.one in
        let behind : (w v : Winding) (g : Plane) → IsBookPlane tree.planes g → IsPartOfContact w → IsPartInFront v w (flipped g) → IsPartOfContact v = λ w v g cuts. part_of_part w v (flipped g) cuts.other in
        let kept = pieces_kept IsPartOfContact (IsBookPlane tree.planes) in_front behind tree.planes solids k s leaf each_cuts (owners_from k s solids 0) (found.winding ∷ []) own pieces
        (All-cons IsPartOfContact found.winding [] (whole_contact found is) (All-nil IsPartOfContact)) in
        All-weaker (IsKeptPiece IsPartOfContact (IsBookPlane tree.planes) in_front behind tree.planes solids k s leaf each_cuts) (IsWithinContact tree)
        (λ piece its. record {
          meeting = m;
          listed = listed;
          side = s;
          sides = sym (λ i. rock_side tree (is.front i) (is.back i)) ∙ sides;
          leaf = its.leaf_is ∙ (λ i. leaf_on (not s) (is.front i) (is.back i));
          into = its.into;
          convex = its.kept.convex;
          plane = its.kept.plane;
          within = its.kept.within;
          edges = its.kept.edges;
        }) own kept

  all_within : (all : List Meeting) (touchings : List Touching) (pieces : List FacePiece) → AreTouchings tree.planes all touchings → AreFacePieces tree solids touchings pieces → All (Contains (meetings tree)) all → All (IsWithinContact tree) pieces
  all_within all touchings pieces no_touchings none listed = All-nil (IsWithinContact tree)
  all_within all touchings pieces (touching {meeting = l} {found = found} {meetings = rest} {touchings = others} is have) (more {own = own} {rest = later} cut are) listed =
      All-append (IsWithinContact tree) own later
      (own_within l (All-head (Contains (meetings tree)) l rest listed) found own is cut)
      (all_within rest others later have are (All-tail (Contains (meetings tree)) l rest listed))
  all_within all touchings pieces (apart {meeting = l} {meetings = rest} never have) are listed =
      all_within rest touchings pieces have are (All-tail (Contains (meetings tree)) l rest listed)

  -- ---- the pieces cover the boundary

  pub pieces_cover : (touchings : List Touching) (pieces : List FacePiece) → AreTouchings tree.planes (meetings tree) touchings → AreFacePieces tree solids touchings pieces → CoverBoundary tree solids pieces
  pieces_cover touchings pieces touch are = record {
    each = λ m side x point. piece_of_point m side x point touchings pieces touch are;
    within = all_within (meetings tree) touchings pieces touch are (All-contains_itself (meetings tree));
  }

-- What code does as it cuts polygons, step by step.
use Rattle.std.proofs.Common.{◌≡◌, ◌<◌, ◌≤◌, ◌+◌, ℕ, List, [], ◌∷◌, ◌++◌, drop, length, get_or, map, Option, Some, None, refl, sym, ap, ◌∙◌, subst, arith, ⊎_elim}
use Rattle.std.specs.Prelude.{option_to_list}
use Rattle.std.specs.Option.{MatchOption}
use Rattle.std.proofs.lemmas.Bool.Decides.{eqb_tells}
use Rattle.std.proofs.lemmas.List.{append_assoc, append-nil, drop_more, drop_all}
use Rattle.qm_numbers.proofs.IntegerProducts.{linear}
use Rattle.qm_space.specs.Plane.{Plane, flipped}
use Rattle.qm_space.proofs.Planes.{value_flipped}
use Rattle.qm_space.proofs.ReducedPlanes.{flipped_twice}
use Rattle.qm_convex.specs.Winding.{Winding, IsConvex}
use Rattle.qm_convex.specs.Sides.{HasNoneInFront, IsWhollyInFront, LiesIn}
use Rattle.qm_convex.specs.Cut.{IsPartInFront}
use Rattle.qm_convex.proofs.Cutting.{whole_is_part}
use Rattle.qm_solids.specs.declared.face.FaceRef.{FaceRef}
use Rattle.qm_solids.specs.Outward.{outward_of}
use Rattle.qm_solids.specs.InBook.{BookSolid, solid_at}
use Rattle.qm_surface.specs.Owner.{FaceOwner}
use Rattle.qm_surface.specs.Cutting.{cutters, IsCarved, behind_all, goes_on, ends, AreCarved, none, more}
use Rattle.qm_surface.specs.Surface.{FacePiece, piece_of, AreOwnedPieces, all_cut, cut_by}
use Rattle.qm_faces.specs.declared.boundary.Boundary.{Boundary}
use Rattle.qm_faces.specs.inner.Cuts.{IsCutOnce, IsCutByFace, IsCarvedBy, IsOnItsWay, IsCutFor, AreCutFor, AreCutSoFar}

-- ---- one plane, turned inward

module _ (g h : Plane) (is : h ≡ flipped g) (w : Winding) where
  back : flipped h ≡ g
  back = ap flipped is ∙ flipped_twice g

  none_outside : IsWhollyInFront w h → HasNoneInFront w g
  none_outside ahead x r = let e = value_flipped g x in let f = subst (λ (k : Plane). IsWhollyInFront w k) is ahead x r in omega (arith, linear)

  pub cut_ahead : (v : Winding) (old : List Winding) → v ≡ w → IsConvex w → IsWhollyInFront w h → IsCutOnce g w (Some v) old old
  cut_ahead v old same convex ahead = record {
    front = None;
    front_is = none_outside ahead;
    new_is = sym (append-nil old);
    inner_is = subst (λ (u : Winding). IsPartInFront u w (flipped g)) (sym same) (whole_is_part w (flipped g) convex (subst (λ (k : Plane). IsWhollyInFront w k) is ahead));
  }

  pub cut_behind : (v : Winding) (old new : List Winding) → v ≡ w → IsConvex w → IsWhollyInFront w (flipped h) → new ≡ old ++ v ∷ [] → IsCutOnce g w None old new
  cut_behind v old new same convex behind new_is = record {
    front = Some v;
    front_is = subst (λ (u : Winding). IsPartInFront u w g) (sym same) (whole_is_part w g convex outside);
    new_is = new_is;
    inner_is = λ x r. let e = value_flipped g x in let f = outside x r in omega (arith, linear);
  }
    where
      outside : IsWhollyInFront w g
      outside = subst (λ (k : Plane). IsWhollyInFront w k) back behind

  pub cut_nowhere : (old : List Winding) → LiesIn w h → IsCutOnce g w None old old
  cut_nowhere old lies = record {
    front = None;
    front_is = λ x r. let e = value_flipped g x in let f = on x r in omega (arith, linear);
    new_is = sym (append-nil old);
    inner_is = λ x r. let f = on x r in omega (arith, linear);
  }
    where
      on : LiesIn w (flipped g)
      on = subst (λ (k : Plane). LiesIn w k) is lies

  pub cut_across : (v outer : Winding) (old new : List Winding) → IsPartInFront v w h → IsPartInFront outer w (flipped h) → new ≡ old ++ outer ∷ [] → IsCutOnce g w (Some v) old new
  cut_across v outer old new inside outside new_is = record {
    front = Some outer;
    front_is = subst (λ (k : Plane). IsPartInFront outer w k) back outside;
    new_is = new_is;
    inner_is = subst (λ (k : Plane). IsPartInFront v w k) is inside;
  }

-- ---- one face

module _ (planes : List Plane) (n : ℕ) (face : FaceRef) (w : Winding) where
  skipped : (faces : List FaceRef) → face.plane ≡ n → cutters planes n faces ≡ cutters planes n (face ∷ faces)
  skipped faces same = ⊎_elim (λ equal. rw equal.0 refl) (λ other. absurd (other.1 same)) (eqb_tells face.plane n)

  taken : (faces : List FaceRef) → (face.plane ≡ n → ⊥) → outward_of planes face ∷ cutters planes n faces ≡ cutters planes n (face ∷ faces)
  taken faces other = ⊎_elim (λ equal. absurd (other equal.1)) (λ apart. rw apart.0 refl) (eqb_tells face.plane n)

  pub face_skipped : (old : List Winding) → face.plane ≡ n → IsCutByFace planes n face w (Some w) old old
  face_skipped old same = record {
    added = [];
    new_is = sym (append-nil old);
    goes_on = λ v is faces left last carved. subst (λ (gs : List Plane). IsCarved gs w left last) (skipped faces same) (subst (λ (u : Winding). IsCarved (cutters planes n faces) u left last) (sym_some v is) carved);
    ends = λ is faces. absurd (let e : Some w ≡ None = is in cc);
  }
    where
      sym_some : (v : Winding) → Some w ≡ Some v → v ≡ w
      sym_some v e = cc

  pub face_cuts : (inner : Option Winding) (old new : List Winding) → (face.plane ≡ n → ⊥) → IsCutOnce (outward_of planes face) w inner old new → IsCutByFace planes n face w inner old new
  face_cuts inner old new other cut = record {
    added = option_to_list cut.front;
    new_is = cut.new_is;
    goes_on = λ v is faces left last carved.
        subst (λ (gs : List Plane). IsCarved gs w (option_to_list cut.front ++ left) last) (taken faces other)
        (goes_on cut.front cut.front_is (subst (λ (o : Option Winding). Goes o) is cut.inner_is) carved);
    ends = λ is faces.
        subst (λ (gs : List Plane). IsCarved gs w (option_to_list cut.front) None) (taken faces other)
        (ends cut.front cut.front_is (subst (λ (o : Option Winding). Goes o) is cut.inner_is));
  }
    where
      Goes : Option Winding → Type 0
      Goes o = MatchOption o (HasNoneInFront w (flipped (outward_of planes face))) (λ v. IsPartInFront v w (flipped (outward_of planes face)))

-- ---- all faces of a brush

module _ (planes : List Plane) (n : ℕ) (faces : List FaceRef) (w : Winding) where
  pub on_way_begins : (old : List Winding) → IsOnItsWay planes n faces 0 w w old old
  on_way_begins old = record { added = []; now_is = sym (append-nil old); finish = λ left last carved. carved }

  module _ (i : ℕ) (part : Winding) (old now new : List Winding) (on : IsOnItsWay planes n faces i w part old now) where
    pub on_way_ends : length faces ≤ i → IsCarvedBy planes n faces w (Some part) old now
    on_way_ends past = record {
      added = on.added;
      new_is = on.now_is;
      carved = subst (λ (left : List Winding). IsCarved (cutters planes n faces) w left (Some part)) (append-nil on.added)
          (on.finish [] (Some part) (subst (λ (rest : List FaceRef). IsCarved (cutters planes n rest) part [] (Some part)) (sym (drop_all i faces past)) behind_all));
    }

    module _ (face : FaceRef) (within : i < length faces) (is : face ≡ get_or faces i face) (inner : Option Winding) (cut : IsCutByFace planes n face part inner now new) where
      rest_is : face ∷ drop (i + 1) faces ≡ drop i faces
      rest_is = ap (λ (f : FaceRef). f ∷ drop (i + 1) faces) is ∙ sym (drop_more faces i face within)

      new_here : new ≡ old ++ (on.added ++ cut.added)
      new_here = cut.new_is ∙ ap (λ (ws : List Winding). ws ++ cut.added) on.now_is ∙ append_assoc old on.added cut.added

      pub on_way_more : (v : Winding) → inner ≡ Some v → IsOnItsWay planes n faces (i + 1) w v old new
      on_way_more v goes = record {
        added = on.added ++ cut.added;
        now_is = new_here;
        finish = λ left last carved.
            subst (λ (ws : List Winding). IsCarved (cutters planes n faces) w ws last) (sym (append_assoc on.added cut.added left))
            (on.finish (cut.added ++ left) last (subst (λ (rest : List FaceRef). IsCarved (cutters planes n rest) part (cut.added ++ left) last) rest_is (cut.goes_on v goes (drop (i + 1) faces) left last carved)));
      }

      pub on_way_stops : inner ≡ None → IsCarvedBy planes n faces w None old new
      on_way_stops gone = record {
        added = on.added ++ cut.added;
        new_is = new_here;
        carved = on.finish cut.added None (subst (λ (rest : List FaceRef). IsCarved (cutters planes n rest) part cut.added None) rest_is (cut.ends gone (drop (i + 1) faces)));
      }

-- ---- polygons one after another

carved_one : (planes : List Plane) (w : Winding) (left : List Winding) (inner : Option Winding) → IsCarved planes w left inner → AreCarved planes (w ∷ []) left (option_to_list inner)
carved_one planes w left inner carved =
    subst (λ (ws : List Winding). AreCarved planes (w ∷ []) ws (option_to_list inner)) (append-nil left)
    (subst (λ (ws : List Winding). AreCarved planes (w ∷ []) (left ++ []) ws) (append-nil (option_to_list inner)) (more carved none))

pub carved_more : (planes : List Plane) (rest left inners : List Winding) (w : Winding) (added : List Winding) (inner : Option Winding) → AreCarved planes rest left inners → IsCarved planes w added inner → AreCarved planes (rest ++ w ∷ []) (left ++ added) (inners ++ option_to_list inner)
carved_more planes rest left inners w added inner none carved = carved_one planes w added inner carved
carved_more planes rest left inners w added inner (more {w = first} {rest = others} {left = its_left} {others = left_others} {inners = inner_others} {inner = its_inner} one are) carved =
    subst (λ (ws : List Winding). AreCarved planes (first ∷ (others ++ w ∷ [])) ws ((option_to_list its_inner ++ inner_others) ++ option_to_list inner)) (sym (append_assoc its_left left_others added))
    (subst (λ (ws : List Winding). AreCarved planes (first ∷ (others ++ w ∷ [])) (its_left ++ (left_others ++ added)) ws) (sym (append_assoc (option_to_list its_inner) inner_others (option_to_list inner)))
    (more one (carved_more planes others left_others inner_others w added inner are carved)))

-- the same, by what code adds
pub carved_by_more : (planes : List Plane) (n : ℕ) (faces : List FaceRef) (rest left new_left inners : List Winding) (w : Winding) (inner : Option Winding) → AreCarved (cutters planes n faces) rest left inners → IsCarvedBy planes n faces w inner left new_left → AreCarved (cutters planes n faces) (rest ++ w ∷ []) new_left (inners ++ option_to_list inner)
carved_by_more planes n faces rest left new_left inners w inner are by =
    subst (λ (ws : List Winding). AreCarved (cutters planes n faces) (rest ++ w ∷ []) ws (inners ++ option_to_list inner)) (sym by.new_is)
    (carved_more (cutters planes n faces) rest left inners w by.added inner are by.carved)

-- the only part is cut for an owner: what it leaves takes its place
pub cut_one_part : (planes : List Plane) (solids : List BookSolid) (boundary : Boundary) (owner : FaceOwner) (w : Winding) (rest empty left : List Winding) (inner : Option Winding) (old new : List FacePiece) →
    rest ≡ w ∷ [] → empty ≡ [] → IsCarvedBy planes boundary.plane (solid_at solids owner.brush).faces w inner empty left →
    new ≡ old ++ map (piece_of boundary.leaf boundary.side owner) (option_to_list inner) → IsCutFor planes solids boundary owner rest left old new
cut_one_part planes solids boundary owner w rest empty left inner old new only nothing by new_is =
    let gs = cutters planes boundary.plane (solid_at solids owner.brush).faces in
    let left_is : left ≡ by.added = by.new_is ∙ ap (λ (ws : List Winding). ws ++ by.added) nothing in
    record {
      inners = option_to_list inner;
      carved = subst (λ (ws : List Winding). AreCarved gs ws left (option_to_list inner)) (sym only)
          (subst (λ (ws : List Winding). AreCarved gs (w ∷ []) ws (option_to_list inner)) (sym left_is) (carved_one gs w by.added inner by.carved));
      new_is = new_is;
    }

-- ---- all owners

module _ (planes : List Plane) (solids : List BookSolid) (boundary : Boundary) where
  abbrev Owned : List FaceOwner → List Winding → List FacePiece → Type 0
  Owned owners rest pieces = AreOwnedPieces planes solids boundary.plane boundary.side boundary.leaf owners rest pieces

  -- where nothing is left, no owner has a piece
  nothing_left : (owners : List FaceOwner) → Owned owners [] []
  nothing_left [] = all_cut
  nothing_left (owner ∷ owners) = cut_by none (nothing_left owners)

  module _ (owners : List FaceOwner) (rest : List Winding) where
    pub so_far_begins : (old : List FacePiece) → AreCutSoFar planes solids boundary owners 0 rest rest old old
    so_far_begins old = record { own = []; now_is = sym (append-nil old); finish = λ later are. are }

    module _ (i : ℕ) (left : List Winding) (old now new : List FacePiece) (so_far : AreCutSoFar planes solids boundary owners i rest left old now) where
      finished : (later : List FacePiece) → later ≡ [] → Owned (drop i owners) left later → AreCutFor planes solids boundary owners rest old now
      finished later nothing are = record {
        own = so_far.own;
        new_is = so_far.now_is;
        are = subst (λ (own : List FacePiece). Owned owners rest own) (ap (λ (ps : List FacePiece). so_far.own ++ ps) nothing ∙ append-nil so_far.own) (so_far.finish later are);
      }

      pub so_far_ends : length owners ≤ i → AreCutFor planes solids boundary owners rest old now
      so_far_ends past = finished [] refl (subst (λ (os : List FaceOwner). Owned os left []) (sym (drop_all i owners past)) all_cut)

      pub so_far_nothing : left ≡ [] → AreCutFor planes solids boundary owners rest old now
      so_far_nothing empty = finished [] refl (subst (λ (ws : List Winding). Owned (drop i owners) ws []) (sym empty) (nothing_left (drop i owners)))

      pub so_far_more : (owner : FaceOwner) (next : List Winding) → i < length owners → owner ≡ get_or owners i owner → IsCutFor planes solids boundary owner left next now new → AreCutSoFar planes solids boundary owners (i + 1) rest next old new
      so_far_more owner next within is cut =
          let its = map (piece_of boundary.leaf boundary.side owner) cut.inners in
          let rest_is : owner ∷ drop (i + 1) owners ≡ drop i owners = ap (λ (o : FaceOwner). o ∷ drop (i + 1) owners) is ∙ sym (drop_more owners i owner within) in
          record {
            own = so_far.own ++ its;
            now_is = cut.new_is ∙ ap (λ (ps : List FacePiece). ps ++ its) so_far.now_is ∙ append_assoc old so_far.own its;
            finish = λ later are.
                subst (λ (own : List FacePiece). Owned owners rest own) (sym (append_assoc so_far.own its later))
                (so_far.finish (its ++ later) (subst (λ (os : List FaceOwner). Owned os left (its ++ later)) rest_is (cut_by cut.carved are)));
          }

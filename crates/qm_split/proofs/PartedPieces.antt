-- What pieces have in front of a plane: step by step along a list, and for all pieces that a cell has of a solid.
use Rattle.std.proofs.Common.{◌≡◌, inl, inr, ⊎_elim, Option, Some, None, List, [], ◌∷◌, ◌++◌, Contains, option_to_list, refl, sym, ap, ◌∙◌, subst, append-nil, arith}
use Rattle.std.specs.Prelude.{slice_get}
use Rattle.std.proofs.lemmas.List.{length_push}
use Rattle.std.proofs.lemmas.List.Elements.{All-contains, All-push, Contains-push, Contains-push_cases, Contains-append_left}
use Rattle.qm_lists.proofs.Elements.{All-first_part, All-last_part, Contains-nil}
use Rattle.qm_space.specs.Point.{Point}
use Rattle.qm_space.specs.Plane.{Plane, IsInFront}
use Rattle.qm_space.specs.Reduced.{IsReduced}
use Rattle.qm_space.specs.Cell.{IsInCell}
use Rattle.qm_numbers.proofs.IntegerProducts.{linear}
use Rattle.qm_convex.specs.Winding.{Winding, IsConvex}
use Rattle.qm_convex.specs.Sides.{HasNoneInFront, IsWhollyInFront}
use Rattle.qm_convex.specs.Cut.{IsPartInFront}
use Rattle.qm_convex.proofs.Central.{has_a_point}
use Rattle.qm_convex.proofs.Cutting.{whole_is_part}
use Rattle.qm_wind.specs.Split.{IsFrontOf}
use Rattle.qm_solids.specs.Solid.{Solid}
use Rattle.qm_solids.specs.Candidates.{IsSamePlane, IsOnFace}
use Rattle.qm_solids.specs.Uniform.{MeetsNoFace}
use Rattle.qm_split.specs.declared.piece.Piece.{Piece}
use Rattle.qm_split.specs.Pieces.{IsPieceInCell, HasPointOfFace, ArePiecesInCell}
use Rattle.qm_split.proofs.ListedItems.{all_of_listed}
use Rattle.qm_split.specs.inner.PieceParts.{IsFrontPiece, IsPartOf, IsNumberedPiece, AreFront}

-- ---- along a list

pub front_of_none : (g : Plane) → AreFront [] g []
front_of_none g = record {
  each = λ q among. absurd (Contains-nil q among);
  all = λ p among. absurd (Contains-nil p among);
  no_more = omega arith;
  fewer = λ p among none. absurd (Contains-nil p among);
}

module _ (ps qs : List Piece) (g : Plane) (are : AreFront ps g qs) (p : Piece) where
  -- with one that has nothing in front
  front_gone : HasNoneInFront p.winding.value g → AreFront (ps ++ p ∷ []) g qs
  front_gone none = record {
    each = λ q among. let c = are.each q among in record { piece = c.piece; listed = Contains-append_left ps (p ∷ []) c.piece c.listed; is = c.is };
    all = λ o among. ⊎_elim (λ before. are.all o before) (λ same. inl (subst (λ (r : Piece). HasNoneInFront r.winding.value g) same none)) (Contains-push_cases ps p o among);
    no_more = let l = length_push ps p in let m = are.no_more in omega arith;
    fewer = λ o among gone. let l = length_push ps p in let m = are.no_more in omega arith;
  }

  -- with one that has something there
  front_kept : (q : Piece) → IsFrontPiece p g q → AreFront (ps ++ p ∷ []) g (qs ++ q ∷ [])
  front_kept q is = record {
    each = λ r among. ⊎_elim
        (λ before. let c = are.each r before in record { piece = c.piece; listed = Contains-append_left ps (p ∷ []) c.piece c.listed; is = c.is })
        (λ same. record { piece = p; listed = Contains-push ps p; is = subst (λ (s : Piece). IsFrontPiece p g s) same is })
        (Contains-push_cases qs q r among);
    all = λ o among. ⊎_elim
        (λ before. ⊎_elim inl (λ goes. inr (record { piece = goes.piece; listed = Contains-append_left qs (q ∷ []) goes.piece goes.listed; is = goes.is })) (are.all o before))
        (λ same. inr (record { piece = q; listed = Contains-push qs q; is = subst (λ (s : Piece). IsFrontPiece s g q) same is }))
        (Contains-push_cases ps p o among);
    no_more = let l = length_push ps p in let k = length_push qs q in let m = are.no_more in omega arith;
    fewer = λ o among gone. ⊎_elim
        (λ before. let f = are.fewer o before gone in let l = length_push ps p in let k = length_push qs q in omega arith)
        (λ same. absurd (never (subst (λ (s : Piece). HasNoneInFront s.winding.value g) (sym same) gone)))
        (Contains-push_cases ps p o among);
  }
    where
      never : HasNoneInFront p.winding.value g → ⊥
      never none =
          let at = has_a_point q.winding.value is.part.convex in
          let both = (is.part.points at.0).0 at.1 in
          let not = none at.0 both.0 in
          let front = both.1 in
          absurd (omega (arith, linear))

  pub front_more : (part : Option Piece) → IsPartOf p g part → AreFront (ps ++ p ∷ []) g (qs ++ option_to_list part)
  front_more None none = subst (λ (rs : List Piece). AreFront (ps ++ p ∷ []) g rs) (sym (append-nil qs)) (front_gone none)
  front_more (Some q) is = front_kept q is

-- the piece of a part of its winding is a part of the piece
pub numbered_part : (p : Piece) (g : Plane) (w : Option Winding) (part : Option Piece) → IsFrontOf w p.winding.value g → IsNumberedPiece p.number w part → IsPartOf p g part
numbered_part p g None part none is = subst (λ (o : Option Piece). IsPartOf p g o) (sym is) none
numbered_part p g (Some w) None front is = absurd is
numbered_part p g (Some w) (Some q) front is = record { number = is.0; part = subst (λ (v : Winding). IsPartInFront v p.winding.value g) (sym is.1) front }

-- ---- all on one side

pub front_itself : (p : Piece) (g : Plane) → IsConvex p.winding.value → IsWhollyInFront p.winding.value g → IsFrontPiece p g p
front_itself p g convex whole = record { number = refl; part = whole_is_part p.winding.value g convex whole }

-- and so is a piece of the same winding
pub whole_part : (p q : Piece) (g : Plane) → IsConvex p.winding.value → q.number ≡ p.number → (q.winding.value ≡ p.winding.value) × IsWhollyInFront p.winding.value g → IsFrontPiece p g q
whole_part p q g convex number is = record {
  number = number;
  part = subst (λ (w : Winding). IsPartInFront w p.winding.value g) (sym is.0) (front_itself p g convex is.1).part;
}

-- pieces that are all in front are what they have there
pub all_in_front : (ps : List Piece) (g : Plane) → ((p : Piece) → Contains ps p → IsConvex p.winding.value × IsWhollyInFront p.winding.value g) → AreFront ps g ps
all_in_front ps g whole = record {
  each = λ q among. let w = whole q among in record { piece = q; listed = among; is = front_itself q g w.0 w.1 };
  all = λ p among. let w = whole p among in inr (record { piece = p; listed = among; is = front_itself p g w.0 w.1 });
  no_more = omega arith;
  fewer = λ p among none.
      let w = whole p among in
      let at = has_a_point p.winding.value w.0 in
      let not = none at.0 at.1 in
      let front = w.1 at.0 at.1 in
      absurd (omega (arith, linear));
}

-- and pieces that have nothing there have none
pub none_in_front : (ps : List Piece) (g : Plane) → ((p : Piece) → Contains ps p → HasNoneInFront p.winding.value g) → AreFront ps g []
none_in_front ps g none = record {
  each = λ q among. absurd (Contains-nil q among);
  all = λ p among. inl (none p among);
  no_more = omega arith;
  fewer = λ p among gone. omega (arith, among.1);
}

-- ---- the pieces of a cell

module _ (book cell : List Plane) (solid : Solid) (ps qs : List Piece) (g : Plane) (are : ArePiecesInCell book cell solid ps) (front : AreFront ps g qs) where
  abbrev beyond : List Plane
  beyond = cell ++ g ∷ []

  in_cell_of_beyond : (x : Point) → IsInCell beyond x → IsInCell cell x
  in_cell_of_beyond x inside = All-first_part (λ h. IsInFront h x) cell (g ∷ []) inside

  in_front_of_beyond : (x : Point) → IsInCell beyond x → IsInFront g x
  in_front_of_beyond x inside = All-last_part (λ h. IsInFront h x) cell (g ∷ []) inside 0 g (omega arith)

  face_of_beyond : (h : Plane) (x : Point) → IsOnFace solid beyond h x → IsOnFace solid cell h x
  face_of_beyond h x on = record { in_cube = on.in_cube; in_cell = in_cell_of_beyond x on.in_cell; on = on.on; behind_others = on.behind_others }

  face_beyond : (h : Plane) (x : Point) → IsOnFace solid cell h x → IsInFront g x → IsOnFace solid beyond h x
  face_beyond h x on ahead = record { in_cube = on.in_cube; in_cell = All-push (λ f. IsInFront f x) cell g on.in_cell ahead; on = on.on; behind_others = on.behind_others }

  sound_one : (p q : Piece) → IsPieceInCell book cell solid p → IsFrontPiece p g q → IsPieceInCell book beyond solid q
  sound_one p q is part = record {
    numbered = ap (slice_get book) part.number ∙ is.numbered ∙ ap (λ (h : Plane). Some h) (sym part.part.plane);
    face = is.face;
    has_face = is.has_face;
    lies_on = subst (λ (h : Plane). IsSamePlane is.face h) (sym part.part.plane) is.lies_on;
    convex = part.part.convex;
    reduced = subst IsReduced (sym part.part.plane) is.reduced;
    points = λ x. (
      (λ r. let both = (part.part.points x).0 r in
          subst (λ (h : Plane). IsOnFace solid beyond h x) (sym part.part.plane) (face_beyond p.winding.value.plane x ((is.points x).0 both.0) both.1)),
      (λ on. (part.part.points x).1
          ((is.points x).1 (face_of_beyond p.winding.value.plane x (subst (λ (h : Plane). IsOnFace solid beyond h x) part.part.plane on)), in_front_of_beyond x on.in_cell)),
    );
  }

  sound_listed : (q : Piece) → Contains qs q → IsPieceInCell book beyond solid q
  sound_listed q among =
      let c = front.each q among in
      sound_one c.piece q (All-contains (IsPieceInCell book cell solid) ps c.piece are.sound c.listed) c.is

  complete_at : (face : Plane) (x : Point) → Contains solid.outward face → IsOnFace solid beyond face x → HasPointOfFace face x qs
  complete_at face x has on =
      let found = are.complete face x has (face_of_beyond face x on) in
      ⊎_elim
      (λ none. let not = none x found.has in let ahead = in_front_of_beyond x on.in_cell in absurd (omega (arith, linear)))
      (λ goes. record {
        piece = goes.piece;
        listed = goes.listed;
        lies_on = subst (λ (h : Plane). IsSamePlane face h) (sym goes.is.part.plane) found.lies_on;
        has = (goes.is.part.points x).1 (found.has, in_front_of_beyond x on.in_cell);
      })
      (front.all found.piece found.listed)

  -- what the pieces have in front of a plane are the pieces of the part of the cell there
  pub pieces_in_front : ArePiecesInCell book beyond solid qs
  pieces_in_front = record { sound = all_of_listed (IsPieceInCell book beyond solid) qs sound_listed; complete = complete_at }

-- a cell without pieces of a solid meets no face of it
pub meets_no_face : (book cell : List Plane) (solid : Solid) → ArePiecesInCell book cell solid [] → MeetsNoFace solid cell
meets_no_face book cell solid are face x has on = let found = are.complete face x has on in absurd (Contains-nil found.piece found.listed)

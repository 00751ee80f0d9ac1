-- Fragments of the whole cube, and of both sides of a cell that a plane parts.
use Rattle.std.proofs.Common.{◌≡◌, inl, inr, ⊎_elim, ℕ, ◌+◌, ◌<◌, Bool, true, false, Option, None, List, [], ◌∷◌, ◌++◌, length, map, Contains, take, sym, ◌∙◌, ap, subst}
use Rattle.std.proofs.lemmas.Bool.{MatchBool-at_true, MatchBool-at_false}
use Rattle.std.proofs.lemmas.List.{map-append, take_more}
use Rattle.std.proofs.lemmas.List.Elements.{All-contains, All-weaker, All-nil, Contains-get_or}
use Rattle.qm_lists.proofs.Elements.{All-first_part, Contains-map_from}
use Rattle.qm_space.specs.Point.{Point}
use Rattle.qm_space.specs.Plane.{Plane, IsOn, IsInFront}
use Rattle.qm_space.specs.Reduced.{HasNormal}
use Rattle.qm_space.specs.Cell.{IsInCell, HasPoint}
use Rattle.qm_space.specs.Book.{AreBookPlanes}
use Rattle.qm_convex.specs.Winding.{Winding}
use Rattle.qm_contents.specs.declared.contents.Contents.{Contents}
use Rattle.qm_solids.specs.Solid.{Solid}
use Rattle.qm_solids.specs.Holding.{IsFull}
use Rattle.qm_solids.specs.Cells.{ContainsCell}
use Rattle.qm_solids.specs.Least.{IsNumberedCandidate}
use Rattle.qm_solids.specs.Uniform.{LiesOutside}
use Rattle.qm_solids.specs.Outward.{AreNumberedIn}
use Rattle.qm_solids.specs.InBook.{BookSolid, solid_at, solid_in, solids_in, IsKeptIn, IsBookOf}
use Rattle.qm_solids.proofs.FullSolids.{middle_of_cube, middle_in_cube}
use Rattle.qm_solid_tree.proofs.PartedCells.{both_sides}
use Rattle.qm_space.specs.Turned.{turned}
use Rattle.qm_split.specs.declared.contender.Contender.{Contender}
use Rattle.qm_split.specs.declared.fragments.Fragments.{Fragments}
use Rattle.qm_split.specs.Pieces.{solid_of_contender, IsPieceInCell}
use Rattle.qm_split.specs.CellFragments.{cell_of_fragments, HasPointOn, AreOfSomeSolid, IsKeptContender, AreFragmentsOf}
use Rattle.qm_split.specs.inner.Parts.{IsWindingInCell}
use Rattle.qm_split.specs.inner.Gathered.{IsGathered, HasContenderIn}
use Rattle.qm_split.specs.inner.Ranked.{IsWindingOfSome}
use Rattle.qm_split.proofs.KnownFragments.{kept_one, piece_of_candidate}

-- ---- the whole cube

module _ (book : List Plane) (list : List BookSolid) (is_book : IsBookOf book list) where
  kept_at : (i : ℕ) → i < length list → IsKeptIn book (solid_at list i)
  kept_at i within = All-contains (IsKeptIn book) list (solid_at list i) is_book.each (Contains-get_or list i _ within)

  pub numbered_at : (i : ℕ) → i < length list → AreNumberedIn book (solid_at list i).faces
  numbered_at i within = (kept_at i within).numbered

  pub full_at : (i : ℕ) → i < length list → (solid_at list i).full ≡ true → IsFull (solid_in book (solid_at list i))
  full_at i within full = MatchBool-at_true (IsFull (solid_in book (solid_at list i))) (IsFull (solid_in book (solid_at list i)) → ⊥) full (kept_at i within).flag

  pub outside_at : (i : ℕ) → i < length list → (solid_at list i).full ≡ false → LiesOutside (solid_in book (solid_at list i)) []
  outside_at i within flat x in_cube in_cell holds =
      MatchBool-at_false (IsFull (solid_in book (solid_at list i))) (IsFull (solid_in book (solid_at list i)) → ⊥) flat (kept_at i within).flag holds.full

  -- one solid more of the list
  pub solids_more : (i : ℕ) → i < length list → solids_in book (take i list) ++ solid_in book (solid_at list i) ∷ [] ≡ solids_in book (take (i + 1) list)
  solids_more i within =
      sym (map-append (solid_in book) (take i list) (solid_at list i ∷ []))
      ∙ ap (solids_in book) (sym (take_more list i _ within))

-- the cube has a point
cube_has_point : HasPoint []
cube_has_point = record { point = middle_of_cube; in_cube = middle_in_cube; in_cell = All-nil (λ h. IsInFront h middle_of_cube) }

pub whole_fragments : (book : List Plane) (solids : List Solid) (fragments : Fragments) → AreBookPlanes book → cell_of_fragments fragments ≡ [] → IsGathered book [] None solids fragments.gathering → AreFragmentsOf solids book [] fragments
whole_fragments book solids fragments planes no_planes are = record {
  book_planes = planes;
  cell_is = no_planes;
  inner = cube_has_point;
  given = are.given;
  kept = are.kept;
  accounted = are.accounted;
}

-- ---- both sides

module _ (solids : List Solid) (book cell : List Plane) (fragments : Fragments) (are : AreFragmentsOf solids book cell fragments) where
  abbrev before : Option Contents
  before = fragments.gathering.strongest

  abbrev contenders : List Contender
  contenders = fragments.gathering.contenders.items

  listed_solid : (solid : Solid) → Contains (map solid_of_contender contenders) solid → Contains solids solid
  listed_solid solid among =
      let at = Contains-map_from solid_of_contender contenders solid among in
      subst (λ (s : Solid). Contains solids s) at.2 (kept_one solids book cell fragments are at.0 at.1).listed

  -- a piece on the plane
  pub section_of_piece : (h : Plane) (w : Winding) → IsWindingOfSome contenders h w → IsWindingInCell cell h w
  section_of_piece h w has = subst (IsWindingInCell cell h) (sym has.one.is) (record {
    convex = is.convex;
    on = λ x r. subst (λ (g : Plane). IsOn g x) (ap (λ (v : Winding). v.plane) (sym has.one.is) ∙ has.one.on) r.on;
    in_cube = λ x r. ((is.points x).0 r).in_cube;
    in_cell = λ x r. ((is.points x).0 r).in_cell;
  })
    where
      is : IsPieceInCell book cell (solid_of_contender has.contender) has.one.piece
      is = All-contains (IsPieceInCell book cell (solid_of_contender has.contender)) has.contender.body.value.pieces.items has.one.piece (kept_one solids book cell fragments are has.contender has.listed).contends.pieces.sound has.one.listed

  -- a candidate has a piece in it
  pub contender_in_candidate : (n : ℕ) (h : Plane) → IsNumberedCandidate solids book cell n h → HasContenderIn contenders h
  contender_in_candidate n h is =
      let at = piece_of_candidate solids book cell fragments are n h is in
      record {
        contender = at.contender;
        listed = at.listed;
        piece = record { piece = at.piece; listed = at.listed_piece; lies_in = λ x r. subst (λ (g : Plane). IsOn g x) (sym at.plane) r.on };
      }

  module _ (g : Plane) (half : Fragments) (cell_is : cell_of_fragments half ≡ cell_of_fragments fragments ++ g ∷ []) (inner : HasPoint (cell ++ g ∷ [])) (gathered : IsGathered book (cell ++ g ∷ []) before (map solid_of_contender contenders) half.gathering) where
    abbrev beyond : List Plane
    beyond = cell ++ g ∷ []

    in_cell_of_beyond : (x : Point) → IsInCell beyond x → IsInCell cell x
    in_cell_of_beyond x inside = All-first_part (λ h. IsInFront h x) cell (g ∷ []) inside

    still_contains : (solid : Solid) → ContainsCell solid cell → ContainsCell solid beyond
    still_contains solid contains = record { full = contains.full; inside = λ x in_cube inside. contains.inside x in_cube (in_cell_of_beyond x inside) }

    still_given : (strongest : Option Contents) → strongest ≡ before → AreOfSomeSolid solids cell before → AreOfSomeSolid solids beyond strongest
    still_given strongest same (inl none) = inl (same ∙ none)
    still_given strongest same (inr by) = inr (by.0, by.1, still_contains by.0 by.2, same ∙ by.3)

    pub half_fragments : AreFragmentsOf solids book beyond half
    half_fragments = record {
      book_planes = are.book_planes;
      cell_is = cell_is ∙ ap (λ (hs : List Plane). hs ++ g ∷ []) are.cell_is;
      inner = inner;
      given = ⊎_elim (λ same. still_given half.gathering.strongest same are.given) (λ by. inr (by.0, listed_solid by.0 by.1, by.2, by.3)) gathered.given;
      kept = All-weaker (IsKeptContender (map solid_of_contender contenders) book beyond half.gathering.strongest) (IsKeptContender solids book beyond half.gathering.strongest)
          (λ q kept. record { listed = listed_solid (solid_of_contender q) kept.listed; contends = kept.contends; stronger = kept.stronger }) half.gathering.contenders.items gathered.kept;
      accounted = λ solid listed full. ⊎_elim
          (λ reached. inl (gathered.no_weaker solid.contents reached))
          (λ rest. ⊎_elim (λ stays. gathered.accounted solid stays full) (λ outside. inr (inr (λ x in_cube inside. outside x in_cube (in_cell_of_beyond x inside)))) rest)
          (are.accounted solid listed full);
    }

-- a cell with a point on a plane has a point on each side of it
pub point_aside : (planes cell : List Plane) (h : Plane) (side : Bool) → planes ≡ cell → HasNormal h → HasPointOn planes h → HasPoint (cell ++ turned side h ∷ [])
point_aside planes cell h side same normal has =
    let in_cell = subst (λ (hs : List Plane). IsInCell hs has.point) same has.in_cell in
    let aside = both_sides cell h has.point side normal has.in_cube in_cell has.on in
    record { point = aside.point; in_cube = aside.in_cube; in_cell = aside.in_cell }

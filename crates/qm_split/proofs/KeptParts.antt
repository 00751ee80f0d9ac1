-- What a solid is to what a cell has in front of a plane.
use Rattle.std.specs.List.{filter}
use Rattle.std.proofs.Common.{◌≡◌, pos, ◌≤ℤ◌, ◌<ℤ◌, Contains, Some, None, List, [], ◌∷◌, ◌++◌, length, All, refl, sym, subst, arith}
use Rattle.std.proofs.lemmas.List.Elements.{All-contains}
use Rattle.qm_space.specs.Plane.{Plane, flipped}
use Rattle.qm_space.specs.Reduced.{IsReduced}
use Rattle.qm_space.specs.Cuboid.{Cuboid, least_value, greatest_value}
use Rattle.qm_numbers.proofs.IntegerProducts.{linear}
use Rattle.qm_space.proofs.ReducedPlanes.{flipped_twice}
use Rattle.qm_space.proofs.Planes.{flipped_on, value_flipped}
use Rattle.qm_convex.specs.Winding.{Winding}
use Rattle.qm_convex.specs.Sides.{HasNoneInFront, LiesIn}
use Rattle.qm_solids.specs.Solid.{Solid}
use Rattle.qm_solids.specs.Holding.{IsFull}
use Rattle.qm_solids.specs.Cells.{ContainsCell}
use Rattle.qm_solids.specs.Uniform.{LiesOutside}
use Rattle.qm_solid_tree.proofs.PartedCells.{IsPartOn, contains_front, outside_front}
use Rattle.qm_split.specs.declared.piece.Piece.{Piece}
use Rattle.qm_split.specs.declared.contender.Contender.{Contender}
use Rattle.qm_convex.proofs.Within.{front_by_least, back_by_greatest, none_behind_by_least, none_in_front_by_greatest}
use Rattle.qm_split.specs.declared.contender.Part.{Part}
use Rattle.qm_split.specs.declared.contender.Part.TheVariants.{Kept, Outside}
use Rattle.qm_split.specs.Pieces.{solid_of_contender, IsPieceInCell, ArePiecesInCell, IsHeldWithin, IsContender}
use Rattle.qm_split.specs.inner.PieceParts.{AreFront}
use Rattle.qm_split.specs.inner.Ranked.{IsLesser}
use Rattle.qm_split.specs.inner.Parts.{IsPartIn, IsWindingInCell, IsFoundPart, HasNoneBehind, IsNotAhead, HasAhead, part_count, IsShortened}
use Rattle.qm_split.proofs.HeldCuboids.{pieces_within, held_beyond}
use Rattle.qm_split.proofs.BesidePieces.{stands_off, left_in_front}
use Rattle.qm_split.proofs.PartedPieces.{meets_no_face, pieces_in_front, all_in_front}

-- a contender that stands for a full solid, with the pieces of that solid and a cuboid in which it lies
pub kept_contender : (book cell : List Plane) (contender : Contender) (solid : Solid) → solid_of_contender contender ≡ solid → IsFull solid → All IsReduced solid.outward →
    IsLesser None contender.body.value.pieces.items (Some contender.least) → ArePiecesInCell book cell solid contender.body.value.pieces.items → IsHeldWithin contender.body.value.cuboid solid cell →
    IsContender book cell contender × (solid_of_contender contender ≡ solid)
kept_contender book cell contender solid same full reduced first pieces within = (
  record {
    full = subst IsFull (sym same) full;
    reduced = subst (λ (s : Solid). All IsReduced s.outward) (sym same) reduced;
    first = first;
    pieces = subst (λ (s : Solid). ArePiecesInCell book cell s contender.body.value.pieces.items) (sym same) pieces;
    within = subst (λ (s : Solid). IsHeldWithin contender.body.value.cuboid s cell) (sym same) within;
  },
  same,
)

section_part : (cell : List Plane) (g : Plane) (w : Winding) → IsWindingInCell cell g w → IsPartOn w cell g
section_part cell g w section = record { convex = section.convex; on = section.on; in_cube = section.in_cube; in_cell = section.in_cell }

-- a full solid without pieces in front of a plane
module _ (book cell : List Plane) (solid : Solid) (w : Winding) (g : Plane) (reduced : IsReduced g) (full : IsFull solid) (all_reduced : All IsReduced solid.outward) (section : IsWindingInCell cell g w) (pieces : ArePiecesInCell book (cell ++ g ∷ []) solid []) where
  pub contains_beyond : All (IsNotAhead w g) solid.outward → ContainsCell solid (cell ++ g ∷ [])
  contains_beyond all =
      contains_front solid cell g w reduced all_reduced (section_part cell g w section) (meets_no_face book (cell ++ g ∷ []) solid pieces) full
      (λ o among. All-contains (IsNotAhead w g) solid.outward o all among)

  pub outside_beyond : HasAhead solid.outward w g → LiesOutside solid (cell ++ g ∷ [])
  outside_beyond has =
      outside_front solid cell g w reduced all_reduced (section_part cell g w section) (meets_no_face book (cell ++ g ∷ []) solid pieces)
      has.face has.has_face has.ahead

-- ---- how many pieces

pub shortened : (contender : Contender) (h g : Plane) (part : Part) (qs : List Piece) → AreFront contender.body.value.pieces.items g qs → part_count part ≡ length qs →
    ((w : Winding) → LiesIn w h → HasNoneInFront w g) → IsShortened contender h part
shortened contender h g part qs are count none = record {
  no_more = let m = are.no_more in omega arith;
  fewer = λ has. let f = are.fewer has.piece has.listed (none has.piece.winding.value has.lies_in) in omega arith;
}

-- ---- behind the plane, which is in front of it flipped

pub section_flipped : (cell : List Plane) (g : Plane) (w : Winding) → IsWindingInCell cell g w → IsWindingInCell cell (flipped g) w
section_flipped cell g w section =
    record { convex = section.convex; on = λ x r. (flipped_on g x).1 (section.on x r); in_cube = section.in_cube; in_cell = section.in_cell }

module _ (contender : Contender) (w : Winding) (c : Cuboid) (qs : List Piece) (part : Part) (g : Plane) where
  pub part_ahead : AreFront contender.body.value.pieces.items g qs → IsFoundPart (solid_of_contender contender) w c qs part g → (book cell : List Plane) → IsContender book cell contender →
      IsWindingInCell cell g w → IsHeldWithin c (solid_of_contender contender) (cell ++ g ∷ []) → IsPartIn book (cell ++ g ∷ []) (solid_of_contender contender) part
  part_ahead are found book cell contends section held =
      found book cell contends.full contends.reduced section held (pieces_in_front book cell (solid_of_contender contender) contender.body.value.pieces.items qs g contends.pieces are)

-- ---- a contender whose cuboid lies on one side of a plane

module _ (book cell : List Plane) (contender : Contender) (contends : IsContender book cell contender) (h : Plane) where
  abbrev c : Cuboid
  c = contender.body.value.cuboid

  abbrev pieces : List Piece
  pieces = contender.body.value.pieces.items

  piece_of : (p : Piece) → Contains pieces p → IsPieceInCell book cell (solid_of_contender contender) p
  piece_of p among = All-contains (IsPieceInCell book cell (solid_of_contender contender)) pieces p contends.pieces.sound among

  pub moved_ahead : pos 0 <ℤ least_value h c → AreFront pieces h pieces
  moved_ahead above = all_in_front pieces h (λ p among. ((piece_of p among).convex, front_by_least p.winding.value c h (pieces_within book cell contender contends p among) above))

  pub moved_behind : greatest_value h c <ℤ pos 0 → AreFront pieces (flipped h) pieces
  moved_behind below = all_in_front pieces (flipped h) (λ p among. ((piece_of p among).convex, back_by_greatest p.winding.value c h (pieces_within book cell contender contends p among) below))

  pub none_behind : pos 0 ≤ℤ least_value h c → HasNoneBehind contender h
  none_behind above p among = none_behind_by_least p.winding.value c h (pieces_within book cell contender contends p among) above

  pub none_ahead : greatest_value h c ≤ℤ pos 0 → HasNoneBehind contender (flipped h)
  none_ahead below p among = subst (HasNoneInFront p.winding.value) (sym (flipped_twice h)) (none_in_front_by_greatest p.winding.value c h (pieces_within book cell contender contends p among) below)

  -- a contender whose pieces are all in front of the plane is one there
  pub kept_whole : AreFront pieces h pieces → IsPartIn book (cell ++ h ∷ []) (solid_of_contender contender) (Kept contender)
  kept_whole are =
      kept_contender book (cell ++ h ∷ []) contender (solid_of_contender contender) refl contends.full contends.reduced contends.first
      (pieces_in_front book cell (solid_of_contender contender) pieces pieces h contends.pieces are)
      (held_beyond c (solid_of_contender contender) cell contends.within h)

  -- where it has nothing behind the plane, what does not lie in it is in front
  pub left_pieces : IsReduced h → HasNoneBehind contender h → AreFront pieces h (filter (stands_off h) pieces)
  left_pieces reduced none = left_in_front pieces h reduced (λ p among. let is = piece_of p among in record { convex = is.convex; reduced = is.reduced; none = none p among })

-- a part without pieces is shorter
pub none_left : (contender : Contender) (h : Plane) → IsShortened contender h Outside
none_left contender h = record { no_more = omega arith; fewer = λ has. omega (arith, has.listed.1) }

-- what lies in a plane lies in it turned
lies_in_flipped : (w : Winding) (h : Plane) → LiesIn w h → LiesIn w (flipped h)
lies_in_flipped w h lies x r = let e = value_flipped h x in let on = lies x r in omega (arith, linear)

pub shortened_flipped : (contender : Contender) (h f : Plane) (part : Part) → f ≡ flipped h → IsShortened contender f part → IsShortened contender h part
shortened_flipped contender h f part same short = record {
  no_more = short.no_more;
  fewer = λ has. short.fewer (record {
    piece = has.piece;
    listed = has.listed;
    lies_in = subst (LiesIn has.piece.winding.value) (sym same) (lies_in_flipped has.piece.winding.value h has.lies_in);
  });
}

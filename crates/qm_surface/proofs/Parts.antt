-- Each piece is part of the polygon that was cut: what passes from a polygon to its parts in front of each cutter and behind it
-- holds of the polygons of all pieces.
use Rattle.std.proofs.Common.{◌≡◌, ℕ, Bool, not, List, [], map, All, Option, Some, None, refl}
use Rattle.std.specs.Prelude.{option_to_list}
use Rattle.std.proofs.lemmas.List.Elements.{All-nil, All-cons, All-head, All-tail, All-append, All-map, All-weaker}
use Rattle.qm_space.specs.Plane.{Plane, flipped}
use Rattle.qm_space.specs.Turned.{turned}
use Rattle.qm_convex.specs.Winding.{Winding}
use Rattle.qm_convex.specs.Cut.{IsPartInFront}
use Rattle.qm_solids.specs.InBook.{BookSolid, solid_at}
use Rattle.qm_surface.specs.Owner.{FaceOwner}
use Rattle.qm_surface.specs.Cutting.{cutters, IsFrontPart, IsCarved, behind_all, goes_on, ends, AreCarved, none, more}
use Rattle.qm_surface.specs.Surface.{FacePiece, piece_of, AreOwnedPieces, all_cut, cut_by}

module _ (Kept : Winding → Type 0) (Cuts : Plane → Type 0) (in_front : (w v : Winding) (g : Plane) → Cuts g → Kept w → IsPartInFront v w g → Kept v) (behind : (w v : Winding) (g : Plane) → Cuts g → Kept w → IsPartInFront v w (flipped g) → Kept v) where
  front_kept : (front : Option Winding) (w : Winding) (g : Plane) → Cuts g → Kept w → IsFrontPart front w g → All Kept (option_to_list front)
  front_kept None w g cuts kept is = All-nil Kept
  front_kept (Some v) w g cuts kept is = All-cons Kept v [] (in_front w v g cuts kept is) (All-nil Kept)

  carved_kept : (planes : List Plane) (w : Winding) (left : List Winding) (inner : Option Winding) → IsCarved planes w left inner → All Cuts planes → Kept w → All Kept left × All Kept (option_to_list inner)
  carved_kept planes w left inner behind_all cuts kept = (All-nil Kept, All-cons Kept w [] kept (All-nil Kept))
  carved_kept planes w left inner (goes_on {g = g} {planes = others} {behind = back} {left = rest} front is_front is_behind carved) cuts kept =
      let one = All-head Cuts g others cuts in
      let below = carved_kept others back rest inner carved (All-tail Cuts g others cuts) (behind w back g one kept is_behind) in
      (All-append Kept (option_to_list front) rest (front_kept front w g one kept is_front) below.0, below.1)
  carved_kept planes w left inner (ends {g = g} {planes = others} front is_front none_behind) cuts kept = (front_kept front w g (All-head Cuts g others cuts) kept is_front, All-nil Kept)

  all_carved_kept : (planes : List Plane) (rest left inners : List Winding) → AreCarved planes rest left inners → All Cuts planes → All Kept rest → All Kept left × All Kept inners
  all_carved_kept planes rest left inners none cuts kept = (All-nil Kept, All-nil Kept)
  all_carved_kept planes rest left inners (more {w = w} {rest = others} {left = its_left} {others = left_others} {inners = inner_others} {inner = inner} carved are) cuts kept =
      let one = carved_kept planes w its_left inner carved cuts (All-head Kept w others kept) in
      let rest = all_carved_kept planes others left_others inner_others are cuts (All-tail Kept w others kept) in
      (All-append Kept its_left left_others one.0 rest.0, All-append Kept (option_to_list inner) inner_others one.1 rest.1)

  module _ (planes : List Plane) (solids : List BookSolid) (n : ℕ) (side : Bool) (leaf : ℕ) (each_cuts : (owner : FaceOwner) → All Cuts (cutters planes n (solid_at solids owner.brush).faces)) where
    -- a piece with such a polygon
    pub record IsKeptPiece (piece : FacePiece) : Type 0 where
      pub kept : Kept piece.winding
      pub leaf_is : piece.leaf ≡ leaf
      pub into : piece.into ≡ turned (not side) piece.winding.plane

    own_pieces : (owner : FaceOwner) (inners : List Winding) → All Kept inners → All IsKeptPiece (map (piece_of leaf side owner) inners)
    own_pieces owner inners kept =
        All-map IsKeptPiece (piece_of leaf side owner) inners
        (All-weaker Kept (λ v. IsKeptPiece (piece_of leaf side owner v)) (λ v is. record { kept = is; leaf_is = refl; into = refl }) inners kept)

    pub pieces_kept : (owners : List FaceOwner) (rest : List Winding) (pieces : List FacePiece) → AreOwnedPieces planes solids n side leaf owners rest pieces → All Kept rest → All IsKeptPiece pieces
    pieces_kept owners rest pieces all_cut kept = All-nil IsKeptPiece
    pieces_kept owners rest pieces (cut_by {owner = owner} {owners = others} {left = left} {inners = inners} {pieces = later} carved are) kept =
        let parts = all_carved_kept (cutters planes n (solid_at solids owner.brush).faces) rest left inners carved (each_cuts owner) kept in
        All-append IsKeptPiece (map (piece_of leaf side owner) inners) later (own_pieces owner inners parts.1) (pieces_kept others left later are parts.0)

-- The planes of the pieces of a surface have numbers.
use Rattle.std.proofs.Common.{◌≡◌, ◌<◌, ℕ, pos, negsuc, Bool, true, not, ◌<ℤ◌, List, [], ◌∷◌, length, All, Some, refl, sym, ap, subst, ◌∙◌, inl, inr, arith}
use Rattle.std.specs.Prelude.{slice_get}
use Rattle.std.proofs.lemmas.Bool.{cases_lt}
use Rattle.std.proofs.lemmas.List.{get_or_past}
use Rattle.std.proofs.lemmas.List.Elements.{All-nil, All-cons, All-contains, All-weaker}
use Rattle.std.proofs.lemmas.Option.{slice_get-get_or}
use Rattle.qm_numbers.proofs.IntegerProducts.{linear}
use Rattle.qm_numbers.proofs.Ring.{variable, number, solved}
use Rattle.qm_space.specs.Bounds.{world_extent}
use Rattle.qm_space.specs.Plane.{Plane, plane_of}
use Rattle.qm_space.specs.Turned.{turned}
use Rattle.qm_space.specs.Determinant.{determinant}
use Rattle.qm_space.specs.Meet.{meet}
use Rattle.qm_space.specs.Cube.{cube_walls, wall_x, wall_y, wall_z, mirrored}
use Rattle.qm_space.specs.Book.{plane_at}
use Rattle.qm_space.proofs.PlaneSymbols.{symbol_determinant}
use Rattle.qm_convex.specs.Winding.{Winding, edge_at, edge_after, corner_at, IsConvex}
use Rattle.qm_partition.specs.Tree.{Tree}
use Rattle.qm_surface.specs.Surface.{FacePiece}
use Rattle.qm_surface.specs.Covered.{IsBookEdge, of_cube, of_book, IsWithinContact}
use Rattle.qm_face_layout.specs.PlaneNumbers.{walls_at, IsNamedPlane}
use Rattle.qm_face_records.specs.PiecesInBook.{AreWithinContacts}
use Rattle.qm_face_records.specs.inner.NumberedPlanes.{HasPlaneNumbers}

module _ (planes : List Plane) where
  abbrev IsNamed : Plane → Type 0
  IsNamed = IsNamedPlane planes world_extent

  wall_named : (k : ℕ) (wall : Plane) → slice_get (walls_at world_extent) k ≡ Some wall → IsNamed wall
  wall_named k wall is = (negsuc k, record { named = wall; named_is = is; side = true; turned_is = refl })

  walls_named : All IsNamed cube_walls
  walls_named =
      All-cons IsNamed wall_x (wall_y ∷ wall_z ∷ mirrored wall_x ∷ mirrored wall_y ∷ mirrored wall_z ∷ []) (wall_named 0 wall_x refl)
      (All-cons IsNamed wall_y (wall_z ∷ mirrored wall_x ∷ mirrored wall_y ∷ mirrored wall_z ∷ []) (wall_named 2 wall_y refl)
      (All-cons IsNamed wall_z (mirrored wall_x ∷ mirrored wall_y ∷ mirrored wall_z ∷ []) (wall_named 4 wall_z refl)
      (All-cons IsNamed (mirrored wall_x) (mirrored wall_y ∷ mirrored wall_z ∷ []) (wall_named 1 (mirrored wall_x) refl)
      (All-cons IsNamed (mirrored wall_y) (mirrored wall_z ∷ []) (wall_named 3 (mirrored wall_y) refl)
      (All-cons IsNamed (mirrored wall_z) [] (wall_named 5 (mirrored wall_z) refl) (All-nil IsNamed))))))

  book_named : (n : ℕ) (side : Bool) → n < length planes → IsNamed (turned side (plane_at planes n))
  book_named n side within = (pos n, record { named = plane_at planes n; named_is = slice_get-get_or planes n (plane_of (pos 0) (pos 0) (pos 0) (pos 0)) within; side = side; turned_is = refl })

  edge_named : (edge : Plane) → IsBookEdge planes edge → IsNamed edge
  edge_named edge (of_cube has) = All-contains IsNamed cube_walls edge walls_named has
  edge_named _ (of_book n side within) = book_named n side within

  -- no corner lies on a plane without a normal
  no_corner : (b c : Plane) → (meet (plane_of (pos 0) (pos 0) (pos 0) (pos 0)) b c).w ≡ pos 0
  unfolding meet determinant
  no_corner b c =
      let t = variable in
      let zero = number (pos 0) in
      solved (b.nx ∷ b.ny ∷ b.nz ∷ c.nx ∷ c.ny ∷ c.nz ∷ []) (symbol_determinant zero zero zero (t 0) (t 1) (t 2) (t 3) (t 4) (t 5)) zero tt

  own_there : (w : Winding) (n : ℕ) → IsConvex w → w.plane ≡ plane_at planes n → n < length planes
  unfolding corner_at
  own_there w n convex is =
      elim (cases_lt n (length planes)) [
        | inl within ↦ within
        | inr past ↦ absurd (
            let nothing : w.plane ≡ plane_of (pos 0) (pos 0) (pos 0) (pos 0) = is ∙ get_or_past planes n (plane_of (pos 0) (pos 0) (pos 0) (pos 0)) past in
            let none : (meet w.plane (edge_at w 0) (edge_after w 0)).w ≡ pos 0 = ap (λ (h : Plane). (meet h (edge_at w 0) (edge_after w 0)).w) nothing ∙ no_corner (edge_at w 0) (edge_after w 0) in
            let some : pos 0 <ℤ (meet w.plane (edge_at w 0) (edge_after w 0)).w = convex.weight 0 (omega (arith, convex.enough)) in
            omega (arith, linear, none, some)
            )
      ]

-- a piece within a contact of a tree has planes of the tree and walls alone
within_has_numbers : (tree : Tree) (piece : FacePiece) → IsWithinContact tree piece → HasPlaneNumbers tree.planes piece
within_has_numbers tree piece is =
    let n = is.meeting.plane in
    record {
      side = not is.side;
      into = is.into;
      named = record {
        own = subst (IsNamedPlane tree.planes world_extent) (sym is.plane) (book_named tree.planes n true (own_there tree.planes piece.winding n is.convex is.plane));
        edges = All-weaker (IsBookEdge tree.planes) (IsNamedPlane tree.planes world_extent) (edge_named tree.planes) piece.winding.edges is.edges;
      };
    }

pub pieces_have_numbers : (planes : List Plane) (pieces : List FacePiece) → AreWithinContacts planes pieces → All (HasPlaneNumbers planes) pieces
pieces_have_numbers planes pieces are =
    subst (λ (hs : List Plane). All (HasPlaneNumbers hs) pieces) are.planes_are (All-weaker (IsWithinContact are.tree) (HasPlaneNumbers are.tree.planes) (within_has_numbers are.tree) pieces are.within)

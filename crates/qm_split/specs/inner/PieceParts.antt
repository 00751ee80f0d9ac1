use Rattle.std.specs.Ordering.{int_eq}
use Rattle.std.specs.Prelude.{◌≡◌, ◌⊎◌, ◌<◌, ◌≤◌, Bool, ◌&&◌, ◌||◌, List, length, Contains, Option, Some, None, IsSomeAnd, MatchOption, ℕ}
use Rattle.qm_space.specs.Plane.{Plane, flipped}
use Rattle.qm_convex.specs.Winding.{Winding}
use Rattle.qm_convex.specs.Sides.{HasNoneInFront}
use Rattle.qm_convex.specs.Cut.{IsPartInFront}
use Rattle.qm_split.specs.declared.piece.Piece.{Piece}

-- What pieces have in front of a plane.

-- the piece q is what the piece p has in front of the plane
pub record IsFrontPiece (p : Piece) (g : Plane) (q : Piece) : Type 0 where
  pub number : q.number ≡ p.number
  pub part : IsPartInFront q.winding.value p.winding.value g

-- the answer, for a piece that may have nothing there
abbrev pub IsPartOf : Piece → Plane → Option Piece → Type 0
IsPartOf p g part = MatchOption part (HasNoneInFront p.winding.value g) (IsFrontPiece p g)

-- a piece of a list that is in front of the plane in part
pub record IsCutFrom (ps : List Piece) (g : Plane) (q : Piece) : Type 0 where
  pub piece : Piece
  pub listed : Contains ps piece
  pub is : IsFrontPiece piece g q

-- one of a list that is what the piece p has in front of the plane
pub record GoesTo (qs : List Piece) (g : Plane) (p : Piece) : Type 0 where
  pub piece : Piece
  pub listed : Contains qs piece
  pub is : IsFrontPiece p g piece

-- the pieces qs are what the pieces ps have in front of the plane, and they are fewer where one has nothing there
pub record AreFront (ps : List Piece) (g : Plane) (qs : List Piece) : Type 0 where
  pub each : (q : Piece) → Contains qs q → IsCutFrom ps g q
  pub all : (p : Piece) → Contains ps p → HasNoneInFront p.winding.value g ⊎ GoesTo qs g p
  pub no_more : length qs ≤ length ps
  pub fewer : (p : Piece) → Contains ps p → HasNoneInFront p.winding.value g → length qs < length ps

-- the piece of a number that has the winding, if there is one
abbrev pub IsNumberedPiece : ℕ → Option Winding → Option Piece → Type 0
IsNumberedPiece n None piece = piece ≡ None
IsNumberedPiece n (Some winding) piece = IsSomeAnd piece (λ p. (p.number ≡ n) × (p.winding.value ≡ winding))

-- whether two planes are the same
abbrev pub is_same : Plane → Plane → Bool
is_same g h = int_eq g.nx h.nx && (int_eq g.ny h.ny && (int_eq g.nz h.nz && int_eq g.d h.d))

-- whether the piece's plane is a plane, turned to either side
abbrev pub is_on : Plane → Piece → Bool
is_on g p = is_same p.winding.value.plane g || is_same p.winding.value.plane (flipped g)

use Rattle.std.specs.Prelude.{◌≡◌, ◌⊎◌, ◌↔◌, true, List, Contains, Option, Some, None}
use Rattle.qm_space.specs.Plane.{Plane}
use Rattle.qm_convex.specs.Winding.{Winding}
use Rattle.qm_solids.specs.Least.{IsAxial}
use Rattle.qm_split.specs.declared.rank.Rank.{Rank}
use Rattle.qm_split.specs.declared.piece.Piece.{Piece}
use Rattle.qm_split.specs.declared.contender.Contender.{Contender}
use Rattle.qm_split.specs.inner.Ranks.{IsNoLater}

-- Pieces by their planes' ranks.

-- where the piece's plane comes among candidates
pub record IsRankOf (piece : Piece) (rank : Rank) : Type 0 where
  pub axial : (rank.axial ≡ true) ↔ IsAxial piece.winding.value.plane
  pub number : rank.number ≡ piece.number

-- the rank of one of the pieces
pub record IsRankOfOne (pieces : List Piece) (rank : Rank) : Type 0 where
  pub piece : Piece
  pub listed : Contains pieces piece
  pub is : IsRankOf piece rank

-- after none of the pieces
abbrev pub IsAfterNone : List Piece → Rank → Type 0
IsAfterNone pieces rank = (piece : Piece) (other : Rank) → Contains pieces piece → IsRankOf piece other → IsNoLater rank other

-- the first of a rank, which may be missing, and those of some pieces
abbrev pub IsLesser : Option Rank → List Piece → Option Rank → Type 0
IsLesser before pieces None = (before ≡ None) × ((piece : Piece) → Contains pieces piece → ⊥)
IsLesser before pieces (Some first) =
    ((before ≡ Some first) ⊎ IsRankOfOne pieces first) × ((rank : Rank) → before ≡ Some rank → IsNoLater first rank) × IsAfterNone pieces first

-- the rank of a piece of one of the contenders
pub record IsRankOfSome (contenders : List Contender) (rank : Rank) : Type 0 where
  pub contender : Contender
  pub listed : Contains contenders contender
  pub one : IsRankOfOne contender.body.value.pieces.items rank

-- the first of the ranks of all pieces, where there is a piece
abbrev pub IsLeastRank : List Contender → Option Rank → Type 0
IsLeastRank contenders None = (contender : Contender) (piece : Piece) → Contains contenders contender → Contains contender.body.value.pieces.items piece → ⊥
IsLeastRank contenders (Some first) =
    IsRankOfSome contenders first × ((contender : Contender) → Contains contenders contender → IsAfterNone contender.body.value.pieces.items first)

-- the winding of one of the pieces, on a plane
pub record IsWindingOf (pieces : List Piece) (h : Plane) (w : Winding) : Type 0 where
  pub piece : Piece
  pub listed : Contains pieces piece
  pub is : w ≡ piece.winding.value
  pub on : w.plane ≡ h

pub record IsWindingOfSome (contenders : List Contender) (h : Plane) (w : Winding) : Type 0 where
  pub contender : Contender
  pub listed : Contains contenders contender
  pub one : IsWindingOf contender.body.value.pieces.items h w

use Rattle.std.specs.Prelude.{◌≡◌, ◌⊎◌, ◌<◌, ◌≤◌, Bool, nat_lt, List, [], ◌∷◌, ◌++◌, Option, Some, filter, All, Contains}
use Rattle.qm_space.specs.Plane.{Plane}
use Rattle.qm_contents.specs.declared.contents.Contents.{Contents}
use Rattle.qm_contents.specs.Precedence.{strength}
use Rattle.qm_solids.specs.Solid.{Solid}
use Rattle.qm_solids.specs.Holding.{IsFull}
use Rattle.qm_solids.specs.Cells.{ContainsCell}
use Rattle.qm_split.specs.declared.contender.Contender.{Contender}
use Rattle.qm_split.specs.declared.gathering.Gathering.{Gathering}
use Rattle.qm_split.specs.CellFragments.{pieces_of, IsAtMostKnown, IsAccounted, IsKeptContender}
use Rattle.qm_split.specs.inner.Parts.{HasPieceIn}

-- What is known of a cell while solids are looked at one after another.

-- contents are as before, or those of one of the solids that contains the cell
abbrev pub IsRaisedBy : List Solid → List Plane → Option Contents → Option Contents → Type 0
IsRaisedBy done cell before strongest =
    (strongest ≡ before) ⊎ ((solid : Solid) × Contains done solid × ContainsCell solid cell × (strongest ≡ Some solid.contents))

-- after the solids that are done, where some contents were known before
pub record IsGathered (book cell : List Plane) (before : Option Contents) (done : List Solid) (gathering : Gathering) : Type 0 where
  pub no_weaker : (contents : Contents) → IsAtMostKnown before contents → IsAtMostKnown gathering.strongest contents
  pub given : IsRaisedBy done cell before gathering.strongest
  pub kept : All (IsKeptContender done book cell gathering.strongest) gathering.contenders.items
  pub accounted : (solid : Solid) → Contains done solid → IsFull solid →
      IsAccounted cell gathering.strongest gathering.contenders.items solid

-- some contender has a piece in the plane
pub record HasContenderIn (contenders : List Contender) (h : Plane) : Type 0 where
  pub contender : Contender
  pub listed : Contains contenders contender
  pub piece : HasPieceIn contender.body.value.pieces.items h

-- the gathering has no more pieces than these contenders, and fewer where one has a piece in the plane
pub record HasFewer (contenders : List Contender) (h : Plane) (gathering : Gathering) : Type 0 where
  pub no_more : pieces_of gathering.contenders.items ≤ pieces_of contenders
  pub fewer : HasContenderIn contenders h → pieces_of gathering.contenders.items < pieces_of contenders

-- a contender is kept unless contents as strong are known
pub data Keeps (old : Gathering) (contender : Contender) (new : Gathering) : Type 0 where
  passed : IsAtMostKnown old.strongest contender.contents → new ≡ old → Keeps old contender new
  gained : (IsAtMostKnown old.strongest contender.contents → ⊥) → new.strongest ≡ old.strongest →
      new.contenders.items ≡ old.contenders.items ++ contender ∷ [] → Keeps old contender new

abbrev pub is_stronger_than : Contents → Contender → Bool
is_stronger_than contents contender = nat_lt (strength contents) (strength contender.contents)

-- contents are noted unless others as strong are known, and contenders that are not stronger are given up
pub data Raises (old : Gathering) (contents : Contents) (new : Gathering) : Type 0 where
  known : IsAtMostKnown old.strongest contents → new ≡ old → Raises old contents new
  risen : (IsAtMostKnown old.strongest contents → ⊥) → new.strongest ≡ Some contents →
      new.contenders.items ≡ filter (is_stronger_than contents) old.contenders.items → Raises old contents new

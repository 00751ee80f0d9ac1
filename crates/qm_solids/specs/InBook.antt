use Rattle.std.specs.Prelude.{ℕ, Bool, false, List, [], slice_index_or, All, map}
use Rattle.std.specs.Bool.{MatchBool}
use Rattle.qm_space.specs.Plane.{Plane}
use Rattle.qm_space.specs.Book.{AreBookPlanes}
use Rattle.qm_contents.specs.declared.contents.Contents.{Contents}
use Rattle.qm_contents.specs.declared.contents.Contents.TheVariants.{Empty}
use Rattle.qm_solids.specs.declared.face.FaceRef.{FaceRef}
use Rattle.qm_solids.specs.Solid.{Solid}
use Rattle.qm_solids.specs.Outward.{outward_planes, AreNumberedIn}
use Rattle.qm_solids.specs.Holding.{IsFull}

-- Solids by the faces that they have in a book of planes, as code keeps them.

-- what fills the solid, whether it is full, and its faces
pub record BookSolid : Type 0 where
  pub contents : Contents
  pub full : Bool
  pub faces : List FaceRef

-- the solid of a number; a number that is not there names one that is empty and has no faces
abbrev pub solid_at : List BookSolid → ℕ → BookSolid
solid_at solids n = slice_index_or solids n (record { contents = Empty; full = false; faces = [] })

-- the solid: behind the outward planes of its faces
abbrev pub solid_in : List Plane → BookSolid → Solid
solid_in book solid = record { contents = solid.contents; outward = outward_planes book solid.faces }

abbrev pub solids_in : List Plane → List BookSolid → List Solid
solids_in book solids = map (solid_in book) solids

-- the book has the planes of its faces, and the flag tells whether it is full
pub record IsKeptIn (book : List Plane) (solid : BookSolid) : Type 0 where
  pub numbered : AreNumberedIn book solid.faces
  pub flag : MatchBool solid.full (IsFull (solid_in book solid)) (IsFull (solid_in book solid) → ⊥)

-- the book is one that was filled with the planes of these solids; it may have others
pub record IsBookOf (book : List Plane) (solids : List BookSolid) : Type 0 where
  pub planes : AreBookPlanes book
  pub each : All (IsKeptIn book) solids

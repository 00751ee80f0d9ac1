use Rattle.std.specs.Prelude.{◌≡◌, ℕ, Bool, List, [], ◌∷◌, ◌++◌}
use Rattle.std.specs.Prelude.{map as mapped}
use Rattle.qm_space.specs.Plane.{Plane}
use Rattle.qm_space.specs.Turned.{turned}
use Rattle.qm_space.specs.Entered.{EntersBook, AreEnteredInBook}
use Rattle.qm_solids.specs.declared.face.FaceRef.{FaceRef}
use Rattle.qm_solids.specs.Outward.{outward_planes, AreNumberedIn}

-- Faces whose planes enter a book, and which are then faces by the numbers of their planes. A face is here anything that has
-- a plane, and a flag that tells whether outward is the front of it.

-- first ones of these planes entered, one after another
pub record AreFirstEntered (old planes new : List Plane) : Type 0 where
  pub first : List Plane
  pub rest : List Plane
  pub parts : planes ≡ first ++ rest
  pub entered : AreEnteredInBook old first new

-- a face of this plane and flag was added at the end of a list of faces, and the plane entered
pub record IsFaceEntered (side : Plane × Bool) (before after : List FaceRef) (old new : List Plane) : Type 0 where
  pub number : ℕ
  pub enters : EntersBook old new side.0 number
  pub added : after ≡ before ++ record { plane = number; out_is_front = side.1 } ∷ []

module _ {F : Type 0} (side_of : F → Plane × Bool) where
  -- the plane of a face
  abbrev pub plane_on_side : F → Plane
  plane_on_side face = (side_of face).0

  -- the same, turned outward
  abbrev pub turned_outward : F → Plane
  turned_outward face = turned (side_of face).1 (side_of face).0

  -- faces were added at the end of a list of faces, and their planes entered
  pub record AreFacesEntered (faces : List F) (before after : List FaceRef) (old new : List Plane) : Type 0 where
    pub its : List FaceRef
    pub added : after ≡ before ++ its
    pub numbered : AreNumberedIn new its
    pub outward : outward_planes new its ≡ mapped turned_outward faces
    pub entered : AreEnteredInBook old (mapped plane_on_side faces) new

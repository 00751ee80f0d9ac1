use Rattle.std.specs.Prelude.{◌≡◌, ◌<◌, ℕ, ◌+◌, ◌*◌, Bool, true, false, List, [], ◌∷◌, ◌++◌, take, drop, length, map, option_to_list, slice_index_or}
use Rattle.std.specs.List.{position_from}
use Rattle.qm_solids.specs.declared.face.FaceRef.{FaceRef}
use Rattle.qm_solids.specs.InBook.{BookSolid}
use Rattle.qm_surface.specs.Owner.{FaceOwner, is_towards, owning_face, owners_from}

-- Rows of owners, two for each plane: those with the rock behind it, and those with the rock in front.

-- a brush and its face, as an owner
abbrev pub owner_at : ℕ → ℕ → FaceOwner
owner_at brush face = record { brush = brush; face = face }

-- the place of a row
abbrev pub key_of : ℕ → Bool → ℕ
key_of n true = 2 * n + 1
key_of n false = 2 * n

abbrev pub row_of : List (List FaceOwner) → ℕ → Bool → List FaceOwner
row_of rows n side = slice_index_or rows (key_of n side) []

-- of so many planes each side has its row, which holds what may own points there
pub record AreOwnerRows (planes : ℕ) (solids : List BookSolid) (rows : List (List FaceOwner)) : Type 0 where
  pub two_each : length rows ≡ 2 * planes
  pub rows_are : (n : ℕ) (side : Bool) → n < planes → row_of rows n side ≡ owners_from n side solids 0

-- the same for the first brushes
pub record AreRowsSoFar (planes : ℕ) (solids : List BookSolid) (k : ℕ) (rows : List (List FaceOwner)) : Type 0 where
  pub two_each : length rows ≡ 2 * planes
  pub so_far : (n : ℕ) (side : Bool) → n < planes → owners_from n side solids 0 ≡ row_of rows n side ++ owners_from n side (drop k solids) k

-- each row has an owner more where the brush may own points there
pub record IsBrushAdded (planes : ℕ) (solid : BookSolid) (brush : ℕ) (old new : List (List FaceOwner)) : Type 0 where
  pub same_count : length new ≡ length old
  pub added : (n : ℕ) (side : Bool) → n < planes → row_of new n side ≡ row_of old n side ++ map (owner_at brush) (option_to_list (owning_face n side solid))

-- the first of some faces that is towards the side of a row, as an owner
abbrev pub first_owner_of : List FaceRef → ℕ → ℕ → Bool → List FaceOwner
first_owner_of faces brush n side = map (owner_at brush) (option_to_list (position_from (is_towards n side) 0 faces))

-- each row has an owner more where one of the faces is towards its side
pub record AreFacesAdded (planes : ℕ) (faces : List FaceRef) (brush : ℕ) (old new : List (List FaceOwner)) : Type 0 where
  pub same_count : length new ≡ length old
  pub added : (n : ℕ) (side : Bool) → n < planes → row_of new n side ≡ row_of old n side ++ first_owner_of faces brush n side

-- the same with one face more
pub record IsFaceAdded (planes : ℕ) (faces : List FaceRef) (i : ℕ) (brush : ℕ) (old new : List (List FaceOwner)) : Type 0 where
  pub same_count : length new ≡ length old
  pub added : (n : ℕ) (side : Bool) → n < planes → (before : List FaceOwner) → row_of old n side ≡ before ++ first_owner_of (take i faces) brush n side →
      row_of new n side ≡ before ++ first_owner_of (take (i + 1) faces) brush n side

-- one row has an owner more
pub record IsOwnerPushed (place : ℕ) (owner : FaceOwner) (old new : List (List FaceOwner)) : Type 0 where
  pub same_count : length new ≡ length old
  pub here : slice_index_or new place [] ≡ slice_index_or old place [] ++ owner ∷ []
  pub elsewhere : (other : ℕ) → (other ≡ place → ⊥) → slice_index_or new other [] ≡ slice_index_or old other []

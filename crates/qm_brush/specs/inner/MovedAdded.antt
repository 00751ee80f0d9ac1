use Rattle.std.specs.Prelude.{◌≡◌, ◌⊎◌, List, [], ◌∷◌, ◌++◌, All}
use Rattle.std.specs.List.{AllZip}
use Rattle.qm_space.specs.Plane.{Plane}
use Rattle.qm_space.specs.Book.{AreBookPlanes}
use Rattle.qm_space.specs.Cuboid.{Cuboid}
use Rattle.qm_space.specs.Entered.{AreEnteredInBook}
use Rattle.qm_mapfile.specs.declared.entity.Brush.{Brush}
use Rattle.qm_solids.specs.Alike.{IsAlike}
use Rattle.qm_solids.specs.InBook.{BookSolid, solid_in, solids_in, IsKeptIn}
use Rattle.qm_blocking.specs.Blocking.{IsObstacle, AreObstacles}
use Rattle.qm_blocking.specs.MovedSolids.{moved_part, moved_parts, moved_planes_of_brush, moved_planes}
use Rattle.qm_brush.specs.inner.Added.{IsLeftOut}
use Rattle.qm_brush.specs.inner.Entered.{AreFirstEntered}

-- a brush was added at the end of a list, behind its planes moved by a box, and these entered
pub record IsMovedAdded (box : Cuboid) (brush : Brush) (before after : List BookSolid) (old new : List Plane) : Type 0 where
  pub its : BookSolid
  pub added : after ≡ before ++ its ∷ []
  pub kept : IsKeptIn new its
  pub alike : IsAlike (moved_part box brush) (solid_in new its)
  pub planes : AreBookPlanes new
  pub entered : AreEnteredInBook old (moved_planes_of_brush box brush) new

-- a brush that is no obstacle adds nothing
abbrev pub IsMovedIfObstacle : Cuboid → Brush → List BookSolid → List BookSolid → List Plane → List Plane → Type 0
IsMovedIfObstacle box brush before after old new =
    (IsObstacle brush × IsMovedAdded box brush before after old new) ⊎ ((IsObstacle brush → ⊥) × IsLeftOut before after old new)

-- where memory runs out nothing entered, or first planes of an obstacle
abbrev pub IsPartlyEntered : Cuboid → Brush → List Plane → List Plane → Type 0
IsPartlyEntered box brush old new =
    (new ≡ old) ⊎ (IsObstacle brush × AreFirstEntered old (moved_planes_of_brush box brush) new)

-- the list has the obstacles among some brushes, moved, and the moved planes of their faces entered
pub record AreMovedIn (box : Cuboid) (brushes : List Brush) (list : List BookSolid) (old new : List Plane) : Type 0 where
  pub those : List Brush
  pub are : AreObstacles brushes those
  pub solids : AllZip IsAlike (moved_parts box those) (solids_in new list)
  pub kept : All (IsKeptIn new) list
  pub planes : AreBookPlanes new
  pub entered : AreEnteredInBook old (moved_planes box those) new

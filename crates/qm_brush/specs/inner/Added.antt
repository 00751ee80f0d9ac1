use Rattle.std.specs.Prelude.{◌≡◌, List, [], ◌∷◌, ◌++◌, MatchOption, All}
use Rattle.std.specs.List.{AllZip}
use Rattle.qm_space.specs.Plane.{Plane}
use Rattle.qm_space.specs.Book.{AreBookPlanes}
use Rattle.qm_space.specs.Entered.{AreEnteredInBook}
use Rattle.qm_mapfile.specs.declared.entity.Brush.{Brush}
use Rattle.qm_contents.specs.declared.contents.Contents.{Contents}
use Rattle.qm_solids.specs.Alike.{IsAlike}
use Rattle.qm_solids.specs.InBook.{BookSolid, solid_in, solids_in, IsKeptIn}
use Rattle.qm_drawn.specs.Brushes.{contents_of_brush}
use Rattle.qm_drawn.specs.Solids.{filled_with, solids_of_drawn}
use Rattle.qm_drawn.specs.Planes.{planes_of_brush, planes_of_drawn}

-- a brush with these contents was added at the end of a list, and the planes of its faces entered
pub record IsBrushAdded (brush : Brush) (contents : Contents) (before after : List BookSolid) (old new : List Plane) : Type 0 where
  pub its : BookSolid
  pub added : after ≡ before ++ its ∷ []
  pub kept : IsKeptIn new its
  pub alike : IsAlike (filled_with brush contents) (solid_in new its)
  pub planes : AreBookPlanes new
  pub entered : AreEnteredInBook old (planes_of_brush brush) new

-- a clip brush adds nothing
pub record IsLeftOut (before after : List BookSolid) (old new : List Plane) : Type 0 where
  pub same_brushes : after ≡ before
  pub same_book : new ≡ old

abbrev pub IsAddedIfDrawn : Brush → List BookSolid → List BookSolid → List Plane → List Plane → Type 0
IsAddedIfDrawn brush before after old new =
    MatchOption (contents_of_brush brush) (IsLeftOut before after old new) (λ contents. IsBrushAdded brush contents before after old new)

-- the list has the solids of those brushes that are drawn, and the planes of their faces entered
pub record AreAdded (brushes : List Brush) (list : List BookSolid) (old new : List Plane) : Type 0 where
  pub solids : AllZip IsAlike (solids_of_drawn brushes) (solids_in new list)
  pub kept : All (IsKeptIn new) list
  pub planes : AreBookPlanes new
  pub entered : AreEnteredInBook old (planes_of_drawn brushes) new

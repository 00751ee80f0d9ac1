use Rattle.std.specs.Prelude.{◌≡◌, List, [], ◌∷◌, ◌++◌}
use Rattle.qm_space.specs.Plane.{Plane}
use Rattle.qm_split.specs.declared.fragments.Fragments.{Fragments}
use Rattle.qm_split.specs.declared.gathering.Gathering.{Gathering}
use Rattle.qm_split.specs.CellFragments.{cell_of_fragments}

-- the fragments are those gathered in front of a plane of a cell
pub record IsHalf (cell : List Plane) (g : Plane) (gathering : Gathering) (half : Fragments) : Type 0 where
  pub cell_is : cell_of_fragments half ≡ cell ++ g ∷ []
  pub gathered : half.gathering ≡ gathering

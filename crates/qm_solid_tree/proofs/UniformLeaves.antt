-- A cell without a candidate lies wholly inside or wholly outside each full solid for which no solid at least as strong
-- contains the cell.
use Rattle.std.proofs.Common.{ℕ, ◌+◌, suc, pos, List, Contains, inr, ◌⊎◌, arith}
use Rattle.std.proofs.lemmas.Int.{ints}
use Rattle.qm_space.specs.Plane.{Plane}
use Rattle.qm_space.specs.Cube.{cube_walls}
use Rattle.qm_space.proofs.Openness.{moved, reach, moved_in_cell, moved_in_cube}
use Rattle.qm_solids.specs.Solid.{Solid}
use Rattle.qm_solids.specs.Holding.{IsFull}
use Rattle.qm_solids.specs.Cells.{ContainsCell}
use Rattle.qm_solids.specs.Candidates.{IsOutdone}
use Rattle.qm_solids.specs.Uniform.{MeetsNoFace, LiesOutside}
use Rattle.qm_solids.proofs.PlanesInCommon.{same_face}
use Rattle.qm_solids.proofs.UniformCells.{contains_throughout}
use Rattle.qm_solids.proofs.HeldPoints.{inside_near}
use Rattle.qm_solid_tree.specs.Division.{HasPlanesOf, HasNoCandidate}

module _ (solids : List Solid) (book cell : List Plane) (planes : HasPlanesOf book solids) (none : HasNoCandidate solids book cell) where
  -- a full solid that is not outdone has no face in the cell: else the plane of the face would be a candidate
  pub meets_no_face : (solid : Solid) → Contains solids solid → IsFull solid → (IsOutdone solids cell solid → ⊥) → MeetsNoFace solid cell
  meets_no_face solid listed full not_outdone = λ face x has on.
      let at = planes solid face listed has in
      none at.0 at.1 (record {
        numbered = at.2;
        candidate = record {
          solid = solid;
          listed = listed;
          full = full;
          face = face;
          has_face = has;
          lies_on = at.3;
          point = x;
          on_face = same_face solid cell face at.1 x at.3 on;
          not_outdone = not_outdone;
        };
      })

  -- it holds no point of the cell: else it would contain the cell, and so be outdone by itself
  pub lies_outside : (solid : Solid) → Contains solids solid → IsFull solid → (IsOutdone solids cell solid → ⊥) → LiesOutside solid cell
  lies_outside solid listed full not_outdone = λ x in_cube in_cell holds.
      let p = full.within in
      let n : ℕ = suc (reach cell p + reach cube_walls p) in
      let y = moved (pos n) x p in
      let y_in_cube = moved_in_cube x p (pos n) (omega (arith, ints)) in_cube in
      let y_in_cell = moved_in_cell cell x p (pos n) (omega (arith, ints)) in_cell in
      let y_inside = inside_near solid x p (pos n) (omega (arith, ints)) holds.not_in_front full.inside in
      let contains = contains_throughout solid cell (meets_no_face solid listed full not_outdone) y y_in_cube y_in_cell y_inside in
      not_outdone (record { stronger = solid; listed = listed; at_least = omega arith; contains = contains })

  pub inside_or_outside : (solid : Solid) → Contains solids solid → IsFull solid → (IsOutdone solids cell solid → ⊥) → ContainsCell solid cell ⊎ LiesOutside solid cell
  inside_or_outside solid listed full not_outdone = inr (lies_outside solid listed full not_outdone)

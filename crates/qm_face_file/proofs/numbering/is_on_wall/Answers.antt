use Rattle.std.proofs.Common.{◌≡◌, ℕ, Some, sym, subst, ◌∙◌}
use Rattle.std.specs.Prelude.{slice_get}
use Rattle.qm_face_layout.specs.PlaneNumbers.{walls_at}
use Rattle.qm_face_file.proofs.PlanesOnWalls.{turned_wall}
use Rattle.qm_face_file.proofs.numbering.is_on_wall.Goals as goal

pub returns-else-eq : goal.returns-else-eq
returns-else-eq c =
    let wall = c.in-Some.wall in
    let there = subst (λ (extent : ℕ). Some wall ≡ slice_get (walls_at extent) c.args.place) c.unsigned_abs.ensures.value c.in-Some.ensures in
    turned_wall c.args.plane.now wall c.flipped.result c.args.place there c.flipped.ensures (sym c.eq.ensures ∙ c.if-eq.false) c.eq-else-eq.result c.eq-else-eq.ensures

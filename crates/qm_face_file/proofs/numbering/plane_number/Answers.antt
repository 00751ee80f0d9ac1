use Rattle.std.proofs.Common.{ℕ, pos, negsuc, [], rules, w64, inl, inr}
use Rattle.std.specs.Prelude.{FitsSigned}
use Rattle.std.proofs.lemmas.Int.{to_z-of_z}
use Rattle.qm_space.specs.Bounds.{world_extent}
use Rattle.qm_face_layout.specs.PlaneNumbers.{IsPlaneNumber, NamesPlane}
use Rattle.qm_face_layout.proofs.NumbersOfPlanes.{same_wall, no_more_walls, wall_number, book_number, flipped_number, some_number}
use Rattle.qm_face_file.proofs.WallNumbers.{number_of_place}
use Rattle.qm_face_file.proofs.numbering.plane_number.Goals as goal

pub returns-in-Some : goal.returns-in-Some
returns-in-Some c =
    let plane = c.args.plane.now in
    let place = c.in-Some.place in
    rw (number_of_place place (no_more_walls [] plane place c.in-Some.ensures)) (wall_number c.args.book.now plane place (same_wall [] plane c.args.book.now place c.in-Some.ensures))

pub returns : goal.returns
returns c =
    let book = c.args.book.now in
    let plane = c.args.plane.now in
    let number = c.in-Some-number_in.number in
    let small : FitsSigned w64 (pos number) = search rules in
    let no_wall : (k : ℕ) → NamesPlane book world_extent (negsuc k) plane → ⊥ = λ k names. c.in_default.ensures k (same_wall book plane [] k names) in
    let is : IsPlaneNumber book world_extent plane (pos number) = elim c.in-Some-number_in.ensures [
      | inl own ↦ book_number book plane no_wall number own
      | inr other ↦ flipped_number book plane no_wall number other
    ] in
    rw (c.from.ensures, to_z-of_z w64 (pos number) small) is

pub unreachable-requires : goal.unreachable-requires
unreachable-requires c =
    let book = c.args.book.now in
    let plane = c.args.plane.now in
    let none = c.in-None.ensures in
    some_number book plane (λ k names. c.in_default.ensures k (same_wall book plane [] k names)) c.requires (λ n own. none n (inl own)) (λ n other. none n (inr other))

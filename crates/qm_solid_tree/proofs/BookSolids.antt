-- Solids by their faces in a book: the book has their planes, so that what they define with it has all laws of trees.
use Rattle.std.proofs.Common.{◌≡◌, ℕ, ◌<◌, List, length, All, Some}
use Rattle.std.specs.Prelude.{slice_get}
use Rattle.std.proofs.lemmas.List.Elements.{All-contains, All-map, All-weaker}
use Rattle.qm_space.specs.Plane.{Plane}
use Rattle.qm_space.specs.Book.{plane_at}
use Rattle.qm_space.proofs.Books.{stands_at}
use Rattle.qm_solids.specs.declared.face.FaceRef.{FaceRef}
use Rattle.qm_solids.specs.Outward.{outward_of}
use Rattle.qm_solids.specs.InBook.{BookSolid, solid_in, solids_in, IsKeptIn, IsBookOf}
use Rattle.qm_solids.specs.Candidates.{IsSamePlane}
use Rattle.qm_solids.proofs.PlanesInCommon.{turned_lies_on}
use Rattle.qm_solid_tree.specs.Division.{HasPlanesOf}

-- some plane of the book has the points of this one
abbrev pub HasPlaneOf : List Plane → Plane → Type 0
HasPlaneOf book face = (n : ℕ) × (h : Plane) × (slice_get book n ≡ Some h) × IsSamePlane face h

has_plane_of_face : (book : List Plane) (face : FaceRef) → face.plane < length book → HasPlaneOf book (outward_of book face)
has_plane_of_face book face within =
    let h = plane_at book face.plane in
    (face.plane, h, stands_at book face.plane within, turned_lies_on face.out_is_front h)

has_planes_of_solid : (book : List Plane) (solid : BookSolid) → IsKeptIn book solid → All (HasPlaneOf book) (solid_in book solid).outward
has_planes_of_solid book solid kept =
    All-map (HasPlaneOf book) (outward_of book) solid.faces
    (All-weaker (λ face. face.plane < length book) (λ face. HasPlaneOf book (outward_of book face)) (has_plane_of_face book) solid.faces kept.numbered)

-- the book has the planes of the solids with which it was filled
pub book_has_planes : (book : List Plane) (solids : List BookSolid) → IsBookOf book solids → HasPlanesOf book (solids_in book solids)
book_has_planes book solids of =
    let each : All (λ solid. All (HasPlaneOf book) solid.outward) (solids_in book solids) =
    All-map (λ solid. All (HasPlaneOf book) solid.outward) (solid_in book) solids
    (All-weaker (IsKeptIn book) (λ solid. All (HasPlaneOf book) (solid_in book solid).outward) (has_planes_of_solid book) solids of.each) in
    λ solid face listed has. All-contains (HasPlaneOf book) solid.outward face (All-contains (λ solid. All (HasPlaneOf book) solid.outward) (solids_in book solids) solid each listed) has

-- What a brush of a list adds to the outline of those before it.
use Rattle.std.proofs.Common.{◌≡◌, ◌<◌, ◌≤◌, ℕ, ◌+◌, Bool, true, false, List, [], ◌∷◌, ◌++◌, length, take, sym, subst}
use Rattle.std.proofs.lemmas.List.{map_more, take_all}
use Rattle.qm_space.specs.Plane.{Plane}
use Rattle.qm_space.specs.Cuboid.{Cuboid}
use Rattle.qm_contents.specs.declared.contents.Contents.TheVariants.{Empty}
use Rattle.qm_solids.specs.declared.face.FaceRef.{FaceRef}
use Rattle.qm_solids.specs.Solid.{Solid, inward}
use Rattle.qm_solids.specs.InBook.{BookSolid, solid_at, solid_in, solids_in}
use Rattle.qm_partition.specs.Tree.{Tree}
use Rattle.qm_outlines.specs.inner.Outlined.{IsOutlined, IsCellAdded, IsCellLeftOut}
use Rattle.qm_outlines.proofs.OutlinedSolids.{full_outlined, flat_outlined}
use Rattle.qm_models.specs.inner.BehindFaces.{cell_behind}

-- the brushes up to the next place
solids_more : (book : List Plane) (list : List BookSolid) (i : ℕ) → i < length list → solids_in book (take (i + 1) list) ≡ solids_in book (take i list) ++ solid_in book (solid_at list i) ∷ []
solids_more book list i within = map_more (solid_in book) list i (record { contents = Empty; full = false; faces = [] }) within

module _ (tree : Tree) (book : List Plane) (list : List BookSolid) (i : ℕ) (some : Bool) (old : Cuboid) (before : List ℕ) (outlined : IsOutlined tree (solids_in book (take i list)) some old before) where
  module _ (within : i < length list) (planes : List Plane) (faces : List FaceRef) (planes_are : planes ≡ book) (faces_are : faces ≡ (solid_at list i).faces) (new : Cuboid) (after : List ℕ) where
    same_cell : cell_behind planes faces ≡ inward (solid_in book (solid_at list i))
    same_cell = λ k. cell_behind (planes_are k) (faces_are k)

    pub next_full : IsCellAdded tree (cell_behind planes faces) old new before after → IsOutlined tree (solids_in book (take (i + 1) list)) true new after
    next_full its =
        subst (λ (solids : List Solid). IsOutlined tree solids true new after) (sym (solids_more book list i within))
        (full_outlined tree (solids_in book (take i list)) (solid_in book (solid_at list i)) some old new before after outlined (subst (λ (cell : List Plane). IsCellAdded tree cell old new before after) same_cell its))

    pub next_flat : IsCellLeftOut (cell_behind planes faces) old new before after → IsOutlined tree (solids_in book (take (i + 1) list)) some new after
    next_flat its =
        subst (λ (solids : List Solid). IsOutlined tree solids some new after) (sym (solids_more book list i within))
        (flat_outlined tree (solids_in book (take i list)) (solid_in book (solid_at list i)) some old new before after outlined (subst (λ (cell : List Plane). IsCellLeftOut cell old new before after) same_cell its))

  -- all of them
  pub all_outlined : length list ≤ i → IsOutlined tree (solids_in book list) some old before
  all_outlined past = subst (λ (those : List BookSolid). IsOutlined tree (solids_in book those) some old before) (take_all i list past) outlined

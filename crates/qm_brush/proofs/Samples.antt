-- Worked row: a world of a brush of one face and of a brush that is clip.
use Rattle.std.proofs.Common.{◌≡◌, ℕ, ℤ, pos, neg_ℤ, List, [], ◌∷◌, codes, refl}
use Rattle.qm_space.specs.ThreePoints.{outward_plane, in_space}
use Rattle.qm_mapfile.specs.declared.face.Mapping.TheVariants.{Standard}
use Rattle.qm_mapfile.specs.declared.entity.Brush.{Brush}
use Rattle.qm_mapfile.specs.declared.entity.MapFile.{MapFile}
use Rattle.qm_contents.specs.declared.contents.Contents.TheVariants.{Solid}
use Rattle.qm_contents.specs.Texture.{contents_of_texture}
use Rattle.qm_drawn.specs.Brushes.{drawn_brushes}
use Rattle.qm_drawn.specs.Solids.{drawn_solids}

-- three points, in thousandths
abbrev triangle : List (List ℤ)
triangle = (pos 128000 ∷ pos 0 ∷ pos 0 ∷ []) ∷ (pos 128000 ∷ pos 1000 ∷ pos 0 ∷ []) ∷ (pos 128000 ∷ pos 0 ∷ pos 1000 ∷ []) ∷ []

abbrev brush_of : List ℕ → Brush
brush_of texture = record {
  faces = record {
    points = triangle;
    texture = texture;
    mapping = Standard (codes "0" ∷ codes "0" ∷ codes "0" ∷ codes "1" ∷ codes "1" ∷ []);
  } ∷ [];
}

abbrev pub sample_map : MapFile
sample_map = record { entities = record { pairs = []; brushes = brush_of (codes "Clip") ∷ brush_of (codes "stone") ∷ [] } ∷ [] }

-- the face looks to where x is less, so that the brush is where x is 128 or more
solids_row : drawn_solids sample_map ≡
    record {
      contents = Solid;
      outward = record { nx = neg_ℤ (pos 1000000000); ny = pos 0; nz = pos 0; d = neg_ℤ (pos 128000000000) } ∷ [];
    } ∷ []
unfolding contents_of_texture outward_plane in_space
solids_row = refl

brushes_row : drawn_brushes sample_map ≡ brush_of (codes "stone") ∷ []
unfolding contents_of_texture
brushes_row = refl

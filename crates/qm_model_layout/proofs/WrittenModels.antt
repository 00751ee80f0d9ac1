-- The bytes of models, part by part.
use Rattle.std.proofs.Common.{◌≡◌, ℕ, List, [], ◌∷◌, ◌++◌, length, refl, ap}
use Rattle.std.specs.Int.{w32, w64}
use Rattle.std.specs.List.{flat_map}
use Rattle.qm_formats.specs.Layout.{bytes_of_each_after}
use Rattle.qm_formats.specs.Fields.{raw, unsigned}
use Rattle.qm_formats.specs.FileParts.{short}
use Rattle.qm_formats.specs.TreeFile.{small_bound}
use Rattle.qm_formats.specs.FileLayout.{file_bytes}
use Rattle.qm_formats.proofs.ManyBytes.{many_bytes}
use Rattle.qm_model_layout.specs.BrushModel.{BrushModel}
use Rattle.qm_model_layout.specs.ModelLayout.{box_layout, model_leaves_layout, counted_bytes_layout, kept_layout, model_layout, models_layout, models_bytes}

each_bytes : (before : ℕ) (models : List BrushModel) → bytes_of_each_after (λ (model : BrushModel). model.entity) (model_layout small_bound 0) before models ≡ flat_map (model_layout small_bound 0 0).bytes_of models
unfolding model_layout
each_bytes before [] = refl
each_bytes before (model ∷ models) = ap (λ (rest : List ℕ). (model_layout small_bound 0 0).bytes_of model ++ rest) (each_bytes model.entity models)

pub models_bytes-parts : (models : List BrushModel) → models_bytes models ≡ (unsigned short w32).bytes_of (length models) ++ flat_map (model_layout small_bound 0 0).bytes_of models
unfolding models_bytes models_layout
models_bytes-parts models = ap (λ (rest : List ℕ). (unsigned short w32).bytes_of (length models) ++ rest) (each_bytes 0 models)

pub model_bytes-parts : (model : BrushModel) →
    (model_layout small_bound 0 0).bytes_of model
    ≡ (unsigned short w64).bytes_of model.entity ++ (box_layout.bytes_of model.box ++ (model_leaves_layout.bytes_of model.leaves ++ ((unsigned short w64).bytes_of (length (file_bytes model.file)) ++ file_bytes model.file)))
unfolding model_layout kept_layout counted_bytes_layout raw
model_bytes-parts model = refl

pub leaves_bytes-parts : (leaves : List ℕ) → model_leaves_layout.bytes_of leaves ≡ (unsigned short w64).bytes_of (length leaves) ++ flat_map (unsigned short w64).bytes_of leaves
unfolding model_leaves_layout
leaves_bytes-parts leaves = ap (λ (rest : List ℕ). (unsigned short w64).bytes_of (length leaves) ++ rest) (many_bytes (unsigned short w64) 0 leaves)

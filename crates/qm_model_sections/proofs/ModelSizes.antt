-- In the bytes of models each has some, and those of its tree's file are among them.
use Rattle.std.proofs.Common.{◌≤◌, ℕ, ◌+◌, List, [], ◌∷◌, ◌++◌, All, length, ap, length-append, arith}
use Rattle.std.specs.Int.{w64}
use Rattle.std.specs.List.{flat_map}
use Rattle.std.proofs.lemmas.List.Elements.{All-nil, All-cons, All-weaker}
use Rattle.qm_formats.specs.Fields.{raw, unsigned}
use Rattle.qm_formats.specs.FileParts.{short}
use Rattle.qm_formats.specs.TreeFile.{small_bound}
use Rattle.qm_formats.specs.FileLayout.{file_bytes}
use Rattle.qm_model_layout.specs.BrushModel.{BrushModel}
use Rattle.qm_model_layout.specs.ModelLayout.{box_layout, model_leaves_layout, model_layout}
use Rattle.qm_model_layout.proofs.WrittenModels.{model_bytes-parts}

-- the bytes of one model and of some
abbrev pub bytes_of_model : BrushModel → List ℕ
bytes_of_model model = (model_layout small_bound 0 0).bytes_of model

abbrev pub bytes_of_each_model : List BrushModel → List ℕ
bytes_of_each_model models = flat_map bytes_of_model models

-- a number has some bytes
some_bytes : (n : ℕ) → 1 ≤ length ((unsigned short w64).bytes_of n)
unfolding unsigned raw
some_bytes n = omega arith

file_and_more : (model : BrushModel) → 1 + length (file_bytes model.file) ≤ length (bytes_of_model model)
file_and_more model =
    let of_file = file_bytes model.file in
    let counted = (unsigned short w64).bytes_of (length of_file) ++ of_file in
    let behind_box = model_leaves_layout.bytes_of model.leaves ++ counted in
    let behind_entity = box_layout.bytes_of model.box ++ behind_box in
    let whole = ap length (model_bytes-parts model) in
    let entity = length-append ((unsigned short w64).bytes_of model.entity) behind_entity in
    let box = length-append (box_layout.bytes_of model.box) behind_box in
    let leaves = length-append (model_leaves_layout.bytes_of model.leaves) counted in
    let file = length-append ((unsigned short w64).bytes_of (length of_file)) of_file in
    omega (arith, some_bytes model.entity)

pub some_bytes_each : (models : List BrushModel) → length models ≤ length (bytes_of_each_model models)
some_bytes_each [] = omega arith
some_bytes_each (model ∷ models) =
    let whole = length-append (bytes_of_model model) (bytes_of_each_model models) in
    omega (arith, file_and_more model, some_bytes_each models)

pub files_within : (models : List BrushModel) → All (λ model. length (file_bytes model.file) ≤ length (bytes_of_each_model models)) models
files_within [] = All-nil (λ (model : BrushModel). length (file_bytes model.file) ≤ length (bytes_of_each_model []))
files_within (model ∷ models) =
    let rest = bytes_of_each_model models in
    let all = bytes_of_each_model (model ∷ models) in
    let whole = length-append (bytes_of_model model) rest in
    All-cons (λ (m : BrushModel). length (file_bytes m.file) ≤ length all) model models (omega (arith, file_and_more model))
    (All-weaker (λ (m : BrushModel). length (file_bytes m.file) ≤ length rest) (λ (m : BrushModel). length (file_bytes m.file) ≤ length all) (λ m small. omega (arith, small)) models (files_within models))

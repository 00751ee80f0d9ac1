-- A section of brush models is read exactly where its bytes are those of models that can stand there.
use Rattle.std.proofs.Common.{◌≡◌, ◌≤◌, ℕ, true, ltb, List, [], ◌∷◌, ◌++◌, length, refl, sym, ap, subst, ◌∙◌}
use Rattle.std.specs.Int.{w32, w64}
use Rattle.std.specs.List.{flat_map}
use Rattle.std.proofs.lemmas.Bool.{and_parts, and_from}
use Rattle.qm_formats.specs.Layout.{got, bytes_of_each_after}
use Rattle.qm_formats.specs.Fields.{AreBytes, are_bytes, unsigned}
use Rattle.qm_formats.specs.FileParts.{short, trailing}
use Rattle.qm_formats.specs.TreeFile.{small_bound}
use Rattle.qm_formats.specs.FileLayout.{file_bytes}
use Rattle.qm_formats.proofs.ExactFields.{are_bytes-from, bytes-are}
use Rattle.qm_formats.proofs.ReadToEnd.{all_found, all_again, read_ends}
use Rattle.qm_model_layout.specs.BrushModel.{BrushModel}
use Rattle.qm_model_layout.specs.ModelLayout.{box_layout, model_leaves_layout, model_layout, models_layout, models_bytes, AreModelsBytes, read_models}
use Rattle.qm_model_layout.proofs.ExactModels.{models_exact}
use Rattle.qm_model_layout.proofs.ValidModels.{HaveFileBytes, models_in_words, models_by_test}
use Rattle.qm_model_layout.proofs.WrittenModels.{models_bytes-parts, model_bytes-parts}

-- ---- their bytes depend neither on the cube nor on the number of leaves

same_each : (bound numbered other more before : ℕ) (models : List BrushModel) →
    bytes_of_each_after (λ (model : BrushModel). model.entity) (model_layout bound numbered) before models ≡ bytes_of_each_after (λ (model : BrushModel). model.entity) (model_layout other more) before models
unfolding model_layout
same_each bound numbered other more before [] = refl
same_each bound numbered other more before (model ∷ models) =
    ap (λ (rest : List ℕ). (model_layout bound numbered before).bytes_of model ++ rest) (same_each bound numbered other more model.entity models)

pub own_bytes : (bound numbered : ℕ) (models : List BrushModel) → (models_layout bound numbered).bytes_of models ≡ models_bytes models
unfolding models_layout models_bytes
own_bytes bound numbered models = ap (λ (rest : List ℕ). (unsigned short w32).bytes_of (length models) ++ rest) (same_each bound numbered small_bound 0 0 models)

-- ---- parts of bytes are bytes

pub parts_of_bytes : (xs ys : List ℕ) → are_bytes (xs ++ ys) ≡ true → (are_bytes xs ≡ true) × (are_bytes ys ≡ true)
parts_of_bytes [] ys are = (refl, are)
parts_of_bytes (x ∷ xs) ys are =
    let both = and_parts (ltb x 256) (are_bytes (xs ++ ys)) are in
    let others = parts_of_bytes xs ys both.1 in
    (and_from (ltb x 256) (are_bytes xs) both.0 others.0, others.1)

-- those of a model end with those of its file
file_part : (model : BrushModel) → are_bytes ((model_layout small_bound 0 0).bytes_of model) ≡ true → AreBytes (file_bytes model.file)
file_part model are =
    let of_file = file_bytes model.file in
    let counted = (unsigned short w64).bytes_of (length of_file) ++ of_file in
    let behind_box = model_leaves_layout.bytes_of model.leaves ++ counted in
    let behind_entity = box_layout.bytes_of model.box ++ behind_box in
    let whole = sym (ap are_bytes (model_bytes-parts model)) ∙ are in
    let box = (parts_of_bytes ((unsigned short w64).bytes_of model.entity) behind_entity whole).1 in
    let leaves = (parts_of_bytes (box_layout.bytes_of model.box) behind_box box).1 in
    let file = (parts_of_bytes (model_leaves_layout.bytes_of model.leaves) counted leaves).1 in
    bytes-are of_file (parts_of_bytes ((unsigned short w64).bytes_of (length of_file)) of_file file).1

pub each_part : (models : List BrushModel) → are_bytes (flat_map (model_layout small_bound 0 0).bytes_of models) ≡ true → HaveFileBytes models
each_part [] are = tt
each_part (model ∷ models) are =
    let both = parts_of_bytes ((model_layout small_bound 0 0).bytes_of model) (flat_map (model_layout small_bound 0 0).bytes_of models) are in
    (file_part model both.0, each_part models both.1)

pub file_parts : (models : List BrushModel) → AreBytes (models_bytes models) → HaveFileBytes models
file_parts models are =
    let whole = sym (ap are_bytes (models_bytes-parts models)) ∙ are_bytes-from (models_bytes models) are in
    each_part models (parts_of_bytes ((unsigned short w32).bytes_of (length models)) (flat_map (model_layout small_bound 0 0).bytes_of models) whole).1

-- ---- a whole section

pub read_models_found : (bound numbered : ℕ) (bytes : List ℕ) (models : List BrushModel) (next : ℕ) → AreBytes bytes → read_models bound numbered bytes ≡ got models next → AreModelsBytes bound numbered bytes models
unfolding read_models
read_models_found bound numbered bytes models next are is =
    let all = all_found (models_layout bound numbered) (models_exact bound numbered) trailing bytes models next are is in
    record { are_valid = models_in_words bound numbered models all.right; bytes_are = all.bytes ∙ own_bytes bound numbered models }

pub read_models_again : (bound numbered : ℕ) (bytes : List ℕ) (models : List BrushModel) → AreBytes bytes → AreModelsBytes bound numbered bytes models → read_models bound numbered bytes ≡ got models (length bytes)
unfolding read_models
read_models_again bound numbered bytes models are is =
    let files = file_parts models (subst AreBytes is.bytes_are are) in
    all_again (models_layout bound numbered) (models_exact bound numbered) trailing bytes models (models_by_test bound numbered models files is.are_valid) (is.bytes_are ∙ sym (own_bytes bound numbered models))

-- a section is read, where what stands at its start is read and ends where it does
pub read_models_ends : (bound numbered : ℕ) (bytes : List ℕ) (models : List BrushModel) (next : ℕ) → AreBytes bytes → (models_layout bound numbered).read bytes 0 ≡ got models next → length bytes ≤ next → read_models bound numbered bytes ≡ got models (length bytes)
unfolding read_models
read_models_ends bound numbered bytes models next are is past = read_ends (models_layout bound numbered) (models_exact bound numbered) trailing bytes models next are is past

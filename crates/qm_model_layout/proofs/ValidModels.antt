-- What can stand in a section of brush models, in words: what the tests of the layout pass.
use Rattle.std.proofs.Common.{◌≡◌, ◌<◌, ◌≤◌, ℕ, zero, suc, ◌+◌, ◌^◌, ℤ, ◌≤ℤ◌, Bool, true, false, cond, eqb, ltb, leb, ◌&&◌, List, [], ◌∷◌, length, Option, Some, None, refl, ap, ◌∙◌, arith}
use Rattle.std.specs.Int.{w32, w64}
use Rattle.std.proofs.lemmas.Bool.{and_parts, and_from, ltb-true, lt-ltb, leb-true, le-leb, eq-eqb, true_from_ne_false}
use Rattle.std.proofs.lemmas.Int.{ints}
use Rattle.qm_space.specs.Cuboid.{Stretch, Cuboid}
use Rattle.qm_formats.specs.Layout.{Decoded, got, bad, right_each, right_each_after}
use Rattle.qm_formats.specs.Fields.{AreBytes, are_bytes, raw, unsigned, signed}
use Rattle.qm_formats.specs.FileParts.{FileFaultKind, short}
use Rattle.qm_formats.specs.TreeFile.{TreeFile}
use Rattle.qm_formats.specs.FileLayout.{file_layout, file_bytes, file_limit, read_file}
use Rattle.qm_formats.proofs.ExactFields.{are_bytes-from, bytes-are}
use Rattle.qm_formats.proofs.ValidFiles.{right_valid, valid_right}
use Rattle.qm_formats.proofs.WholeFile.{read_file_again}
use Rattle.qm_plain.specs.PlainFile.{is_plain, plain_of, read_plain}
use Rattle.qm_plain.proofs.PlainFiles.{plain_found, plain_again}
use Rattle.qm_model_layout.specs.BrushModel.{BrushModel, IsWrittenBox, AscendFrom, IsModelFile, IsModelBehind, AreModelsBehind, AreValidModels}
use Rattle.qm_model_layout.specs.ModelLayout.{box_layout, model_leaves_layout, counted_bytes_layout, kept_layout, is_in_order, is_box, ascend_from, decodes_for, is_model_head, is_model, file_read, kept_of_model, model_layout, models_layout}

-- ---- numbers

fits_64 : (n : ℕ) → (unsigned short w64).right n ≡ true → n < 2 ^ 64
unfolding unsigned
fits_64 n right = ltb-true n (2 ^ 64) right

fits_64_right : (n : ℕ) → n < 2 ^ 64 → (unsigned short w64).right n ≡ true
unfolding unsigned
fits_64_right n fits = lt-ltb n (2 ^ 64) fits

-- ---- leaves

pub ascend_in_words : (least limit k : ℕ) (leaves : List ℕ) → ascend_from least limit leaves ≡ true → right_each (λ _. unsigned short w64) k (length leaves) leaves ≡ true → AscendFrom least limit leaves
unfolding ascend_from
ascend_in_words least limit k [] ascend right = tt
ascend_in_words least limit k (n ∷ rest) ascend right =
    let behind = and_parts (leb least n) (ltb n limit && ascend_from (n + 1) limit rest) ascend in
    let others = and_parts (ltb n limit) (ascend_from (n + 1) limit rest) behind.1 in
    let rights = and_parts ((unsigned short w64).right n) (right_each (λ _. unsigned short w64) (k + 1) (length rest) rest) right in
    (leb-true least n behind.0, ltb-true n limit others.0, fits_64 n rights.0, ascend_in_words (n + 1) limit (k + 1) rest others.1 rights.1)

pub ascend_by_test : (least limit : ℕ) (leaves : List ℕ) → AscendFrom least limit leaves → ascend_from least limit leaves ≡ true
unfolding ascend_from
ascend_by_test least limit [] ascend = refl
ascend_by_test least limit (n ∷ rest) (low, below, fits, others) =
    and_from (leb least n) (ltb n limit && ascend_from (n + 1) limit rest) (le-leb least n low)
    (and_from (ltb n limit) (ascend_from (n + 1) limit rest) (lt-ltb n limit below) (ascend_by_test (n + 1) limit rest others))

pub leaves_right : (least limit k : ℕ) (leaves : List ℕ) → AscendFrom least limit leaves → right_each (λ _. unsigned short w64) k (length leaves) leaves ≡ true
leaves_right least limit k [] ascend = refl
leaves_right least limit k (n ∷ rest) (low, below, fits, others) =
    and_from ((unsigned short w64).right n) (right_each (λ _. unsigned short w64) (k + 1) (length rest) rest) (fits_64_right n fits) (leaves_right (n + 1) limit (k + 1) rest others)

-- ---- the box

order_in_words : (stretch : Stretch) → is_in_order stretch ≡ true → stretch.low ≤ℤ stretch.high
order_in_words stretch is = let e = is in omega (arith, ints)

order_by_test : (stretch : Stretch) → stretch.low ≤ℤ stretch.high → is_in_order stretch ≡ true
order_by_test stretch less = true_from_ne_false (is_in_order stretch) (λ e. absurd (omega (arith, ints)))

-- the tests of the six numbers
record AreWritten (box : Cuboid) : Type 0 where
  x_low : (signed short w32).right box.x.low ≡ true
  y_low : (signed short w32).right box.y.low ≡ true
  z_low : (signed short w32).right box.z.low ≡ true
  x_high : (signed short w32).right box.x.high ≡ true
  y_high : (signed short w32).right box.y.high ≡ true
  z_high : (signed short w32).right box.z.high ≡ true

module _ (box : Cuboid) where
  right_number : ℤ → Bool
  right_number z = (signed short w32).right z

  written_from : box_layout.right box ≡ true → AreWritten box
  unfolding box_layout right_number
  written_from right =
      let zh = right_number box.z.high in
      let yh = right_number box.y.high && zh in
      let xh = right_number box.x.high && yh in
      let zl = right_number box.z.low && xh in
      let yl = right_number box.y.low && zl in
      let a = and_parts (right_number box.x.low) yl right in
      let b = and_parts (right_number box.y.low) zl a.1 in
      let c = and_parts (right_number box.z.low) xh b.1 in
      let d = and_parts (right_number box.x.high) yh c.1 in
      let e = and_parts (right_number box.y.high) zh d.1 in
      record { x_low = a.0; y_low = b.0; z_low = c.0; x_high = d.0; y_high = e.0; z_high = e.1 }

  written_right : AreWritten box → box_layout.right box ≡ true
  unfolding box_layout right_number
  written_right are =
      let zh = right_number box.z.high in
      let yh = right_number box.y.high && zh in
      let xh = right_number box.x.high && yh in
      let zl = right_number box.z.low && xh in
      let yl = right_number box.y.low && zl in
      and_from (right_number box.x.low) yl are.x_low (and_from (right_number box.y.low) zl are.y_low (and_from (right_number box.z.low) xh are.z_low (and_from (right_number box.x.high) yh are.x_high (and_from (right_number box.y.high) zh are.y_high are.z_high))))

  box_in_words : box_layout.right box ≡ true → is_box box ≡ true → IsWrittenBox box
  unfolding is_box signed
  box_in_words right is =
      let are = written_from right in
      let first = and_parts (is_in_order box.x) (is_in_order box.y && is_in_order box.z) is in
      let others = and_parts (is_in_order box.y) (is_in_order box.z) first.1 in
      record {
        x = record { in_order = order_in_words box.x first.0; low_fits = are.x_low; high_fits = are.x_high };
        y = record { in_order = order_in_words box.y others.0; low_fits = are.y_low; high_fits = are.y_high };
        z = record { in_order = order_in_words box.z others.1; low_fits = are.z_low; high_fits = are.z_high };
      }

  box_by_test : IsWrittenBox box → (box_layout.right box ≡ true) × (is_box box ≡ true)
  unfolding is_box signed
  box_by_test is = (
    written_right (record { x_low = is.x.low_fits; y_low = is.y.low_fits; z_low = is.z.low_fits; x_high = is.x.high_fits; y_high = is.y.high_fits; z_high = is.z.high_fits }),
    and_from (is_in_order box.x) (is_in_order box.y && is_in_order box.z) (order_by_test box.x is.x.in_order) (and_from (is_in_order box.y) (is_in_order box.z) (order_by_test box.y is.y.in_order) (order_by_test box.z is.z.in_order)),
  )

-- ---- the tree

module _ (bound : ℕ) where
  plain_from_decoded : (answer : Decoded FileFaultKind TreeFile) → decodes_for bound answer ≡ true → plain_of bound answer ≡ Some (file_read answer)
  plain_from_decoded (got file next) is = ap (λ (plain : Bool). cond plain (Some file) None) is
  plain_from_decoded (bad fault place) is = absurd cc

  passed : (plain : Bool) (read file : TreeFile) → ◌≡◌ {A = Option TreeFile} (cond plain (Some read) None) (Some file) → plain ≡ true
  passed true read file is = refl
  passed false read file is = absurd cc

  decoded_from_plain : (answer : Decoded FileFaultKind TreeFile) (file : TreeFile) → plain_of bound answer ≡ Some file → decodes_for bound answer ≡ true
  decoded_from_plain (got read next) file is = passed (is_plain bound read) read file is
  decoded_from_plain (bad fault place) file is = absurd cc

  -- a file whose bytes can be read is one that a model can have, where it is read as one
  file_in_words : (file : TreeFile) → AreBytes (file_bytes file) → file_layout.right file ≡ true → length (file_bytes file) ≤ file_limit → decodes_for bound (read_file (file_bytes file)) ≡ true → IsModelFile bound file
  unfolding read_plain
  file_in_words file are right fits decodes =
      let bytes = file_bytes file in
      let again = read_file_again bytes file (record { valid = right_valid file right; bytes_are = refl; fits = fits }) in
      let plain : read_plain bound bytes ≡ Some file = plain_from_decoded (read_file bytes) decodes ∙ ap (λ (answer : Decoded FileFaultKind TreeFile). Some (file_read answer)) again in
      let found = plain_found bound bytes file are plain in
      record { is_plain = found.is_plain; is_valid = found.is_valid; fits = found.fits }

  file_by_test : (file : TreeFile) → IsModelFile bound file → decodes_for bound (read_file (file_bytes file)) ≡ true
  unfolding read_plain
  file_by_test file is =
      decoded_from_plain (read_file (file_bytes file)) file (plain_again bound (file_bytes file) file (record { is_plain = is.is_plain; is_valid = is.is_valid; bytes_are = refl; fits = is.fits }))

-- ---- a model

module _ (bound numbered before : ℕ) (model : BrushModel) where
  -- the tests of a model part by part
  record IsRightModel : Type 0 where
    entity : (unsigned short w64).right model.entity ≡ true
    box : box_layout.right model.box ≡ true
    leaves : model_leaves_layout.right model.leaves ≡ true
    bytes : counted_bytes_layout.right (file_bytes model.file) ≡ true
    stands : is_model_head numbered before (kept_of_model model) ≡ true
    decodes : decodes_for bound (read_file (file_bytes model.file)) ≡ true
    file : file_layout.right model.file ≡ true
    fits : leb (length (file_bytes model.file)) file_limit ≡ true

  parts_of_right : (model_layout bound numbered before).right model ≡ true → IsRightModel
  unfolding model_layout kept_layout is_model
  parts_of_right right =
      let its_bytes = counted_bytes_layout.right (file_bytes model.file) in
      let its_leaves = model_leaves_layout.right model.leaves && its_bytes in
      let its_box = box_layout.right model.box && its_leaves in
      let kept = (unsigned short w64).right model.entity && its_box in
      let stands = is_model_head numbered before (kept_of_model model) in
      let decodes = decodes_for bound (read_file (file_bytes model.file)) in
      let written = file_layout.right model.file && leb (length (file_bytes model.file)) file_limit in
      let whole = and_parts (kept && (stands && decodes)) written right in
      let tests = and_parts kept (stands && decodes) whole.0 in
      let entity = and_parts ((unsigned short w64).right model.entity) its_box tests.0 in
      let box = and_parts (box_layout.right model.box) its_leaves entity.1 in
      let leaves = and_parts (model_leaves_layout.right model.leaves) its_bytes box.1 in
      let both = and_parts stands decodes tests.1 in
      let file = and_parts (file_layout.right model.file) (leb (length (file_bytes model.file)) file_limit) whole.1 in
      record { entity = entity.0; box = box.0; leaves = leaves.0; bytes = leaves.1; stands = both.0; decodes = both.1; file = file.0; fits = file.1 }

  right_from_parts : IsRightModel → (model_layout bound numbered before).right model ≡ true
  unfolding model_layout kept_layout is_model
  right_from_parts is =
      let its_bytes = counted_bytes_layout.right (file_bytes model.file) in
      let its_leaves = model_leaves_layout.right model.leaves && its_bytes in
      let its_box = box_layout.right model.box && its_leaves in
      let kept = (unsigned short w64).right model.entity && its_box in
      let stands = is_model_head numbered before (kept_of_model model) in
      let decodes = decodes_for bound (read_file (file_bytes model.file)) in
      let written = file_layout.right model.file && leb (length (file_bytes model.file)) file_limit in
      and_from (kept && (stands && decodes)) written
      (and_from kept (stands && decodes)
      (and_from ((unsigned short w64).right model.entity) its_box is.entity (and_from (box_layout.right model.box) its_leaves is.box (and_from (model_leaves_layout.right model.leaves) its_bytes is.leaves is.bytes)))
      (and_from stands decodes is.stands is.decodes))
      (and_from (file_layout.right model.file) (leb (length (file_bytes model.file)) file_limit) is.file is.fits)

  pub model_in_words : (model_layout bound numbered before).right model ≡ true → IsModelBehind bound numbered before model
  unfolding is_model_head model_leaves_layout counted_bytes_layout raw
  model_in_words right =
      let is = parts_of_right right in
      let head = and_parts (ltb before model.entity) (is_box model.box && ascend_from 0 numbered model.leaves) is.stands in
      let shape = and_parts (is_box model.box) (ascend_from 0 numbered model.leaves) head.1 in
      let leaves = and_parts ((unsigned short w64).right (length model.leaves)) (right_each (λ _. unsigned short w64) 0 (length model.leaves) model.leaves) is.leaves in
      let bytes = file_bytes model.file in
      let counted = and_parts ((unsigned short w64).right (length bytes)) ((eqb (length bytes) (length bytes)) && are_bytes bytes) is.bytes in
      let are = (and_parts (eqb (length bytes) (length bytes)) (are_bytes bytes) counted.1).1 in
      record {
        above = ltb-true before model.entity head.0;
        entity_fits = fits_64 model.entity is.entity;
        box = box_in_words model.box is.box shape.0;
        few = fits_64 (length model.leaves) leaves.0;
        leaves = ascend_in_words 0 numbered 0 model.leaves shape.1 leaves.1;
        file = file_in_words bound model.file (bytes-are bytes are) is.file (leb-true (length bytes) file_limit is.fits) is.decodes;
      }

  pub model_by_test : AreBytes (file_bytes model.file) → IsModelBehind bound numbered before model → (model_layout bound numbered before).right model ≡ true
  unfolding is_model_head model_leaves_layout counted_bytes_layout raw
  model_by_test are is =
      let bytes = file_bytes model.file in
      let box = box_by_test model.box is.box in
      let fits = is.file.fits in
      right_from_parts (record {
        entity = fits_64_right model.entity is.entity_fits;
        box = box.0;
        leaves = and_from ((unsigned short w64).right (length model.leaves)) (right_each (λ _. unsigned short w64) 0 (length model.leaves) model.leaves) (fits_64_right (length model.leaves) is.few) (leaves_right 0 numbered 0 model.leaves is.leaves);
        bytes = and_from ((unsigned short w64).right (length bytes)) ((eqb (length bytes) (length bytes)) && are_bytes bytes) (fits_64_right (length bytes) (omega (arith, fits))) (and_from (eqb (length bytes) (length bytes)) (are_bytes bytes) (eq-eqb (length bytes) (length bytes) refl) (are_bytes-from bytes are));
        stands = and_from (ltb before model.entity) (is_box model.box && ascend_from 0 numbered model.leaves) (lt-ltb before model.entity is.above) (and_from (is_box model.box) (ascend_from 0 numbered model.leaves) box.1 (ascend_by_test 0 numbered model.leaves is.leaves));
        decodes = file_by_test bound model.file is.file;
        file = valid_right model.file is.file.is_valid;
        fits = le-leb (length bytes) file_limit fits;
      })

-- ---- all models

abbrev entity_of : BrushModel → ℕ
entity_of model = model.entity

-- the bytes of each model's file are bytes
abbrev pub HaveFileBytes : List BrushModel → Type 0
HaveFileBytes [] = Unit {0}
HaveFileBytes (model ∷ models) = AreBytes (file_bytes model.file) × HaveFileBytes models

module _ (bound numbered : ℕ) where
  behind_from_right : (before count : ℕ) (models : List BrushModel) → right_each_after (λ (model : BrushModel). model.entity) (model_layout bound numbered) before count models ≡ true → AreModelsBehind bound numbered before models
  behind_from_right before count [] right = tt
  behind_from_right before zero (model ∷ models) right = absurd cc
  behind_from_right before (suc count) (model ∷ models) right =
      let both = and_parts ((model_layout bound numbered before).right model) (right_each_after entity_of (model_layout bound numbered) model.entity count models) right in
      (model_in_words bound numbered before model both.0, behind_from_right model.entity count models both.1)

  right_from_behind : (before : ℕ) (models : List BrushModel) → HaveFileBytes models → AreModelsBehind bound numbered before models → right_each_after (λ (model : BrushModel). model.entity) (model_layout bound numbered) before (length models) models ≡ true
  right_from_behind before [] bytes are = refl
  right_from_behind before (model ∷ models) bytes are =
      and_from ((model_layout bound numbered before).right model) (right_each_after entity_of (model_layout bound numbered) model.entity (length models) models) (model_by_test bound numbered before model bytes.0 are.0) (right_from_behind model.entity models bytes.1 are.1)

  pub models_in_words : (models : List BrushModel) → (models_layout bound numbered).right models ≡ true → AreValidModels bound numbered models
  unfolding models_layout unsigned
  models_in_words models right =
      let both = and_parts (ltb (length models) (2 ^ 32)) (right_each_after entity_of (model_layout bound numbered) 0 (length models) models) right in
      record { few = ltb-true (length models) (2 ^ 32) both.0; each = behind_from_right 0 (length models) models both.1 }

  pub models_by_test : (models : List BrushModel) → HaveFileBytes models → AreValidModels bound numbered models → (models_layout bound numbered).right models ≡ true
  unfolding models_layout unsigned
  models_by_test models bytes is =
      and_from (ltb (length models) (2 ^ 32)) (right_each_after entity_of (model_layout bound numbered) 0 (length models) models) (lt-ltb (length models) (2 ^ 32) is.few) (right_from_behind 0 models bytes is.each)

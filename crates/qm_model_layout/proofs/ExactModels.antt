-- The section of brush models is read exactly.
use Rattle.std.proofs.Common.{◌≡◌, ℕ, true, eqb, leb, ◌&&◌, List, length, refl, sym, ap, subst, arith}
use Rattle.std.proofs.lemmas.Bool.{and_parts, and_from, leb-true, le-leb, eqb-true}
use Rattle.std.specs.Prelude.{IsTrue}
use Rattle.std.specs.Int.{w64}
use Rattle.qm_formats.specs.Layout.{Decoded, got, bad}
use Rattle.qm_formats.specs.Fields.{AreBytes, are_bytes, raw, unsigned}
use Rattle.qm_formats.specs.Exact.{IsExact}
use Rattle.qm_formats.specs.FileParts.{FileFaultKind, short, section_form}
use Rattle.qm_formats.specs.TreeFile.{TreeFile}
use Rattle.qm_formats.specs.FileLayout.{file_layout, file_bytes, file_limit, read_file, IsFileOf}
use Rattle.qm_formats.proofs.ExactParts.{seen_as_exact, tested_exact, part_exact, last_part_exact, exact_of_parts, each_exact, each_after_exact}
use Rattle.qm_formats.proofs.ExactFields.{bytes-are, raw_exact, unsigned_32_exact, unsigned_64_exact, signed_32_exact}
use Rattle.qm_formats.proofs.ExactFile.{right_each_length, right_each_after_length}
use Rattle.qm_formats.proofs.ValidFiles.{right_valid, valid_right}
use Rattle.qm_formats.proofs.WholeFile.{read_file_found, read_file_again}
use Rattle.qm_model_layout.specs.BrushModel.{BrushModel}
use Rattle.qm_model_layout.specs.ModelLayout.{KeptModel, box_layout, model_leaves_layout, counted_bytes_layout, kept_layout, decodes_for, is_model_head, is_model, file_read, model_of_kept, kept_of_model, tested_model_layout, can_be_kept, model_layout, models_layout}

-- ---- a model as it is kept

pub box_exact : IsExact box_layout
unfolding box_layout
box_exact =
    exact_of_parts _ (
    part_exact _ _ _ _ (signed_32_exact short) (λ x_low _.
    part_exact _ _ _ _ (signed_32_exact short) (λ y_low _.
    part_exact _ _ _ _ (signed_32_exact short) (λ z_low _.
    part_exact _ _ _ _ (signed_32_exact short) (λ x_high _.
    part_exact _ _ _ _ (signed_32_exact short) (λ y_high _.
    last_part_exact _ _ _ _ (signed_32_exact short) (λ z_high _. record {
      before = record { before = record { before = record { before = record { before = record { before = tt; is = refl }; is = refl }; is = refl }; is = refl }; is = refl };
      is = refl;
    }) (λ box known.
    λ i. record {
      x = record { low = sym known.before.before.before.before.is i; high = sym known.before.is i };
      y = record { low = sym known.before.before.before.is i; high = sym known.is i };
      z = record { low = sym known.before.before.is i; high = box.z.high };
    })))))))

pub model_leaves_exact : IsExact model_leaves_layout
unfolding model_leaves_layout
model_leaves_exact =
    exact_of_parts _ (
    part_exact _ _ _ _ (unsigned_64_exact short) (λ count _.
    last_part_exact _ _ _ _ (each_exact (λ _. unsigned short w64) (λ _. unsigned_64_exact short) 0 count) (λ leaves right.
    record { before = record { before = tt; is = right_each_length (λ _. unsigned short w64) 0 count leaves right }; is = refl }) (λ leaves known. refl)))

right_raw : (count : ℕ) (bytes : List ℕ) → (raw short count).right bytes ≡ true → (length bytes ≡ count) × AreBytes bytes
unfolding raw
right_raw count bytes right = let both = and_parts (eqb (length bytes) count) (are_bytes bytes) right in (eqb-true (length bytes) count both.0, bytes-are bytes both.1)

pub counted_bytes_exact : IsExact counted_bytes_layout
unfolding counted_bytes_layout
counted_bytes_exact =
    exact_of_parts _ (
    part_exact _ _ _ _ (unsigned_64_exact short) (λ count _.
    last_part_exact _ _ _ _ (raw_exact short count) (λ bytes right.
    record { before = record { before = tt; is = (right_raw count bytes right).0 }; is = refl }) (λ bytes known. refl)))

right_counted_bytes : (bytes : List ℕ) → counted_bytes_layout.right bytes ≡ true → AreBytes bytes
unfolding counted_bytes_layout
right_counted_bytes bytes right = (right_raw (length bytes) bytes (and_parts ((unsigned short w64).right (length bytes)) ((raw short (length bytes)).right bytes) right).1).1

pub kept_exact : IsExact kept_layout
unfolding kept_layout
kept_exact =
    exact_of_parts _ (
    part_exact _ _ _ _ (unsigned_64_exact short) (λ entity _.
    part_exact _ _ _ _ box_exact (λ box _.
    part_exact _ _ _ _ model_leaves_exact (λ leaves _.
    last_part_exact _ _ _ _ counted_bytes_exact (λ bytes _. record { before = record { before = record { before = record { before = tt; is = refl }; is = refl }; is = refl }; is = refl }) (λ kept known.
    λ i. record { entity = sym known.before.before.is i; box = sym known.before.is i; leaves = sym known.is i; bytes = kept.bytes })))))

-- the tree's bytes of a model that can be kept are bytes
pub kept_bytes : (kept : KeptModel) → kept_layout.right kept ≡ true → AreBytes kept.bytes
unfolding kept_layout
kept_bytes kept right =
    let of_bytes = counted_bytes_layout.right kept.bytes in
    let of_leaves = model_leaves_layout.right kept.leaves in
    let of_box = box_layout.right kept.box in
    let behind_entity = and_parts ((unsigned short w64).right kept.entity) (of_box && (of_leaves && of_bytes)) right in
    let behind_box = and_parts of_box (of_leaves && of_bytes) behind_entity.1 in
    right_counted_bytes kept.bytes (and_parts of_leaves of_bytes behind_box.1).1

-- ---- a model

-- bytes that pass the test are those of the file that is read in them
file_of_bytes : (bound : ℕ) (bytes : List ℕ) (answer : Decoded FileFaultKind TreeFile) → read_file bytes ≡ answer → AreBytes bytes → decodes_for bound answer ≡ true → IsFileOf bytes (file_read answer)
file_of_bytes bound bytes (got file next) is are passed = read_file_found bytes file next are is
file_of_bytes bound bytes (bad fault place) is are passed = absurd cc

module _ (bound numbered before : ℕ) where
  file_of_kept : (kept : KeptModel) → (tested_model_layout bound numbered before).right kept ≡ true → IsFileOf kept.bytes (file_read (read_file kept.bytes))
  unfolding is_model
  file_of_kept kept right =
      let both = and_parts (kept_layout.right kept) (is_model bound numbered before kept) right in
      let decodes = decodes_for bound (read_file kept.bytes) in
      file_of_bytes bound kept.bytes (read_file kept.bytes) refl (kept_bytes kept both.0) (and_parts (is_model_head numbered before kept) decodes both.1).1

  -- a model that is kept and passes the test is one that can be kept
  pub kept_there : (kept : KeptModel) → (tested_model_layout bound numbered before).right kept ≡ true → (kept_of_model (model_of_kept kept) ≡ kept) × IsTrue (can_be_kept bound numbered before (model_of_kept kept))
  kept_there kept right =
      let its = file_of_kept kept right in
      let file = file_read (read_file kept.bytes) in
      let long : length (file_bytes file) ≡ length kept.bytes = sym (ap length its.bytes_are) in
      let same : kept_of_model (model_of_kept kept) ≡ kept = λ i. record { entity = kept.entity; box = kept.box; leaves = kept.leaves; bytes = sym its.bytes_are i } in (
        same,
        and_from ((tested_model_layout bound numbered before).right (kept_of_model (model_of_kept kept))) (file_layout.right file && leb (length (file_bytes file)) file_limit)
            (subst (λ (k : KeptModel). IsTrue ((tested_model_layout bound numbered before).right k)) (sym same) right)
            (and_from (file_layout.right file) (leb (length (file_bytes file)) file_limit) (valid_right file its.valid) (le-leb (length (file_bytes file)) file_limit (omega (arith, long, its.fits)))),
      )

  back : (model : BrushModel) → can_be_kept bound numbered before model ≡ true → (model_of_kept (kept_of_model model) ≡ model) × IsTrue ((tested_model_layout bound numbered before).right (kept_of_model model))
  back model right =
      let file = model.file in
      let both = and_parts ((tested_model_layout bound numbered before).right (kept_of_model model)) (file_layout.right file && leb (length (file_bytes file)) file_limit) right in
      let of_file = and_parts (file_layout.right file) (leb (length (file_bytes file)) file_limit) both.1 in
      let again = read_file_again (file_bytes file) file (record { valid = right_valid file of_file.0; bytes_are = refl; fits = leb-true (length (file_bytes file)) file_limit of_file.1 }) in
      let read : file_read (read_file (file_bytes file)) ≡ file = ap file_read again in
      ((λ i. record { entity = model.entity; box = model.box; leaves = model.leaves; file = read i }), both.0)

  pub model_exact : IsExact (model_layout bound numbered before)
  unfolding model_layout
  model_exact =
      seen_as_exact model_of_kept kept_of_model (can_be_kept bound numbered before) (tested_model_layout bound numbered before)
      (tested_exact (is_model bound numbered before) section_form (λ _ at. at) kept_layout kept_exact) kept_there back

-- ---- all models

pub models_exact : (bound numbered : ℕ) → IsExact (models_layout bound numbered)
unfolding models_layout
models_exact bound numbered =
    exact_of_parts _ (
    part_exact _ _ _ _ (unsigned_32_exact short) (λ count _.
    last_part_exact _ _ _ _ (each_after_exact (λ (model : BrushModel). model.entity) (model_layout bound numbered) (model_exact bound numbered) 0 count) (λ models right.
    record { before = record { before = tt; is = right_each_after_length (λ (model : BrushModel). model.entity) (model_layout bound numbered) 0 count models right }; is = refl }) (λ models known. refl)))

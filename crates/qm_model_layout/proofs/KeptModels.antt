-- A model is read where it is kept and can stand.
use Rattle.std.proofs.Common.{◌≡◌, ℕ, Bool, true, false, cond, ◌&&◌, List, Option, Some, None, refl, sym, ap, ◌∙◌}
use Rattle.std.specs.Prelude.{MatchOption}
use Rattle.qm_formats.specs.Layout.{Decoded, got, bad, decoded_map, decoded_then}
use Rattle.qm_formats.specs.FileParts.{FileFaultKind, section_form}
use Rattle.qm_formats.specs.TreeFile.{TreeFile}
use Rattle.qm_formats.specs.FileLayout.{read_file}
use Rattle.qm_plain.specs.PlainFile.{is_plain, plain_of, read_plain}
use Rattle.qm_model_layout.specs.BrushModel.{BrushModel}
use Rattle.qm_model_layout.specs.ModelLayout.{KeptModel, kept_layout, decodes_for, is_model_head, is_model, file_read, model_of_kept, kept_model, model_layout}

module _ (bound numbered before : ℕ) where
  -- what is read at a place where a model is kept
  abbrev pub IsReadModel : Decoded FileFaultKind BrushModel → ℕ → ℕ → Option BrushModel → Type 0
  IsReadModel answer at next found = MatchOption found (answer ≡ bad section_form at) (λ model. answer ≡ got model next)

  by_test : (at next : ℕ) (kept : KeptModel) (test : Bool) → IsReadModel (decoded_map model_of_kept (cond test (got kept next) (bad section_form at))) at next (cond test (Some (model_of_kept kept)) None)
  by_test at next kept true = refl
  by_test at next kept false = refl

  pub read_kept : (bytes : List ℕ) (at next : ℕ) (kept : KeptModel) (found : Option BrushModel) → kept_layout.read bytes at ≡ got kept next → found ≡ kept_model bound numbered before kept → IsReadModel ((model_layout bound numbered before).read bytes at) at next found
  unfolding model_layout
  read_kept bytes at next kept found is found_is =
      let test = is_model bound numbered before kept in
      let behind = ap (λ (answer : Decoded FileFaultKind KeptModel). decoded_map model_of_kept (decoded_then answer (λ x after. cond (is_model bound numbered before x) (got x after) (bad section_form at)))) is in
      rw (behind, found_is) (by_test at next kept test)

  -- a model whose entity, box or leaves cannot stand
  pub none_kept : (kept : KeptModel) → is_model_head numbered before kept ≡ false → ◌≡◌ {A = Option BrushModel} None (kept_model bound numbered before kept)
  unfolding is_model
  none_kept kept is = sym (ap (λ (stands : Bool). cond (stands && decodes_for bound (read_file kept.bytes)) (Some (model_of_kept kept)) None) is)

  -- the model of a file that was found in its bytes
  abbrev pub with_file : KeptModel → Option TreeFile → Option BrushModel
  with_file kept None = None
  with_file kept (Some file) = Some (record { entity = kept.entity; box = kept.box; leaves = kept.leaves; file = file })

  by_plain : (kept : KeptModel) (file : TreeFile) (plain : Bool) → with_file kept (cond plain (Some file) None) ≡ cond plain (Some (record { entity = kept.entity; box = kept.box; leaves = kept.leaves; file = file })) None
  by_plain kept file true = refl
  by_plain kept file false = refl

  by_answer : (kept : KeptModel) (answer : Decoded FileFaultKind TreeFile) →
      with_file kept (plain_of bound answer) ≡ cond (decodes_for bound answer) (Some (record { entity = kept.entity; box = kept.box; leaves = kept.leaves; file = file_read answer })) None
  by_answer kept (got file next) = by_plain kept file (is_plain bound file)
  by_answer kept (bad fault place) = refl

  pub file_kept : (kept : KeptModel) (found : Option TreeFile) → is_model_head numbered before kept ≡ true → found ≡ read_plain bound kept.bytes → with_file kept found ≡ kept_model bound numbered before kept
  unfolding is_model read_plain
  file_kept kept found stands found_is =
      ap (with_file kept) found_is
      ∙ by_answer kept (read_file kept.bytes)
      ∙ sym (ap (λ (stands : Bool). cond (stands && decodes_for bound (read_file kept.bytes)) (Some (model_of_kept kept)) None) stands)

-- The fault that reading gives is the first in the order of the bytes, in words.
use Rattle.std.proofs.Common.{◌≡◌, ◌<◌, ◌≤◌, ◌⊎◌, ℕ, zero, suc, ◌+◌, ◌^◌, Bool, true, false, cond, ltb, leb, take, ◌&&◌, List, [], ◌∷◌, ◌++◌, length, drop, refl, sym, ap, ◌∙◌, subst, arith, inl, inr}
use Rattle.std.specs.Int.{w32, from_le_bytes}
use Rattle.std.proofs.lemmas.Bool.{and_parts, and_from, ltb-true, lt-ltb}
use Rattle.std.proofs.lemmas.List.{length-append, length-drop}
use Rattle.qm_formats.specs.Layout.{Decoded, got, bad, decoded_map, decoded_then, read_each_after}
use Rattle.qm_formats.specs.Fields.{AreBytes, are_bytes, raw, unsigned}
use Rattle.qm_formats.specs.Exact.{StandsAt, IsRightAt}
use Rattle.qm_formats.specs.FileParts.{FileFaultKind, short, trailing, section_form}
use Rattle.qm_formats.specs.TreeFile.{small_bound}
use Rattle.qm_formats.specs.FileLayout.{file_layout, file_bytes, file_limit}
use Rattle.qm_formats.proofs.ExactFields.{unsigned_32_exact, are_bytes-from, bytes-are}
use Rattle.qm_formats.proofs.ShortFaults.{map_bad, then_bad, chosen_bad, chosen_end, stands_from}
use Rattle.qm_formats.proofs.Standing.{stands_nothing, stands_both, behind_part, stands_first, stands_second}
use Rattle.qm_model_layout.specs.BrushModel.{BrushModel, IsModelBehind, AreModelsBehind}
use Rattle.qm_model_layout.specs.ModelLayout.{KeptModel, kept_layout, is_model, model_of_kept, kept_of_model, tested_model_layout, model_layout, models_layout, AreModelsBytes, read_models}
use Rattle.qm_model_layout.specs.ModelFaults.{bytes_of_models, last_entity, AreFirstModels, BeginWithKept, IsFaultOfModelBytes, number_cut_off, model_cut_off, no_model, bytes_follow}
use Rattle.qm_model_layout.proofs.ExactModels.{kept_exact, kept_bytes, kept_there, model_exact, models_exact}
use Rattle.qm_model_layout.proofs.FaultKinds.{kept_alone, count_alone}
use Rattle.qm_model_layout.proofs.ValidModels.{HaveFileBytes, model_in_words, model_by_test, models_in_words, models_by_test}
use Rattle.qm_model_layout.proofs.WholeSections.{parts_of_bytes, each_part, file_parts, own_bytes}

-- ---- a model as it is kept

module _ (file : List ℕ) (at : ℕ) (kept : KeptModel) where
  kept_first : (next : ℕ) → IsRightAt kept_layout file at kept next → BeginWithKept (drop at file) kept
  kept_first next is = record { fits = is.right; rest = drop next file; bytes_are = is.stands.stands }

  kept_read : at ≤ length file → BeginWithKept (drop at file) kept → kept_layout.read file at ≡ got kept (at + length (kept_layout.bytes_of kept))
  kept_read within begins = kept_exact.again file at kept (at + length (kept_layout.bytes_of kept)) (record { right = begins.fits; stands = stands_from file at (kept_layout.bytes_of kept) begins.rest within begins.bytes_are })

-- ---- a model that is due

module _ (bound numbered before : ℕ) where
  -- no model that can stand there is kept so
  abbrev IsNoModel : KeptModel → Type 0
  IsNoModel kept = (model : BrushModel) → kept_of_model model ≡ kept → IsModelBehind bound numbered before model → ⊥

  -- the fault at a place where a model is due
  abbrev IsDueFault : List ℕ → ℕ → FileFaultKind → ℕ → Type 0
  IsDueFault file mid fault place =
      (((kept : KeptModel) → BeginWithKept (drop mid file) kept → ⊥) × (fault ≡ short) × (place ≡ length file))
      ⊎ ((kept : KeptModel) × BeginWithKept (drop mid file) kept × IsNoModel kept × (fault ≡ section_form) × (place ≡ mid))

  test_of_right : (model : BrushModel) → (model_layout bound numbered before).right model ≡ true → is_model bound numbered before (kept_of_model model) ≡ true
  unfolding model_layout
  test_of_right model right =
      let kept = kept_of_model model in
      let written = file_layout.right model.file && leb (length (file_bytes model.file)) file_limit in
      (and_parts (kept_layout.right kept) (is_model bound numbered before kept) (and_parts ((tested_model_layout bound numbered before).right kept) written right).0).1

  refused : (kept : KeptModel) → kept_layout.right kept ≡ true → is_model bound numbered before kept ≡ false → IsNoModel kept
  refused kept fits test model same is =
      let bytes : AreBytes (file_bytes model.file) = subst AreBytes (sym (ap (λ (k : KeptModel). k.bytes) same)) (kept_bytes kept fits) in
      let passes = test_of_right model (model_by_test bound numbered before model bytes is) in
      absurd (let e = sym test ∙ subst (λ (k : KeptModel). is_model bound numbered before k ≡ true) same passes in cc)

  by_refusal : (kept : KeptModel) → kept_layout.right kept ≡ true → IsNoModel kept → (test : Bool) → is_model bound numbered before kept ≡ test → is_model bound numbered before kept ≡ false
  unfolding model_layout
  by_refusal kept fits none true is =
      let both = kept_there bound numbered before kept (and_from (kept_layout.right kept) (is_model bound numbered before kept) fits is) in
      absurd (none (model_of_kept kept) both.0 (model_in_words bound numbered before (model_of_kept kept) both.1))
  by_refusal kept fits none false is = is

  module _ (file : List ℕ) (are : AreBytes file) (mid : ℕ) (within : mid ≤ length file) where
    abbrev behind_kept : KeptModel → ℕ → Decoded FileFaultKind KeptModel
    behind_kept x next = cond (is_model bound numbered before x) (got x next) (bad section_form mid)

    abbrev read_model : Decoded FileFaultKind BrushModel
    read_model = (model_layout bound numbered before).read file mid

    due_found : (fault : FileFaultKind) (place : ℕ) → read_model ≡ bad fault place → IsDueFault file mid fault place
    unfolding model_layout
    due_found fault place is =
        let inner = map_bad model_of_kept (decoded_then (kept_layout.read file mid) behind_kept) fault place is in
        elim (then_bad (kept_layout.read file mid) behind_kept fault place inner) [
          | inl none ↦
              let ends = kept_alone.alone file mid fault place none in
              inl ((λ kept begins. absurd (let e = sym (kept_read file mid kept within begins) ∙ none in cc)), ends.0, ends.1)
          | inr some ↦
              let right = kept_exact.found file mid some.0 some.1 are within some.2 in
              let failed = chosen_bad (is_model bound numbered before some.0) some.0 some.1 section_form mid fault place some.3 in
              inr (some.0, kept_first file mid some.0 some.1 right, refused some.0 right.right failed.0, failed.1, failed.2)
        ]

    by_answer : (answer : Decoded FileFaultKind KeptModel) → kept_layout.read file mid ≡ answer → ((kept : KeptModel) → BeginWithKept (drop mid file) kept → ⊥) → read_model ≡ bad short (length file)
    unfolding model_layout
    by_answer (got kept next) is none = absurd (none kept (kept_first file mid kept next (kept_exact.found file mid kept next are within is)))
    by_answer (bad fault place) is none =
        let ends = kept_alone.alone file mid fault place is in
        let whole : kept_layout.read file mid ≡ bad short (length file) = is ∙ (λ i. bad (ends.0 i) (ends.1 i)) in
        ap (λ (answer : Decoded FileFaultKind KeptModel). decoded_map model_of_kept (decoded_then answer behind_kept)) whole

    form_again : (kept : KeptModel) → BeginWithKept (drop mid file) kept → IsNoModel kept → read_model ≡ bad section_form mid
    unfolding model_layout
    form_again kept begins none =
        let next = mid + length (kept_layout.bytes_of kept) in
        let failed = by_refusal kept begins.fits none (is_model bound numbered before kept) refl in
        ap (λ (answer : Decoded FileFaultKind KeptModel). decoded_map model_of_kept (decoded_then answer behind_kept)) (kept_read file mid kept within begins)
        ∙ ap (λ (b : Bool). decoded_map model_of_kept (cond b (got kept next) (bad section_form mid))) failed

    due_again : (fault : FileFaultKind) (place : ℕ) → IsDueFault file mid fault place → read_model ≡ bad fault place
    due_again fault place is =
        elim is [
          | inl none ↦ by_answer (kept_layout.read file mid) refl none.0 ∙ (λ i. bad (sym none.1 i) (sym none.2 i))
          | inr some ↦ form_again some.0 some.1 some.2 ∙ (λ i. bad (sym some.3 i) (sym some.4 i))
        ]

-- ---- models one behind the other

abbrev entity_of : BrushModel → ℕ
entity_of model = model.entity

own_model_bytes : (bound numbered before : ℕ) (model : BrushModel) → (model_layout bound numbered before).bytes_of model ≡ (model_layout small_bound 0 0).bytes_of model
unfolding model_layout
own_model_bytes bound numbered before model = refl

module _ (bound numbered : ℕ) (file : List ℕ) (are : AreBytes file) where
  -- the first models are there, and at the place behind them there is a fault
  record IsFirstFault (before count at : ℕ) (fault : FileFaultKind) (place : ℕ) : Type 0 where
    models : List BrushModel
    mid : ℕ
    few : length models < count
    are_models : AreModelsBehind bound numbered before models
    stands : StandsAt file at (bytes_of_models models) mid
    due : IsDueFault bound numbered (last_entity before models) file mid fault place

  abbrev read_others : ℕ → ℕ → ℕ → Decoded FileFaultKind (List BrushModel)
  read_others before count at = read_each_after (λ (model : BrushModel). model.entity) (model_layout bound numbered) before count file at

  each_found : (before count at : ℕ) (fault : FileFaultKind) (place : ℕ) → at ≤ length file → read_others before count at ≡ bad fault place → IsFirstFault before count at fault place
  each_found before zero at fault place within is = absurd cc
  each_found before (suc count) at fault place within is =
      elim (then_bad ((model_layout bound numbered before).read file at) (λ x next. decoded_map (λ (xs : List BrushModel). x ∷ xs) (read_others x.entity count next)) fault place is) [
        | inl here ↦ record { models = []; mid = at; few = omega arith; are_models = tt; stands = stands_nothing file at within; due = due_found bound numbered before file are at within fault place here }
        | inr later ↦
            let model = later.0 in
            let found = (model_exact bound numbered before).found file at model later.1 are within later.2 in
            let others = each_found model.entity count later.1 fault place found.stands.within (map_bad (λ (xs : List BrushModel). model ∷ xs) (read_others model.entity count later.1) fault place later.3) in
            let few = others.few in
            record {
              models = model ∷ others.models;
              mid = others.mid;
              few = omega (arith, few);
              are_models = (model_in_words bound numbered before model found.right, others.are_models);
              stands = stands_both file at ((model_layout small_bound 0 0).bytes_of model) later.1 (bytes_of_models others.models) others.mid (subst (λ (part : List ℕ). StandsAt file at part later.1) (own_model_bytes bound numbered before model) found.stands) others.stands;
              due = others.due;
            }
      ]

  each_again : (before : ℕ) (models : List BrushModel) (count at mid : ℕ) (fault : FileFaultKind) (place : ℕ) →
      HaveFileBytes models → AreModelsBehind bound numbered before models → length models < count → at ≤ length file → StandsAt file at (bytes_of_models models) mid → IsDueFault bound numbered (last_entity before models) file mid fault place →
      read_others before count at ≡ bad fault place
  each_again before models zero at mid fault place bytes valid few within stands due = absurd (omega (arith, few))
  each_again before [] (suc count) at mid fault place bytes valid few within stands due =
      let ends = stands.ends in
      let here : mid ≡ at = omega (arith, ends) in
      let moved = subst (λ (n : ℕ). IsDueFault bound numbered before file n fault place) here due in
      ap (λ (answer : Decoded FileFaultKind BrushModel). decoded_then answer (λ x next. decoded_map (λ (xs : List BrushModel). x ∷ xs) (read_others x.entity count next))) (due_again bound numbered before file are at within fault place moved)
  each_again before (model ∷ models) (suc count) at mid fault place bytes valid few within stands due =
      let own = (model_layout small_bound 0 0).bytes_of model in
      let next = at + length own in
      let first = stands_first file at own (bytes_of_models models) mid stands in
      let second = stands_second file at own (bytes_of_models models) mid stands in
      let right = model_by_test bound numbered before model bytes.0 valid.0 in
      let read = (model_exact bound numbered before).again file at model next (record { right = right; stands = subst (λ (part : List ℕ). StandsAt file at part next) (sym (own_model_bytes bound numbered before model)) first }) in
      ap (λ (answer : Decoded FileFaultKind BrushModel). decoded_then answer (λ x next. decoded_map (λ (xs : List BrushModel). x ∷ xs) (read_others x.entity count next))) read
      ∙ ap (decoded_map (λ (xs : List BrushModel). model ∷ xs)) (each_again model.entity models count next mid fault place bytes.1 valid.1 (omega (arith, few)) first.within second due)

-- ---- a whole section

count_cut : (file : List ℕ) (fault : FileFaultKind) (place : ℕ) → (unsigned short w32).read file 0 ≡ bad fault place → length file < 4
unfolding unsigned raw
count_cut file fault place is =
    let inner = map_bad (from_le_bytes w32) ((raw short 4).read file 0) fault place is in
    let ends = chosen_end (ltb (length file) (0 + 4)) (take 4 (drop 0 file)) (0 + 4) short (length file) fault place inner in
    ltb-true (length file) 4 ends.0

count_short : (file : List ℕ) → length file < 4 → (unsigned short w32).read file 0 ≡ bad short (length file)
unfolding unsigned raw
count_short file less = ap (λ (b : Bool). decoded_map (from_le_bytes w32) (cond b (bad short (length file)) (got (take 4 (drop 0 file)) (0 + 4)))) (lt-ltb (length file) 4 less)

count_fits : (count : ℕ) → (unsigned short w32).right count ≡ true → count < 2 ^ 32
unfolding unsigned
count_fits count right = ltb-true count (2 ^ 32) right

fits_count : (count : ℕ) → count < 2 ^ 32 → (unsigned short w32).right count ≡ true
unfolding unsigned
fits_count count fits = lt-ltb count (2 ^ 32) fits

module _ (bound numbered : ℕ) (file : List ℕ) (are : AreBytes file) where
  abbrev read_list : ℕ → ℕ → Decoded FileFaultKind (List BrushModel)
  read_list count next = decoded_map (λ (models : List BrushModel). models) (read_others bound numbered file are 0 count next)

  abbrev to_end : List BrushModel → ℕ → Decoded FileFaultKind (List BrushModel)
  to_end models next = cond (ltb next (length file)) (bad trailing next) (got models next)

  of_first : (count next : ℕ) (fault : FileFaultKind) (place : ℕ) → IsRightAt (unsigned short w32) file 0 count next → IsFirstFault bound numbered file are 0 count next fault place → IsFaultOfModelBytes bound numbered file fault place
  of_first count next fault place right first =
      let left = drop first.mid file in
      let models = first.models in
      let due_at = first.mid in
      let within = first.stands.within in
      let dropped = length-drop due_at file in
      let begins : AreFirstModels bound numbered file models left = record {
        count = count;
        count_fits = count_fits count right.right;
        few = first.few;
        are_models = first.are_models;
        bytes_are = right.stands.stands ∙ ap (λ (xs : List ℕ). (unsigned short w32).bytes_of count ++ xs) first.stands.stands;
      } in
      elim first.due [
        | inl none ↦ subst (λ (f : FileFaultKind). IsFaultOfModelBytes bound numbered file f place) (sym none.1) (subst (λ (p : ℕ). IsFaultOfModelBytes bound numbered file short p) (sym none.2) (model_cut_off models left begins none.0))
        | inr some ↦ subst (λ (f : FileFaultKind). IsFaultOfModelBytes bound numbered file f place) (sym some.3) (subst (λ (p : ℕ). IsFaultOfModelBytes bound numbered file section_form p) (sym some.4) (no_model models left some.0 due_at begins some.1 some.2 (omega (arith, within, dropped))))
      ]

  pub fault_in_words : (fault : FileFaultKind) (place : ℕ) → read_models bound numbered file ≡ bad fault place → IsFaultOfModelBytes bound numbered file fault place
  unfolding read_models models_layout
  fault_in_words fault place is =
      elim (then_bad ((models_layout bound numbered).read file 0) to_end fault place is) [
        | inl inside ↦
            elim (then_bad ((unsigned short w32).read file 0) read_list fault place inside) [
              | inl none ↦
                  let ends = count_alone.alone file 0 fault place none in
                  subst (λ (f : FileFaultKind). IsFaultOfModelBytes bound numbered file f place) (sym ends.0) (subst (λ (p : ℕ). IsFaultOfModelBytes bound numbered file short p) (sym ends.1) (number_cut_off (count_cut file fault place none)))
              | inr some ↦
                  let right = (unsigned_32_exact short).found file 0 some.0 some.1 are (omega arith) some.2 in
                  of_first some.0 some.1 fault place right (each_found bound numbered file are 0 some.0 some.1 fault place right.stands.within (map_bad (λ (models : List BrushModel). models) (read_others bound numbered file are 0 some.0 some.1) fault place some.3))
            ]
        | inr all ↦
            let ends = chosen_end (ltb all.1 (length file)) all.0 all.1 trailing all.1 fault place all.3 in
            let found = (models_exact bound numbered).found file 0 all.0 all.1 are (omega arith) all.2 in
            let front = (models_layout bound numbered).bytes_of all.0 in
            let left = drop all.1 file in
            let place_is = found.stands.ends in
            let more = ltb-true all.1 (length file) ends.0 in
            let dropped = length-drop all.1 file in
            let here : length front ≡ place = omega (arith, place_is) ∙ sym ends.2 in
            subst (λ (f : FileFaultKind). IsFaultOfModelBytes bound numbered file f place) (sym ends.1) (subst (λ (p : ℕ). IsFaultOfModelBytes bound numbered file trailing p) here (bytes_follow front left all.0 (record { are_valid = models_in_words bound numbered all.0 found.right; bytes_are = own_bytes bound numbered all.0 }) (omega (arith, more, dropped)) found.stands.stands))
      ]

  -- ---- and the other way round

  whole_again : (count next : ℕ) (fault : FileFaultKind) (place : ℕ) → (unsigned short w32).read file 0 ≡ got count next → read_others bound numbered file are 0 count next ≡ bad fault place → read_models bound numbered file ≡ bad fault place
  unfolding read_models models_layout
  whole_again count next fault place counted others =
      ap (λ (answer : Decoded FileFaultKind ℕ). decoded_then (decoded_then answer read_list) to_end) counted
      ∙ ap (λ (answer : Decoded FileFaultKind (List BrushModel)). decoded_then (decoded_map (λ (models : List BrushModel). models) answer) to_end) others

  number_again : length file < 4 → read_models bound numbered file ≡ bad short (length file)
  unfolding read_models models_layout
  number_again less = ap (λ (answer : Decoded FileFaultKind ℕ). decoded_then (decoded_then answer read_list) to_end) (count_short file less)

  module _ (models : List BrushModel) (left : List ℕ) (first : AreFirstModels bound numbered file models left) where
    abbrev counted : List ℕ
    counted = (unsigned short w32).bytes_of first.count

    abbrev next : ℕ
    next = 0 + length counted

    abbrev mid : ℕ
    mid = next + length (bytes_of_models models)

    stands_count : StandsAt file 0 counted next
    stands_count = stands_from file 0 counted (bytes_of_models models ++ left) (omega arith) first.bytes_are

    behind_count : drop next file ≡ bytes_of_models models ++ left
    behind_count = behind_part file 0 counted (bytes_of_models models ++ left) first.bytes_are

    stands_models : StandsAt file next (bytes_of_models models) mid
    stands_models = stands_from file next (bytes_of_models models) left stands_count.within behind_count

    left_is : drop mid file ≡ left
    left_is = behind_part file next (bytes_of_models models) left behind_count

    models_have_bytes : HaveFileBytes models
    models_have_bytes =
        let whole = sym (ap are_bytes first.bytes_are) ∙ are_bytes-from file are in
        let behind = (parts_of_bytes counted (bytes_of_models models ++ left) whole).1 in
        each_part models (parts_of_bytes (bytes_of_models models) left behind).0

    due_in_section : (fault : FileFaultKind) (place : ℕ) → IsDueFault bound numbered (last_entity 0 models) file mid fault place → read_models bound numbered file ≡ bad fault place
    due_in_section fault place due =
        whole_again first.count next fault place ((unsigned_32_exact short).again file 0 first.count next (record { right = fits_count first.count first.count_fits; stands = stands_count }))
        (each_again bound numbered file are 0 models first.count next mid fault place models_have_bytes first.are_models first.few stands_count.within stands_models due)

    cut_again : ((kept : KeptModel) → BeginWithKept left kept → ⊥) → read_models bound numbered file ≡ bad short (length file)
    cut_again none = due_in_section short (length file) (inl ((λ kept begins. none kept (subst (λ (xs : List ℕ). BeginWithKept xs kept) left_is begins)), refl, refl))

    form_in_section : (kept : KeptModel) (place : ℕ) → BeginWithKept left kept → IsNoModel bound numbered (last_entity 0 models) kept → place + length left ≡ length file → read_models bound numbered file ≡ bad section_form place
    form_in_section kept place begins none place_is =
        let within = stands_models.within in
        let dropped = length-drop mid file in
        let long = ap length left_is in
        due_in_section section_form place (inr (kept, subst (λ (xs : List ℕ). BeginWithKept xs kept) (sym left_is) begins, none, refl, omega (arith, within, dropped, long, place_is)))

  trailing_again : (front left : List ℕ) (models : List BrushModel) → AreModelsBytes bound numbered front models → 0 < length left → file ≡ front ++ left → read_models bound numbered file ≡ bad trailing (length front)
  unfolding read_models
  trailing_again front left models is some bytes_are =
      let whole = sym (ap are_bytes bytes_are) ∙ are_bytes-from file are in
      let of_front = bytes-are front (parts_of_bytes front left whole).0 in
      let files = file_parts models (subst AreBytes is.bytes_are of_front) in
      let own : front ≡ (models_layout bound numbered).bytes_of models = is.bytes_are ∙ sym (own_bytes bound numbered models) in
      let here : 0 + length front ≡ length front = omega arith in
      let stands = subst (λ (n : ℕ). StandsAt file 0 ((models_layout bound numbered).bytes_of models) n) here (subst (λ (part : List ℕ). StandsAt file 0 part (0 + length front)) own (stands_from file 0 front left (omega arith) bytes_are)) in
      let read = (models_exact bound numbered).again file 0 models (length front) (record { right = models_by_test bound numbered models files is.are_valid; stands = stands }) in
      let long = ap length bytes_are in
      let both = length-append front left in
      ap (λ (answer : Decoded FileFaultKind (List BrushModel)). decoded_then answer to_end) read
      ∙ ap (λ (b : Bool). cond b (bad trailing (length front)) (got models (length front))) (lt-ltb (length front) (length file) (omega (arith, long, both, some)))

  pub fault_again : (fault : FileFaultKind) (place : ℕ) → IsFaultOfModelBytes bound numbered file fault place → read_models bound numbered file ≡ bad fault place
  fault_again fault place (number_cut_off less) = number_again less
  fault_again fault place (model_cut_off models left first none) = cut_again models left first none
  fault_again fault place (no_model models left kept at first begins none place_is) = form_in_section models left first kept at begins none place_is
  fault_again fault place (bytes_follow front left models is some bytes_are) = trailing_again front left models is some bytes_are

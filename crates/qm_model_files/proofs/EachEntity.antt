-- The models of a map, one for each entity that has one.
use Rattle.std.proofs.Common.{◌≡◌, ◌<◌, ℕ, zero, suc, ◌+◌, List, [], ◌∷◌, All, Contains, length, get_or, ap, ◌∙◌, subst, arith, inl, inr}
use Rattle.std.specs.Prelude.{map as mapped}
use Rattle.std.specs.List.Sorted.{IsStrictlyIncreasing}
use Rattle.std.proofs.lemmas.Bool.{cases_lt}
use Rattle.std.proofs.lemmas.List.Elements.{All-nil, All-cons, All-head, All-tail, All-contains, Contains-append_left, Contains-push}
use Rattle.qm_lists.proofs.Elements.{Contains-map_from}
use Rattle.qm_mapfile.specs.declared.entity.MapFile.{MapFile}
use Rattle.qm_drawn.specs.Solids.{entity_solids}
use Rattle.qm_solids.specs.Solid.{Solid}
use Rattle.qm_solids.specs.Flat.{IsFlat}
use Rattle.qm_partition.specs.Tree.{Tree}
use Rattle.qm_outlines.specs.HeldPoints.{HasFull, HasNoFull}
use Rattle.qm_outlines.specs.Models.{FoundModel, IsModelOf, AreModelsUpTo, none_yet, no_model, model, AreModelsOf, no_entity, of_entities}
use Rattle.qm_model_layout.specs.BrushModel.{BrushModel}
use Rattle.qm_model_sections.specs.MapModels.{model_found, AreBrushModelsOf}
use Rattle.qm_model_sections.proofs.WrittenBoxes.{some_held}
use Rattle.qm_model_sections.proofs.EachModel.{EntitiesAscend, found_ascend, each_model}
use Rattle.qm_model_files.specs.ExactModels.{IsExactModel, AreExactModels}

not_both : (solids : List Solid) → HasFull solids → HasNoFull solids → ⊥
not_both solids full flat = All-contains IsFlat solids full.solid flat full.listed full.full

module _ (map : MapFile) (world : Tree) where
  -- ---- none is left

  abbrev IsFoundFor : List FoundModel → ℕ → Type 0
  IsFoundFor models e = (found : FoundModel) × Contains models found × (found.entity ≡ e)

  found_up_to : (limit : ℕ) (models : List FoundModel) → AreModelsUpTo map world limit models → (e : ℕ) → 0 < e → e < limit → HasFull (entity_solids map e) → IsFoundFor models e
  found_up_to limit models none_yet e some below full = absurd (omega (arith, some, below))
  found_up_to limit models (no_model {e = d} {models = before} up flat) e some below full = elim (cases_lt e d) [
    | inl less ↦ found_up_to d before up e some less full
    | inr last ↦ absurd (let same : d ≡ e = omega (arith, last, below) in not_both (entity_solids map e) full (subst (λ (n : ℕ). HasNoFull (entity_solids map n)) same flat))
  ]
  found_up_to limit models (model {e = d} {models = before} {found = found} up is) e some below full = elim (cases_lt e d) [
    | inl less ↦
        let its = found_up_to d before up e some less full in
        (its.0, Contains-append_left before (found ∷ []) its.0 its.1, its.2)
    | inr last ↦ let same : d ≡ e = omega (arith, last, below) in (found, Contains-push before found, is.entity_is ∙ same)
  ]

  found_for : (models : List FoundModel) → AreModelsOf map world models → (e : ℕ) → 0 < e → e < length map.entities → HasFull (entity_solids map e) → IsFoundFor models e
  found_for models (no_entity none empty) e some below full = absurd (let long = ap length none in omega (arith, some, below, long))
  found_for models (of_entities up) e some below full = found_up_to (length map.entities) models up e some below full

  -- ---- each

  exact_each : (before : ℕ) (models : List BrushModel) → EntitiesAscend before (length map.entities) (mapped model_found models) → All (λ model. IsModelOf map world model.entity (model_found model)) models → All (IsExactModel map world) models
  exact_each before [] ascend each = All-nil (IsExactModel map world)
  exact_each before (first ∷ models) ascend each =
      let Own : BrushModel → Type 0 = λ m. IsModelOf map world m.entity (model_found m) in
      let own = All-head Own first models each in
      let its : IsExactModel map world first = record {
        not_world = omega (arith, ascend.0);
        within = ascend.1;
        some_full = λ flat. some_held (entity_solids map first.entity) first.box own.box_is (λ x held. All-contains IsFlat (entity_solids map first.entity) held.solid flat held.listed held.holds.full);
        box_is = own.box_is;
        leaves_are = own.leaves_are;
        gives_contents = own.gives_contents;
      } in
      All-cons (IsExactModel map world) first models its (exact_each first.entity models ascend.2 (All-tail Own first models each))

  -- ---- in order

  increasing : (before limit : ℕ) (models : List BrushModel) → EntitiesAscend before limit (mapped model_found models) → IsStrictlyIncreasing (mapped (λ (m : BrushModel). m.entity) models)
  increasing before limit [] ascend k within = absurd (omega (arith, within))
  increasing before limit (first ∷ []) ascend k within = absurd (omega (arith, within))
  increasing before limit (first ∷ second ∷ rest) ascend zero within = ascend.2.0
  increasing before limit (first ∷ second ∷ rest) ascend (suc k) within =
      let later = mapped (λ (m : BrushModel). m.entity) (second ∷ rest) in
      let next : suc (k + 1) ≡ suc k + 1 = omega arith in
      subst (λ (i : ℕ). get_or later k 0 < get_or (first.entity ∷ later) i 0) next (increasing first.entity limit (second ∷ rest) ascend.2 k (omega (arith, within)))

  -- ---- all of them

  pub exact_models : (models : List BrushModel) → AreBrushModelsOf map world models → AreExactModels map world models
  exact_models models are = record {
    each = exact_each 0 models ascend (each_model map world models are);
    in_order = increasing 0 (length map.entities) models ascend;
    none_is_left = λ e some below full.
        let found = found_for (mapped model_found models) are.are_found e some below full in
        let its = Contains-map_from model_found models found.0 found.1 in
        (its.0, its.1, ap (λ (f : FoundModel). f.entity) its.2 ∙ found.2);
  }
    where
      ascend : EntitiesAscend 0 (length map.entities) (mapped model_found models)
      ascend = found_ascend map world (mapped model_found models) are.are_found

-- The models of a map, one by one: their entities ascend from 1 on, below the number of entities, and each is its entity's.
use Rattle.std.proofs.Common.{◌≡◌, ◌<◌, ◌≤◌, ℕ, ◌+◌, List, [], ◌∷◌, ◌++◌, All, length, sym, subst, arith}
use Rattle.std.specs.Prelude.{map as mapped}
use Rattle.std.proofs.lemmas.List.Elements.{All-nil, All-push}
use Rattle.qm_lists.proofs.Elements.{All-from_map}
use Rattle.qm_mapfile.specs.declared.entity.MapFile.{MapFile}
use Rattle.qm_partition.specs.Tree.{Tree}
use Rattle.qm_outlines.specs.Models.{FoundModel, IsModelOf, AreModelsUpTo, none_yet, no_model, model, AreModelsOf, no_entity, of_entities}
use Rattle.qm_model_layout.specs.BrushModel.{BrushModel}
use Rattle.qm_model_sections.specs.MapModels.{model_found, AreBrushModelsOf}

-- entities that ascend, the first above a number, each below a limit
abbrev pub EntitiesAscend : ℕ → ℕ → List FoundModel → Type 0
EntitiesAscend before limit [] = Unit {0}
EntitiesAscend before limit (found ∷ rest) = (before < found.entity) × (found.entity < limit) × EntitiesAscend found.entity limit rest

higher_limit : (before limit : ℕ) (models : List FoundModel) → EntitiesAscend before limit models → EntitiesAscend before (limit + 1) models
higher_limit before limit [] ascend = tt
higher_limit before limit (found ∷ rest) ascend = (ascend.0, omega (arith, ascend.1), higher_limit found.entity limit rest ascend.2)

one_more : (before limit : ℕ) (models : List FoundModel) (last : FoundModel) → EntitiesAscend before limit models → before < limit → last.entity ≡ limit → EntitiesAscend before (limit + 1) (models ++ last ∷ [])
one_more before limit [] last ascend above is = (omega (arith, above, is), omega (arith, is), tt)
one_more before limit (found ∷ rest) last ascend above is = (ascend.0, omega (arith, ascend.1), one_more found.entity limit rest last ascend.2 ascend.1 is)

module _ (map : MapFile) (world : Tree) where
  some_limit : (e : ℕ) (models : List FoundModel) → AreModelsUpTo map world e models → 1 ≤ e
  some_limit e models none_yet = omega arith
  some_limit e models (no_model {e = d} before flat) = omega arith
  some_limit e models (model {e = d} before is) = omega arith

  ascend_up_to : (e : ℕ) (models : List FoundModel) → AreModelsUpTo map world e models → EntitiesAscend 0 e models
  ascend_up_to e models none_yet = tt
  ascend_up_to e models (no_model {e = d} {models = before} up flat) = higher_limit 0 d before (ascend_up_to d before up)
  ascend_up_to e models (model {e = d} {models = before} {found = found} up is) =
      one_more 0 d before found (ascend_up_to d before up) (omega (arith, some_limit d before up)) is.entity_is

  abbrev pub IsOwnModel : FoundModel → Type 0
  IsOwnModel found = IsModelOf map world found.entity found

  each_up_to : (e : ℕ) (models : List FoundModel) → AreModelsUpTo map world e models → All IsOwnModel models
  each_up_to e models none_yet = All-nil IsOwnModel
  each_up_to e models (no_model {e = d} {models = before} up flat) = each_up_to d before up
  each_up_to e models (model {e = d} {models = before} {found = found} up is) =
      All-push IsOwnModel before found (each_up_to d before up) (subst (λ (n : ℕ). IsModelOf map world n found) (sym is.entity_is) is)

  pub found_ascend : (models : List FoundModel) → AreModelsOf map world models → EntitiesAscend 0 (length map.entities) models
  found_ascend models (no_entity none empty) = subst (EntitiesAscend 0 (length map.entities)) (sym empty) tt
  found_ascend models (of_entities up) = ascend_up_to (length map.entities) models up

  pub each_found : (models : List FoundModel) → AreModelsOf map world models → All IsOwnModel models
  each_found models (no_entity none empty) = subst (All IsOwnModel) (sym empty) (All-nil IsOwnModel)
  each_found models (of_entities up) = each_up_to (length map.entities) models up

  pub each_model : (models : List BrushModel) → AreBrushModelsOf map world models → All (λ model. IsModelOf map world model.entity (model_found model)) models
  each_model models are = All-from_map IsOwnModel model_found models (each_found (mapped model_found models) are.are_found)

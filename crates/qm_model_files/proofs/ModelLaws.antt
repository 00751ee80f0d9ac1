-- What the brush models say of a map, in the files that it compiles to.
use Rattle.std.proofs.Common.{◌≡◌, Bool, List, All, Option, Some, sym, ◌∙◌, subst}
use Rattle.std.specs.Prelude.{IsTrue}
use Rattle.std.proofs.lemmas.List.Elements.{All-weaker}
use Rattle.qm_mapfile.specs.declared.entity.MapFile.{MapFile}
use Rattle.qm_drawn.specs.Solids.{drawn_solids, entity_solids}
use Rattle.qm_solids.specs.Contents.{HasContents}
use Rattle.qm_contacts.specs.World.{World}
use Rattle.qm_segments.specs.Ends.{HoldLinesOfSight}
use Rattle.qm_formats.specs.TreeFile.{TreeFile}
use Rattle.qm_outlines.proofs.TouchedLeaves.{point_in_leaves}
use Rattle.qm_outlines.proofs.ShownModels.{line_shows_model}
use Rattle.qm_model_layout.specs.BrushModel.{BrushModel}
use Rattle.qm_commands.specs.declared.options.Options.{Options}
use Rattle.qm_statement.specs.declared.summary.Summary.{Summary}
use Rattle.qm_statement.specs.CompiledMap.{IsCompiledWithoutLeak}
use Rattle.qm_model_files.specs.ReadModels.{AreReadModels, HasModels}
use Rattle.qm_model_files.specs.ExactModels.{IsExactModel, AreExactModels}
use Rattle.qm_model_files.specs.SeenModels.{HasLeavesOfPoints, IsShownByLines}
use Rattle.qm_model_files.proofs.KeptModels.{models_there, kept_models}
use Rattle.qm_model_files.proofs.EachEntity.{exact_models}

module _ (map : MapFile) (options : Options) (file : TreeFile) (world : World) (summary : Summary) (is : IsCompiledWithoutLeak map options file world summary) where
  pub models_of_compiled : IsTrue options.models → HasModels file
  models_of_compiled asked = models_there map options file is.has_sections is.has_form.bound asked

  module _ (models : List BrushModel) (read : AreReadModels file models) where
    pub exact_of_compiled : AreExactModels map file.tree models
    exact_of_compiled = exact_models map file.tree models (kept_models map options file is.has_sections is.has_form.bound models read)

    pub leaves_of_compiled : All (HasLeavesOfPoints map file.tree) models
    leaves_of_compiled = All-weaker (IsExactModel map file.tree) (HasLeavesOfPoints map file.tree)
        (λ model exact solid x n listed in_cube inside off number.
        point_in_leaves file.tree (entity_solids map model.entity) model.leaves solid x n exact.leaves_are listed in_cube inside off number)
        models exact_of_compiled.each

    pub lines_of_compiled : (rows : List (List Bool)) → file.rows ≡ Some rows → All (IsShownByLines map file.tree rows) models
    lines_of_compiled rows has_rows =
        let both : ◌≡◌ {A = Option (List (List Bool))} (Some is.rows) (Some rows) = sym is.has_rows ∙ has_rows in
        let same : is.rows ≡ rows = cc in
        let hold = subst (HoldLinesOfSight (HasContents (drawn_solids map)) file.tree) same is.hold_sight in
        All-weaker (IsExactModel map file.tree) (IsShownByLines map file.tree rows)
        (λ model exact solid s listed line inside.
        line_shows_model (HasContents (drawn_solids map)) file.tree rows (entity_solids map model.entity) model.leaves s solid hold line exact.leaves_are listed inside)
        models exact_of_compiled.each

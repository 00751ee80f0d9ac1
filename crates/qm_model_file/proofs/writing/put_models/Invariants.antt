use Rattle.std.proofs.Common.{◌≡◌, ◌++◌, take}
use Rattle.std.specs.List.{flat_map}
use Rattle.qm_formats.specs.TreeFile.{small_bound}
use Rattle.qm_model_layout.specs.ModelLayout.{model_layout}
use Rattle.qm_model_file.proofs.writing.put_models.Given as goal

-- the first models are written
abbrev pub invariant-loop-model : goal.invariant-loop-model
invariant-loop-model l = l.bytes.items ≡ l.fn.bytes.items ++ flat_map (model_layout small_bound 0 0).bytes_of (take l.model-index l.models)

use Rattle.std.specs.Prelude.{ℕ, List}
use Rattle.qm_model_layout.specs.ModelLayout.{KeptModel}
use Rattle.qm_model_file.specs.declared.kept_reading.ModelHead.{ModelHead}

-- a model that was read as it is kept, with the bytes of its tree's file, as the layouts know it
abbrev pub seen_kept : ModelHead → List ℕ → KeptModel
seen_kept head bytes = record { entity = head.entity; box = head.bounding_box; leaves = head.leaves.items; bytes = bytes }

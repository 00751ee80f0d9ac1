use Rattle.std.specs.Prelude.{◌≡◌, ℕ, List, [], ◌∷◌, None, codes}
use Rattle.qm_commands.specs.FileNames.{FileNames, IsFileName, AreDifferent}

-- `format MAP OUT`: two names, which are different
pub record AreFormatWords (words : List (List ℕ)) (files : FileNames) : Type 0 where
  pub words_are : words ≡ codes "format" ∷ files.map_name ∷ files.out_name ∷ []
  pub is_map_name : IsFileName files.map_name
  pub is_out_name : IsFileName files.out_name
  pub no_listing : files.listing_name ≡ None
  pub different : AreDifferent files

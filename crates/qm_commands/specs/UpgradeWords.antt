use Rattle.std.specs.Prelude.{◌≡◌, ◌≢◌, ℕ, List, [], ◌∷◌, codes}
use Rattle.qm_commands.specs.FileNames.{IsFileName}

-- `upgrade TREE OUT`: two names, which are different
pub record AreUpgradeWords (words : List (List ℕ)) (tree_name out_name : List ℕ) : Type 0 where
  pub words_are : words ≡ codes "upgrade" ∷ tree_name ∷ out_name ∷ []
  pub is_tree_name : IsFileName tree_name
  pub is_out_name : IsFileName out_name
  pub different : tree_name ≢ out_name

use Rattle.std.specs.Prelude.{◌≡◌, ◌≤◌, ℕ, List, ◌∷◌, length, codes}
use Rattle.qm_commands.specs.declared.query.Query.{Query}
use Rattle.qm_commands.specs.FileNames.{IsFileName}
use Rattle.qm_commands.specs.QueryWord.{AreQueryWords}

-- `inspect TREE QUERY..`: the name of a tree file, and one query at least
pub record AreInspectWords (words : List (List ℕ)) (tree_name : List ℕ) (queries : List Query) : Type 0 where
  pub query_words : List (List ℕ)
  pub words_are : words ≡ codes "inspect" ∷ tree_name ∷ query_words
  pub is_name : IsFileName tree_name
  pub are_queries : AreQueryWords query_words queries
  pub some : 1 ≤ length queries

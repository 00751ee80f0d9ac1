use Rattle.std.specs.Prelude.{◌≡◌, ℕ, IsTrue, List, Result}
use Rattle.qm_surroundings.specs.ShelfState.{ShelfState, text_under}
use Rattle.qm_mapfile.specs.declared.entity.MapFile.{MapFile}
use Rattle.qm_grammar.specs.declared.fault.MapFault.{MapFault}
use Rattle.qm_grammar.specs.Meaning.{Means}

-- what a text under MAP means, a map or a fault, and nothing else; where the shelf tells what it holds, the text is
-- the one that it held
pub record TextMeans (before : ShelfState) (map_name : List ℕ) (meaning : Result MapFile MapFault) : Type 0 where
  pub text : List ℕ
  pub is_held : IsTrue before.tells → text ≡ text_under before map_name
  pub means : Means text meaning
  pub only : (other : Result MapFile MapFault) → Means text other → other ≡ meaning

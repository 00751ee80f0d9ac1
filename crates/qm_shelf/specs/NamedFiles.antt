use Rattle.std.specs.Prelude.{ℕ, List, Option, String, Vec}
use Rattle.std.specs.Option.{option_map}
use Rattle.std.specs.BTreeMap.{get_by_text, BTreeMap}

module _ {Y Z : Type 0} where
  -- the bytes of the file under a name, and none where the name is not held
  abbrev pub file_under : BTreeMap (String Y) (Vec ℕ Z) → List ℕ → Option (List ℕ)
  file_under files name = option_map (λ (file : Vec ℕ Z). file.items) (get_by_text files name)

-- Whether an entity has an origin, once one more pair is read.
use Rattle.std.proofs.Common.{◌≡◌, ℕ, Bool, true, false, not, ◌&&◌, List, [], ◌∷◌, ◌++◌, is_none, refl}
use Rattle.std.specs.Prelude.{bytes_eq}
use Rattle.qm_mapfile.specs.declared.entity.Pair.{Pair}
use Rattle.qm_grammar.specs.Origin.{value_of}

last_pair : (key : List ℕ) (pair : Pair) (same : Bool) → bytes_eq pair.key key ≡ same → is_none (value_of key (pair ∷ [])) ≡ not same
last_pair key pair true is = rw is refl
last_pair key pair false is = rw is refl

lacks_behind_one : (key : List ℕ) (first pair : Pair) (pairs : List Pair) (same : Bool) → bytes_eq first.key key ≡ same → is_none (value_of key (pairs ++ pair ∷ [])) ≡ (is_none (value_of key pairs) && not (bytes_eq pair.key key)) → is_none (value_of key ((first ∷ pairs) ++ pair ∷ [])) ≡ (is_none (value_of key (first ∷ pairs)) && not (bytes_eq pair.key key))
lacks_behind_one key first pair pairs true is others = rw is refl
lacks_behind_one key first pair pairs false is others = rw is others

-- no pair has a key where none of the earlier ones has it, and the last has not
pub lacks_push : (key : List ℕ) (pairs : List Pair) (pair : Pair) → is_none (value_of key (pairs ++ pair ∷ [])) ≡ (is_none (value_of key pairs) && not (bytes_eq pair.key key))
lacks_push key [] pair = last_pair key pair (bytes_eq pair.key key) refl
lacks_push key (first ∷ pairs) pair = lacks_behind_one key first pair pairs (bytes_eq first.key key) refl (lacks_push key pairs pair)

-- What holds of each item that is listed.
use Rattle.std.proofs.Common.{List, All, Contains, get_or}
use Rattle.std.proofs.lemmas.List.Elements.{Contains-get_or}

pub all_of_listed : {X : Type 0} (P : X → Type 0) (xs : List X) → ((x : X) → Contains xs x → P x) → All P xs
all_of_listed P xs each = λ k d within. each (get_or xs k d) (Contains-get_or xs k d within)

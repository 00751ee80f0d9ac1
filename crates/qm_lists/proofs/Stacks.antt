-- A stack of what is due: how it begins, what taking its last entry keeps, and what is done at the end.
use Rattle.std.proofs.Common.{◌≡◌, List, [], ◌∷◌, ◌++◌, map, refl, sym, ap, ◌∙◌, subst}
use Rattle.std.proofs.lemmas.List.{append_assoc, append-nil}
use Rattle.qm_lists.specs.inner.Stack.{ComesTo, Completes}

-- entries on top of others come to their lists first
pub comes_append : {Entry Item : Type 0} (By : Entry → List Item → Type 0) (below above : List Entry) (all : List Item) → ComesTo By (below ++ above) all → (own : List Item) × (others : List Item) × ComesTo By above own × ComesTo By below others × (all ≡ own ++ others)
comes_append By [] above all comes = (all, [], comes, refl, sym (append-nil all))
comes_append By (entry ∷ below) above all (own, others, by, comes, is) =
    let found = comes_append By below above others comes in
    (found.0, found.1 ++ own, found.2, (own, found.1, by, found.3, refl), is ∙ ap (λ rest. rest ++ own) found.4 ∙ append_assoc found.0 found.1 own)

pub comes_on_top : {Entry Item : Type 0} (By : Entry → List Item → Type 0) (below above : List Entry) (own others : List Item) → ComesTo By above own → ComesTo By below others → ComesTo By (below ++ above) (own ++ others)
comes_on_top By [] above own others comes_above comes_below = subst (λ rest. ComesTo By above (own ++ rest)) (sym comes_below) (subst (λ all. ComesTo By above all) (sym (append-nil own)) comes_above)
comes_on_top By (entry ∷ below) above own others comes_above (first, rest, by, comes, is) =
    (first, own ++ rest, by, comes_on_top By below above own rest comes_above comes, ap (λ all. own ++ all) is ∙ sym (append_assoc own rest first))

-- one entry that comes to what is wanted
pub one_due : {Entry Item : Type 0} (By : Entry → List Item → Type 0) (IsWanted : List Item → Type 0) (entry : Entry) → ((own : List Item) → By entry own → IsWanted own) → Completes By IsWanted (entry ∷ []) []
one_due By IsWanted entry wanted rest (own, others, by, none, is) = subst IsWanted (sym (is ∙ ap (λ first. first ++ own) none)) (wanted own by)

-- the last entry is taken: some of its list is done at once, and new entries are due for the rest of it
pub taken : {Entry Item : Type 0} (By : Entry → List Item → Type 0) (IsWanted : List Item → Type 0) (entries new : List Entry) (entry : Entry) (done own : List Item) → Completes By IsWanted (entries ++ entry ∷ []) done → ((rest : List Item) → ComesTo By new rest → By entry (own ++ rest)) → Completes By IsWanted (entries ++ new) (done ++ own)
taken By IsWanted entries new entry done own completes by rest comes =
    let parts = comes_append By entries new rest comes in
    let its = own ++ parts.0 in
    let one : ComesTo By (entry ∷ []) its = (its, [], by parts.0 parts.2, refl, refl) in
    let all = completes (its ++ parts.1) (comes_on_top By entries (entry ∷ []) its parts.1 one parts.3) in
    subst IsWanted (ap (λ some. done ++ some) (append_assoc own parts.0 parts.1 ∙ ap (λ some. own ++ some) (sym parts.4)) ∙ sym (append_assoc done own rest)) all

-- where nothing is due, what is done is what is wanted
pub nothing_due : {Entry Item : Type 0} (By : Entry → List Item → Type 0) (IsWanted : List Item → Type 0) (done : List Item) → Completes By IsWanted [] done → IsWanted done
nothing_due By IsWanted done completes = subst IsWanted (append-nil done) (completes [] refl)

-- entries by what the code keeps of them: the last one
pub last_of_map : {Entry Item : Type 0} (f : Entry → Item) (entries : List Entry) (items : List Item) (item : Item) → map f entries ≡ items ++ item ∷ [] → (others : List Entry) × (entry : Entry) × (entries ≡ others ++ entry ∷ []) × (map f others ≡ items) × (f entry ≡ item)
last_of_map f [] [] item is = absurd cc
last_of_map f [] (first ∷ items) item is = absurd cc
last_of_map f (entry ∷ []) [] item is = ([], entry, refl, refl, cc)
last_of_map f (entry ∷ []) (first ∷ items) item is = absurd (nothing_behind items item cc)
  where
    nothing_behind : {X : Type 0} (xs : List X) (x : X) → [] ≡ xs ++ x ∷ [] → ⊥
    nothing_behind [] x is = cc
    nothing_behind (y ∷ xs) x is = cc
last_of_map f (entry ∷ other ∷ entries) [] item is = absurd cc
last_of_map f (entry ∷ other ∷ entries) (first ∷ items) item is =
    let found = last_of_map f (other ∷ entries) items item cc in
    (entry ∷ found.0, found.1, ap (λ rest. entry ∷ rest) found.2, (let first_is : f entry ≡ first = cc in λ i. first_is i ∷ found.3 i), found.4)

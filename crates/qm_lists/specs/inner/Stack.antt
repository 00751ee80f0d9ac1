use Rattle.std.specs.Prelude.{◌≡◌, ◌<◌, ℕ, List, [], ◌∷◌, ◌++◌, map, sum_by, All}

-- A stack of what is still due, of which the last entry is taken next. Each entry comes to a list, by some rule.

-- what the whole stack comes to: the list of the last entry first
abbrev pub ComesTo : {Entry Item : Type 0} → (Entry → List Item → Type 0) → List Entry → List Item → Type 0
ComesTo By [] all = all ≡ []
ComesTo {Item = Item} By (entry ∷ entries) all = (own : List Item) × (others : List Item) × By entry own × ComesTo By entries others × (all ≡ others ++ own)

-- what is done, and whatever the stack comes to, is what is wanted
abbrev pub Completes : {Entry Item : Type 0} → (Entry → List Item → Type 0) → (List Item → Type 0) → List Entry → List Item → Type 0
Completes {Item = Item} By IsWanted entries done = (rest : List Item) → ComesTo By entries rest → IsWanted (done ++ rest)

-- A stack as code keeps it: of each entry less than what is known of it.

module _ {Entry Kept Item : Type 0} (kept_of : Entry → Kept) (IsKnown : Entry → Type 0) (By : Entry → List Item → Type 0) where
  -- the kept entries stand for entries of which all is known, and with what these come to, what is done is what is wanted
  pub record IsStack (IsWanted : List Item → Type 0) (kept : List Kept) (done : List Item) : Type 0 where
    pub entries : List Entry
    pub kept_is : map kept_of entries ≡ kept
    pub known : All IsKnown entries
    pub completes : Completes By IsWanted entries done

  -- what an entry comes to is what others come to, behind some items
  pub record IsLeft (entry : Entry) (others : List Kept) (own : List Item) : Type 0 where
    pub entries : List Entry
    pub kept_is : map kept_of entries ≡ others
    pub known : All IsKnown entries
    pub rest : (all : List Item) → ComesTo By entries all → By entry (own ++ all)

  -- the same of any entry for which the kept one stands
  abbrev pub Leaves : Kept → List Kept → List Item → Type 0
  Leaves first others own = (entry : Entry) → kept_of entry ≡ first → IsKnown entry → IsLeft entry others own

  -- an entry is taken off: some of its items are done, and others are due, with less to do than it
  pub record IsTakenOff (weight : Kept → ℕ) (first : Kept) (old new : List Kept) (old_done new_done : List Item) : Type 0 where
    pub others : List Kept
    pub own : List Item
    pub stack_is : new ≡ old ++ others
    pub done_is : new_done ≡ old_done ++ own
    pub leaves : Leaves first others own
    pub lighter : sum_by weight others < weight first

  -- a kept entry that stands for one of which all is known
  abbrev pub StandsForKnown : Kept → Type 0
  StandsForKnown first = (entry : Entry) × (kept_of entry ≡ first) × IsKnown entry

  -- what is due and done on the way to what one entry comes to
  abbrev pub IsUnderWay : Kept → List Kept → List Item → Type 0
  IsUnderWay first kept done = (entry : Entry) → kept_of entry ≡ first → IsKnown entry → IsStack (By entry) kept done

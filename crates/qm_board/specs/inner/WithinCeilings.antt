-- What lies within the ceilings of a pass, and that more ceilings only narrow.
use Rattle.std.proofs.Common.{◌≡◌, ⊎_elim, ℕ, ◌/◌, ◌%◌, ◌<◌, ◌==◌, Bool, true, false, not, ◌&&◌, ◌||◌, List, [], ◌∷◌, length, get_or, Contains, eq-eqb, ne_eqb, refl, sym, ap, ◌∙◌, subst, arith}
use Rattle.std.proofs.lemmas.Bool.{cases_eq, cases_lt, and_parts}
use Rattle.std.proofs.lemmas.List.{get_or_past}
use Rattle.std.proofs.lemmas.List.FromFn.{length-map-range_with_len, get_or-map-range_with_len}
use Rattle.qm_lists.specs.Word.{has_bit}
use Rattle.qm_lists.proofs.Elements.{Contains-nil, Contains-first, Contains-later, Contains-cons_cases}
use Rattle.qm_contacts.specs.NumberedLeaves.{numbered_leaves}
use Rattle.qm_contacts.specs.World.{World}
use Rattle.qm_sight.specs.InCeiling.{IsInCeiling}
use Rattle.qm_sight.specs.WordInSight.{LieWithin}
use Rattle.qm_shared_rows.specs.Findings.{Ceiling, Findings, ceiling}
use Rattle.qm_board.specs.Ceilings.{lets_have, all_let_have, ceiling_row, ceiling_rows}
use Rattle.qm_board.specs.GoesOn.{HasMore}

-- ---- one ceiling

same_numbers : (a b : ℕ) → (a == b) ≡ true → a ≡ b
same_numbers a b is = ⊎_elim (λ same. same) (λ other. absurd (let never : true ≡ false = sym is ∙ ne_eqb a b other in cc)) (cases_eq a b)

-- where it is one of the word of the leaf, it has the leaf's bit
bit_of_let : (here there : Bool) (bit : Bool) → (not (here && there) || bit) ≡ true → here ≡ true → there ≡ true → bit ≡ true
bit_of_let true true bit lets here_is there_is = lets
bit_of_let true false bit lets here_is there_is = absurd (let never : false ≡ true = there_is in cc)
bit_of_let false there bit lets here_is there_is = absurd (let never : false ≡ true = here_is in cc)

let_of_bit : (here there bit : Bool) → (here ≡ true → there ≡ true → bit ≡ true) → (not (here && there) || bit) ≡ true
let_of_bit true true bit has = has refl refl
let_of_bit true false bit has = refl
let_of_bit false there bit has = refl

-- ---- all of them

pub each_has : (ceilings : List Ceiling) (portal leaf : ℕ) → all_let_have ceilings portal leaf ≡ true → (word : ℕ) → Contains ceilings (ceiling portal (leaf / 64) word) → has_bit word (leaf % 64) ≡ true
each_has [] portal leaf all word listed = absurd (Contains-nil (ceiling portal (leaf / 64) word) listed)
each_has (first ∷ ceilings) portal leaf all word listed =
    let parts = and_parts (lets_have first portal leaf) (all_let_have ceilings portal leaf) all in
    ⊎_elim
    (λ here.
    let lets : lets_have (ceiling portal (leaf / 64) word) portal leaf ≡ true = subst (λ (c : Ceiling). lets_have c portal leaf ≡ true) here parts.0 in
    bit_of_let (portal == portal) (leaf / 64 == leaf / 64) (has_bit word (leaf % 64)) lets (eq-eqb portal portal refl) (eq-eqb (leaf / 64) (leaf / 64) refl))
    (λ later. each_has ceilings portal leaf parts.1 word later)
    (Contains-cons_cases first (ceiling portal (leaf / 64) word) ceilings listed)

pub all_have : (ceilings : List Ceiling) (portal leaf : ℕ) → ((word : ℕ) → Contains ceilings (ceiling portal (leaf / 64) word) → has_bit word (leaf % 64) ≡ true) → all_let_have ceilings portal leaf ≡ true
all_have [] portal leaf each = refl
all_have (first ∷ ceilings) portal leaf each =
    let head : lets_have first portal leaf ≡ true = let_of_bit (first.portal == portal) (first.k == leaf / 64) (has_bit first.word (leaf % 64)) (λ here there.
    let same_portal = same_numbers first.portal portal here in
    let same_k = same_numbers first.k (leaf / 64) there in
    let is : first ≡ ceiling portal (leaf / 64) first.word = ap (λ (p : ℕ). ceiling p first.k first.word) same_portal ∙ ap (λ (k : ℕ). ceiling portal k first.word) same_k in
    each first.word (subst (Contains (first ∷ ceilings)) is (Contains-first first ceilings))) in
    let tail : all_let_have ceilings portal leaf ≡ true = all_have ceilings portal leaf (λ word later. each word (Contains-later first (ceiling portal (leaf / 64) word) ceilings later)) in
    rw (head, tail) refl

-- ---- the rows

module _ (world : World) (pass : Findings) where
  abbrev leaves : ℕ
  leaves = length (numbered_leaves world.tree)

  row_at : (portal : ℕ) → portal < length world.portals → get_or (ceiling_rows world pass) portal [] ≡ ceiling_row leaves pass.ceilings portal
  unfolding ceiling_rows
  row_at portal inside = get_or-map-range_with_len (ceiling_row leaves pass.ceilings) 0 (length world.portals) portal portal [] inside (omega arith)

  place_at : (portal leaf : ℕ) → leaf < leaves → get_or (ceiling_row leaves pass.ceilings portal) leaf false ≡ all_let_have pass.ceilings portal leaf
  unfolding ceiling_row
  place_at portal leaf inside = get_or-map-range_with_len (all_let_have pass.ceilings portal) 0 leaves leaf leaf false inside (omega arith)

  rows_long : length (ceiling_rows world pass) ≡ length world.portals
  unfolding ceiling_rows
  rows_long = length-map-range_with_len (ceiling_row leaves pass.ceilings) 0 (length world.portals)

  row_long : (portal : ℕ) → length (ceiling_row leaves pass.ceilings portal) ≡ leaves
  unfolding ceiling_row
  row_long portal = length-map-range_with_len (all_let_have pass.ceilings portal) 0 leaves

  pub is_in_ceiling : (leaf portal : ℕ) → portal < length world.portals → leaf < leaves → ((word : ℕ) → Contains pass.ceilings (ceiling portal (leaf / 64) word) → has_bit word (leaf % 64) ≡ true) → IsInCeiling (ceiling_rows world pass) leaf portal
  is_in_ceiling leaf portal inside within each =
      ap (λ (row : List Bool). get_or row leaf false) (row_at portal inside) ∙ place_at portal leaf within ∙ all_have pass.ceilings portal leaf each

  pub ceiling_portal : (leaf portal : ℕ) → IsInCeiling (ceiling_rows world pass) leaf portal → portal < length world.portals
  ceiling_portal leaf portal is = ⊎_elim
      (λ inside. inside)
      (λ past.
      let long = rows_long in
      let none : get_or (ceiling_rows world pass) portal [] ≡ [] = get_or_past (ceiling_rows world pass) portal [] (omega (arith, past, long)) in
      let never : false ≡ true = sym (ap (λ (row : List Bool). get_or row leaf false) none) ∙ is in
      cc)
      (cases_lt portal (length world.portals))

  pub ceiling_leaf : (leaf portal : ℕ) → IsInCeiling (ceiling_rows world pass) leaf portal → leaf < leaves
  ceiling_leaf leaf portal is = ⊎_elim
      (λ inside. inside)
      (λ past.
      let long = row_long portal in
      let row = row_at portal (ceiling_portal leaf portal is) in
      let none : get_or (ceiling_row leaves pass.ceilings portal) leaf false ≡ false = get_or_past (ceiling_row leaves pass.ceilings portal) leaf false (omega (arith, past, long)) in
      let never : false ≡ true = sym none ∙ sym (ap (λ (r : List Bool). get_or r leaf false) row) ∙ is in
      cc)
      (cases_lt leaf leaves)

  pub ceiling_bit : (leaf portal : ℕ) → IsInCeiling (ceiling_rows world pass) leaf portal → (word : ℕ) → Contains pass.ceilings (ceiling portal (leaf / 64) word) → has_bit word (leaf % 64) ≡ true
  ceiling_bit leaf portal is =
      let row = row_at portal (ceiling_portal leaf portal is) in
      each_has pass.ceilings portal leaf (sym (place_at portal leaf (ceiling_leaf leaf portal is)) ∙ sym (ap (λ (r : List Bool). get_or r leaf false) row) ∙ is)

-- ---- a pass that has found more

pub more_narrows : (world : World) (old new : Findings) → HasMore old new → LieWithin (ceiling_rows world new) (ceiling_rows world old)
more_narrows world old new more portal leaf is =
    is_in_ceiling world old leaf portal (ceiling_portal world new leaf portal is) (ceiling_leaf world new leaf portal is)
    (λ word listed. ceiling_bit world new leaf portal is word (more.ceilings (ceiling portal (leaf / 64) word) listed))

pub more_itself : (pass : Findings) → HasMore pass pass
more_itself pass = record { ceilings = λ c listed. listed; known = λ p listed. listed; found = λ w listed. listed; drawn = λ n listed. listed }

pub more_in_turn : (first second third : Findings) → HasMore first second → HasMore second third → HasMore first third
more_in_turn first second third one two = record {
  ceilings = λ c listed. two.ceilings c (one.ceilings c listed);
  known = λ p listed. two.known p (one.known p listed);
  found = λ w listed. two.found w (one.found w listed);
  drawn = λ n listed. two.drawn n (one.drawn n listed);
}

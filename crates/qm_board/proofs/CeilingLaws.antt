-- What a pass finds more, and what lies within its ceilings then.
use Rattle.std.proofs.Common.{◌≡◌, ⊎_elim, ℕ, ◌+◌, ◌*◌, ◌/◌, ◌%◌, ◌<◌, ◌==◌, Bool, true, List, [], ◌∷◌, length, cond, Contains, eq-eqb, ne_eqb, refl, sym, ap, ◌∙◌, subst, arith}
use Rattle.std.proofs.lemmas.Bool.{cases_eq}
use Rattle.std.proofs.lemmas.Option.{slice_get_within}
use Rattle.std.proofs.lemmas.List.Elements.{Contains-append_left, Contains-append_right}
use Rattle.qm_lists.specs.Word.{has_bit}
use Rattle.qm_lists.specs.WorkList.{IsIn}
use Rattle.qm_lists.proofs.Elements.{Contains-first, Contains-later}
use Rattle.qm_contacts.specs.NumberedLeaves.{numbered_leaves}
use Rattle.qm_contacts.specs.World.{World}
use Rattle.qm_sight.specs.InCeiling.{IsInCeiling}
use Rattle.qm_sight.specs.WordInSight.{IsWordWithin, LacksNoneInSight, ceiling_of}
use Rattle.qm_shared_rows.specs.Findings.{Ceiling, DoneWord, Findings, ceiling, done_word, with_ceiling, with_known, with_found, with_drawn, without_drawn, found_by_both}
use Rattle.qm_board.specs.WorldSets.{width_of}
use Rattle.qm_board.specs.ReadWords.{IsReadWord, IsFoundDone}
use Rattle.qm_board.specs.Ceilings.{ceiling_rows}
use Rattle.qm_board.specs.GoesOn.{HasMore}
use Rattle.qm_board.specs.Published.{with_words, IsPublished}
use Rattle.qm_board.specs.inner.WithinCeilings.{is_in_ceiling, ceiling_portal, ceiling_leaf, ceiling_bit, more_itself, more_in_turn}
use Rattle.qm_board.proofs.PublishedRows.{words_listed, ceilings_stay}

-- ---- a pass that finds more

pub more_with_ceiling : (more : Ceiling) (old new : Findings) → new ≡ with_ceiling more old → HasMore old new
more_with_ceiling more old new is = subst (HasMore old) (sym is) (record {
  ceilings = λ c listed. Contains-later more c old.ceilings listed;
  known = λ p listed. listed;
  found = λ w listed. listed;
  drawn = λ n listed. listed;
})

pub more_with_known : (portal : ℕ) (old new : Findings) → new ≡ with_known portal old → HasMore old new
more_with_known portal old new is = subst (HasMore old) (sym is) (record {
  ceilings = λ c listed. listed;
  known = λ p listed. Contains-later portal p old.known listed;
  found = λ w listed. listed;
  drawn = λ n listed. listed;
})

-- what either of two passes has found, both have
pub more_by_first : (pass other : Findings) → HasMore pass (found_by_both pass other)
more_by_first pass other = record {
  ceilings = λ c listed. Contains-append_left pass.ceilings other.ceilings c listed;
  known = λ p listed. Contains-append_left pass.known other.known p listed;
  found = λ w listed. Contains-append_left pass.found other.found w listed;
  drawn = λ n listed. Contains-append_left pass.drawn other.drawn n listed;
}

pub more_by_second : (pass other : Findings) → HasMore other (found_by_both pass other)
more_by_second pass other = record {
  ceilings = λ c listed. Contains-append_right pass.ceilings other.ceilings c listed;
  known = λ p listed. Contains-append_right pass.known other.known p listed;
  found = λ w listed. Contains-append_right pass.found other.found w listed;
  drawn = λ n listed. Contains-append_right pass.drawn other.drawn n listed;
}

-- the ceilings of a pass that was split off are those of the pass
pub same_without_drawn : (world : World) (pass : Findings) → ceiling_rows world (without_drawn pass) ≡ ceiling_rows world pass
unfolding ceiling_rows
same_without_drawn world pass = refl

-- ---- a word that is read

pub read_within : (world : World) (pass : Findings) (portal k word : ℕ) → portal < length world.portals → IsReadWord world pass portal k word → IsWordWithin (ceiling_of (ceiling_rows world pass) portal) k word
read_within world pass portal k word inside read bit less is =
    let leaf = read.numbered bit less is in
    is_in_ceiling world pass (64 * k + bit) portal inside leaf (λ other listed.
    let k_is : (64 * k + bit) / 64 ≡ k = omega (arith, less) in
    let bit_is : (64 * k + bit) % 64 ≡ bit = omega (arith, less) in
    let has = read.within other (subst (λ (j : ℕ). Contains pass.ceilings (ceiling portal j other)) k_is listed) bit less is in
    ap (has_bit other) bit_is ∙ has)

pub read_lacks_none : (world : World) (pass : Findings) (portal k word : ℕ) → IsReadWord world pass portal k word → LacksNoneInSight world portal k word
read_lacks_none world pass portal k word read at at_is bit less sight = read.sight bit less (slice_get_within (numbered_leaves world.tree) (64 * k + bit) _ sight.last_is, record { portal = at; portal_is = at_is; sight = sight })

-- ---- a row that is published

words_more : (portal k : ℕ) (words : List ℕ) (pass : Findings) → HasMore pass (with_words portal k words pass)
words_more portal k [] pass = more_itself pass
words_more portal k (word ∷ words) pass =
    let next = with_ceiling (ceiling portal k word) pass in
    more_in_turn pass next (with_words portal (k + 1) words next) (more_with_ceiling (ceiling portal k word) pass next refl) (words_more portal (k + 1) words next)

pub published_more : (world : World) (portal : ℕ) (row : List Bool) (old new : Findings) → IsPublished world portal row old new → (leaf q : ℕ) → IsInCeiling (ceiling_rows world new) leaf q → IsInCeiling (ceiling_rows world old) leaf q
published_more world portal row old new published leaf q is =
    is_in_ceiling world old leaf q (ceiling_portal world new leaf q is) (ceiling_leaf world new leaf q is)
    (λ word listed.
    let there = ceilings_stay portal row (width_of world) old published.narrowed published.row_is q (leaf / 64) word listed in
    ceiling_bit world new leaf q is word (subst (λ (f : Findings). Contains f.ceilings (ceiling q (leaf / 64) word)) (sym published.new_is) there))

-- the ceiling of its portal lies within the row
pub published_row : (world : World) (portal : ℕ) (row : List Bool) (old new : Findings) → IsPublished world portal row old new → (leaf : ℕ) → IsInCeiling (ceiling_rows world new) leaf portal → IsIn row leaf
published_row world portal row old new published leaf is =
    let within = ceiling_leaf world new leaf portal is in
    let k_within : leaf / 64 < width_of world = omega (arith, within) in
    let listed = words_listed portal row (width_of world) old published.narrowed published.row_is (leaf / 64) k_within in
    let has = ceiling_bit world new leaf portal is listed.0 (subst (λ (f : Findings). Contains f.ceilings (ceiling portal (leaf / 64) listed.0)) (sym published.new_is) listed.2) in
    let place : 64 * (leaf / 64) + leaf % 64 ≡ leaf = omega arith in
    let less : leaf % 64 < 64 = omega arith in
    subst (IsIn row) place (sym (listed.1 (leaf % 64) less) ∙ has)

-- ---- what is known as done

pub more_with_found : (word : DoneWord) (pass : Findings) → HasMore pass (with_found word pass)
more_with_found word pass = record {
  ceilings = λ c listed. listed;
  known = λ p listed. ⊎_elim
      (λ one. subst (λ (b : Bool). Contains (cond b (word.portal ∷ pass.known) pass.known) p) (sym (eq-eqb word.word 1 one)) (Contains-later word.portal p pass.known listed))
      (λ other. subst (λ (b : Bool). Contains (cond b (word.portal ∷ pass.known) pass.known) p) (sym (ne_eqb word.word 1 other)) listed)
      (cases_eq word.word 1);
  found = λ w listed. Contains-later word w pass.found listed;
  drawn = λ n listed. listed;
}

pub more_with_drawn : (number : ℕ) (pass : Findings) → HasMore pass (with_drawn number pass)
more_with_drawn number pass = record {
  ceilings = λ c listed. listed;
  known = λ p listed. listed;
  found = λ w listed. listed;
  drawn = λ n listed. Contains-later number n pass.drawn listed;
}

pub more_when_looked : (portal : ℕ) (answer : Bool) (old new : Findings) → IsFoundDone portal answer old new → HasMore old new
more_when_looked portal answer old new looked = subst (HasMore old) (sym looked.found) (more_with_found (done_word portal looked.word) old)

-- where the answer is true, the portal is known as done
pub known_when_true : (portal : ℕ) (old new : Findings) → IsFoundDone portal true old new → Contains new.known portal
known_when_true portal old new looked =
    let known = cond (looked.word == 1) (portal ∷ old.known) old.known in
    let here : Contains known portal = subst (λ (b : Bool). Contains (cond b (portal ∷ old.known) old.known) portal) looked.answer_is (Contains-first portal old.known) in
    subst (λ (f : Findings). Contains f.known portal) (sym looked.found) here

pub known_when_published : (world : World) (portal : ℕ) (row : List Bool) (old new : Findings) → IsPublished world portal row old new → Contains new.known portal
known_when_published world portal row old new published = subst (λ (f : Findings). Contains f.known portal) (sym published.new_is) (Contains-first portal published.narrowed.known)

pub more_when_published : (world : World) (portal : ℕ) (row : List Bool) (old new : Findings) → IsPublished world portal row old new → HasMore old new
more_when_published world portal row old new published =
    more_in_turn old published.narrowed new
    (subst (HasMore old) (sym published.row_is.new_is) (words_more portal 0 published.row_is.words old))
    (more_with_known portal published.narrowed new published.new_is)

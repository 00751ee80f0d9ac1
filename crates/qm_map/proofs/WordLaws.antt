-- Where the first word of a text stands, and how many words there are.
use Rattle.std.proofs.Common.{◌≡◌, ℕ, Bool, true, false, eqb, not, List, [], ◌∷◌, length, take, drop, refl, sym, ap, ◌∙◌, arith, one-add}
use Rattle.std.specs.List.{prefix_len}
use Rattle.std.proofs.lemmas.Bool.{false≢true}
use Rattle.std.proofs.lemmas.Bool.Decides.{nat_tests}
use Rattle.qm_grammar.specs.Words.{words_of_text, parts_words, lengthened}

-- whether a byte belongs to a word
abbrev pub is_ink : ℕ → Bool
is_ink byte = not (parts_words byte)

skip_first : (byte : ℕ) (bytes : List ℕ) (blank : Bool) → parts_words byte ≡ blank → words_of_text bytes ≡ words_of_text (drop (prefix_len parts_words bytes) bytes) → words_of_text (byte ∷ bytes) ≡ words_of_text (drop (prefix_len parts_words (byte ∷ bytes)) (byte ∷ bytes))
skip_first byte bytes true e others = rw (e, one-add) others
skip_first byte bytes false e others = rw e (rw e refl)

-- the blanks before the first word part nothing
pub words_of_text-skip : (bytes : List ℕ) → words_of_text bytes ≡ words_of_text (drop (prefix_len parts_words bytes) bytes)
words_of_text-skip [] = refl
words_of_text-skip (byte ∷ bytes) = skip_first byte bytes (parts_words byte) refl (words_of_text-skip bytes)

-- the first byte that is not blank, and those that follow it up to a blank, are the first word
abbrev StartsAt : ℕ → List ℕ → Type 0
StartsAt byte bytes = parts_words byte ≡ false → words_of_text (byte ∷ bytes) ≡ (byte ∷ take (prefix_len is_ink bytes) bytes) ∷ words_of_text (drop (prefix_len is_ink bytes) bytes)

goes_on : (byte next : ℕ) (bytes : List ℕ) (blank : Bool) → parts_words next ≡ blank → StartsAt next bytes → StartsAt byte (next ∷ bytes)
goes_on byte next bytes true n others ink = rw (ink, n) (rw n refl)
goes_on byte next bytes false n others ink =
    let longer : words_of_text (byte ∷ next ∷ bytes) ≡ lengthened byte (words_of_text (next ∷ bytes)) = rw (ink, n) refl in
    let parts : (byte ∷ next ∷ take (prefix_len is_ink bytes) bytes) ∷ words_of_text (drop (prefix_len is_ink bytes) bytes) ≡ (byte ∷ take (prefix_len is_ink (next ∷ bytes)) (next ∷ bytes)) ∷ words_of_text (drop (prefix_len is_ink (next ∷ bytes)) (next ∷ bytes)) = rw (n, one-add) refl in
    longer ∙ ap (lengthened byte) (others n) ∙ parts

pub words_of_text-ink : (byte : ℕ) (bytes : List ℕ) → StartsAt byte bytes
words_of_text-ink byte [] ink = rw ink refl
words_of_text-ink byte (next ∷ bytes) ink = goes_on byte next bytes (parts_words next) refl (words_of_text-ink next bytes) ink

-- what follows the blanks begins with none
starts_ink : (first : ℕ) (bytes : List ℕ) (blank : Bool) (byte : ℕ) (rest : List ℕ) → parts_words first ≡ blank → (drop (prefix_len parts_words bytes) bytes ≡ byte ∷ rest → parts_words byte ≡ false) → drop (prefix_len parts_words (first ∷ bytes)) (first ∷ bytes) ≡ byte ∷ rest → parts_words byte ≡ false
starts_ink first bytes true byte rest b others e = others (rw (b, one-add) at e)
starts_ink first bytes false byte rest b others e =
    let same : first ∷ bytes ≡ byte ∷ rest = rw b at e in
    let heads : first ≡ byte = cc in
    rw (← heads) b

after_blanks : (bytes : List ℕ) (byte : ℕ) (rest : List ℕ) → drop (prefix_len parts_words bytes) bytes ≡ byte ∷ rest → parts_words byte ≡ false
after_blanks [] byte rest e = absurd cc
after_blanks (first ∷ bytes) byte rest e = starts_ink first bytes (parts_words first) byte rest refl (after_blanks bytes byte rest) e

-- a text cut behind its blanks and behind the bytes up to the next blank: no word is left, or this one and those of the rest
pub record IsCut (bytes word rest : List ℕ) : Type 0 where
  pub none : eqb (length word) 0 ≡ true → words_of_text bytes ≡ []
  pub one : eqb (length word) 0 ≡ false → words_of_text bytes ≡ word ∷ words_of_text rest

has_length : (byte : ℕ) (bytes : List ℕ) → eqb (length (byte ∷ bytes)) 0 ≡ false
has_length byte bytes = grind (arith, nat_tests)

cut_at : (bytes text : List ℕ) → drop (prefix_len parts_words bytes) bytes ≡ text → IsCut bytes (take (prefix_len is_ink text) text) (drop (prefix_len is_ink text) text)
cut_at bytes [] e = record { none = λ _. words_of_text-skip bytes ∙ ap words_of_text e; one = λ some. absurd cc }
cut_at bytes (byte ∷ text) e =
    let ink = after_blanks bytes byte text e in
    let cut : words_of_text bytes ≡ (byte ∷ take (prefix_len is_ink text) text) ∷ words_of_text (drop (prefix_len is_ink text) text) = words_of_text-skip bytes ∙ ap words_of_text e ∙ words_of_text-ink byte text ink in
    rw (ink, one-add) (record { none = λ empty. absurd (false≢true (sym (has_length byte (take (prefix_len is_ink text) text)) ∙ empty)); one = λ _. cut })

pub words_of_text-cut : (bytes text word rest : List ℕ) → text ≡ drop (prefix_len parts_words bytes) bytes → word ≡ take (prefix_len is_ink text) text → rest ≡ drop (prefix_len is_ink text) text → IsCut bytes word rest
words_of_text-cut bytes text word rest t w r = rw (w, r) (cut_at bytes text (sym t))

-- Texts with a common prefix that is longer than the limit mean the same, so no byte behind the prefix has to be read.
use Rattle.std.proofs.Common.{◌≡◌, ◌<◌, ◌≤◌, ◌⊎◌, ℕ, ◌+◌, List, [], ◌∷◌, ◌++◌, Option, Some, None, Result, Ok, Err, length, take, drop, refl, sym, ap, subst, ◌∙◌, inl, inr, nat_lt, if◌then◌else◌, length-append, arith}
use Rattle.std.specs.Prelude.{All}
use Rattle.std.proofs.lemmas.Bool.{lt-ltb, cases_lt}
use Rattle.std.proofs.lemmas.List.{take_all, take-append-drop, take-append-le, length-take-le}
use Rattle.std.proofs.lemmas.List.Elements.{All-head, All-tail}
use Rattle.qm_lists.proofs.Cases.{by_result}
use Rattle.qm_tokens.specs.Lexeme.{Lexeme, line_ends}
use Rattle.qm_tokens.specs.Lexing.{Lexing, prepend}
use Rattle.qm_tokens.specs.inner.Modes.{Mode, between, mode_after, ended_by, read}
use Rattle.qm_tokens.proofs.LaterTokens.{EndsFrom, read_from}
use Rattle.qm_grammar.specs.declared.refusal.Refusal.{Refusal}
use Rattle.qm_grammar.specs.declared.fault.MapFault.TheVariants as fault
use Rattle.qm_mapfile.specs.declared.entity.MapFile.{MapFile}
use Rattle.qm_grammar.specs.declared.fault.MapFault.{MapFault}
use Rattle.qm_grammar.specs.Symbol.{symbol_of}
use Rattle.qm_grammar.specs.Prefix.{Prefix, between_entities}
use Rattle.qm_grammar.specs.Faults.{text_limit, line_at, end_of, fault_of}
use Rattle.qm_grammar.specs.Meaning.{Means}
use Rattle.qm_lists.specs.Limit.{up_to_one_past}
use Rattle.qm_grammar.specs.inner.Machine.{step, steps, ended, meaning_of}
use Rattle.qm_grammar.proofs.Meanings.{means_meaning, meaning_only}
use Rattle.qm_grammar.proofs.Runs.{steps_step, steps_refused}

-- what a reader of tokens ends with: a prefix, or a token that is refused
abbrev Outcome : Type 0
Outcome = Result Prefix (Refusal × Lexeme)

-- no token that ends before an offset is refused
abbrev IsLate : ℕ → Outcome → Type 0
IsLate at (Ok prefix) = Unit {0}
IsLate at (Err refused) = EndsFrom at refused.1

-- two outcomes are the same, or neither refuses a token that ends before an offset
abbrev AreAlike : ℕ → Outcome → Outcome → Type 0
AreAlike at one other = (one ≡ other) ⊎ (IsLate at one × IsLate at other)

-- tokens that end late
steps_late : (at : ℕ) (prefix : Prefix) (lexemes : List Lexeme) → All (EndsFrom at) lexemes → IsLate at (steps prefix lexemes)
steps_late at prefix [] from = tt
steps_late at prefix (lexeme ∷ lexemes) from =
    by_result (step prefix (symbol_of lexeme))
    (λ next is. subst (IsLate at) (sym (steps_step prefix next lexeme lexemes is)) (steps_late at next lexemes (All-tail (EndsFrom at) lexeme lexemes from)))
    (λ reason is. subst (IsLate at) (sym (steps_refused prefix lexeme lexemes reason is)) (All-head (EndsFrom at) lexeme lexemes from))

-- outcomes that are the same as two that are alike
same_alike : (at : ℕ) (one other first second : Outcome) → one ≡ first → other ≡ second → AreAlike at first second → AreAlike at one other
same_alike at one other first second is_first is_second alike = rw (is_first, is_second) alike

-- a common token, if there is one, before others that are alike behind each prefix
prepended_alike : (at : ℕ) (first : Option Lexeme) (prefix : Prefix) (one other : Lexing) → ((next : Prefix) → AreAlike at (steps next one.lexemes) (steps next other.lexemes)) → AreAlike at (steps prefix (prepend first one).lexemes) (steps prefix (prepend first other).lexemes)
prepended_alike at None prefix one other rest = rest prefix
prepended_alike at (Some lexeme) prefix one other rest =
    by_result (step prefix (symbol_of lexeme))
    (λ next is. same_alike at (steps prefix (lexeme ∷ one.lexemes)) (steps prefix (lexeme ∷ other.lexemes)) (steps next one.lexemes) (steps next other.lexemes)
    (steps_step prefix next lexeme one.lexemes is) (steps_step prefix next lexeme other.lexemes is) (rest next))
    (λ reason is. inl (steps_refused prefix lexeme one.lexemes reason is ∙ sym (steps_refused prefix lexeme other.lexemes reason is)))

-- bytes with more behind them and without are read alike up to their end
prefix_alike : (mode : Mode) (offset line : ℕ) (prefix : Prefix) (bytes more : List ℕ) (at : ℕ) → at ≤ offset + length bytes → AreAlike at (steps prefix (read mode offset line (bytes ++ more)).lexemes) (steps prefix (read mode offset line bytes).lexemes)
unfolding read
prefix_alike mode offset line prefix [] more at within =
    inr (
      steps_late at prefix (read mode offset line more).lexemes (read_from mode offset line more at (omega arith)),
      steps_late at prefix (read mode offset line []).lexemes (read_from mode offset line [] at (omega arith)),
    )
prefix_alike mode offset line prefix (byte ∷ bytes) more at within =
    prepended_alike at (ended_by mode offset byte) prefix
    (read (mode_after mode offset line byte) (offset + 1) (line + line_ends (byte ∷ [])) (bytes ++ more))
    (read (mode_after mode offset line byte) (offset + 1) (line + line_ends (byte ∷ [])) bytes)
    (λ next. prefix_alike (mode_after mode offset line byte) (offset + 1) (line + line_ends (byte ∷ [])) next bytes more at (omega arith))

-- a text that is too long, and of which no token within the limit is refused
late_is : (text : List ℕ) (unclosed : Option ℕ) (outcome : Outcome) → text_limit < length text → IsLate (text_limit + 1) outcome → ended text unclosed outcome ≡ Err (fault.TextTooLong (line_at text text_limit))
late_is text unclosed (Ok prefix) long late = rw (lt-ltb text_limit (length text) long) refl
late_is text unclosed (Err refused) long late = rw (lt-ltb text_limit (end_of refused.1) (omega arith)) refl

-- two texts that are too long, with the same line at the limit
same_is : (one other : List ℕ) (unclosed unclosed_other : Option ℕ) (outcome : Outcome) → text_limit < length one → text_limit < length other → line_at one text_limit ≡ line_at other text_limit → ended one unclosed outcome ≡ ended other unclosed_other outcome
same_is one other unclosed unclosed_other (Ok prefix) long longer lines =
    late_is one unclosed (Ok prefix) long tt ∙ ap (λ line. Err (fault.TextTooLong line)) lines ∙ sym (late_is other unclosed_other (Ok prefix) longer tt)
same_is one other unclosed unclosed_other (Err refused) long longer lines =
    ap (λ line. Err (if nat_lt text_limit (end_of refused.1) then fault.TextTooLong line else fault_of refused.0 refused.1.line)) lines

-- two texts that are too long, with the same line at the limit, and outcomes that are alike up to there
alike_is : (one other : List ℕ) (unclosed unclosed_other : Option ℕ) (first second : Outcome) → text_limit < length one → text_limit < length other → line_at one text_limit ≡ line_at other text_limit → AreAlike (text_limit + 1) first second → ended one unclosed first ≡ ended other unclosed_other second
alike_is one other unclosed unclosed_other first second long longer lines (inl same) =
    same_is one other unclosed unclosed_other first long longer lines ∙ ap (ended other unclosed_other) same
alike_is one other unclosed unclosed_other first second long longer lines (inr late) =
    late_is one unclosed first long late.0 ∙ ap (λ line. Err (fault.TextTooLong line)) lines ∙ sym (late_is other unclosed_other second longer late.1)

-- a text means what any prefix of it means that is longer than the limit
pub prefix_means : (prefix more : List ℕ) → text_limit < length prefix → meaning_of (prefix ++ more) ≡ meaning_of prefix
unfolding meaning_of
prefix_means prefix more long =
    alike_is (prefix ++ more) prefix (read between 0 1 (prefix ++ more)).unclosed_line (read between 0 1 prefix).unclosed_line
    (steps (between_entities []) (read between 0 1 (prefix ++ more)).lexemes) (steps (between_entities []) (read between 0 1 prefix).lexemes)
    (omega (arith, length-append prefix more)) long
    (ap (λ bytes. 1 + line_ends bytes) (take-append-le text_limit prefix more (omega arith)))
    (prefix_alike between 0 1 (between_entities []) prefix more (text_limit + 1) (omega arith))

-- a text past the limit means what its prefix of one byte past the limit means
pub cut_means : (text : List ℕ) → text_limit < length text → meaning_of (take (text_limit + 1) text) ≡ meaning_of text
cut_means text long =
    let prefix_length = length-take-le (text_limit + 1) text (omega arith) in
    sym (prefix_means (take (text_limit + 1) text) (drop (text_limit + 1) text) (omega (arith, prefix_length)))
    ∙ ap meaning_of (take-append-drop (text_limit + 1) text)

-- what has to be read of a text means what the text means
read_meaning : (text : List ℕ) → meaning_of (up_to_one_past text_limit text) ≡ meaning_of text
unfolding up_to_one_past
read_meaning text = elim (cases_lt text_limit (length text)) [
  | inl long ↦ cut_means text long
  | inr short ↦ ap meaning_of (take_all (text_limit + 1) text (omega (arith, short)))
]

pub read_means : (text : List ℕ) (meaning : Result MapFile MapFault) → Means (up_to_one_past text_limit text) meaning → Means text meaning
read_means text meaning means =
    let same : meaning ≡ meaning_of text = meaning_only (up_to_one_past text_limit text) meaning means ∙ read_meaning text in
    subst (λ (m : Result MapFile MapFault). Means text m) (sym same) (means_meaning text)

pub means_read : (text : List ℕ) (meaning : Result MapFile MapFault) → Means text meaning → Means (up_to_one_past text_limit text) meaning
means_read text meaning means =
    let same : meaning ≡ meaning_of (up_to_one_past text_limit text) = meaning_only text meaning means ∙ sym (read_meaning text) in
    subst (λ (m : Result MapFile MapFault). Means (up_to_one_past text_limit text) m) (sym same) (means_meaning (up_to_one_past text_limit text))

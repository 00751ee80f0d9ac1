-- What is answered of all words.
use Rattle.std.proofs.Common.{◌≡◌, ◌≤◌, ◌-◌, ℕ, codes, sym, ap, subst, arith, List, [], ◌∷◌, length, take, drop, get_or, Result, Ok, Err, IfOk}
use Rattle.std.proofs.lemmas.List.{take_all}
use Rattle.clap.specs.Walk.{Row}
use Rattle.qm_commands.specs.declared.map_command.MapCommand.TheVariants.{Compile, Format}
use Rattle.qm_commands.specs.Order.{Order, of_map, of_tree, of_rooms, of_upgrade}
use Rattle.qm_commands.specs.Words.{AreNoCommand, AreWordsOf}
use Rattle.qm_words.specs.SeenWords.{order_of}
use Rattle.qm_words.specs.inner.Answered.{IsOrderFor}
use Rattle.qm_words.specs.inner.PlainWords.{ArePlainWords}
use Rattle.qm_words.specs.inner.TreeAndQueries.{AreTreeAndQueries, IsAnswerFor}
use Rattle.qm_words.specs.declared.order.Order.{Order as SeenOrder}
use Rattle.qm_words.specs.declared.order.WordsFault.{WordsFault}
use Rattle.qm_words.specs.declared.order.WordsFault.TheVariants.{Usage, Memory}
use Rattle.qm_words.proofs.OneOrder.{one_order}

-- an answer to what the parser has found is one to the words
pub answer_order : (words : List (List ℕ)) (rows : List Row) (r : Result SeenOrder WordsFault) → ArePlainWords words → AreTreeAndQueries words rows → IsAnswerFor rows r → IsOrderFor (codes "inspect" ∷ words) r
answer_order words rows (Ok order) each are answer = answer words each are
answer_order words rows (Err Usage) each are answer = answer words each are
answer_order words rows (Err Memory) each are answer = tt

first_same : (a b : List ℕ) (more rest : List (List ℕ)) → a ∷ more ≡ b ∷ rest → a ≡ b
first_same a b more rest same = cc

-- a verb that is none of the five
pub unknown_verb : (verb : List ℕ) (words : List (List ℕ)) → (verb ≡ codes "compile" → ⊥) → (verb ≡ codes "inspect" → ⊥) → (verb ≡ codes "format" → ⊥) → (verb ≡ codes "demo" → ⊥) → (verb ≡ codes "upgrade" → ⊥) → AreNoCommand (verb ∷ words)
unknown_verb verb words no_compile no_inspect no_format no_demo no_upgrade (of_map (Compile options listed) files) are = no_compile (first_same verb (codes "compile") words _ are.words_are)
unknown_verb verb words no_compile no_inspect no_format no_demo no_upgrade (of_map Format files) are = no_format (first_same verb (codes "format") words _ are.words_are)
unknown_verb verb words no_compile no_inspect no_format no_demo no_upgrade (of_tree tree queries) are = no_inspect (first_same verb (codes "inspect") words _ are.words_are)
unknown_verb verb words no_compile no_inspect no_format no_demo no_upgrade (of_rooms rooms number) are = no_demo (first_same verb (codes "demo") words _ are.words_are)
unknown_verb verb words no_compile no_inspect no_format no_demo no_upgrade (of_upgrade tree_name out_name) are = no_upgrade (first_same verb (codes "upgrade") words _ are.words_are)

no_words : (first : List ℕ) (rest : List (List ℕ)) → [] ≡ first ∷ rest → ⊥
no_words first rest same = cc

-- no words are no command
pub nothing_asked : AreNoCommand []
nothing_asked (of_map (Compile options listed) files) are = no_words (codes "compile") _ are.words_are
nothing_asked (of_map Format files) are = no_words (codes "format") _ are.words_are
nothing_asked (of_tree tree queries) are = no_words (codes "inspect") _ are.words_are
nothing_asked (of_rooms rooms number) are = no_words (codes "demo") _ are.words_are
nothing_asked (of_upgrade tree_name out_name) are = no_words (codes "upgrade") _ are.words_are

-- the first word and those behind it
pub first_and_rest : {X : Type 0} (words : List X) (d : X) → 1 ≤ length words → words ≡ get_or words 0 d ∷ take (length words - 1) (drop 1 words)
first_and_rest {X} [] d some = absurd (omega (arith, some))
first_and_rest {X} (word ∷ words) d some =
    let whole : length words ≤ length (word ∷ words) - 1 = omega arith in
    ap (λ (rest : List X). word ∷ rest) (sym (take_all (length (word ∷ words) - 1) words whole))

-- ---- what an answer says of words that are these

module _ (words front : List (List ℕ)) (same : words ≡ front) where
  pub order_answered : (r : Result SeenOrder WordsFault) → IsOrderFor front r → IfOk r (λ order. AreWordsOf (order_of order) words)
  order_answered (Ok order) answer = subst (AreWordsOf (order_of order)) (sym same) answer
  order_answered (Err fault) answer = tt

  pub only_answered : (r : Result SeenOrder WordsFault) → IsOrderFor front r → IfOk r (λ order. (other : Order) → AreWordsOf other words → other ≡ order_of order)
  only_answered (Ok order) answer = λ other are. one_order front (order_of order) other answer (subst (AreWordsOf other) same are)
  only_answered (Err fault) answer = tt

  pub usage_answered : (r : Result SeenOrder WordsFault) → IsOrderFor front r → r ≡ Err Usage → AreNoCommand words
  usage_answered r answer usage = subst AreNoCommand (sym same) (subst (IsOrderFor front) usage answer)

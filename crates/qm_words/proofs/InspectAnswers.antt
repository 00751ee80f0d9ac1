-- What is answered of the words behind `inspect`.
use Rattle.std.proofs.Common.{◌≡◌, ◌∙◌, ◌≤◌, ℕ, codes, refl, sym, ap, ap₂, subst, arith, List, [], ◌∷◌, length, Some, Ok, Err}
use Rattle.std.specs.Fmt.{decimal}
use Rattle.clap.specs.Walk.{Row, all_of, first_of, rows_of}
use Rattle.clap.specs.Matches.{found_of}
use Rattle.clap.specs.declared.parser.matches.ArgMatches.{ArgMatches}
use Rattle.clap.specs.Faults.{fault_of}
use Rattle.qm_commands.specs.declared.map_command.MapCommand.TheVariants.{Compile, Format}
use Rattle.qm_commands.specs.declared.query.Query.{Query}
use Rattle.qm_commands.specs.InspectWords.{AreInspectWords}
use Rattle.qm_commands.specs.QueryWord.{AreQueryWords, no_more, one_more}
use Rattle.qm_commands.specs.Order.{of_map, of_tree, of_rooms, of_upgrade}
use Rattle.qm_commands.specs.Words.{AreNoCommand, AreWordsOf}
use Rattle.qm_words.specs.inner.Answered.{IsOrderFor}
use Rattle.qm_words.specs.inner.CommandLines.{inspect_app}
use Rattle.qm_words.specs.inner.Parsed.{IsParsedBy}
use Rattle.qm_words.specs.inner.PlainWords.{ArePlainWords}
use Rattle.qm_words.specs.inner.TreeAndQueries.{AreTreeAndQueries}
use Rattle.qm_words.specs.inner.QueriesRead.{AreNoQueries}
use Rattle.qm_words.specs.declared.order.WordsFault.{WordsFault}
use Rattle.qm_words.specs.declared.order.WordsFault.TheVariants.{Usage, Memory}
use Rattle.qm_words.proofs.InspectLaws.{inspect_is_taken, taken_is_inspect}
use Rattle.qm_words.proofs.QueryLaws.{queries_are_plain}
use Rattle.qm_words.proofs.SingleWords.{verbs_apart}

no_inspect : (words : List (List ℕ)) → ((tree_name : List ℕ) (queries : List Query) → AreInspectWords (codes "inspect" ∷ words) tree_name queries → ⊥) → AreNoCommand (codes "inspect" ∷ words)
no_inspect words never (of_map (Compile options listed) files) are = verbs_apart (codes "inspect") (codes "compile") words are.rest refl are.words_are
no_inspect words never (of_map Format files) are = verbs_apart (codes "inspect") (codes "format") words (files.map_name ∷ files.out_name ∷ []) refl are.words_are
no_inspect words never (of_tree tree_name queries) are = never tree_name queries are
no_inspect words never (of_rooms rooms number) are = verbs_apart (codes "inspect") (codes "demo") words (decimal rooms ∷ decimal number ∷ []) refl are.words_are
no_inspect words never (of_upgrade tree_name out_name) are = verbs_apart (codes "inspect") (codes "upgrade") words (tree_name ∷ out_name ∷ []) refl are.words_are

behind : (words : List (List ℕ)) (tree_name : List ℕ) (queries : List Query) (are : AreInspectWords (codes "inspect" ∷ words) tree_name queries) → words ≡ tree_name ∷ are.query_words
behind words tree_name queries are = let whole = are.words_are in cc

inspect_is_plain : (words : List (List ℕ)) (tree_name : List ℕ) (queries : List Query) → AreInspectWords (codes "inspect" ∷ words) tree_name queries → ArePlainWords words
inspect_is_plain words tree_name queries are = subst ArePlainWords (sym (behind words tree_name queries are)) (are.is_name, queries_are_plain are.are_queries)

pub not_plain : (words : List (List ℕ)) → (ArePlainWords words → ⊥) → AreNoCommand (codes "inspect" ∷ words)
not_plain words never = no_inspect words (λ tree_name queries are. never (inspect_is_plain words tree_name queries are))

taken : (tree_name : List ℕ) (words : List (List ℕ)) (queries : List Query) → 1 ≤ length queries → AreQueryWords words queries → ArePlainWords (tree_name ∷ words) → fault_of inspect_app (tree_name ∷ words) ≡ []
taken tree_name words queries some no_more each = absurd (omega (arith, some))
taken tree_name words queries some (one_more {word = word} {words = more} is rest) each = inspect_is_taken tree_name word more each.0 each.1.0 each.1.1

pub inspect_refused : (words : List (List ℕ)) (fault : WordsFault) → IsParsedBy inspect_app words (Err fault) → IsOrderFor (codes "inspect" ∷ words) (Err fault)
inspect_refused words Usage parsed = no_inspect words (λ tree_name queries are.
    let same = behind words tree_name queries are in
    parsed (ap (fault_of inspect_app) same ∙ taken tree_name are.query_words queries are.some are.are_queries (are.is_name, queries_are_plain are.are_queries)))
inspect_refused words Memory parsed = tt

pub found_of_inspect : (words : List (List ℕ)) (matches : ArgMatches) → ArePlainWords words → IsParsedBy inspect_app words (Ok matches) → AreTreeAndQueries words (rows_of (found_of matches))
found_of_inspect words matches each parsed = subst (AreTreeAndQueries words) (sym parsed.1) (taken_is_inspect words each parsed.0)

some_words : (a b : List (List ℕ)) → Some a ≡ Some b → a ≡ b
some_words a b same = cc

some_word : (a b : List ℕ) → Some a ≡ Some b → a ≡ b
some_word a b same = cc

words_found : (words : List (List ℕ)) (rows : List Row) (tree : List ℕ) (query_words : List (List ℕ)) → AreTreeAndQueries words rows → first_of (codes "tree") rows ≡ Some tree → all_of (codes "query") rows ≡ Some query_words
    → words ≡ tree ∷ query_words
words_found words rows tree query_words are tree_is queries_are =
    are.words_are ∙ ap₂ (λ (t : List ℕ) (q : List (List ℕ)). t ∷ q) (some_word are.tree tree (sym are.tree_is ∙ tree_is)) (some_words (are.query ∷ are.more) query_words (sym are.queries_are ∙ queries_are))

pub queries_refused : (words : List (List ℕ)) (rows : List Row) (tree : List ℕ) (query_words : List (List ℕ)) (fault : WordsFault) → AreTreeAndQueries words rows
    → first_of (codes "tree") rows ≡ Some tree → all_of (codes "query") rows ≡ Some query_words → AreNoQueries query_words fault → IsOrderFor (codes "inspect" ∷ words) (Err fault)
queries_refused words rows tree query_words Usage are tree_is queries_are never = no_inspect words (λ tree_name queries found.
    let same = sym (words_found words rows tree query_words are tree_is queries_are) ∙ behind words tree_name queries found in
    let rest : query_words ≡ found.query_words = cc in
    never queries (subst (λ (w : List (List ℕ)). AreQueryWords w queries) (sym rest) found.are_queries))
queries_refused words rows tree query_words Memory are tree_is queries_are never = tt

queries_some : (words : List (List ℕ)) (queries : List Query) (word : List ℕ) (more : List (List ℕ)) → words ≡ word ∷ more → AreQueryWords words queries → 1 ≤ length queries
queries_some words queries word more are no_more = absurd cc
queries_some words queries word more are (one_more is rest) = omega arith

pub inspect_words : (words : List (List ℕ)) (rows : List Row) (tree : List ℕ) (query_words : List (List ℕ)) (queries : List Query) → ArePlainWords words → AreTreeAndQueries words rows
    → first_of (codes "tree") rows ≡ Some tree → all_of (codes "query") rows ≡ Some query_words → AreQueryWords query_words queries → AreWordsOf (of_tree tree queries) (codes "inspect" ∷ words)
inspect_words words rows tree query_words queries each are tree_is queries_are found =
    let same = words_found words rows tree query_words are tree_is queries_are in
    record {
      query_words = query_words;
      words_are = ap (λ (rest : List (List ℕ)). codes "inspect" ∷ rest) same;
      is_name = (subst ArePlainWords same each).0;
      are_queries = found;
      some = queries_some query_words queries are.query are.more (sym (some_words (are.query ∷ are.more) query_words (sym are.queries_are ∙ queries_are))) found;
    }

-- What is answered of the words behind `compile`.
use Rattle.std.proofs.Common.{◌≡◌, ◌∙◌, ℕ, Bool, cond, codes, refl, sym, ap, ap₂, subst, List, [], ◌∷◌, length, Option, Some, None, is_some, Result, Ok, Err}
use Rattle.std.specs.Fmt.{decimal}
use Rattle.clap.specs.Matches.{found_of}
use Rattle.clap.specs.declared.parser.matches.ArgMatches.{ArgMatches}
use Rattle.clap.specs.Walk.{Row, first_of, one_of, rows_of}
use Rattle.clap.specs.Faults.{fault_of}
use Rattle.qm_commands.specs.declared.options.Options.{Options}
use Rattle.qm_commands.specs.declared.map_command.MapCommand.TheVariants.{Compile, Format}
use Rattle.qm_commands.specs.CompileRequest.{Request, Asks, fast_option, hulls_option, models_option, faces_option, no_request}
use Rattle.qm_commands.specs.CompileWords.{AreCompileWords}
use Rattle.qm_commands.specs.FileNames.{FileNames, AreDifferent}
use Rattle.qm_commands.specs.Options.{AreThreads}
use Rattle.qm_commands.specs.Order.{of_map, of_tree, of_rooms, of_upgrade}
use Rattle.qm_commands.specs.Words.{AreNoCommand}
use Rattle.qm_words.specs.SeenWords.{names_of}
use Rattle.qm_words.specs.inner.Answered.{IsCompileAnswer, IsCompileOrder, IsNoCompileOrder, IsOrderFor}
use Rattle.qm_words.specs.inner.Parsed.{IsParsedBy}
use Rattle.qm_words.specs.declared.order.Order.{Order as SeenOrder}
use Rattle.qm_words.specs.declared.order.WordsFault.{WordsFault}
use Rattle.qm_words.specs.declared.order.WordsFault.TheVariants.{Usage, Memory}
use Rattle.qm_words.specs.inner.CommandLines.{compile_app}
use Rattle.qm_words.specs.inner.CompileWord.{EachIsCompileWord}
use Rattle.qm_words.specs.inner.FoundWords.{AreFound}
use Rattle.qm_words.proofs.SingleWords.{verbs_apart}
use Rattle.qm_words.proofs.CompileWhole.{IsTaken, asked_is_taken, asked_once, each_asked, taken_is_asked}

no_command : (words : List (List ℕ)) → ((options : Options) (listed : Bool) (files : FileNames) → AreCompileWords (codes "compile" ∷ words) options listed files → ⊥) → AreNoCommand (codes "compile" ∷ words)
no_command words never (of_map (Compile options listed) files) are = never options listed files are
no_command words never (of_map Format files) are = verbs_apart (codes "compile") (codes "format") words (files.map_name ∷ files.out_name ∷ []) refl are.words_are
no_command words never (of_tree tree_name queries) are = verbs_apart (codes "compile") (codes "inspect") words (tree_name ∷ are.query_words) refl are.words_are
no_command words never (of_rooms rooms number) are = verbs_apart (codes "compile") (codes "demo") words (decimal rooms ∷ decimal number ∷ []) refl are.words_are
no_command words never (of_upgrade tree_name out_name) are = verbs_apart (codes "compile") (codes "upgrade") words (tree_name ∷ out_name ∷ []) refl are.words_are

behind : (words : List (List ℕ)) (options : Options) (listed : Bool) (files : FileNames) (are : AreCompileWords (codes "compile" ∷ words) options listed files) → Asks no_request words are.asked
behind words options listed files are =
    let same : are.rest ≡ words = let whole = are.words_are in cc in
    subst (λ (w : List (List ℕ)). Asks no_request w are.asked) same are.asks

two_names : (asked : Request) (map_name out_name : List ℕ) → asked.names ≡ map_name ∷ out_name ∷ [] → length asked.names ≡ 2
two_names asked map_name out_name are = ap (λ (names : List (List ℕ)). length names) are

-- a word that is none behind `compile`
pub no_single : (words : List (List ℕ)) → (EachIsCompileWord words → ⊥) → AreNoCommand (codes "compile" ∷ words)
no_single words never = no_command words (λ options listed files are. never (each_asked (behind words options listed files are)))

-- words that the parser refuses
pub refused : (words : List (List ℕ)) → (fault_of compile_app words ≡ [] → ⊥) → AreNoCommand (codes "compile" ∷ words)
refused words never = no_command words (λ options listed files are.
    never (asked_is_taken words are.asked (behind words options listed files are) (two_names are.asked files.map_name files.out_name are.are_names)).0)

pub refused_or_memory : (words : List (List ℕ)) (fault : WordsFault) → IsParsedBy compile_app words (Err fault) → IsOrderFor (codes "compile" ∷ words) (Err fault)
refused_or_memory words Usage parsed = refused words parsed
refused_or_memory words Memory parsed = tt

-- what is found of words is what they ask for
pub found_of_words : (words : List (List ℕ)) (matches : ArgMatches) → EachIsCompileWord words → IsParsedBy compile_app words (Ok matches) → IsTaken words (rows_of (found_of matches))
found_of_words words matches each parsed = subst (IsTaken words) (sym parsed.1) (taken_is_asked words each parsed.0)

-- an answer to what the parser has found is one to the words
pub answer_compile : (words : List (List ℕ)) (rows : List Row) (r : Result SeenOrder WordsFault) → IsTaken words rows → IsCompileAnswer rows r → IsOrderFor (codes "compile" ∷ words) r
answer_compile words rows (Ok order) taken answer = answer words taken.all taken.asks taken.found
answer_compile words rows (Err Usage) taken answer = answer words taken.all taken.asks taken.found
answer_compile words rows (Err Memory) taken answer = tt

some_same : (a b : List ℕ) → Some a ≡ Some b → a ≡ b
some_same a b same = cc

pub order_is : (rows : List Row) (map_name out_name : List ℕ) (listing_name threads_text : Option (List ℕ)) (listed : Bool) (threads : ℕ) (fast hulls models faces : Bool)
    → first_of (codes "map") rows ≡ Some map_name → first_of (codes "out") rows ≡ Some out_name → first_of (codes "prt") rows ≡ listing_name → first_of (codes "threads") rows ≡ threads_text
    → listed ≡ is_some listing_name → AreThreads threads_text threads → ((b : Bool) → one_of (codes "fast") rows ≡ Some (cond b (codes "true") (codes "false")) → fast ≡ b)
    → ((b : Bool) → one_of (codes "hulls") rows ≡ Some (cond b (codes "true") (codes "false")) → hulls ≡ b)
    → ((b : Bool) → one_of (codes "models") rows ≡ Some (cond b (codes "true") (codes "false")) → models ≡ b)
    → ((b : Bool) → one_of (codes "faces") rows ≡ Some (cond b (codes "true") (codes "false")) → faces ≡ b)
    → AreDifferent (names_of map_name out_name listing_name)
    → IsCompileOrder rows (of_map (Compile (record { threads = threads; fast = fast; hulls = hulls; models = models; faces = faces }) listed) (names_of map_name out_name listing_name))
order_is rows map_name out_name listing_name threads_text listed threads fast hulls models faces is_map is_out is_listing is_threads is_listed are_threads is_fast are_hulls are_models are_faces different words asked asks found = record {
  rest = words;
  words_are = refl;
  asked = asked;
  asks = asks;
  are_names = found.names ∙ ap₂ (λ (m o : List ℕ). m ∷ o ∷ []) (some_same found.map_name map_name (sym found.map_is ∙ is_map)) (some_same found.out_name out_name (sym found.out_is ∙ is_out));
  is_listing = sym found.listing_is ∙ is_listing;
  is_listed = is_listed ∙ ap (λ (o : Option (List ℕ)). is_some o) (sym is_listing ∙ found.listing_is);
  is_fast = is_fast asked.fast (found.flags_are fast_option);
  are_hulls = are_hulls asked.hulls (found.flags_are hulls_option);
  are_models = are_models asked.models (found.flags_are models_option);
  are_faces = are_faces asked.faces (found.flags_are faces_option);
  are_threads = subst (λ (o : Option (List ℕ)). AreThreads o threads) (sym is_threads ∙ found.threads_is) are_threads;
  different = different;
}

-- no order where a name is missing
pub no_map : (rows : List Row) → first_of (codes "map") rows ≡ None → IsNoCompileOrder rows
no_map rows none words asked asks found = let clash = sym none ∙ found.map_is in absurd cc

pub no_out : (rows : List Row) → first_of (codes "out") rows ≡ None → IsNoCompileOrder rows
no_out rows none words asked asks found = let clash = sym none ∙ found.out_is in absurd cc

same_request : (words : List (List ℕ)) (asked : Request) (rows : List Row) (options : Options) (listed : Bool) (files : FileNames) (are : AreCompileWords (codes "compile" ∷ words) options listed files)
    → Asks no_request words asked → AreFound rows asked → are.asked ≡ asked
same_request words asked rows options listed files are asks found =
    asked_once words are.asked asked (behind words options listed files are) asks (two_names are.asked files.map_name files.out_name are.are_names) (two_names asked found.map_name found.out_name found.names)

-- none where the number of workers is none
pub no_threads : (rows : List Row) (threads_text : Option (List ℕ)) → first_of (codes "threads") rows ≡ threads_text → ((n : ℕ) → AreThreads threads_text n → ⊥) → IsNoCompileOrder rows
no_threads rows threads_text is never words asked asks found = no_command words (λ options listed files are.
    never options.threads (subst (λ (o : Option (List ℕ)). AreThreads o options.threads)
    (ap (λ (r : Request). r.threads) (same_request words asked rows options listed files are asks found) ∙ sym found.threads_is ∙ is) are.are_threads))

first_same : (a b c d : List ℕ) → a ∷ b ∷ [] ≡ c ∷ d ∷ [] → a ≡ c
first_same a b c d same = cc

second_same : (a b c d : List ℕ) → a ∷ b ∷ [] ≡ c ∷ d ∷ [] → b ≡ d
second_same a b c d same = cc

-- none where two names are the same
pub not_different : (rows : List Row) (map_name out_name : List ℕ) (listing_name : Option (List ℕ))
    → first_of (codes "map") rows ≡ Some map_name → first_of (codes "out") rows ≡ Some out_name → first_of (codes "prt") rows ≡ listing_name
    → (AreDifferent (names_of map_name out_name listing_name) → ⊥) → IsNoCompileOrder rows
not_different rows map_name out_name listing_name is_map is_out is_listing never words asked asks found = no_command words (λ options listed files are.
    let same = same_request words asked rows options listed files are asks found in
    let names : files.map_name ∷ files.out_name ∷ [] ≡ found.map_name ∷ found.out_name ∷ [] = sym are.are_names ∙ ap (λ (r : Request). r.names) same ∙ found.names in
    let map_same = first_same files.map_name files.out_name found.map_name found.out_name names ∙ some_same found.map_name map_name (sym found.map_is ∙ is_map) in
    let out_same = second_same files.map_name files.out_name found.map_name found.out_name names ∙ some_same found.out_name out_name (sym found.out_is ∙ is_out) in
    let listing_same = sym are.is_listing ∙ ap (λ (r : Request). r.listing) same ∙ sym found.listing_is ∙ is_listing in
    never (subst (λ (f : FileNames). AreDifferent f) (λ i. names_of (map_same i) (out_same i) (listing_same i)) are.different))

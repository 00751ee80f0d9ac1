-- What is answered of the words behind `format`, `upgrade` and `demo`.
use Rattle.std.proofs.Common.{◌≡◌, ◌≢◌, ◌∙◌, ◌<◌, ◌^◌, ℕ, codes, refl, sym, ap, ap₂, subst, arith, List, [], ◌∷◌, Option, Some, None, ⊎_elim, Bor, Ok, Err}
use Rattle.std.specs.Prelude.{MatchOption, ok_or}
use Rattle.std.specs.Fmt.{decimal}
use Rattle.clap.specs.Walk.{rows_of}
use Rattle.clap.specs.Matches.{found_of}
use Rattle.clap.specs.declared.parser.matches.ArgMatches.{ArgMatches}
use Rattle.clap.specs.Faults.{fault_of}
use Rattle.qm_commands.specs.declared.map_command.MapCommand.TheVariants.{Compile, Format}
use Rattle.qm_commands.specs.FileNames.{FileNames}
use Rattle.qm_commands.specs.FormatWords.{AreFormatWords}
use Rattle.qm_commands.specs.DemoWords.{AreDemoWords}
use Rattle.qm_commands.specs.UpgradeWords.{AreUpgradeWords}
use Rattle.qm_commands.specs.Order.{of_map, of_tree, of_rooms, of_upgrade}
use Rattle.qm_commands.specs.Words.{AreNoCommand, AreWordsOf}
use Rattle.qm_words.specs.SeenWords.{names_of}
use Rattle.qm_words.specs.inner.Answered.{IsOrderFor}
use Rattle.qm_words.specs.inner.CommandLines.{pair_app}
use Rattle.qm_words.specs.inner.Numbers.{IsCount}
use Rattle.qm_words.specs.inner.Parsed.{IsParsedBy}
use Rattle.qm_words.specs.inner.PlainWords.{ArePlainWords}
use Rattle.qm_words.specs.inner.TwoWords.{AreNamesOf, AreTwo, HasPair, IsPairOf, LacksPair}
use Rattle.qm_words.specs.declared.order.WordsFault.{WordsFault}
use Rattle.qm_words.specs.declared.order.WordsFault.TheVariants.{Usage, Memory}
use Rattle.qm_words.proofs.Commas.{decimal_is_name}
use Rattle.qm_words.proofs.PairLaws.{ArePair, pair_is_taken, taken_is_pair}
use Rattle.qm_words.proofs.SingleWords.{verbs_apart}

-- ---- two words

pub pair_refused : (verb : List ℕ) (words : List (List ℕ)) (fault : WordsFault) → IsParsedBy (pair_app verb) words (Err fault) → IsPairOf words (Err fault)
pair_refused verb words Usage parsed =
    λ first second two. parsed (ap (fault_of (pair_app verb)) two.words_are ∙ pair_is_taken verb first second two.first_is two.second_is)
pair_refused verb words Memory parsed = tt

found_pair : (verb : List ℕ) (words : List (List ℕ)) (matches : ArgMatches) → ArePlainWords words → IsParsedBy (pair_app verb) words (Ok matches) → ArePair words (rows_of (found_of matches))
found_pair verb words matches each parsed = subst (ArePair words) (sym parsed.1) (taken_is_pair verb words each parsed.0)

some_same : (a b : List ℕ) → Some a ≡ Some b → a ≡ b
some_same a b same = cc

pair_is : (verb : List ℕ) (words : List (List ℕ)) (matches : ArgMatches) (first second : List ℕ) → ArePlainWords words → IsParsedBy (pair_app verb) words (Ok matches)
    → HasPair (codes "first") (codes "second") (rows_of (found_of matches)) first second → AreTwo words first second
pair_is verb words matches first second each parsed has =
    let pair = found_pair verb words matches each parsed in
    let first_same = some_same pair.first first (sym pair.first_is ∙ has.0) in
    let second_same = some_same pair.second second (sym pair.second_is ∙ has.1) in
    let words_are = pair.words_are ∙ ap₂ (λ (f s : List ℕ). f ∷ s ∷ []) first_same second_same in
    let plain = subst ArePlainWords words_are each in
    record { words_are = words_are; first_is = plain.0; second_is = plain.1.0 }

pair_is_there : (verb : List ℕ) (words : List (List ℕ)) (matches : ArgMatches) → ArePlainWords words → IsParsedBy (pair_app verb) words (Ok matches) → LacksPair (codes "first") (codes "second") (rows_of (found_of matches)) → ⊥
pair_is_there verb words matches each parsed lacks =
    let pair = found_pair verb words matches each parsed in
    ⊎_elim (λ none. let clash = sym none ∙ pair.first_is in absurd cc) (λ none. let clash = sym none ∙ pair.second_is in absurd cc) lacks

-- what is found of words is their pair, or they have none
pub pair_found : (verb : List ℕ) (words : List (List ℕ)) (matches : ArgMatches) (found : Option (Bor (List ℕ) × Bor (List ℕ))) → ArePlainWords words → IsParsedBy (pair_app verb) words (Ok matches)
    → MatchOption found (LacksPair (codes "first") (codes "second") (rows_of (found_of matches))) (λ pair. HasPair (codes "first") (codes "second") (rows_of (found_of matches)) pair.0.now pair.1.now)
    → IsPairOf words (ok_or found Usage)
pair_found verb words matches None each parsed lacks = λ first second two. pair_is_there verb words matches each parsed lacks
pair_found verb words matches (Some pair) each parsed has = pair_is verb words matches pair.0.now pair.1.now each parsed has

first_same : (a b c d : List ℕ) → a ∷ b ∷ [] ≡ c ∷ d ∷ [] → a ≡ c
first_same a b c d same = cc

second_same : (a b c d : List ℕ) → a ∷ b ∷ [] ≡ c ∷ d ∷ [] → b ≡ d
second_same a b c d same = cc

-- ---- two names

pub names_refused : (words : List (List ℕ)) (fault : WordsFault) → IsPairOf words (Err fault) → AreNamesOf words (Err fault)
names_refused words Usage never = λ first second two differ. never first second two
names_refused words Memory never = tt

-- names that are the same
pub names_alike : (words : List (List ℕ)) (first second : List ℕ) → AreTwo words first second → first ≡ second → AreNamesOf words (Err Usage)
names_alike words first second two same = λ one other are differ.
    let names = sym are.words_are ∙ two.words_are in
    differ (first_same one other first second names ∙ same ∙ sym (second_same one other first second names))

-- ---- `format`

no_format : (words : List (List ℕ)) → ((files : FileNames) → AreFormatWords (codes "format" ∷ words) files → ⊥) → AreNoCommand (codes "format" ∷ words)
no_format words never (of_map (Compile options listed) files) are = verbs_apart (codes "format") (codes "compile") words are.rest refl are.words_are
no_format words never (of_map Format files) are = never files are
no_format words never (of_tree tree_name queries) are = verbs_apart (codes "format") (codes "inspect") words (tree_name ∷ are.query_words) refl are.words_are
no_format words never (of_rooms rooms number) are = verbs_apart (codes "format") (codes "demo") words (decimal rooms ∷ decimal number ∷ []) refl are.words_are
no_format words never (of_upgrade tree_name out_name) are = verbs_apart (codes "format") (codes "upgrade") words (tree_name ∷ out_name ∷ []) refl are.words_are

format_two : (words : List (List ℕ)) (files : FileNames) → AreFormatWords (codes "format" ∷ words) files → AreTwo words files.map_name files.out_name
format_two words files are =
    let same : words ≡ files.map_name ∷ files.out_name ∷ [] = let whole = are.words_are in cc in
    record { words_are = same; first_is = are.is_map_name; second_is = are.is_out_name }

pub format_refused : (words : List (List ℕ)) (fault : WordsFault) → AreNamesOf words (Err fault) → IsOrderFor (codes "format" ∷ words) (Err fault)
format_refused words Usage never = no_format words (λ files are. never files.map_name files.out_name (format_two words files are) are.different.map_and_out)
format_refused words Memory never = tt

pub format_words : (words : List (List ℕ)) (map_name out_name : List ℕ) → AreTwo words map_name out_name × (map_name ≢ out_name) → AreWordsOf (of_map Format (names_of map_name out_name None)) (codes "format" ∷ words)
format_words words map_name out_name names = record {
  words_are = ap (λ (rest : List (List ℕ)). codes "format" ∷ rest) names.0.words_are;
  is_map_name = names.0.first_is;
  is_out_name = names.0.second_is;
  no_listing = refl;
  different = record { map_and_out = names.1; map_and_listing = λ name some. absurd cc; out_and_listing = λ name some. absurd cc };
}

-- ---- `upgrade`

no_upgrade : (words : List (List ℕ)) → ((tree_name out_name : List ℕ) → AreUpgradeWords (codes "upgrade" ∷ words) tree_name out_name → ⊥) → AreNoCommand (codes "upgrade" ∷ words)
no_upgrade words never (of_map (Compile options listed) files) are = verbs_apart (codes "upgrade") (codes "compile") words are.rest refl are.words_are
no_upgrade words never (of_map Format files) are = verbs_apart (codes "upgrade") (codes "format") words (files.map_name ∷ files.out_name ∷ []) refl are.words_are
no_upgrade words never (of_tree tree_name queries) are = verbs_apart (codes "upgrade") (codes "inspect") words (tree_name ∷ are.query_words) refl are.words_are
no_upgrade words never (of_rooms rooms number) are = verbs_apart (codes "upgrade") (codes "demo") words (decimal rooms ∷ decimal number ∷ []) refl are.words_are
no_upgrade words never (of_upgrade tree_name out_name) are = never tree_name out_name are

upgrade_two : (words : List (List ℕ)) (tree_name out_name : List ℕ) → AreUpgradeWords (codes "upgrade" ∷ words) tree_name out_name → AreTwo words tree_name out_name
upgrade_two words tree_name out_name are =
    let same : words ≡ tree_name ∷ out_name ∷ [] = let whole = are.words_are in cc in
    record { words_are = same; first_is = are.is_tree_name; second_is = are.is_out_name }

pub upgrade_refused : (words : List (List ℕ)) (fault : WordsFault) → AreNamesOf words (Err fault) → IsOrderFor (codes "upgrade" ∷ words) (Err fault)
upgrade_refused words Usage never = no_upgrade words (λ tree_name out_name are. never tree_name out_name (upgrade_two words tree_name out_name are) are.different)
upgrade_refused words Memory never = tt

pub upgrade_words : (words : List (List ℕ)) (tree_name out_name : List ℕ) → AreTwo words tree_name out_name × (tree_name ≢ out_name) → AreWordsOf (of_upgrade tree_name out_name) (codes "upgrade" ∷ words)
upgrade_words words tree_name out_name names = record {
  words_are = ap (λ (rest : List (List ℕ)). codes "upgrade" ∷ rest) names.0.words_are;
  is_tree_name = names.0.first_is;
  is_out_name = names.0.second_is;
  different = names.1;
}

-- ---- `demo`

no_demo : (words : List (List ℕ)) → ((rooms number : ℕ) → AreDemoWords (codes "demo" ∷ words) rooms number → ⊥) → AreNoCommand (codes "demo" ∷ words)
no_demo words never (of_map (Compile options listed) files) are = verbs_apart (codes "demo") (codes "compile") words are.rest refl are.words_are
no_demo words never (of_map Format files) are = verbs_apart (codes "demo") (codes "format") words (files.map_name ∷ files.out_name ∷ []) refl are.words_are
no_demo words never (of_tree tree_name queries) are = verbs_apart (codes "demo") (codes "inspect") words (tree_name ∷ are.query_words) refl are.words_are
no_demo words never (of_rooms rooms number) are = never rooms number are
no_demo words never (of_upgrade tree_name out_name) are = verbs_apart (codes "demo") (codes "upgrade") words (tree_name ∷ out_name ∷ []) refl are.words_are

demo_two : (words : List (List ℕ)) (rooms number : ℕ) → AreDemoWords (codes "demo" ∷ words) rooms number → AreTwo words (decimal rooms) (decimal number)
demo_two words rooms number are =
    let same : words ≡ decimal rooms ∷ decimal number ∷ [] = let whole = are.words_are in cc in
    record { words_are = same; first_is = decimal_is_name rooms (omega (arith, are.few)); second_is = decimal_is_name number are.small }

pub demo_refused : (words : List (List ℕ)) (fault : WordsFault) → IsPairOf words (Err fault) → IsOrderFor (codes "demo" ∷ words) (Err fault)
demo_refused words Usage never = no_demo words (λ rooms number are. never (decimal rooms) (decimal number) (demo_two words rooms number are))
demo_refused words Memory never = tt

pub no_rooms : (words : List (List ℕ)) (first second : List ℕ) → AreTwo words first second → ((n : ℕ) → IsCount first n → ⊥) → AreNoCommand (codes "demo" ∷ words)
no_rooms words first second two never = no_demo words (λ rooms number are.
    let names = sym two.words_are ∙ (demo_two words rooms number are).words_are in
    never rooms (first_same first second (decimal rooms) (decimal number) names, are.some, are.few))

pub no_number : (words : List (List ℕ)) (first second : List ℕ) → AreTwo words first second → ((n : ℕ) → n < 2 ^ 64 → second ≡ decimal n → ⊥) → AreNoCommand (codes "demo" ∷ words)
no_number words first second two never = no_demo words (λ rooms number are.
    let names = sym two.words_are ∙ (demo_two words rooms number are).words_are in
    never number are.small (second_same first second (decimal rooms) (decimal number) names))

pub demo_words : (words : List (List ℕ)) (first second : List ℕ) (rooms number : ℕ) → AreTwo words first second → IsCount first rooms → (second ≡ decimal number) × (number < 2 ^ 64)
    → AreWordsOf (of_rooms rooms number) (codes "demo" ∷ words)
demo_words words first second rooms number two counts numbered = record {
  words_are = ap (λ (rest : List (List ℕ)). codes "demo" ∷ rest) (two.words_are ∙ ap₂ (λ (f s : List ℕ). f ∷ s ∷ []) counts.0 numbered.0);
  some = counts.1;
  few = counts.2;
  small = numbered.1;
}

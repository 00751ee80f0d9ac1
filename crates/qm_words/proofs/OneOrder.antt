-- Words are those of one order at most.
use Rattle.std.proofs.Common.{◌≡◌, ◌∙◌, ℕ, ℤ, Bool, codes, refl, sym, ap, ap₂, subst, arith, List, [], ◌∷◌, ◌++◌, append_assoc, length, Option, Some, None, is_some}
use Rattle.std.specs.Fmt.{decimal}
use Rattle.std.proofs.lemmas.Fmt.{decimal_injective}
use Rattle.qm_commands.specs.declared.options.Options.{Options}
use Rattle.qm_commands.specs.declared.map_command.MapCommand.TheVariants.{Compile, Format}
use Rattle.qm_commands.specs.declared.millionths.Millionths.{Millionths}
use Rattle.qm_commands.specs.declared.query.Query.{Query}
use Rattle.qm_commands.specs.declared.query.Query.TheVariants.{Count, At, Hull, Trace, HullTrace, Model, ModelAt, Faces, Face, Row, Sees, Parts}
use Rattle.qm_commands.specs.CompileRequest.{Request, Asks, no_request}
use Rattle.qm_commands.specs.CompileWords.{AreCompileWords}
use Rattle.qm_commands.specs.DemoWords.{AreDemoWords}
use Rattle.qm_commands.specs.FileNames.{FileNames}
use Rattle.qm_commands.specs.FormatWords.{AreFormatWords}
use Rattle.qm_commands.specs.InspectWords.{AreInspectWords}
use Rattle.qm_commands.specs.Options.{AreThreads}
use Rattle.qm_commands.specs.QueryWord.{AreEndNumbers, ArePlaceNumbers, AreQueryWords, IsHullNumber, IsQueryWord, IsShort, hull_name, hull_trace_name, model_name, no_more, one_more}
use Rattle.qm_commands.specs.Order.{Order, of_map, of_tree, of_rooms, of_upgrade}
use Rattle.qm_commands.specs.UpgradeWords.{AreUpgradeWords}
use Rattle.qm_commands.specs.Words.{AreWordsOf}
use Rattle.qm_words.specs.inner.PlacesRead.{HasNoComma, IsCommaSplit}
use Rattle.qm_words.proofs.Commas.{clear_decimal, clear_text, splits_once}
use Rattle.qm_words.proofs.CompileWhole.{asked_once}
use Rattle.qm_words.proofs.PlaceLaws.{ends_once, place_once}
use Rattle.qm_words.proofs.QueryLaws.{fits, only_count, only_face, only_faces, only_hull, only_hull_trace, only_model, only_parts, only_place, only_row, only_sees, only_trace}
use Rattle.qm_words.proofs.SingleWords.{verbs_apart}

two_same : (a b c d : List ℕ) → a ∷ b ∷ [] ≡ c ∷ d ∷ [] → (a ≡ c) × (b ≡ d)
two_same a b c d same = let one : a ≡ c = cc in let other : b ≡ d = cc in (one, other)

tail_same : {X : Type 0} (x y : X) (xs ys : List X) → x ∷ xs ≡ y ∷ ys → xs ≡ ys
tail_same x y xs ys same = cc

-- ---- `compile`

threads_same : (text : Option (List ℕ)) (n m : ℕ) → AreThreads text n → AreThreads text m → n ≡ m
threads_same None n m is_n is_m = is_n ∙ sym is_m
threads_same (Some text) n m is_n is_m = decimal_injective n m (omega (arith, is_n.2)) (omega (arith, is_m.2)) (sym is_n.0 ∙ is_m.0)

compile_once : (words : List (List ℕ)) (options other : Options) (listed other_listed : Bool) (files other_files : FileNames)
    → AreCompileWords words options listed files → AreCompileWords words other other_listed other_files
    → ◌≡◌ {A = Order} (of_map (Compile other other_listed) other_files) (of_map (Compile options listed) files)
compile_once words options other listed other_listed files other_files one two =
    let rest = tail_same (codes "compile") (codes "compile") two.rest one.rest (sym two.words_are ∙ one.words_are) in
    let asks_two = subst (λ (w : List (List ℕ)). Asks no_request w two.asked) rest two.asks in
    let same = asked_once one.rest two.asked one.asked asks_two one.asks (ap (λ (n : List (List ℕ)). length n) two.are_names) (ap (λ (n : List (List ℕ)). length n) one.are_names) in
    let names = two_same other_files.map_name other_files.out_name files.map_name files.out_name (sym two.are_names ∙ ap (λ (r : Request). r.names) same ∙ one.are_names) in
    let listing = sym two.is_listing ∙ ap (λ (r : Request). r.listing) same ∙ one.is_listing in
    let lists = two.is_listed ∙ ap (λ (r : Request). is_some r.listing) same ∙ sym one.is_listed in
    let fast = two.is_fast ∙ ap (λ (r : Request). r.fast) same ∙ sym one.is_fast in
    let hulls = two.are_hulls ∙ ap (λ (r : Request). r.hulls) same ∙ sym one.are_hulls in
    let models = two.are_models ∙ ap (λ (r : Request). r.models) same ∙ sym one.are_models in
    let faces = two.are_faces ∙ ap (λ (r : Request). r.faces) same ∙ sym one.are_faces in
    let threads = threads_same one.asked.threads other.threads options.threads (subst (λ (t : Option (List ℕ)). AreThreads t other.threads) (ap (λ (r : Request). r.threads) same) two.are_threads) one.are_threads in
    λ i. of_map (Compile (record { threads = threads i; fast = fast i; hulls = hulls i; models = models i; faces = faces i }) (lists i)) (record { map_name = names.0 i; out_name = names.1 i; listing_name = listing i })

-- ---- `format`

format_once : (words : List (List ℕ)) (files other : FileNames) → AreFormatWords words files → AreFormatWords words other → other ≡ files
format_once words files other one two =
    let names = two_same other.map_name other.out_name files.map_name files.out_name (tail_same (codes "format") (codes "format") _ _ (sym two.words_are ∙ one.words_are)) in
    let listing = two.no_listing ∙ sym one.no_listing in
    λ i. record { map_name = names.0 i; out_name = names.1 i; listing_name = listing i }

-- ---- `upgrade`

upgrade_once : (words : List (List ℕ)) (tree out_name other other_out : List ℕ) → AreUpgradeWords words tree out_name → AreUpgradeWords words other other_out
    → ◌≡◌ {A = Order} (of_upgrade other other_out) (of_upgrade tree out_name)
upgrade_once words tree out_name other other_out one two =
    let names = two_same other other_out tree out_name (tail_same (codes "upgrade") (codes "upgrade") _ _ (sym two.words_are ∙ one.words_are)) in
    ap₂ (λ (t o : List ℕ). of_upgrade t o) names.0 names.1

-- ---- `demo`

demo_once : (words : List (List ℕ)) (rooms number other_rooms other_number : ℕ) → AreDemoWords words rooms number → AreDemoWords words other_rooms other_number
    → ◌≡◌ {A = Order} (of_rooms other_rooms other_number) (of_rooms rooms number)
demo_once words rooms number other_rooms other_number one two =
    let texts = two_same (decimal other_rooms) (decimal other_number) (decimal rooms) (decimal number) (tail_same (codes "demo") (codes "demo") _ _ (sym two.words_are ∙ one.words_are)) in
    ap₂ (λ (r n : ℕ). of_rooms r n) (decimal_injective other_rooms rooms (omega (arith, two.few)) (omega (arith, one.few)) texts.0) (decimal_injective other_number number two.small one.small texts.1)

-- ---- `inspect`

short_same : (n m : ℕ) → IsShort n → IsShort m → decimal n ≡ decimal m → n ≡ m
short_same n m short_n short_m same = decimal_injective n m (omega (arith, short_n)) (omega (arith, short_m)) same

place_only : (text : List ℕ) (x y z : ℤ) → ArePlaceNumbers text x y z → (query : Query) → IsQueryWord (codes "at=" ++ text) query → query ≡ At x y z
place_only text x y z place query is = only_place text query (λ q. q ≡ At x y z) (λ a b c are.
    let same = place_once text a b c x y z are place in
    λ i. At (same.0 i) (same.1 i) (same.2 i)) is

hull_only : (hull : ℕ) (text : List ℕ) (x y z : ℤ) → IsHullNumber hull → ArePlaceNumbers text x y z → (query : Query) → IsQueryWord (hull_name hull ++ text) query → query ≡ Hull hull x y z
hull_only hull text x y z number place query is = only_hull hull text query (λ q. q ≡ Hull hull x y z) number (λ a b c are.
    let same = place_once text a b c x y z are place in
    λ i. Hull hull (same.0 i) (same.1 i) (same.2 i)) is

trace_only : (text : List ℕ) (from to : Millionths) → AreEndNumbers text from to → (query : Query) → IsQueryWord (codes "trace=" ++ text) query → query ≡ Trace from to
trace_only text from to ends query is = only_trace text query (λ q. q ≡ Trace from to) (λ other last are.
    let same = ends_once text other last from to are ends in
    ap₂ (λ (f t : Millionths). Trace f t) same.0 same.1) is

hull_trace_only : (hull : ℕ) (text : List ℕ) (from to : Millionths) → IsHullNumber hull → AreEndNumbers text from to → (query : Query) → IsQueryWord (hull_trace_name hull ++ text) query
    → query ≡ HullTrace hull from to
hull_trace_only hull text from to number ends query is = only_hull_trace hull text query (λ q. q ≡ HullTrace hull from to) number (λ other last are.
    let same = ends_once text other last from to are ends in
    ap₂ (λ (f t : Millionths). HullTrace hull f t) same.0 same.1) is

model_only : (entity : ℕ) → IsShort entity → (query : Query) → IsQueryWord (codes "model=" ++ decimal entity) query → query ≡ Model entity
model_only entity short query is = only_model (decimal entity) query (λ q. q ≡ Model entity)
    (λ other same also. ap (λ (k : ℕ). Model k) (short_same other entity also short (sym same)))
    (λ other numbers x y z split also are. absurd (clear_text (decimal entity) (decimal other) numbers (clear_decimal entity (fits entity short)) split)) is

model_at_only : (entity : ℕ) (numbers : List ℕ) (x y z : ℤ) → IsShort entity → ArePlaceNumbers numbers x y z → (query : Query) → IsQueryWord (model_name entity ++ numbers) query
    → query ≡ ModelAt entity x y z
model_at_only entity numbers x y z short place query is = only_model text query (λ q. q ≡ ModelAt entity x y z)
    (λ other same also. absurd (clear_text text (decimal entity) numbers (subst HasNoComma (sym same) (clear_decimal other (fits other also))) split))
    (λ other rest a b c again also are.
    let parts = splits_once text (decimal other) rest (decimal entity) numbers again split in
    let entities = short_same other entity also short parts.0 in
    let same = place_once numbers a b c x y z (subst (λ (t : List ℕ). ArePlaceNumbers t a b c) parts.1 are) place in
    λ i. ModelAt (entities i) (same.0 i) (same.1 i) (same.2 i)) is
  where
    text : List ℕ
    text = (decimal entity ++ (44 ∷ [])) ++ numbers

    split : IsCommaSplit text (decimal entity) numbers
    split = record { text_is = append_assoc (decimal entity) (44 ∷ []) numbers; clear = clear_decimal entity (fits entity short) }

face_only : (n : ℕ) → IsShort n → (query : Query) → IsQueryWord (codes "face=" ++ decimal n) query → query ≡ Face n
face_only n short query is = only_face (decimal n) query (λ q. q ≡ Face n) (λ m same also. ap (λ (k : ℕ). Face k) (short_same m n also short (sym same))) is

row_only : (n : ℕ) → IsShort n → (query : Query) → IsQueryWord (codes "row=" ++ decimal n) query → query ≡ Row n
row_only n short query is = only_row (decimal n) query (λ q. q ≡ Row n) (λ m same also. ap (λ (k : ℕ). Row k) (short_same m n also short (sym same))) is

sees_only : (n m : ℕ) → IsShort n → IsShort m → (query : Query) → IsQueryWord (codes "sees=" ++ (decimal n ++ (44 ∷ decimal m))) query → query ≡ Sees n m
sees_only n m short_n short_m query is = only_sees (decimal n ++ (44 ∷ decimal m)) query (λ q. q ≡ Sees n m) (λ a b split short_a short_b.
    let parts = splits_once (decimal n ++ (44 ∷ decimal m)) (decimal a) (decimal b) (decimal n) (decimal m) split (record { text_is = refl; clear = clear_decimal n (fits n short_n) }) in
    ap₂ (λ (k l : ℕ). Sees k l) (short_same a n short_a short_n parts.0) (short_same b m short_b short_m parts.1)) is

query_once : (word : List ℕ) (query other : Query) → IsQueryWord word query → IsQueryWord word other → other ≡ query
query_once word Count other is also = only_count other (subst (λ (w : List ℕ). IsQueryWord w other) is also)
query_once word (At x y z) other is also = place_only is.numbers x y z is.are_numbers other (subst (λ (w : List ℕ). IsQueryWord w other) is.word_is also)
query_once word (Hull hull x y z) other is also = hull_only hull is.1.numbers x y z is.0 is.1.are_numbers other (subst (λ (w : List ℕ). IsQueryWord w other) is.1.word_is also)
query_once word (Trace from to) other is also = trace_only is.numbers from to is.are_ends other (subst (λ (w : List ℕ). IsQueryWord w other) is.word_is also)
query_once word (HullTrace hull from to) other is also = hull_trace_only hull is.1.numbers from to is.0 is.1.are_ends other (subst (λ (w : List ℕ). IsQueryWord w other) is.1.word_is also)
query_once word (Model entity) other is also = model_only entity is.1 other (subst (λ (w : List ℕ). IsQueryWord w other) is.0 also)
query_once word (ModelAt entity x y z) other is also = model_at_only entity is.1.numbers x y z is.0 is.1.are_numbers other (subst (λ (w : List ℕ). IsQueryWord w other) is.1.word_is also)
query_once word Faces other is also = only_faces other (subst (λ (w : List ℕ). IsQueryWord w other) is also)
query_once word (Face n) other is also = face_only n is.1 other (subst (λ (w : List ℕ). IsQueryWord w other) is.0 also)
query_once word (Row n) other is also = row_only n is.1 other (subst (λ (w : List ℕ). IsQueryWord w other) is.0 also)
query_once word (Sees n m) other is also = sees_only n m is.1 is.2 other (subst (λ (w : List ℕ). IsQueryWord w other) is.0 also)
query_once word Parts other is also = only_parts other (subst (λ (w : List ℕ). IsQueryWord w other) is also)

queries_once : {words : List (List ℕ)} {queries others : List Query} → AreQueryWords words queries → AreQueryWords words others → others ≡ queries
queries_once no_more no_more = refl
queries_once (one_more {word = word} {query = query} is more) (one_more {query = other} also rest) =
    ap₂ (λ (q : Query) (qs : List Query). q ∷ qs) (query_once word query other is also) (queries_once more rest)

inspect_once : (words : List (List ℕ)) (tree other : List ℕ) (queries others : List Query) → AreInspectWords words tree queries → AreInspectWords words other others
    → ◌≡◌ {A = Order} (of_tree other others) (of_tree tree queries)
inspect_once words tree other queries others one two =
    let rest = tail_same (codes "inspect") (codes "inspect") _ _ (sym two.words_are ∙ one.words_are) in
    let trees : other ≡ tree = cc in
    let words_same : two.query_words ≡ one.query_words = cc in
    ap₂ (λ (t : List ℕ) (q : List Query). of_tree t q) trees (queries_once one.are_queries (subst (λ (w : List (List ℕ)). AreQueryWords w others) words_same two.are_queries))

-- ---- all

pub one_order : (words : List (List ℕ)) (order other : Order) → AreWordsOf order words → AreWordsOf other words → other ≡ order
one_order words (of_map (Compile options listed) files) (of_map (Compile other_options other_listed) other_files) one two = compile_once words options other_options listed other_listed files other_files one two
one_order words (of_map (Compile options listed) files) (of_map Format other_files) one two = absurd (verbs_apart (codes "compile") (codes "format") _ _ refl (sym one.words_are ∙ two.words_are))
one_order words (of_map (Compile options listed) files) (of_tree tree queries) one two = absurd (verbs_apart (codes "compile") (codes "inspect") _ _ refl (sym one.words_are ∙ two.words_are))
one_order words (of_map (Compile options listed) files) (of_rooms rooms number) one two = absurd (verbs_apart (codes "compile") (codes "demo") _ _ refl (sym one.words_are ∙ two.words_are))
one_order words (of_map (Compile options listed) files) (of_upgrade tree out_name) one two = absurd (verbs_apart (codes "compile") (codes "upgrade") _ _ refl (sym one.words_are ∙ two.words_are))
one_order words (of_map Format files) (of_map (Compile options listed) other_files) one two = absurd (verbs_apart (codes "format") (codes "compile") _ _ refl (sym one.words_are ∙ two.words_are))
one_order words (of_map Format files) (of_map Format other_files) one two = ap (λ (f : FileNames). of_map Format f) (format_once words files other_files one two)
one_order words (of_map Format files) (of_tree tree queries) one two = absurd (verbs_apart (codes "format") (codes "inspect") _ _ refl (sym one.words_are ∙ two.words_are))
one_order words (of_map Format files) (of_rooms rooms number) one two = absurd (verbs_apart (codes "format") (codes "demo") _ _ refl (sym one.words_are ∙ two.words_are))
one_order words (of_map Format files) (of_upgrade tree out_name) one two = absurd (verbs_apart (codes "format") (codes "upgrade") _ _ refl (sym one.words_are ∙ two.words_are))
one_order words (of_tree tree queries) (of_map (Compile options listed) files) one two = absurd (verbs_apart (codes "inspect") (codes "compile") _ _ refl (sym one.words_are ∙ two.words_are))
one_order words (of_tree tree queries) (of_map Format files) one two = absurd (verbs_apart (codes "inspect") (codes "format") _ _ refl (sym one.words_are ∙ two.words_are))
one_order words (of_tree tree queries) (of_tree other others) one two = inspect_once words tree other queries others one two
one_order words (of_tree tree queries) (of_rooms rooms number) one two = absurd (verbs_apart (codes "inspect") (codes "demo") _ _ refl (sym one.words_are ∙ two.words_are))
one_order words (of_tree tree queries) (of_upgrade other out_name) one two = absurd (verbs_apart (codes "inspect") (codes "upgrade") _ _ refl (sym one.words_are ∙ two.words_are))
one_order words (of_rooms rooms number) (of_map (Compile options listed) files) one two = absurd (verbs_apart (codes "demo") (codes "compile") _ _ refl (sym one.words_are ∙ two.words_are))
one_order words (of_rooms rooms number) (of_map Format files) one two = absurd (verbs_apart (codes "demo") (codes "format") _ _ refl (sym one.words_are ∙ two.words_are))
one_order words (of_rooms rooms number) (of_tree tree queries) one two = absurd (verbs_apart (codes "demo") (codes "inspect") _ _ refl (sym one.words_are ∙ two.words_are))
one_order words (of_rooms rooms number) (of_rooms other_rooms other_number) one two = demo_once words rooms number other_rooms other_number one two
one_order words (of_rooms rooms number) (of_upgrade tree out_name) one two = absurd (verbs_apart (codes "demo") (codes "upgrade") _ _ refl (sym one.words_are ∙ two.words_are))
one_order words (of_upgrade tree out_name) (of_map (Compile options listed) files) one two = absurd (verbs_apart (codes "upgrade") (codes "compile") _ _ refl (sym one.words_are ∙ two.words_are))
one_order words (of_upgrade tree out_name) (of_map Format files) one two = absurd (verbs_apart (codes "upgrade") (codes "format") _ _ refl (sym one.words_are ∙ two.words_are))
one_order words (of_upgrade name out_name) (of_tree tree queries) one two = absurd (verbs_apart (codes "upgrade") (codes "inspect") _ _ refl (sym one.words_are ∙ two.words_are))
one_order words (of_upgrade tree out_name) (of_rooms rooms number) one two = absurd (verbs_apart (codes "upgrade") (codes "demo") _ _ refl (sym one.words_are ∙ two.words_are))
one_order words (of_upgrade tree out_name) (of_upgrade other other_out) one two = upgrade_once words tree out_name other other_out one two

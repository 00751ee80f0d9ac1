-- The words behind `inspect`.
use Rattle.std.proofs.Common.{◌≡◌, ◌≢◌, ◌∙◌, ℕ, codes, true, false, refl, sym, ap, List, [], ◌∷◌, ◌++◌, append_assoc, Some, None}
use Rattle.clap.specs.Walk.{Held, Row, Text, Walk, Waiting, idle, positional, all_of, first_of, nothing_held}
use Rattle.clap.specs.Simple.{Shape, built, matches_of}
use Rattle.clap.specs.Faults.{defaults_fault, fault_of, is_simple_and_free}
use Rattle.clap.specs.declared.error.kind.ErrorKind.TheVariants.{MissingRequiredArgument}
use Rattle.clap.specs.declared.parser.matches.ValueSource.TheVariants.{CommandLine}
use Rattle.clap.specs.declared.builder.value_parser.Reading.TheVariants.{AsWritten}
use Rattle.qm_commands.specs.FileNames.{IsFileName}
use Rattle.qm_words.specs.inner.CommandLines.{inspect_app}
use Rattle.qm_words.specs.inner.TreeAndQueries.{AreTreeAndQueries}
use Rattle.qm_words.specs.inner.PlainWords.{ArePlainWords}
use Rattle.qm_words.proofs.Walks.{Leads, end_fault_is, end_rows_are, fault_from, fault_on, leaf_fault_from, plain_leads, rows_from, rows_on, some_wrong, start}

pub inspect_is_free : is_simple_and_free inspect_app ≡ true
inspect_is_free = refl

abbrev shape : Shape
shape = (built inspect_app).top

inspect_fault : (words : List Text) → fault_of inspect_app words ≡ fault_from shape start words
inspect_fault words = leaf_fault_from (built inspect_app) words refl

inspect_rows : (words : List Text) → matches_of inspect_app words ≡ rows_from shape start words
unfolding rows_from
inspect_rows words = refl

abbrev row : Text → List Text → Row
row id values = record { id = id; values = values; count = None; source = Some CommandLine; reading = AsWritten }

-- the walk that waits for nothing, or for one query more
abbrev walk_at : Held → Waiting → ℕ → Walk
walk_at h waiting position = record { held = h; waiting = waiting; position = position; is_trailing = false; stopped = None }

abbrev reading : List Row → Text → Text → Held
reading rows id value = record { rows = rows; pending = Some (id, value ∷ []); skip = 0 }

-- behind the tree, behind the first query, and behind one more
abbrev at_tree : Text → Walk
at_tree tree = walk_at (reading [] (codes "tree") tree) idle 2

abbrev at_first : Text → Text → Walk
at_first tree query = walk_at (reading (row (codes "tree") (tree ∷ []) ∷ []) (codes "query") query) positional 2

abbrev at_more : Text → List Text → Text → Walk
at_more tree before query = walk_at (reading (row (codes "tree") (tree ∷ []) ∷ row (codes "query") before ∷ []) (codes "query") query) positional 2

tree_leads : (byte : ℕ) (bytes : Text) → byte ≢ 45 → Leads shape start (byte ∷ bytes) (at_tree (byte ∷ bytes))
tree_leads byte bytes other = plain_leads shape nothing_held idle 1 byte bytes _ other refl refl

first_leads : (tree : Text) (byte : ℕ) (bytes : Text) → byte ≢ 45 → Leads shape (at_tree tree) (byte ∷ bytes) (at_first tree (byte ∷ bytes))
first_leads tree byte bytes other = plain_leads shape (at_tree tree).held idle 2 byte bytes _ other refl refl

second_leads : (tree query : Text) (byte : ℕ) (bytes : Text) → byte ≢ 45 → Leads shape (at_first tree query) (byte ∷ bytes) (at_more tree (query ∷ []) (byte ∷ bytes))
second_leads tree query byte bytes other = plain_leads shape (at_first tree query).held positional 2 byte bytes _ other refl refl

more_leads : (tree : Text) (before : List Text) (query : Text) (byte : ℕ) (bytes : Text) → byte ≢ 45
    → Leads shape (at_more tree before query) (byte ∷ bytes) (at_more tree (before ++ query ∷ []) (byte ∷ bytes))
more_leads tree before query byte bytes other = plain_leads shape (at_more tree before query).held positional 2 byte bytes _ other refl refl

none_wrong : fault_from shape start [] ≡ MissingRequiredArgument ∷ []
unfolding defaults_fault
none_wrong = end_fault_is shape start

tree_wrong : (tree : Text) → fault_from shape (at_tree tree) [] ≡ MissingRequiredArgument ∷ []
unfolding defaults_fault
tree_wrong tree = end_fault_is shape (at_tree tree)

first_right : (tree query : Text) → fault_from shape (at_first tree query) [] ≡ []
unfolding defaults_fault
first_right tree query = end_fault_is shape (at_first tree query)

more_right : (tree : Text) (before : List Text) (query : Text) → fault_from shape (at_more tree before query) [] ≡ []
unfolding defaults_fault
more_right tree before query = end_fault_is shape (at_more tree before query)

-- nothing is wrong over these words, and the rows behind them are those of a tree and queries
record Ends (w : Walk) (words : List Text) (tree : Text) (queries : List Text) : Type 0 where
  right : fault_from shape w words ≡ []
  rows_are : rows_from shape w words ≡ row (codes "tree") (tree ∷ []) ∷ row (codes "query") queries ∷ []

ends_on : (w next : Walk) (word : Text) (words : List Text) (tree : Text) (queries : List Text) → Leads shape w word next → Ends next words tree queries → Ends w (word ∷ words) tree queries
ends_on w next word words tree queries leads ends = record {
  right = fault_on shape w next word words leads ∙ ends.right;
  rows_are = rows_on shape w next word words leads ∙ ends.rows_are;
}

more_end : (tree : Text) (before : List Text) (query : Text) (words : List Text) → ArePlainWords words → Ends (at_more tree before query) words tree (before ++ query ∷ words)
more_end tree before query [] each = record { right = more_right tree before query; rows_are = end_rows_are shape (at_more tree before query) }
more_end tree before query ([] ∷ words) each = absurd each.0
more_end tree before query ((x ∷ xs) ∷ words) each =
    let rest = more_end tree (before ++ query ∷ []) (x ∷ xs) words each.1 in
    let same : (before ++ query ∷ []) ++ ((x ∷ xs) ∷ words) ≡ before ++ (query ∷ (x ∷ xs) ∷ words) = append_assoc before (query ∷ []) ((x ∷ xs) ∷ words) in
    ends_on (at_more tree before query) (at_more tree (before ++ query ∷ []) (x ∷ xs)) (x ∷ xs) words tree (before ++ query ∷ (x ∷ xs) ∷ words)
    (more_leads tree before query x xs each.0) (rw same at rest)

first_end : (tree query : Text) (words : List Text) → ArePlainWords words → Ends (at_first tree query) words tree (query ∷ words)
first_end tree query [] each = record { right = first_right tree query; rows_are = end_rows_are shape (at_first tree query) }
first_end tree query ([] ∷ words) each = absurd each.0
first_end tree query ((x ∷ xs) ∷ words) each =
    ends_on (at_first tree query) (at_more tree (query ∷ []) (x ∷ xs)) (x ∷ xs) words tree (query ∷ (x ∷ xs) ∷ words) (second_leads tree query x xs each.0) (more_end tree (query ∷ []) (x ∷ xs) words each.1)

all_end : (tree query : Text) (words : List Text) → IsFileName tree → IsFileName query → ArePlainWords words → Ends start (tree ∷ query ∷ words) tree (query ∷ words)
all_end [] query words is_tree is_query each = absurd is_tree
all_end (x ∷ xs) [] words is_tree is_query each = absurd is_query
all_end (x ∷ xs) (y ∷ ys) words is_tree is_query each =
    ends_on start (at_tree (x ∷ xs)) (x ∷ xs) ((y ∷ ys) ∷ words) (x ∷ xs) ((y ∷ ys) ∷ words) (tree_leads x xs is_tree)
    (ends_on (at_tree (x ∷ xs)) (at_first (x ∷ xs) (y ∷ ys)) (y ∷ ys) words (x ∷ xs) ((y ∷ ys) ∷ words) (first_leads (x ∷ xs) y ys is_query) (first_end (x ∷ xs) (y ∷ ys) words each))

found : (words : List Text) → ArePlainWords words → fault_from shape start words ≡ [] → AreTreeAndQueries words (rows_from shape start words)
found [] each right = absurd (some_wrong MissingRequiredArgument [] (sym none_wrong ∙ right))
found ([] ∷ words) each right = absurd each.0
found ((x ∷ xs) ∷ []) each right =
    absurd (some_wrong MissingRequiredArgument [] (sym (tree_wrong (x ∷ xs)) ∙ sym (fault_on shape start (at_tree (x ∷ xs)) (x ∷ xs) [] (tree_leads x xs each.0)) ∙ right))
found ((x ∷ xs) ∷ query ∷ words) each right =
    let ends = all_end (x ∷ xs) query words each.0 each.1.0 each.1.1 in
    record {
      tree = x ∷ xs;
      query = query;
      more = words;
      words_are = refl;
      tree_is = ap (first_of (codes "tree")) ends.rows_are;
      queries_are = ap (all_of (codes "query")) ends.rows_are;
    }

-- what the parser takes is a tree and queries
pub taken_is_inspect : (words : List Text) → ArePlainWords words → fault_of inspect_app words ≡ [] → AreTreeAndQueries words (matches_of inspect_app words)
taken_is_inspect words each right = rw (inspect_rows words) (found words each (sym (inspect_fault words) ∙ right))

-- a tree and a query at least are taken
pub inspect_is_taken : (tree query : Text) (words : List Text) → IsFileName tree → IsFileName query → ArePlainWords words → fault_of inspect_app (tree ∷ query ∷ words) ≡ []
inspect_is_taken tree query words is_tree is_query each = inspect_fault (tree ∷ query ∷ words) ∙ (all_end tree query words is_tree is_query each).right

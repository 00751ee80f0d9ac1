use Rattle.std.specs.Prelude.{◌≡◌, ◌∷◌, List, Some, codes, Result, Ok, Err}
use Rattle.clap.specs.Walk.{Row, Text, all_of, first_of}
use Rattle.qm_commands.specs.Words.{AreNoCommand, AreWordsOf}
use Rattle.qm_words.specs.SeenWords.{order_of}
use Rattle.qm_words.specs.inner.PlainWords.{ArePlainWords}
use Rattle.qm_words.specs.declared.order.Order.{Order as SeenOrder}
use Rattle.qm_words.specs.declared.order.WordsFault.{WordsFault}
use Rattle.qm_words.specs.declared.order.WordsFault.TheVariants.{Usage, Memory}

-- the parser has found a tree and queries, and these are the words
pub record AreTreeAndQueries (words : List Text) (rows : List Row) : Type 0 where
  pub tree : Text
  pub query : Text
  pub more : List Text
  pub words_are : words ≡ tree ∷ query ∷ more
  pub tree_is : first_of (codes "tree") rows ≡ Some tree
  pub queries_are : all_of (codes "query") rows ≡ Some (query ∷ more)

-- words behind `inspect` whose rows these are ask for the order, or for none
abbrev pub IsAnswerFor : List Row → Result SeenOrder WordsFault → Type 0
IsAnswerFor rows (Ok order) = (words : List Text) → ArePlainWords words → AreTreeAndQueries words rows → AreWordsOf (order_of order) (codes "inspect" ∷ words)
IsAnswerFor rows (Err Usage) = (words : List Text) → ArePlainWords words → AreTreeAndQueries words rows → AreNoCommand (codes "inspect" ∷ words)
IsAnswerFor rows (Err Memory) = Unit {0}

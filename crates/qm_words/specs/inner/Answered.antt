use Rattle.std.specs.Prelude.{ℕ, List, ◌∷◌, codes, Result, Ok, Err}
use Rattle.clap.specs.Walk.{Row}
use Rattle.qm_commands.specs.CompileRequest.{Request, Asks, no_request}
use Rattle.qm_commands.specs.Order.{Order}
use Rattle.qm_commands.specs.Words.{AreNoCommand, AreWordsOf}
use Rattle.qm_words.specs.SeenWords.{order_of}
use Rattle.qm_words.specs.inner.FoundWords.{AreFound}
use Rattle.qm_words.specs.declared.order.Order.{Order as SeenOrder}
use Rattle.qm_words.specs.declared.order.WordsFault.{WordsFault}
use Rattle.qm_words.specs.declared.order.WordsFault.TheVariants.{Usage, Memory}

-- What is answered of words.

-- the words are those of the order, or no command's
abbrev pub IsOrderFor : List (List ℕ) → Result SeenOrder WordsFault → Type 0
IsOrderFor words (Ok order) = AreWordsOf (order_of order) words
IsOrderFor words (Err Usage) = AreNoCommand words
IsOrderFor words (Err Memory) = Unit {0}

-- words behind `compile` whose rows these are ask for the order, and for none
abbrev pub IsCompileOrder : List Row → Order → Type 0
IsCompileOrder rows order =
    (words : List (List ℕ)) (asked : Request) → Asks no_request words asked → AreFound rows asked → AreWordsOf order (codes "compile" ∷ words)

abbrev pub IsNoCompileOrder : List Row → Type 0
IsNoCompileOrder rows =
    (words : List (List ℕ)) (asked : Request) → Asks no_request words asked → AreFound rows asked → AreNoCommand (codes "compile" ∷ words)

abbrev pub IsCompileAnswer : List Row → Result SeenOrder WordsFault → Type 0
IsCompileAnswer rows (Ok order) = IsCompileOrder rows (order_of order)
IsCompileAnswer rows (Err Usage) = IsNoCompileOrder rows
IsCompileAnswer rows (Err Memory) = Unit {0}

use Rattle.std.specs.Prelude.{ℕ, List}
use Rattle.qm_commands.specs.QueryWord.{AreQueryWords}
use Rattle.qm_commands.specs.declared.query.Query.{Query}
use Rattle.qm_words.specs.declared.order.WordsFault.{WordsFault}
use Rattle.qm_words.specs.declared.order.WordsFault.TheVariants.{Usage, Memory}

-- words that are no queries
abbrev pub AreNoQueries : List (List ℕ) → WordsFault → Type 0
AreNoQueries words Usage = (queries : List Query) → AreQueryWords words queries → ⊥
AreNoQueries words Memory = Unit {0}

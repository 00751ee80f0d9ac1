use Rattle.std.specs.Prelude.{◌≡◌, ℕ, List, [], Result, Ok, Err}
use Rattle.clap.specs.Matches.{found_of}
use Rattle.clap.specs.Walk.{rows_of}
use Rattle.clap.specs.Simple.{App, matches_of}
use Rattle.clap.specs.Faults.{fault_of}
use Rattle.clap.specs.declared.parser.matches.ArgMatches.{ArgMatches}
use Rattle.qm_words.specs.declared.order.WordsFault.{WordsFault}
use Rattle.qm_words.specs.declared.order.WordsFault.TheVariants.{Usage, Memory}

-- What the parser answers of words behind a verb: its matches where nothing is wrong with them.
abbrev pub IsParsedBy : App → List (List ℕ) → Result ArgMatches WordsFault → Type 0
IsParsedBy app words (Ok matches) = (fault_of app words ≡ []) × (rows_of (found_of matches) ≡ matches_of app words)
IsParsedBy app words (Err Usage) = fault_of app words ≡ [] → ⊥
IsParsedBy app words (Err Memory) = Unit {0}

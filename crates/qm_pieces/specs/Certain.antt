use Rattle.std.specs.Prelude.{ℕ, List, ◌++◌}
use Rattle.qm_grammar.specs.declared.fault.MapFault.{MapFault}
use Rattle.qm_grammar.specs.Meaning.{IsFaultText}

-- a fault of a text so far is certain: it is the first fault of the text, on the same line, whatever follows
abbrev pub IsCertain : List ℕ → MapFault → Type 0
IsCertain text fault = (more : List ℕ) → IsFaultText (text ++ more) fault

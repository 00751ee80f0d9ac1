use Rattle.std.specs.Prelude.{ℕ, List, [], ◌++◌, codes}
use Rattle.std.specs.Fmt.{decimal}
use Rattle.qm_grammar.specs.declared.fault.MapFault.{MapFault}
use Rattle.qm_grammar.specs.declared.fault.MapFault.TheVariants.{TextTooLong, UnclosedQuote, Unexpected, EndInside, BadNumber, Fraction, CoordinateRange, NoNormal, NoFaces, BadOrigin, NoEntity, PlaneTooFine, Memory}
use Rattle.qm_grammar.specs.MapFault.{number_of_fault, line_of_fault}
use Rattle.qm_statement.specs.Texts.{line}

-- How the fault of a text is printed. Want of memory is no fault of a text, and is never printed.

-- what is said of it
abbrev pub words_of_fault : MapFault → List ℕ
words_of_fault (TextTooLong at) = codes "text too long"
words_of_fault (UnclosedQuote at) = codes "quote not closed"
words_of_fault (Unexpected at) = codes "unexpected"
words_of_fault (EndInside at) = codes "end inside"
words_of_fault (BadNumber at) = codes "bad number"
words_of_fault (Fraction at) = codes "fraction"
words_of_fault (CoordinateRange at) = codes "coordinate out of range"
words_of_fault (NoNormal at) = codes "no normal"
words_of_fault (NoFaces at) = codes "no faces"
words_of_fault (BadOrigin at) = codes "bad origin"
words_of_fault (NoEntity at) = codes "no entity"
words_of_fault (PlaneTooFine at) = codes "plane too fine"
words_of_fault Memory = []

-- the line that is printed
unfoldable pub fault_text : MapFault → List ℕ
fault_text found =
    line (codes "map fault " ++ (decimal (number_of_fault found) ++ (codes " at line " ++ (decimal (line_of_fault found) ++ (codes ": " ++ words_of_fault found)))))

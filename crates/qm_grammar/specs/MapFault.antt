use Rattle.std.specs.Prelude.{ℕ}
use Rattle.qm_grammar.specs.declared.fault.MapFault.{MapFault}
use Rattle.qm_grammar.specs.declared.fault.MapFault.TheVariants.{TextTooLong, UnclosedQuote, Unexpected, EndInside, BadNumber, Fraction, CoordinateRange, NoNormal, NoFaces, BadOrigin, NoEntity, PlaneTooFine, Memory}

-- The number and the line of a text's fault. Want of memory is no fault of a text, and has neither.

abbrev pub number_of_fault : MapFault → ℕ
number_of_fault (TextTooLong at) = 1
number_of_fault (UnclosedQuote at) = 2
number_of_fault (Unexpected at) = 3
number_of_fault (EndInside at) = 4
number_of_fault (BadNumber at) = 5
number_of_fault (Fraction at) = 6
number_of_fault (CoordinateRange at) = 7
number_of_fault (NoNormal at) = 8
number_of_fault (NoFaces at) = 9
number_of_fault (BadOrigin at) = 10
number_of_fault (NoEntity at) = 11
number_of_fault (PlaneTooFine at) = 12
number_of_fault Memory = 0

-- the line on which it stands
abbrev pub line_of_fault : MapFault → ℕ
line_of_fault (TextTooLong at) = at
line_of_fault (UnclosedQuote at) = at
line_of_fault (Unexpected at) = at
line_of_fault (EndInside at) = at
line_of_fault (BadNumber at) = at
line_of_fault (Fraction at) = at
line_of_fault (CoordinateRange at) = at
line_of_fault (NoNormal at) = at
line_of_fault (NoFaces at) = at
line_of_fault (BadOrigin at) = at
line_of_fault (NoEntity at) = at
line_of_fault (PlaneTooFine at) = at
line_of_fault Memory = 0

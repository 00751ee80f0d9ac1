use Rattle.std.specs.Prelude.{◌≡◌, ℕ, Result, Ok, Err}
use Rattle.qm_formats.specs.Layout.{Decoded, got, bad}
use Rattle.qm_listing.specs.Grammar.{ListingFaultKind, header, number, shape, trailing}
use Rattle.qm_prt.specs.declared.prt_fault.PrtFault.{PrtFault}
use Rattle.qm_prt.specs.declared.prt_fault.PrtFault.TheVariants as faults

-- a fault is the one that reading gives, unless memory ran out
abbrev pub IsFaultOfListing : {X : Type 0} → PrtFault → Decoded ListingFaultKind X → Type 0
IsFaultOfListing (faults.Header offset) answer = answer ≡ bad header offset
IsFaultOfListing (faults.Number offset) answer = answer ≡ bad number offset
IsFaultOfListing (faults.Shape offset) answer = answer ≡ bad shape offset
IsFaultOfListing (faults.Trailing offset) answer = answer ≡ bad trailing offset
IsFaultOfListing faults.Memory answer = Unit {0}

-- what is answered, seen as the value of a layout with the place where it ends, is what reading gives, unless memory ran out
abbrev pub AnswersListing : {X Y : Type 0} → (X → Y) → (X → ℕ) → Result X PrtFault → Decoded ListingFaultKind Y → Type 0
AnswersListing value next (Ok x) answer = answer ≡ got (value x) (next x)
AnswersListing value next (Err fault) answer = IsFaultOfListing fault answer

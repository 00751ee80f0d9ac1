use Rattle.std.specs.Prelude.{◌≡◌, ◌≢◌, ◌<◌, ◌≤◌, ◌+◌, ◌++◌, ℕ, Bool, IsTrue, List, Option, Some, None, Result, Ok, Err, IfOk, IfErr, OnOk, take}
use Rattle.qm_statement.specs.TextMeans.{TextMeans}
use Rattle.qm_surroundings.specs.ShelfState.{ShelfState, text_under}
use Rattle.qm_surroundings.specs.ShelfChanges.{IsKept, MetNoFault}
use Rattle.qm_shelf.specs.FaultMeans.{ReadFaultMeans}
use Rattle.qm_lists.specs.Limit.{up_to_one_past}
use Rattle.qm_mapfile.specs.declared.entity.MapFile.{MapFile}
use Rattle.qm_grammar.specs.declared.fault.MapFault.{MapFault}
use Rattle.qm_grammar.specs.declared.fault.MapFault.TheVariants as fault
use Rattle.qm_grammar.specs.Faults.{text_limit}
use Rattle.qm_pieces.specs.Certain.{IsCertain}
use Rattle.qm_pieces.specs.ReadSoFar.{ReadSoFar, IsReaderOf}
use Rattle.qm_shelf.specs.declared.shelf.ShelfFault.{ShelfFault}
use Rattle.qm_shelf.specs.declared.shelf.ShelfFault.TheVariants.{Memory}

-- How far a text was read that a shelf has under a name, of which the shelf may tell nothing.

-- reading under a name changes nothing, and meets no fault but the one that is answered
pub record IsReading {T : Type 0} (before after : ShelfState) (name : List ℕ) (answer : Result T ShelfFault) : Type 0 where
  pub kept : IsKept before after
  pub ok : OnOk answer (MetNoFault before after)
  pub err : IfErr answer (ReadFaultMeans before after name)

-- what a text means is told as it is, but for want of memory
abbrev pub IsToldMeaning : Result MapFile MapFault → Result (Result MapFile MapFault) ShelfFault → Type 0
IsToldMeaning meaning (Ok told) = (told ≡ meaning) × (meaning ≢ Err fault.Memory)
IsToldMeaning meaning (Err fault) = fault ≡ Memory

-- a reader has read so many bytes: where the shelf tells what it holds, the first ones of the text
pub record HasRead (tells : Bool) (whole : List ℕ) (place : ℕ) (reader : Result ReadSoFar MapFault) : Type 0 where
  pub text : List ℕ
  pub is_front : IsTrue tells → text ≡ take place whole
  pub is_read : IsReaderOf text reader

-- a reader has read what shows what the text means
pub data HasReadEnough (tells : Bool) (whole : List ℕ) : Result ReadSoFar MapFault → Type 0 where
  -- all of it, or what is within the limit and one byte more
  to_its_end :
      {reader : Result ReadSoFar MapFault} (text : List ℕ) →
      (IsTrue tells → text ≡ up_to_one_past text_limit whole) → IsReaderOf text reader →
      HasReadEnough tells whole reader
  -- what has a fault that is certain, unless memory ran out
  to_a_fault :
      {found : MapFault} (text : List ℕ) (place : ℕ) →
      (IsTrue tells → text ≡ take place whole) → (found ≢ fault.Memory → IsCertain text found) →
      HasReadEnough tells whole (Err found)

-- a reader was fed a piece that ends at a place, and goes on from there; or it has stopped at a fault
abbrev pub IsFedPiece : Result ReadSoFar MapFault → List ℕ → ℕ → Option ℕ → Result ReadSoFar MapFault → Type 0
IsFedPiece old piece place (Some end) new = (end ≡ place) × ((text : List ℕ) → IsReaderOf text old → IsReaderOf (text ++ piece) new)
IsFedPiece old piece place None new = (found : MapFault) × (new ≡ Err found) × ((text : List ℕ) → IsReaderOf text old → found ≢ fault.Memory → IsCertain (text ++ piece) found)

-- a reader that had read so many bytes was fed more of them up to a place; or has read enough
abbrev pub IsFed : Bool → List ℕ → ℕ → Result ReadSoFar MapFault → Option ℕ → Result ReadSoFar MapFault → Type 0
IsFed tells whole done old (Some place) new = (done < place) × (place ≤ text_limit + 1) × (HasRead tells whole done old → HasRead tells whole place new)
IsFed tells whole done old None new = HasRead tells whole done old → HasReadEnough tells whole new

-- a reader that has read enough of the text under a name tells what it means, unless memory runs out; a fault that was met
-- before is told as it is
abbrev pub IsFinished : {T : Type 0} → Result ReadSoFar MapFault → Result T ShelfFault → Result (Result MapFile MapFault) ShelfFault → Type 0
IsFinished reader (Ok _) answer =
    (before : ShelfState) (name : List ℕ) → HasReadEnough before.tells (text_under before name) reader →
    IfOk answer (λ meaning. TextMeans before name meaning) × IfErr answer (λ fault. fault ≡ Memory)
IsFinished reader (Err fault) answer = answer ≡ Err fault

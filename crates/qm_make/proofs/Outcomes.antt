-- What comes of reading a text, making files of it and writing these, one after another.
use Rattle.std.proofs.Common.{◌≡◌, ◌⊎◌, ℕ, List, Result, inl, inr, subst, refl, sym, Ok, Err}
use Rattle.std.specs.Prelude.{IfOk, OnErr}
use Rattle.qm_surroundings.specs.ShelfState.{ShelfState}
use Rattle.qm_surroundings.specs.ShelfChanges.{IsKept, MetNoFault}
use Rattle.qm_shelf.specs.declared.shelf.ShelfFault.{ShelfFault}
use Rattle.qm_shelf.specs.declared.shelf.ShelfFault.TheVariants.{Failed, Memory}
use Rattle.qm_mapfile.specs.declared.entity.MapFile.{MapFile}
use Rattle.qm_commands.specs.declared.map_command.MapCommand.{MapCommand}
use Rattle.qm_grammar.specs.declared.fault.MapFault.{MapFault}
use Rattle.qm_statement.specs.declared.status.Status.{Status}
use Rattle.qm_statement.specs.declared.status.Status.TheVariants as status
use Rattle.qm_statement.specs.declared.status.Status.TheVariants.{WriteFault}
use Rattle.qm_commands.specs.FileNames.{FileNames}
use Rattle.qm_statement.specs.ComesOf.{ComesOf, IsOutputOfText, IsDueInOut, IsOutUnfinished, IsListingUnfinished, IsCutShort, map_fault, write_fault, listing_fault, written}
use Rattle.qm_statement.specs.FaultText.{fault_text}
use Rattle.qm_statement.specs.Output.{Output, IsOutputOf}
use Rattle.qm_statement.specs.TextMeans.{TextMeans}
use Rattle.qm_statement.specs.Texts.{write_fault_text}
use Rattle.qm_statement.proofs.Unfinished.{kept_unfinished, unfinished_of}
use Rattle.qm_make.specs.declared.outcome.Outcome.{Outcome}
use Rattle.qm_make.specs.StatusAndText.{due_status, due_text}
use Rattle.qm_make.specs.inner.Ending.{IsEnd, IsCarriedOut}
use Rattle.qm_make.specs.inner.Writing.{IsWriting, IsAllWritten, StopsInOut, StopsInListing}
use Rattle.qm_make.proofs.Writings.{written_since, stopped_since, listing_stopped_since}

module _ (before after : ShelfState) (command : MapCommand) (files : FileNames) (output : Output) (due : IsOutputOfText before command files output) where
  all_due : IsAllWritten before after files output → ComesOf before after command files output.status output.text
  all_due all = written
      (record { output = output; is_due = due; is_status = refl; is_text = refl; others = all.others; holds_out = all.holds_out; holds_listing = all.holds_listing })
      all.no_fault

  out_unfinished : (fault : ShelfFault) → StopsInOut before after files output fault → IsOutUnfinished before after command files
  out_unfinished fault stops =
      unfinished_of before after files.out_name (IsDueInOut before command files) output.file (output, due, refl) stops.others stops.part

  listing_unfinished : (fault : ShelfFault) (stops : StopsInListing before after files output fault) → IsListingUnfinished before after command files stops.name
  listing_unfinished fault stops = record {
    is_asked = stops.is_asked;
    output = output;
    is_due = due;
    listing = stops.bytes;
    is_listing = stops.is_due;
    others = stops.others;
    holds_out = stops.holds_out;
    part = stops.part;
  }

  fault_due : StopsInOut before after files output Failed ⊎ StopsInListing before after files output Failed → ComesOf before after command files WriteFault write_fault_text
  fault_due (inl stops) = write_fault due.is_meant stops.means (out_unfinished Failed stops)
  fault_due (inr stops) = listing_fault stops.means (listing_unfinished Failed stops)

  memory_due : StopsInOut before after files output Memory ⊎ StopsInListing before after files output Memory → IsCutShort before after command files
  memory_due (inl stops) = record { no_fault = stops.means; unfinished = inl (out_unfinished Memory stops) }
  memory_due (inr stops) = record { no_fault = stops.means; unfinished = inr (stops.name, listing_unfinished Memory stops) }

-- after MAP was read
module _ (before between after : ShelfState) (command : MapCommand) (files : FileNames) (map : MapFile) (output : Output) (tells_are : between.tells ≡ before.tells) (kept : IsKept before between) (no_fault : MetNoFault before between) (means : TextMeans before files.map_name (Ok map)) (made : IsOutputOf command map output) where
  its_due : IsOutputOfText before command files output
  its_due = record { map = map; is_meant = means; is_made = made }

  written_due : IsAllWritten between after files output → ComesOf before after command files output.status output.text
  written_due all = all_due before after command files output its_due (written_since before between after files output tells_are kept no_fault all)

  stops_since : (fault : ShelfFault) → StopsInOut between after files output fault ⊎ StopsInListing between after files output fault → StopsInOut before after files output fault ⊎ StopsInListing before after files output fault
  stops_since fault (inl stops) = inl (stopped_since before between after files output tells_are kept no_fault fault stops)
  stops_since fault (inr stops) = inr (listing_stopped_since before between after files output tells_are kept no_fault fault stops)

  -- writing it ended in one of the ways in which it can
  module _ {T E : Type 0} where
    pub written_ends : (written : Result T ShelfFault) (due : Outcome) → output.status ≡ due_status due → output.text ≡ due_text due → IsWriting between after files output written → (answer : Result Outcome E) → IsEnd written due answer → IsCarriedOut before after command files answer
    written_ends (Ok _) due status text all answer is =
        subst (λ (a : Result Outcome E). IsCarriedOut before after command files a) (sym is)
        (record { due = subst (λ (s : Status). ComesOf before after command files s (due_text due)) status (subst (λ (t : List ℕ). ComesOf before after command files output.status t) text (written_due all)); memory = tt })
    written_ends (Err Failed) due status text stops answer is =
        subst (λ (a : Result Outcome E). IsCarriedOut before after command files a) (sym is)
        (record { due = fault_due before after command files output its_due (stops_since Failed stops); memory = tt })
    written_ends (Err Memory) due status text stops (Ok outcome) is = absurd is
    written_ends (Err Memory) due status text stops (Err fault) is = record { due = tt; memory = memory_due before after command files output its_due (stops_since Memory stops) }

-- ---- where nothing is made

module _ (before after : ShelfState) (command : MapCommand) (files : FileNames) (kept : IsKept before after) where
  -- memory ran out
  pub cut_short : MetNoFault before after → IsCutShort before after command files
  cut_short no_fault = record { no_fault = no_fault; unfinished = inl (kept_unfinished before after files.out_name (IsDueInOut before command files) kept) }

  pub cut_short_on_err : {E : Type 0} → MetNoFault before after → (answer : Result Outcome E) → OnErr answer (IsCutShort before after command files)
  cut_short_on_err no_fault (Ok outcome) = tt
  cut_short_on_err no_fault (Err fault) = cut_short no_fault

  pub map_fault_due : {E : Type 0} (found : MapFault) → TextMeans before files.map_name (Err found) → MetNoFault before after → (answer : Result Outcome E) → IfOk answer (λ outcome. (due_status outcome ≡ status.MapFault) × (due_text outcome ≡ fault_text found)) → IfOk answer (λ outcome. ComesOf before after command files (due_status outcome) (due_text outcome))
  map_fault_due found means no_fault (Ok outcome) (status_is, text_is) =
      subst (λ (s : Status). ComesOf before after command files s (due_text outcome)) (sym status_is)
      (subst (λ (t : List ℕ). ComesOf before after command files status.MapFault t) (sym text_is) (map_fault means kept no_fault))
  map_fault_due found means no_fault (Err fault) is = tt

-- Writing OUT and then FILE.
use Rattle.std.proofs.Common.{◌≡◌, ℕ, List, Option, Some, None, Result, Ok, Err, sym, ◌∙◌, subst, ap, inl, inr}
use Rattle.std.specs.Prelude.{IsTrue}
use Rattle.qm_surroundings.specs.ShelfState.{ShelfState}
use Rattle.qm_surroundings.specs.ShelfChanges.{IsKept, IsKeptElsewhere, MetNoFault}
use Rattle.qm_shelf.specs.FaultMeans.{WriteFaultMeans}
use Rattle.qm_surroundings.specs.WholeFiles.{HoldsExactly, HoldsUnfinished}
use Rattle.qm_shelf.specs.declared.shelf.ShelfFault.{ShelfFault}
use Rattle.qm_shelf.proofs.Counted.{no_fault_twice, write_fault_twice}
use Rattle.qm_commands.specs.FileNames.{FileNames, AreDifferent}
use Rattle.qm_statement.specs.Output.{Output}
use Rattle.qm_statement.specs.Written.{AreOthersKept}
use Rattle.qm_make.specs.inner.Writing.{IsListingWriting, IsWriting, IsAllWritten, StopsInOut, StopsInListing}

-- what is kept beside OUT is kept beside all that is written
kept_beside : (before after : ShelfState) (files : FileNames) (listing : Option (List ℕ)) → IsKeptElsewhere before after files.out_name → AreOthersKept before after files listing
kept_beside before after files None kept name other = kept name (λ same. other same)
kept_beside before after files (Some listing) kept name other = kept name (λ same. other (inl same))

-- there is no listing to be written, or no name for it
out_alone : (before after : ShelfState) (files : FileNames) (output : Output) → IsKeptElsewhere before after files.out_name → (IsTrue before.tells → HoldsExactly after files.out_name output.file) → MetNoFault before after → ((name bytes : List ℕ) → files.listing_name ≡ Some name → output.listing ≡ Some bytes → ⊥) → IsAllWritten before after files output
out_alone before after files output kept holds no_fault none = record {
  others = kept_beside before after files output.listing kept;
  holds_out = holds;
  holds_listing = λ tells name bytes asked due. absurd (none name bytes asked due);
  no_fault = no_fault;
}

-- OUT was written, and FILE after it
module _ (before between after : ShelfState) (files : FileNames) (output : Output) (different : AreDifferent files) (tells_are : between.tells ≡ before.tells) (kept : IsKeptElsewhere before between files.out_name) (holds : IsTrue before.tells → HoldsExactly between files.out_name output.file) (no_fault : MetNoFault before between) (name bytes : List ℕ) (asked : files.listing_name ≡ Some name) (due : output.listing ≡ Some bytes) (kept_then : IsKeptElsewhere between after name) where
  others_kept : AreOthersKept before after files (Some bytes)
  others_kept other apart =
      kept_then other (λ same. apart (inr (asked ∙ ap (λ (n : List ℕ). Some n) (sym same)))) ∙ kept other (λ same. apart (inl same))

  both_kept : AreOthersKept before after files output.listing
  both_kept = subst (λ (listing : Option (List ℕ)). AreOthersKept before after files listing) (sym due) others_kept

  -- FILE is not OUT
  still_holds : IsTrue before.tells → HoldsExactly after files.out_name output.file
  still_holds tells = kept_then files.out_name (different.out_and_listing name asked) ∙ holds tells

  one_name : (other : List ℕ) → files.listing_name ≡ Some other → other ≡ name
  one_name other its = let same : Some other ≡ Some name = sym its ∙ asked in cc

  one_text : (other : List ℕ) → output.listing ≡ Some other → other ≡ bytes
  one_text other its = let same : Some other ≡ Some bytes = sym its ∙ due in cc

  both_written : (IsTrue between.tells → HoldsExactly after name bytes) → MetNoFault between after → IsAllWritten before after files output
  both_written whole none = record {
    others = both_kept;
    holds_out = still_holds;
    holds_listing = λ tells other text its is.
        subst (λ (n : List ℕ). HoldsExactly after n text) (sym (one_name other its))
        (subst (λ (b : List ℕ). HoldsExactly after name b) (sym (one_text text is)) (whole (subst IsTrue (sym tells_are) tells)));
    no_fault = no_fault_twice before between after no_fault none;
  }

  -- FILE was as it was when OUT was written
  part_since : HoldsUnfinished between after name bytes → HoldsUnfinished before after name bytes
  part_since (inl same) = inl (same ∙ kept name (λ is. different.out_and_listing name asked (sym is)))
  part_since (inr part) = inr part

  listing_stopped : (fault : ShelfFault) → (IsTrue between.tells → HoldsUnfinished between after name bytes) → WriteFaultMeans between after name fault → StopsInListing before after files output fault
  listing_stopped fault part means = record {
    name = name;
    is_asked = asked;
    bytes = bytes;
    is_due = due;
    others = both_kept;
    holds_out = still_holds;
    part = λ tells. part_since (part (subst IsTrue (sym tells_are) tells));
    means = write_fault_twice before between after fault name no_fault means;
  }

-- OUT was written, and nothing after it
module _ (before between after : ShelfState) (files : FileNames) (output : Output) (kept : IsKeptElsewhere before between files.out_name) (holds : IsTrue before.tells → HoldsExactly between files.out_name output.file) (no_fault : MetNoFault before between) (kept_then : IsKept between after) (no_fault_then : MetNoFault between after) where
  alone : ((name bytes : List ℕ) → files.listing_name ≡ Some name → output.listing ≡ Some bytes → ⊥) → IsAllWritten before after files output
  alone none =
      out_alone before after files output (λ name apart. kept_then name ∙ kept name apart) (λ tells. kept_then files.out_name ∙ holds tells) (no_fault_twice before between after no_fault no_fault_then) none

  pub unnamed : files.listing_name ≡ None → IsAllWritten before after files output
  unnamed is = alone (λ name bytes asked due. absurd (let e : None ≡ Some name = sym is ∙ asked in cc))

  pub unlisted : output.listing ≡ None → IsAllWritten before after files output
  unlisted is = alone (λ name bytes asked due. absurd (let e : None ≡ Some bytes = sym is ∙ due in cc))

-- OUT was written, and then the listing
module _ {T : Type 0} (before between after : ShelfState) (files : FileNames) (output : Output) (different : AreDifferent files) (tells_are : between.tells ≡ before.tells) (kept : IsKeptElsewhere before between files.out_name) (holds : IsTrue before.tells → HoldsExactly between files.out_name output.file) (no_fault : MetNoFault before between) where
  pub listing_ends : (name : Option (List ℕ)) → files.listing_name ≡ name → (listing : Option (List ℕ)) → output.listing ≡ listing → (result : Result T ShelfFault) → IsListingWriting between after name listing result → IsWriting before after files output result
  listing_ends (Some name) asked (Some bytes) due (Ok done) (kept_then, whole, none) =
      both_written before between after files output different tells_are kept holds no_fault name bytes asked due kept_then whole none
  listing_ends (Some name) asked (Some bytes) due (Err fault) (kept_then, part, means) =
      inr (listing_stopped before between after files output different tells_are kept holds no_fault name bytes asked due kept_then fault part means)
  listing_ends None asked listing due (Ok done) (kept_then, none) = unnamed before between after files output kept holds no_fault kept_then none asked
  listing_ends (Some name) asked None due (Ok done) (kept_then, none) = unlisted before between after files output kept holds no_fault kept_then none due
  listing_ends None asked listing due (Err fault) never = absurd never
  listing_ends (Some name) asked None due (Err fault) never = absurd never

-- MAP was read before
module _ (before between after : ShelfState) (files : FileNames) (output : Output) (tells_are : between.tells ≡ before.tells) (kept : IsKept before between) (no_fault : MetNoFault before between) where
  others_since : (listing : Option (List ℕ)) → AreOthersKept between after files listing → AreOthersKept before after files listing
  others_since listing others name apart = others name apart ∙ kept name

  then_tells : IsTrue before.tells → IsTrue between.tells
  then_tells tells = subst IsTrue (sym tells_are) tells

  unfinished_since : (name bytes : List ℕ) → HoldsUnfinished between after name bytes → HoldsUnfinished before after name bytes
  unfinished_since name bytes (inl same) = inl (same ∙ kept name)
  unfinished_since name bytes (inr part) = inr part

  pub written_since : IsAllWritten between after files output → IsAllWritten before after files output
  written_since all = record {
    others = others_since output.listing all.others;
    holds_out = λ tells. all.holds_out (then_tells tells);
    holds_listing = λ tells. all.holds_listing (then_tells tells);
    no_fault = no_fault_twice before between after no_fault all.no_fault;
  }

  pub stopped_since : (fault : ShelfFault) → StopsInOut between after files output fault → StopsInOut before after files output fault
  stopped_since fault stops = record {
    others = λ name other. stops.others name other ∙ kept name;
    part = λ tells. unfinished_since files.out_name output.file (stops.part (then_tells tells));
    means = write_fault_twice before between after fault files.out_name no_fault stops.means;
  }

  pub listing_stopped_since : (fault : ShelfFault) → StopsInListing between after files output fault → StopsInListing before after files output fault
  listing_stopped_since fault stops = record {
    name = stops.name;
    is_asked = stops.is_asked;
    bytes = stops.bytes;
    is_due = stops.is_due;
    others = others_since output.listing stops.others;
    holds_out = λ tells. stops.holds_out (then_tells tells);
    part = λ tells. unfinished_since stops.name stops.bytes (stops.part (then_tells tells));
    means = write_fault_twice before between after fault stops.name no_fault stops.means;
  }

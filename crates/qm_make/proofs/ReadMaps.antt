-- A text under a name is read in pieces, up to a fault that is certain or to its end.
use Rattle.std.proofs.Common.{◌≡◌, ◌≢◌, ℕ, ◌+◌, ◌≤◌, true, false, List, [], ◌++◌, Option, Some, None, Result, Ok, Err, length, take, drop, take-append-drop, take_all, refl, sym, ap, subst, ◌∙◌, arith}
use Rattle.std.specs.Prelude.{Bool, IsTrue, IfOk, IfErr, OnOk}
use Rattle.qm_lists.proofs.Cases.{by_cases}
use Rattle.qm_lists.specs.Limit.{up_to_one_past}
use Rattle.qm_mapfile.specs.declared.entity.MapFile.{MapFile}
use Rattle.qm_grammar.specs.declared.fault.MapFault.{MapFault}
use Rattle.qm_grammar.specs.declared.fault.MapFault.TheVariants as fault
use Rattle.qm_grammar.specs.Faults.{text_limit}
use Rattle.qm_grammar.specs.Meaning.{Means, IsFaultText}
use Rattle.qm_grammar.specs.Valid.{IsValidMap}
use Rattle.qm_grammar.proofs.Meanings.{one_meaning}
use Rattle.qm_grammar.proofs.ValidMaps.{map_valid}
use Rattle.qm_pieces.specs.Certain.{IsCertain}
use Rattle.qm_pieces.specs.ReadSoFar.{ReadSoFar, IsReaderOf}
use Rattle.qm_pieces.proofs.Certainty.{certain_now}
use Rattle.qm_shelf.specs.declared.shelf.ShelfFault.{ShelfFault}
use Rattle.qm_shelf.specs.declared.shelf.ShelfFault.TheVariants.{Failed, Memory}
use Rattle.qm_shelf.specs.FaultMeans.{ReadFaultMeans}
use Rattle.qm_shelf.proofs.Counted.{stays_twice, no_fault_twice}
use Rattle.qm_shelf.proofs.Pieces.{read_further}
use Rattle.qm_surroundings.specs.Counts.{Rose}
use Rattle.qm_surroundings.specs.HeldFile.{bytes_of_file}
use Rattle.qm_surroundings.specs.ShelfState.{ShelfState, text_under}
use Rattle.qm_surroundings.specs.ShelfChanges.{IsKept, MetNoFault}
use Rattle.qm_statement.specs.TextMeans.{TextMeans}
use Rattle.qm_make.specs.inner.Reading.{IsToldMeaning, HasRead, HasReadEnough, to_its_end, to_a_fault, IsFed, IsFedPiece, IsFinished, IsReading}
use Rattle.qm_make.proofs.ReadMeanings.{text_means}

module _ (tells : Bool) (whole : List ℕ) where
  -- before the first piece
  pub read_none : (reader : Result ReadSoFar MapFault) → IsReaderOf [] reader → HasRead tells whole 0 reader
  read_none reader is = record { text = []; is_front = λ _. refl; is_read = is }

  -- the text ends where it was read to
  pub read_to_end : (done : ℕ) (reader : Result ReadSoFar MapFault) → done ≤ text_limit → (IsTrue tells → length whole ≤ done) → HasRead tells whole done reader → HasReadEnough tells whole reader
  unfolding up_to_one_past
  read_to_end done reader within ends so_far =
      to_its_end so_far.text
      (λ is. so_far.is_front is ∙ take_all done whole (ends is) ∙ sym (take_all (text_limit + 1) whole (omega (arith, ends is, within)))) so_far.is_read

  -- it was read to one byte past its limit
  pub read_to_limit : (done : ℕ) (reader : Result ReadSoFar MapFault) → done ≡ text_limit + 1 → HasRead tells whole done reader → HasReadEnough tells whole reader
  unfolding up_to_one_past
  read_to_limit done reader full so_far =
      to_its_end so_far.text (λ is. so_far.is_front is ∙ ap (λ (n : ℕ). take n whole) full) so_far.is_read

  -- one more piece
  module _ (done count : ℕ) (old : Result ReadSoFar MapFault) (piece : List ℕ) (piece_is : IsTrue tells → piece ≡ take count (drop done whole)) where
    front : (so_far : HasRead tells whole done old) → IsTrue tells → so_far.text ++ piece ≡ take (done + count) whole
    front so_far is =
        read_further whole so_far.text (so_far.text ++ piece) done count (so_far.is_front is) (ap (λ (p : List ℕ). so_far.text ++ p) (piece_is is))

    read_more : (place : ℕ) → place ≡ done + count → (new : Result ReadSoFar MapFault) → ((text : List ℕ) → IsReaderOf text old → IsReaderOf (text ++ piece) new) → HasRead tells whole done old → HasRead tells whole place new
    read_more place is new goes so_far = record {
      text = so_far.text ++ piece;
      is_front = λ its. front so_far its ∙ ap (λ (n : ℕ). take n whole) (sym is);
      is_read = goes so_far.text so_far.is_read;
    }

    pub fed_piece : 1 ≤ count → done + count ≤ text_limit + 1 → (answer : Option ℕ) (new : Result ReadSoFar MapFault) → IsFedPiece old piece (done + count) answer new → IsFed tells whole done old answer new
    fed_piece some within (Some place) new fed = (omega (arith, some, fed.0), omega (arith, within, fed.0), read_more place fed.0 new fed.1)
    fed_piece some within None new fed = λ so_far.
        subst (λ (reader : Result ReadSoFar MapFault). HasReadEnough tells whole reader) (sym fed.1)
        (to_a_fault (so_far.text ++ piece) (done + count) (front so_far) (fed.2 so_far.text so_far.is_read))

-- ---- what was read over several calls

module _ (before between after : ShelfState) (kept : IsKept before between) (no_fault : MetNoFault before between) (name : List ℕ) where
  same_text : text_under between name ≡ text_under before name
  same_text = ap bytes_of_file (kept name)

  pub fed_since : (tells : Bool) (done : ℕ) (old : Result ReadSoFar MapFault) (answer : Option ℕ) (new : Result ReadSoFar MapFault) → IsFed tells (text_under between name) done old answer new → IsFed tells (text_under before name) done old answer new
  fed_since tells done old answer new fed = subst (λ (whole : List ℕ). IsFed tells whole done old answer new) same_text fed

  pub read_fault_twice : (fault : ShelfFault) → ReadFaultMeans between after name fault → ReadFaultMeans before after name fault
  read_fault_twice Failed fails = record {
    rose = subst (λ (count : ℕ). Rose count (after.read_faults name)) (no_fault.reads name) fails.rose;
    writes = stays_twice _ _ _ no_fault.writes fails.writes;
  }
  read_fault_twice Memory same = no_fault_twice before between after no_fault same

-- ---- what was read shows what the text means

module _ (before : ShelfState) (name : List ℕ) where
  -- a fault that is certain is the text's, whatever follows
  certain_means : (text : List ℕ) (place : ℕ) → (IsTrue before.tells → text ≡ take place (text_under before name)) → (found : MapFault) → IsCertain text found → TextMeans before name (Err found)
  certain_means text place front found certain =
      by_cases before.tells
      (λ tells.
      let whole = text_under before name in
      let rest = drop place whole in
      let joined : text ++ rest ≡ whole = ap (λ (t : List ℕ). t ++ rest) (front tells) ∙ take-append-drop place whole in
      let its : Means whole (Err found) = subst (λ (t : List ℕ). IsFaultText t found) joined (certain rest) in
      record { text = whole; is_held = λ _. refl; means = its; only = λ other is. one_meaning whole other (Err found) is its })
      (λ silent.
      let its : Means text (Err found) = certain_now text found certain in
      record {
        text = text;
        is_held = λ tells. absurd (let e : true ≡ false = sym tells ∙ silent in cc);
        means = its;
        only = λ other is. one_meaning text other (Err found) is its;
      })

  pub enough_means : (reader : Result ReadSoFar MapFault) → HasReadEnough before.tells (text_under before name) reader → (answer : Result MapFile MapFault) → ((text : List ℕ) → IsReaderOf text reader → answer ≢ Err fault.Memory → Means text answer) → IfErr reader (λ found. answer ≡ Err found) → answer ≢ Err fault.Memory → TextMeans before name answer
  enough_means reader (to_its_end text front is) answer means stopped apart = text_means before name text answer front (means text is apart)
  enough_means _ (to_a_fault {found} text place front certain) answer means stopped apart =
      subst (λ (m : Result MapFile MapFault). TextMeans before name m) (sym stopped)
      (certain_means text place front found (certain (λ same. apart (stopped ∙ ap (λ (f : MapFault). Err f) same))))

-- ---- what is told

-- a map that is meant is valid
pub meant_valid : (before : ShelfState) (name : List ℕ) (meaning : Result MapFile MapFault) → TextMeans before name meaning → IfOk meaning IsValidMap
meant_valid before name (Ok map) means = map_valid means.text map means.means
meant_valid before name (Err found) means = tt

module _ (meaning : Result MapFile MapFault) where
  pub told_means : (before : ShelfState) (name : List ℕ) (answer : Result (Result MapFile MapFault) ShelfFault) → IsToldMeaning meaning answer → (meaning ≢ Err fault.Memory → TextMeans before name meaning) → IfOk answer (λ m. TextMeans before name m)
  told_means before name (Ok told) is means = subst (λ (m : Result MapFile MapFault). TextMeans before name m) (sym is.0) (means is.1)
  told_means before name (Err found) is means = tt

  pub told_err : (answer : Result (Result MapFile MapFault) ShelfFault) → IsToldMeaning meaning answer → IfErr answer (λ found. found ≡ Memory)
  told_err (Ok told) is = tt
  told_err (Err found) is = is

-- ---- what was read is told, or a fault

module _ {T : Type 0} (before : ShelfState) (name : List ℕ) (reader : Result ReadSoFar MapFault) where
  pub finished_means : (fed : Result T ShelfFault) → OnOk fed (HasReadEnough before.tells (text_under before name) reader) → (answer : Result (Result MapFile MapFault) ShelfFault) → IsFinished reader fed answer → IfOk answer (λ meaning. TextMeans before name meaning)
  finished_means (Ok _) enough answer is = (is before name enough).0
  finished_means (Err fault) enough answer is =
      subst (λ (a : Result (Result MapFile MapFault) ShelfFault). IfOk a (λ meaning. TextMeans before name meaning)) (sym is) tt

module _ {T : Type 0} (before after : ShelfState) (name : List ℕ) (reader : Result ReadSoFar MapFault) where
  pub finished_reading : (fed : Result T ShelfFault) → OnOk fed (HasReadEnough before.tells (text_under before name) reader) → IsReading before after name fed → (answer : Result (Result MapFile MapFault) ShelfFault) → IsFinished reader fed answer → IsReading before after name answer
  finished_reading (Ok _) enough reading (Ok meaning) is = record { kept = reading.kept; ok = reading.ok; err = tt }
  finished_reading (Ok _) enough reading (Err fault) is = record {
    kept = reading.kept;
    ok = tt;
    err = subst (λ (f : ShelfFault). ReadFaultMeans before after name f) (sym (is before name enough).1) reading.ok;
  }
  finished_reading (Err fault) enough reading answer is =
      subst (λ (a : Result (Result MapFile MapFault) ShelfFault). IsReading before after name a) (sym is) (record { kept = reading.kept; ok = tt; err = reading.err })

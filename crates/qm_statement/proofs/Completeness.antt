-- How a command ends that meets no fault of the surroundings.
use Rattle.std.proofs.Common.{◌≡◌, ℕ, List, Ok, Err, Result, refl, sym, ◌∙◌, subst, inl, inr, arith}
use Rattle.std.specs.Prelude.{IsTrue}
use Rattle.qm_surroundings.specs.Counts.{Rose}
use Rattle.qm_surroundings.specs.Surroundings.{Surroundings}
use Rattle.qm_surroundings.specs.ShelfState.{text_under}
use Rattle.qm_mapfile.specs.declared.entity.MapFile.{MapFile}
use Rattle.qm_grammar.specs.declared.fault.MapFault.{MapFault}
use Rattle.qm_grammar.specs.Meaning.{IsMapText}
use Rattle.qm_formats.specs.FileLayout.{IsFileOf}
use Rattle.qm_formats.specs.FileParts.{FileFaultKind}
use Rattle.qm_formats.specs.TreeFaults.{IsFaultOfFileBytes}
use Rattle.qm_formats.specs.TreeFile.{TreeFile}
use Rattle.qm_formats.proofs.FileFaults.{no_fault_of_file}
use Rattle.qm_formats.proofs.WholeFile.{one_file_of}
use Rattle.qm_answers.specs.AllAnswers.{AreAnswered, IsFirstRefused}
use Rattle.qm_answers.specs.declared.query_fault.QueryFault.{QueryFault}
use Rattle.qm_answers.proofs.Told.{not_both}
use Rattle.qm_commands.specs.declared.map_command.MapCommand.{MapCommand}
use Rattle.qm_commands.specs.declared.map_command.MapCommand.TheVariants.{Compile, Format}
use Rattle.qm_commands.specs.declared.query.Query.{Query}
use Rattle.qm_commands.specs.FileNames.{FileNames}
use Rattle.qm_commands.specs.Order.{Order, of_map, of_tree, of_rooms, of_upgrade}
use Rattle.qm_commands.specs.Words.{AreWordsOf}
use Rattle.qm_statement.specs.declared.status.Status.{Status}
use Rattle.qm_statement.specs.declared.status.Status.TheVariants.{Done, Usage, Leak, MapFault as TextFault, ReadFault, WriteFault, Memory, TreeFault, QueryRefused}
use Rattle.qm_statement.specs.ComesOf.{ComesOf, read_fault, map_fault, write_fault, listing_fault, written}
use Rattle.qm_statement.specs.Complete.{MetNone, MayEndWhereNoneMet, NoLeakStops, NothingStops, EndsDoneOrShortOfMemory, IsComplete}
use Rattle.qm_statement.specs.DemoComesOf.{DemoComesOf, summed_up}
use Rattle.qm_statement.specs.HoldsTree.{HoldsTreeFile, HoldsTreeFault}
use Rattle.qm_statement.specs.InspectComesOf.{InspectComesOf, unread, no_tree_file, refused, answered}
use Rattle.qm_statement.specs.Output.{Output, IsOutputOf}
use Rattle.qm_statement.specs.Run.{OrderComesOf, Due, usage, command, Answers}
use Rattle.qm_statement.specs.TextMeans.{TextMeans}
use Rattle.qm_statement.specs.UpgradeComesOf.{UpgradeComesOf, tree_unread, tree_fault, unwritten, upgrade_written}

-- ---- what a command makes of a map is done, or leaks

product_ends : (its : MapCommand) (files : FileNames) (map : MapFile) (output : Output) → IsOutputOf its map output → MayEndWhereNoneMet output.status (of_map its files)
unfolding IsOutputOf
product_ends (Compile options listed) files map output (inl tight) = subst (λ (s : Status). MayEndWhereNoneMet s (of_map (Compile options listed) files)) (sym tight.is_status) tt
product_ends (Compile options listed) files map output (inr leaks) = subst (λ (s : Status). MayEndWhereNoneMet s (of_map (Compile options listed) files)) (sym leaks.is_status) tt
product_ends Format files map output made = subst (λ (s : Status). MayEndWhereNoneMet s (of_map Format files)) (sym made.is_status) tt

-- where no leak stops the command, it is done
product_done : (its : MapCommand) (map : MapFile) (output : Output) → NoLeakStops its map → IsOutputOf its map output → EndsDoneOrShortOfMemory output.status
unfolding IsOutputOf
product_done (Compile options listed) map output none (inl tight) = subst EndsDoneOrShortOfMemory (sym tight.is_status) tt
product_done (Compile options listed) map output none (inr leaks) =
    let is = leaks.is_compiled in
    absurd (none leaks.file.tree is.origins is.is_built is.is_leak.origin is.is_leak.first.listed is.is_leak.first.leaks)
product_done Format map output none made = subst EndsDoneOrShortOfMemory (sym made.is_status) tt

-- ---- what comes of a command that meets no fault

module _ (before after : Surroundings) where
  map_ends : (its : MapCommand) (files : FileNames) → MetNone before after (of_map its files) → (status : Status) (text : List ℕ) → ComesOf before.shelf after.shelf its files status text → MayEndWhereNoneMet status (of_map its files)
  map_ends its files met status text (read_fault failed kept) = absurd (met.reading files.map_name refl failed.rose)
  map_ends its files met status text (map_fault means kept unmet) = tt
  map_ends its files met status text (write_fault means failed unfinished) = absurd (met.writing files.out_name (inl refl) failed.rose)
  map_ends its files met status text (listing_fault {name = name} failed unfinished) = absurd (met.writing name (inr unfinished.is_asked) failed.rose)
  map_ends its files met status text (written w unmet) =
      subst (λ (s : Status). MayEndWhereNoneMet s (of_map its files)) w.is_status (product_ends its files w.is_due.map w.output w.is_due.is_made)

  tree_ends : (tree_name : List ℕ) (queries : List Query) → MetNone before after (of_tree tree_name queries) → (status : Status) (text : List ℕ) → InspectComesOf before.shelf after.shelf tree_name queries status text → MayEndWhereNoneMet status (of_tree tree_name queries)
  tree_ends tree_name queries met status text (unread failed kept) = absurd (met.reading tree_name refl failed.rose)
  tree_ends tree_name queries met status text (no_tree_file means untouched) = tt
  tree_ends tree_name queries met status text (refused means first untouched) = tt
  tree_ends tree_name queries met status text (answered means are untouched) = tt

  rooms_end : (rooms number : ℕ) (status : Status) (text : List ℕ) → DemoComesOf before.shelf after.shelf rooms number status text → MayEndWhereNoneMet status (of_rooms rooms number)
  rooms_end rooms number status text (summed_up is untouched) = tt

  upgrade_ends : (tree_name out_name : List ℕ) → MetNone before after (of_upgrade tree_name out_name) → (status : Status) (text : List ℕ) → UpgradeComesOf before.shelf after.shelf tree_name out_name status text → MayEndWhereNoneMet status (of_upgrade tree_name out_name)
  upgrade_ends tree_name out_name met status text (tree_unread failed kept) = absurd (met.reading tree_name refl failed.rose)
  upgrade_ends tree_name out_name met status text (tree_fault means untouched) = tt
  upgrade_ends tree_name out_name met status text (unwritten means failed unfinished) = absurd (met.writing out_name refl failed.rose)
  upgrade_ends tree_name out_name met status text (upgrade_written due written_alone unmet) = tt

  ends_of : (its : Order) → MetNone before after its → (status : Status) (text : List ℕ) → OrderComesOf before.shelf after.shelf its status text → MayEndWhereNoneMet status its
  ends_of (of_map its files) met status text comes = map_ends its files met status text comes
  ends_of (of_tree tree_name queries) met status text comes = tree_ends tree_name queries met status text comes
  ends_of (of_rooms rooms number) met status text comes = rooms_end rooms number status text comes
  ends_of (of_upgrade tree_name out_name) met status text comes = upgrade_ends tree_name out_name met status text comes

-- ---- what comes of a command that meets no fault, and that nothing stops

module _ (before after : Surroundings) (tells : IsTrue before.shelf.tells) where
  module _ (its : MapCommand) (files : FileNames) (met : MetNone before after (of_map its files)) (map : MapFile) (means : IsMapText (text_under before.shelf files.map_name) map) (tight : NoLeakStops its map) where
    -- the text means this map and nothing else
    one_meaning : (meaning : Result MapFile MapFault) → TextMeans before.shelf files.map_name meaning → Ok map ≡ meaning
    one_meaning meaning its_text = its_text.only (Ok map) (subst (λ (text : List ℕ). IsMapText text map) (sym (its_text.is_held tells)) means)

    map_done : (status : Status) (text : List ℕ) → ComesOf before.shelf after.shelf its files status text → EndsDoneOrShortOfMemory status
    map_done status text (read_fault failed kept) = absurd (met.reading files.map_name refl failed.rose)
    map_done status text (map_fault {found = found} fails kept unmet) = absurd (let same : Ok map ≡ Err found = one_meaning (Err found) fails in cc)
    map_done status text (write_fault its_means failed unfinished) = absurd (met.writing files.out_name (inl refl) failed.rose)
    map_done status text (listing_fault {name = name} failed unfinished) = absurd (met.writing name (inr unfinished.is_asked) failed.rose)
    map_done status text (written w unmet) =
        let due = w.is_due in
        let same : Ok map ≡ Ok due.map = one_meaning (Ok due.map) due.is_meant in
        let one : map ≡ due.map = cc in
        subst EndsDoneOrShortOfMemory w.is_status
        (product_done its due.map w.output (subst (λ (m : MapFile). NoLeakStops its m) one tight) due.is_made)

  module _ (tree_name : List ℕ) (file : TreeFile) (holds : HoldsTreeFile before.shelf tree_name file) where
    -- the bytes are those of this tree file, and have no fault
    one_tree : (other : TreeFile) → HoldsTreeFile before.shelf tree_name other → file ≡ other
    one_tree other means = one_file_of holds.bytes file other holds.is_file (subst (λ (bytes : List ℕ). IsFileOf bytes other) (means.is_held tells ∙ sym (holds.is_held tells)) means.is_file)

    no_fault_of_tree : (kind : FileFaultKind) (place : ℕ) → HoldsTreeFault before.shelf tree_name kind place → ⊥
    no_fault_of_tree kind place means = no_fault_of_file holds.bytes file kind place holds.is_file (subst (λ (bytes : List ℕ). IsFaultOfFileBytes bytes kind place) (means.is_held tells ∙ sym (holds.is_held tells)) means.is_fault)

    no_refusal : (queries : List Query) (lines : List ℕ) → AreAnswered file queries lines → (other : TreeFile) (number : ℕ) (fault : QueryFault) → HoldsTreeFile before.shelf tree_name other → IsFirstRefused other 1 queries number fault → ⊥
    no_refusal queries lines are other number fault means first =
        not_both other queries lines 1 number fault (subst (λ (f : TreeFile). AreAnswered f queries lines) (one_tree other means) are) first

    tree_done : (queries : List Query) (lines : List ℕ) → AreAnswered file queries lines → MetNone before after (of_tree tree_name queries) → (status : Status) (text : List ℕ) → InspectComesOf before.shelf after.shelf tree_name queries status text → EndsDoneOrShortOfMemory status
    tree_done queries lines are met status text (unread failed kept) = absurd (met.reading tree_name refl failed.rose)
    tree_done queries lines are met status text (no_tree_file {kind = kind} {place = place} means untouched) = absurd (no_fault_of_tree kind place means)
    tree_done queries lines are met status text (refused {file = other} {number = number} {fault = fault} means first untouched) = absurd (no_refusal queries lines are other number fault means first)
    tree_done queries lines are met status text (answered means its untouched) = tt

    upgrade_done : (out_name : List ℕ) → MetNone before after (of_upgrade tree_name out_name) → (status : Status) (text : List ℕ) → UpgradeComesOf before.shelf after.shelf tree_name out_name status text → EndsDoneOrShortOfMemory status
    upgrade_done out_name met status text (tree_unread failed kept) = absurd (met.reading tree_name refl failed.rose)
    upgrade_done out_name met status text (tree_fault {kind = kind} {place = place} means untouched) = absurd (no_fault_of_tree kind place means)
    upgrade_done out_name met status text (unwritten means failed unfinished) = absurd (met.writing out_name refl failed.rose)
    upgrade_done out_name met status text (upgrade_written due written_alone unmet) = tt

  rooms_done : (rooms number : ℕ) (status : Status) (text : List ℕ) → DemoComesOf before.shelf after.shelf rooms number status text → EndsDoneOrShortOfMemory status
  rooms_done rooms number status text (summed_up is untouched) = tt

  done_of : (its : Order) → MetNone before after its → NothingStops before.shelf its → (status : Status) (text : List ℕ) → OrderComesOf before.shelf after.shelf its status text → EndsDoneOrShortOfMemory status
  done_of (of_map its files) met free status text comes = map_done its files met free.0 free.1 free.2 status text comes
  done_of (of_tree tree_name queries) met free status text comes = tree_done tree_name free.0 free.1 queries free.2 free.3 met status text comes
  done_of (of_rooms rooms number) met free status text comes = rooms_done rooms number status text comes
  done_of (of_upgrade tree_name out_name) met free status text comes = upgrade_done tree_name free.0 free.1 out_name met status text comes

-- ---- words that are one command at most

module _ (words : List (List ℕ)) (before after : Surroundings) (one : (order other : Order) → AreWordsOf order words → AreWordsOf other words → order ≡ other) where
  module _ (its : Order) (is : AreWordsOf its words) (met : MetNone before after its) where
    -- it is what comes of the words
    comes : (status : Status) (text : List ℕ) → Due words before.shelf after.shelf status text → OrderComesOf before.shelf after.shelf its status text
    comes status text (usage none untouched) = absurd (none its is)
    comes status text (command other other_is other_comes) =
        subst (λ (order : Order). OrderComesOf before.shelf after.shelf order status text) (one other its other_is is) other_comes

    ends_due : (status : Status) (text : List ℕ) → Due words before.shelf after.shelf status text → MayEndWhereNoneMet status its
    ends_due status text due = ends_of before after its met status text (comes status text due)

    ends_well : (status : Status) → Answers words before after status → MayEndWhereNoneMet status its
    unfolding Answers
    ends_well Done answers = tt
    ends_well Usage answers = ends_due Usage answers.0 answers.1
    ends_well Leak answers = ends_due Leak answers.0 answers.1
    ends_well TextFault answers = ends_due TextFault answers.0 answers.1
    ends_well ReadFault answers = ends_due ReadFault answers.0 answers.1
    ends_well WriteFault (inl answers) = ends_due WriteFault answers.0 answers.1
    ends_well WriteFault (inr fails) = absurd (met.printing fails.0)
    ends_well Memory answers = tt
    ends_well TreeFault answers = ends_due TreeFault answers.0 answers.1
    ends_well QueryRefused answers = ends_due QueryRefused answers.0 answers.1

  module _ (its : Order) (is : AreWordsOf its words) (met : MetNone before after its) (tells : IsTrue before.shelf.tells) (free : NothingStops before.shelf its) where
    done_due : (status : Status) (text : List ℕ) → Due words before.shelf after.shelf status text → EndsDoneOrShortOfMemory status
    done_due status text due = done_of before after tells its met free status text (comes its is met status text due)

    is_done : (status : Status) → Answers words before after status → EndsDoneOrShortOfMemory status
    unfolding Answers
    is_done Done answers = tt
    is_done Usage answers = done_due Usage answers.0 answers.1
    is_done Leak answers = done_due Leak answers.0 answers.1
    is_done TextFault answers = done_due TextFault answers.0 answers.1
    is_done ReadFault answers = done_due ReadFault answers.0 answers.1
    is_done WriteFault (inl answers) = done_due WriteFault answers.0 answers.1
    is_done WriteFault (inr fails) = absurd (met.printing fails.0)
    is_done Memory answers = tt
    is_done TreeFault answers = done_due TreeFault answers.0 answers.1
    is_done QueryRefused answers = done_due QueryRefused answers.0 answers.1

  pub complete : (status : Status) → Answers words before after status → IsComplete words before after status
  complete status answers = record {
    ends = λ its is met. ends_well its is met status answers;
    done = λ tells its is met free. is_done its is met tells free status answers;
  }

-- where memory ran out, nothing more is promised
pub complete_short : (words : List (List ℕ)) (before after : Surroundings) → IsComplete words before after Memory
complete_short words before after = record {
  ends = λ its is met. tt;
  done = λ tells its is met free. tt;
}

-- a count that is 0 after a call did not rise
pub never_rose : Rose 0 0 → ⊥
never_rose (inl less) = absurd (omega (arith, less))
never_rose (inr end) = absurd (omega (arith, end))

-- A run leaves the file that it reads as it was, since each file that it writes has another name.
use Rattle.std.proofs.Common.{◌≡◌, ◌≢◌, ◌⊎◌, ℕ, List, Option, Some, None, refl, sym, subst, inl, inr}
use Rattle.qm_surroundings.specs.ShelfState.{ShelfState}
use Rattle.qm_surroundings.specs.Surroundings.{Surroundings}
use Rattle.qm_surroundings.specs.WholeFiles.{HoldsTheSame}
use Rattle.qm_commands.specs.declared.map_command.MapCommand.{MapCommand}
use Rattle.qm_commands.specs.declared.map_command.MapCommand.TheVariants.{Compile, Format}
use Rattle.qm_commands.specs.declared.query.Query.{Query}
use Rattle.qm_commands.specs.FileNames.{FileNames, AreDifferent}
use Rattle.qm_commands.specs.Order.{Order, of_map, of_tree, of_rooms, of_upgrade}
use Rattle.qm_commands.specs.Words.{AreWordsOf}
use Rattle.qm_statement.specs.declared.status.Status.{Status}
use Rattle.qm_statement.specs.declared.status.Status.TheVariants.{Done, Usage, Leak, MapFault as TextFault, ReadFault, WriteFault, Memory, TreeFault, QueryRefused}
use Rattle.qm_statement.specs.ComesOf.{ComesOf, IsOutUnfinished, IsListingUnfinished, read_fault, map_fault, write_fault, listing_fault, written}
use Rattle.qm_statement.specs.Complete.{IsReadBy}
use Rattle.qm_statement.specs.InspectComesOf.{InspectComesOf, unread, no_tree_file, refused, answered}
use Rattle.qm_statement.specs.KeptFile.{KeepsWhatItReads}
use Rattle.qm_statement.specs.Run.{OrderComesOf, IsStopped, Due, usage, command, IsCommandStopped, Answers}
use Rattle.qm_statement.specs.Untouched.{IsUntouched}
use Rattle.qm_statement.specs.UpgradeComesOf.{UpgradeComesOf, tree_unread, tree_fault, unwritten, upgrade_written}
use Rattle.qm_statement.specs.Written.{IsWrittenTo}

-- ---- MAP

-- nothing is written under the name of MAP
apart_from_map : (files : FileNames) → AreDifferent files → (listing : Option (List ℕ)) → IsWrittenTo files listing files.map_name → ⊥
apart_from_map files different None same = different.map_and_out same
apart_from_map files different (Some listing) (inl same) = different.map_and_out same
apart_from_map files different (Some listing) (inr is) = different.map_and_listing files.map_name is refl

module _ (before after : ShelfState) where
  module _ (its : MapCommand) (files : FileNames) (different : AreDifferent files) where
    map_kept : (status : Status) (text : List ℕ) → ComesOf before after its files status text → HoldsTheSame before after files.map_name
    map_kept status text (read_fault failed kept) = kept files.map_name
    map_kept status text (map_fault means kept unmet) = kept files.map_name
    map_kept status text (write_fault means failed unfinished) = unfinished.others files.map_name different.map_and_out
    map_kept status text (listing_fault failed unfinished) = unfinished.others files.map_name (apart_from_map files different unfinished.output.listing)
    map_kept status text (written w unmet) = w.others files.map_name (apart_from_map files different w.output.listing)

    map_kept_in_part : IsOutUnfinished before after its files ⊎ ((name : List ℕ) × IsListingUnfinished before after its files name) → HoldsTheSame before after files.map_name
    map_kept_in_part (inl unfinished) = unfinished.others files.map_name different.map_and_out
    map_kept_in_part (inr unfinished) = unfinished.1.others files.map_name (apart_from_map files different unfinished.1.output.listing)

  -- ---- TREE

  tree_kept : (tree_name : List ℕ) (queries : List Query) (status : Status) (text : List ℕ) → InspectComesOf before after tree_name queries status text → HoldsTheSame before after tree_name
  tree_kept tree_name queries status text (unread failed kept) = kept tree_name
  tree_kept tree_name queries status text (no_tree_file means untouched) = untouched.kept tree_name
  tree_kept tree_name queries status text (refused means first untouched) = untouched.kept tree_name
  tree_kept tree_name queries status text (answered means are untouched) = untouched.kept tree_name

  upgrade_kept : (tree_name out_name : List ℕ) → tree_name ≢ out_name → (status : Status) (text : List ℕ) → UpgradeComesOf before after tree_name out_name status text → HoldsTheSame before after tree_name
  upgrade_kept tree_name out_name different status text (tree_unread failed kept) = kept tree_name
  upgrade_kept tree_name out_name different status text (tree_fault means untouched) = untouched.kept tree_name
  upgrade_kept tree_name out_name different status text (unwritten means failed unfinished) = unfinished.others tree_name different
  upgrade_kept tree_name out_name different status text (upgrade_written due written_alone unmet) = written_alone.others tree_name different

  -- ---- each command

  module _ (words : List (List ℕ)) (name : List ℕ) where
    comes_kept : (its : Order) → AreWordsOf its words → IsReadBy its name → (status : Status) (text : List ℕ) → OrderComesOf before after its status text → HoldsTheSame before after name
    comes_kept (of_map (Compile options listed) files) are reads status text comes = subst (HoldsTheSame before after) (sym reads) (map_kept (Compile options listed) files are.different status text comes)
    comes_kept (of_map Format files) are reads status text comes = subst (HoldsTheSame before after) (sym reads) (map_kept Format files are.different status text comes)
    comes_kept (of_tree tree_name queries) are reads status text comes = subst (HoldsTheSame before after) (sym reads) (tree_kept tree_name queries status text comes)
    comes_kept (of_rooms rooms number) are reads status text comes = absurd reads
    comes_kept (of_upgrade tree_name out_name) are reads status text comes = subst (HoldsTheSame before after) (sym reads) (upgrade_kept tree_name out_name are.different status text comes)

    -- where memory ran out on its way
    stopped_kept : (its : Order) → AreWordsOf its words → IsReadBy its name → IsStopped its before after → HoldsTheSame before after name
    stopped_kept (of_map (Compile options listed) files) are reads stopped = subst (HoldsTheSame before after) (sym reads) (map_kept_in_part (Compile options listed) files are.different stopped.unfinished)
    stopped_kept (of_map Format files) are reads stopped = subst (HoldsTheSame before after) (sym reads) (map_kept_in_part Format files are.different stopped.unfinished)
    stopped_kept (of_tree tree_name queries) are reads stopped = stopped.kept name
    stopped_kept (of_rooms rooms number) are reads stopped = absurd reads
    stopped_kept (of_upgrade tree_name out_name) are reads stopped = subst (HoldsTheSame before after) (sym reads) (stopped.unfinished.others tree_name are.different)

-- ---- words that are one command at most

module _ (words : List (List ℕ)) (before after : Surroundings) (one : (order other : Order) → AreWordsOf order words → AreWordsOf other words → order ≡ other) where
  module _ (its : Order) (name : List ℕ) (are : AreWordsOf its words) (reads : IsReadBy its name) where
    due_kept : (status : Status) (text : List ℕ) → Due words before.shelf after.shelf status text → HoldsTheSame before.shelf after.shelf name
    due_kept status text (usage none untouched) = untouched.kept name
    due_kept status text (command other other_are comes) =
        comes_kept before.shelf after.shelf words name its are reads status text
        (subst (λ (order : Order). OrderComesOf before.shelf after.shelf order status text) (one other its other_are are) comes)

    short_kept : IsUntouched before.shelf after.shelf ⊎ IsCommandStopped words before.shelf after.shelf → HoldsTheSame before.shelf after.shelf name
    short_kept (inl untouched) = untouched.kept name
    short_kept (inr stopped) =
        stopped_kept before.shelf after.shelf words name its are reads
        (subst (λ (order : Order). IsStopped order before.shelf after.shelf) (one stopped.0 its stopped.1 are) stopped.2)

    is_kept : (status : Status) → Answers words before after status → HoldsTheSame before.shelf after.shelf name
    unfolding Answers
    is_kept Done answers = due_kept Done answers.0 answers.1
    is_kept Usage answers = due_kept Usage answers.0 answers.1
    is_kept Leak answers = due_kept Leak answers.0 answers.1
    is_kept TextFault answers = due_kept TextFault answers.0 answers.1
    is_kept ReadFault answers = due_kept ReadFault answers.0 answers.1
    is_kept WriteFault (inl answers) = due_kept WriteFault answers.0 answers.1
    is_kept WriteFault (inr fails) = due_kept fails.1.0 fails.1.1 fails.1.2
    is_kept Memory (inl short) = short_kept short.0
    is_kept Memory (inr prints) = due_kept prints.1.0 prints.1.1 prints.1.2
    is_kept TreeFault answers = due_kept TreeFault answers.0 answers.1
    is_kept QueryRefused answers = due_kept QueryRefused answers.0 answers.1

  pub kept_by : (status : Status) → Answers words before after status → KeepsWhatItReads words before.shelf after.shelf
  kept_by status answers its name are reads = is_kept its name are reads status answers

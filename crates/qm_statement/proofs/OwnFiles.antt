-- However a command ends, it changes its own files alone.
use Rattle.std.proofs.Common.{◌≡◌, ℕ, List, Option, Some, None, sym, ◌∙◌, subst, inl, inr}
use Rattle.qm_surroundings.specs.Surroundings.{Surroundings}
use Rattle.qm_surroundings.specs.ShelfState.{ShelfState}
use Rattle.qm_mapfile.specs.declared.entity.MapFile.{MapFile}
use Rattle.qm_commands.specs.declared.map_command.MapCommand.{MapCommand}
use Rattle.qm_commands.specs.declared.map_command.MapCommand.TheVariants.{Compile, Format}
use Rattle.qm_commands.specs.declared.query.Query.{Query}
use Rattle.qm_commands.specs.FileNames.{FileNames}
use Rattle.qm_commands.specs.Order.{Order, of_map, of_tree, of_rooms, of_upgrade}
use Rattle.qm_commands.specs.Words.{AreWordsOf}
use Rattle.qm_statement.specs.declared.status.Status.{Status}
use Rattle.qm_statement.specs.declared.status.Status.TheVariants.{Done, Usage, Leak, MapFault as TextFault, ReadFault, WriteFault, Memory, TreeFault, QueryRefused}
use Rattle.qm_statement.specs.ComesOf.{ComesOf, IsOutUnfinished, IsListingUnfinished, IsWritten, IsCutShort, read_fault, map_fault, write_fault, listing_fault, written}
use Rattle.qm_statement.specs.Complete.{IsWrittenBy}
use Rattle.qm_statement.specs.DemoComesOf.{DemoComesOf, summed_up}
use Rattle.qm_statement.specs.InspectComesOf.{InspectComesOf, unread, no_tree_file, refused, answered}
use Rattle.qm_statement.specs.Output.{IsOutputOf}
use Rattle.qm_statement.specs.OwnFiles.{MayChange, ChangesOwnFilesAlone}
use Rattle.qm_statement.specs.Run.{OrderComesOf, IsStopped, Due, usage, command, IsPartlyReported, EndsShortOfMemoryBefore, Answers}
use Rattle.qm_statement.specs.UpgradeComesOf.{UpgradeComesOf, tree_unread, tree_fault, unwritten, upgrade_written}
use Rattle.qm_statement.specs.Written.{IsWrittenTo, AreOthersKept}

-- what may have changed is what the command writes
written_by : (status : Status) (order : Order) (name : List ℕ) → MayChange status order name → IsWrittenBy order name
written_by Done order name may = may
written_by Usage order name may = absurd may
written_by Leak (of_map its files) name may = inl may
written_by Leak (of_tree tree_name queries) name may = absurd may
written_by Leak (of_rooms rooms number) name may = absurd may
written_by Leak (of_upgrade tree_name out_name) name may = absurd may
written_by TextFault order name may = absurd may
written_by ReadFault order name may = absurd may
written_by WriteFault order name may = may
written_by Memory order name may = may
written_by TreeFault order name may = absurd may
written_by QueryRefused order name may = absurd may

module _ (before after : ShelfState) (name : List ℕ) where
  abbrev IsSame : Type 0
  IsSame = after.held name ≡ before.held name

  -- ---- `compile` and `format`

  module _ (its : MapCommand) (files : FileNames) where
    abbrev own : Order
    own = of_map its files

    -- it is written where a listing is written, or none
    written_to : (listing : Option (List ℕ)) → IsWrittenTo files listing name → IsWrittenBy own name
    written_to None is = inl is
    written_to (Some bytes) is = is

    unless_written : (listing : Option (List ℕ)) → AreOthersKept before after files listing → (IsWrittenBy own name → ⊥) → IsSame
    unless_written listing others none = others name (λ is. none (written_to listing is))

    unless_out : IsOutUnfinished before after its files → (IsWrittenBy own name → ⊥) → IsSame
    unless_out unfinished none = unfinished.others name (λ same. none (inl same))

    unless_listing : (listing_name : List ℕ) → IsListingUnfinished before after its files listing_name → (IsWrittenBy own name → ⊥) → IsSame
    unless_listing listing_name unfinished none = unless_written unfinished.output.listing unfinished.others none

    module _ (status : Status) (text : List ℕ) (w : IsWritten before after its files status text) where
      done_stays : w.output.status ≡ Done → (MayChange status own name → ⊥) → IsSame
      done_stays done none =
          unless_written w.output.listing w.others (λ is. none (subst (λ (s : Status). MayChange s own name) (sym done ∙ w.is_status) is))

      leak_stays : w.output.status ≡ Leak → w.output.listing ≡ None → (MayChange status own name → ⊥) → IsSame
      leak_stays leaks unlisted none =
          subst (λ (listing : Option (List ℕ)). AreOthersKept before after files listing) unlisted w.others name
          (λ same. none (subst (λ (s : Status). MayChange s own name) (sym leaks ∙ w.is_status) same))

      made_stays : (same : MapCommand) (map : MapFile) → IsOutputOf same map w.output → (MayChange status own name → ⊥) → IsSame
      unfolding IsOutputOf
      made_stays (Compile options listed) map (inl tight) none = done_stays tight.is_status none
      made_stays (Compile options listed) map (inr leaks) none = leak_stays leaks.is_status leaks.is_not_listed none
      made_stays Format map made none = done_stays made.is_status none

    written_stays : (status : Status) (text : List ℕ) → IsWritten before after its files status text → (MayChange status own name → ⊥) → IsSame
    written_stays status text w none = made_stays status text w its w.is_due.map w.is_due.is_made none

    map_stays : (status : Status) (text : List ℕ) → ComesOf before after its files status text → (MayChange status own name → ⊥) → IsSame
    map_stays status text (read_fault failed kept) none = kept name
    map_stays status text (map_fault means kept unmet) none = kept name
    map_stays status text (write_fault means failed unfinished) none = unless_out unfinished none
    map_stays status text (listing_fault {name = listing_name} failed unfinished) none = unless_listing listing_name unfinished none
    map_stays status text (written w unmet) none = written_stays status text w none

    map_stopped_stays : IsCutShort before after its files → (IsWrittenBy own name → ⊥) → IsSame
    map_stopped_stays stopped none = elim stopped.unfinished [
      | inl unfinished ↦ unless_out unfinished none
      | inr unfinished ↦ unless_listing unfinished.0 unfinished.1 none
    ]

  -- ---- the other commands

  tree_stays : (tree_name : List ℕ) (queries : List Query) (status : Status) (text : List ℕ) → InspectComesOf before after tree_name queries status text → IsSame
  tree_stays tree_name queries status text (unread failed kept) = kept name
  tree_stays tree_name queries status text (no_tree_file means untouched) = untouched.kept name
  tree_stays tree_name queries status text (refused means first untouched) = untouched.kept name
  tree_stays tree_name queries status text (answered means are untouched) = untouched.kept name

  rooms_stay : (rooms number : ℕ) (status : Status) (text : List ℕ) → DemoComesOf before after rooms number status text → IsSame
  rooms_stay rooms number status text (summed_up is untouched) = untouched.kept name

  upgrade_stays : (tree_name out_name : List ℕ) (status : Status) (text : List ℕ) → UpgradeComesOf before after tree_name out_name status text → (MayChange status (of_upgrade tree_name out_name) name → ⊥) → IsSame
  upgrade_stays tree_name out_name status text (tree_unread failed kept) none = kept name
  upgrade_stays tree_name out_name status text (tree_fault means untouched) none = untouched.kept name
  upgrade_stays tree_name out_name status text (unwritten means failed unfinished) none = unfinished.others name none
  upgrade_stays tree_name out_name status text (upgrade_written due alone unmet) none = alone.others name none

  order_stays : (order : Order) (status : Status) (text : List ℕ) → OrderComesOf before after order status text → (MayChange status order name → ⊥) → IsSame
  order_stays (of_map its files) status text comes none = map_stays its files status text comes none
  order_stays (of_tree tree_name queries) status text comes none = tree_stays tree_name queries status text comes
  order_stays (of_rooms rooms number) status text comes none = rooms_stay rooms number status text comes
  order_stays (of_upgrade tree_name out_name) status text comes none = upgrade_stays tree_name out_name status text comes none

  stopped_stays : (order : Order) → IsStopped order before after → (IsWrittenBy order name → ⊥) → IsSame
  stopped_stays (of_map its files) stopped none = map_stopped_stays its files stopped none
  stopped_stays (of_tree tree_name queries) stopped none = stopped.kept name
  stopped_stays (of_rooms rooms number) stopped none = stopped.kept name
  stopped_stays (of_upgrade tree_name out_name) stopped none = stopped.unfinished.others name none

  -- ---- however a run ends

  module _ (words : List (List ℕ)) where
    due_stays : (status : Status) (text : List ℕ) → Due words before after status text → ((order : Order) → AreWordsOf order words → MayChange status order name → ⊥) → IsSame
    due_stays status text (usage no_command untouched) none = untouched.kept name
    due_stays status text (command order is comes) none = order_stays order status text comes (none order is)

module _ (words : List (List ℕ)) (before after : Surroundings) (name : List ℕ) where
  abbrev KeepsName : Type 0
  KeepsName = after.shelf.held name ≡ before.shelf.held name

  abbrev UnlessWritten : Type 0
  UnlessWritten = (order : Order) → AreWordsOf order words → IsWrittenBy order name → ⊥

  partly_stays : IsPartlyReported words before after → UnlessWritten → KeepsName
  partly_stays reported none =
      due_stays before.shelf after.shelf name words reported.0 reported.1 reported.2
      (λ order is may. none order is (written_by reported.0 order name may))

  before_stays : EndsShortOfMemoryBefore words before after → UnlessWritten → KeepsName
  before_stays ends none = elim ends.0 [
    | inl untouched ↦ untouched.kept name
    | inr stopped ↦ stopped_stays before.shelf after.shelf name stopped.0 stopped.2 (none stopped.0 stopped.1)
  ]

  abbrev IsNoneOf : Status → Type 0
  IsNoneOf status = (order : Order) → AreWordsOf order words → MayChange status order name → ⊥

  printed_stays : (status : Status) (text : List ℕ) → Due words before.shelf after.shelf status text → IsNoneOf status → KeepsName
  printed_stays status text due none = due_stays before.shelf after.shelf name words status text due none

  stays : (status : Status) → Answers words before after status → IsNoneOf status → KeepsName
  unfolding Answers
  stays Done answers none = printed_stays Done answers.0 answers.1 none
  stays Usage answers none = printed_stays Usage answers.0 answers.1 none
  stays Leak answers none = printed_stays Leak answers.0 answers.1 none
  stays TextFault answers none = printed_stays TextFault answers.0 answers.1 none
  stays ReadFault answers none = printed_stays ReadFault answers.0 answers.1 none
  stays WriteFault (inl answers) none = printed_stays WriteFault answers.0 answers.1 none
  stays WriteFault (inr fails) none = partly_stays fails.1 none
  stays Memory (inl stopped) none = before_stays stopped none
  stays Memory (inr printing) none = partly_stays printing.1 none
  stays TreeFault answers none = printed_stays TreeFault answers.0 answers.1 none
  stays QueryRefused answers none = printed_stays QueryRefused answers.0 answers.1 none

pub changes_own_files_alone : (words : List (List ℕ)) (before after : Surroundings) (status : Status) → Answers words before after status → ChangesOwnFilesAlone words before.shelf after.shelf status
unfolding ChangesOwnFilesAlone
changes_own_files_alone words before after status answers = λ name none. stays words before after name status answers none

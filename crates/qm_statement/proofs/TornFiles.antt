-- However a command ends, no file that it left torn is taken for whole.
use Rattle.std.proofs.Common.{◌≡◌, ◌<◌, ◌⊎◌, ◌^◌, ◌++◌, ℕ, Bool, true, false, List, length, take, drop, Option, Some, None, refl, sym, ◌∙◌, ap, subst, inl, inr, arith}
use Rattle.std.specs.Prelude.{IsTrue}
use Rattle.std.proofs.lemmas.Bool.{cases_lt}
use Rattle.std.proofs.lemmas.List.{length-drop, take-append-drop, take_all}
use Rattle.qm_surroundings.specs.Surroundings.{Surroundings}
use Rattle.qm_surroundings.specs.ShelfState.{ShelfState}
use Rattle.qm_surroundings.specs.ShelfChanges.{IsKept}
use Rattle.qm_surroundings.specs.WholeFiles.{HoldsTheSame, HoldsPrefix}
use Rattle.qm_contacts.specs.OwnPortals.{HasOwnPortals}
use Rattle.qm_contacts.specs.World.{World}
use Rattle.qm_formats.specs.FileLayout.{file_bytes}
use Rattle.qm_formats.specs.TreeFile.{TreeFile, IsValidFile}
use Rattle.qm_formats.proofs.FileFaults.{cut_file_fault}
use Rattle.qm_listing.specs.declared.listing.Listing.{Listing}
use Rattle.qm_listing.specs.Grammar.{listing_text}
use Rattle.qm_listing.specs.WorldListing.{IsListingOf}
use Rattle.qm_listing.proofs.CutListings.{listing_cut_off}
use Rattle.qm_listing.proofs.WholeListings.{read_listing_again}
use Rattle.qm_listing.proofs.WorldListings.{world_listing_stands}
use Rattle.qm_mapfile.specs.declared.entity.MapFile.{MapFile}
use Rattle.qm_commands.specs.declared.map_command.MapCommand.{MapCommand}
use Rattle.qm_commands.specs.declared.map_command.MapCommand.TheVariants.{Compile, Format}
use Rattle.qm_commands.specs.declared.options.Options.{Options}
use Rattle.qm_commands.specs.FileNames.{FileNames, AreDifferent}
use Rattle.qm_commands.specs.Order.{Order, of_map, of_tree, of_rooms, of_upgrade}
use Rattle.qm_commands.specs.Words.{AreWordsOf}
use Rattle.qm_statement.specs.declared.status.Status.{Status}
use Rattle.qm_statement.specs.declared.status.Status.TheVariants.{Done, Usage, Leak, MapFault as TextFault, ReadFault, WriteFault, Memory, TreeFault, QueryRefused}
use Rattle.qm_statement.specs.ComesOf.{ComesOf, IsDueInOut, IsOutUnfinished, IsListingUnfinished, IsWritten, IsCutShort, read_fault, map_fault, write_fault, listing_fault, written}
use Rattle.qm_statement.specs.Output.{Output, IsListed, IsOutputOf}
use Rattle.qm_statement.specs.Run.{OrderComesOf, IsStopped, Due, usage, command, IsPartlyReported, EndsShortOfMemoryBefore, Answers}
use Rattle.qm_statement.specs.TornFiles.{IsTreeRefused, IsListingRefused, IsNotTorn, IsDueInListing, AreNotTorn, LeavesNoneTorn, NoneIsTorn}
use Rattle.qm_statement.specs.Unfinished.{HoldsPart}
use Rattle.qm_statement.specs.Untouched.{IsUntouched}
use Rattle.qm_statement.specs.UpgradeComesOf.{IsUpgradeDue, IsUpgradeCutShort, UpgradeComesOf, tree_unread, tree_fault, unwritten, upgrade_written}
use Rattle.qm_statement.specs.Written.{AreOthersKept}

-- ---- some of the first bytes

-- some of the first bytes, and what stands behind them
parted : (bytes : List ℕ) (count : ℕ) → bytes ≡ take count bytes ++ drop count bytes
parted bytes count = sym (take-append-drop count bytes)

some_behind : (bytes : List ℕ) (count : ℕ) → count < length bytes → 0 < length (drop count bytes)
some_behind bytes count less = omega (arith, less, length-drop count bytes)

tree_refused : (file : TreeFile) (bytes : List ℕ) (count : ℕ) → IsValidFile file → bytes ≡ file_bytes file → count < length bytes → IsTreeRefused bytes (take count bytes)
tree_refused file bytes count valid is less =
    cut_file_fault file (take count bytes) (drop count bytes) valid (sym is ∙ parted bytes count) (some_behind bytes count less)

-- the listing of a world
listing_refused : (world : World) (listing : Listing) (text : List ℕ) (count : ℕ) → HasOwnPortals world → IsListingOf world listing → text ≡ listing_text listing → count < length text → IsListingRefused text (take count text)
listing_refused world listing text count own is_listing is less = λ fits other stands other_is.
    let can = world_listing_stands world listing own is_listing (fits.leaves listing is) (subst (λ (b : List ℕ). length b < 2 ^ 62) is fits.bytes) in
    listing_cut_off listing (take count text) (drop count text) can (sym is ∙ parted text count) (some_behind text count less) other (length (take count text))
    (read_listing_again (take count text) other stands other_is)

module _ (before after : ShelfState) (name : List ℕ) (IsDue : List ℕ → Type 0) (IsRefused : List ℕ → List ℕ → Type 0) (refuses : (bytes : List ℕ) (count : ℕ) → IsDue bytes → count < length bytes → IsRefused bytes (take count bytes)) where
  prefix_left : (bytes : List ℕ) → IsDue bytes → HoldsPrefix after name bytes → IsNotTorn before after name IsDue IsRefused
  prefix_left bytes due first =
      elim (cases_lt first.0 (length bytes)) [
        | inl less ↦ inr (inr (bytes, take first.0 bytes, due, first.1, refuses bytes first.0 due less))
        | inr all ↦ inr (inl (bytes, due, first.1 ∙ ap (λ (b : List ℕ). Some b) (take_all first.0 bytes all)))
      ]

  part_left : HoldsTheSame before after name ⊎ HoldsPart after name IsDue → IsNotTorn before after name IsDue IsRefused
  part_left (inl same) = inl same
  part_left (inr part) = prefix_left part.0 part.1 part.2

-- ---- what a command that compiles a map writes

module _ (before after : ShelfState) (options : Options) (listed : Bool) (files : FileNames) (different : AreDifferent files) (tells : IsTrue before.tells) where
  abbrev its : MapCommand
  its = Compile options listed

  -- the bytes that are due in OUT are those of a valid tree file
  made_refuses : (map : MapFile) (output : Output) (bytes : List ℕ) (count : ℕ) → IsOutputOf its map output → output.file ≡ bytes → count < length bytes → IsTreeRefused bytes (take count bytes)
  unfolding IsOutputOf
  made_refuses map output bytes count (inl tight) same less = tree_refused tight.file bytes count tight.is_compiled.is_valid (sym same ∙ tight.is_file.exactly) less
  made_refuses map output bytes count (inr leaks) same less = tree_refused leaks.file bytes count leaks.is_compiled.is_valid (sym same ∙ leaks.is_file.exactly) less

  out_refuses : (bytes : List ℕ) (count : ℕ) → IsDueInOut before its files bytes → count < length bytes → IsTreeRefused bytes (take count bytes)
  out_refuses bytes count due less = made_refuses due.1.map due.0 bytes count due.1.is_made due.2 less

  out_left : HoldsTheSame before after files.out_name ⊎ HoldsPart after files.out_name (IsDueInOut before its files) → IsNotTorn before after files.out_name (IsDueInOut before its files) IsTreeRefused
  out_left part = part_left before after files.out_name (IsDueInOut before its files) IsTreeRefused out_refuses part

  listed_refuses : (asked : Bool) (world : World) (made : Option (List ℕ)) (bytes : List ℕ) (count : ℕ) → IsListed asked world made → made ≡ Some bytes → HasOwnPortals world → count < length bytes → IsListingRefused bytes (take count bytes)
  listed_refuses true world made bytes count listing there own less =
      let both : Some bytes ≡ Some (listing_text listing.0) = sym there ∙ listing.2 in
      let same : bytes ≡ listing_text listing.0 = cc in
      listing_refused world listing.0 bytes count own listing.1 same less
  listed_refuses false world made bytes count none there own less = absurd (let e = sym none ∙ there in cc)

  text_refuses : (map : MapFile) (output : Output) (bytes : List ℕ) (count : ℕ) → IsOutputOf its map output → output.listing ≡ Some bytes → count < length bytes → IsListingRefused bytes (take count bytes)
  unfolding IsOutputOf
  text_refuses map output bytes count (inl tight) there less = listed_refuses listed tight.world output.listing bytes count tight.is_listed there tight.is_compiled.is_world.own_portals less
  text_refuses map output bytes count (inr leaks) there less = absurd (let e = sym leaks.is_not_listed ∙ there in cc)

  listing_refuses : (bytes : List ℕ) (count : ℕ) → IsDueInListing before its files bytes → count < length bytes → IsListingRefused bytes (take count bytes)
  listing_refuses bytes count due less = text_refuses due.1.map due.0 bytes count due.1.is_made due.2 less

  all_kept : IsKept before after → AreNotTorn before after its files
  all_kept kept = record { out = inl (kept files.out_name); listing = λ name asked. inl (kept name) }

  -- FILE is not OUT
  apart : (name : List ℕ) → files.listing_name ≡ Some name → name ≡ files.out_name → ⊥
  apart name asked same = different.out_and_listing name asked (sym same)

  out_unfinished : IsOutUnfinished before after its files → AreNotTorn before after its files
  out_unfinished unfinished = record {
    out = out_left (unfinished.part tells);
    listing = λ name asked. inl (unfinished.others name (apart name asked));
  }

  one_name : (name other : List ℕ) → files.listing_name ≡ Some name → files.listing_name ≡ Some other → name ≡ other
  one_name name other asked its_name = let same : Some name ≡ Some other = sym asked ∙ its_name in cc

  module _ (name : List ℕ) (unfinished : IsListingUnfinished before after its files name) where
    listing_left : HoldsTheSame before after name ⊎ HoldsPrefix after name unfinished.listing → IsNotTorn before after name (IsDueInListing before its files) IsListingRefused
    listing_left (inl same) = inl same
    listing_left (inr part) =
        prefix_left before after name (IsDueInListing before its files) IsListingRefused listing_refuses unfinished.listing
        (unfinished.output, unfinished.is_due, unfinished.is_listing) part

    listing_unfinished : AreNotTorn before after its files
    listing_unfinished = record {
      out = inr (inl (unfinished.output.file, (unfinished.output, unfinished.is_due, refl), unfinished.holds_out tells));
      listing = λ other asked.
          subst (λ (n : List ℕ). IsNotTorn before after n (IsDueInListing before its files) IsListingRefused) (one_name name other unfinished.is_asked asked)
          (listing_left (unfinished.part tells));
    }

  module _ {status : Status} {text : List ℕ} (w : IsWritten before after its files status text) where
    made_listing : (listing : Option (List ℕ)) → w.output.listing ≡ listing → (name : List ℕ) → files.listing_name ≡ Some name → IsNotTorn before after name (IsDueInListing before its files) IsListingRefused
    made_listing (Some bytes) is name asked = inr (inl (bytes, (w.output, w.is_due, is), w.holds_listing tells name bytes asked is))
    made_listing None is name asked =
        inl (subst (λ (listing : Option (List ℕ)). AreOthersKept before after files listing) is w.others name (apart name asked))

    all_written : AreNotTorn before after its files
    all_written = record {
      out = inr (inl (w.output.file, (w.output, w.is_due, refl), w.holds_out tells));
      listing = made_listing w.output.listing refl;
    }

  map_left : (status : Status) (text : List ℕ) → ComesOf before after its files status text → AreNotTorn before after its files
  map_left status text (read_fault failed kept) = all_kept kept
  map_left status text (map_fault means kept unmet) = all_kept kept
  map_left status text (write_fault means failed unfinished) = out_unfinished unfinished
  map_left status text (listing_fault {name = name} failed unfinished) = listing_unfinished name unfinished
  map_left status text (written w unmet) = all_written w

  map_stopped : IsCutShort before after its files → AreNotTorn before after its files
  map_stopped stopped = elim stopped.unfinished [
    | inl unfinished ↦ out_unfinished unfinished
    | inr unfinished ↦ listing_unfinished unfinished.0 unfinished.1
  ]

-- ---- what an upgrade writes

module _ (before after : ShelfState) (tree_name out_name : List ℕ) (tells : IsTrue before.tells) where
  abbrev Left : Type 0
  Left = IsNotTorn before after out_name (IsUpgradeDue before tree_name) IsTreeRefused

  upgrade_refuses : (bytes : List ℕ) (count : ℕ) → IsUpgradeDue before tree_name bytes → count < length bytes → IsTreeRefused bytes (take count bytes)
  upgrade_refuses bytes count due less = tree_refused _ bytes count due.is_made.is_file.valid due.is_made.is_file.exactly less

  upgrade_part : HoldsTheSame before after out_name ⊎ HoldsPart after out_name (IsUpgradeDue before tree_name) → Left
  upgrade_part part = part_left before after out_name (IsUpgradeDue before tree_name) IsTreeRefused upgrade_refuses part

  upgrade_left : (status : Status) (text : List ℕ) → UpgradeComesOf before after tree_name out_name status text → Left
  upgrade_left status text (tree_unread failed kept) = inl (kept out_name)
  upgrade_left status text (tree_fault means untouched) = inl (untouched.kept out_name)
  upgrade_left status text (unwritten means failed unfinished) = upgrade_part (unfinished.part tells)
  upgrade_left status text (upgrade_written {bytes = bytes} due alone unmet) = inr (inl (bytes, due, alone.holds tells))

  upgrade_stopped : IsUpgradeCutShort before after tree_name out_name → Left
  upgrade_stopped stopped = upgrade_part (stopped.unfinished.part tells)

-- ---- what any command leaves

module _ (words : List (List ℕ)) (before after : ShelfState) (tells : IsTrue before.tells) where
  order_left : (order : Order) → AreWordsOf order words → (status : Status) (text : List ℕ) → OrderComesOf before after order status text → LeavesNoneTorn order before after
  order_left (of_map (Compile options listed) files) is status text comes = map_left before after options listed files is.different tells status text comes
  order_left (of_map Format files) is status text comes = tt
  order_left (of_tree tree_name queries) is status text comes = tt
  order_left (of_rooms rooms number) is status text comes = tt
  order_left (of_upgrade tree_name out_name) is status text comes = upgrade_left before after tree_name out_name tells status text comes

  stopped_left : (order : Order) → AreWordsOf order words → IsStopped order before after → LeavesNoneTorn order before after
  stopped_left (of_map (Compile options listed) files) is stopped = map_stopped before after options listed files is.different tells stopped
  stopped_left (of_map Format files) is stopped = tt
  stopped_left (of_tree tree_name queries) is stopped = tt
  stopped_left (of_rooms rooms number) is stopped = tt
  stopped_left (of_upgrade tree_name out_name) is stopped = upgrade_stopped before after tree_name out_name tells stopped

  untouched_left : (order : Order) → IsUntouched before after → LeavesNoneTorn order before after
  untouched_left (of_map (Compile options listed) files) untouched = record { out = inl (untouched.kept files.out_name); listing = λ name asked. inl (untouched.kept name) }
  untouched_left (of_map Format files) untouched = tt
  untouched_left (of_tree tree_name queries) untouched = tt
  untouched_left (of_rooms rooms number) untouched = tt
  untouched_left (of_upgrade tree_name out_name) untouched = inl (untouched.kept out_name)

-- ---- words that are one command at most

module _ (words : List (List ℕ)) (before after : Surroundings) (one : (order other : Order) → AreWordsOf order words → AreWordsOf other words → other ≡ order) where
  module _ (tells : IsTrue before.shelf.tells) (order : Order) (is : AreWordsOf order words) where
    due_left : (status : Status) (text : List ℕ) → Due words before.shelf after.shelf status text → LeavesNoneTorn order before.shelf after.shelf
    due_left status text (usage none untouched) = absurd (none order is)
    due_left status text (command other other_is comes) =
        subst (λ (o : Order). LeavesNoneTorn o before.shelf after.shelf) (one order other is other_is)
        (order_left words before.shelf after.shelf tells other other_is status text comes)

    partly_left : IsPartlyReported words before after → LeavesNoneTorn order before.shelf after.shelf
    partly_left reported = due_left reported.0 reported.1 reported.2

    before_left : EndsShortOfMemoryBefore words before after → LeavesNoneTorn order before.shelf after.shelf
    before_left ends = elim ends.0 [
      | inl untouched ↦ untouched_left words before.shelf after.shelf tells order untouched
      | inr stopped ↦
          subst (λ (o : Order). LeavesNoneTorn o before.shelf after.shelf) (one order stopped.0 is stopped.1)
          (stopped_left words before.shelf after.shelf tells stopped.0 stopped.1 stopped.2)
    ]

    left : (status : Status) → Answers words before after status → LeavesNoneTorn order before.shelf after.shelf
    unfolding Answers
    left Done answers = due_left Done answers.0 answers.1
    left Usage answers = due_left Usage answers.0 answers.1
    left Leak answers = due_left Leak answers.0 answers.1
    left TextFault answers = due_left TextFault answers.0 answers.1
    left ReadFault answers = due_left ReadFault answers.0 answers.1
    left WriteFault (inl answers) = due_left WriteFault answers.0 answers.1
    left WriteFault (inr fails) = partly_left fails.1
    left Memory (inl stopped) = before_left stopped
    left Memory (inr printing) = partly_left printing.1
    left TreeFault answers = due_left TreeFault answers.0 answers.1
    left QueryRefused answers = due_left QueryRefused answers.0 answers.1

  pub none_is_torn : (status : Status) → Answers words before after status → NoneIsTorn words before.shelf after.shelf
  unfolding NoneIsTorn
  none_is_torn status answers = λ tells order is. left tells order is status answers

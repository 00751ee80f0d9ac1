-- What is built of the brushes of a map, with what is made of its tree, is what the map compiles to.
use Rattle.std.proofs.Common.{◌≡◌, ◌<◌, ◌^◌, ℕ, Bool, true, false, List, [], replicate, length, refl, sym, ap, ◌∙◌, subst, arith, ◌↔◌}
use Rattle.std.specs.Prelude.{None, Some}
use Rattle.std.specs.List.{All, AllZip}
use Rattle.std.proofs.lemmas.List.{length-map}
use Rattle.std.proofs.lemmas.List.Elements.{length_all_zip}
use Rattle.qm_space.specs.Plane.{Plane}
use Rattle.qm_space.specs.Entered.{AreEnteredInBook}
use Rattle.qm_geom.proofs.EnteredPlanes.{one_book}
use Rattle.qm_mapfile.specs.declared.entity.MapFile.{MapFile}
use Rattle.qm_drawn.specs.Planes.{drawn_planes}
use Rattle.qm_drawn.specs.Solids.{drawn_solids}
use Rattle.qm_solids.specs.Alike.{IsAlike}
use Rattle.qm_solids.specs.InBook.{BookSolid, solid_in, solids_in, IsBookOf}
use Rattle.qm_solids.proofs.AlikeSolids.{same_contents_back}
use Rattle.qm_solids.proofs.FlatCounts.{same_flat, counted_flat}
use Rattle.qm_partition.specs.LeafOfPoint.{leaf_record_at}
use Rattle.qm_partition.specs.Tree.{Tree}
use Rattle.qm_partition.specs.Ways.{HasPoints}
use Rattle.qm_partition.proofs.Counts.{length-nodes_of}
use Rattle.qm_partition.proofs.MarkedLeaves.{marked_nodes}
use Rattle.qm_partition.proofs.MarkedParts.{marked_well_made}
use Rattle.qm_solid_tree.specs.GivesContents.{GivesContents}
use Rattle.qm_solid_tree.specs.TreeOf.{IsTreeOf}
use Rattle.qm_solid_tree.proofs.OneDivision.{one_tree}
use Rattle.qm_solid_tree.proofs.SameTree.{tree_back}
use Rattle.qm_partition.specs.Counting.{leaves_of, leaf_count, node_count}
use Rattle.qm_partition.specs.Marked.{marked, marked_tree, IsFilledLeaf}
use Rattle.qm_partition.proofs.FilledLeaves.{filled_in_row, row_is_filled}
use Rattle.qm_lists.proofs.WorkLists.{place_within}
use Rattle.qm_solid_tree.proofs.FilledTrees.{tree_unfilled, marked_gives}
use Rattle.qm_contacts.specs.Leak.{Origin, IsLeak}
use Rattle.qm_contacts.specs.Filled.{NoneTakesPart, IsSealed, IsToBeFilled, IsFilledRow}
use Rattle.qm_contacts.proofs.FilledLeaves.{filled_apart}
use Rattle.qm_contacts.proofs.FloodedLeaves.{none_filled}
use Rattle.qm_contacts.specs.Contacts.{Contacts, AreContacts}
use Rattle.qm_contacts.specs.Portals.{portals_of}
use Rattle.qm_contacts.specs.World.{World}
use Rattle.qm_contacts.specs.OwnPortals.{HasOwnPortals}
use Rattle.qm_contacts.proofs.MarkedTrees.{marked_contacts}
use Rattle.qm_contacts.proofs.PassageCounts.{half_are_passages}
use Rattle.qm_solids.specs.Contents.{HasContents}
use Rattle.qm_solids.specs.Flat.{HasFlat}
use Rattle.qm_solids.specs.Holding.{Holds}
use Rattle.qm_solids.proofs.ContentsLaws.{one_contents}
use Rattle.qm_segments.specs.Segment.{Segment}
use Rattle.qm_segments.specs.Ends.{HoldLinesOfSight}
use Rattle.qm_segments.specs.LedByPortals.{IsLedByPortals}
use Rattle.qm_segments.proofs.EndRows.{sound_rows_hold_ends, coarse_rows_hold_ends}
use Rattle.qm_segments.proofs.FilledRows.{filled_row_closed}
use Rattle.qm_formats.specs.TreeFile.{TreeFile, IsValidFile}
use Rattle.qm_compiler.specs.declared.asking.Asked.{Asked}
use Rattle.qm_compiler.specs.declared.compiled.Compiled.{Compiled}
use Rattle.qm_compiler.specs.declared.preparing.Prepared.TheVariants.{Leak}
use Rattle.qm_commands.specs.declared.options.Options.{Options}
use Rattle.qm_statement.specs.declared.summary.Summary.{Summary}
use Rattle.qm_statement.specs.Built.{IsBuilt}
use Rattle.qm_statement.specs.CompiledForm.{HasCompiledForm}
use Rattle.qm_statement.specs.CompiledMap.{NoneLeaks, IsLineOfSightIn, IsCompiledWithoutLeak}
use Rattle.qm_compiler.specs.Answers.{IsCompiled}
use Rattle.qm_statement.specs.Marked.{IsMarked}
use Rattle.qm_statement.specs.Origins.{AreOriginsOf}
use Rattle.qm_statement.specs.Rows.{AreRowsAsAsked}
use Rattle.qm_statement.specs.Summary.{IsVerdict, IsSummary}
use Rattle.qm_statement.specs.TreeOfMap.{IsTreeOfMap}
use Rattle.qm_statement.proofs.LedLines.{lines_are_led}
use Rattle.qm_compiler.specs.inner.Counted.{IsTreeOfBrushes}
use Rattle.qm_compiler.specs.inner.Finished.{AreAsAsked, IsCount, IsFinished}
use Rattle.qm_compiler.specs.inner.FlatCount.{flat_count}
use Rattle.qm_compiler.specs.inner.NewFile.{new_file}
use Rattle.qm_compiler.specs.inner.Prepared.{IsPrepared, marked_of}
use Rattle.qm_build.proofs.BuiltTrees.{tree_well_made, tree_reduced}
use Rattle.qm_compiler.proofs.MarkedSurfaces.{marked_surface}
use Rattle.qm_compiler.proofs.NewFiles.{new_form}
use Rattle.qm_compiler.proofs.Origins.{one_origins}
use Rattle.qm_compiler.proofs.WrittenRows.{valid_without_rows, valid_with_rows, leaf_rows_over}

-- a tree with marked leaves has the nodes that it had
few_marked : (row : List Bool) (tree : Tree) → node_count tree.shape < 2 ^ 63 → node_count (marked_tree row tree).shape < 2 ^ 63
few_marked row tree few =
    omega (arith, few, length-nodes_of tree.shape 0 0, length-nodes_of (marked row tree.shape 0) 0 0, ap length (marked_nodes row tree.shape 0 0 0))

-- a map has one tree
pub one_tree_of_map : (map : MapFile) (tree other : Tree) → IsTreeOfMap map tree → IsTreeOfMap map other → other ≡ tree
one_tree_of_map map tree other is its =
    let book = one_book its.entered is.entered in
    one_tree (drawn_solids map) is.book other tree (subst (λ (planes : List Plane). IsTreeOf (drawn_solids map) planes other) book its.is_tree) is.is_tree

module _ (map : MapFile) (book : List Plane) (list : List BookSolid) (alike : AllZip IsAlike (drawn_solids map) (solids_in book list)) (filled : IsBookOf book list) where
  -- what gives each point the contents of the brushes gives it those of the map's solids
  gives_drawn : (tree : Tree) → GivesContents tree (solids_in book list) → GivesContents tree (drawn_solids map)
  gives_drawn tree gives = record {
    named = gives.named;
    normals = gives.normals;
    gives = λ x in_cube off. same_contents_back (drawn_solids map) (solids_in book list) alike x (leaf_record_at tree.planes tree.shape x).contents (gives.gives x in_cube off);
  }

  as_many : length (drawn_solids map) ≡ length list
  as_many = length_all_zip IsAlike (drawn_solids map) (solids_in book list) alike ∙ length-map list (solid_in book)

  -- the tree that is built of the brushes is the map's, and the brushes are counted
  pub counted_map : (tree : Tree) → AreEnteredInBook [] (drawn_planes map) book → IsTreeOf (solids_in book list) book tree → GivesContents tree (solids_in book list) → HasPoints tree → node_count tree.shape < 2 ^ 63 → IsTreeOfBrushes map tree (length list) (flat_count list)
  counted_map tree entered is_tree gives points few = record {
    is_tree = record { book = book; entered = entered; is_tree = tree_back (drawn_solids map) (solids_in book list) alike book tree is_tree };
    gives_contents = gives_drawn tree gives;
    have_points = points;
    well_made = tree_well_made (solids_in book list) book filled.planes tree is_tree;
    reduced = tree_reduced (solids_in book list) book filled.planes tree is_tree;
    few = few;
    as_many = sym as_many;
    has_flat = same_flat (drawn_solids map) (solids_in book list) (flat_count list) alike (counted_flat book list filled.each);
  }

module _ (map : MapFile) (tree : Tree) (brushes flat : ℕ) (counted : IsTreeOfBrushes map tree brushes flat) (origins : List Origin) (are_origins : AreOriginsOf map origins) where
  is_built : IsBuilt map tree origins
  is_built = record {
    is_tree = counted.is_tree;
    only_tree = λ other is. one_tree_of_map map tree other counted.is_tree is;
    gives_contents = counted.gives_contents;
    have_points = counted.have_points;
    are_origins = are_origins;
    only_origins = λ others are. one_origins map others origins are are_origins;
  }

  -- an entity leaks
  pub leaking_map : (contacts : Contacts) (entity : ℕ) (trail : List ℕ) → IsLeak tree origins entity trail → IsPrepared map contacts (Leak (new_file tree None []) entity trail)
  unfolding IsPrepared
  leaking_map contacts entity trail leak =
      let file = new_file tree None [] in
      let form = new_form file tree None [] refl in
      record {
        origins = origins;
        is_built = is_built;
        is_leak = leak;
        has_no_rows = refl;
        has_no_sections = refl;
        has_form = form;
        is_valid = valid_without_rows file form counted.well_made counted.few counted.reduced tt refl;
      }

  -- none does, and these leaves are to be filled
  module _ (row : List Bool) (are_filled : IsFilledRow tree origins row) (none_leaks : NoneLeaks tree origins) where
    unfilled : All (λ found. found.filled ≡ false) (leaves_of tree.shape)
    unfilled = tree_unfilled (drawn_solids map) counted.is_tree.book tree counted.is_tree.is_tree

    filled : (k : ℕ) → IsFilledLeaf (marked_tree row tree) k ↔ IsToBeFilled tree origins k
    filled k = (
      (λ is. (are_filled.filled k).0 (filled_in_row row tree unfilled k is)),
      (λ fill.
          let set = (are_filled.filled k).1 fill in
          let within = place_within row k set in
          let one_each = are_filled.one_each in
          row_is_filled row tree unfilled k (omega (arith, within, one_each)) set),
    )

    is_marked : IsMarked tree origins (marked_tree row tree)
    is_marked = record { row = row; are_filled = are_filled; is_marked = refl; filled = filled }

    -- what is counted is the summary
    module _ (sealed : Bool) (is_verdict : IsVerdict tree origins sealed) (contacts : Contacts) (are : AreContacts tree contacts) where
      abbrev marked_world : World
      marked_world = record { tree = marked_tree row tree; portals = portals_of (marked_tree row tree) contacts.touchings }

      are_contacts : AreContacts (marked_tree row tree) contacts
      are_contacts = marked_contacts row tree contacts are

      -- the portals are the tree's own
      own_portals : HasOwnPortals marked_world
      own_portals = record { have_points = are_contacts.points; touchings = contacts.touchings; are_touchings = are_contacts.touching; portals_are = refl }

      is_summary : (rows : List (List Bool)) (summary : Summary) → IsCount sealed brushes flat marked_world rows summary → IsSummary map tree origins (marked_tree row tree) rows summary
      is_summary rows summary count = record {
        verdict = subst (IsVerdict tree origins) (sym count.sealed_is) is_verdict;
        brushes = count.brushes_is ∙ counted.as_many;
        flat = subst (λ (n : ℕ). HasFlat (drawn_solids map) n) (sym count.flat_is) counted.has_flat;
        planes = count.planes_is;
        nodes = count.nodes_is;
        leaves = count.leaves_is;
        numbered = count.numbered_is;
        filled = count.filled_is;
        portals = half_are_passages (marked_tree row tree) contacts marked_world.portals summary.portals are_contacts refl count.portals_is;
        seen = count.seen_is;
      }

      -- the rows hold both ends of each line of sight, whether they are coarse or found in turns
      rows_hold : (fast : Bool) (workers : ℕ) (rows : List (List Bool)) → AreRowsAsAsked fast workers marked_world rows → HoldLinesOfSight (HasContents (drawn_solids map)) (marked_tree row tree) rows
      rows_hold true workers rows made =
          coarse_rows_hold_ends row tree counted.have_points (filled_row_closed tree origins row are_filled) (HasContents (drawn_solids map)) counted.gives_contents.gives
          (λ x c d has also. one_contents (λ solid. Holds solid x) (drawn_solids map) c d has also)
          contacts.touchings are.touching made.portal_rows rows made.are_coarse made.are_leaf_rows
      rows_hold false workers rows made =
          sound_rows_hold_ends row tree counted.have_points (filled_row_closed tree origins row are_filled) (HasContents (drawn_solids map)) counted.gives_contents.gives
          (λ x c d has also. one_contents (λ solid. Holds solid x) (drawn_solids map) c d has also)
          contacts.touchings are.touching made.portal_rows rows made.are_sound made.are_leaf_rows

      -- the portals lead each line of sight
      led : (s : Segment) → IsLineOfSightIn map (marked_tree row tree) s → IsLedByPortals (marked_tree row tree) marked_world.portals s
      led s sight =
          lines_are_led row tree counted.have_points (filled_row_closed tree origins row are_filled) (HasContents (drawn_solids map)) counted.gives_contents.gives
          (λ x c d has also. one_contents (λ solid. Holds solid x) (drawn_solids map) c d has also)
          contacts.touchings are.touching s sight

      -- what is written: the tree with its rows and sections
      abbrev written : Asked → TreeFile
      written asked = new_file (marked_tree row tree) (Some asked.rows) asked.sections

      form : (asked : Asked) → HasCompiledForm (written asked)
      form asked = new_form (written asked) (marked_tree row tree) (Some asked.rows) asked.sections refl

      -- it can stand in a file
      valid : (options : Options) (asked : Asked) → AreAsAsked map options marked_world asked → IsValidFile (written asked)
      valid options asked are =
          valid_with_rows (written asked) (form asked) (marked_well_made row tree counted.well_made) (few_marked row tree counted.few) counted.reduced are.can_stand
          marked_world asked.rows refl refl (leaf_rows_over options.fast options.threads marked_world asked.rows are.are_rows)

      done_map :
          (options : Options) (asked : Asked) (summary : Summary) →
          AreAsAsked map options marked_world asked → IsCount sealed brushes flat marked_world asked.rows summary →
          IsCompiledWithoutLeak map options (written asked) marked_world summary
      done_map options asked summary are is_count = record {
        tree = tree;
        origins = origins;
        is_built = is_built;
        none_leaks = none_leaks;
        is_marked = is_marked;
        gives_contents = marked_gives row tree (drawn_solids map) counted.gives_contents;
        apart = λ origin listed takes_part k fill chain. filled_apart tree origins origin k fill listed takes_part chain;
        is_world = record { is_tree = refl; own_portals = own_portals };
        led_by_portals = led;
        rows = asked.rows;
        has_rows = refl;
        are_rows = are.are_rows;
        hold_sight = rows_hold options.fast options.threads asked.rows are.are_rows;
        has_sections = are.are_sections;
        has_form = form asked;
        is_valid = valid options asked are;
        is_summary = is_summary asked.rows summary is_count;
      }

      becomes : (options : Options) (compiled : Compiled) → IsFinished map options sealed brushes flat (marked_tree row tree) marked_world compiled → IsCompiled map options compiled
      unfolding IsCompiled
      becomes options compiled made =
          subst (λ (c : Compiled). IsCompiled map options c) (sym made.is_done) (done_map options made.asked made.summary made.are_as_asked made.is_count)

      marked_map : IsPrepared map contacts (marked_of sealed tree brushes flat contacts row)
      unfolding IsPrepared marked_of
      marked_map = record { has_surface = marked_surface map tree origins (marked_tree row tree) is_built is_marked; has_contacts = are_contacts; becomes = becomes }

  -- it is sealed
  pub sealed_map : (row : List Bool) (contacts : Contacts) → IsSealed tree origins → IsFilledRow tree origins row → AreContacts tree contacts → IsPrepared map contacts (marked_of true tree brushes flat contacts row)
  sealed_map row contacts is_sealed are_filled are = marked_map row are_filled is_sealed.tight true is_sealed contacts are

  -- or no entity takes part
  pub empty_map : (contacts : Contacts) → NoneTakesPart tree origins → AreContacts tree contacts → IsPrepared map contacts (marked_of false tree brushes flat contacts (replicate (leaf_count tree.shape) false))
  empty_map contacts none are =
      marked_map (replicate (leaf_count tree.shape) false) (none_filled tree origins (leaf_count tree.shape) refl none) (λ origin listed leaks. none origin listed leaks.takes_part) false none contacts are

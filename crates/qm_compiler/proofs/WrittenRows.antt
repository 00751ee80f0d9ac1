-- Trees and rows of leaves can stand in a tree file of the form in which maps are compiled.
use Rattle.std.proofs.Common.{◌≡◌, ◌<◌, ◌^◌, ℕ, Bool, true, false, List, [], Option, Some, None, length, get_or, refl, sym, subst, ◌∙◌, All, arith, inl, inr}
use Rattle.std.specs.Prelude.{count_by, IfSome}
use Rattle.std.proofs.lemmas.Option.{slice_get-get_or}
use Rattle.qm_space.specs.Reduced.{IsReduced}
use Rattle.qm_partition.specs.Counting.{leaves_of, node_count}
use Rattle.qm_partition.specs.Tree.{Tree}
use Rattle.qm_partition.specs.WellMade.{IsWellMade}
use Rattle.qm_contacts.specs.NumberedLeaves.{is_numbered, numbered_leaves}
use Rattle.qm_contacts.specs.Portals.{Portal}
use Rattle.qm_contacts.specs.World.{World}
use Rattle.qm_coarse_rows.specs.LeafRow.{AreLeafRows}
use Rattle.qm_formats.specs.TreeFile.{TreeFile, IsOfVersion, AreRows, AreSections, IsValidFile}
use Rattle.qm_statement.specs.Rows.{AreRowsAsAsked}
use Rattle.qm_statement.specs.CompiledForm.{HasCompiledForm}
use Rattle.qm_compiler.proofs.NumberedCounts.{as_many_numbered}

pub leaf_rows_fit : (tree : Tree) (portals : List Portal) (rows leaf_rows : List (List Bool)) → AreLeafRows portals rows (length (numbered_leaves tree)) leaf_rows → AreRows (count_by is_numbered (leaves_of tree.shape)) leaf_rows
leaf_rows_fit tree portals rows leaf_rows are =
    let many : length (numbered_leaves tree) ≡ count_by is_numbered (leaves_of tree.shape) = as_many_numbered (leaves_of tree.shape) 0 in
    let each = λ (k : ℕ) (d : List Bool) (within : k < length leaf_rows). are.each k (get_or leaf_rows k d) (slice_get-get_or leaf_rows k d within) in
    record {
      one_each = are.one_each ∙ many;
      places = λ k d within. (each k d within).one_each ∙ many;
      own = λ k within. let whole = are.one_each in ((each k [] (omega (arith, within, whole, many))).exactly k).1 (inl refl);
    }

-- the rows that are written are rows of leaves over some rows of portals
pub record AreOverSome (world : World) (rows : List (List Bool)) : Type 0 where
  pub portal_rows : List (List Bool)
  pub are : AreLeafRows world.portals portal_rows (length (numbered_leaves world.tree)) rows

pub leaf_rows_over : (fast : Bool) (workers : ℕ) (world : World) (rows : List (List Bool)) → AreRowsAsAsked fast workers world rows → AreOverSome world rows
leaf_rows_over true workers world rows made = record { portal_rows = made.portal_rows; are = made.are_leaf_rows }
leaf_rows_over false workers world rows made = record { portal_rows = made.portal_rows; are = made.are_leaf_rows }

module _ (file : TreeFile) (form : HasCompiledForm file) (well : IsWellMade file.tree) (few : node_count file.tree.shape < 2 ^ 63) (reduced : All IsReduced file.tree.planes) (are_sections : AreSections file.sections) where
  of_version : IsOfVersion file
  of_version = inr (record { version = form.version; bound = inr form.bound })

  abbrev fits : Option (List (List Bool)) → Type 0
  fits rows = IfSome rows (AreRows (count_by is_numbered (leaves_of file.tree.shape)))

  pub valid_without_rows : file.rows ≡ None → IsValidFile file
  valid_without_rows none = record { of_version = of_version; well_made = well; few_nodes = few; reduced = reduced; rows = subst fits (sym none) tt; sections = are_sections }

  pub valid_with_rows : (world : World) (rows : List (List Bool)) → world.tree ≡ file.tree → file.rows ≡ Some rows → AreOverSome world rows → IsValidFile file
  valid_with_rows world rows same has over =
      let are = subst (λ (t : Tree). AreLeafRows world.portals over.portal_rows (length (numbered_leaves t)) rows) same over.are in
      record {
        of_version = of_version;
        well_made = well;
        few_nodes = few;
        reduced = reduced;
        rows = subst fits (sym has) (leaf_rows_fit file.tree world.portals over.portal_rows rows are);
        sections = are_sections;
      }

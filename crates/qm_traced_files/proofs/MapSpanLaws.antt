-- What the spans of a segment say of a map, in the files that it compiles to.
use Rattle.std.proofs.Common.{inr, ℕ, List}
use Rattle.qm_mapfile.specs.declared.entity.MapFile.{MapFile}
use Rattle.qm_drawn.specs.Solids.{drawn_solids}
use Rattle.qm_solid_tree.specs.GivesContents.{GivesContents, GivesContentsOrIsFilled}
use Rattle.qm_partition.specs.Tree.{Tree}
use Rattle.qm_contacts.specs.World.{World}
use Rattle.qm_formats.specs.TreeFile.{TreeFile}
use Rattle.qm_hull_trees.specs.HullBoxes.{hull_box}
use Rattle.qm_hull_trees.proofs.BoxesOfHulls.{hull_box_moves}
use Rattle.qm_commands.specs.declared.options.Options.{Options}
use Rattle.qm_statement.specs.declared.summary.Summary.{Summary}
use Rattle.qm_statement.specs.CompiledMap.{IsCompiledWithoutLeak, IsCompiledToLeak}
use Rattle.qm_traced.proofs.SpanLaws.{contents_within}
use Rattle.qm_statement.specs.MapSpans.{SpansTellContents, HullSpansTellObstacles}
use Rattle.qm_traced_files.proofs.HullSpans.{hull_spans}
use Rattle.qm_traced_files.proofs.KeptHulls.{kept_hull}

tell_contents : (map : MapFile) (tree : Tree) → GivesContentsOrIsFilled tree (drawn_solids map) → SpansTellContents map tree
tell_contents map tree gives a b spans x span traced within off =
    contents_within tree (drawn_solids map) a b spans x span gives traced.start traced.end traced.is_trace within off

-- a tree that gives contents gives them, filled or not
or_filled : (map : MapFile) (tree : Tree) → GivesContents tree (drawn_solids map) → GivesContentsOrIsFilled tree (drawn_solids map)
or_filled map tree gives = record { named = gives.named; normals = gives.normals; gives = λ x in_cube off. inr (gives.gives x in_cube off) }

pub spans_of_compiled : (map : MapFile) (options : Options) (file : TreeFile) (world : World) (summary : Summary) → IsCompiledWithoutLeak map options file world summary → SpansTellContents map file.tree
spans_of_compiled map options file world summary is = tell_contents map file.tree is.gives_contents

pub spans_of_leaking : (map : MapFile) (file : TreeFile) (entity : ℕ) (trail : List ℕ) → IsCompiledToLeak map file entity trail → SpansTellContents map file.tree
spans_of_leaking map file entity trail is = tell_contents map file.tree (or_filled map file.tree is.is_built.gives_contents)

pub hull_spans_of_compiled : (map : MapFile) (options : Options) (file : TreeFile) (world : World) (summary : Summary) → IsCompiledWithoutLeak map options file world summary → HullSpansTellObstacles map file
hull_spans_of_compiled map options file world summary is hull found decoded =
    hull_spans map (hull_box hull) (hull_box_moves hull).has_origin found (kept_hull map options file hull found is.has_sections is.has_form.bound decoded)

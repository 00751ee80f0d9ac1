use Rattle.std.proofs.lemmas.List.{append_assoc}
use Rattle.qm_formats.specs.TreeFile.{TreeFile}
use Rattle.qm_file.proofs.WrittenFile.{file_bytes-parts}
use Rattle.qm_file.proofs.writing.encode.Goals as goal

pub returns : goal.returns
returns c =
    let inside = c.file.inside in
    let file : TreeFile = record { version = inside.version; bound = inside.bound; tree = inside.tree; rows = inside.rows; sections = inside.sections } in
    rw (c.in_ok-put_sections.ensures, c.as_slice.ensures, c.in_ok-put_rows.ensures, c.in_ok-append_all-3.ensures.ok, c.in_ok-append_all-2.ensures.ok, c.in_ok-append_all.ensures.ok, c.in_ok-put_header.ensures, c.in_ok-bytes.ensures.items, c.all_planes-planes.ensures, c.all_nodes-nodes.ensures, c.all_leaves-leaves.ensures, ← c.file.view_is, file_bytes-parts file)
    (simp append_assoc)

use Rattle.std.proofs.lemmas.List.{append_assoc}
use Rattle.qm_formats.specs.FileLayout.{file_header_layout}
use Rattle.qm_file.proofs.writing.put_header.Goals as goal

pub returns : goal.returns
unfolding file_header_layout
returns c =
    rw (← c.file.view_is, c.in_ok-put_section_count.ensures, c.in_ok-put_bound.ensures, c.in_ok-put_flag.ensures, c.in_ok-put_count-4.ensures, c.in_ok-put_count-3.ensures, c.in_ok-put_count-2.ensures, c.in_ok-put_count.ensures, c.in_ok-put_magic.ensures, c.len.ensures, c.is_some.ensures, c.count_numbered.ensures, c.all_leaves-leaves.ensures, c.all_nodes.ensures, c.all_planes.ensures)
    (simp append_assoc)

use Rattle.std.specs.Prelude.{◌≡◌, ℕ, List}
use Rattle.qm_formats.specs.FileParts.{FileFaultKind, short, magic, counts, plane_form, node_order, leaf_form, row_form, trailing, too_long, header_form, section_form}
use Rattle.qm_file.specs.declared.file_fault.FileFault.{FileFault}
use Rattle.qm_file.specs.declared.file_fault.FileFault.TheVariants.{Short, Magic, Counts, PlaneForm, NodeOrder, LeafForm, RowForm, Trailing, TooLong, HeaderForm, SectionForm}
use Rattle.qm_statement.specs.TreeFaultText.{tree_fault_text}

-- The line of a fault of decoding.

-- the fault of a kind at a place
abbrev pub fault_at : FileFaultKind → ℕ → FileFault
fault_at short place = Short place
fault_at magic place = Magic place
fault_at counts place = Counts place
fault_at plane_form place = PlaneForm place
fault_at node_order place = NodeOrder place
fault_at leaf_form place = LeafForm place
fault_at row_form place = RowForm place
fault_at trailing place = Trailing place
fault_at too_long place = TooLong place
fault_at header_form place = HeaderForm place
fault_at section_form place = SectionForm place

-- the line of a fault of decoding; want of memory is none, and has none
pub record IsTreeFaultLine (fault : FileFault) (line : List ℕ) : Type 0 where
  pub kind : FileFaultKind
  pub place : ℕ
  pub is_fault : fault ≡ fault_at kind place
  pub is_line : line ≡ tree_fault_text kind place

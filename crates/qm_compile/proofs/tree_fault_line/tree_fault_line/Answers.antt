use Rattle.qm_formats.specs.FileParts.{short, magic, counts, plane_form, node_order, leaf_form, row_form, trailing, too_long, header_form, section_form}
use Rattle.qm_compile.proofs.FaultLines.{told}
use Rattle.qm_compile.proofs.tree_fault_line.tree_fault_line.Goals as goal

pub returns-in-Short : goal.returns-in-Short
returns-in-Short c = told short _ c.in-Short.is c.fault_line.result c.fault_line.ensures

pub returns-in-Magic : goal.returns-in-Magic
returns-in-Magic c = told magic _ c.in-Magic.is c.fault_line-in-Magic.result c.fault_line-in-Magic.ensures

pub returns-in-Counts : goal.returns-in-Counts
returns-in-Counts c = told counts _ c.in-Counts.is c.fault_line-in-Counts.result c.fault_line-in-Counts.ensures

pub returns-in-PlaneForm : goal.returns-in-PlaneForm
returns-in-PlaneForm c = told plane_form _ c.in-PlaneForm.is c.fault_line-in-PlaneForm.result c.fault_line-in-PlaneForm.ensures

pub returns-in-NodeOrder : goal.returns-in-NodeOrder
returns-in-NodeOrder c = told node_order _ c.in-NodeOrder.is c.fault_line-in-NodeOrder.result c.fault_line-in-NodeOrder.ensures

pub returns-in-LeafForm : goal.returns-in-LeafForm
returns-in-LeafForm c = told leaf_form _ c.in-LeafForm.is c.fault_line-in-LeafForm.result c.fault_line-in-LeafForm.ensures

pub returns-in-RowForm : goal.returns-in-RowForm
returns-in-RowForm c = told row_form _ c.in-RowForm.is c.fault_line-in-RowForm.result c.fault_line-in-RowForm.ensures

pub returns-in-Trailing : goal.returns-in-Trailing
returns-in-Trailing c = told trailing _ c.in-Trailing.is c.fault_line-in-Trailing.result c.fault_line-in-Trailing.ensures

pub returns-in-TooLong : goal.returns-in-TooLong
returns-in-TooLong c = told too_long _ c.in-TooLong.is c.fault_line-in-TooLong.result c.fault_line-in-TooLong.ensures

pub returns-in-HeaderForm : goal.returns-in-HeaderForm
returns-in-HeaderForm c = told header_form _ c.in-HeaderForm.is c.fault_line-in-HeaderForm.result c.fault_line-in-HeaderForm.ensures

pub returns-in-SectionForm : goal.returns-in-SectionForm
returns-in-SectionForm c = told section_form _ c.in-SectionForm.is c.fault_line-in-SectionForm.result c.fault_line-in-SectionForm.ensures

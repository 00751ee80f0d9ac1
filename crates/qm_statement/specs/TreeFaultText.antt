use Rattle.std.specs.Prelude.{ℕ, List, ◌++◌, codes}
use Rattle.std.specs.Fmt.{decimal}
use Rattle.qm_formats.specs.FileParts.{FileFaultKind, short, magic, counts, plane_form, node_order, leaf_form, row_form, trailing, too_long, header_form, section_form}
use Rattle.qm_statement.specs.Texts.{line}

-- How the fault of a tree file is printed.

-- its number
abbrev pub number_of_tree_fault : FileFaultKind → ℕ
number_of_tree_fault short = 1
number_of_tree_fault magic = 2
number_of_tree_fault counts = 3
number_of_tree_fault plane_form = 4
number_of_tree_fault node_order = 5
number_of_tree_fault leaf_form = 6
number_of_tree_fault row_form = 7
number_of_tree_fault trailing = 8
number_of_tree_fault too_long = 9
number_of_tree_fault header_form = 10
number_of_tree_fault section_form = 11

-- what is said of it
abbrev pub words_of_tree_fault : FileFaultKind → List ℕ
words_of_tree_fault short = codes "short"
words_of_tree_fault magic = codes "magic"
words_of_tree_fault counts = codes "counts"
words_of_tree_fault plane_form = codes "plane form"
words_of_tree_fault node_order = codes "node order"
words_of_tree_fault leaf_form = codes "leaf form"
words_of_tree_fault row_form = codes "row form"
words_of_tree_fault trailing = codes "trailing"
words_of_tree_fault too_long = codes "too long"
words_of_tree_fault header_form = codes "header form"
words_of_tree_fault section_form = codes "section form"

-- the line that is printed of a fault and its place
unfoldable pub tree_fault_text : FileFaultKind → ℕ → List ℕ
tree_fault_text kind place =
    line (codes "tree fault " ++ (decimal (number_of_tree_fault kind) ++ (codes " at byte " ++ (decimal place ++ (codes ": " ++ words_of_tree_fault kind)))))

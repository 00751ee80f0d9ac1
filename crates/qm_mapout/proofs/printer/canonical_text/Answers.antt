use Rattle.std.proofs.Common.{◌∙◌, refl}
use Rattle.qm_lists.proofs.FlatMaps.{flat_map-flat_map}
use Rattle.qm_grammar.specs.Lines.{line_text}
use Rattle.qm_grammar.specs.Printed.{entity_lines, printed_map}
use Rattle.qm_mapout.proofs.printer.canonical_text.Goals as goal

pub returns : goal.returns
unfolding printed_map
returns c =
    rw (flat_map-flat_map line_text entity_lines c.args.map.now.entities, ← c.as_slice.ensures) (c.in_ok-append_all.ensures.ok ∙ rw c.new-text.ensures.items refl)

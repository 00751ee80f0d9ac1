use Rattle.std.proofs.Common.{◌++◌, ◌/◌, ℕ, List, length, refl, ap, ◌∙◌}
use Rattle.qm_listing.proofs.PortalLines.{text_put}
use Rattle.qm_listing.specs.Grammar.{first_line_layout, count_line_layout}
use Rattle.qm_prt.proofs.printing.whole_text.Goals as goal

pub returns : goal.returns
returns c =
    let first = c.in_ok-put_header.ensures ∙ ap (λ (before : List ℕ). before ++ first_line_layout.bytes_of tt) c.new-text.ensures.items in
    let third = c.in_ok-put_count_line-2.ensures ∙ ap (λ (n : ℕ). c.put_count_line.new.out.items ++ count_line_layout.bytes_of (n / 2)) c.portals.ensures in
    text_put c.args.world.now c.leaves.result (length c.args.world.now.portals / 2) _ _ _ _ c.leaves.ensures refl first c.in_ok-put_count_line.ensures third c.in_ok-put_lines.ensures

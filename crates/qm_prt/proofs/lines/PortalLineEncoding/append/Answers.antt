use Rattle.std.proofs.Common.{◌++◌, List, flat_map, ap, ◌∙◌}
use Rattle.qm_listing.specs.declared.listing.Coordinate.{Coordinate}
use Rattle.qm_listing.specs.Grammar.{corner_layout}
use Rattle.qm_listing.proofs.PortalLines.{line_put}
use Rattle.qm_prt.proofs.lines.PortalLineEncoding.append.Goals as goal

pub returns : goal.returns
returns c =
    let corners = c.in_ok-append_all.ensures.ok ∙ ap (λ (items : List (List Coordinate)). c.put_spaced-3.new.out.items ++ flat_map corner_layout.bytes_of items) c.as_slice.ensures in
    line_put _ _ _ _ _ _ c.args.portal.now c.len.result c.len.ensures c.in_ok-put_spaced.ensures c.in_ok-put_spaced-2.ensures c.in_ok-put_spaced-3.ensures corners c.in_ok-push.ensures.items

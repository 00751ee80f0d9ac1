use Rattle.std.proofs.Common.{◌≡◌, true, false, List, [], ◌∷◌, ◌++◌, get_or, ap, ◌∙◌}
use Rattle.qm_space.specs.Turned.{turned}
use Rattle.qm_contacts.specs.Touching.{Touching}
use Rattle.qm_contacts.specs.Portals.{Portal, leaf_number}
use Rattle.qm_contacts.proofs.NumberingLeaves.{number_before}
use Rattle.qm_contacts.proofs.PortalLists.{both_pushed}
use Rattle.qm_portal.proofs.passages.add_both_ways.Goals as goal

pub returns : goal.returns
returns c =
    let tree = c.args.tree.now in
    let before = c.args.before.now in
    let pair = c.args.pair.now in
    let front : get_or before c.pair.inside.front 0 ≡ leaf_number tree pair.front =
    ap (λ (p : Touching). get_or before p.front 0) c.pair.view_is ∙ number_before tree before pair.front c.requires.before c.requires.leaves.front in
    let back : get_or before c.pair.inside.back 0 ≡ leaf_number tree pair.back =
    ap (λ (p : Touching). get_or before p.back 0) c.pair.view_is ∙ number_before tree before pair.back c.requires.before c.requires.leaves.back in
    let onward = c.in_ok-portal_to.ensures ∙ (λ i. record { winding = pair.winding; into = turned false pair.winding.plane; from = front i; to = back i }) in
    let homeward = c.in_ok-portal_to-2.ensures ∙ (λ i. record { winding = pair.winding; into = turned true pair.winding.plane; from = back i; to = front i }) in
    c.in_ok-push-2.ensures.items
    ∙ ap (λ (all : List Portal). all ++ c.in_ok-portal_to-2.field-0 ∷ []) c.in_ok-push.ensures.items
    ∙ both_pushed tree pair c.args.portals.now.items c.in_ok-portal_to.field-0 c.in_ok-portal_to-2.field-0 onward homeward

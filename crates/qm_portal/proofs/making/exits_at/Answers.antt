use Rattle.std.proofs.Common.{◌≡◌, take, sym, ◌∙◌}
use Rattle.std.proofs.lemmas.List.{get_or_default}
use Rattle.qm_lists.proofs.Places.{take-read}
use Rattle.qm_portal.proofs.LeafExits.{one_exit}
use Rattle.qm_portal.proofs.making.exits_at.Goals as goal

pub loop-place-preserved : goal.loop-place-preserved
loop-place-preserved c =
    let portals = c.args.portals.now in
    let places = c.args.places.now in
    let i = c.loop-place.place-index in
    let exit = c.of.result in
    let place : exit.portal ≡ _ = c.of.ensures.number ∙ sym (get_or_default places i exit.portal 0 c.loop-place-test.true) in
    rw (take-read places i exit.portal c.loop-place-test.true place, c.in_ok-push.ensures.items)
    (one_exit portals (take i places) c.loop-place.exits.items exit c.loop-place.invariant c.of.ensures.exit)

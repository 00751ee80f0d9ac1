use Rattle.std.proofs.Common.{◌≡◌, ◌+◌, ◌-◌, ◌^◌, List, take, length, ap, ◌∙◌, arith}
use Rattle.std.specs.Prelude.{min}
use Rattle.std.proofs.lemmas.List.{take_all}
use Rattle.qm_lists.proofs.Places.{take-read}
use Rattle.qm_split.specs.declared.contender.Body.{Body}
use Rattle.qm_split.specs.declared.contender.Contender.{Contender}
use Rattle.qm_split.specs.CellFragments.{pieces_of}
use Rattle.qm_split.proofs.Gatherings.{pieces_of-push}
use Rattle.qm_split.proofs.gathering.Gathering.count.Goals as goal

pub loop-contender-preserved : goal.loop-contender-preserved
loop-contender-preserved c =
    let items = c.deref-contender-items.result.now in
    let i = c.loop-contender.contender-index in
    let contender = c.contender-item.result in
    let own : c.len.result ≡ length contender.body.value.pieces.items = c.len.ensures ∙ ap (λ (b : Body). b.pieces.len) c.deref.ensures ∙ contender.body.value.pieces.ok.0 in
    let more : pieces_of (take (i + 1) items) ≡ pieces_of (take i items) + length contender.body.value.pieces.items =
    ap pieces_of (take-read items i contender c.loop-contender-test.true c.contender-item.is) ∙ pieces_of-push (take i items) contender in
    omega (arith, c.sum_or_most-count.ensures, own, c.loop-contender.invariant, more)

pub returns : goal.returns
returns c =
    c.loop-contender.invariant
    ∙ ap (λ (qs : List Contender). min (pieces_of qs) (2 ^ 64 - 1)) (take_all c.loop-contender.contender-index c.deref-contender-items.result.now c.loop-contender-test.false ∙ c.deref-contender-items.ensures.value)

use Rattle.std.proofs.Common.{List, Some, take, sym, subst, ◌∙◌}
use Rattle.std.proofs.lemmas.List.{take_all}
use Rattle.qm_split.specs.declared.contender.Contender.{Contender}
use Rattle.qm_lists.proofs.Places.{take-read}
use Rattle.qm_split.proofs.RankOrder.{AreLeastRank, least_rank_begins, least_rank_more}
use Rattle.qm_split.proofs.gathering.Gathering.least.Goals as goal

pub loop-contender-init : goal.loop-contender-init
loop-contender-init c = least_rank_begins

pub loop-contender-preserved : goal.loop-contender-preserved
loop-contender-preserved c =
    subst (λ (qs : List Contender). AreLeastRank qs (Some c.first_of.result))
    (sym (take-read c.deref-contender-items.result.now c.loop-contender.contender-index c.contender-item.result c.loop-contender-test.true c.contender-item.is))
    (least_rank_more (take c.loop-contender.contender-index c.deref-contender-items.result.now) c.contender-item.result c.loop-contender.least c.first_of.result c.loop-contender.invariant c.first_of.ensures)

pub returns : goal.returns
returns c =
    subst (λ (qs : List Contender). AreLeastRank qs c.loop-contender.least)
    (take_all c.loop-contender.contender-index c.deref-contender-items.result.now c.loop-contender-test.false ∙ c.deref-contender-items.ensures.value) c.loop-contender.invariant

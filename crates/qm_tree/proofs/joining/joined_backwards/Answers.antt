use Rattle.std.proofs.Common.{List, [], ◌∷◌, reverse, sym, ap, ◌∙◌}
use Rattle.qm_partition.specs.declared.visit.Visit.{Visit}
use Rattle.qm_partition.specs.inner.JoinedWalk.{joined_from}
use Rattle.qm_partition.proofs.JoinedWalks.{joined_from-append}
use Rattle.qm_tree.proofs.joining.joined_backwards.Goals as goal

pub loop-visit-preserved : goal.loop-visit-preserved
loop-visit-preserved c =
    let rest = c.pop.new.self.items in
    let done = reverse c.loop-visit.joined.items in
    ap (joined_from rest) c.in_ok-add_joined.ensures
    ∙ sym (joined_from-append rest (c.in-Some.visit ∷ []) done)
    ∙ ap (λ (walk : List Visit). joined_from walk done) (sym c.in-Some.ensures.items)
    ∙ c.loop-visit.invariant

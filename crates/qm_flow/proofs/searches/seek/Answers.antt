use Rattle.std.proofs.Common.{◌≡◌, ℕ, Bool, true, List, []}
use Rattle.std.proofs.lemmas.Result.{IfOk-weaker}
use Rattle.qm_lists.specs.WorkList.{IsIn}
use Rattle.qm_chains.specs.inner.Wanted.{IsWantedVia}
use Rattle.qm_chains.proofs.Searches.{search_ends}
use Rattle.qm_flow.specs.inner.FlowPairs.{pairs_of}
use Rattle.qm_flow.specs.inner.SearchSoFar.{IsSearchVia}
use Rattle.qm_flow.proofs.searches.seek.Goals as goal

pub returns-clause-ended : goal.returns-clause-ended
returns-clause-ended g c =
    let world = c.args.flow.now.world.now in
    let pairs = (pairs_of c.args.flow.now) in
    let found = c.args.sighted.now in
    let portal = c.args.portal in
    let frames = c.begin.new.stack.frames.items in
    let sighted = c.end_soon.new.sighted in
    IfOk-weaker c.end_soon.result
    (λ ended. ended ≡ true → (number : ℕ) (sought : List Bool) → IsSearchVia world pairs number sought frames c.begin.new.sighted → IsSearchVia world pairs number sought [] sighted)
    (λ ended. ended ≡ true → (n : ℕ) → IsWantedVia world pairs.first found portal n → IsIn sighted n)
    (λ ended all is n wanted. search_ends world pairs.first (λ first m. IsWantedVia world pairs.first found portal m) sighted (all is portal found c.in_ok-begin.ensures.begun).search wanted.wanted.first wanted.wanted.first_is n wanted)
    c.end_soon.ensures.ended

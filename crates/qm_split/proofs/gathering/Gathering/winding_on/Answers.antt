use Rattle.qm_lists.proofs.Places.{Contains-read}
use Rattle.std.proofs.lemmas.Option.{IfSome_then}
use Rattle.qm_split.proofs.gathering.Gathering.winding_on.Goals as goal

pub returns-then-contender-least : goal.returns-then-contender-least
returns-then-contender-least c = IfSome_then c.winding_on.result c.winding_on.ensures
    (λ w is. record {
      contender = c.contender-item.result;
      listed = Contains-read c.deref-contender-items.result.now c.loop-contender.contender-index c.contender-item.result c.loop-contender-test.true c.contender-item.is c.args.self.now.contenders.items c.deref-contender-items.ensures.value;
      one = is;
    })

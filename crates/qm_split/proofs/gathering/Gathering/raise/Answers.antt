use Rattle.std.proofs.Common.{◌≡◌, refl, true, rules, tests}
use Rattle.std.proofs.lemmas.Fn.{filter_same}
use Rattle.qm_split.specs.inner.Gathered.{is_stronger_than}
use Rattle.qm_split.specs.inner.Gathered.Raises.{risen}
use Rattle.qm_split.proofs.gathering.Gathering.raise.Goals as goal

pub returns-then-not-is_reached : goal.returns-then-not-is_reached
returns-then-not-is_reached c = risen
    (λ reached. let is : c.is_reached.result ≡ true = c.is_reached.ensures.1 reached in let not = c.if-not-is_reached.true in cc)
    refl
    (filter_same _ (is_stronger_than c.args.contents) _ (λ x b q k. search (rules, tests)) _ _ c.retain.ensures.filtered)

use Rattle.std.proofs.Common.{List, sym, subst}
use Rattle.qm_space.specs.Plane.{Plane}
use Rattle.qm_space.specs.Book.{AreDistinct}
use Rattle.qm_convex.specs.Winding.{Winding}
use Rattle.qm_separators.specs.Separator.{IsSeparator}
use Rattle.qm_separators.specs.Gains.{HasExactly}
use Rattle.qm_narrow.proofs.separating.separators.Goals as goal

pub returns-clause-exactly : goal.returns-clause-exactly
returns-clause-exactly c =
    subst (λ (planes : List Plane). HasExactly (IsSeparator c.args.source.now c.args.pass.now) planes) (sym c.from_vec.ensures)
    (subst (λ (v : Winding). HasExactly (IsSeparator v c.args.pass.now) c.list_separators.new.planes.items) c.in_ok-source.ensures
    (subst (λ (v : Winding). HasExactly (IsSeparator c.in_ok-source.source v) c.list_separators.new.planes.items) c.in_ok-pass.ensures c.in_ok-list_separators.ensures.exactly))

pub returns-clause-once : goal.returns-clause-once
returns-clause-once c = subst AreDistinct (sym c.from_vec.ensures) c.in_ok-list_separators.ensures.once

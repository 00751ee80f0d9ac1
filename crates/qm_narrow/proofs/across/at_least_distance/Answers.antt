use Rattle.std.proofs.Common.{ap, subst, w64, lit≤}
use Rattle.std.proofs.lemmas.Int.{to_z-of_z}
use Rattle.qm_numbers.proofs.Bits.{kept_32}
use Rattle.qm_space.specs.Vector.{normal_of}
use Rattle.qm_space.specs.Reduced.{IsReduced}
use Rattle.qm_separators.proofs.FoundPlanes.{along_is_reduced}
use Rattle.qm_narrow.proofs.across.at_least_distance.Goals as goal

pub returns-clause-normal : goal.returns-clause-normal
returns-clause-normal c =
    rw (kept_32 c.along.inside.nx _ c.along.invariant.nx_small (lit≤ tt), kept_32 c.along.inside.ny _ c.along.invariant.ny_small (lit≤ tt), kept_32 c.along.inside.nz _ c.along.invariant.nz_small (lit≤ tt))
    (ap normal_of c.along.view_is)

pub returns-clause-least : goal.returns-clause-least
returns-clause-least c = rw (to_z-of_z w64 c.least_distance.result (record { sfits = c.least_distance.type_inv })) c.least_distance.ensures

pub invariant_of-result : goal.invariant_of-result
invariant_of-result c =
    along_is_reduced c.args.source.now c.args.source.now c.args.along.now _ (returns-clause-normal c) (returns-clause-least c)
    c.len-corners.ensures.in_world (subst IsReduced c.along.view_is c.along.invariant) c.requires

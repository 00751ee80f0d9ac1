use Rattle.std.proofs.Common.{subst, sym}
use Rattle.qm_wind.specs.inner.Finding.{HasCornersAcross}
use Rattle.qm_wind.proofs.Clips.{across_flipped}
use Rattle.qm_wind.proofs.winding.Winding.sever.Goals as goal

pub part-requires-clause-across : goal.part-requires-clause-across
part-requires-clause-across c =
    subst (HasCornersAcross c.args.self.now) (sym c.flipped.ensures) (across_flipped c.args.self.now c.args.plane.now c.in-Across.ensures.1)

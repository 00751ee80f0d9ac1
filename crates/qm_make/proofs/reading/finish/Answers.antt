use Rattle.qm_make.proofs.ReadMaps.{enough_means, told_means, told_err}
use Rattle.qm_make.proofs.reading.finish.Goals as goal

pub returns-in-Ok : goal.returns-in-Ok
returns-in-Ok c =
    rw c.in-Ok.is
    (λ before name enough. (
      told_means c.finish.result before name c.told.result c.told.ensures
          (enough_means before name c.args.reader enough c.finish.result c.finish.ensures.means c.finish.ensures.stopped),
      told_err c.finish.result c.told.result c.told.ensures,
    ))

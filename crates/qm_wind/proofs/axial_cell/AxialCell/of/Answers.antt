use Rattle.qm_wind.proofs.PairsAcross.{six_read}
use Rattle.qm_wind.proofs.axial_cell.AxialCell.of.Goals as goal

pub returns : goal.returns
returns c = six_read c.args.bounds.now c.requires _ _ _ _ _ _ c.index-bounds-0.is c.index-bounds-1.is c.index-bounds-2.is c.index-bounds-3.is c.index-bounds-4.is c.index-bounds-5.is

use Rattle.std.proofs.Common.{rules, pos, slice_index_or, FitsSigned, w32}
use Rattle.qm_numbers.proofs.Kept.{widened_32}
use Rattle.qm_geom.proofs.Vectors.{same_vector}
use Rattle.qm_geom.proofs.vector.Vector.of.Goals as goal

pub returns : goal.returns
returns c =
    let f : FitsSigned w32 (slice_index_or c.args.numbers 0 (pos 0)) = search rules in
    let g : FitsSigned w32 (slice_index_or c.args.numbers 1 (pos 0)) = search rules in
    let h : FitsSigned w32 (slice_index_or c.args.numbers 2 (pos 0)) = search rules in
    same_vector _ _ _ _ _ _ (widened_32 _ _ c.from.ensures f) (widened_32 _ _ c.from-2.ensures g) (widened_32 _ _ c.from-3.ensures h)

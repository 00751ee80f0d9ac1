use Rattle.std.proofs.Common.{rules, ◌≡◌, ◌^◌, FitsSigned, sym, subst, w32, w64}
use Rattle.qm_geom.specs.Vectors.{HasSmallComponents}
use Rattle.qm_geom.specs.declared.vector.Vector.{Vector}
use Rattle.qm_numbers.proofs.Kept.{kept, widened_32}
use Rattle.qm_geom.proofs.Vectors.{vector, same_vector}
use Rattle.qm_geom.proofs.plane.Plane.normal.Goals as goal

widened : (c : goal.After-from-3) → vector (kept w64 c.from.result) (kept w64 c.from-2.result) (kept w64 c.from-3.result) ≡ vector c.self.inside.nx c.self.inside.ny c.self.inside.nz
widened c =
    let f : FitsSigned w32 c.self.inside.nx = search rules in
    let g : FitsSigned w32 c.self.inside.ny = search rules in
    let h : FitsSigned w32 c.self.inside.nz = search rules in
    same_vector _ _ _ _ _ _ (widened_32 _ _ c.from.ensures f) (widened_32 _ _ c.from-2.ensures g) (widened_32 _ _ c.from-3.ensures h)

pub returns-clause-exact : goal.returns-clause-exact
returns-clause-exact c = rw (← c.self.view_is) (widened c)

pub returns-clause-size : goal.returns-clause-size
returns-clause-size c =
    subst (λ (v : Vector). HasSmallComponents v (2 ^ 26)) (sym (widened c))
    (record { x_small = c.self.invariant.nx_small; y_small = c.self.invariant.ny_small; z_small = c.self.invariant.nz_small })

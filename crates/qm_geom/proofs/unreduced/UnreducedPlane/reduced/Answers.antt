use Rattle.qm_geom.proofs.Vectors.{plane}
use Rattle.qm_geom.proofs.LowestTerms.{large_by_x, large_by_y, large_by_z, distance_small, divided_is, divided_is_reduced, divided_is_small}
use Rattle.qm_geom.proofs.unreduced.UnreducedPlane.reduced.Goals as goal

pub returns-in_err-component_quotient : goal.returns-in_err-component_quotient
returns-in_err-component_quotient c = rw (c.from_residual.ensures) (large_by_x (plane c.self.inside.nx c.self.inside.ny c.self.inside.nz c.self.inside.d) c.args.self.now c.common_factor-factor.result c.self.invariant c.self.view_is c.common_factor-factor.ensures.value c.in_err-component_quotient.ensures)

pub returns-in_err-component_quotient-2 : goal.returns-in_err-component_quotient-2
returns-in_err-component_quotient-2 c = rw (c.from_residual-in_err-component_quotient-2.ensures) (large_by_y (plane c.self.inside.nx c.self.inside.ny c.self.inside.nz c.self.inside.d) c.args.self.now c.common_factor-factor.result c.self.invariant c.self.view_is c.common_factor-factor.ensures.value c.in_err-component_quotient-2.ensures)

pub returns-in_err-component_quotient-3 : goal.returns-in_err-component_quotient-3
returns-in_err-component_quotient-3 c = rw (c.from_residual-in_err-component_quotient-3.ensures) (large_by_z (plane c.self.inside.nx c.self.inside.ny c.self.inside.nz c.self.inside.d) c.args.self.now c.common_factor-factor.result c.self.invariant c.self.view_is c.common_factor-factor.ensures.value c.in_err-component_quotient-3.ensures)

pub distance_quotient-requires-clause-small : goal.distance_quotient-requires-clause-small
distance_quotient-requires-clause-small c =
    distance_small (plane c.self.inside.nx c.self.inside.ny c.self.inside.nz c.self.inside.d) c.args.self.now c.common_factor-factor.result c.self.invariant c.self.view_is c.common_factor-factor.ensures.value
    c.in_ok-component_quotient.field-0 c.in_ok-component_quotient-2.field-0 c.in_ok-component_quotient-3.field-0 c.in_ok-component_quotient.ensures c.in_ok-component_quotient-2.ensures c.in_ok-component_quotient-3.ensures c.requires.normal c.requires.near

pub invariant_of-result : goal.invariant_of-result
invariant_of-result c =
    divided_is_reduced (plane c.self.inside.nx c.self.inside.ny c.self.inside.nz c.self.inside.d) c.args.self.now c.common_factor-factor.result c.self.invariant c.self.view_is c.common_factor-factor.ensures.value
    c.in_ok-component_quotient.field-0 c.in_ok-component_quotient-2.field-0 c.in_ok-component_quotient-3.field-0 c.in_ok-component_quotient.ensures c.in_ok-component_quotient-2.ensures c.in_ok-component_quotient-3.ensures c.requires.normal c.requires.near
    c.distance_quotient.result c.distance_quotient.ensures

pub returns : goal.returns
returns c = (
  divided_is (plane c.self.inside.nx c.self.inside.ny c.self.inside.nz c.self.inside.d) c.args.self.now c.common_factor-factor.result c.self.invariant c.self.view_is c.common_factor-factor.ensures.value
      c.in_ok-component_quotient.field-0 c.in_ok-component_quotient-2.field-0 c.in_ok-component_quotient-3.field-0 c.in_ok-component_quotient.ensures c.in_ok-component_quotient-2.ensures c.in_ok-component_quotient-3.ensures c.requires.normal c.requires.near
      c.distance_quotient.result c.distance_quotient.ensures,
  divided_is_small (plane c.self.inside.nx c.self.inside.ny c.self.inside.nz c.self.inside.d) c.args.self.now c.common_factor-factor.result c.self.invariant c.self.view_is c.common_factor-factor.ensures.value
      c.in_ok-component_quotient.field-0 c.in_ok-component_quotient-2.field-0 c.in_ok-component_quotient-3.field-0 c.in_ok-component_quotient.ensures c.in_ok-component_quotient-2.ensures c.in_ok-component_quotient-3.ensures c.requires.normal c.requires.near
      c.distance_quotient.result c.distance_quotient.ensures,
)

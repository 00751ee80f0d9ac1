use Rattle.qm_geom.proofs.Lines.{component_small, distance_small, line_sizes, line_of}
use Rattle.qm_geom.proofs.line.Line.of.Goals as goal

pub cross-requires : goal.cross-requires
cross-requires c = record { self_small = c.normal.ensures.size; other_small = c.normal-2.ensures.size }

pub moment-requires : goal.moment-requires
moment-requires c = record {
  first_small = component_small c.a.inside.nx c.a.invariant.nx_small;
  first_distance_small = distance_small c.a.inside.d c.a.invariant.d_small;
  second_small = component_small c.b.inside.nx c.b.invariant.nx_small;
  second_distance_small = distance_small c.b.inside.d c.b.invariant.d_small;
}

pub moment-requires-2 : goal.moment-requires-2
moment-requires-2 c = record {
  first_small = component_small c.a.inside.ny c.a.invariant.ny_small;
  first_distance_small = distance_small c.a.inside.d c.a.invariant.d_small;
  second_small = component_small c.b.inside.ny c.b.invariant.ny_small;
  second_distance_small = distance_small c.b.inside.d c.b.invariant.d_small;
}

pub moment-requires-3 : goal.moment-requires-3
moment-requires-3 c = record {
  first_small = component_small c.a.inside.nz c.a.invariant.nz_small;
  first_distance_small = distance_small c.a.inside.d c.a.invariant.d_small;
  second_small = component_small c.b.inside.nz c.b.invariant.nz_small;
  second_distance_small = distance_small c.b.inside.d c.b.invariant.d_small;
}

pub invariant_of-result : goal.invariant_of-result
invariant_of-result c =
    line_sizes c.cross.result c.moment.result c.moment-2.result c.moment-3.result c.cross.ensures.size c.moment.ensures.size c.moment-2.ensures.size c.moment-3.ensures.size

pub returns : goal.returns
returns c =
    line_of c.args.a.now c.args.b.now _ _ c.normal.result c.normal-2.result c.cross.result c.moment.result c.moment-2.result c.moment-3.result
    c.a.view_is c.b.view_is c.a.invariant c.b.invariant c.normal.ensures.exact c.normal-2.ensures.exact c.cross.ensures.exact
    c.moment.ensures.size c.moment-2.ensures.size c.moment-3.ensures.size c.moment.ensures.exact c.moment-2.ensures.exact c.moment-3.ensures.exact

use Rattle.qm_geom.proofs.Wholes.{are_coordinates, is_same_place}
use Rattle.qm_geom.proofs.whole.whole_point.Goals as goal

pub returns : goal.returns
returns c =
    let x = c.in_ok-whole_coordinate.field-0 in let y = c.in_ok-whole_coordinate-2.field-0 in let z = c.in_ok-whole_coordinate-3.field-0 in (
      are_coordinates c.args.at x y z c.requires c.in_ok-whole_coordinate.ensures c.in_ok-whole_coordinate-2.ensures c.in_ok-whole_coordinate-3.ensures,
      is_same_place c.args.at x y z c.requires c.in_ok-whole_coordinate.ensures c.in_ok-whole_coordinate-2.ensures c.in_ok-whole_coordinate-3.ensures,
    )

use Rattle.std.proofs.Common.{◌<◌, List, length, sym, subst, ◌∙◌}
use Rattle.qm_listing.specs.declared.listing.Coordinate.{Coordinate}
use Rattle.qm_listing.proofs.CornersBack.{first_of_winding}
use Rattle.qm_prt.proofs.coordinates.first_corner_of.Goals as goal

pub first_corner-requires : goal.first_corner-requires
first_corner-requires c = subst (λ (corners : List (List Coordinate)). 0 < length corners) (sym c.deref.ensures.value) c.in_ok-corners.ensures.some

pub returns : goal.returns
returns c =
    first_of_winding c.args.winding.now c.deref.result.now c.first_corner.result (c.deref.ensures.value ∙ c.in_ok-corners.ensures.listed) c.first_corner.ensures.within c.first_corner.ensures.first

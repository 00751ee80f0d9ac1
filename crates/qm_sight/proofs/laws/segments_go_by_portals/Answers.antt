use Rattle.qm_segments.proofs.SegmentLaw.{is_led_by_portals}
use Rattle.qm_sight.proofs.laws.segments_go_by_portals.Goals as goal

pub returns : goal.returns
returns c = λ tree touchings s contents have are generic not_solid clear. is_led_by_portals tree have touchings are s generic contents not_solid clear

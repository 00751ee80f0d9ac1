-- A worked way back: three rooms in a row, whose portals stand in pairs, one each way.
use Rattle.std.proofs.Common.{refl}
use Rattle.qm_coarse_rows.proofs.RoomSamples.{out, in_again}
use Rattle.qm_chains.proofs.ConeSamples.{world}
use Rattle.qm_contacts.specs.World.{LeadsBack}

way_back : LeadsBack world.portals 0 1
way_back = record { there = out; there_is = refl; again = in_again; again_is = refl; winding_is = refl; into_is = refl; from_is = refl; to_is = refl }

use Rattle.std.proofs.Common.{◌≡◌, ◌<◌, ℕ, false, [], length, get_or}
use Rattle.qm_listing.specs.WorldListing.{come_before}
use Rattle.qm_prt.proofs.coordinates.first_corner.Given as goal

-- none of the corners so far comes before the one that was found
abbrev pub invariant-loop-i : goal.invariant-loop-i
invariant-loop-i l = record {
  within : l.first < length l.corners;
  first : (k : ℕ) → k < l.i → come_before (get_or l.corners k []) (get_or l.corners l.first []) ≡ false;
}

-- Where the words of a board lie.
use Rattle.std.proofs.Common.{◌≡◌, ℕ, ◌+◌, ◌*◌, ◌<◌, length, ap, ◌∙◌, arith, suc, ◌≤◌, subst, mul-le-mul_right, suc-mul}
use Rattle.qm_contacts.specs.NumberedLeaves.{numbered_leaves}
use Rattle.qm_contacts.specs.World.{World}
use Rattle.qm_shared_rows.specs.SharedRows.{row_place}
use Rattle.qm_board.specs.WorldSets.{width_of, sets_of}
use Rattle.qm_board.specs.inner.Sizes.{IsSized}
use Rattle.qm_board.specs.Tellings.{IsAtRow}

pub word_within : (world : World) (k : ℕ) → 64 * k < length (numbered_leaves world.tree) → k < width_of world
word_within world k within = omega (arith, within)

-- the place that is computed is that of word k of the row of a portal
pub at_row : (world : World) (words portals width leaves : ℕ) → IsSized world words portals width leaves → (portal k place : ℕ) → place ≡ ((1 + portals) + portal * width) + k → place ≡ row_place (sets_of world) portal k
at_row world words portals width leaves sized portal k place is = is ∙ ap (λ (n : ℕ). ((1 + n) + portal * width) + k) sized.portals_are ∙ ap (λ (n : ℕ). ((1 + length world.portals) + portal * n) + k) sized.width_is

pub is_at_row : (world : World) (words portals width leaves : ℕ) → IsSized world words portals width leaves → (portal k place : ℕ) → portal < length world.portals → k < width_of world → place ≡ ((1 + portals) + portal * width) + k → IsAtRow place world portal k
is_at_row world words portals width leaves sized portal k place inside within is = record {
  portal_in_range = inside;
  word_in_range = within;
  place = at_row world words portals width leaves sized portal k place is;
}

-- a row ends where all rows end, or before
pub row_ends : (portals width portal : ℕ) → portal < portals → ((1 + portals) + portal * width) + width ≤ (1 + portals) + portals * width
row_ends portals width portal inside =
    let over : suc portal * width ≤ portals * width = mul-le-mul_right width inside in
    let low : ℕ = portal * width in
    let high : ℕ = portals * width in
    let next : suc portal * width ≡ low + width = suc-mul portal width in
    let far : low + width ≤ high = subst (λ (n : ℕ). n ≤ high) next over in
    omega (arith, far)

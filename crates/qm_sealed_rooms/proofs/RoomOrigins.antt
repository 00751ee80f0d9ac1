-- Where the player starts in a map of rooms: within the walls.
use Rattle.std.proofs.Common.{◌≡◌, ℕ, ◌≤◌, pos, neg_ℤ, ◌*ℤ◌, ◌<ℤ◌, codes, Some, refl, sym, ap, ◌∙◌, subst, arith}
use Rattle.std.proofs.lemmas.Int.{ints}
use Rattle.qm_numbers.proofs.IntegerProducts.{linear}
use Rattle.qm_numerals.specs.Computed.{answer_of_parts, unsigned_at, read_at}
use Rattle.qm_space.specs.Point.{Point}
use Rattle.qm_grammar.specs.Origin.{origin_key}
use Rattle.qm_grammar.specs.OriginPoint.{IsOriginPoint}
use Rattle.qm_grammar.specs.inner.Machine.{millionths_of, origin_of}
use Rattle.qm_grammar.proofs.OriginTexts.{spelled_origin}
use Rattle.qm_partition.specs.Tree.{Tree}
use Rattle.qm_partition.specs.Ways.{HasPoints}
use Rattle.qm_solid_tree.specs.GivesContents.{GivesContents}
use Rattle.qm_drawn.specs.Solids.{drawn_solids}
use Rattle.qm_contacts.specs.Leak.{Leaks}
use Rattle.qm_rooms.specs.Rooms.{east_end, player_start, rooms_map}
use Rattle.qm_sealed_rooms.proofs.Borders.{IsBehindEach}
use Rattle.qm_sealed_rooms.proofs.Shells.{none_leaks}
use Rattle.qm_sealed_rooms.proofs.BoxSolids.{box_outward, behind_from_strict}
use Rattle.qm_sealed_rooms.proofs.RoomShells.{at_most_times, outer_box, inner_box, rooms_are_shell}

-- the middle of the first room, 24 above its floor, in millionths
abbrev pub start_point : Point
start_point = record { x = neg_ℤ (pos 3536000000); y = pos 0; z = pos 24000000; w = pos 1000000 }

pub start_read : origin_of (codes "-3536 0 24") ≡ Some start_point
unfolding origin_of millionths_of read_at unsigned_at answer_of_parts
start_read = refl

pub start_is : (point : Point) → IsOriginPoint player_start.pairs point → start_point ≡ point
unfolding player_start origin_key
start_is point is =
    let first : Some (codes "-3536 0 24") ≡ Some is.value = is.first in
    let same : codes "-3536 0 24" ≡ is.value = cc in
    let read : Some start_point ≡ Some point = sym start_read ∙ ap origin_of same ∙ spelled_origin is.value point is.spelled in
    cc

module _ (rooms : ℕ) (some : 1 ≤ rooms) (few : rooms ≤ 64) where
  start_within : IsBehindEach (box_outward (outer_box rooms)) start_point
  start_within =
      let most = at_most_times (neg_ℤ (pos 3472)) (east_end rooms) (pos 1000000) (omega (arith, ints)) (omega (arith, ints)) in
      let far : neg_ℤ (pos 3536000000) <ℤ (neg_ℤ (pos 3472) *ℤ pos 1000000) = omega (arith, ints) in
      behind_from_strict (outer_box rooms) start_point (record {
        west = omega (arith, ints);
        east = omega (arith, linear, far, most);
        south = omega (arith, ints);
        north = omega (arith, ints);
        bottom = omega (arith, ints);
        top = omega (arith, ints);
      })

  -- an entity that stands where the player starts does not leak
  pub start_never_leaks : (number : ℕ) (tree : Tree) → GivesContents tree (drawn_solids (rooms_map rooms number)) → HasPoints tree → (entity : ℕ) (point : Point) → IsOriginPoint player_start.pairs point → Leaks tree (record { entity = entity; point = point }) → ⊥
  start_never_leaks number tree gives have entity point is leaks =
      none_leaks tree (drawn_solids (rooms_map rooms number)) (box_outward (outer_box rooms)) (box_outward (inner_box rooms)) gives have (rooms_are_shell rooms some few number)
      (record { entity = entity; point = point })
      (subst (λ (p : Point). pos 0 <ℤ p.w) (start_is point is) (omega (arith, ints)))
      (subst (IsBehindEach (box_outward (outer_box rooms))) (start_is point is) start_within) leaks

use Rattle.std.specs.Prelude.{ℕ, ◌+◌, ◌*◌, ◌/◌, ℤ, pos, Bool, ◌&&◌, ◌||◌, nat_lt, int_lt, unsigned_abs, if◌then◌else◌}
use Rattle.std.specs.Int.{IsGcd}
use Rattle.qm_numbers.proofs.Divisors.{divisor_of_two}
use Rattle.qm_spans.specs.declared.parting.Parting.{Parting}
use Rattle.qm_spans.specs.Place.{PlaceOnSegment}

-- Places by the parts before and behind them, as code holds them. A plane has the values u and v at the two ends.

abbrev pub start_parting : Parting
start_parting = record { before = 0; behind = 1 }

abbrev pub end_parting : Parting
end_parting = record { before = 1; behind = 0 }

-- whether a parting comes before another
abbrev pub is_earlier : Parting → Parting → Bool
is_earlier p q = nat_lt (p.before * q.behind) (q.before * p.behind)

-- whether the ends lie strictly on different sides of the plane
abbrev pub are_opposed : ℤ → ℤ → Bool
are_opposed u v = (int_lt u (pos 0) && int_lt (pos 0) v) || (int_lt v (pos 0) && int_lt (pos 0) u)

-- where the segment crosses the plane then: each end is as far from there as its value says
abbrev pub crossing_at : ℤ → ℤ → Parting
crossing_at u v = record { before = unsigned_abs u; behind = unsigned_abs v }

-- whether it crosses the plane strictly between two partings
unfoldable pub crosses_between : ℤ → ℤ → Parting → Parting → Bool
crosses_between u v from to = are_opposed u v && (is_earlier from (crossing_at u v) && is_earlier (crossing_at u v) to)

-- whether the segment is behind the plane just after a parting: a segment that lies in the plane is in front
unfoldable pub is_behind_after : ℤ → ℤ → Parting → Bool
is_behind_after u v from =
    if are_opposed u v then (if is_earlier from (crossing_at u v) then int_lt u (pos 0) else int_lt v (pos 0))
    else (int_lt u (pos 0) || int_lt v (pos 0))

-- a number divides both parts, and whatever divides both divides it; there is one, and no other, so it does not matter how
-- it is found
unfoldable pub common_part : (p : Parting) → (g : ℕ) × IsGcd p.before p.behind g
common_part p = divisor_of_two p.before p.behind

-- the place in lowest terms
unfoldable pub lowest_place : Parting → PlaceOnSegment
lowest_place p =
    let divisor = (common_part p).0 in
    (p.before / divisor, p.behind / divisor + p.before / divisor)

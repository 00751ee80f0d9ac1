-- A cuboid that grows by one thing after another, and by one corner.
use Rattle.std.proofs.Common.{ℤ, pos, ◌+ℤ◌, ◌-ℤ◌, ◌*ℤ◌, ◌≤ℤ◌, ◌<ℤ◌, arith, ◌↔◌, ⊎_elim}
use Rattle.std.proofs.Math.IntN.{*ℤ_comm}
use Rattle.qm_numbers.specs.Rounding.{IsRoundedDown, IsRoundedUp}
use Rattle.qm_numbers.proofs.IntegerProducts.{linear}
use Rattle.qm_numbers.proofs.Signs.{by_least, times_at_most}
use Rattle.qm_space.specs.Point.{Point}
use Rattle.qm_space.specs.Cuboid.{Stretch, Cuboid, IsInStretch, IsInCuboid}
use Rattle.qm_facets.specs.Extent.{IsStretchWithin, IsCuboidWithin}
use Rattle.qm_facets.specs.inner.Joined.{IsJoined, IsLowerEnd, IsHigherEnd}

-- ---- cuboids in one another

pub within_itself : (c : Cuboid) → IsCuboidWithin c c
within_itself c = record {
  x = record { low = omega (arith, linear); high = omega (arith, linear) };
  y = record { low = omega (arith, linear); high = omega (arith, linear) };
  z = record { low = omega (arith, linear); high = omega (arith, linear) };
}

stretch_within_next : (a b c : Stretch) → IsStretchWithin a b → IsStretchWithin b c → IsStretchWithin a c
stretch_within_next a b c first second = record { low = omega (arith, linear, first.low, second.low); high = omega (arith, linear, first.high, second.high) }

pub within_next : (a b c : Cuboid) → IsCuboidWithin a b → IsCuboidWithin b c → IsCuboidWithin a c
within_next a b c first second = record {
  x = stretch_within_next a.x b.x c.x first.x second.x;
  y = stretch_within_next a.y b.y c.y first.y second.y;
  z = stretch_within_next a.z b.z c.z first.z second.z;
}

wider_stretch : (inner outer : Stretch) (c w : ℤ) → IsStretchWithin inner outer → pos 0 <ℤ w → IsInStretch inner c w → IsInStretch outer c w
wider_stretch inner outer c w within weight is =
    let low = times_at_most w outer.low inner.low (omega (arith, linear)) within.low in
    let high = times_at_most w inner.high outer.high (omega (arith, linear)) within.high in
    let e = *ℤ_comm w outer.low in let f = *ℤ_comm w inner.low in let g = *ℤ_comm w inner.high in let h = *ℤ_comm w outer.high in
    record { above = omega (arith, linear, low, e, f, is.above); below = omega (arith, linear, high, g, h, is.below) }

pub in_wider : (inner outer : Cuboid) (p : Point) → IsCuboidWithin inner outer → pos 0 <ℤ p.w → IsInCuboid inner p → IsInCuboid outer p
in_wider inner outer p within weight is = record {
  x = wider_stretch inner.x outer.x p.x p.w within.x weight is.x;
  y = wider_stretch inner.y outer.y p.y p.w within.y weight is.y;
  z = wider_stretch inner.z outer.z p.z p.w within.z weight is.z;
}

-- ---- one thing after another

pub joined_nothing : (old : Cuboid) (Has : Cuboid → Type 0) → ((c : Cuboid) → Has c) → IsJoined old Has old
joined_nothing old Has all = record { has_old = within_itself old; has = all old; least = λ other wider has. wider }

pub joined_same : (old new : Cuboid) (Has Also : Cuboid → Type 0) → ((c : Cuboid) → Has c ↔ Also c) → IsJoined old Has new → IsJoined old Also new
joined_same old new Has Also same joined = record {
  has_old = joined.has_old;
  has = (same new).0 joined.has;
  least = λ other wider also. joined.least other wider ((same other).1 also);
}

pub joined_more : (old mid new : Cuboid) (First Second Both : Cuboid → Type 0) → ((c d : Cuboid) → IsCuboidWithin c d → First c → First d) → ((c : Cuboid) → (First c × Second c) ↔ Both c) →
    IsJoined old First mid → IsJoined mid Second new → IsJoined old Both new
joined_more old mid new First Second Both wider_has both first second = record {
  has_old = within_next old mid new first.has_old second.has_old;
  has = (both new).0 (wider_has mid new second.has_old first.has, second.has);
  least = λ other wider has. let its = (both other).1 has in second.least other (first.least other wider its.0) its.1;
}

-- ---- one corner

module _ (coordinate w : ℤ) (weight : pos 0 <ℤ w) where
  below_rounded : (low other : ℤ) → IsRoundedDown coordinate w low → (other *ℤ w) ≤ℤ coordinate → other ≤ℤ low
  below_rounded low other is fits = by_least low other
      (λ less.
      let p = times_at_most w (low +ℤ pos 1) other (omega (arith, linear)) (omega (arith, linear)) in
      let e = *ℤ_comm w (low +ℤ pos 1) in let f = *ℤ_comm w other in let n = is.next in
      absurd (omega (arith, linear, p, e, f, n, fits)))
      (λ not. not)

  above_rounded : (high other : ℤ) → IsRoundedUp coordinate w high → coordinate ≤ℤ (other *ℤ w) → high ≤ℤ other
  above_rounded high other is fits = by_least other high
      (λ less.
      let p = times_at_most w other (high -ℤ pos 1) (omega (arith, linear)) (omega (arith, linear)) in
      let e = *ℤ_comm w (high -ℤ pos 1) in let f = *ℤ_comm w other in let n = is.previous in
      absurd (omega (arith, linear, p, e, f, n, fits)))
      (λ not. not)

  at_least_end : (old found new other : ℤ) → IsLowerEnd old found new → other ≤ℤ old → other ≤ℤ found → other ≤ℤ new
  at_least_end old found new other is first second = ⊎_elim (λ e. omega (arith, linear, e, first)) (λ e. omega (arith, linear, e, second)) is.is_one

  at_most_end : (old found new other : ℤ) → IsHigherEnd old found new → old ≤ℤ other → found ≤ℤ other → new ≤ℤ other
  at_most_end old found new other is first second = ⊎_elim (λ e. omega (arith, linear, e, first)) (λ e. omega (arith, linear, e, second)) is.is_one

  module _ (old new : Stretch) (low high : ℤ) (down : IsRoundedDown coordinate w low) (up : IsRoundedUp coordinate w high) (lower : IsLowerEnd old.low low new.low) (higher : IsHigherEnd old.high high new.high) where
    old_within : IsStretchWithin old new
    old_within = record { low = lower.old_not_less; high = higher.old_not_more }

    has_coordinate : IsInStretch new coordinate w
    has_coordinate =
        let p = times_at_most w new.low low (omega (arith, linear)) lower.found_not_less in
        let q = times_at_most w high new.high (omega (arith, linear)) higher.found_not_more in
        let e = *ℤ_comm w new.low in let f = *ℤ_comm w low in let g = *ℤ_comm w high in let h = *ℤ_comm w new.high in
        record { above = omega (arith, linear, p, e, f, down.at_most); below = omega (arith, linear, q, g, h, up.at_least) }

    least_stretch : (other : Stretch) → IsStretchWithin old other → IsInStretch other coordinate w → IsStretchWithin new other
    least_stretch other wider has = record {
      low = at_least_end old.low low new.low other.low lower wider.low (below_rounded low other.low down has.above);
      high = at_most_end old.high high new.high other.high higher wider.high (above_rounded high other.high up has.below);
    }

-- a stretch and the coordinate of a corner, rounded down and up
pub record IsWidenedBy (coordinate w : ℤ) (old new : Stretch) : Type 0 where
  pub low : ℤ
  pub high : ℤ
  pub down : IsRoundedDown coordinate w low
  pub up : IsRoundedUp coordinate w high
  pub lower : IsLowerEnd old.low low new.low
  pub higher : IsHigherEnd old.high high new.high

pub corner_joined : (old new : Cuboid) (p : Point) → pos 0 <ℤ p.w → IsWidenedBy p.x p.w old.x new.x → IsWidenedBy p.y p.w old.y new.y → IsWidenedBy p.z p.w old.z new.z → IsJoined old (λ c. IsInCuboid c p) new
corner_joined old new p weight x y z = record {
  has_old = record {
    x = old_within p.x p.w weight old.x new.x x.low x.high x.down x.up x.lower x.higher;
    y = old_within p.y p.w weight old.y new.y y.low y.high y.down y.up y.lower y.higher;
    z = old_within p.z p.w weight old.z new.z z.low z.high z.down z.up z.lower z.higher;
  };
  has = record {
    x = has_coordinate p.x p.w weight old.x new.x x.low x.high x.down x.up x.lower x.higher;
    y = has_coordinate p.y p.w weight old.y new.y y.low y.high y.down y.up y.lower y.higher;
    z = has_coordinate p.z p.w weight old.z new.z z.low z.high z.down z.up z.lower z.higher;
  };
  least = λ other wider has. record {
    x = least_stretch p.x p.w weight old.x new.x x.low x.high x.down x.up x.lower x.higher other.x wider.x has.x;
    y = least_stretch p.y p.w weight old.y new.y y.low y.high y.down y.up y.lower y.higher other.y wider.y has.y;
    z = least_stretch p.z p.w weight old.z new.z z.low z.high z.down z.up z.lower z.higher other.z wider.z has.z;
  };
}

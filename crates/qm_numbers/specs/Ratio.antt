use Rattle.std.specs.Prelude.{ℤ, ◌*ℤ◌, ◌≤ℤ◌}

-- over / under, for under above 0
pub record Ratio : Type 0 where
  pub over : ℤ
  pub under : ℤ

-- ratios are compared by the cross products
abbrev pub IsAtMostRatio : Ratio → Ratio → Type 0
IsAtMostRatio r s = (r.over *ℤ s.under) ≤ℤ (s.over *ℤ r.under)

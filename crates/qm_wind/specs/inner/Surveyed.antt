use Rattle.std.specs.Prelude.{◌≡◌, ℕ, suc, ◌<◌, pos, ◌≤ℤ◌, Bool, not, ◌&&◌, ◌||◌, if◌then◌else◌, ◌⊎◌, length}
use Rattle.std.specs.Bool.{MatchBool}
use Rattle.std.specs.Ordering.{is_gt, is_lt}
use Rattle.std.specs.declared.cmp.Ordering.{Ordering}
use Rattle.qm_space.specs.Plane.{Plane, value, flipped}
use Rattle.qm_convex.specs.Winding.{Winding, next_place, corner_at}
use Rattle.qm_convex.specs.Sides.{HasCornerInFront, HasNoCornerInFront}
use Rattle.qm_convex.specs.inner.FrontRun.{EntersFrontAt, LeavesFrontAt}
use Rattle.qm_wind.specs.declared.survey.Run.{Run}
use Rattle.qm_wind.specs.declared.survey.Survey.{Survey}

-- with the corner at a place, after the one before it
abbrev pub noted : Run → Bool → Bool → ℕ → Run
noted run was is place = record {
  some = run.some || is;
  start = if is && not was then place else run.start;
  end = if was && not is then place else run.end;
}

-- a survey of the first corner alone
abbrev pub begun : Ordering → Survey
begun first = record {
  front = record { some = is_gt first; start = 0; end = 0 };
  back = record { some = is_lt first; start = 0; end = 0 };
}

-- and with the corner at a place, after the one before it
abbrev pub surveyed : Survey → Ordering → Ordering → ℕ → Survey
surveyed s before here place = record {
  front = noted s.front (is_gt before) (is_gt here) place;
  back = noted s.back (is_lt before) (is_lt here) place;
}

-- the border comes to the front before the corner at a place
pub record IsStart (v : Winding) (g : Plane) (place : ℕ) : Type 0 where
  pub before : ℕ
  pub in_range : before < length v.edges
  pub next : next_place (length v.edges) before ≡ place
  pub enters : EntersFrontAt v g before

-- the border has left the front at the corner at a place
pub record IsEnd (v : Winding) (g : Plane) (place : ℕ) : Type 0 where
  pub before : ℕ
  pub in_range : before < length v.edges
  pub next : next_place (length v.edges) before ≡ place
  pub leaves : LeavesFrontAt v g before

-- what is known of the corners in front of a plane
pub record IsRun (v : Winding) (g : Plane) (run : Run) : Type 0 where
  pub some : MatchBool run.some (HasCornerInFront v g) (HasNoCornerInFront v g)
  pub start : IsStart v g run.start ⊎ ((i : ℕ) → i < length v.edges → EntersFrontAt v g i → ⊥)
  pub end : IsEnd v g run.end ⊎ ((i : ℕ) → i < length v.edges → LeavesFrontAt v g i → ⊥)

-- what is known of those among the first corners, and of the edges between these
pub record IsRunBelow (v : Winding) (g : Plane) (count : ℕ) (run : Run) : Type 0 where
  pub some : MatchBool run.some (HasCornerInFront v g) ((i : ℕ) → i < count → value g (corner_at v i) ≤ℤ pos 0)
  pub start : IsStart v g run.start ⊎ ((i : ℕ) → suc i < count → EntersFrontAt v g i → ⊥)
  pub end : IsEnd v g run.end ⊎ ((i : ℕ) → suc i < count → LeavesFrontAt v g i → ⊥)

-- what is known of the corners on both sides of a plane
pub record IsSurvey (v : Winding) (g : Plane) (s : Survey) : Type 0 where
  pub front : IsRun v g s.front
  pub back : IsRun v (flipped g) s.back

pub record IsSurveyBelow (v : Winding) (g : Plane) (count : ℕ) (s : Survey) : Type 0 where
  pub front : IsRunBelow v g count s.front
  pub back : IsRunBelow v (flipped g) count s.back

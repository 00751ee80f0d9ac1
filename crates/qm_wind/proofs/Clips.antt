-- What a survey of the corners says of a winding.
use Rattle.std.proofs.Common.{◌≡◌, ℕ, ◌<◌, Bool, true, false, pos, ◌≤ℤ◌, ⊎_elim, Option, None, Some, List, length, ap, sym, ◌∙◌, subst, arith}
use Rattle.std.proofs.lemmas.Bool.{MatchBool-at_true, MatchBool-at_false}
use Rattle.qm_space.specs.Plane.{Plane, value, flipped}
use Rattle.qm_numbers.proofs.IntegerProducts.{linear}
use Rattle.qm_space.proofs.Planes.{value_flipped}
use Rattle.qm_space.proofs.ReducedPlanes.{flipped_twice}
use Rattle.qm_convex.specs.Winding.{Winding, corner_at, IsConvex}
use Rattle.qm_convex.specs.Rotation.{place_after}
use Rattle.qm_convex.specs.Sides.{HasCornerInFront, HasCornerBehind, HasNoCornerInFront, HasNoneInFront, HasSomeInFront, IsWhollyInFront, LiesIn}
use Rattle.qm_convex.specs.Cut.{IsPartInFront}
use Rattle.qm_convex.specs.World.{MissesCube, IsWorldPart}
use Rattle.qm_convex.specs.Section.{IsSection, MissesCell}
use Rattle.qm_space.specs.Cube.{cube_walls}
use Rattle.qm_convex.proofs.Squares.{world_part_of_section, misses_cube_by_walls}
use Rattle.qm_convex.specs.inner.FrontRun.{IsFrontRun}
use Rattle.qm_convex.proofs.Places.{next_below}
use Rattle.qm_convex.proofs.Central.{none_in_front, some_in_front, wholly_in_front, lies_in}
use Rattle.qm_convex.proofs.Runs.{run_between, enters_somewhere, leaves_somewhere}
use Rattle.std.specs.Bool.{MatchBool}
use Rattle.std.specs.Option.{MatchOption}
use Rattle.qm_convex.proofs.Cutting.{whole_is_part}
use Rattle.qm_wind.specs.Split.{IsSplit}
use Rattle.qm_wind.specs.declared.survey.Run.{Run}
use Rattle.qm_wind.specs.declared.survey.Survey.{Survey}
use Rattle.qm_wind.specs.inner.Surveyed.{IsStart, IsEnd, IsRun, IsSurvey}
use Rattle.qm_wind.specs.inner.Finding.{HasCornersAcross}

-- ---- the two sides

pub behind_of_back : (v : Winding) (g : Plane) → HasCornerInFront v (flipped g) → HasCornerBehind v g
behind_of_back v g b = (b.0, b.1, let k = value_flipped g (corner_at v b.0) in let l = b.2 in omega (arith, linear))

pub across_flipped : (v : Winding) (g : Plane) → HasCornersAcross v g → HasCornersAcross v (flipped g)
across_flipped v g a = record { front = a.back; back = subst (HasCornerInFront v) (sym (flipped_twice g)) a.front }

pub front_is_whole : (v : Winding) (g : Plane) → IsWhollyInFront v g → HasNoneInFront v (flipped g)
front_is_whole v g a p r = let e = value_flipped g p in let f = a p r in omega (arith, linear)

pub back_is_gone : (v : Winding) (g : Plane) → IsWhollyInFront v (flipped g) → HasNoneInFront v g
back_is_gone v g a p r = let e = value_flipped g p in let f = a p r in omega (arith, linear)

pub on_is_gone : (v : Winding) (g : Plane) → LiesIn v g → HasNoneInFront v g
on_is_gone v g a p r = let f = a p r in omega (arith, linear)

pub on_is_gone_behind : (v : Winding) (g : Plane) → LiesIn v g → HasNoneInFront v (flipped g)
on_is_gone_behind v g a p r = let e = value_flipped g p in let f = a p r in omega (arith, linear)

-- ---- what a survey found

module _ (v : Winding) (g : Plane) (s : Survey) (c : IsConvex v) (x : IsSurvey v g s) where
  pub survey_front : s.front.some ≡ true → HasCornerInFront v g
  survey_front e = MatchBool-at_true (HasCornerInFront v g) (HasNoCornerInFront v g) e x.front.some

  no_front : s.front.some ≡ false → HasNoCornerInFront v g
  no_front e = MatchBool-at_false (HasCornerInFront v g) (HasNoCornerInFront v g) e x.front.some

  pub survey_back : s.back.some ≡ true → HasCornerInFront v (flipped g)
  survey_back e = MatchBool-at_true (HasCornerInFront v (flipped g)) (HasNoCornerInFront v (flipped g)) e x.back.some

  no_back : s.back.some ≡ false → HasNoCornerInFront v (flipped g)
  no_back e = MatchBool-at_false (HasCornerInFront v (flipped g)) (HasNoCornerInFront v (flipped g)) e x.back.some

  not_behind : s.back.some ≡ false → (i : ℕ) → i < length v.edges → pos 0 ≤ℤ value g (corner_at v i)
  not_behind e i h = let k = no_back e i h in let f = value_flipped g (corner_at v i) in omega (arith, linear)

  pub survey_gone : s.front.some ≡ false → HasNoneInFront v g
  survey_gone e = (none_in_front v g c).1 (no_front e)

  pub survey_whole : s.front.some ≡ true → s.back.some ≡ false → IsWhollyInFront v g
  survey_whole e f = (wholly_in_front v g c).1 (not_behind f, survey_front e)

  pub survey_behind : s.front.some ≡ false → s.back.some ≡ true → IsWhollyInFront v (flipped g)
  survey_behind e f = (wholly_in_front v (flipped g) c).1 ((λ i h. let k = no_front e i h in let m = value_flipped g (corner_at v i) in omega (arith, linear)), survey_back f)

  pub survey_on : s.front.some ≡ false → s.back.some ≡ false → LiesIn v g
  survey_on e f = (lies_in v g c).1 (λ i h. let k = no_front e i h in let m = not_behind f i h in omega (arith, linear))

-- where some corners are on either side, some points are
pub some_across : (v : Winding) (g : Plane) → IsConvex v → HasCornersAcross v g → HasSomeInFront v g × HasSomeInFront v (flipped g)
some_across v g c a = ((some_in_front v g c).1 a.front, (some_in_front v (flipped g) c).1 a.back)

-- a winding wholly on one side is its part there, and has none on the other
pub split_front : (v : Winding) (g : Plane) → IsConvex v → IsWhollyInFront v g → IsSplit (record { front = Some v; back = None }) v g
split_front v g c a = record { front = whole_is_part v g c a; back = front_is_whole v g a }

pub split_back : (v : Winding) (g : Plane) → IsConvex v → IsWhollyInFront v (flipped g) → IsSplit (record { front = None; back = Some v }) v g
split_back v g c a = record { front = back_is_gone v g a; back = whole_is_part v (flipped g) c a }

pub split_on : (v : Winding) (g : Plane) → LiesIn v g → IsSplit (record { front = None; back = None }) v g
split_on v g a = record { front = on_is_gone v g a; back = on_is_gone_behind v g a }

-- ---- with corners on both sides, both ends of the run were found

module _ (v : Winding) (g : Plane) (run : Run) (c : IsConvex v) (x : IsRun v g run) (front : HasCornerInFront v g) (behind : HasCornerBehind v g) where
  start : IsStart v g run.start
  start = ⊎_elim (λ a. a) (λ a. let b = enters_somewhere v g front behind in absurd (a b.0 b.1 b.2)) x.start

  end : IsEnd v g run.end
  end = ⊎_elim (λ a. a) (λ a. let b = leaves_somewhere v g front behind in absurd (a b.0 b.1 b.2)) x.end

  pub run_start_below : run.start < length v.edges
  run_start_below = subst (λ i. i < length v.edges) start.next (next_below (length v.edges) start.before start.in_range)

  pub run_end_below : run.end < length v.edges
  run_end_below = subst (λ i. i < length v.edges) end.next (next_below (length v.edges) end.before end.in_range)

  pub run_ends_differ : run.start ≡ run.end → ⊥
  run_ends_differ h =
      let a = start.enters.1 in
      let b = end.leaves.1 in
      let k = ap (λ i. value g (corner_at v i)) (start.next ∙ h ∙ sym end.next) in
      omega (arith, linear)

  pub front_run : (count : ℕ) → count < length v.edges → place_after (length v.edges) run.start count ≡ run.end → IsFrontRun v g run.start count
  front_run count h p =
      subst (λ i. IsFrontRun v g i count) start.next
      (run_between v g start.before end.before count c behind start.in_range start.enters end.in_range end.leaves h
      (ap (λ i. place_after (length v.edges) i count) start.next ∙ p ∙ sym end.next))

-- what is kept of a winding in front of a plane, where it is another
pub none_kept : (u v w : Winding) (g : Plane) (some : Bool) → u ≡ v → some ≡ false → MatchBool some (IsPartInFront w u g) (HasNoneInFront u g) → HasNoneInFront v g
none_kept u v w g some e f m = subst (λ t. HasNoneInFront t g) e (MatchBool-at_false (IsPartInFront w u g) (HasNoneInFront u g) f m)

pub some_kept : (u v w : Winding) (g : Plane) (some : Bool) → u ≡ v → some ≡ true → MatchBool some (IsPartInFront w u g) (HasNoneInFront u g) → IsPartInFront w v g
some_kept u v w g some e f m = subst (λ t. IsPartInFront w t g) e (MatchBool-at_true (IsPartInFront w u g) (HasNoneInFront u g) f m)

-- the part of a plane in the cell of the walls is its part inside the cube
pub part_in_cube : (bounds : List Plane) (h : Plane) (part : Option Winding) → bounds ≡ cube_walls →
    MatchOption part (MissesCell bounds h) (λ w. IsSection bounds h w) → MatchOption part (MissesCube h) (λ w. IsWorldPart w h)
part_in_cube bounds h None e m = misses_cube_by_walls h (subst (λ (cell : List Plane). MissesCell cell h) e m)
part_in_cube bounds h (Some w) e m = world_part_of_section w h (subst (λ (cell : List Plane). IsSection cell h w) e m)

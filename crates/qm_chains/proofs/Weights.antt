-- A walk ends: what is left to do grows less, since a frame with one leaf fewer to meet weighs less than the portal that leads
-- to it.
use Rattle.std.proofs.Common.{pow-suc, add-mul, suc-mul, mul_comm, cond, ◌≡◌, ℕ, zero, suc, ◌+◌, ◌-◌, ◌*◌, ◌^◌, ◌<◌, ◌≤◌, Bool, true, false, not, List, [], ◌∷◌, length, get_or, set, Contains, refl, ap, ◌∙◌, arith}
use Rattle.std.specs.List.{count_by}
use Rattle.std.specs.List.Sorted.{IsStrictlyIncreasing}
use Rattle.std.proofs.Math.Nat.{pow-zero}
use Rattle.std.proofs.lemmas.List.Sums.{sum_by-set}
use Rattle.qm_contacts.specs.World.{World}
use Rattle.qm_chains.specs.inner.Frame.{Frame, put_back}
use Rattle.qm_chains.specs.inner.Walk.{frame_weight}

-- ---- numbers that ascend below a bound are no more than it

at_least_place : (xs : List ℕ) → IsStrictlyIncreasing xs → (k : ℕ) → k < length xs → k ≤ get_or xs k 0
at_least_place xs up zero within = omega arith
at_least_place xs up (suc k) within =
    let before = at_least_place xs up k (omega (arith, within)) in
    let next : get_or xs k 0 < get_or xs (k + 1) 0 = up k (omega (arith, within)) in
    let same : get_or xs (k + 1) 0 ≡ get_or xs (suc k) 0 = ap (λ n. get_or xs n 0) (let e : k + 1 ≡ suc k = omega arith in e) in
    omega (arith, before, next, same)

pub few_ascend : (xs : List ℕ) (bound : ℕ) → IsStrictlyIncreasing xs → ((x : ℕ) → Contains xs x → x < bound) → length xs ≤ bound
few_ascend [] bound up below = omega arith
few_ascend (x ∷ xs) bound up below =
    let at = at_least_place (x ∷ xs) up (length xs) (omega arith) in
    let last : get_or (x ∷ xs) (length xs) 0 < bound = below (get_or (x ∷ xs) (length xs) 0) (length xs, omega arith, default xs x) in
    omega (arith, at, last)
  where
    default : (ys : List ℕ) (y : ℕ) → get_or (y ∷ ys) (length ys) (get_or (y ∷ ys) (length ys) 0) ≡ get_or (y ∷ ys) (length ys) 0
    default [] y = refl
    default (z ∷ ys) y = default ys z

-- ---- one leaf fewer to meet

pub fewer_clear : (row : List Bool) (place : ℕ) → place < length row → get_or row place false ≡ false → count_by not (set row place true) < count_by not row
fewer_clear row place within clear =
    let parts : ◌≡◌ {A = ℕ} (count_by not (set row place true) + cond (not (get_or row place false)) 1 0) (count_by not row + 0) = sum_by-set (λ s. cond (not s) 1 0) row place true false within in
    let here : ◌≡◌ {A = ℕ} (cond (not (get_or row place false)) 1 0) 1 = ap (λ (s : Bool). cond (not s) 1 0) clear in
    omega (arith, parts, here)

-- ---- weights

module _ (base : ℕ) where
  -- a power is no less than one of a lesser exponent
  power_more : (a d : ℕ) → (base + 2) ^ a ≤ (base + 2) ^ (d + a)
  power_more a zero =
      let same : (base + 2) ^ (0 + a) ≡ (base + 2) ^ a = ap (λ (n : ℕ). (base + 2) ^ n) (let e : 0 + a ≡ a = omega arith in e) in
      omega (arith, same)
  power_more a (suc d) =
      let less = power_more a d in
      let next = pow-suc (base + 2) (d + a) in
      let parts = add-mul base 2 ((base + 2) ^ (d + a)) in
      let turned = mul_comm ((base + 2) ^ (d + a)) (base + 2) in
      let same : (base + 2) ^ (suc d + a) ≡ (base + 2) ^ suc (d + a) = ap (λ (n : ℕ). (base + 2) ^ n) (let e : suc d + a ≡ suc (d + a) = omega arith in e) in
      omega (arith, less, next, parts, turned, same)

  pub power_some : (a : ℕ) → 0 < (base + 2) ^ a
  power_some a =
      let more = power_more 0 a in
      let one = pow-zero (base + 2) in
      let end : (base + 2) ^ (a + 0) ≡ (base + 2) ^ a = ap (λ (n : ℕ). (base + 2) ^ n) (let e : a + 0 ≡ a = omega arith in e) in
      omega (arith, more, one, end)

  -- what a frame weighs that has at most so many portals to try, and fewer leaves to meet
  child_less : (untried fewer clear : ℕ) → untried < base + 1 → fewer < clear → (1 + untried) * (base + 2) ^ fewer < (base + 2) ^ clear
  child_less untried fewer clear few less =
      let some = power_some fewer in
      let more = power_more (suc fewer) (clear - suc fewer) in
      let end : (base + 2) ^ (clear - suc fewer + suc fewer) ≡ (base + 2) ^ clear = ap (λ (n : ℕ). (base + 2) ^ n) (let e : clear - suc fewer + suc fewer ≡ clear = omega (arith, less) in e) in
      let next = pow-suc (base + 2) fewer in
      let turned = mul_comm ((base + 2) ^ fewer) (base + 2) in
      let count : (1 + untried) + suc (base - untried) ≡ base + 2 = omega (arith, few) in
      let parted : ((1 + untried) + suc (base - untried)) * (base + 2) ^ fewer ≡ (base + 2) * (base + 2) ^ fewer = ap (λ (n : ℕ). n * (base + 2) ^ fewer) count in
      let parts = add-mul (1 + untried) (suc (base - untried)) ((base + 2) ^ fewer) in
      let last = suc-mul (base - untried) ((base + 2) ^ fewer) in
      omega (arith, some, more, end, next, turned, parted, parts, last)

-- a portal is taken off a frame, and the chain goes on through it
pub weight_parts : (world : World) (frame : Frame) (number : ℕ) → frame_weight world (put_back number frame) ≡ frame_weight world frame + (length world.portals + 2) ^ count_by not frame.met
weight_parts world frame number =
    let power = (length world.portals + 2) ^ count_by not frame.met in
    ap (λ (n : ℕ). n * (length world.portals + 2) ^ count_by not frame.met) (let e : 1 + suc (length frame.untried) ≡ suc (1 + length frame.untried) = omega arith in e) ∙ suc-mul (1 + length frame.untried) power

pub weight_of_child : (world : World) (frame child : Frame) → length child.untried < length world.portals + 1 → count_by not child.met < count_by not frame.met → frame_weight world child < (length world.portals + 2) ^ count_by not frame.met
weight_of_child world frame child few fewer = child_less (length world.portals) (length child.untried) (count_by not child.met) (count_by not frame.met) few fewer

-- a frame weighs something
pub weight_some : (world : World) (frame : Frame) → 0 < frame_weight world frame
weight_some world frame =
    let power = (length world.portals + 2) ^ count_by not frame.met in
    let some = power_some (length world.portals) (count_by not frame.met) in
    let parts = suc-mul (length frame.untried) power in
    let same : (1 + length frame.untried) * power ≡ suc (length frame.untried) * power = ap (λ (n : ℕ). n * power) (let e : 1 + length frame.untried ≡ suc (length frame.untried) = omega arith in e) in
    omega (arith, some, parts, same)

-- Counts that stop at a limit.
use Rattle.std.proofs.Common.{◌≡◌, ℕ, ◌+◌, ◌-◌, ◌^◌, ◌<◌, min, Bool, List, ◌∷◌, [], ◌++◌, take, length, get_or, ⊎_elim, sym, ap, ◌∙◌, arith}
use Rattle.std.specs.List.{sum_by, count_by}
use Rattle.std.proofs.lemmas.Bool.{cases_lt}
use Rattle.std.proofs.lemmas.List.{take_more}
use Rattle.std.proofs.lemmas.List.Sums.{sum_by_push}
use Rattle.std.proofs.Math.Nat.{min-eq_left, min-eq_right}
use Rattle.qm_coarse_rows.specs.Seen.{seen_of}

-- to stop at the limit before one adds more changes nothing
pub stopped : (a b most : ℕ) → min (min a most + b) most ≡ min (a + b) most
stopped a b most = ⊎_elim
    (λ less. ap (λ (n : ℕ). min (n + b) most) (min-eq_left {n = a} {m = most} (omega (arith, less))))
    (λ more.
    let first : min a most ≡ most = min-eq_right {n = most} {m = a} more in
    ap (λ (n : ℕ). min (n + b) most) first ∙ min-eq_right {n = most} {m = most + b} (omega arith) ∙ sym (min-eq_right {n = most} {m = a + b} (omega (arith, more))))
    (cases_lt a most)

-- one row more
pub seen_more : (rows : List (List Bool)) (i : ℕ) (row : List Bool) → i < length rows → row ≡ get_or rows i row → seen_of (take (i + 1) rows) ≡ min (seen_of (take i rows) + count_by (λ set. set) row) (2 ^ 64 - 1)
unfolding seen_of
seen_more rows i row within is =
    let so_far = sum_by (count_by (λ set. set)) (take i rows) in
    ap (λ (list : List (List Bool)). min (sum_by (count_by (λ set. set)) list) (2 ^ 64 - 1)) (take_more rows i row within ∙ ap (λ (r : List Bool). take i rows ++ r ∷ []) (sym is))
    ∙ ap (λ (n : ℕ). min n (2 ^ 64 - 1)) (sum_by_push (count_by (λ set. set)) (take i rows) row)
    ∙ sym (stopped so_far (count_by (λ set. set) row) (2 ^ 64 - 1))

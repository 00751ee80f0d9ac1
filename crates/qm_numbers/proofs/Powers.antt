-- Powers of 3: two lower ones are less than a higher one.
use Rattle.std.proofs.Common.{ℕ, zero, suc, ◌+◌, ◌*◌, ◌<◌, ◌≤◌, ◌≡◌, ◌^◌, arith}
use Rattle.std.proofs.Math.Nat.{pow-suc, one-le-pow, pow-le-pow_right}

pub some_power : (n : ℕ) → 0 < 3 ^ n
some_power n = omega (arith, one-le-pow n 3 (omega arith))

pub higher_power : (k n : ℕ) → k ≤ n → 3 ^ k ≤ 3 ^ n
higher_power k n no_more = let three : 0 < 3 = omega arith in pow-le-pow_right three no_more

pub two_powers : (j k n : ℕ) → j < n → k < n → 3 ^ j + 3 ^ k < 3 ^ n
two_powers j k zero less fewer = absurd (omega arith)
two_powers j k (suc n) less fewer =
    let front : 3 ^ j ≤ 3 ^ n = higher_power _ n (omega arith) in
    let back : 3 ^ k ≤ 3 ^ n = higher_power _ n (omega arith) in
    let more : 3 ^ suc n ≡ 3 ^ n * 3 = pow-suc 3 n in
    omega (arith, front, back, more, some_power n)

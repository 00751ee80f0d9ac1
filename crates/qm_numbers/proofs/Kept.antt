-- What the code's sums, differences and products are: the numbers themselves, where they fit.
use Rattle.std.proofs.Common.{◌≡◌, ◌≤◌, ◌<◌, suc, pos, negsuc, int_div, ◌*◌, ◌^◌, ◌∙◌, ℕ, ℤ, ◌+ℤ◌, ◌-ℤ◌, ◌-◌, ◌*ℤ◌, FitsSigned, to_z, of_z, ◌+◌, w32, w64, mul-le-mul, unsigned_abs, arith, lit≤, refl}
use mir.Syntax.{Width, w128}
use Rattle.std.proofs.lemmas.Int.{ints, to_z-of_z, to_z_pos, quot_fits, fits_signed_from_abs}
use Rattle.std.proofs.Math.Nat.{div-le_self}
use Rattle.qm_numbers.proofs.Signs.{abs_sum, abs_difference, abs_product, abs_product_bound}
use Rattle.qm_numbers.proofs.Bits.{kept_32, kept_128}
use Rattle.qm_numbers.proofs.Roundings.{twice_is}

-- a number as the code keeps it
abbrev pub kept : Width → ℤ → ℤ
kept w z = to_z w (of_z w z)

pub fits_64 : (z : ℤ) (n : ℕ) → unsigned_abs z ≤ n → n ≤ 2 ^ 63 - 1 → FitsSigned w64 z
fits_64 z n h k = fits_signed_from_abs w64 z (omega arith)

pub fits_128 : (z : ℤ) (n : ℕ) → unsigned_abs z ≤ n → n ≤ 2 ^ 127 - 1 → FitsSigned w128 z
fits_128 z n h k = fits_signed_from_abs w128 z (omega arith)

-- ---- two numbers

pub sum_fits : (w : Width) (a b : ℤ) → FitsSigned w a → FitsSigned w b → FitsSigned w (a +ℤ b) → FitsSigned w (kept w a +ℤ kept w b)
sum_fits w a b h k f = rw (to_z-of_z w a h, to_z-of_z w b k) f

pub sum_kept : (w : Width) (a b : ℤ) → FitsSigned w a → FitsSigned w b → FitsSigned w (a +ℤ b) → kept w (kept w a +ℤ kept w b) ≡ a +ℤ b
sum_kept w a b h k f = rw (to_z-of_z w a h, to_z-of_z w b k) (to_z-of_z w (a +ℤ b) f)

pub difference_fits : (w : Width) (a b : ℤ) → FitsSigned w a → FitsSigned w b → FitsSigned w (a -ℤ b) → FitsSigned w (kept w a -ℤ kept w b)
difference_fits w a b h k f = rw (to_z-of_z w a h, to_z-of_z w b k) f

pub difference_kept : (w : Width) (a b : ℤ) → FitsSigned w a → FitsSigned w b → FitsSigned w (a -ℤ b) → kept w (kept w a -ℤ kept w b) ≡ a -ℤ b
difference_kept w a b h k f = rw (to_z-of_z w a h, to_z-of_z w b k) (to_z-of_z w (a -ℤ b) f)

pub product_fits : (w : Width) (a b : ℤ) → FitsSigned w a → FitsSigned w b → FitsSigned w (a *ℤ b) → FitsSigned w (kept w a *ℤ kept w b)
product_fits w a b h k f = rw (to_z-of_z w a h, to_z-of_z w b k) f

pub product_kept : (w : Width) (a b : ℤ) → FitsSigned w a → FitsSigned w b → FitsSigned w (a *ℤ b) → kept w (kept w a *ℤ kept w b) ≡ a *ℤ b
product_kept w a b h k f = rw (to_z-of_z w a h, to_z-of_z w b k) (to_z-of_z w (a *ℤ b) f)

-- ---- products of two numbers of 64 bits, each of which the code has made one of 128 bits

widened : (p a : ℤ) → p ≡ kept w64 a → FitsSigned w64 a → p ≡ a
widened p a e h = e ∙ to_z-of_z w64 a h

size_64 : (a : ℤ) → FitsSigned w64 a → unsigned_abs a ≤ 2 ^ 63
size_64 a h = omega (arith, ints)

pub wide_size : (a b : ℤ) → FitsSigned w64 a → FitsSigned w64 b → unsigned_abs (a *ℤ b) ≤ 2 ^ 126
wide_size a b h k = abs_product_bound a b (2 ^ 63) (2 ^ 63) (size_64 a h) (size_64 b k)

pub wide_fits : (p q a b : ℤ) → p ≡ kept w64 a → q ≡ kept w64 b → FitsSigned w64 a → FitsSigned w64 b → FitsSigned w128 (kept w128 p *ℤ kept w128 q)
wide_fits p q a b e f h k =
    rw (widened p a e h, widened q b f k)
    (product_fits w128 a b (fits_128 a _ (size_64 a h) (lit≤ tt)) (fits_128 b _ (size_64 b k) (lit≤ tt)) (fits_128 (a *ℤ b) _ (wide_size a b h k) (lit≤ tt)))

pub wide_is : (p q a b : ℤ) → p ≡ kept w64 a → q ≡ kept w64 b → FitsSigned w64 a → FitsSigned w64 b → kept w128 (kept w128 p *ℤ kept w128 q) ≡ a *ℤ b
wide_is p q a b e f h k =
    rw (widened p a e h, widened q b f k)
    (product_kept w128 a b (fits_128 a _ (size_64 a h) (lit≤ tt)) (fits_128 b _ (size_64 b k) (lit≤ tt)) (fits_128 (a *ℤ b) _ (wide_size a b h k) (lit≤ tt)))

-- ---- products of a number of 64 bits and one of 128 bits

pub long_size : (a b : ℤ) (n : ℕ) → unsigned_abs a * unsigned_abs b ≤ n → unsigned_abs (a *ℤ b) ≤ n
long_size a b n h = let e = abs_product a b in omega arith

pub long_fits : (p a b : ℤ) (n : ℕ) → p ≡ kept w64 a → FitsSigned w64 a → FitsSigned w128 b → unsigned_abs a * unsigned_abs b ≤ n → n ≤ 2 ^ 127 - 1 → FitsSigned w128 (kept w128 p *ℤ kept w128 b)
long_fits p a b n e h k s l =
    rw (widened p a e h)
    (product_fits w128 a b (fits_128 a _ (size_64 a h) (lit≤ tt)) k (fits_128 (a *ℤ b) n (long_size a b n s) l))

pub long_is : (p a b : ℤ) (n : ℕ) → p ≡ kept w64 a → FitsSigned w64 a → FitsSigned w128 b → unsigned_abs a * unsigned_abs b ≤ n → n ≤ 2 ^ 127 - 1 → kept w128 (kept w128 p *ℤ kept w128 b) ≡ a *ℤ b
long_is p a b n e h k s l =
    rw (widened p a e h)
    (product_kept w128 a b (fits_128 a _ (size_64 a h) (lit≤ tt)) k (fits_128 (a *ℤ b) n (long_size a b n s) l))

-- ---- sums of three numbers of 128 bits

pub three_size : (a b c : ℤ) (n : ℕ) → unsigned_abs a ≤ n → unsigned_abs b ≤ n → unsigned_abs c ≤ n → unsigned_abs ((a +ℤ b) +ℤ c) ≤ 3 * n
three_size a b c n x y z = let s = abs_sum a b in let t = abs_sum (a +ℤ b) c in omega arith

two_size : (a b : ℤ) (n : ℕ) → unsigned_abs a ≤ n → unsigned_abs b ≤ n → unsigned_abs (a +ℤ b) ≤ 3 * n
two_size a b n x y = let s = abs_sum a b in omega arith

small_fits : (a : ℤ) (n : ℕ) → unsigned_abs a ≤ n → 3 * n ≤ 2 ^ 127 - 1 → FitsSigned w128 a
small_fits a n h k = fits_128 a n h (omega arith)

pub first_two_fit : (a b : ℤ) (n : ℕ) → unsigned_abs a ≤ n → unsigned_abs b ≤ n → 3 * n ≤ 2 ^ 127 - 1 → FitsSigned w128 (kept w128 a +ℤ kept w128 b)
first_two_fit a b n x y k =
    sum_fits w128 a b (small_fits a n x k) (small_fits b n y k) (fits_128 (a +ℤ b) (3 * n) (two_size a b n x y) k)

pub three_fit : (a b c : ℤ) (n : ℕ) → unsigned_abs a ≤ n → unsigned_abs b ≤ n → unsigned_abs c ≤ n → 3 * n ≤ 2 ^ 127 - 1 → FitsSigned w128 (kept w128 (kept w128 a +ℤ kept w128 b) +ℤ kept w128 c)
three_fit a b c n x y z k =
    rw (sum_kept w128 a b (small_fits a n x k) (small_fits b n y k) (fits_128 (a +ℤ b) (3 * n) (two_size a b n x y) k), to_z-of_z w128 c (small_fits c n z k))
    (fits_128 ((a +ℤ b) +ℤ c) (3 * n) (three_size a b c n x y z) k)

pub three_is : (a b c : ℤ) (n : ℕ) → unsigned_abs a ≤ n → unsigned_abs b ≤ n → unsigned_abs c ≤ n → 3 * n ≤ 2 ^ 127 - 1 → kept w128 (kept w128 (kept w128 a +ℤ kept w128 b) +ℤ kept w128 c) ≡ (a +ℤ b) +ℤ c
three_is a b c n x y z k =
    rw (sum_kept w128 a b (small_fits a n x k) (small_fits b n y k) (fits_128 (a +ℤ b) (3 * n) (two_size a b n x y) k), to_z-of_z w128 c (small_fits c n z k))
    (to_z-of_z w128 ((a +ℤ b) +ℤ c) (fits_128 ((a +ℤ b) +ℤ c) (3 * n) (three_size a b c n x y z) k))

-- ---- differences of two products of numbers of 64 bits

part_size : (a b : ℤ) → unsigned_abs a ≤ 2 ^ 26 → unsigned_abs b ≤ 2 ^ 26 → unsigned_abs (a *ℤ b) ≤ 2 ^ 52
part_size a b h k = abs_product_bound a b (2 ^ 26) (2 ^ 26) h k

part_fits : (a b : ℤ) → unsigned_abs a ≤ 2 ^ 26 → unsigned_abs b ≤ 2 ^ 26 → FitsSigned w64 (a *ℤ b)
part_fits a b h k = fits_64 (a *ℤ b) (2 ^ 52) (part_size a b h k) (lit≤ tt)

pub crossed_part_fits : (a b : ℤ) → unsigned_abs a ≤ 2 ^ 26 → unsigned_abs b ≤ 2 ^ 26 → FitsSigned w64 (kept w64 a *ℤ kept w64 b)
crossed_part_fits a b h k = product_fits w64 a b (fits_64 a _ h (lit≤ tt)) (fits_64 b _ k (lit≤ tt)) (part_fits a b h k)

part_kept : (a b : ℤ) → unsigned_abs a ≤ 2 ^ 26 → unsigned_abs b ≤ 2 ^ 26 → kept w64 (kept w64 a *ℤ kept w64 b) ≡ a *ℤ b
part_kept a b h k = product_kept w64 a b (fits_64 a _ h (lit≤ tt)) (fits_64 b _ k (lit≤ tt)) (part_fits a b h k)

pub crossed_size : (a b c d : ℤ) → unsigned_abs a ≤ 2 ^ 26 → unsigned_abs b ≤ 2 ^ 26 → unsigned_abs c ≤ 2 ^ 26 → unsigned_abs d ≤ 2 ^ 26 → unsigned_abs ((a *ℤ b) -ℤ (c *ℤ d)) ≤ 2 ^ 53
crossed_size a b c d h k l m =
    let x = part_size a b h k in let y = part_size c d l m in let s = abs_difference (a *ℤ b) (c *ℤ d) in omega arith

pub crossed_fits : (a b c d : ℤ) → unsigned_abs a ≤ 2 ^ 26 → unsigned_abs b ≤ 2 ^ 26 → unsigned_abs c ≤ 2 ^ 26 → unsigned_abs d ≤ 2 ^ 26 → FitsSigned w64 (kept w64 (kept w64 a *ℤ kept w64 b) -ℤ kept w64 (kept w64 c *ℤ kept w64 d))
crossed_fits a b c d h k l m =
    rw (part_kept a b h k, part_kept c d l m) (fits_64 ((a *ℤ b) -ℤ (c *ℤ d)) _ (crossed_size a b c d h k l m) (lit≤ tt))

pub crossed_is : (a b c d : ℤ) → unsigned_abs a ≤ 2 ^ 26 → unsigned_abs b ≤ 2 ^ 26 → unsigned_abs c ≤ 2 ^ 26 → unsigned_abs d ≤ 2 ^ 26 → kept w64 (kept w64 (kept w64 a *ℤ kept w64 b) -ℤ kept w64 (kept w64 c *ℤ kept w64 d)) ≡ (a *ℤ b) -ℤ (c *ℤ d)
crossed_is a b c d h k l m =
    rw (part_kept a b h k, part_kept c d l m)
    (to_z-of_z w64 ((a *ℤ b) -ℤ (c *ℤ d)) (fits_64 ((a *ℤ b) -ℤ (c *ℤ d)) _ (crossed_size a b c d h k l m) (lit≤ tt)))

-- what a call answers that is given kept numbers

pub answered : (w : Width) (a n : ℤ) → FitsSigned w a → n ≡ a → kept w n ≡ a
answered w a n f e = rw e (to_z-of_z w a f)

pub crossed_answered : (r a b c d : ℤ) → unsigned_abs a ≤ 2 ^ 26 → unsigned_abs b ≤ 2 ^ 26 → unsigned_abs c ≤ 2 ^ 26 → unsigned_abs d ≤ 2 ^ 26 → r ≡ (kept w64 a *ℤ kept w64 b) -ℤ (kept w64 c *ℤ kept w64 d) → kept w64 r ≡ (a *ℤ b) -ℤ (c *ℤ d)
crossed_answered r a b c d h k l m e =
    answered w64 ((a *ℤ b) -ℤ (c *ℤ d)) r (fits_64 ((a *ℤ b) -ℤ (c *ℤ d)) _ (crossed_size a b c d h k l m) (lit≤ tt))
    (e ∙ rw (to_z-of_z w64 a (fits_64 a _ h (lit≤ tt)), to_z-of_z w64 b (fits_64 b _ k (lit≤ tt)), to_z-of_z w64 c (fits_64 c _ l (lit≤ tt)), to_z-of_z w64 d (fits_64 d _ m (lit≤ tt))) refl)

pub product_answered : (w : Width) (r a b : ℤ) → FitsSigned w a → FitsSigned w b → r ≡ kept w a *ℤ kept w b → r ≡ a *ℤ b
product_answered w r a b h k e = e ∙ rw (to_z-of_z w a h, to_z-of_z w b k) refl

-- a product of which one number is small
pub product_size : (r a b : ℤ) → FitsSigned w64 b → unsigned_abs a ≤ 2 ^ 53 → r ≡ a *ℤ b → unsigned_abs r ≤ 2 ^ 116
product_size r a b h k e = rw e (abs_product_bound a b (2 ^ 53) (2 ^ 63) k (size_64 b h))

pub small_kept : (z : ℤ) (n : ℕ) → n ≤ 2 ^ 63 - 1 → unsigned_abs z ≤ n → unsigned_abs (kept w64 z) ≤ n
small_kept z n l h = rw (to_z-of_z w64 z (fits_64 z n h l)) h

-- a number of 32 bits that the code has made one of 64 bits
pub widened_32 : (r a : ℤ) → r ≡ kept w32 a → FitsSigned w32 a → kept w64 r ≡ a
widened_32 r a e f = let s : unsigned_abs a ≤ 2 ^ 31 = size_32 a f in answered w64 a r (fits_64 a _ s (lit≤ tt)) (e ∙ to_z-of_z w32 a f)
  where
    size_32 : (a : ℤ) → FitsSigned w32 a → unsigned_abs a ≤ 2 ^ 31
    size_32 a h = omega (arith, ints)

-- ---- differences of two numbers of 128 bits

two_apart : (a b : ℤ) (m n : ℕ) → unsigned_abs a ≤ m → unsigned_abs b ≤ n → m + n ≤ 2 ^ 127 - 1 → FitsSigned w128 (a -ℤ b)
two_apart a b m n h k l = let s = abs_difference a b in fits_128 (a -ℤ b) (m + n) (omega arith) l

pub apart_fits : (a b : ℤ) (m n : ℕ) → unsigned_abs a ≤ m → unsigned_abs b ≤ n → m + n ≤ 2 ^ 127 - 1 → FitsSigned w128 (kept w128 a -ℤ kept w128 b)
apart_fits a b m n h k l =
    difference_fits w128 a b (fits_128 a m h (omega arith)) (fits_128 b n k (omega arith)) (two_apart a b m n h k l)

pub apart_is : (a b : ℤ) (m n : ℕ) → unsigned_abs a ≤ m → unsigned_abs b ≤ n → m + n ≤ 2 ^ 127 - 1 → kept w128 (kept w128 a -ℤ kept w128 b) ≡ a -ℤ b
apart_is a b m n h k l =
    difference_kept w128 a b (fits_128 a m h (omega arith)) (fits_128 b n k (omega arith)) (two_apart a b m n h k l)

-- the sizes of two factors, as the code keeps them
pub factors_small : (a b : ℤ) (m n k : ℕ) → unsigned_abs a ≤ m → unsigned_abs b ≤ n → m ≤ 2 ^ 63 - 1 → n ≤ 2 ^ 127 - 1 → m * n ≤ k → unsigned_abs (kept w64 a) * unsigned_abs (kept w128 b) ≤ k
factors_small a b m n k h l x y p =
    rw (to_z-of_z w64 a (fits_64 a m h x), to_z-of_z w128 b (fits_128 b n l y)) (let q : unsigned_abs a * unsigned_abs b ≤ m * n = mul-le-mul h l in omega arith)

pub factors_answered : (r a b : ℤ) (m n : ℕ) → unsigned_abs a ≤ m → unsigned_abs b ≤ n → m ≤ 2 ^ 63 - 1 → n ≤ 2 ^ 127 - 1 → r ≡ kept w64 a *ℤ kept w128 b → r ≡ a *ℤ b
factors_answered r a b m n h l x y e =
    e ∙ rw (to_z-of_z w64 a (fits_64 a m h x), to_z-of_z w128 b (fits_128 b n l y)) refl

-- ---- quotients

pub quotient_kept : (a : ℤ) (k : ℕ) → FitsSigned w64 a → 0 < k → k < 2 ^ 63 → to_z w64 (of_z w64 (int_div (to_z w64 (of_z w64 a)) (to_z w64 k))) ≡ int_div a (pos k)
quotient_kept a k f p small =
    rw (to_z-of_z w64 a f, to_z_pos w64 k (omega arith)) (to_z-of_z w64 (int_div a (pos k)) (quot_fits w64 a (pos k) f (omega (arith, ints))))

pub quotient_small : (a : ℤ) (k : ℕ) → unsigned_abs (int_div a (pos k)) ≤ unsigned_abs a
quotient_small (pos n) k = div-le_self n k
quotient_small (negsuc n) k = let h = div-le_self (suc n) k in omega (arith, ints)

-- twice a number, and one more, as the code adds them
pub doubled_sum_kept : (a b : ℤ) → unsigned_abs a ≤ 3 * 2 ^ 97 → unsigned_abs b ≤ 3 * 2 ^ 79 → to_z w128 (of_z w128 (to_z w128 (of_z w128 (pos 2 *ℤ to_z w128 (of_z w128 a))) +ℤ to_z w128 (of_z w128 b))) ≡ (a +ℤ a) +ℤ b
doubled_sum_kept a b h k =
    rw (kept_128 a _ h (lit≤ tt), kept_128 b _ k (lit≤ tt), twice_is a) (twice_sum a b h k)
  where
    twice_sum : (a b : ℤ) → unsigned_abs a ≤ 3 * 2 ^ 97 → unsigned_abs b ≤ 3 * 2 ^ 79 → to_z w128 (of_z w128 (to_z w128 (of_z w128 (a +ℤ a)) +ℤ b)) ≡ (a +ℤ a) +ℤ b
    twice_sum a b h k = omega (arith, ints)

pub doubled_kept : (b : ℤ) → unsigned_abs b ≤ 3 * 2 ^ 79 → to_z w128 (of_z w128 (pos 2 *ℤ to_z w128 (of_z w128 b))) ≡ b +ℤ b
doubled_kept b k = rw (kept_128 b _ k (lit≤ tt), twice_is b) (twice b k)
  where
    twice : (b : ℤ) → unsigned_abs b ≤ 3 * 2 ^ 79 → to_z w128 (of_z w128 (b +ℤ b)) ≡ b +ℤ b
    twice b k = omega (arith, ints)

-- ---- three numbers and a fourth

pub three_less_one_kept : (a b c d : ℤ) → unsigned_abs a ≤ 2 ^ 60 → unsigned_abs b ≤ 2 ^ 60 → unsigned_abs c ≤ 2 ^ 60 → unsigned_abs d ≤ 2 ^ 60 →
    kept w64 (kept w64 (kept w64 (kept w64 a +ℤ kept w64 b) +ℤ kept w64 c) -ℤ kept w64 d) ≡ ((a +ℤ b) +ℤ c) -ℤ d
three_less_one_kept a b c d h i j k = omega (arith, ints)

pub one_less_two_kept : (d a b : ℤ) → unsigned_abs d ≤ 2 ^ 60 → unsigned_abs a ≤ 2 ^ 60 → unsigned_abs b ≤ 2 ^ 60 → kept w64 (kept w64 (kept w64 d -ℤ kept w64 a) -ℤ kept w64 b) ≡ (d -ℤ a) -ℤ b
one_less_two_kept d a b h k l = omega (arith, ints)

-- ---- two numbers of 128 bits

pub small_sum_fits : (a b : ℤ) (n : ℕ) → unsigned_abs a ≤ n → unsigned_abs b ≤ n → 2 * n ≤ 2 ^ 127 - 1 → FitsSigned w128 (kept w128 a +ℤ kept w128 b)
small_sum_fits a b n h k l =
    let s = abs_sum a b in
    sum_fits w128 a b (fits_128 a n h (omega arith)) (fits_128 b n k (omega arith)) (fits_128 (a +ℤ b) (2 * n) (omega arith) l)

pub small_sum_is : (a b : ℤ) (n : ℕ) → unsigned_abs a ≤ n → unsigned_abs b ≤ n → 2 * n ≤ 2 ^ 127 - 1 → kept w128 (kept w128 a +ℤ kept w128 b) ≡ a +ℤ b
small_sum_is a b n h k l =
    let s = abs_sum a b in
    sum_kept w128 a b (fits_128 a n h (omega arith)) (fits_128 b n k (omega arith)) (fits_128 (a +ℤ b) (2 * n) (omega arith) l)

-- ---- products of a number of 32 bits, made one of 64 bits, and one of 64 bits

mixed_32 : (p a : ℤ) → p ≡ kept w32 a → unsigned_abs a ≤ 2 ^ 26 → kept w64 p ≡ a
mixed_32 p a e h = answered w64 a p (fits_64 a (2 ^ 26) h (lit≤ tt)) (e ∙ kept_32 a (2 ^ 26) h (lit≤ tt))

mixed_64 : (b : ℤ) → unsigned_abs b ≤ 2 ^ 44 → kept w64 b ≡ b
mixed_64 b h = to_z-of_z w64 b (fits_64 b (2 ^ 44) h (lit≤ tt))

pub mixed_first : (r p a b : ℤ) → p ≡ kept w32 a → unsigned_abs a ≤ 2 ^ 26 → unsigned_abs b ≤ 2 ^ 44 → r ≡ kept w64 p *ℤ kept w64 b → r ≡ a *ℤ b
mixed_first r p a b e h k f = f ∙ (λ i. mixed_32 p a e h i *ℤ mixed_64 b k i)

pub mixed_second : (r p a b : ℤ) → p ≡ kept w32 a → unsigned_abs a ≤ 2 ^ 26 → unsigned_abs b ≤ 2 ^ 44 → r ≡ kept w64 b *ℤ kept w64 p → r ≡ b *ℤ a
mixed_second r p a b e h k f = f ∙ (λ i. mixed_64 b k i *ℤ mixed_32 p a e h i)

pub mixed_size : (a b : ℤ) → unsigned_abs a ≤ 2 ^ 26 → unsigned_abs b ≤ 2 ^ 44 → (unsigned_abs (a *ℤ b) ≤ 2 ^ 70) × (unsigned_abs (b *ℤ a) ≤ 2 ^ 70)
mixed_size a b h k = (abs_product_bound a b (2 ^ 26) (2 ^ 44) h k, abs_product_bound b a (2 ^ 44) (2 ^ 26) k h)

pub mixed_apart_size : (a b c d : ℤ) → unsigned_abs a ≤ 2 ^ 26 → unsigned_abs b ≤ 2 ^ 44 → unsigned_abs c ≤ 2 ^ 44 → unsigned_abs d ≤ 2 ^ 26 → unsigned_abs ((a *ℤ b) -ℤ (c *ℤ d)) ≤ 2 ^ 71
mixed_apart_size a b c d h k l m =
    let x = (mixed_size a b h k).0 in let y = (mixed_size d c m l).1 in let s = abs_difference (a *ℤ b) (c *ℤ d) in omega arith

-- ---- products of two numbers of 32 bits, each made one of 64 bits

pub narrow_fits : (p q a b : ℤ) → p ≡ kept w32 a → q ≡ kept w32 b → unsigned_abs a ≤ 2 ^ 26 → unsigned_abs b ≤ 2 ^ 26 → FitsSigned w64 (kept w64 p *ℤ kept w64 q)
narrow_fits p q a b e f h k = rw (mixed_32 p a e h, mixed_32 q b f k) (part_fits a b h k)

pub narrow_is : (p q a b : ℤ) → p ≡ kept w32 a → q ≡ kept w32 b → unsigned_abs a ≤ 2 ^ 26 → unsigned_abs b ≤ 2 ^ 26 → kept w64 (kept w64 p *ℤ kept w64 q) ≡ a *ℤ b
narrow_is p q a b e f h k = rw (mixed_32 p a e h, mixed_32 q b f k) (to_z-of_z w64 (a *ℤ b) (part_fits a b h k))

-- Powers of two are floats, and a whole number times one is exact while it fits the digits.
use Rattle.std.proofs.Common.{◌≡◌, ℕ, suc, ◌*◌, ◌^◌, ◌<◌, ◌≤◌, false, T, pos, sym, ap, ◌∙◌, zero-lt-suc, one-mul, mul-one, mul_right_comm, arith, le→leb, lt→ltb}
use lib.Pow.{pow-lt}
use lib.Ieee.{Float, nan, inf, fin, Format, binary32, binary64, prec, emax, up, down, round, mul, of_int, to_unsigned, fits, in_float}
use lib.Ieee.Back.{round_whole, unsigned_back}
use lib.Ieee.Exact.{HasValue}
use lib.Ieee.Fits.{down_pos}
use lib.Ieee.Scale.{round_same}
use Rattle.floats.proofs.Rounding.{round_held}

-- ---- a power of two
doubled : (k e : ℕ) → k ≤ e → 1 * 2 ^ k < 2 ^ suc e * 1
doubled k e h = let l : k < suc e = omega arith in omega (arith, pow-lt l)

power_fits : (f : Format) (k : ℕ) → k ≤ emax f → T (fits f (fin false 1 (pos k)))
unfolding fits
power_fits binary32 k h = lt→ltb (1 * 2 ^ k) (2 ^ suc 127 * 1) (doubled k 127 h)
power_fits binary64 k h = lt→ltb (1 * 2 ^ k) (2 ^ suc 1023 * 1) (doubled k 1023 h)

pub power_exact : (f : Format) (k : ℕ) → k ≤ emax f → of_int f (pos (2 ^ k)) ≡ fin false 1 (pos k)
unfolding of_int
power_exact f k h = ap (λ (n : ℕ). round f false n 1) (sym (one-mul (2 ^ k))) ∙ round_held f false 1 (pos k) (power_fits f k h)

-- ---- a whole number times a power of two, and its cast back
product : (f : Format) (x : Float) (n k : ℕ) → HasValue x false n 1 → mul f x (fin false 1 (pos k)) ≡ round f false (n * 2 ^ k) 1
unfolding mul
product f nan n k h = absurd h
product f (inf s) n k h = absurd h
product f (fin s m e) n k h =
    rw h.0 (round_same f false (m * up e * (1 * 2 ^ k)) (down e * 1) (n * 2 ^ k) 1 (omega (arith, down_pos e)) (zero-lt-suc 0) (level (m * up e) (down e) (2 ^ k) n h.1))
  where
    level : (a c p n : ℕ) → a * 1 ≡ n * c → a * (1 * p) * 1 ≡ n * p * (c * 1)
    level a c p n h = rw (mul-one, mul-one, one-mul) (ap (λ (z : ℕ). z * p) (sym (mul-one a) ∙ h) ∙ mul_right_comm n c p)

pub product_cast : (f : Format) (w n k : ℕ) → n ≤ 2 ^ prec f → n * 2 ^ k ≤ 2 ^ prec f → n * 2 ^ k < 2 ^ w → to_unsigned w (mul f (of_int f (pos n)) (fin false 1 (pos k))) ≡ n * 2 ^ k
unfolding of_int in_float
product_cast f w n k a b l =
    ap (to_unsigned w) (product f (round f false n 1) n k (round_whole f false n a)) ∙ (unsigned_back f w (n * 2 ^ k) (le→leb (n * 2 ^ k) (2 ^ prec f) b) l).1

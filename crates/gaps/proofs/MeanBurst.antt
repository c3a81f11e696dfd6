-- The mean burst in 1/256 of a frame: the whole number 256 × total / count, at most 65,535, is what the Rust's route through floats gives.
use mathlib.Core.Path.{◌≡◌, refl, sym, ap, ◌∙◌, subst}
use mathlib.Core.Logic.{inl}
use Prim.Native.Nat.{ℕ, zero, suc, ◌+◌, ◌-◌, ◌*◌, ◌/◌, ◌^◌, ◌≤◌, ◌<◌, min}
use native.Mathlib.Nat.{le_refl, le_trans, le_of_eq, le_of_lt, lt_of_lt_of_le, lt_of_le_of_lt, zero-lt-suc, mul-one, mul_comm, mul_right_comm, mul-le-mul_right, lt_of_mul-lt-mul_right, mul-lt-mul_of_pos_right, mul-pos, le-div_iff_mul-le, div-lt_iff_lt-mul, div-mul-le_self, lt-div-mul-add, le_antisymm, mul-sub, zero-mul, suc-mul}
use native.Mathlib.Omega.{arith}
use mathlib.Core.Bool.{Bool, true, false, cond, not}
use lib.IntN.{pos}
use borrow.Author.Tests.{eqb-false}
use lib.Dec.{T, leb, eqb, leb→le, nleb→lt, lit<, lit≤}
use lib.Pow.{pow_pos, pow_mono}
use lib.Ieee.{Float, fin, Format, binary64, prec, low, round, mul, div, of_int}
use lib.Ieee.Back.{round_whole}
use lib.Ieee.Scale.{grid, overflow}
use Rattle.floats.proofs.Grid.{round_at}
use Rattle.floats.proofs.Dyadics.{dyadic, dyadic_is, dyadic_held, dyadic_ge, dyadic_le}
use Rattle.floats.proofs.At.{At}
use Rattle.floats.proofs.Products.{mul_at}
use Rattle.floats.proofs.Quotients.{div_is}
use Rattle.floats.proofs.Casts.{cast_unsigned}
use Rattle.floats.specs.Operations.{rounded_quotient}
use Rattle.gaps.specs.Gaps.{max_length, keeps_the_rule, burst_finished}
use Rattle.gaps.specs.Stats.{mean_burst, float_route, stats_of}
use Rattle.gaps.specs.declared.GapTracker.{GapTracker}
use Rattle.gaps.proofs.RuleKept.{Fits, kept, burst_finished_kept, burst_finished_outside, finished_outside}

-- ---- in whole numbers: a quotient below n / 256, of a count of at most 2 ^ 32, is below it by 2 ^ -40 at least
wide_enough : (t c n K : ℕ) → K ≡ 2 ^ 32 → c ≤ 2 ^ 32 → t * 256 + 1 ≤ n * c → t * 1 * 2 ^ 40 ≤ (n * K - 1) * (c * 1)
wide_enough t c n K e h k =
    let a : (n * K - 1) * (c * 1) ≡ n * c * K - c =
    ap (λ (z : ℕ). (n * K - 1) * z) (mul-one c) ∙ mul_comm (n * K - 1) c ∙ mul-sub c (n * K) 1 ∙ ap (λ (z : ℕ). c * (n * K) - z) (mul-one c) ∙ ap (λ (z : ℕ). z - c) (mul_comm c (n * K) ∙ mul_right_comm n K c) in
    subst (λ (z : ℕ). t * 1 * 2 ^ 40 ≤ z) (sym a) (subst (λ (z : ℕ). t * 1 * 2 ^ 40 ≤ n * c * z - c) (sym e) (plain t (n * c) c h k))
  where
    plain : (t w c : ℕ) → c ≤ 2 ^ 32 → t * 256 + 1 ≤ w → t * 1 * 2 ^ 40 ≤ w * 2 ^ 32 - c
    plain t w c h k = omega arith

module _ (f : Format) (digits : 48 ≤ prec f) (deep : 40 ≤ low f) (t c : ℕ) (above : 0 < c) (few : c ≤ 2 ^ 32) (top : t ≤ max_length * c) where
  -- the quotient total / count, rounded, in units of the format's smallest value
  quotient : ℕ
  quotient = grid f (t * 1) (c * 1)

  -- that times 256, rounded
  scaled : ℕ
  unfolding quotient
  scaled = grid f (quotient * 256) (2 ^ low f * 1)

  short : (a : ℕ) → a < 2 ^ 48 → a < 2 ^ prec f
  short a h = lt_of_lt_of_le h (pow_mono digits)

  -- how far below the binary point the format goes
  no_places : 0 ≤ low f
  no_places = omega arith

  byte_places : 8 ≤ low f
  byte_places = omega arith

  word_places : 32 ≤ low f
  word_places = omega arith

  divisor_above : 0 < c * 1
  divisor_above = omega arith

  unit_above : 0 < 2 ^ low f * 1
  unit_above = mul-pos (pow_pos (low f)) (zero-lt-suc 0)

  quotient_top : quotient * 2 ^ 0 ≤ max_length * 2 ^ low f
  unfolding quotient
  quotient_top =
      le_trans (mul-le-mul_right (2 ^ 0) (dyadic_ge f max_length 0 (short max_length (lit< tt)) no_places (t * 1) (c * 1) divisor_above (let i : t * 1 * 2 ^ 0 ≤ max_length * (c * 1) = omega arith in i)))
      (le_of_eq (dyadic_is f max_length 0 (short max_length (lit< tt)) no_places))

  quotient_finite : quotient < overflow f
  unfolding quotient
  quotient_finite =
      lt_of_le_of_lt (dyadic_ge f max_length 0 (short max_length (lit< tt)) no_places (t * 1) (c * 1) divisor_above (let i : t * 1 * 2 ^ 0 ≤ max_length * (c * 1) = omega arith in i))
      (dyadic_held f max_length 0 (short max_length (lit< tt)) no_places).under

  scaled_finite : scaled < overflow f
  unfolding scaled
  scaled_finite =
      let Uv = 2 ^ low f in
      let h : quotient * 2 ^ 0 ≤ max_length * Uv = quotient_top in
      lt_of_le_of_lt (dyadic_ge f (max_length * 256) 0 (short (max_length * 256) (lit< tt)) no_places (quotient * 256) (2 ^ low f * 1) unit_above (let i : quotient * 256 * 2 ^ 0 ≤ (max_length * 256) * (Uv * 1) = omega arith in i))
      (dyadic_held f (max_length * 256) 0 (short (max_length * 256) (lit< tt)) no_places).under

  -- ---- the scaled quotient lies between the whole numbers that the exact one lies between
  lower : (v : ℕ) → v ≤ max_length → v * c ≤ t * 256 → v * 2 ^ low f ≤ scaled
  unfolding scaled
  lower v b h =
      let s : v < 2 ^ prec f = short v (let i : v < 2 ^ 48 = omega arith in i) in
      let p : v * (c * 1) ≤ t * 1 * 2 ^ 8 = le_trans (le_of_eq (ap (λ (z : ℕ). v * z) (mul-one c))) (le_trans h (let i : t * 256 ≤ t * 1 * 2 ^ 8 = omega arith in i)) in
      let y : dyadic f v 8 s byte_places ≤ quotient = dyadic_le f v 8 s byte_places (t * 1) (c * 1) divisor_above quotient_finite p in
      let e : dyadic f v 8 s byte_places * 2 ^ 8 ≡ v * 2 ^ low f = dyadic_is f v 8 s byte_places in
      let q : v * (2 ^ low f * 1) ≤ quotient * 256 * 2 ^ 0 = le_trans (le_of_eq (ap (λ (z : ℕ). v * z) (mul-one (2 ^ low f)) ∙ sym e)) (le_trans (mul-le-mul_right 256 y) (let i : quotient * 256 ≤ quotient * 256 * 2 ^ 0 = omega arith in i)) in
      le_trans (le_of_eq (sym (dyadic_is f v 0 s no_places))) (le_trans (le_of_eq (mul-one (dyadic f v 0 s no_places))) (dyadic_le f v 0 s no_places (quotient * 256) (2 ^ low f * 1) unit_above scaled_finite q))

  upper : (n : ℕ) → n ≤ 2 ^ 16 → t * 256 + 1 ≤ n * c → scaled < n * 2 ^ low f
  unfolding scaled
  upper n b h =
      let A = n * 2 ^ 32 - 1 in
      let s : A < 2 ^ prec f = short A (let i : n * 2 ^ 32 - 1 < 2 ^ 48 = omega arith in i) in
      let y : quotient ≤ dyadic f A 40 s deep = dyadic_ge f A 40 s deep (t * 1) (c * 1) divisor_above (wide_enough t c n (2 ^ 32) refl few h) in
      let e : dyadic f A 40 s deep * 2 ^ 40 ≡ A * 2 ^ low f = dyadic_is f A 40 s deep in
      let q : quotient * 256 * 2 ^ 32 ≤ A * (2 ^ low f * 1) =
      le_trans (let i : quotient * 256 * 2 ^ 32 ≤ quotient * 2 ^ 40 = omega arith in i) (le_trans (mul-le-mul_right (2 ^ 40) y) (le_of_eq (e ∙ ap (λ (z : ℕ). A * z) (sym (mul-one (2 ^ low f)))))) in
      let z : scaled ≤ dyadic f A 32 s word_places = dyadic_ge f A 32 s word_places (quotient * 256) (2 ^ low f * 1) unit_above q in
      let P : 0 < n = pos_of n c (t * 256) h in
      let k : A < n * 2 ^ 32 = omega arith in
      lt_of_mul-lt-mul_right (2 ^ 32)
      (lt_of_le_of_lt (mul-le-mul_right (2 ^ 32) z) (lt_of_le_of_lt (le_of_eq (dyadic_is f A 32 s word_places)) (lt_of_lt_of_le (mul-lt-mul_of_pos_right k (pow_pos (low f))) (le_of_eq (mul_right_comm n (2 ^ 32) (2 ^ low f))))))
    where
      pos_of : (n c w : ℕ) → w + 1 ≤ n * c → 0 < n
      pos_of zero c w h = absurd (let e : zero * c ≡ 0 = zero-mul c in let i : ⊥ = omega arith in i)
      pos_of (suc n) c w h = zero-lt-suc n

  scaled_cut : min (scaled / 2 ^ low f) max_length ≡ min (t * 256 / c) max_length
  scaled_cut = go (leb max_length (t * 256 / c)) (leb→le max_length (t * 256 / c)) (nleb→lt max_length (t * 256 / c))
    where
      both_capped : (a b : ℕ) → max_length ≤ a → max_length ≤ b → min a max_length ≡ min b max_length
      both_capped a b h k = omega arith

      go : (b : Bool) → (T b → max_length ≤ t * 256 / c) → (T (not b) → t * 256 / c < max_length) → min (scaled / 2 ^ low f) max_length ≡ min (t * 256 / c) max_length
      go true h k = both_capped (scaled / 2 ^ low f) (t * 256 / c) ((le-div_iff_mul-le (pow_pos (low f))).1 (lower max_length (le_refl max_length) ((le-div_iff_mul-le above).0 (h tt)))) (h tt)
      go false h k =
          let v = t * 256 / c in
          let l = lower v (le_of_lt (k tt)) (div-mul-le_self (t * 256) c) in
          let m : t * 256 + 1 ≤ suc v * c = div_lt_up (t * 256) c above in
          let u = upper (suc v) (up_one v (k tt)) m in
          ap (λ (z : ℕ). min z max_length) (le_antisymm (below (scaled / 2 ^ low f) v ((div-lt_iff_lt-mul (pow_pos (low f))).1 u)) ((le-div_iff_mul-le (pow_pos (low f))).1 l))
        where
          div_lt_up : (n c : ℕ) → 0 < c → n + 1 ≤ suc (n / c) * c
          div_lt_up n c above = omega (arith, lt-div-mul-add {a = n} {b = c} above, suc-mul (n / c) c)

          up_one : (v : ℕ) → v < max_length → suc v ≤ 2 ^ 16
          up_one v h = omega arith

          below : (a b : ℕ) → a < suc b → a ≤ b
          below a b h = omega arith

-- (total as f64 / count as f64 * 256.0) as u16
mean_at : (f : Format) (t c : ℕ) → 48 ≤ prec f → 40 ≤ low f → 0 < c → c ≤ 2 ^ 32 → t ≤ max_length * c → t ≤ 2 ^ prec f → c ≤ 2 ^ prec f → float_route f t c ≡ min (t * 256 / c) max_length
unfolding float_route rounded_quotient scaled quotient of_int
mean_at f t c digits deep above few top total-held count_held =
    let unit = 2 ^ low f in
    let x = round f false t 1 in
    let n = round f false c 1 in
    let d : div f x n ≡ round f false (t * 1) (c * 1) = div_is f x n t 1 c 1 above (zero-lt-suc 0) (zero-lt-suc 0) (round_whole f false t total-held) (round_whole f false c count_held) in
    let y : At (div f x n) false (quotient f digits deep t c above few top) unit =
    subst (λ (z : Float). At z false (quotient f digits deep t c above few top) unit) (sym d) (round_at f false false (t * 1) (c * 1) (divisor_above f digits deep t c above few top) (inl refl) (quotient_finite f digits deep t c above few top)) in
    let z : At (mul f (div f x n) (fin false 1 (pos 8))) false (scaled f digits deep t c above few top) unit =
    mul_at f (div f x n) (fin false 1 (pos 8)) false false (quotient f digits deep t c above few top) unit 256 1 (pow_pos (low f)) (zero-lt-suc 0) y (inl refl, refl) (scaled_finite f digits deep t c above few top) in
    cast_unsigned 16 (scaled f digits deep t c above few top) unit (mul f (div f x n) (fin false 1 (pos 8))) (pow_pos (low f)) z ∙ scaled_cut f digits deep t c above few top

mean_same : (t c : ℕ) → 0 < c → c < 2 ^ 32 → t ≤ max_length * c → float_route binary64 t c ≡ min (256 * t / c) max_length
mean_same t c above h top = mean_at binary64 t c (lit≤ tt) (lit≤ tt) above (le_of_lt h) top (omega arith) (omega arith) ∙ ap (λ (n : ℕ). min (n / c) max_length) (mul_comm t 256)

-- 0 for none, and the float route for a total that finished bursts can have
pub mean_burst_is_float_route : (t c : ℕ) → c < 2 ^ 32 → t ≤ max_length * c → mean_burst t c ≡ cond (eqb c 0) 0 (float_route binary64 t c)
unfolding mean_burst
mean_burst_is_float_route t c h top = go (eqb c 0) (eqb-false c 0)
  where
    go : (b : Bool) → (b ≡ false → c ≡ 0 → ⊥) → cond b 0 (min (256 * t / c) max_length) ≡ cond b 0 (float_route binary64 t c)
    go true n = refl
    go false n = let m = n refl in sym (mean_same t c (let p : 0 < c = omega arith in p) h top)

-- what a report says of a tracker that keeps its rule is the Rust's mean
pub stats_mean_is_float_route : (t : GapTracker) → keeps_the_rule t ≡ true → Fits t → (stats_of t).count < 2 ^ 32
    → (stats_of t).mean ≡ cond (eqb (stats_of t).count 0) 0 (float_route binary64 (burst_finished t).total_burst_len (stats_of t).count)
unfolding stats_of
stats_mean_is_float_route t h f few =
    let k = burst_finished_kept t (kept t h) f in
    mean_burst_is_float_route (burst_finished t).total_burst_len (burst_finished t).burst_count few (omega (arith, k.total, finished_outside (burst_finished t) (burst_finished_outside t)))

-- Every figure of the record is an f64 in its range, and stays so through a rekey and an update of the reverse ratio.
use Rattle.std.specs.Prelude.{Option}
use mathlib.Core.Path.{◌≡◌, refl}
use mathlib.Core.Bool.{true}
use Prim.Native.Nat.{ℕ, ◌-◌, ◌^◌, ◌≤◌, ◌<◌}
use native.Mathlib.Omega.{arith}
use lib.Dec.{T, ltb, lit≤}
use lib.IntN.{pos}
use lib.Ieee.{Float, binary64, fits, le, of_int}
use lib.Ieee.Fits.{of_int-fits}
use borrow.Author.Tests.{ltb-true}
use Rattle.floats.specs.Operations.{zero_float, one_float, complement}
use Rattle.floats.proofs.Order.{le_transitive}
use Rattle.floats.proofs.Ranges.{Within, within→in_range, in_range→within}
use Rattle.floats.proofs.Complements.{complement_within}
use Rattle.refusals.specs.Ranges.{max_trend, max_etx, optional_clock_ok}
use Rattle.algorithms.specs.Etx.{etx_of}
use Rattle.algorithms.specs.Ewma as ewma
use Rattle.algorithms.specs.Srtt as estimator
use Rattle.algorithms.specs.declared.ewma.DualEwma.{DualEwma}
use Rattle.algorithms.proofs.EwmaKeepsRule as trends
use Rattle.algorithms.proofs.SrttKeepsRule as estimators
use Rattle.algorithms.proofs.EtxOfRatios.{etx_within}
use Rattle.figures.specs.Delivery.{delivery_ratio}
use Rattle.figures.specs.Goodput.{max_goodput}
use Rattle.figures.proofs.GoodputInRange.{Goodput}
use Rattle.floats.proofs.IntegersInRange.{integer_within}
use Rattle.figures.proofs.RatiosInRange.{delivery_within, delivery_fits, loss_fits, etx_fits}
use Rattle.metrics.specs.Fields.{Rtt, Trends, Ratios, rtt_in, trends_in, ratios_in}
use Rattle.metrics.specs.State.{fresh}
use Rattle.metrics.specs.Updates.{rekeyed, with_reverse_ratio, reversed}
use Rattle.metrics.specs.declared.MmpMetrics.{MmpMetrics}
use Rattle.metrics.proofs.QuestionsAnswered.{Kept}
use Rattle.metrics.proofs.ReportsByCase.{by_reverse}

-- ---- the floats of a record
-- every float field is an f64, as a caller's record is
pub record Floats (m : MmpMetrics) : Type 0 where
  pub rtt_trend : trends.Floats m.rtt_trend
  pub loss_trend : trends.Floats m.loss_trend
  pub goodput_trend : trends.Floats m.goodput_trend
  pub jitter_trend : trends.Floats m.jitter_trend
  pub etx_trend : trends.Floats m.etx_trend
  pub forward : T (fits binary64 m.delivery_ratio_forward)
  pub reverse : T (fits binary64 m.delivery_ratio_reverse)
  pub etx : T (fits binary64 m.etx)
  pub goodput : T (fits binary64 m.goodput_bps)

-- ---- one figure
-- a trend within its rule
pub record Trend (s : DualEwma) : Type 0 where
  pub floats : trends.Floats s
  pub rule : ewma.keeps_the_rule s ≡ true

-- a float from lo to hi
pub record Figure (lo hi x : Float) : Type 0 where
  pub float : T (fits binary64 x)
  pub within : Within lo hi x

abbrev pub Ratio : Float → Type 0
Ratio = Figure zero_float one_float

abbrev pub Etx : Float → Type 0
Etx = Figure one_float max_etx

-- a sample moves a trend within its rule
pub followed : {s : DualEwma} {x : Float} → Trend s → Figure zero_float max_trend x → Trend (ewma.stepped s x)
followed {s} {x} t k = record {
  floats = trends.step_floats s x k.float;
  rule = trends.step_keeps_rule s x t.floats k.float t.rule (within→in_range zero_float max_trend x k.within);
}

-- an integer of 64 bits is a sample for a trend
pub integer : (n : ℕ) → n ≤ 2 ^ 64 → Figure zero_float max_trend (of_int binary64 (pos n))
integer n h = record { float = of_int-fits binary64 (pos n); within = integer_within binary64 n 64 (lit≤ tt) h }

-- so is the loss beside a ratio, and an ETX
pub loss : {x : Float} → Ratio x → Figure zero_float max_trend (complement binary64 x)
loss {x} k =
    let w = complement_within binary64 k.within in
    record { float = loss_fits x; within = record { low = w.low; high = le_transitive (complement binary64 x) one_float max_trend w.high (unfold le in tt) } }

pub expected : {x : Float} → Etx x → Figure zero_float max_trend x
expected {x} k = record {
  float = k.float;
  within = record { low = le_transitive zero_float one_float x (unfold le in tt) k.within.low; high = le_transitive x max_etx max_trend k.within.high (unfold le in tt) };
}

pub ratio : (packets span : ℕ) → packets < 2 ^ 64 → ltb 0 span ≡ true → span < 2 ^ 64 → Ratio (delivery_ratio packets span)
ratio packets span p s w = record { float = delivery_fits packets span; within = delivery_within packets span p (ltb-true 0 span s) w }

pub etx_of_lem : {x y : Float} → Ratio x → Ratio y → Etx (etx_of x y)
etx_of_lem {x} {y} hx hy = record { float = etx_fits x y; within = etx_within x y hx.within hy.within }

pub less : (a b : ℕ) → a < 2 ^ 64 → a - b < 2 ^ 64
less a b h = omega arith

-- ---- the record: its clock and every figure in its range, by its groups
pub record RttInRange (r : Rtt) : Type 0 where
  pub estimator : estimator.keeps_the_rule r.estimator ≡ true
  pub trend : Trend r.trend

pub record TrendsInRange (t : Trends) : Type 0 where
  pub loss : Trend t.loss
  pub goodput : Trend t.goodput
  pub jitter : Trend t.jitter
  pub etx : Trend t.etx

pub record RatiosInRange (r : Ratios) : Type 0 where
  pub forward : Ratio r.forward
  pub reverse : Ratio r.reverse
  pub etx : Etx r.etx
  pub goodput : Goodput r.goodput

pub record GroupsInRange (ms : Option ℕ) (r : Rtt) (t : Trends) (q : Ratios) : Type 0 where
  pub clock : optional_clock_ok ms ≡ true
  pub rtt : RttInRange r
  pub trends : TrendsInRange t
  pub ratios : RatiosInRange q

abbrev pub InRange : MmpMetrics → Type 0
InRange m = GroupsInRange m.prev_rr_ms (rtt_in m) (trends_in m) (ratios_in m)

-- the rule and the widths say so
pub in_range : (m : MmpMetrics) → Floats m → Kept m → InRange m
in_range m f k = record {
  clock = k.clock;
  rtt = record { estimator = k.round_trip; trend = record { floats = f.rtt_trend; rule = k.rtt_trend } };
  trends =
      record {
        loss = record { floats = f.loss_trend; rule = k.loss_trend };
        goodput = record { floats = f.goodput_trend; rule = k.goodput_trend };
        jitter = record { floats = f.jitter_trend; rule = k.jitter_trend };
        etx = record { floats = f.etx_trend; rule = k.etx_trend };
      };
  ratios =
      record {
        forward = record { float = f.forward; within = in_range→within zero_float one_float m.delivery_ratio_forward k.forward };
        reverse = record { float = f.reverse; within = in_range→within zero_float one_float m.delivery_ratio_reverse k.reverse };
        etx = record { float = f.etx; within = in_range→within one_float max_etx m.etx k.etx };
        goodput = record { float = f.goodput; within = in_range→within zero_float max_goodput m.goodput_bps k.goodput };
      };
}

-- and they say the widths
pub floats : (m : MmpMetrics) → InRange m → Floats m
floats m k = record {
  rtt_trend = k.rtt.trend.floats;
  loss_trend = k.trends.loss.floats;
  goodput_trend = k.trends.goodput.floats;
  jitter_trend = k.trends.jitter.floats;
  etx_trend = k.trends.etx.floats;
  forward = k.ratios.forward.float;
  reverse = k.ratios.reverse.float;
  etx = k.ratios.etx.float;
  goodput = k.ratios.goodput.float;
}

-- ---- a new record, a rekey, and the reverse ratio
one : Ratio one_float
unfolding fits le
one = record { float = tt; within = record { low = tt; high = tt } }

none_yet : Trend ewma.fresh
unfolding fits
none_yet = record { floats = record { short = tt; long = tt }; rule = trends.fresh_keeps_rule }

pub fresh_in_range : InRange fresh
unfolding fits le
fresh_in_range = record {
  clock = refl;
  rtt = record { estimator = estimators.fresh_keeps_rule; trend = none_yet };
  trends = record { loss = none_yet; goodput = none_yet; jitter = none_yet; etx = none_yet };
  ratios =
      record {
        forward = one;
        reverse = one;
        etx = record { float = tt; within = record { low = tt; high = tt } };
        goodput = record { float = tt; within = record { low = tt; high = tt } };
      };
}

pub rekeyed_in_range : (m : MmpMetrics) → InRange m → InRange (rekeyed m)
unfolding rekeyed
rekeyed_in_range m k =
    let q = k.ratios in
    record { clock = refl; rtt = k.rtt; trends = k.trends; ratios = record { forward = one; reverse = q.reverse; etx = q.etx; goodput = q.goodput } }

reverse_ratio_in_range : (m : MmpMetrics) (x : Float) → InRange m → Ratio x → InRange (with_reverse_ratio m x)
reverse_ratio_in_range m x k h =
    let q = k.ratios in
    record { clock = k.clock; rtt = k.rtt; trends = k.trends; ratios = record { forward = q.forward; reverse = h; etx = etx_of_lem q.forward h; goodput = q.goodput } }

pub reversed_in_range : (m : MmpMetrics) (packets highest : ℕ) → packets < 2 ^ 64 → highest < 2 ^ 64 → InRange m → InRange (reversed m packets highest)
unfolding reversed
reversed_in_range m packets highest p h k =
    by_reverse InRange m packets highest
    (λ s. reverse_ratio_in_range m _ k (ratio _ _ (less packets m.prev_reverse_packets p) s (less highest m.prev_reverse_highest h)))
    k

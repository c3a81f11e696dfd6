-- What holds of every record that a history from new reaches, by induction over the history alone, without the machine of specs/Run.
use mathlib.Core.Path.{◌≡◌, refl, ap}
use Rattle.metrics.specs.declared.MmpMetrics.{MmpMetrics}
use Rattle.metrics.proofs.QuestionsAnswered.{sum_seen}
use Rattle.history.specs.Run.{run_of}
use Rattle.history.specs.MetricsCalls.{MetricsNew, new_metrics, metrics_step}
use Rattle.history.specs.Kinds.{of_stale, of_no_echo, of_sample, of_zero, of_failure}
use Rattle.history.specs.Meant.{History, Reached, begun, next}
use Rattle.history.specs.NoCreep.{KindsHold}
use Rattle.history.proofs.RoundTripTied as trips
use Rattle.history.proofs.KindsTied as kinds
use Rattle.history.proofs.RulesKept as rules

pub reached_tied : {l : History} {m : MmpMetrics} → Reached l m → trips.Tied l m
reached_tied (begun k) = trips.new_tied k
reached_tied (next {l} {m} c f e r) = trips.tied_next c l m e (reached_tied r)

pub reached_lawful : {l : History} {m : MmpMetrics} → Reached l m → rules.Measuring m
reached_lawful (begun k) = rules.new_metrics_lem k
reached_lawful (next {l} {m} c f e r) = rules.metrics_next c m f e (reached_lawful r)

reached_counted : {l : History} {m : MmpMetrics} → Reached l m → kinds.Counted l m
reached_counted (begun k) = kinds.new_counted k
reached_counted (next {l} {m} c f e r) = kinds.counted_next c l m e (reached_tied r) (reached_counted r)

pub kinds_hold : {l : History} {m : MmpMetrics} → Reached l m → KindsHold l m
kinds_hold {l} {m} r =
    let c = reached_counted r in
    record {
      stale = c.kinds of_stale;
      no_echo = c.kinds of_no_echo;
      samples = c.kinds of_sample;
      zeros = c.kinds of_zero;
      failures = c.kinds of_failure;
      sum = sum_seen m (reached_lawful r).rule;
      seen = c.seen;
    }

-- the record is a function of the history: whichever constructor it began by, it is what the calls reach one after the other
new_alike : (j k : MetricsNew) → new_metrics j ≡ new_metrics k
new_alike MetricsNew.new MetricsNew.new = refl
new_alike MetricsNew.new MetricsNew.default = refl
new_alike MetricsNew.default MetricsNew.new = refl
new_alike MetricsNew.default MetricsNew.default = refl

pub reached_run : (k : MetricsNew) {l : History} {m : MmpMetrics} → Reached l m → m ≡ run_of metrics_step (new_metrics k) l
unfolding run_of
reached_run k (begun j) = new_alike j k
reached_run k (next c f e r) = ap (λ (n : MmpMetrics). (metrics_step c n).state) (reached_run k r)

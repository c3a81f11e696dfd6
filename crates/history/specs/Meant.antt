-- The histories of one metrics record, its accepted calls with the latest first, and the records that they reach from new. Definitions only.
use Rattle.std.specs.Prelude.{◌≡◌, List, [], ◌∷◌, ◌<◌, ◌^◌}
use Rattle.wire.specs.ReceiverReport as wire
use Rattle.metrics.specs.declared.MmpMetrics.{MmpMetrics}
use Rattle.history.specs.MetricsCalls.{MetricsNew, new_metrics, MetricsCall, metrics_step}

abbrev pub History : Type 0
History = List MetricsCall

-- the arguments fit their types: any fourteen numbers of a report, any u32, any two u64. Of every other call nothing is asked
abbrev pub metrics_fits : MetricsCall → Type 0
metrics_fits (MetricsCall.process_receiver_report rr ours now) = wire.Fits rr × (ours < 2 ^ 32)
metrics_fits (MetricsCall.update_reverse_delivery packets highest) = (packets < 2 ^ 64) × (highest < 2 ^ 64)
metrics_fits MetricsCall.reset_for_rekey = Unit {0}
metrics_fits MetricsCall.reports_seen = Unit {0}
metrics_fits MetricsCall.stale_reports = Unit {0}
metrics_fits (MetricsCall.ask q) = Unit {0}

-- the history reaches the record from new, by itself: each call fits, is accepted, and gets the record as the one before handed it back
pub data Reached : History → MmpMetrics → Type 0 where
  begun : (k : MetricsNew) → Reached [] (new_metrics k)
  next : {l : History} {m : MmpMetrics} (c : MetricsCall) → metrics_fits c → (metrics_step c m).refusal ≡ 0 → Reached l m → Reached (c ∷ l) (metrics_step c m).state

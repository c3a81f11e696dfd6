-- A rekey does to a metrics record what document 01, "Round trip, ratios and trends", says.
use mathlib.Core.Path.{refl}
use lib.Ieee.{of_int}
use Rattle.metrics.specs.Updates.{rekeyed, rekey_of}
use Rattle.metrics.specs.declared.MmpMetrics.{MmpMetrics}
use Rattle.history.specs.MetricsCalls.{metrics_step}
use Rattle.history.specs.Rekey.{Cleared, Stays, Rekeyed, RekeyHolds}

cleared : (m : MmpMetrics) → Cleared (rekeyed m)
unfolding rekeyed
cleared m =
    record {
      packets = refl;
      bytes = refl;
      highest = refl;
      ecn = refl;
      reorders = refl;
      time = refl;
      none_kept = refl;
      reverse_packets = refl;
      reverse_highest = refl;
      no_reverse = refl;
    }

stay : (m : MmpMetrics) → Stays m (rekeyed m)
unfolding rekeyed
stay m =
    record {
      round_trip = refl;
      rtt_trend = refl;
      loss_trend = refl;
      goodput_trend = refl;
      jitter_trend = refl;
      etx_trend = refl;
      reverse = refl;
      etx = refl;
      goodput = refl;
      seen = refl;
      samples = refl;
      zeros = refl;
      failures = refl;
      last = refl;
      stale = refl;
      no_echo = refl;
    }

said : (m : MmpMetrics) → Rekeyed m (rekeyed m)
unfolding rekeyed of_int
said m = record { cleared = cleared m; forward = refl; stays = stay m }

pub rekey_holds : RekeyHolds
unfolding metrics_step rekey_of
rekey_holds m e = rw e (said m)

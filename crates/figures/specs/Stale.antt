-- When a report is stale: document 01, "Round trip, ratios and trends". Definitions only.
use Rattle.std.specs.Prelude.{Bool, false, ◌&&◌, ◌||◌, ltb, eqb}
use Rattle.wire.specs.declared.receiver_report.ReceiverReport.{ReceiverReport}
use Rattle.figures.specs.declared.Counters.{Counters}

-- the five counters of a report: highest, packets, bytes, ECN, reorders
abbrev pub counters_of : ReceiverReport → Counters
counters_of rr =
    record {
      highest = rr.highest_counter;
      packets = rr.cumulative_packets_recv;
      bytes = rr.cumulative_bytes_recv;
      ecn = rr.ecn_ce_count;
      reorders = rr.cumulative_reorder_count;
    }

-- the counters of the report that is kept, if one is
pub data Saved : Type 0 where
  none : Saved
  saved : Counters → Saved

-- "one of five counters fell"
unfoldable pub fell : Counters → Counters → Bool
fell kept new =
    ltb new.highest kept.highest
    || ltb new.packets kept.packets
    || ltb new.bytes kept.bytes
    || ltb new.ecn kept.ecn
    || ltb new.reorders kept.reorders

-- "all five are equal"
unfoldable pub same : Counters → Counters → Bool
same kept new =
    eqb new.highest kept.highest
    && eqb new.packets kept.packets
    && eqb new.bytes kept.bytes
    && eqb new.ecn kept.ecn
    && eqb new.reorders kept.reorders

-- "Stale means that an earlier report is kept and one of five counters fell, or all five are equal": a first report is never stale
unfoldable pub stale : Saved → ReceiverReport → Bool
stale none rr = false
stale (saved kept) rr = fell kept (counters_of rr) || same kept (counters_of rr)

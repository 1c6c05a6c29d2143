-- What a sink in memory takes, and which of its pieces fail.
use Rattle.std.specs.Prelude.{◌≡◌, ℕ, ◌-◌, ◌==◌, if◌then◌else◌, min, Bool, List, length, Result, is_ok}
use Rattle.pb_io.specs.Faults.{is_among, next_count}
use Rattle.pb_io.specs.declared.mem_sink.MemSink.{MemSink}

-- the bytes taken so far
abbrev pub sink_taken : MemSink → List ℕ
sink_taken sink = sink.taken.items

-- how many bytes it takes in all
abbrev pub sink_room : MemSink → ℕ
sink_room sink = sink.room

-- how many bytes it takes of one piece
abbrev pub sink_most : MemSink → ℕ
sink_most sink = sink.most

-- the numbers of the pieces that fail
abbrev pub sink_fails : MemSink → List ℕ
sink_fails sink = sink.calls.fails.items

-- the number of pieces with bytes so far, and so the number of the next one
abbrev pub sink_calls : MemSink → ℕ
sink_calls sink = sink.calls.next

abbrev pub sink_faults : MemSink → ℕ
sink_faults sink = sink.faults

-- how many bytes of a piece there is room for
abbrev pub fitting_count : MemSink → List ℕ → ℕ
fitting_count sink piece = min (min (length piece) sink.most) (sink.room - length sink.taken.items)

-- the next piece with bytes fails by its number
abbrev pub sink_fails_now : MemSink → Bool
sink_fails_now sink = is_among sink.calls.next sink.calls.fails.items

-- one more piece, where it has bytes, and one more fault where it failed
pub record CountsPiece {T E : Type 0} (old new : MemSink) (piece : List ℕ) (result : Result T E) : Type 0 where
  pub calls : sink_calls new ≡ (if length piece == 0 then sink_calls old else next_count (sink_calls old))
  pub faults : sink_faults new ≡ (if is_ok result then sink_faults old else next_count (sink_faults old))

-- what the sink was made with stays
pub record KeepsSettings (old new : MemSink) : Type 0 where
  pub room : sink_room new ≡ sink_room old
  pub most : sink_most new ≡ sink_most old
  pub fails : sink_fails new ≡ sink_fails old

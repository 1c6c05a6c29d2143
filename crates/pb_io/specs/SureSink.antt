-- How many bytes a sink that keeps none of them has taken.
use Rattle.std.specs.Prelude.{ℕ}
use Rattle.pb_io.specs.declared.sure_sink.SureSink.{SureSink}

abbrev pub sure_count : SureSink → ℕ
sure_count sink = sink.count

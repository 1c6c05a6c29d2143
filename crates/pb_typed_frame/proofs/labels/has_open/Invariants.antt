use Rattle.std.proofs.Common.{◌≡◌, drop}
use Rattle.std.specs.List.{list_any}
use Rattle.pb_typed.specs.Frame.{is_open}
use Rattle.pb_typed_frame.proofs.labels.has_open.Given as goal

abbrev pub invariant-loop-carried : goal.invariant-loop-carried
invariant-loop-carried l = list_any is_open l.types ≡ list_any is_open (drop l.carried-index l.types)

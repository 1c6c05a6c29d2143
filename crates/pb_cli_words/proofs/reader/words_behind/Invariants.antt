use Rattle.std.proofs.Common.{◌≡◌, map, drop}
use Rattle.std.specs.String.{string_bytes}
use Rattle.pb_cli_words.specs.Reader.{behind_of}
use Rattle.pb_cli_words.proofs.reader.words_behind.Given as goal

abbrev pub invariant-loop-at : goal.invariant-loop-at
invariant-loop-at l = behind_of (map string_bytes (drop l.at l.words)) ≡ behind_of (map string_bytes l.words)

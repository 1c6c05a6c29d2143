use Rattle.std.proofs.Common.{◌≡◌, ◌++◌, drop}
use Rattle.pb_local.specs.Tree.{program_of}
use Rattle.pb_typed_lines.specs.Bits.{bits_text}
use Rattle.pb_typed_lines.proofs.line.push_bits.Given as goal

abbrev pub invariant-loop-bit : goal.invariant-loop-bit
invariant-loop-bit l = l.out.items ++ bits_text (program_of l.local) l.types (drop l.bit-index l.bits) ≡ l.initial.out.items ++ bits_text (program_of l.local) l.types l.bits

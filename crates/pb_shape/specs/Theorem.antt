-- The ranks of a program of the shape: each does its part of the sequential run, and all together do the run.
use Rattle.std.specs.Prelude.{ℤ}
use Rattle.pb_world.specs.Family.{Laws}
use Rattle.pb_world.specs.Theorem.{AllRanks}
use Rattle.pb_core_language.specs.Collectives.{setting_of}
use Rattle.pb_core_language.specs.Plain.{Protocol}
use Rattle.pb_core_language.specs.Rules.{flat_at}
use Rattle.pb_core_language.specs.Run.{seq, is_over}
use Rattle.pb_local.specs.Family.{Sequence, family}
use Rattle.pb_local.specs.Tree.{Program}

-- the sequential run of a protocol at N = n
abbrev pub sequence_of : Protocol → ℤ → Sequence
sequence_of p n = record { run = seq (setting_of p n) (flat_at p n); over = is_over (setting_of p n) (flat_at p n) }

-- Each rank of the text follows its part of the sequential run for all answers, with at most four silent steps for each statement before each action, and ends where
-- nothing more comes for it; and all ranks together do the run up to swaps, whatever the order of their events and the modes of their sends, and stop only at its end
abbrev pub DoesRun : Protocol → Program → ℤ → Type 0
DoesRun p l n = Laws (family l n (sequence_of p n)) × AllRanks (family l n (sequence_of p n))

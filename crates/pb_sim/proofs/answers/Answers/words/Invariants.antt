use Rattle.std.proofs.Common.{◌≡◌, ℕ, ◌+◌, ◌<◌, length, get_or}
use Rattle.pb_sim.proofs.answers.Answers.words.Given as goal

abbrev pub invariant-loop-k : goal.invariant-loop-k
invariant-loop-k g l = record {
  long : length l.words.items ≡ l.k;
  words : (j : ℕ) → j < l.k → goal.A-post g l.self.answer l.self.seed l.rank (l.first + j) (get_or l.words.items j 0);
}

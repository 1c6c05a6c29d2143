-- What a run knows besides the protocol: how many ranks there are, and the payloads of the labels.
use Rattle.std.specs.Prelude.{ℕ, ◌==◌, cond, Bool, true, false, List, [], nat_lt}
use Rattle.pb_syntax.specs.declared.core_label.CoreLabel.{CoreLabel}
use Rattle.pb_world.specs.Actions.{Collective, Barrier, Broadcast, Reduce, Allreduce, AnswerTable}
use Rattle.pb_core_language.specs.Run as R
use Rattle.pb_core_language.specs.Run.{entered_now}
use Rattle.pb_core_language.specs.Collectives.{setting, combined_of, combine, payload_of, word_count}
use Rattle.pb_plain_run.specs.declared.setting.Setting.{Setting}

-- for a protocol's ranks and labels at one N this is its setting
abbrev pub setting_with : ℕ → List CoreLabel → R.Setting
setting_with total labels = setting total (λ l. word_count (payload_of labels l)) (λ operation l x y. combine (payload_of labels l) operation x y)

abbrev pub setting_of : Setting → R.Setting
setting_of s = setting_with s.total s.labels.now

-- the words with which ranks leave a collective, where they leave with any
abbrev pub shared : ℕ → List CoreLabel → Collective → (ℕ → List ℕ) → List ℕ
shared total labels Barrier words = []
shared total labels (Broadcast label root) words = cond (nat_lt root total) (words root) []
shared total labels (Reduce label operation root) words = combined_of (combine (payload_of labels label) operation) total words
shared total labels (Allreduce label operation) words = combined_of (combine (payload_of labels label) operation) total words

-- whether this rank leaves with words
abbrev pub leaves_with_words : Collective → ℕ → Bool
leaves_with_words Barrier r = false
leaves_with_words (Broadcast label root) r = true
leaves_with_words (Reduce label operation root) r = r == root
leaves_with_words (Allreduce label operation) r = true

-- the words with which the ranks enter
abbrev pub entries : Setting → AnswerTable → Collective → ℕ → List ℕ
entries s A j p = entered_now (setting_of s) A j p

-- What the program knows of a run besides the protocol.
use Rattle.std.specs.Prelude.{ℕ, List}
use Rattle.pb_text.specs.declared.action.Joint.{Joint}
use Rattle.pb_syntax.specs.declared.core_label.CoreLabel.{CoreLabel}
use Rattle.pb_world.specs.Actions as W
use Rattle.pb_world.specs.Log as L
use Rattle.pb_core_language.specs.Run as R
use Rattle.pb_core_language.specs.Collectives.{setting, combine, payload_of, word_count}
use Rattle.pb_core_language.specs.FlatOf.{operation_of}
use Rattle.pb_judge_joint.specs.declared.setting.Collective.{Collective}
use Rattle.pb_judge_joint.specs.declared.setting.Collective.TheVariants as C
use Rattle.pb_judge_joint.specs.declared.setting.Setting.{Setting}

abbrev pub collective_of : Collective → W.Collective
collective_of C.Barrier = W.Barrier
collective_of (C.Broadcast label root) = W.Broadcast label root
collective_of (C.Reduce label op root) = W.Reduce label (operation_of op) root
collective_of (C.Allreduce label op) = W.Allreduce label (operation_of op)

abbrev pub known_by : Collective → Joint
known_by joint = L.known_by (collective_of joint)

-- an operation on two words of a label
abbrev pub operate_with : List CoreLabel → W.Operation → ℕ → ℕ → ℕ → ℕ
operate_with labels operation l x y = combine (payload_of labels l) operation x y

-- for a protocol's ranks and labels at one N this is its setting
abbrev pub setting_with : ℕ → List CoreLabel → R.Setting
setting_with total labels = setting total (λ l. word_count (payload_of labels l)) (operate_with labels)

abbrev pub setting_of : Setting → R.Setting
setting_of s = setting_with s.total s.labels.now

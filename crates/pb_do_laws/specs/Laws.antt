-- What runs of a file with calls have to do with those of the file in which each call is replaced.
use Rattle.std.specs.Prelude.{◌≡◌, ℕ, ℤ, Bool, true, false, ◌||◌, Some, List, [], ◌∷◌, ◌++◌}
use Rattle.pb_syntax.specs.Tree.{PlainFile}
use Rattle.pb_world.specs.Actions.{AnswerTable}
use Rattle.pb_core_language.specs.Collectives.{setting_of}
use Rattle.pb_core_language.specs.Meaning.{labels_of, kernels_of, meaning}
use Rattle.pb_core_language.specs.Names.{same}
use Rattle.pb_core_language.specs.Rules.{flat_at}
use Rattle.pb_core_language.specs.Run as run
use Rattle.pb_core_language.specs.Run.{seq}
use Rattle.pb_core_language.specs.Verdict.{IsIn, IsAccepted}
use Rattle.pb_do_syntax.specs.Calls.{PlainSub, PlainCallFile}
use Rattle.pb_do_syntax.specs.Names.{Name, sub_named}
use Rattle.pb_do_syntax.specs.Inlining.{IsInlined}
use Rattle.pb_do_laws.specs.Ends.{all_can_end, body_can_end, call_can_end}
use Rattle.pb_do_laws.specs.Machine.{Opener, Once, Body, Frame, back, Numbering, calls, is_over}
use Rattle.pb_do_laws.specs.Made.{IsMade}

-- ---- what can end

-- a call can end exactly if the body of its subprotocol can
abbrev pub CallsEnd : Type 0
CallsEnd = (subs : List PlainSub) (f : Name) (sub : PlainSub) → sub_named subs f ≡ Some sub → call_can_end subs f ≡ all_can_end (call_can_end subs) sub.body.list

-- and no others can: what holds of each call whose body can end where it holds of the calls in it, holds of all that can
abbrev pub EndsAreLeast : Type 0
EndsAreLeast = (subs : List PlainSub) (holds : Name → Bool) → ((f : Name) → body_can_end holds (sub_named subs f) ≡ true → holds f ≡ true) → (f : Name) → call_can_end subs f ≡ true → holds f ≡ true

-- ---- what a continue drops

abbrev pub is_loop_of : Name → Opener → Bool
is_loop_of x Once = false
is_loop_of x (Body y body) = same x y

-- a loop of this name is open in these frames
abbrev pub is_open : Name → List Frame → Bool
is_open x [] = false
is_open x (f ∷ frames) = is_loop_of x f.opener || is_open x frames

-- a continue whose loop is open inside a call leaves alone what is outside
abbrev pub ContinuesStay : Type 0
ContinuesStay = (x : Name) (inside outside : List Frame) → is_open x inside ≡ true → back x (inside ++ outside) ≡ back x inside ++ outside

-- ---- runs

-- labels and kernels have the numbers that they have in this file
abbrev pub numbering_of : PlainFile → Numbering
numbering_of file = record { labels = labels_of file; kernels = kernels_of file }

-- the same actions are done by so many steps of the one and so many of the other, and the one is over where the other is
pub record IsAlike (f : PlainCallFile) (file : PlainFile) (n : ℤ) (answers : AnswerTable) (steps others : ℕ) : Type 0 where
  pub actions : calls f (numbering_of file) n answers steps ≡ seq (setting_of (meaning file) n) (flat_at (meaning file) n) answers others
  pub ends : is_over f (numbering_of file) n answers steps ≡ run.is_over (setting_of (meaning file) n) (flat_at (meaning file) n) answers others

-- for however many steps of the one there are such of the other
pub record HaveOneRun (f : PlainCallFile) (file : PlainFile) (n : ℤ) (answers : AnswerTable) : Type 0 where
  pub forth : (steps : ℕ) → (others : ℕ) × IsAlike f file n answers steps others
  pub back : (others : ℕ) → (steps : ℕ) × IsAlike f file n answers steps others

-- Where a file comes of one with calls, by replacing each, and keeps the twelve rules, both have one run: for every N of
-- the range, and whatever the answers.
abbrev pub RunsAreOne : Type 0
RunsAreOne =
    (f : PlainCallFile) (file : PlainFile) → IsMade f → IsInlined f file → IsAccepted file →
    (n : ℤ) → IsIn (meaning file).range n → (answers : AnswerTable) → HaveOneRun f file n answers

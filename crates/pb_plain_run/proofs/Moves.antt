-- One step, from what a statement adds and leaves on the stack.
use Rattle.std.proofs.Common.{◌≡◌, ℕ, List, [], ◌∷◌, append-nil, Result, Ok, Err, OnOk, subst, refl, sym}
use Rattle.pb_world.specs.Actions.{Action, AnswerTable}
use Rattle.pb_core_language.specs.Flat.{Block}
use Rattle.pb_core_language.specs.Run.{Setting, Opener, Frame, emit_at, taken_at, move}
use Rattle.pb_plain_run.specs.Used.{Adds}
use Rattle.pb_plain_run.specs.Doing.{Steps}

pub moved : (w : Setting) (o : Opener) (b : Block) (K S : List Frame) (A B : AnswerTable) (old new : List (ℕ × Action)) → S ≡ move o K b (taken_at w b A) → Adds (emit_at w b A) old new A B →
    Steps w (record { stack = record { opener = o; rest = b } ∷ K; left = A }) (record { stack = S; left = B }) old new
moved w o b K S A B old new e a = record { state = λ i. record { stack = e i; left = a.left i }; actions = a.actions }

pub nothing_adds : (old : List (ℕ × Action)) (A : AnswerTable) → Adds [] old old A A
nothing_adds old A = record { actions = sym (append-nil old); left = refl }

pub moved_as : (w : Setting) (o : Opener) (b is : Block) (K S : List Frame) (A B : AnswerTable) (old new : List (ℕ × Action)) → b ≡ is → S ≡ move o K is (taken_at w is A) → Adds (emit_at w is A) old new A B →
    Steps w (record { stack = record { opener = o; rest = b } ∷ K; left = A }) (record { stack = S; left = B }) old new
moved_as w o b is K S A B old new same e a =
    subst (λ (x : Block). Steps w (record { stack = record { opener = o; rest = x } ∷ K; left = A }) (record { stack = S; left = B }) old new) (sym same) (moved w o is K S A B old new e a)

-- two facts of one success give a third
pub on_ok_both : {X E : Type 0} (r : Result X E) (P Q R : Type 0) → OnOk r P → OnOk r Q → (P → Q → R) → OnOk r R
on_ok_both (Ok x) P Q R p q f = f p q
on_ok_both (Err e) P Q R p q f = tt

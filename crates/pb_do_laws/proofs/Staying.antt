-- A continue whose loop is open inside a call leaves alone what is outside.
use Rattle.std.proofs.Common.{◌≡◌, Bool, true, false, ◌||◌, if◌then◌else◌, List, [], ◌∷◌, ◌++◌, refl}
use Rattle.pb_core_language.specs.Names.{same}
use Rattle.pb_do_syntax.specs.Calls.{Calls}
use Rattle.pb_do_syntax.specs.Names.{Name}
use Rattle.pb_do_syntax.specs.Inlining.{Roles}
use Rattle.pb_do_laws.specs.Machine.{Opener, Once, Body, Frame, frame, back, back_over}
use Rattle.pb_do_laws.specs.Laws.{is_loop_of, is_open, ContinuesStay}

module _ (x : Name) (r : Roles) (inside outside : List Frame) (inner : is_open x inside ≡ true → back x (inside ++ outside) ≡ back x inside ++ outside) where
  at_loop : (y : Name) (body : Calls) (b : Bool) → (b || is_open x inside) ≡ true →
      (if b then frame (Body y body) r [] body ∷ (inside ++ outside) else back x (inside ++ outside)) ≡ (if b then frame (Body y body) r [] body ∷ inside else back x inside) ++ outside
  at_loop y body true h = refl
  at_loop y body false h = inner h

  at_frame : (o : Opener) → (is_loop_of x o || is_open x inside) ≡ true → back_over o r x (inside ++ outside) (back x (inside ++ outside)) ≡ back_over o r x inside (back x inside) ++ outside
  at_frame Once h = inner h
  at_frame (Body y body) h = at_loop y body (same x y) h

pub stays : ContinuesStay
stays x [] outside h = cc
stays x (f ∷ inside) outside h = at_frame x f.roles inside outside (λ k. stays x inside outside k) f.opener h

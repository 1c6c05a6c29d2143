-- What a sink took of a text.
use Rattle.std.proofs.Common.{◌≡◌, refl, sym, ℕ, List, [], ◌++◌, length, take, Option, Some, None, subst, Result, Ok, Err, OnOk, OnErr}
use Rattle.std.proofs.Math.Seq.{take-length}
use Rattle.std.proofs.lemmas.List.{append-nil}
use Rattle.std.specs.Io.KnownBytes.{Appends}
use Rattle.pb_io.specs.Files.{File}
use Rattle.pb_io.specs.Sinks.{AppendsFront}
use Rattle.pb_explain_again.specs.Told.{IsTold}
use Rattle.pb_explain.specs.Told.{AppendsSome, Tells}
use Rattle.pb_explain_again.proofs.Pages.{of_nothing}

pub of_result : {T E : Type 0} (r : Result T E) (before after : Option (List ℕ)) (text : List ℕ) → OnOk r (Appends before after text)
    → OnErr r (AppendsFront before after text) → AppendsSome before after text
of_result (Ok x) before after text whole front =
    record { count = length text; front = subst (λ (t : List ℕ). Appends before after t) (sym (take-length text)) whole }
of_result (Err e) before after text whole front = record { count = front.count; front = front.front }

no_more : (before : Option (List ℕ)) → Appends before before []
no_more None = tt
no_more (Some bytes) = sym (append-nil bytes)

pub unchanged : (holds : Option (List File)) (before : Option (List ℕ)) → Tells holds before before
unchanged holds before =
    record { text = []; told = of_nothing holds; written = record { count = 0; front = no_more before } }

pub written : (holds : Option (List File)) (before after : Option (List ℕ)) (text : List ℕ) → IsTold holds text
    → AppendsSome before after text → Tells holds before after
written holds before after text told some = record { text = text; told = told; written = some }

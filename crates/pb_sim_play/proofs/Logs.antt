-- Lines of a log that are held back, and written.
use Rattle.std.proofs.Common.{◌≡◌, ℕ, List, [], ◌++◌, Option, sym, ap, subst, ◌∙◌, append_assoc, append-nil}
use Rattle.std.specs.Io.KnownBytes.{Appends}
use Rattle.pb_io.specs.Sinks.{AppendsFront}
use Rattle.pb_cli_status.proofs.Fronts.{appends_both, front_both}
use Rattle.pb_sim_play.specs.Records.{IsLog}

pub kept : (start now : Option (List ℕ)) (lines more all text : List ℕ) → all ≡ lines ++ more → IsLog start lines now text → IsLog start all now (text ++ more)
kept start now lines more all text e (bytes, held, is) =
    (bytes, held, ap (λ (l : List ℕ). bytes ++ l) e ∙ (sym (append_assoc bytes lines more) ∙ ap (λ (l : List ℕ). l ++ more) is))

pub written : (start now later : Option (List ℕ)) (lines left text : List ℕ) → left ≡ [] → Appends now later lines → IsLog start lines now text → IsLog start left later text
written start now later lines left text none went (bytes, held, is) =
    (bytes ++ lines, appends_both start now later bytes lines held went, ap (λ (l : List ℕ). (bytes ++ lines) ++ l) none ∙ (append-nil (bytes ++ lines) ∙ is))

pub failed : (start now later : Option (List ℕ)) (lines text : List ℕ) → AppendsFront now later lines → IsLog start lines now text → AppendsFront start later text
failed start now later lines text front (bytes, held, is) = subst (λ (t : List ℕ). AppendsFront start later t) is (front_both start now later bytes lines held front)

pub done : (start now later : Option (List ℕ)) (lines text : List ℕ) → Appends now later lines → IsLog start lines now text → Appends start later text
done start now later lines text went (bytes, held, is) = subst (λ (t : List ℕ). Appends start later t) is (appends_both start now later bytes lines held went)

-- The theorem for an accepted file.
use Rattle.std.proofs.Common.{◌≡◌, ℕ, zero, ℤ, sym, subst, Option, None, List, [], ◌∷◌, refl, arith}
use Rattle.std.specs.Prelude.{Contains}
use Rattle.pb_text.specs.declared.place.Place.{Place}
use Rattle.pb_core_language.specs.FileRules.{first_or, broken_1, broken_2, broken_3, broken_4}
use Rattle.pb_core_language.specs.Rules.{Breach, breaches}
use Rattle.pb_core_language.specs.Meaning.{meaning}
use Rattle.pb_core_language.specs.Plain.{Protocol}
use Rattle.pb_core_language.specs.Verdict.{IsIn, KeepsAll}
use Rattle.pb_core_endpoint.specs.File.{FileRanks}
use Rattle.pb_core_endpoint.proofs.Shapes.{files_are_shaped}
use Rattle.pb_core_endpoint.proofs.FileProper.{proper_of}
use Rattle.pb_core_endpoint.proofs.CoreDone.{core_ranks}

none_first : (k : ℕ) (ps : List Place) (later : Option (ℕ × Place)) → first_or k ps later ≡ None → (ps ≡ []) × (later ≡ None)
none_first k [] later h = (refl, h)
none_first k (p ∷ ps) later h = cc

pub no_breach : (p : Protocol) (n : ℤ) → IsIn p.range n → KeepsAll p → (bs : List Breach) → breaches p n ≡ bs → breaches p n ≡ []
no_breach p n within keeps [] e = e
no_breach p n within keeps (b ∷ bs) e = absurd (keeps (record { n = n; breach = b }) (record { within = within; there = subst (λ l. Contains l b) (sym e) (zero, omega arith, refl) }))

pub file_ranks : FileRanks
file_ranks ts f is accepted n within =
    let one = none_first 1 (broken_1 f) _ accepted.earlier in
    let two = none_first 2 (broken_2 f) _ one.1 in
    let three = none_first 3 (broken_3 f) _ two.1 in
    let four = none_first 4 (broken_4 f) _ three.1 in
    core_ranks (meaning f) n (proper_of f (files_are_shaped ts f is) three.0 four.0) (no_breach (meaning f) n within accepted.keeps (breaches (meaning f) n) refl)

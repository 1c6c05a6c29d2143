use Rattle.std.proofs.Common.{rules, ◌≡◌, Bool, true, false, List, ℕ, Option, Some, None, option_copied, option_map, codes, refl, ◌∙◌, Bor}
use Rattle.clap.specs.Words.{first_of, first_value, found_of, rows_of}
use Rattle.clap.proofs.WalkLemmas.{first_value-rows, one_text-rows}
use Rattle.clap.specs.declared.parser.matches.Found.{Found}
use Rattle.pb_cli_words.specs.Reader.{IsFlag, listed}
use Rattle.pb_cli_words.proofs.given.Given.new.Goals as goal

copied : (o : Option (Bor (List ℕ))) → option_copied o ≡ option_map (λ s. s.now) o
copied None = refl
copied (Some s) = refl

read : (o : Option (Bor (List ℕ))) (f : Found) (id : List ℕ) → option_map (λ s. s.now) o ≡ first_value f id → option_copied o ≡ first_of id (rows_of f)
read o f id e = copied o ∙ (e ∙ first_value-rows f id)

pub returns : goal.returns
returns c =
    let f = found_of c.args.matches.now in
    let n = read c.get_str.result f (codes "n") (search rules) in
    let s = read c.get_str-2.result f (codes "seed") (search rules) in
    let t = read c.get_str-3.result f (codes "turns") (search rules) in
    let m = read c.get_str-4.result f (codes "mode") (search rules) in
    let up : IsFlag (rows_of f) true → c.get_flag.result ≡ true = λ e. c.get_flag.ensures.value (one_text-rows f (codes "schedule") ∙ e) in
    let down : IsFlag (rows_of f) false → c.get_flag.result ≡ false = λ e. c.get_flag.ensures.other (one_text-rows f (codes "schedule") ∙ e) in
    let flag : (b : Bool) → IsFlag (rows_of f) b → c.get_flag.result ≡ b = λ b. elim b as (λ b. IsFlag (rows_of f) b → c.get_flag.result ≡ b) [ true ↦ up | false ↦ down ] in
    λ schedule e. λ i. listed (n i) (s i) (t i) (m i) (flag schedule e i)

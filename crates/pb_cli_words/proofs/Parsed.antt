-- What a parse by `clap` says of the words.
use Rattle.std.proofs.Common.{◌≡◌, ⊎_elim, List, [], ◌∷◌, Some, None, refl, sym, ap, ◌∙◌}
use Rattle.clap.specs.Words.{App, HasKind, HasMatchesOf, Kinds, Row, Text, fault_of, found_of, is_simple, kind_of, matches_of, rows_of}
use Rattle.clap.specs.declared.error.Error.{Error}
use Rattle.clap.specs.declared.error.kind.ErrorKind.TheVariants.{OutOfMemory}
use Rattle.clap.specs.declared.parser.matches.ArgMatches.{ArgMatches}
use Rattle.pb_cli_words.specs.Reader.{matched, matched_if, reader_app}
use Rattle.pb_cli_words.proofs.Rules.{simple}

pub taken : (a : App) (words : List Text) (m : ArgMatches) → a ≡ reader_app → fault_of a words ≡ [] → HasMatchesOf a words m → Some (rows_of (found_of m)) ≡ matched words
taken a words m is none h =
    ap Some ((h (ap is_simple is ∙ simple)).0 ∙ ap (λ x. matches_of x words) is)
    ∙ sym (ap (λ k. matched_if k (matches_of reader_app words)) (ap (λ x. fault_of x words) (sym is) ∙ none))

refused_by : (kinds : Kinds) (e : Error) (rows : List Row) → HasKind kinds e → (kind_of e ≡ OutOfMemory → ⊥) → None ≡ matched_if kinds rows
refused_by [] e rows h other = ⊎_elim (λ memory. absurd (other memory)) (λ none. absurd none) h
refused_by (k ∷ kinds) e rows h other = refl

pub refused : (a : App) (words : List Text) (e : Error) → a ≡ reader_app → HasKind (fault_of a words) e → (kind_of e ≡ OutOfMemory → ⊥) → None ≡ matched words
refused a words e is h other = refused_by (fault_of a words) e (matches_of reader_app words) h other ∙ ap (λ x. matched_if (fault_of x words) (matches_of reader_app words)) is

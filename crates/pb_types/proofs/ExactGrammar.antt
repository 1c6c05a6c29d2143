-- Each reader is exact for its form.
use Rattle.std.proofs.Common.{ℕ, List, [], ◌∷◌, refl}
use Rattle.pb_text.specs.declared.token.Mark.{Mark}
use Rattle.pb_text.specs.declared.token.Mark.TheVariants as marks
use Rattle.pb_text.specs.declared.token.Key.{Key}
use Rattle.pb_text.specs.declared.token.Key.TheVariants as keys
use Rattle.pb_syntax.specs.Form.{many}
use Rattle.pb_syntax.specs.Grammar.{reads_mark, reads_key, reads_name, reads_number, mark, key, name, number}
use Rattle.pb_syntax.specs.Reading.{many_at}
use Rattle.pb_syntax.specs.Readers.{mark_at, key_at, name_at, number_at, key_next, word_next}
use Rattle.pb_syntax.proofs.Exact.{Reads, Begins, done_reads, one_reads, ◌>>=◌, after, either}
use Rattle.pb_syntax.proofs.ExactMany.{many_reads}
use Rattle.pb_syntax.proofs.Firsts.{mark_kind, key_kind, name_kind, number_kind, first_one, first_then, misses_first, misses_or, misses_done, misses_many, misses_last, apart_of, apart_one, apart_all, ends_all}
use Rattle.pb_types.specs.Grammar.{reads_element, element, constant, size, extent, row, file}
use Rattle.pb_types.specs.Readers.{element_at, constant_at, size_at, extent_at, row_at, file_at}
use Rattle.pb_types.proofs.LawfulGrammar.{constant_ok, row_ok}

mark_reads : {goes : List ℕ} (m : Mark) → Reads (mark m) (mark_at m) goes
mark_reads m = one_reads (reads_mark m)

key_reads : {goes : List ℕ} (k : Key) → Reads (key k) (key_at k) goes
key_reads k = one_reads (reads_key k)

name_reads : {goes : List ℕ} → Reads name name_at goes
name_reads = one_reads reads_name

number_reads : {goes : List ℕ} → Reads number number_at goes
number_reads = one_reads reads_number

element_reads : {goes : List ℕ} → Reads element element_at goes
element_reads = one_reads reads_element

constant_reads : {goes : List ℕ} → Reads constant constant_at goes
unfolding constant_at
constant_reads = do
  start ← key_reads keys.Const
  of ← name_reads
  equals ← mark_reads marks.Equals
  n ← number_reads
  semicolon ← mark_reads marks.Semicolon
  done_reads _

-- a number or a name in brackets
abbrev size_goes : List ℕ
size_goes = 38 ∷ 37 ∷ []

size_reads : Reads size size_at size_goes
unfolding size_at
size_reads =
    either (38 ∷ []) (first_then _ (first_one number_kind refl)) (misses_or (misses_first {ms = 37 ∷ []} (first_then _ (first_one name_kind refl)) refl) (misses_done _ refl))
    (do
      n ← number_reads
      done_reads _)
    (either (37 ∷ []) (first_then _ (first_one name_kind refl)) (misses_done _ refl)
    (do
      of ← name_reads
      done_reads _)
    (done_reads _))

abbrev bracket : List ℕ
bracket = 5 ∷ []

extent_reads : Reads extent extent_at bracket
unfolding extent_at
extent_reads =
    either bracket (first_then _ (first_one (mark_kind marks.LeftBracket) refl)) (misses_done _ refl)
    (do
      left ← mark_reads marks.LeftBracket
      after size_reads (apart_one _ (mark_kind marks.RightBracket) refl) (λ inside. do
        right ← mark_reads marks.RightBracket
        done_reads _))
    (done_reads _)

row_reads : {goes : List ℕ} → Reads row row_at goes
unfolding row_at
row_reads = do
  label ← name_reads
  carries ← element_reads
  after extent_reads (apart_one _ (mark_kind marks.Semicolon) refl) (λ many_of. do
    semicolon ← mark_reads marks.Semicolon
    done_reads _)

abbrev const_goes : List ℕ
const_goes = 13 ∷ []

abbrev row_goes : List ℕ
row_goes = 37 ∷ []

-- the first tokens of lines
abbrev pub file_goes : List ℕ
file_goes = 13 ∷ 37 ∷ []

constants_reads : Reads (many constant) (many_at (key_next keys.Const) constant_at) const_goes
constants_reads = many_reads {first = []} const_goes const_goes (first_then _ (first_one (key_kind keys.Const) refl)) (apart_all const_goes [] refl) (ends_all const_goes [] const_goes refl refl) constant_ok constant_reads

row_first : Begins row_goes row
row_first = first_then _ (first_one name_kind refl)

rows_reads : Reads (many row) (many_at word_next row_at) file_goes
rows_reads = many_reads {first = []} row_goes file_goes row_first (apart_all row_goes [] refl) (ends_all row_goes [] file_goes refl refl) row_ok row_reads

pub file_reads : Reads file file_at file_goes
unfolding file_at
file_reads =
    after constants_reads (apart_of (λ constants. misses_last _ (misses_many row_first refl refl))) (λ constants.
    after rows_reads (apart_of (λ rows. misses_done _ refl)) (λ rows. done_reads _))

-- The readers of the forms of a file that hold no braces are exact.
use Rattle.std.proofs.Common.{ℕ, List, [], ◌∷◌, Option, Some, None, refl}
use Rattle.pb_text.specs.declared.place.Spot.{Spot}
use Rattle.pb_text.specs.declared.token.Mark.TheVariants as marks
use Rattle.pb_text.specs.declared.token.Mark.{Mark}
use Rattle.pb_text.specs.declared.token.Key.TheVariants as keys
use Rattle.pb_text.specs.declared.token.Key.{Key}
use Rattle.pb_syntax.specs.declared.tree.IndexText.{IndexText}
use Rattle.pb_syntax.specs.declared.tree.IndexText.TheVariants as index
use Rattle.pb_syntax.specs.Form.{Form, many}
use Rattle.pb_syntax.specs.Grammar.{reads_mark, reads_key, reads_name, reads_number, reads_count, mark, key, name, number, offset, lin, range, type, count, carried, payload, op, after_name, bracketed}
use Rattle.pb_syntax.specs.Reading.{Reader, many_at}
use Rattle.pb_syntax.specs.Readers.{mark_at, key_at, mark_next, name_at, number_at, offset_at, lin_at, range_at, role_range_at, type_at, count_at, carried_at, payload_at, op_at, plain_index_at, after_name_at, bracketed_at, any_index_at}
use Rattle.pb_syntax.proofs.Exact.{Reads, Begins, Misses, done_reads, one_reads, ◌>>=◌, after, either}
use Rattle.pb_syntax.proofs.ExactMany.{many_reads}
use Rattle.pb_syntax.proofs.Firsts.{mark_kind, key_kind, name_kind, number_kind, first_one, first_then, first_or, misses_first, misses_or, misses_done, misses_many, misses_last, apart_of, apart_one, apart_all, ends_all}
use Rattle.pb_strips_syntax.specs.Strips.{Strip}
use Rattle.pb_strips_grammar.specs.Grammar.{width, width_behind, role, comma_role, roles, column, column_behind, plain_end, any_end, end_beside, message_text, item_message, compute_text, continue_text, collective, and_semicolon, item}
use Rattle.pb_strips_grammar.specs.Readers.{width_at, width_behind_at, role_at, comma_role_at, roles_at, column_at, column_behind_at, plain_end_at, any_end_at, end_beside_at, message_text_at, item_message_at, compute_text_at, continue_text_at, collective_at, and_semicolon_at, item_at}
use Rattle.pb_strips_grammar.proofs.LawfulGrammar.{comma_role_ok}
use Rattle.pb_strips_grammar.proofs.Spread.{or_nothing}

pub mark_reads : {goes : List ℕ} (m : Mark) → Reads (mark m) (mark_at m) goes
mark_reads m = one_reads (reads_mark m)

pub key_reads : {goes : List ℕ} (k : Key) → Reads (key k) (key_at k) goes
key_reads k = one_reads (reads_key k)

pub name_reads : {goes : List ℕ} → Reads name name_at goes
name_reads = one_reads reads_name

pub number_reads : {goes : List ℕ} → Reads number number_at goes
number_reads = one_reads reads_number

abbrev signs : List ℕ
signs = 11 ∷ 12 ∷ []

offset_reads : Reads offset offset_at signs
unfolding offset_at
offset_reads =
    either (11 ∷ []) (first_then _ (first_one (mark_kind marks.Plus) refl)) (misses_or (misses_first {ms = 12 ∷ []} (first_then _ (first_one (mark_kind marks.Minus) refl)) refl) (misses_done _ refl))
    (do
      plus ← mark_reads marks.Plus
      n ← number_reads
      done_reads _)
    (either (12 ∷ []) (first_then _ (first_one (mark_kind marks.Minus) refl)) (misses_done _ refl)
    (do
      minus ← mark_reads marks.Minus
      n ← number_reads
      done_reads _)
    (done_reads _))

lin_reads : Reads lin lin_at signs
unfolding lin_at
lin_reads =
    either (38 ∷ []) (first_then _ (first_one number_kind refl)) (misses_first {ms = 37 ∷ []} (first_then _ (first_one name_kind refl)) refl)
    (do
      n ← number_reads
      done_reads _)
    (do
      base ← name_reads
      after offset_reads (apart_of (λ x. misses_done _ refl)) (λ off. done_reads _))

pub range_reads : Reads range range_at signs
unfolding range_at
range_reads =
    after lin_reads (apart_one _ (mark_kind marks.Dots) refl) (λ low. do
      dots ← mark_reads marks.Dots
      after lin_reads (apart_of (λ x. misses_done _ refl)) (λ high. done_reads _))

abbrev pub bracket : List ℕ
bracket = 5 ∷ []

type_reads : {goes : List ℕ} → Reads type type_at goes
unfolding type_at
type_reads =
    either (34 ∷ []) (first_then _ (first_one (key_kind keys.Int32) refl)) (misses_first {ms = 35 ∷ []} (first_then _ (first_one (key_kind keys.Uint32) refl)) refl)
    (do
      int32 ← key_reads keys.Int32
      done_reads _)
    (do
      uint32 ← key_reads keys.Uint32
      done_reads _)

type_first : Begins (34 ∷ 35 ∷ []) type
type_first = first_or (first_then _ (first_one (key_kind keys.Int32) refl)) (first_then _ (first_one (key_kind keys.Uint32) refl))

count_reads : Reads count count_at bracket
unfolding count_at
count_reads =
    either bracket (first_then _ (first_one (mark_kind marks.LeftBracket) refl)) (misses_done _ refl)
    (do
      left ← mark_reads marks.LeftBracket
      n ← one_reads reads_count
      right ← mark_reads marks.RightBracket
      done_reads _)
    (done_reads _)

-- a type, or a bracket after one
abbrev carried_goes : List ℕ
carried_goes = 34 ∷ 35 ∷ 5 ∷ []

carried_reads : Reads carried carried_at carried_goes
unfolding carried_at
carried_reads =
    either (34 ∷ 35 ∷ []) (first_then _ type_first) (misses_done _ refl)
    (do
      of ← type_reads
      after count_reads (apart_of (λ x. misses_done _ refl)) (λ n. done_reads _))
    (done_reads _)

payload_reads : {goes : List ℕ} → Reads payload payload_at goes
unfolding payload_at
payload_reads = do
  left ← mark_reads marks.LeftParen
  after carried_reads (apart_one _ (mark_kind marks.RightParen) refl) (λ what. do
    right ← mark_reads marks.RightParen
    done_reads _)

op_reads : {goes : List ℕ} → Reads op op_at goes
unfolding op_at
op_reads =
    either (32 ∷ []) (first_then _ (first_one (key_kind keys.Min) refl)) (misses_or (misses_first {ms = 31 ∷ []} (first_then _ (first_one (key_kind keys.Max) refl)) refl) (misses_first {ms = 33 ∷ []} (first_then _ (first_one (key_kind keys.Sum) refl)) refl))
    (do
      min ← key_reads keys.Min
      done_reads _)
    (either (31 ∷ []) (first_then _ (first_one (key_kind keys.Max) refl)) (misses_first {ms = 33 ∷ []} (first_then _ (first_one (key_kind keys.Sum) refl)) refl)
    (do
      max ← key_reads keys.Max
      done_reads _)
    (do
      sum ← key_reads keys.Sum
      done_reads _))

-- a colon, or a sign
abbrev colon_signs : List ℕ
colon_signs = 10 ∷ 11 ∷ 12 ∷ []

offset_misses_colon : Misses (10 ∷ []) offset colon_signs
offset_misses_colon = misses_or (misses_first {ms = 11 ∷ []} (first_then _ (first_one (mark_kind marks.Plus) refl)) refl) (misses_or (misses_first {ms = 12 ∷ []} (first_then _ (first_one (mark_kind marks.Minus) refl)) refl) (misses_done _ refl))

after_name_reads : (first : Spot) → Reads (after_name first) (after_name_at first) colon_signs
unfolding after_name_at
after_name_reads first =
    either (10 ∷ []) (first_then _ (first_one (mark_kind marks.Colon) refl)) (misses_last _ offset_misses_colon)
    (do
      colon ← mark_reads marks.Colon
      after range_reads (apart_of (λ x. misses_done _ refl)) (λ over. done_reads _))
    (after offset_reads (apart_of (λ x. misses_done _ refl)) (λ off. done_reads _))

bracketed_reads : Reads bracketed bracketed_at colon_signs
unfolding bracketed_at
bracketed_reads =
    either (38 ∷ []) (first_then _ (first_one number_kind refl)) (misses_first {ms = 37 ∷ []} (first_then _ (first_one name_kind refl)) refl)
    (do
      n ← number_reads
      done_reads _)
    (do
      first ← name_reads
      after_name_reads first)

-- ---- roles

width_reads : Reads width width_at bracket
unfolding width_at
width_reads =
    either bracket (first_then _ (first_one (mark_kind marks.LeftBracket) refl)) (misses_done _ refl)
    (do
      left ← mark_reads marks.LeftBracket
      low ← number_reads
      dots ← mark_reads marks.Dots
      high ← number_reads
      right ← mark_reads marks.RightBracket
      done_reads _)
    (done_reads _)

width_behind_reads : {A : Type 0} (over : Option A) → Reads (width_behind over) (width_behind_at over) bracket
unfolding width_behind_at
width_behind_reads (Some rows) = width_reads
width_behind_reads None = done_reads _

role_reads : Reads role role_at bracket
unfolding role_at role_range_at
role_reads = do
  start ← key_reads keys.Role
  of ← name_reads
  or_nothing bracket (first_then _ (first_one (mark_kind marks.LeftBracket) refl)) (misses_last _ (misses_done _ refl))
      (do
        left ← mark_reads marks.LeftBracket
        after range_reads (apart_one _ (mark_kind marks.RightBracket) refl) (λ over. do
          right ← mark_reads marks.RightBracket
          done_reads _))
      (λ over. after (width_behind_reads over) (apart_of (λ x. misses_done _ refl)) (λ wide. done_reads _))

comma_role_reads : Reads comma_role comma_role_at bracket
unfolding comma_role_at
comma_role_reads = do
  comma ← mark_reads marks.Comma
  role_reads

comma_role_first : Begins (9 ∷ []) comma_role
comma_role_first = first_then _ (first_one (mark_kind marks.Comma) refl)

abbrev comma_bracket : List ℕ
comma_bracket = 9 ∷ 5 ∷ []

comma_roles_reads : Reads (many comma_role) (many_at (mark_next marks.Comma) comma_role_at) comma_bracket
comma_roles_reads = many_reads (9 ∷ []) comma_bracket comma_role_first (apart_all (9 ∷ []) bracket refl) (ends_all (9 ∷ []) bracket comma_bracket refl refl) comma_role_ok comma_role_reads

pub roles_reads : Reads roles roles_at comma_bracket
unfolding roles_at
roles_reads =
    after role_reads (apart_of (λ x. misses_last _ (misses_many comma_role_first refl refl))) (λ first.
    after comma_roles_reads (apart_of (λ x. misses_done _ refl)) (λ others. done_reads _))

-- ---- ends

column_reads : Reads column column_at bracket
unfolding column_at
column_reads =
    either bracket (first_then _ (first_one (mark_kind marks.LeftBracket) refl)) (misses_done _ refl)
    (do
      left ← mark_reads marks.LeftBracket
      after lin_reads (apart_one _ (mark_kind marks.RightBracket) refl) (λ at. do
        right ← mark_reads marks.RightBracket
        done_reads _))
    (done_reads _)

column_behind_reads : (at : IndexText) → Reads (column_behind at) (column_behind_at at) bracket
unfolding column_behind_at
column_behind_reads index.Zero = done_reads _
column_behind_reads (index.At at) = column_reads
column_behind_reads (index.Bind var over) = column_reads

pub plain_end_reads : Reads plain_end plain_end_at bracket
unfolding plain_end_at plain_index_at
plain_end_reads = do
  of ← name_reads
  or_nothing bracket (first_then _ (first_one (mark_kind marks.LeftBracket) refl)) (misses_last _ (misses_done _ refl))
      (do
        left ← mark_reads marks.LeftBracket
        after lin_reads (apart_one _ (mark_kind marks.RightBracket) refl) (λ at. do
          right ← mark_reads marks.RightBracket
          done_reads _))
      (λ at. after (column_behind_reads at) (apart_of (λ x. misses_done _ refl)) (λ in_column. done_reads _))

any_end_reads : Reads any_end any_end_at bracket
unfolding any_end_at any_index_at
any_end_reads = do
  of ← name_reads
  or_nothing bracket (first_then _ (first_one (mark_kind marks.LeftBracket) refl)) (misses_last _ (misses_done _ refl))
      (do
        left ← mark_reads marks.LeftBracket
        after bracketed_reads (apart_one _ (mark_kind marks.RightBracket) refl) (λ inside. do
          right ← mark_reads marks.RightBracket
          done_reads _))
      (λ at. after (column_behind_reads at) (apart_of (λ x. misses_done _ refl)) (λ in_column. done_reads _))

end_beside_reads : (first : IndexText) → Reads (end_beside first) (end_beside_at first) bracket
unfolding end_beside_at
end_beside_reads (index.Bind var over) = plain_end_reads
end_beside_reads index.Zero = any_end_reads
end_beside_reads (index.At at) = any_end_reads

-- ---- statements without braces

pub message_text_reads : Reads message_text message_text_at bracket
unfolding message_text_at
message_text_reads = do
  label ← name_reads
  carries ← payload_reads
  from_key ← key_reads keys.From
  after any_end_reads (apart_one _ (key_kind keys.To) refl) (λ from. do
    to_key ← key_reads keys.To
    after (end_beside_reads from.index) (apart_of (λ x. misses_done _ refl)) (λ to. done_reads _))

item_message_reads : Reads item_message item_message_at bracket
unfolding item_message_at
item_message_reads = do
  label ← name_reads
  carries ← payload_reads
  from_key ← key_reads keys.From
  after plain_end_reads (apart_one _ (key_kind keys.To) refl) (λ from. do
    to_key ← key_reads keys.To
    after plain_end_reads (apart_of (λ x. misses_done _ refl)) (λ to. done_reads _))

pub compute_text_reads : Reads compute_text compute_text_at bracket
unfolding compute_text_at
compute_text_reads = do
  start ← key_reads keys.Compute
  kernel ← name_reads
  at_key ← key_reads keys.At
  after plain_end_reads (apart_of (λ x. misses_done _ refl)) (λ who. done_reads _)

pub collective_reads : Reads collective collective_at bracket
unfolding collective_at
collective_reads =
    either (26 ∷ []) (first_then _ (first_one (key_kind keys.Barrier) refl))
    (misses_first {ms = 27 ∷ 28 ∷ 29 ∷ []} (first_or (first_then _ (first_one (key_kind keys.Broadcast) refl)) (first_or (first_then _ (first_one (key_kind keys.Reduce) refl)) (first_then _ (first_one (key_kind keys.Allreduce) refl)))) refl)
    (do
      start ← key_reads keys.Barrier
      done_reads _)
    (either (27 ∷ []) (first_then _ (first_one (key_kind keys.Broadcast) refl))
    (misses_first {ms = 28 ∷ 29 ∷ []} (first_or (first_then _ (first_one (key_kind keys.Reduce) refl)) (first_then _ (first_one (key_kind keys.Allreduce) refl))) refl)
    (do
      start ← key_reads keys.Broadcast
      label ← name_reads
      carries ← payload_reads
      from_key ← key_reads keys.From
      after plain_end_reads (apart_of (λ x. misses_done _ refl)) (λ from. done_reads _))
    (either (28 ∷ []) (first_then _ (first_one (key_kind keys.Reduce) refl))
    (misses_first {ms = 29 ∷ []} (first_then _ (first_one (key_kind keys.Allreduce) refl)) refl)
    (do
      start ← key_reads keys.Reduce
      label ← name_reads
      carries ← payload_reads
      with_key ← key_reads keys.With
      by ← op_reads
      to_key ← key_reads keys.To
      after plain_end_reads (apart_of (λ x. misses_done _ refl)) (λ to. done_reads _))
    (do
      start ← key_reads keys.Allreduce
      label ← name_reads
      carries ← payload_reads
      with_key ← key_reads keys.With
      by ← op_reads
      done_reads _)))

pub and_semicolon_reads : {goes : List ℕ} {what : Form Strip} {r : Reader Strip} → Reads what r bracket → Reads (and_semicolon what) (and_semicolon_at r) goes
unfolding and_semicolon_at
and_semicolon_reads inside = after inside (apart_one _ (mark_kind marks.Semicolon) refl) (λ s. do
  semicolon ← mark_reads marks.Semicolon
  done_reads _)

pub item_reads : {goes : List ℕ} → Reads item item_at goes
unfolding item_at
item_reads =
    either (37 ∷ []) (first_then _ (first_then _ (first_one name_kind refl))) (misses_first {ms = 25 ∷ []} (first_then _ (first_then _ (first_one (key_kind keys.Compute) refl))) refl)
    (and_semicolon_reads item_message_reads)
    (and_semicolon_reads compute_text_reads)

pub item_first : Begins (37 ∷ 25 ∷ []) item
item_first = first_or (first_then _ (first_then _ (first_one name_kind refl))) (first_then _ (first_then _ (first_one (key_kind keys.Compute) refl)))

pub continue_text_reads : {goes : List ℕ} → Reads continue_text continue_text_at goes
unfolding continue_text_at
continue_text_reads = do
  start ← key_reads keys.Continue
  of ← name_reads
  done_reads _

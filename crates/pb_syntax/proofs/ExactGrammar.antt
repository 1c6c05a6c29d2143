-- Each reader is exact for its form.
use Rattle.std.proofs.Common.{◌≡◌, ℕ, zero, suc, List, [], ◌∷◌, refl, true, false}
use Rattle.pb_text.specs.declared.place.Spot.{Spot}
use Rattle.pb_text.specs.declared.token.Mark.TheVariants as marks
use Rattle.pb_text.specs.declared.token.Mark.{Mark}
use Rattle.pb_text.specs.declared.token.Key.TheVariants as keys
use Rattle.pb_text.specs.declared.token.Key.{Key}
use Rattle.pb_syntax.specs.declared.tree.IndexText.{IndexText}
use Rattle.pb_syntax.specs.declared.tree.IndexText.TheVariants as index
use Rattle.pb_syntax.specs.Form.{Form, one, many, ◌or◌}
use Rattle.pb_syntax.specs.Tree.{PlainStatement, PlainBlock}
use Rattle.pb_syntax.specs.Grammar.{reads_mark, reads_key, reads_name, reads_number, reads_count, mark, key, name, number, offset, lin, range, top, role_range, role, comma_role, roles, type, count, carried, payload, op, plain_index, plain_end, after_name, bracketed, any_index, any_end, end_beside, message_text, item_message, compute_text, collective, and_semicolon, braces, item, foreach_text, rec_text, continue_text, or_block, choice_text, statement, block, file}
use Rattle.pb_syntax.specs.Reading.{among, Reader, many_at, within}
use Rattle.pb_syntax.specs.Readers.{mark_at, key_at, mark_next, key_next, statement_keys, name_at, number_at, offset_at, lin_at, range_at, top_at, role_range_at, role_at, comma_role_at, roles_at, type_at, count_at, carried_at, payload_at, op_at, plain_index_at, plain_end_at, after_name_at, bracketed_at, any_index_at, any_end_at, end_beside_at, message_text_at, item_message_at, compute_text_at, collective_at, and_semicolon_at, braces_at, item_at, foreach_text_at, rec_text_at, continue_text_at, or_block_at, choice_text_at, statement_at, block_at, file_at}
use Rattle.pb_syntax.proofs.Exact.{Reads, Begins, Misses, done_reads, one_reads, ◌>>=◌, after, either}
use Rattle.pb_syntax.proofs.ExactMany.{many_reads}
use Rattle.pb_syntax.proofs.Firsts.{mark_kind, key_kind, name_kind, number_kind, first_one, first_then, first_or, misses_first, misses_or, misses_done, misses_many, misses_last, apart_of, apart_one, apart_all, ends_all, apart, inside}
use Rattle.pb_syntax.proofs.LawfulGrammar.{comma_role_ok, item_ok, or_block_ok, statement_ok, block_ok}
use Rattle.pb_syntax.proofs.Lawful.{Lawful}

mark_reads : {goes : List ℕ} (m : Mark) → Reads (mark m) (mark_at m) goes
mark_reads m = one_reads (reads_mark m)

key_reads : {goes : List ℕ} (k : Key) → Reads (key k) (key_at k) goes
key_reads k = one_reads (reads_key k)

name_reads : {goes : List ℕ} → Reads name name_at goes
name_reads = one_reads reads_name

number_reads : {goes : List ℕ} → Reads number number_at goes
number_reads = one_reads reads_number

abbrev signs : List ℕ
signs = 11 ∷ 12 ∷ []

offset_reads : Reads offset offset_at signs
unfolding offset_at
offset_reads =
    either (11 ∷ []) (first_then _ (first_one (mark_kind marks.Plus) refl)) (misses_or (misses_first {ms = 12 ∷ []} (first_then _ (first_one (mark_kind marks.Minus) refl)) refl) (misses_done _ refl))
    (do
      plus ← mark_reads marks.Plus
      n ← number_reads
      done_reads _)
    (either (12 ∷ []) (first_then _ (first_one (mark_kind marks.Minus) refl)) (misses_done _ refl)
    (do
      minus ← mark_reads marks.Minus
      n ← number_reads
      done_reads _)
    (done_reads _))

lin_reads : Reads lin lin_at signs
unfolding lin_at
lin_reads =
    either (38 ∷ []) (first_then _ (first_one number_kind refl)) (misses_first {ms = 37 ∷ []} (first_then _ (first_one name_kind refl)) refl)
    (do
      n ← number_reads
      done_reads _)
    (do
      base ← name_reads
      after offset_reads (apart_of (λ x. misses_done _ refl)) (λ off. done_reads _))

range_reads : Reads range range_at signs
unfolding range_at
range_reads =
    after lin_reads (apart_one _ (mark_kind marks.Dots) refl) (λ low. do
      dots ← mark_reads marks.Dots
      after lin_reads (apart_of (λ x. misses_done _ refl)) (λ high. done_reads _))

pub top_reads : {goes : List ℕ} → Reads top top_at goes
unfolding top_at
top_reads =
    either (38 ∷ []) (first_then _ (first_one number_kind refl)) (misses_first {ms = 31 ∷ []} (first_then _ (first_one (key_kind keys.Max) refl)) refl)
    (do
      n ← number_reads
      done_reads _)
    (do
      max ← key_reads keys.Max
      done_reads _)

abbrev bracket : List ℕ
bracket = 5 ∷ []

role_range_reads : Reads role_range role_range_at bracket
unfolding role_range_at
role_range_reads =
    either bracket (first_then _ (first_one (mark_kind marks.LeftBracket) refl)) (misses_done _ refl)
    (do
      left ← mark_reads marks.LeftBracket
      after range_reads (apart_one _ (mark_kind marks.RightBracket) refl) (λ over. do
        right ← mark_reads marks.RightBracket
        done_reads _))
    (done_reads _)

role_reads : Reads role role_at bracket
unfolding role_at
role_reads = do
  start ← key_reads keys.Role
  of ← name_reads
  after role_range_reads (apart_of (λ x. misses_done _ refl)) (λ over. done_reads _)

comma_role_reads : Reads comma_role comma_role_at bracket
unfolding comma_role_at
comma_role_reads = do
  comma ← mark_reads marks.Comma
  role_reads

comma_role_first : Begins (9 ∷ []) comma_role
comma_role_first = first_then _ (first_one (mark_kind marks.Comma) refl)

abbrev comma_bracket : List ℕ
comma_bracket = 9 ∷ 5 ∷ []

comma_roles_reads : Reads (many comma_role) (many_at (mark_next marks.Comma) comma_role_at) comma_bracket
comma_roles_reads = many_reads (9 ∷ []) comma_bracket comma_role_first (apart_all (9 ∷ []) bracket refl) (ends_all (9 ∷ []) bracket comma_bracket refl refl) comma_role_ok comma_role_reads

pub roles_reads : Reads roles roles_at comma_bracket
unfolding roles_at
roles_reads =
    after role_reads (apart_of (λ x. misses_last _ (misses_many comma_role_first refl refl))) (λ first.
    after comma_roles_reads (apart_of (λ x. misses_done _ refl)) (λ others. done_reads _))

type_reads : {goes : List ℕ} → Reads type type_at goes
unfolding type_at
type_reads =
    either (34 ∷ []) (first_then _ (first_one (key_kind keys.Int32) refl)) (misses_first {ms = 35 ∷ []} (first_then _ (first_one (key_kind keys.Uint32) refl)) refl)
    (do
      int32 ← key_reads keys.Int32
      done_reads _)
    (do
      uint32 ← key_reads keys.Uint32
      done_reads _)

type_first : Begins (34 ∷ 35 ∷ []) type
type_first = first_or (first_then _ (first_one (key_kind keys.Int32) refl)) (first_then _ (first_one (key_kind keys.Uint32) refl))

count_reads : Reads count count_at bracket
unfolding count_at
count_reads =
    either bracket (first_then _ (first_one (mark_kind marks.LeftBracket) refl)) (misses_done _ refl)
    (do
      left ← mark_reads marks.LeftBracket
      n ← one_reads reads_count
      right ← mark_reads marks.RightBracket
      done_reads _)
    (done_reads _)

-- a type, or a bracket after one
abbrev carried_goes : List ℕ
carried_goes = 34 ∷ 35 ∷ 5 ∷ []

carried_reads : Reads carried carried_at carried_goes
unfolding carried_at
carried_reads =
    either (34 ∷ 35 ∷ []) (first_then _ type_first) (misses_done _ refl)
    (do
      of ← type_reads
      after count_reads (apart_of (λ x. misses_done _ refl)) (λ n. done_reads _))
    (done_reads _)

payload_reads : {goes : List ℕ} → Reads payload payload_at goes
unfolding payload_at
payload_reads = do
  left ← mark_reads marks.LeftParen
  after carried_reads (apart_one _ (mark_kind marks.RightParen) refl) (λ what. do
    right ← mark_reads marks.RightParen
    done_reads _)

op_reads : {goes : List ℕ} → Reads op op_at goes
unfolding op_at
op_reads =
    either (32 ∷ []) (first_then _ (first_one (key_kind keys.Min) refl)) (misses_or (misses_first {ms = 31 ∷ []} (first_then _ (first_one (key_kind keys.Max) refl)) refl) (misses_first {ms = 33 ∷ []} (first_then _ (first_one (key_kind keys.Sum) refl)) refl))
    (do
      min ← key_reads keys.Min
      done_reads _)
    (either (31 ∷ []) (first_then _ (first_one (key_kind keys.Max) refl)) (misses_first {ms = 33 ∷ []} (first_then _ (first_one (key_kind keys.Sum) refl)) refl)
    (do
      max ← key_reads keys.Max
      done_reads _)
    (do
      sum ← key_reads keys.Sum
      done_reads _))

plain_index_reads : Reads plain_index plain_index_at bracket
unfolding plain_index_at
plain_index_reads =
    either bracket (first_then _ (first_one (mark_kind marks.LeftBracket) refl)) (misses_done _ refl)
    (do
      left ← mark_reads marks.LeftBracket
      after lin_reads (apart_one _ (mark_kind marks.RightBracket) refl) (λ at. do
        right ← mark_reads marks.RightBracket
        done_reads _))
    (done_reads _)

pub plain_end_reads : Reads plain_end plain_end_at bracket
unfolding plain_end_at
plain_end_reads = do
  of ← name_reads
  after plain_index_reads (apart_of (λ x. misses_done _ refl)) (λ at. done_reads _)

-- a colon, or a sign
abbrev colon_signs : List ℕ
colon_signs = 10 ∷ 11 ∷ 12 ∷ []

offset_misses_colon : Misses (10 ∷ []) offset colon_signs
offset_misses_colon = misses_or (misses_first {ms = 11 ∷ []} (first_then _ (first_one (mark_kind marks.Plus) refl)) refl) (misses_or (misses_first {ms = 12 ∷ []} (first_then _ (first_one (mark_kind marks.Minus) refl)) refl) (misses_done _ refl))

after_name_reads : (first : Spot) → Reads (after_name first) (after_name_at first) colon_signs
unfolding after_name_at
after_name_reads first =
    either (10 ∷ []) (first_then _ (first_one (mark_kind marks.Colon) refl)) (misses_last _ offset_misses_colon)
    (do
      colon ← mark_reads marks.Colon
      after range_reads (apart_of (λ x. misses_done _ refl)) (λ over. done_reads _))
    (after offset_reads (apart_of (λ x. misses_done _ refl)) (λ off. done_reads _))

bracketed_reads : Reads bracketed bracketed_at colon_signs
unfolding bracketed_at
bracketed_reads =
    either (38 ∷ []) (first_then _ (first_one number_kind refl)) (misses_first {ms = 37 ∷ []} (first_then _ (first_one name_kind refl)) refl)
    (do
      n ← number_reads
      done_reads _)
    (do
      first ← name_reads
      after_name_reads first)

any_index_reads : Reads any_index any_index_at bracket
unfolding any_index_at
any_index_reads =
    either bracket (first_then _ (first_one (mark_kind marks.LeftBracket) refl)) (misses_done _ refl)
    (do
      left ← mark_reads marks.LeftBracket
      after bracketed_reads (apart_one _ (mark_kind marks.RightBracket) refl) (λ inside. do
        right ← mark_reads marks.RightBracket
        done_reads _))
    (done_reads _)

any_end_reads : Reads any_end any_end_at bracket
unfolding any_end_at
any_end_reads = do
  of ← name_reads
  after any_index_reads (apart_of (λ x. misses_done _ refl)) (λ at. done_reads _)

end_beside_reads : (first : IndexText) → Reads (end_beside first) (end_beside_at first) bracket
unfolding end_beside_at
end_beside_reads (index.Bind var over) = plain_end_reads
end_beside_reads index.Zero = any_end_reads
end_beside_reads (index.At at) = any_end_reads

message_text_reads : Reads message_text message_text_at bracket
unfolding message_text_at
message_text_reads = do
  label ← name_reads
  carries ← payload_reads
  from_key ← key_reads keys.From
  after any_end_reads (apart_one _ (key_kind keys.To) refl) (λ from. do
    to_key ← key_reads keys.To
    after (end_beside_reads from.index) (apart_of (λ x. misses_done _ refl)) (λ to. done_reads _))

item_message_reads : Reads item_message item_message_at bracket
unfolding item_message_at
item_message_reads = do
  label ← name_reads
  carries ← payload_reads
  from_key ← key_reads keys.From
  after plain_end_reads (apart_one _ (key_kind keys.To) refl) (λ from. do
    to_key ← key_reads keys.To
    after plain_end_reads (apart_of (λ x. misses_done _ refl)) (λ to. done_reads _))

compute_text_reads : Reads compute_text compute_text_at bracket
unfolding compute_text_at
compute_text_reads = do
  start ← key_reads keys.Compute
  kernel ← name_reads
  at_key ← key_reads keys.At
  after plain_end_reads (apart_of (λ x. misses_done _ refl)) (λ who. done_reads _)

collective_reads : Reads collective collective_at bracket
unfolding collective_at
collective_reads =
    either (26 ∷ []) (first_then _ (first_one (key_kind keys.Barrier) refl))
    (misses_first {ms = 27 ∷ 28 ∷ 29 ∷ []} (first_or (first_then _ (first_one (key_kind keys.Broadcast) refl)) (first_or (first_then _ (first_one (key_kind keys.Reduce) refl)) (first_then _ (first_one (key_kind keys.Allreduce) refl)))) refl)
    (do
      start ← key_reads keys.Barrier
      done_reads _)
    (either (27 ∷ []) (first_then _ (first_one (key_kind keys.Broadcast) refl))
    (misses_first {ms = 28 ∷ 29 ∷ []} (first_or (first_then _ (first_one (key_kind keys.Reduce) refl)) (first_then _ (first_one (key_kind keys.Allreduce) refl))) refl)
    (do
      start ← key_reads keys.Broadcast
      label ← name_reads
      carries ← payload_reads
      from_key ← key_reads keys.From
      after plain_end_reads (apart_of (λ x. misses_done _ refl)) (λ from. done_reads _))
    (either (28 ∷ []) (first_then _ (first_one (key_kind keys.Reduce) refl))
    (misses_first {ms = 29 ∷ []} (first_then _ (first_one (key_kind keys.Allreduce) refl)) refl)
    (do
      start ← key_reads keys.Reduce
      label ← name_reads
      carries ← payload_reads
      with_key ← key_reads keys.With
      by ← op_reads
      to_key ← key_reads keys.To
      after plain_end_reads (apart_of (λ x. misses_done _ refl)) (λ to. done_reads _))
    (do
      start ← key_reads keys.Allreduce
      label ← name_reads
      carries ← payload_reads
      with_key ← key_reads keys.With
      by ← op_reads
      done_reads _)))

and_semicolon_reads : {goes : List ℕ} {what : Form PlainStatement} {r : Reader PlainStatement} → Reads what r bracket → Reads (and_semicolon what) (and_semicolon_at r) goes
unfolding and_semicolon_at
and_semicolon_reads inside = after inside (apart_one _ (mark_kind marks.Semicolon) refl) (λ s. do
  semicolon ← mark_reads marks.Semicolon
  done_reads _)

item_reads : {goes : List ℕ} → Reads item item_at goes
unfolding item_at
item_reads =
    either (37 ∷ []) (first_then _ (first_then _ (first_one name_kind refl))) (misses_first {ms = 25 ∷ []} (first_then _ (first_then _ (first_one (key_kind keys.Compute) refl))) refl)
    (and_semicolon_reads item_message_reads)
    (and_semicolon_reads compute_text_reads)

item_first : Begins (37 ∷ 25 ∷ []) item
item_first = first_or (first_then _ (first_then _ (first_one name_kind refl))) (first_then _ (first_then _ (first_one (key_kind keys.Compute) refl)))

-- between braces stand things that begin with these tokens, none of which is a brace or goes on with what stands before it
braces_reads : {goes : List ℕ} (test first both : List ℕ) {what : Form PlainStatement} {r : Reader PlainStatement} → Begins test what → apart test first ≡ true → inside test both ≡ true → inside first both ≡ true → within both 8 ≡ false
    → Lawful what → Reads what r first → Reads (braces what) (braces_at (among test) r) goes
unfolding braces_at
braces_reads test first both begins e p q close lawful one = do
  open_brace ← mark_reads marks.LeftBrace
  after (many_reads test both begins (apart_all test first e) (ends_all test first both p q) lawful one) (apart_one _ (mark_kind marks.RightBrace) close) (λ list. do
    close_brace ← mark_reads marks.RightBrace
    done_reads _)

foreach_text_reads : {goes : List ℕ} → Reads foreach_text foreach_text_at goes
unfolding foreach_text_at
foreach_text_reads = do
  start ← key_reads keys.Foreach
  left ← mark_reads marks.LeftParen
  var ← name_reads
  colon ← mark_reads marks.Colon
  after range_reads (apart_one _ (mark_kind marks.RightParen) refl) (λ over. do
    right ← mark_reads marks.RightParen
    items ← braces_reads (37 ∷ 25 ∷ []) [] (37 ∷ 25 ∷ []) item_first refl refl refl refl item_ok item_reads
    done_reads _)

-- the block's reader stands for any that ends with its brace
abbrev pub AlwaysReads : Form PlainBlock → Reader PlainBlock → Type 0
AlwaysReads f r = (goes : List ℕ) → Reads f r goes

rec_text_reads : {goes : List ℕ} {block : Form PlainBlock} {r : Reader PlainBlock} → AlwaysReads block r → Reads (rec_text block) (rec_text_at r) goes
unfolding rec_text_at
rec_text_reads inside = do
  start ← key_reads keys.Rec
  of ← name_reads
  body ← inside _
  done_reads _

continue_text_reads : {goes : List ℕ} → Reads continue_text continue_text_at goes
unfolding continue_text_at
continue_text_reads = do
  start ← key_reads keys.Continue
  of ← name_reads
  done_reads _

pub or_block_reads : {goes : List ℕ} {block : Form PlainBlock} {r : Reader PlainBlock} → AlwaysReads block r → Reads (or_block block) (or_block_at r) goes
unfolding or_block_at
or_block_reads inside = do
  or_key ← key_reads keys.Or
  inside _

abbrev pub or_goes : List ℕ
or_goes = 24 ∷ []

pub or_blocks_reads : {block : Form PlainBlock} {r : Reader PlainBlock} → Lawful block → AlwaysReads block r → Reads (many (or_block block)) (many_at (key_next keys.Or) (or_block_at r)) or_goes
or_blocks_reads lawful inside = many_reads {first = []} or_goes or_goes (first_then _ (first_one (key_kind keys.Or) refl)) (apart_all or_goes [] refl) (ends_all or_goes [] or_goes refl refl) (or_block_ok lawful) (or_block_reads inside)

choice_text_reads : {block : Form PlainBlock} {r : Reader PlainBlock} → Lawful block → Begins (7 ∷ []) block → AlwaysReads block r → Reads (choice_text block) (choice_text_at r) or_goes
unfolding choice_text_at
choice_text_reads lawful begins inside = do
  start ← key_reads keys.Choice
  kernel ← name_reads
  at_key ← key_reads keys.At
  after plain_end_reads (apart_of (λ x. misses_first {ms = 7 ∷ []} (first_then _ begins) refl)) (λ who. do
    first ← inside _
    second ← or_block_reads inside
    after (or_blocks_reads lawful inside)
        (apart_of (λ x. misses_done _ refl)) (λ others. done_reads _))

message_first : Begins (37 ∷ []) message_text
message_first = first_then _ (first_one name_kind refl)

collective_first : {ns : List ℕ} → within ns 26 ≡ true → within ns 27 ≡ true → within ns 28 ≡ true → within ns 29 ≡ true → Begins ns (and_semicolon collective)
collective_first a b c d = first_then _ (first_or (first_then _ (first_one (key_kind keys.Barrier) a)) (first_or (first_then _ (first_one (key_kind keys.Broadcast) b)) (first_or (first_then _ (first_one (key_kind keys.Reduce) c)) (first_then _ (first_one (key_kind keys.Allreduce) d)))))

compute_first : {ns : List ℕ} → within ns 25 ≡ true → Begins ns (and_semicolon compute_text)
compute_first a = first_then _ (first_then _ (first_one (key_kind keys.Compute) a))

choice_first : {ns : List ℕ} (block : Form PlainBlock) → within ns 22 ≡ true → Begins ns (choice_text block)
choice_first block a = first_then _ (first_one (key_kind keys.Choice) a)

continue_first : {ns : List ℕ} → within ns 21 ≡ true → Begins ns (and_semicolon continue_text)
continue_first a = first_then _ (first_then _ (first_one (key_kind keys.Continue) a))

rec_first : {ns : List ℕ} (block : Form PlainBlock) → within ns 20 ≡ true → Begins ns (rec_text block)
rec_first block a = first_then _ (first_one (key_kind keys.Rec) a)

foreach_first : {ns : List ℕ} → within ns 19 ≡ true → Begins ns foreach_text
foreach_first a = first_then _ (first_one (key_kind keys.Foreach) a)

-- what is left of a statement's alternatives, from the last one on
abbrev from_compute : Form PlainStatement
from_compute = and_semicolon compute_text or and_semicolon collective

abbrev from_choice : Form PlainBlock → Form PlainStatement
from_choice block = choice_text block or from_compute

abbrev from_continue : Form PlainBlock → Form PlainStatement
from_continue block = and_semicolon continue_text or from_choice block

abbrev from_rec : Form PlainBlock → Form PlainStatement
from_rec block = rec_text block or from_continue block

abbrev from_foreach : Form PlainBlock → Form PlainStatement
from_foreach block = foreach_text or from_rec block

first_compute : {ns : List ℕ} → within ns 25 ≡ true → within ns 26 ≡ true → within ns 27 ≡ true → within ns 28 ≡ true → within ns 29 ≡ true → Begins ns from_compute
first_compute e a b c d = first_or (compute_first e) (collective_first a b c d)

pub statement_first : (block : Form PlainBlock) → Begins statement_keys (statement block)
statement_first block = first_or (first_then _ (first_then _ (first_one name_kind refl))) (first_or (foreach_first refl) (first_or (rec_first block refl) (first_or (continue_first refl) (first_or (choice_first block refl) (first_compute refl refl refl refl refl)))))

pub statement_reads : {block : Form PlainBlock} {r : Reader PlainBlock} → Lawful block → Begins (7 ∷ []) block → AlwaysReads block r → Reads (statement block) (statement_at r) or_goes
unfolding statement_at
statement_reads {block} lawful begins inside =
    either (37 ∷ []) (first_then _ message_first) (misses_first {ms = 19 ∷ 20 ∷ 21 ∷ 22 ∷ 25 ∷ 26 ∷ 27 ∷ 28 ∷ 29 ∷ []} (first_or (foreach_first refl) (first_or (rec_first block refl) (first_or (continue_first refl) (first_or (choice_first block refl) (first_compute refl refl refl refl refl))))) refl)
    (and_semicolon_reads message_text_reads)
    (either (19 ∷ []) (foreach_first refl) (misses_first {ms = 20 ∷ 21 ∷ 22 ∷ 25 ∷ 26 ∷ 27 ∷ 28 ∷ 29 ∷ []} (first_or (rec_first block refl) (first_or (continue_first refl) (first_or (choice_first block refl) (first_compute refl refl refl refl refl)))) refl)
    foreach_text_reads
    (either (20 ∷ []) (rec_first block refl) (misses_first {ms = 21 ∷ 22 ∷ 25 ∷ 26 ∷ 27 ∷ 28 ∷ 29 ∷ []} (first_or (continue_first refl) (first_or (choice_first block refl) (first_compute refl refl refl refl refl))) refl)
    (rec_text_reads inside)
    (either (21 ∷ []) (continue_first refl) (misses_first {ms = 22 ∷ 25 ∷ 26 ∷ 27 ∷ 28 ∷ 29 ∷ []} (first_or (choice_first block refl) (first_compute refl refl refl refl refl)) refl)
    (and_semicolon_reads continue_text_reads)
    (either (22 ∷ []) (choice_first block refl) (misses_first {ms = 25 ∷ 26 ∷ 27 ∷ 28 ∷ 29 ∷ []} (first_compute refl refl refl refl refl) refl)
    (choice_text_reads lawful begins inside)
    (either (25 ∷ []) (compute_first refl) (misses_first {ms = 26 ∷ 27 ∷ 28 ∷ 29 ∷ []} (collective_first refl refl refl refl) refl)
    (and_semicolon_reads compute_text_reads)
    (and_semicolon_reads collective_reads))))))

pub block_first : (n : ℕ) → Begins (7 ∷ []) (block n)
unfolding block
block_first zero = first_then _ (first_one (mark_kind marks.LeftBrace) refl)
block_first (suc n) = first_then _ (first_one (mark_kind marks.LeftBrace) refl)

pub statements_reads : {block : Form PlainBlock} {r : Reader PlainBlock} → Lawful block → Begins (7 ∷ []) block → AlwaysReads block r → Reads (many (statement block)) (many_at (among statement_keys) (statement_at r)) (24 ∷ statement_keys)
statements_reads {block} lawful begins inside = many_reads statement_keys (24 ∷ statement_keys) (statement_first block) (apart_all statement_keys or_goes refl) (ends_all statement_keys or_goes (24 ∷ statement_keys) refl refl) (statement_ok lawful) (statement_reads lawful begins inside)

pub block_reads : (n : ℕ) → AlwaysReads (block n) (block_at n)
unfolding block block_at
block_reads zero goes = do
  open_brace ← mark_reads marks.LeftBrace
  close_brace ← mark_reads marks.RightBrace
  done_reads _
block_reads (suc n) goes = braces_reads statement_keys or_goes (24 ∷ statement_keys) (statement_first (block n)) refl refl refl refl (statement_ok (block_ok n)) (statement_reads (block_ok n) (block_first n) (block_reads n))

pub file_reads : {goes : List ℕ} {block : Form PlainBlock} {r : Reader PlainBlock} → AlwaysReads block r → Reads (file block) (file_at r) goes
unfolding file_at
file_reads inside = do
  const_key ← key_reads keys.Const
  constant ← name_reads
  equals ← mark_reads marks.Equals
  low ← number_reads
  dots ← mark_reads marks.Dots
  high ← top_reads
  semicolon ← mark_reads marks.Semicolon
  global_key ← key_reads keys.Global
  protocol_key ← key_reads keys.Protocol
  protocol ← name_reads
  left ← mark_reads marks.LeftParen
  after roles_reads (apart_one _ (mark_kind marks.RightParen) refl) (λ list. do
    right ← mark_reads marks.RightParen
    body ← inside _
    done_reads _)

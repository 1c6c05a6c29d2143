-- Each reader is exact for its form.
use Rattle.std.proofs.Common.{◌≡◌, ℕ, zero, suc, List, [], ◌∷◌, true, false, refl}
use Rattle.pb_text.specs.declared.token.Mark.TheVariants as marks
use Rattle.pb_text.specs.declared.token.Key.TheVariants as keys
use Rattle.pb_syntax.specs.Form.{Form, many, ◌or◌}
use Rattle.pb_syntax.specs.Reading.{among, Reader, many_at, within}
use Rattle.pb_syntax.specs.Readers.{key_next, statement_keys, item_keys}
use Rattle.pb_syntax.proofs.Exact.{Reads, Begins, done_reads, ◌>>=◌, after, either}
use Rattle.pb_syntax.proofs.ExactMany.{many_reads}
use Rattle.pb_syntax.proofs.ExactGrammar.{top_reads}
use Rattle.pb_syntax.proofs.Firsts.{mark_kind, key_kind, name_kind, first_one, first_then, first_or, misses_first, misses_done, apart_of, apart_one, apart_all, ends_all, apart, inside}
use Rattle.pb_syntax.proofs.Lawful.{Lawful}
use Rattle.pb_strips_syntax.specs.Strips.{Strip, PlainStripBlock}
use Rattle.pb_strips_grammar.specs.Grammar.{message_text, compute_text, continue_text, collective, and_semicolon, item, braces, columns_text, foreach_text, items, items_or_columns, rec_text, or_block, choice_text, statement, column_block, block, file}
use Rattle.pb_strips_grammar.specs.Readers.{strip_keys, strip_item_keys, braces_at, columns_text_at, foreach_text_at, items_at, item_or_columns_at, items_or_columns_at, rec_text_at, or_block_at, choice_text_at, statement_at, column_block_at, statement_or_columns_at, block_at, file_at}
use Rattle.pb_strips_grammar.proofs.Spread.{begins_in, turned}
use Rattle.pb_strips_grammar.proofs.ExactParts.{mark_reads, key_reads, name_reads, number_reads, range_reads, roles_reads, plain_end_reads, message_text_reads, compute_text_reads, continue_text_reads, collective_reads, and_semicolon_reads, item_reads, item_first}
use Rattle.pb_strips_grammar.proofs.LawfulGrammar.{item_ok, items_ok, item_or_columns_ok, or_block_ok, statement_ok, column_block_ok, statement_or_columns_ok, block_ok}

-- between braces stand things that begin with these tokens, none of which is a brace or goes on with what stands before it
braces_reads : {goes : List ℕ} (test first both : List ℕ) {what : Form Strip} {r : Reader Strip} → Begins test what → apart test first ≡ true → inside test both ≡ true → inside first both ≡ true → within both 8 ≡ false
    → Lawful what → Reads what r first → Reads (braces what) (braces_at (among test) r) goes
unfolding braces_at
braces_reads test first both begins e p q close lawful one = do
  open_brace ← mark_reads marks.LeftBrace
  after (many_reads test both begins (apart_all test first e) (ends_all test first both p q) lawful one) (apart_one _ (mark_kind marks.RightBrace) close) (λ list. do
    close_brace ← mark_reads marks.RightBrace
    done_reads _)

-- the block's reader stands for any that ends with its brace
abbrev pub AlwaysReads : Form PlainStripBlock → Reader PlainStripBlock → Type 0
AlwaysReads f r = (goes : List ℕ) → Reads f r goes

columns_text_reads : {goes : List ℕ} {block : Form PlainStripBlock} {r : Reader PlainStripBlock} → AlwaysReads block r → Reads (columns_text block) (columns_text_at r) goes
unfolding columns_text_at
columns_text_reads inside = do
  start ← key_reads keys.Do
  left ← mark_reads marks.LeftParen
  var ← name_reads
  colon ← mark_reads marks.Colon
  low ← number_reads
  dots ← mark_reads marks.Dots
  high ← number_reads
  right ← mark_reads marks.RightParen
  body ← inside _
  done_reads _

columns_first : (block : Form PlainStripBlock) → Begins (36 ∷ []) (columns_text block)
columns_first block = first_then _ (first_one (key_kind keys.Do) refl)

foreach_text_reads : {goes : List ℕ} {block : Form PlainStripBlock} {r : Reader PlainStripBlock} → AlwaysReads block r → Reads (foreach_text block) (foreach_text_at r) goes
unfolding foreach_text_at
foreach_text_reads inside = do
  start ← key_reads keys.Foreach
  left ← mark_reads marks.LeftParen
  var ← name_reads
  colon ← mark_reads marks.Colon
  after range_reads (apart_one _ (mark_kind marks.RightParen) refl) (λ over. do
    right ← mark_reads marks.RightParen
    items ← inside _
    done_reads _)

items_reads : AlwaysReads items items_at
unfolding items_at
items_reads goes = braces_reads item_keys [] item_keys item_first refl refl refl refl item_ok item_reads

item_or_columns_reads : {goes : List ℕ} → Reads (item or columns_text items) item_or_columns_at goes
unfolding item_or_columns_at
item_or_columns_reads = turned (columns_text items) item (either (36 ∷ []) (columns_first items) (misses_first {ms = item_keys} item_first refl) (columns_text_reads items_reads) item_reads)

item_or_columns_first : Begins strip_item_keys (item or columns_text items)
item_or_columns_first = first_or (begins_in item_first refl) (begins_in (columns_first items) refl)

items_or_columns_reads : AlwaysReads items_or_columns items_or_columns_at
unfolding items_or_columns_at
items_or_columns_reads goes = braces_reads strip_item_keys [] strip_item_keys item_or_columns_first refl refl refl refl item_or_columns_ok item_or_columns_reads

rec_text_reads : {goes : List ℕ} {block : Form PlainStripBlock} {r : Reader PlainStripBlock} → AlwaysReads block r → Reads (rec_text block) (rec_text_at r) goes
unfolding rec_text_at
rec_text_reads inside = do
  start ← key_reads keys.Rec
  of ← name_reads
  body ← inside _
  done_reads _

pub or_block_reads : {goes : List ℕ} {block : Form PlainStripBlock} {r : Reader PlainStripBlock} → AlwaysReads block r → Reads (or_block block) (or_block_at r) goes
unfolding or_block_at
or_block_reads inside = do
  or_key ← key_reads keys.Or
  inside _

abbrev pub or_goes : List ℕ
or_goes = 24 ∷ []

pub or_blocks_reads : {block : Form PlainStripBlock} {r : Reader PlainStripBlock} → Lawful block → AlwaysReads block r → Reads (many (or_block block)) (many_at (key_next keys.Or) (or_block_at r)) or_goes
or_blocks_reads lawful inside = many_reads {first = []} or_goes or_goes (first_then _ (first_one (key_kind keys.Or) refl)) (apart_all or_goes [] refl) (ends_all or_goes [] or_goes refl refl) (or_block_ok lawful) (or_block_reads inside)

choice_text_reads : {block : Form PlainStripBlock} {r : Reader PlainStripBlock} → Lawful block → Begins (7 ∷ []) block → AlwaysReads block r → Reads (choice_text block) (choice_text_at r) or_goes
unfolding choice_text_at
choice_text_reads lawful begins inside = do
  start ← key_reads keys.Choice
  kernel ← name_reads
  at_key ← key_reads keys.At
  after plain_end_reads (apart_of (λ x. misses_first {ms = 7 ∷ []} (first_then _ begins) refl)) (λ who. do
    first ← inside _
    second ← or_block_reads inside
    after (or_blocks_reads lawful inside)
        (apart_of (λ x. misses_done _ refl)) (λ others. done_reads _))

-- with what the alternatives of a statement begin
message_first : Begins (37 ∷ []) (and_semicolon message_text)
message_first = first_then _ (first_then _ (first_one name_kind refl))

foreach_first : (block : Form PlainStripBlock) → Begins (19 ∷ []) (foreach_text block)
foreach_first block = first_then _ (first_one (key_kind keys.Foreach) refl)

rec_first : (block : Form PlainStripBlock) → Begins (20 ∷ []) (rec_text block)
rec_first block = first_then _ (first_one (key_kind keys.Rec) refl)

continue_first : Begins (21 ∷ []) (and_semicolon continue_text)
continue_first = first_then _ (first_then _ (first_one (key_kind keys.Continue) refl))

choice_first : (block : Form PlainStripBlock) → Begins (22 ∷ []) (choice_text block)
choice_first block = first_then _ (first_one (key_kind keys.Choice) refl)

compute_first : Begins (25 ∷ []) (and_semicolon compute_text)
compute_first = first_then _ (first_then _ (first_one (key_kind keys.Compute) refl))

abbrev collective_keys : List ℕ
collective_keys = 26 ∷ 27 ∷ 28 ∷ 29 ∷ []

collective_first : Begins collective_keys (and_semicolon collective)
collective_first = first_then _ (first_or (first_then _ (first_one (key_kind keys.Barrier) refl)) (first_or (first_then _ (first_one (key_kind keys.Broadcast) refl)) (first_or (first_then _ (first_one (key_kind keys.Reduce) refl)) (first_then _ (first_one (key_kind keys.Allreduce) refl)))))

-- what is left of a statement's alternatives, from the last one on
abbrev from_compute : Form Strip
from_compute = and_semicolon compute_text or and_semicolon collective

abbrev from_choice : Form PlainStripBlock → Form Strip
from_choice block = choice_text block or from_compute

abbrev from_continue : Form PlainStripBlock → Form Strip
from_continue block = and_semicolon continue_text or from_choice block

abbrev from_rec : Form PlainStripBlock → Form Strip
from_rec block = rec_text block or from_continue block

abbrev from_foreach : Form PlainStripBlock → Form PlainStripBlock → Form Strip
from_foreach items block = foreach_text items or from_rec block

compute_on : Begins (25 ∷ collective_keys) from_compute
compute_on = first_or (begins_in compute_first refl) (begins_in collective_first refl)

choice_on : (block : Form PlainStripBlock) → Begins (22 ∷ 25 ∷ collective_keys) (from_choice block)
choice_on block = first_or (begins_in (choice_first block) refl) (begins_in compute_on refl)

continue_on : (block : Form PlainStripBlock) → Begins (21 ∷ 22 ∷ 25 ∷ collective_keys) (from_continue block)
continue_on block = first_or (begins_in continue_first refl) (begins_in (choice_on block) refl)

rec_on : (block : Form PlainStripBlock) → Begins (20 ∷ 21 ∷ 22 ∷ 25 ∷ collective_keys) (from_rec block)
rec_on block = first_or (begins_in (rec_first block) refl) (begins_in (continue_on block) refl)

foreach_on : (items block : Form PlainStripBlock) → Begins (19 ∷ 20 ∷ 21 ∷ 22 ∷ 25 ∷ collective_keys) (from_foreach items block)
foreach_on items block = first_or (begins_in (foreach_first items) refl) (begins_in (rec_on block) refl)

statement_first : (items block : Form PlainStripBlock) → Begins statement_keys (statement items block)
statement_first items block = first_or (begins_in message_first refl) (begins_in (foreach_on items block) refl)

pub statement_reads : {items block : Form PlainStripBlock} {ri r : Reader PlainStripBlock} → AlwaysReads items ri → Lawful block → Begins (7 ∷ []) block → AlwaysReads block r → Reads (statement items block) (statement_at ri r) or_goes
unfolding statement_at
statement_reads {items} {block} within_foreach lawful begins inside =
    either (37 ∷ []) message_first (misses_first (foreach_on items block) refl)
    (and_semicolon_reads message_text_reads)
    (either (19 ∷ []) (foreach_first items) (misses_first (rec_on block) refl)
    (foreach_text_reads within_foreach)
    (either (20 ∷ []) (rec_first block) (misses_first (continue_on block) refl)
    (rec_text_reads inside)
    (either (21 ∷ []) continue_first (misses_first (choice_on block) refl)
    (and_semicolon_reads continue_text_reads)
    (either (22 ∷ []) (choice_first block) (misses_first compute_on refl)
    (choice_text_reads lawful begins inside)
    (either (25 ∷ []) compute_first (misses_first collective_first refl)
    (and_semicolon_reads compute_text_reads)
    (and_semicolon_reads collective_reads))))))

-- inside of columns
pub column_block_first : (n : ℕ) → Begins (7 ∷ []) (column_block n)
unfolding column_block
column_block_first zero = first_then _ (first_one (mark_kind marks.LeftBrace) refl)
column_block_first (suc n) = first_then _ (first_one (mark_kind marks.LeftBrace) refl)

pub column_statement_reads : {block : Form PlainStripBlock} {r : Reader PlainStripBlock} → Lawful block → Begins (7 ∷ []) block → AlwaysReads block r → Reads (statement items block) (statement_at items_at r) or_goes
column_statement_reads lawful begins inside = statement_reads items_reads lawful begins inside

pub column_statements_reads : {block : Form PlainStripBlock} {r : Reader PlainStripBlock} → Lawful block → Begins (7 ∷ []) block → AlwaysReads block r → Reads (many (statement items block)) (many_at (among statement_keys) (statement_at items_at r)) (24 ∷ statement_keys)
column_statements_reads {block} lawful begins inside = many_reads statement_keys (24 ∷ statement_keys) (statement_first items block) (apart_all statement_keys or_goes refl) (ends_all statement_keys or_goes (24 ∷ statement_keys) refl refl) (statement_ok items_ok lawful) (column_statement_reads lawful begins inside)

pub column_block_reads : (n : ℕ) → AlwaysReads (column_block n) (column_block_at n)
unfolding column_block column_block_at
column_block_reads zero goes = do
  open_brace ← mark_reads marks.LeftBrace
  close_brace ← mark_reads marks.RightBrace
  done_reads _
column_block_reads (suc n) goes = braces_reads statement_keys or_goes (24 ∷ statement_keys) (statement_first items (column_block n)) refl refl refl refl (statement_ok items_ok (column_block_ok n)) (column_statement_reads (column_block_ok n) (column_block_first n) (column_block_reads n))

-- and outside of columns
statement_or_columns_first : (inner block : Form PlainStripBlock) → Begins strip_keys (columns_text inner or statement items_or_columns block)
statement_or_columns_first inner block = first_or (begins_in (columns_first inner) refl) (begins_in (statement_first items_or_columns block) refl)

pub statement_or_columns_reads : {inner block : Form PlainStripBlock} {ri r : Reader PlainStripBlock} → AlwaysReads inner ri → Lawful block → Begins (7 ∷ []) block → AlwaysReads block r → Reads (columns_text inner or statement items_or_columns block) (statement_or_columns_at ri r) or_goes
unfolding statement_or_columns_at
statement_or_columns_reads {inner} {block} within_columns lawful begins inside = either (36 ∷ []) (columns_first inner) (misses_first (statement_first items_or_columns block) refl) (columns_text_reads within_columns) (statement_reads items_or_columns_reads lawful begins inside)

pub statements_reads : {inner block : Form PlainStripBlock} {ri r : Reader PlainStripBlock} → Lawful inner → AlwaysReads inner ri → Lawful block → Begins (7 ∷ []) block → AlwaysReads block r → Reads (many (columns_text inner or statement items_or_columns block)) (many_at (among strip_keys) (statement_or_columns_at ri r)) (24 ∷ strip_keys)
statements_reads {inner} {block} inner_ok within_columns lawful begins inside = many_reads strip_keys (24 ∷ strip_keys) (statement_or_columns_first inner block) (apart_all strip_keys or_goes refl) (ends_all strip_keys or_goes (24 ∷ strip_keys) refl refl) (statement_or_columns_ok inner_ok lawful) (statement_or_columns_reads within_columns lawful begins inside)

pub block_first : (n : ℕ) → Begins (7 ∷ []) (block n)
unfolding block
block_first zero = first_then _ (first_one (mark_kind marks.LeftBrace) refl)
block_first (suc n) = first_then _ (first_one (mark_kind marks.LeftBrace) refl)

pub block_reads : (n : ℕ) → AlwaysReads (block n) (block_at n)
unfolding block block_at
block_reads zero goes = do
  open_brace ← mark_reads marks.LeftBrace
  close_brace ← mark_reads marks.RightBrace
  done_reads _
block_reads (suc n) goes = braces_reads strip_keys or_goes (24 ∷ strip_keys) (statement_or_columns_first (column_block n) (block n)) refl refl refl refl (statement_or_columns_ok (column_block_ok n) (block_ok n)) (statement_or_columns_reads (column_block_reads n) (block_ok n) (block_first n) (block_reads n))

pub file_reads : {goes : List ℕ} {block : Form PlainStripBlock} {r : Reader PlainStripBlock} → AlwaysReads block r → Reads (file block) (file_at r) goes
unfolding file_at
file_reads inside = do
  const_key ← key_reads keys.Const
  constant ← name_reads
  equals ← mark_reads marks.Equals
  low ← number_reads
  dots ← mark_reads marks.Dots
  high ← top_reads
  semicolon ← mark_reads marks.Semicolon
  global_key ← key_reads keys.Global
  protocol_key ← key_reads keys.Protocol
  protocol ← name_reads
  left ← mark_reads marks.LeftParen
  after roles_reads (apart_one _ (mark_kind marks.RightParen) refl) (λ list. do
    right ← mark_reads marks.RightParen
    body ← inside _
    done_reads _)

-- Each reader is exact for its form.
use Rattle.std.proofs.Common.{◌≡◌, ℕ, zero, suc, List, [], ◌∷◌, true, false, refl}
use Rattle.pb_text.specs.declared.token.Mark.TheVariants as marks
use Rattle.pb_text.specs.declared.token.Key.TheVariants as keys
use Rattle.pb_syntax.specs.Form.{Form, many, ◌or◌}
use Rattle.pb_syntax.specs.Tree.{PlainStatement}
use Rattle.pb_syntax.specs.Grammar.{message_text, compute_text, collective, continue_text}
use Rattle.pb_syntax.specs.Reading.{among, Reader, many_at, within}
use Rattle.pb_syntax.specs.Readers.{mark_next, key_next}
use Rattle.pb_syntax.proofs.Exact.{Reads, Begins, done_reads, ◌>>=◌, after, either}
use Rattle.pb_syntax.proofs.ExactMany.{many_reads}
use Rattle.pb_syntax.proofs.ExactGrammar.{top_reads, roles_reads, plain_end_reads}
use Rattle.pb_syntax.proofs.Firsts.{mark_kind, key_kind, name_kind, first_one, first_then, first_or, misses_first, misses_done, apart_of, apart_one, apart_all, ends_all, apart, inside}
use Rattle.pb_syntax.proofs.Lawful.{Lawful}
use Rattle.pb_do_syntax.specs.Calls.{Call, PlainCallBlock}
use Rattle.pb_do_grammar.specs.Grammar.{simple, item_call, braces, foreach_text, rec_text, or_block, choice_text, comma_name, call_text, statement, block, parameter, comma_parameter, subprotocol, file}
use Rattle.pb_do_grammar.specs.Readers.{call_keys, simple_at, item_call_at, braces_at, foreach_text_at, rec_text_at, or_block_at, choice_text_at, comma_name_at, call_text_at, statement_at, block_at, parameter_at, comma_parameter_at, subprotocol_at, file_at}
use Rattle.pb_do_grammar.proofs.ExactParts.{mark_reads, key_reads, name_reads, number_reads, range_reads, bracket, message_text_reads, compute_text_reads, continue_text_reads, collective_reads, and_semicolon_reads, item_reads, item_first}
use Rattle.pb_do_grammar.proofs.LawfulGrammar.{item_call_ok, or_block_ok, comma_name_ok, statement_ok, block_ok, comma_parameter_ok, subprotocol_ok}

simple_reads : {goes : List ℕ} {what : Form PlainStatement} {r : Reader PlainStatement} → Reads what r bracket → Reads (simple what) (simple_at r) goes
unfolding simple_at
simple_reads inside = do
  s ← and_semicolon_reads inside
  done_reads _

item_call_reads : {goes : List ℕ} → Reads item_call item_call_at goes
unfolding item_call_at
item_call_reads = do
  s ← item_reads
  done_reads _

item_call_first : Begins (37 ∷ 25 ∷ []) item_call
item_call_first = first_then _ item_first

-- between braces stand things that begin with these tokens, none of which is a brace or goes on with what stands before it
braces_reads : {goes : List ℕ} (test first both : List ℕ) {what : Form Call} {r : Reader Call} → Begins test what → apart test first ≡ true → inside test both ≡ true → inside first both ≡ true → within both 8 ≡ false
    → Lawful what → Reads what r first → Reads (braces what) (braces_at (among test) r) goes
unfolding braces_at
braces_reads test first both begins e p q close lawful one = do
  open_brace ← mark_reads marks.LeftBrace
  after (many_reads test both begins (apart_all test first e) (ends_all test first both p q) lawful one) (apart_one _ (mark_kind marks.RightBrace) close) (λ list. do
    close_brace ← mark_reads marks.RightBrace
    done_reads _)

foreach_text_reads : {goes : List ℕ} → Reads foreach_text foreach_text_at goes
unfolding foreach_text_at
foreach_text_reads = do
  start ← key_reads keys.Foreach
  left ← mark_reads marks.LeftParen
  var ← name_reads
  colon ← mark_reads marks.Colon
  after range_reads (apart_one _ (mark_kind marks.RightParen) refl) (λ over. do
    right ← mark_reads marks.RightParen
    items ← braces_reads (37 ∷ 25 ∷ []) [] (37 ∷ 25 ∷ []) item_call_first refl refl refl refl item_call_ok item_call_reads
    done_reads _)

-- the block's reader stands for any that ends with its brace
abbrev pub AlwaysReads : Form PlainCallBlock → Reader PlainCallBlock → Type 0
AlwaysReads f r = (goes : List ℕ) → Reads f r goes

rec_text_reads : {goes : List ℕ} {block : Form PlainCallBlock} {r : Reader PlainCallBlock} → AlwaysReads block r → Reads (rec_text block) (rec_text_at r) goes
unfolding rec_text_at
rec_text_reads inside = do
  start ← key_reads keys.Rec
  of ← name_reads
  body ← inside _
  done_reads _

pub or_block_reads : {goes : List ℕ} {block : Form PlainCallBlock} {r : Reader PlainCallBlock} → AlwaysReads block r → Reads (or_block block) (or_block_at r) goes
unfolding or_block_at
or_block_reads inside = do
  or_key ← key_reads keys.Or
  inside _

abbrev pub or_goes : List ℕ
or_goes = 24 ∷ []

pub or_blocks_reads : {block : Form PlainCallBlock} {r : Reader PlainCallBlock} → Lawful block → AlwaysReads block r → Reads (many (or_block block)) (many_at (key_next keys.Or) (or_block_at r)) or_goes
or_blocks_reads lawful inside = many_reads {first = []} or_goes or_goes (first_then _ (first_one (key_kind keys.Or) refl)) (apart_all or_goes [] refl) (ends_all or_goes [] or_goes refl refl) (or_block_ok lawful) (or_block_reads inside)

choice_text_reads : {block : Form PlainCallBlock} {r : Reader PlainCallBlock} → Lawful block → Begins (7 ∷ []) block → AlwaysReads block r → Reads (choice_text block) (choice_text_at r) or_goes
unfolding choice_text_at
choice_text_reads lawful begins inside = do
  start ← key_reads keys.Choice
  kernel ← name_reads
  at_key ← key_reads keys.At
  after plain_end_reads (apart_of (λ x. misses_first {ms = 7 ∷ []} (first_then _ begins) refl)) (λ who. do
    first ← inside _
    second ← or_block_reads inside
    after (or_blocks_reads lawful inside)
        (apart_of (λ x. misses_done _ refl)) (λ others. done_reads _))

abbrev comma_goes : List ℕ
comma_goes = 9 ∷ []

comma_name_reads : {goes : List ℕ} → Reads comma_name comma_name_at goes
unfolding comma_name_at
comma_name_reads = do
  comma ← mark_reads marks.Comma
  name_reads

comma_name_first : Begins comma_goes comma_name
comma_name_first = first_then _ (first_one (mark_kind marks.Comma) refl)

comma_names_reads : Reads (many comma_name) (many_at (mark_next marks.Comma) comma_name_at) comma_goes
comma_names_reads = many_reads {first = []} comma_goes comma_goes comma_name_first (apart_all comma_goes [] refl) (ends_all comma_goes [] comma_goes refl refl) comma_name_ok comma_name_reads

call_text_reads : {goes : List ℕ} → Reads call_text call_text_at goes
unfolding call_text_at
call_text_reads = do
  start ← key_reads keys.Do
  of ← name_reads
  left ← mark_reads marks.LeftParen
  first ← name_reads
  after comma_names_reads (apart_one _ (mark_kind marks.RightParen) refl) (λ others. do
    right ← mark_reads marks.RightParen
    semicolon ← mark_reads marks.Semicolon
    done_reads _)

message_first : {ns : List ℕ} → within ns 37 ≡ true → Begins ns (simple message_text)
message_first a = first_then _ (first_then _ (first_then _ (first_one name_kind a)))

collective_first : {ns : List ℕ} → within ns 26 ≡ true → within ns 27 ≡ true → within ns 28 ≡ true → within ns 29 ≡ true → Begins ns (simple collective)
collective_first a b c d = first_then _ (first_then _ (first_or (first_then _ (first_one (key_kind keys.Barrier) a)) (first_or (first_then _ (first_one (key_kind keys.Broadcast) b)) (first_or (first_then _ (first_one (key_kind keys.Reduce) c)) (first_then _ (first_one (key_kind keys.Allreduce) d))))))

call_first : {ns : List ℕ} → within ns 36 ≡ true → Begins ns call_text
call_first a = first_then _ (first_one (key_kind keys.Do) a)

compute_first : {ns : List ℕ} → within ns 25 ≡ true → Begins ns (simple compute_text)
compute_first a = first_then _ (first_then _ (first_then _ (first_one (key_kind keys.Compute) a)))

choice_first : {ns : List ℕ} (block : Form PlainCallBlock) → within ns 22 ≡ true → Begins ns (choice_text block)
choice_first block a = first_then _ (first_one (key_kind keys.Choice) a)

continue_first : {ns : List ℕ} → within ns 21 ≡ true → Begins ns (simple continue_text)
continue_first a = first_then _ (first_then _ (first_then _ (first_one (key_kind keys.Continue) a)))

rec_first : {ns : List ℕ} (block : Form PlainCallBlock) → within ns 20 ≡ true → Begins ns (rec_text block)
rec_first block a = first_then _ (first_one (key_kind keys.Rec) a)

foreach_first : {ns : List ℕ} → within ns 19 ≡ true → Begins ns foreach_text
foreach_first a = first_then _ (first_one (key_kind keys.Foreach) a)

-- what is left of a statement's alternatives, from the last one on
abbrev from_call : Form Call
from_call = call_text or simple collective

abbrev from_compute : Form Call
from_compute = simple compute_text or from_call

first_call : {ns : List ℕ} → within ns 36 ≡ true → within ns 26 ≡ true → within ns 27 ≡ true → within ns 28 ≡ true → within ns 29 ≡ true → Begins ns from_call
first_call e a b c d = first_or (call_first e) (collective_first a b c d)

first_compute : {ns : List ℕ} → within ns 25 ≡ true → within ns 36 ≡ true → within ns 26 ≡ true → within ns 27 ≡ true → within ns 28 ≡ true → within ns 29 ≡ true → Begins ns from_compute
first_compute f e a b c d = first_or (compute_first f) (first_call e a b c d)

pub statement_first : (block : Form PlainCallBlock) → Begins call_keys (statement block)
statement_first block = first_or (message_first refl) (first_or (foreach_first refl) (first_or (rec_first block refl) (first_or (continue_first refl) (first_or (choice_first block refl) (first_compute refl refl refl refl refl refl)))))

pub statement_reads : {block : Form PlainCallBlock} {r : Reader PlainCallBlock} → Lawful block → Begins (7 ∷ []) block → AlwaysReads block r → Reads (statement block) (statement_at r) or_goes
unfolding statement_at
statement_reads {block} lawful begins inside =
    either (37 ∷ []) (message_first refl) (misses_first {ms = 19 ∷ 20 ∷ 21 ∷ 22 ∷ 25 ∷ 36 ∷ 26 ∷ 27 ∷ 28 ∷ 29 ∷ []} (first_or (foreach_first refl) (first_or (rec_first block refl) (first_or (continue_first refl) (first_or (choice_first block refl) (first_compute refl refl refl refl refl refl))))) refl)
    (simple_reads message_text_reads)
    (either (19 ∷ []) (foreach_first refl) (misses_first {ms = 20 ∷ 21 ∷ 22 ∷ 25 ∷ 36 ∷ 26 ∷ 27 ∷ 28 ∷ 29 ∷ []} (first_or (rec_first block refl) (first_or (continue_first refl) (first_or (choice_first block refl) (first_compute refl refl refl refl refl refl)))) refl)
    foreach_text_reads
    (either (20 ∷ []) (rec_first block refl) (misses_first {ms = 21 ∷ 22 ∷ 25 ∷ 36 ∷ 26 ∷ 27 ∷ 28 ∷ 29 ∷ []} (first_or (continue_first refl) (first_or (choice_first block refl) (first_compute refl refl refl refl refl refl))) refl)
    (rec_text_reads inside)
    (either (21 ∷ []) (continue_first refl) (misses_first {ms = 22 ∷ 25 ∷ 36 ∷ 26 ∷ 27 ∷ 28 ∷ 29 ∷ []} (first_or (choice_first block refl) (first_compute refl refl refl refl refl refl)) refl)
    (simple_reads continue_text_reads)
    (either (22 ∷ []) (choice_first block refl) (misses_first {ms = 25 ∷ 36 ∷ 26 ∷ 27 ∷ 28 ∷ 29 ∷ []} (first_compute refl refl refl refl refl refl) refl)
    (choice_text_reads lawful begins inside)
    (either (25 ∷ []) (compute_first refl) (misses_first {ms = 36 ∷ 26 ∷ 27 ∷ 28 ∷ 29 ∷ []} (first_call refl refl refl refl refl) refl)
    (simple_reads compute_text_reads)
    (either (36 ∷ []) (call_first refl) (misses_first {ms = 26 ∷ 27 ∷ 28 ∷ 29 ∷ []} (collective_first refl refl refl refl) refl)
    call_text_reads
    (simple_reads collective_reads)))))))

pub block_first : (n : ℕ) → Begins (7 ∷ []) (block n)
unfolding block
block_first zero = first_then _ (first_one (mark_kind marks.LeftBrace) refl)
block_first (suc n) = first_then _ (first_one (mark_kind marks.LeftBrace) refl)

pub statements_reads : {block : Form PlainCallBlock} {r : Reader PlainCallBlock} → Lawful block → Begins (7 ∷ []) block → AlwaysReads block r → Reads (many (statement block)) (many_at (among call_keys) (statement_at r)) (24 ∷ call_keys)
statements_reads {block} lawful begins inside = many_reads call_keys (24 ∷ call_keys) (statement_first block) (apart_all call_keys or_goes refl) (ends_all call_keys or_goes (24 ∷ call_keys) refl refl) (statement_ok lawful) (statement_reads lawful begins inside)

pub block_reads : (n : ℕ) → AlwaysReads (block n) (block_at n)
unfolding block block_at
block_reads zero goes = do
  open_brace ← mark_reads marks.LeftBrace
  close_brace ← mark_reads marks.RightBrace
  done_reads _
block_reads (suc n) goes = braces_reads call_keys or_goes (24 ∷ call_keys) (statement_first (block n)) refl refl refl refl (statement_ok (block_ok n)) (statement_reads (block_ok n) (block_first n) (block_reads n))

pub parameter_reads : {goes : List ℕ} → Reads parameter parameter_at goes
unfolding parameter_at
parameter_reads = do
  start ← key_reads keys.Role
  name_reads

comma_parameter_reads : {goes : List ℕ} → Reads comma_parameter comma_parameter_at goes
unfolding comma_parameter_at
comma_parameter_reads = do
  comma ← mark_reads marks.Comma
  parameter_reads

comma_parameter_first : Begins comma_goes comma_parameter
comma_parameter_first = first_then _ (first_one (mark_kind marks.Comma) refl)

pub comma_parameters_reads : Reads (many comma_parameter) (many_at (mark_next marks.Comma) comma_parameter_at) comma_goes
comma_parameters_reads = many_reads {first = []} comma_goes comma_goes comma_parameter_first (apart_all comma_goes [] refl) (ends_all comma_goes [] comma_goes refl refl) comma_parameter_ok comma_parameter_reads

pub subprotocol_reads : {goes : List ℕ} {block : Form PlainCallBlock} {r : Reader PlainCallBlock} → AlwaysReads block r → Reads (subprotocol block) (subprotocol_at r) goes
unfolding subprotocol_at
subprotocol_reads inside = do
  start ← key_reads keys.Protocol
  of ← name_reads
  left ← mark_reads marks.LeftParen
  first ← parameter_reads
  after comma_parameters_reads (apart_one _ (mark_kind marks.RightParen) refl) (λ others. do
    right ← mark_reads marks.RightParen
    body ← inside _
    done_reads _)

abbrev pub protocol_goes : List ℕ
protocol_goes = 15 ∷ []

pub subprotocols_reads : {block : Form PlainCallBlock} {r : Reader PlainCallBlock} → Lawful block → AlwaysReads block r → Reads (many (subprotocol block)) (many_at (key_next keys.Protocol) (subprotocol_at r)) protocol_goes
subprotocols_reads lawful inside = many_reads {first = []} protocol_goes protocol_goes (first_then _ (first_one (key_kind keys.Protocol) refl)) (apart_all protocol_goes [] refl) (ends_all protocol_goes [] protocol_goes refl refl) (subprotocol_ok lawful) (subprotocol_reads inside)

pub file_reads : {goes : List ℕ} {block : Form PlainCallBlock} {r : Reader PlainCallBlock} → Lawful block → AlwaysReads block r → Reads (file block) (file_at r) goes
unfolding file_at
file_reads lawful inside = do
  const_key ← key_reads keys.Const
  constant ← name_reads
  equals ← mark_reads marks.Equals
  low ← number_reads
  dots ← mark_reads marks.Dots
  high ← top_reads
  semicolon ← mark_reads marks.Semicolon
  after (subprotocols_reads lawful inside) (apart_one _ (key_kind keys.Global) refl) (λ subs. do
    global_key ← key_reads keys.Global
    protocol_key ← key_reads keys.Protocol
    protocol ← name_reads
    left ← mark_reads marks.LeftParen
    after roles_reads (apart_one _ (mark_kind marks.RightParen) refl) (λ list. do
      right ← mark_reads marks.RightParen
      body ← inside _
      done_reads _))

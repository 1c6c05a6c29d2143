-- The tokens of a file with strips, as its reader takes them, are such as can be written.
use Rattle.std.proofs.Common.{ℕ, zero, suc, Bool, true, false, if◌then◌else◌, Option, Some, None, List, [], ◌∷◌}
use Rattle.pb_text.specs.declared.token.Token.{Token}
use Rattle.pb_text.specs.declared.token.TokenKind.{TokenKind}
use Rattle.pb_text.specs.declared.token.TokenKind.TheVariants as kind
use Rattle.pb_text.specs.declared.token.Mark.TheVariants as marks
use Rattle.pb_text.specs.declared.token.Key.{Key}
use Rattle.pb_text.specs.declared.token.Key.TheVariants as keys
use Rattle.pb_syntax.specs.declared.tree.IndexText.{IndexText}
use Rattle.pb_syntax.specs.declared.tree.IndexText.TheVariants as index
use Rattle.pb_syntax.specs.Form.{Form}
use Rattle.pb_syntax.proofs.Prints.{AllOf, kinds_of}
use Rattle.pb_syntax.proofs.Relex.{IsWritten}
use Rattle.pb_strips_syntax.specs.Strips.{Strip, PlainStripBlock, PlainStripFile}
use Rattle.pb_strips_grammar.specs.Tokens.{is_columns, key_here, kind_here, tokens_here}
use Rattle.pb_strips_grammar.specs.Grammar.{width, width_behind, role, roles, column, column_behind, plain_end, any_end, end_beside, message_text, item_message, compute_text, continue_text, collective, and_semicolon, item, braces, columns_text, foreach_text, rec_text, or_block, choice_text, statement, column_block, block, file}
use Rattle.pb_strips_text_laws.proofs.Reading.{IsRead, Reads, ◌>>=◌, ◌or_reads◌, done_reads, many_reads, mark_reads, key_reads, name_reads, number_reads, lin_reads, range_reads, top_reads, role_range_reads, payload_reads, op_reads, plain_index_reads, any_index_reads}

-- ---- roles

width_reads : Reads width
width_reads =
    (mark_reads marks.LeftBracket >>= λ p. number_reads >>= λ l. mark_reads marks.Dots >>= λ q. number_reads >>= λ h. mark_reads marks.RightBracket >>= λ r. done_reads _) or_reads done_reads _

width_behind_reads : {A : Type 0} (o : Option A) → Reads (width_behind o)
width_behind_reads None = done_reads _
width_behind_reads (Some rows) = width_reads

role_reads : Reads role
role_reads = key_reads keys.Role >>= λ p. name_reads >>= λ s. role_range_reads >>= λ over. width_behind_reads over >>= λ wide. done_reads _

roles_reads : Reads roles
roles_reads = role_reads >>= λ first. many_reads (mark_reads marks.Comma >>= λ p. role_reads) >>= λ others. done_reads _

-- ---- ends

column_reads : Reads column
column_reads = (mark_reads marks.LeftBracket >>= λ p. lin_reads >>= λ l. mark_reads marks.RightBracket >>= λ q. done_reads _) or_reads done_reads _

column_behind_reads : (i : IndexText) → Reads (column_behind i)
column_behind_reads index.Zero = done_reads _
column_behind_reads (index.At l) = column_reads
column_behind_reads (index.Bind var over) = column_reads

plain_end_reads : Reads plain_end
plain_end_reads = name_reads >>= λ s. plain_index_reads >>= λ i. column_behind_reads i >>= λ c. done_reads _

any_end_reads : Reads any_end
any_end_reads = name_reads >>= λ s. any_index_reads >>= λ i. column_behind_reads i >>= λ c. done_reads _

end_beside_reads : (i : IndexText) → Reads (end_beside i)
end_beside_reads (index.Bind var over) = plain_end_reads
end_beside_reads index.Zero = any_end_reads
end_beside_reads (index.At l) = any_end_reads

-- ---- statements

message_reads : Reads message_text
message_reads = name_reads >>= λ l. payload_reads >>= λ p. key_reads keys.From >>= λ k. any_end_reads >>= λ f. key_reads keys.To >>= λ m. end_beside_reads _ >>= λ t. done_reads _

item_message_reads : Reads item_message
item_message_reads = name_reads >>= λ l. payload_reads >>= λ p. key_reads keys.From >>= λ k. plain_end_reads >>= λ f. key_reads keys.To >>= λ m. plain_end_reads >>= λ t. done_reads _

compute_reads : Reads compute_text
compute_reads = key_reads keys.Compute >>= λ p. name_reads >>= λ k. key_reads keys.At >>= λ q. plain_end_reads >>= λ e. done_reads _

continue_reads : Reads continue_text
continue_reads = key_reads keys.Continue >>= λ p. name_reads >>= λ s. done_reads _

collective_reads : Reads collective
collective_reads =
    (key_reads keys.Barrier >>= λ p. done_reads _)
    or_reads (key_reads keys.Broadcast >>= λ q. name_reads >>= λ l. payload_reads >>= λ p. key_reads keys.From >>= λ k. plain_end_reads >>= λ f. done_reads _)
    or_reads (key_reads keys.Reduce >>= λ q. name_reads >>= λ l. payload_reads >>= λ p. key_reads keys.With >>= λ k. op_reads >>= λ o. key_reads keys.To >>= λ m. plain_end_reads >>= λ t. done_reads _)
    or_reads (key_reads keys.Allreduce >>= λ q. name_reads >>= λ l. payload_reads >>= λ p. key_reads keys.With >>= λ k. op_reads >>= λ o. done_reads _)

semicolon_reads : {form : Form Strip} → Reads form → Reads (and_semicolon form)
semicolon_reads r = r >>= λ s. mark_reads marks.Semicolon >>= λ p. done_reads _

item_reads : Reads item
item_reads = semicolon_reads item_message_reads or_reads semicolon_reads compute_reads

braces_reads : {form : Form Strip} → Reads form → Reads (braces form)
braces_reads r = mark_reads marks.LeftBrace >>= λ p. many_reads r >>= λ l. mark_reads marks.RightBrace >>= λ q. done_reads _

columns_reads : {inside : Form PlainStripBlock} → Reads inside → Reads (columns_text inside)
columns_reads r =
    key_reads keys.Do >>= λ p. mark_reads marks.LeftParen >>= λ q. name_reads >>= λ v. mark_reads marks.Colon >>= λ c. number_reads >>= λ l. mark_reads marks.Dots >>= λ d. number_reads >>= λ h. mark_reads marks.RightParen >>= λ e.
    r >>= λ b. done_reads _

foreach_reads : {inside : Form PlainStripBlock} → Reads inside → Reads (foreach_text inside)
foreach_reads r =
    key_reads keys.Foreach >>= λ p. mark_reads marks.LeftParen >>= λ q. name_reads >>= λ v. mark_reads marks.Colon >>= λ c. range_reads >>= λ o. mark_reads marks.RightParen >>= λ e. r >>= λ b. done_reads _

or_block_reads : {inside : Form PlainStripBlock} → Reads inside → Reads (or_block inside)
or_block_reads r = key_reads keys.Or >>= λ p. r

rec_reads : {inside : Form PlainStripBlock} → Reads inside → Reads (rec_text inside)
rec_reads r = key_reads keys.Rec >>= λ p. name_reads >>= λ s. r >>= λ b. done_reads _

choice_reads : {inside : Form PlainStripBlock} → Reads inside → Reads (choice_text inside)
choice_reads r =
    key_reads keys.Choice >>= λ p. name_reads >>= λ k. key_reads keys.At >>= λ q. plain_end_reads >>= λ w. r >>= λ first. or_block_reads r >>= λ second. many_reads (or_block_reads r) >>= λ others. done_reads _

statement_reads : {each inside : Form PlainStripBlock} → Reads each → Reads inside → Reads (statement each inside)
statement_reads e r =
    semicolon_reads message_reads
    or_reads foreach_reads e
    or_reads rec_reads r
    or_reads semicolon_reads continue_reads
    or_reads choice_reads r
    or_reads semicolon_reads compute_reads
    or_reads semicolon_reads collective_reads

column_block_reads : (n : ℕ) → Reads (column_block n)
unfolding column_block
column_block_reads zero = mark_reads marks.LeftBrace >>= λ p. mark_reads marks.RightBrace >>= λ q. done_reads _
column_block_reads (suc n) = braces_reads (statement_reads (braces_reads item_reads) (column_block_reads n))

block_reads : (n : ℕ) → Reads (block n)
unfolding block
block_reads zero = mark_reads marks.LeftBrace >>= λ p. mark_reads marks.RightBrace >>= λ q. done_reads _
block_reads (suc n) =
    braces_reads (columns_reads (column_block_reads n) or_reads statement_reads (braces_reads (item_reads or_reads columns_reads (braces_reads item_reads))) (block_reads n))

-- ---- a file

file_reads : (n : ℕ) → Reads (file (block n))
file_reads n =
    key_reads keys.Const >>= λ p. name_reads >>= λ constant. mark_reads marks.Equals >>= λ q. number_reads >>= λ low. mark_reads marks.Dots >>= λ r. top_reads >>= λ high. mark_reads marks.Semicolon >>= λ s.
    key_reads keys.Global >>= λ g. key_reads keys.Protocol >>= λ h. name_reads >>= λ protocol. mark_reads marks.LeftParen >>= λ l. roles_reads >>= λ list. mark_reads marks.RightParen >>= λ m. block_reads n >>= λ body. done_reads _

-- ---- its tokens

key_written : (k : Key) → IsRead (key_here k) → IsWritten (key_here k)
key_written keys.Const read = tt
key_written keys.Global read = tt
key_written keys.Protocol read = tt
key_written keys.Role read = tt
key_written keys.From read = tt
key_written keys.To read = tt
key_written keys.Foreach read = tt
key_written keys.Rec read = tt
key_written keys.Continue read = tt
key_written keys.Choice read = tt
key_written keys.At read = tt
key_written keys.Or read = tt
key_written keys.Compute read = tt
key_written keys.Barrier read = tt
key_written keys.Broadcast read = tt
key_written keys.Reduce read = tt
key_written keys.Allreduce read = tt
key_written keys.With read = tt
key_written keys.Max read = tt
key_written keys.Min read = tt
key_written keys.Sum read = tt
key_written keys.Int32 read = tt
key_written keys.Uint32 read = tt
key_written keys.Do read = read

word_written : (b : Bool) (w : List ℕ) → IsWritten (kind.Word w) → IsWritten (if b then kind.Key keys.Do else kind.Word w)
word_written true w is = tt
word_written false w is = is

kind_written : (k : TokenKind) → IsWritten k → IsRead (kind_here k) → IsWritten (kind_here k)
kind_written (kind.Word w) is read = word_written (is_columns w) w is
kind_written (kind.Key k) is read = key_written k read
kind_written (kind.Mark m) is read = tt
kind_written (kind.Number n) is read = is

tokens_written : (ts : List Token) → AllOf IsWritten (kinds_of ts) → AllOf IsRead (kinds_of (tokens_here ts)) → AllOf IsWritten (kinds_of (tokens_here ts))
tokens_written [] is read = tt
tokens_written (t ∷ ts) is read = (kind_written t.kind is.0 read.0, tokens_written ts is.1 read.1)

pub here_written : (n : ℕ) (ts : List Token) (f : PlainStripFile) → (file (block n)).text (tokens_here ts) f → AllOf IsWritten (kinds_of ts) → AllOf IsWritten (kinds_of (tokens_here ts))
here_written n ts f whole is = tokens_written ts is ((file_reads n).reads (tokens_here ts) f whole)

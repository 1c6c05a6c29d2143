-- Reading a file doesn't depend on how deep blocks may be nested, where that is at least the number of tokens.
use Rattle.std.proofs.Common.{◌≡◌, ℕ, zero, suc, ◌≤◌, List, [], ◌∷◌, length, Option, refl, arith}
use Rattle.pb_text.specs.declared.token.Token.{Token}
use Rattle.pb_syntax.specs.Form.{Form}
use Rattle.pb_syntax.specs.Reading.{Reader, one_at}
use Rattle.pb_syntax.proofs.Exact.{one_reads}
use Rattle.pb_syntax.proofs.ExactGrammar.{top_reads}
use Rattle.pb_syntax.proofs.Fuel.{Agree, Shrinks, shrinks, alike, agree_then, agree_one, agree_choose, agree_many}
use Rattle.pb_syntax.proofs.Lawful.{Lawful}
use Rattle.pb_strips_syntax.specs.Strips.{PlainStripBlock}
use Rattle.pb_strips_grammar.specs.Grammar.{or_block}
use Rattle.pb_strips_grammar.specs.Readers.{braces_at, items_at, columns_text_at, rec_text_at, or_block_at, choice_text_at, statement_at, column_block_at, statement_or_columns_at, block_at, file_at}
use Rattle.pb_strips_grammar.proofs.ExactParts.{roles_reads, plain_end_reads}
use Rattle.pb_strips_grammar.proofs.ExactGrammar.{AlwaysReads, or_block_reads, or_blocks_reads, column_statement_reads, column_statements_reads, column_block_first, column_block_reads, statement_or_columns_reads, statements_reads, block_first, block_reads}
use Rattle.pb_strips_grammar.proofs.LawfulGrammar.{column_block_ok, block_ok}

one_small : {A : Type 0} (reads : Token → Option A) → Shrinks (one_at reads)
one_small reads = shrinks (one_reads reads {goes = []})

-- two readers of blocks that agree on short lists of tokens, of which the second is exact
module _ (k : ℕ) {f : Form PlainStripBlock} {r s : Reader PlainStripBlock} (lawful : Lawful f) (reads : AlwaysReads f s) (p : Agree k r s) where
  small : Shrinks s
  small = shrinks (reads [])

  or_block_small : Shrinks (or_block_at s)
  or_block_small = shrinks {f = or_block f} {goes = []} (or_block_reads reads)

  or_block_agree : Agree k (or_block_at r) (or_block_at s)
  unfolding or_block_at
  or_block_agree = agree_then (one_small _) alike (λ or_key. p)

  rec_agree : Agree k (rec_text_at r) (rec_text_at s)
  unfolding rec_text_at
  rec_agree = agree_then (one_small _) alike (λ start. agree_then (one_small _) alike (λ of. agree_then small p (λ body. alike)))

  choice_agree : Agree k (choice_text_at r) (choice_text_at s)
  unfolding choice_text_at
  choice_agree = agree_then (one_small _) alike (λ start. agree_then (one_small _) alike (λ kernel. agree_then (one_small _) alike (λ at_key. agree_then (shrinks plain_end_reads) alike (λ who.
      agree_then small p (λ first. agree_then or_block_small or_block_agree (λ second. agree_then (shrinks (or_blocks_reads lawful reads)) (agree_many or_block_small or_block_agree) (λ others. alike)))))))

  statement_agree : (items : Reader PlainStripBlock) → Agree k (statement_at items r) (statement_at items s)
  unfolding statement_at
  statement_agree items = agree_choose alike (agree_choose alike (agree_choose rec_agree (agree_choose alike (agree_choose choice_agree alike))))

  columns_agree : Agree k (columns_text_at r) (columns_text_at s)
  unfolding columns_text_at
  columns_agree = agree_then (one_small _) alike (λ start. agree_then (one_small _) alike (λ left. agree_then (one_small _) alike (λ var. agree_then (one_small _) alike (λ colon. agree_then (one_small _) alike (λ low.
      agree_then (one_small _) alike (λ dots. agree_then (one_small _) alike (λ high. agree_then (one_small _) alike (λ right. agree_then small p (λ body. alike)))))))))

-- without a token no block is read
column_none : (n m : ℕ) (ts : List Token) → length ts ≤ 0 → column_block_at n ts ≡ column_block_at m ts
unfolding column_block_at braces_at
column_none zero zero [] le = refl
column_none zero (suc m) [] le = refl
column_none (suc n) zero [] le = refl
column_none (suc n) (suc m) [] le = refl
column_none n m (t ∷ ts) le = absurd (omega arith)

none : (n m : ℕ) (ts : List Token) → length ts ≤ 0 → block_at n ts ≡ block_at m ts
unfolding block_at braces_at
none zero zero [] le = refl
none zero (suc m) [] le = refl
none (suc n) zero [] le = refl
none (suc n) (suc m) [] le = refl
none n m (t ∷ ts) le = absurd (omega arith)

column_block_agree : (k n m : ℕ) → k ≤ n → k ≤ m → Agree k (column_block_at n) (column_block_at m)
unfolding column_block_at braces_at
column_block_agree zero n m p q = record { same = column_none n m }
column_block_agree (suc k) zero m p q = absurd (omega arith)
column_block_agree (suc k) (suc n) zero p q = absurd (omega arith)
column_block_agree (suc k) (suc n) (suc m) p q =
    let inside : Agree k (column_block_at n) (column_block_at m) = column_block_agree k n m (omega arith) (omega arith) in
    agree_one _ (λ open_brace.
    agree_then (shrinks (column_statements_reads (column_block_ok m) (column_block_first m) (column_block_reads m)))
    (agree_many (shrinks (column_statement_reads (column_block_ok m) (column_block_first m) (column_block_reads m))) (statement_agree k (column_block_ok m) (column_block_reads m) inside items_at))
    (λ list. alike))

module _ (k n m : ℕ) (c : Agree k (column_block_at n) (column_block_at m)) (p : Agree k (block_at n) (block_at m)) where
  statement_or_columns_agree : Agree k (statement_or_columns_at (column_block_at n) (block_at n)) (statement_or_columns_at (column_block_at m) (block_at m))
  unfolding statement_or_columns_at
  statement_or_columns_agree = agree_choose (columns_agree k (column_block_ok m) (column_block_reads m) c) (statement_agree k (block_ok m) (block_reads m) p _)

pub block_agree : (k n m : ℕ) → k ≤ n → k ≤ m → Agree k (block_at n) (block_at m)
unfolding block_at braces_at
block_agree zero n m p q = record { same = none n m }
block_agree (suc k) zero m p q = absurd (omega arith)
block_agree (suc k) (suc n) zero p q = absurd (omega arith)
block_agree (suc k) (suc n) (suc m) p q =
    let columns : Agree k (column_block_at n) (column_block_at m) = column_block_agree k n m (omega arith) (omega arith) in
    let inside : Agree k (block_at n) (block_at m) = block_agree k n m (omega arith) (omega arith) in
    agree_one _ (λ open_brace.
    agree_then (shrinks (statements_reads (column_block_ok m) (column_block_reads m) (block_ok m) (block_first m) (block_reads m)))
    (agree_many (shrinks (statement_or_columns_reads (column_block_reads m) (block_ok m) (block_first m) (block_reads m))) (statement_or_columns_agree k n m columns inside))
    (λ list. alike))

pub file_agree : (k n m : ℕ) → k ≤ n → k ≤ m → Agree k (file_at (block_at n)) (file_at (block_at m))
unfolding file_at
file_agree k n m p q =
    agree_then (one_small _) alike (λ a1. agree_then (one_small _) alike (λ a2. agree_then (one_small _) alike (λ a3. agree_then (one_small _) alike (λ a4. agree_then (one_small _) alike (λ a5. agree_then (shrinks {goes = []} top_reads) alike (λ a6.
    agree_then (one_small _) alike (λ a7. agree_then (one_small _) alike (λ a8. agree_then (one_small _) alike (λ a9. agree_then (one_small _) alike (λ a10. agree_then (one_small _) alike (λ a11. agree_then (shrinks roles_reads) alike (λ a12. agree_then (one_small _) alike (λ a13.
    agree_then (shrinks (block_reads m [])) (block_agree k n m p q) (λ body. alike))))))))))))))

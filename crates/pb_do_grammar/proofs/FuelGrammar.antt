-- Reading a file doesn't depend on how deep blocks may be nested, where that is at least the number of tokens.
use Rattle.std.proofs.Common.{◌≡◌, ℕ, zero, suc, ◌≤◌, List, [], ◌∷◌, length, Option, refl, arith}
use Rattle.pb_text.specs.declared.token.Token.{Token}
use Rattle.pb_text.specs.declared.token.Key.TheVariants as keys
use Rattle.pb_syntax.specs.Reading.{one_at, many_at, among}
use Rattle.pb_syntax.specs.Readers.{key_next}
use Rattle.pb_syntax.proofs.Exact.{one_reads}
use Rattle.pb_syntax.proofs.ExactGrammar.{plain_end_reads, top_reads, roles_reads}
use Rattle.pb_syntax.proofs.Fuel.{Agree, Shrinks, shrinks, alike, agree_then, agree_one, agree_choose, agree_many}
use Rattle.pb_do_grammar.specs.Grammar.{or_block, block, parameter, subprotocol}
use Rattle.pb_do_grammar.specs.Readers.{call_keys, braces_at, rec_text_at, or_block_at, choice_text_at, statement_at, block_at, parameter_at, subprotocol_at, file_at}
use Rattle.pb_do_grammar.proofs.ExactGrammar.{or_block_reads, or_blocks_reads, statement_reads, statements_reads, block_first, block_reads, parameter_reads, comma_parameters_reads, subprotocol_reads, subprotocols_reads}
use Rattle.pb_do_grammar.proofs.LawfulGrammar.{block_ok}

one_small : {A : Type 0} (reads : Token → Option A) → Shrinks (one_at reads)
one_small reads = shrinks (one_reads reads {goes = []})

block_small : (m : ℕ) → Shrinks (block_at m)
block_small m = shrinks (block_reads m [])

or_block_small : (m : ℕ) → Shrinks (or_block_at (block_at m))
or_block_small m = shrinks {f = or_block (block m)} {goes = []} (or_block_reads (block_reads m))

statement_small : (m : ℕ) → Shrinks (statement_at (block_at m))
statement_small m = shrinks (statement_reads (block_ok m) (block_first m) (block_reads m))

many_small : (m : ℕ) → Shrinks (many_at (key_next keys.Or) (or_block_at (block_at m)))
many_small m = shrinks (or_blocks_reads (block_ok m) (block_reads m))

statements_small : (m : ℕ) → Shrinks (many_at (among call_keys) (statement_at (block_at m)))
statements_small m = shrinks (statements_reads (block_ok m) (block_first m) (block_reads m))

parameter_small : Shrinks parameter_at
parameter_small = shrinks {f = parameter} {goes = []} parameter_reads

subprotocol_small : (m : ℕ) → Shrinks (subprotocol_at (block_at m))
subprotocol_small m = shrinks {f = subprotocol (block m)} {goes = []} (subprotocol_reads (block_reads m))

subprotocols_small : (m : ℕ) → Shrinks (many_at (key_next keys.Protocol) (subprotocol_at (block_at m)))
subprotocols_small m = shrinks (subprotocols_reads (block_ok m) (block_reads m))

none : (n m : ℕ) (ts : List Token) → length ts ≤ 0 → block_at n ts ≡ block_at m ts
unfolding block_at braces_at
none zero zero [] le = refl
none zero (suc m) [] le = refl
none (suc n) zero [] le = refl
none (suc n) (suc m) [] le = refl
none n m (t ∷ ts) le = absurd (omega arith)

module _ (k n m : ℕ) (p : Agree k (block_at n) (block_at m)) where
  or_block_agree : Agree k (or_block_at (block_at n)) (or_block_at (block_at m))
  unfolding or_block_at
  or_block_agree = agree_then (one_small _) alike (λ or_key. p)

  rec_agree : Agree k (rec_text_at (block_at n)) (rec_text_at (block_at m))
  unfolding rec_text_at
  rec_agree = agree_then (one_small _) alike (λ start. agree_then (one_small _) alike (λ of. agree_then (block_small m) p (λ body. alike)))

  choice_agree : Agree k (choice_text_at (block_at n)) (choice_text_at (block_at m))
  unfolding choice_text_at
  choice_agree = agree_then (one_small _) alike (λ start. agree_then (one_small _) alike (λ kernel. agree_then (one_small _) alike (λ at_key. agree_then (shrinks plain_end_reads) alike (λ who.
      agree_then (block_small m) p (λ first. agree_then (or_block_small m) or_block_agree (λ second. agree_then (many_small m) (agree_many (or_block_small m) or_block_agree) (λ others. alike)))))))

  statement_agree : Agree k (statement_at (block_at n)) (statement_at (block_at m))
  unfolding statement_at
  statement_agree = agree_choose alike (agree_choose alike (agree_choose rec_agree (agree_choose alike (agree_choose choice_agree alike))))

  subprotocol_agree : Agree k (subprotocol_at (block_at n)) (subprotocol_at (block_at m))
  unfolding subprotocol_at
  subprotocol_agree = agree_then (one_small _) alike (λ start. agree_then (one_small _) alike (λ of. agree_then (one_small _) alike (λ left. agree_then parameter_small alike (λ first.
      agree_then (shrinks comma_parameters_reads) alike (λ others. agree_then (one_small _) alike (λ right. agree_then (block_small m) p (λ body. alike)))))))

pub block_agree : (k n m : ℕ) → k ≤ n → k ≤ m → Agree k (block_at n) (block_at m)
unfolding block_at braces_at
block_agree zero zero zero p q = alike
block_agree zero zero (suc m) p q = record { same = none zero (suc m) }
block_agree zero (suc n) zero p q = record { same = none (suc n) zero }
block_agree zero (suc n) (suc m) p q = record { same = none (suc n) (suc m) }
block_agree (suc k) zero m p q = absurd (omega arith)
block_agree (suc k) (suc n) zero p q = absurd (omega arith)
block_agree (suc k) (suc n) (suc m) p q = agree_one _ (λ open_brace. agree_then (statements_small m) (agree_many (statement_small m) (statement_agree k n m (block_agree k n m (omega arith) (omega arith)))) (λ list. alike))

pub file_agree : (k n m : ℕ) → k ≤ n → k ≤ m → Agree k (file_at (block_at n)) (file_at (block_at m))
unfolding file_at
file_agree k n m p q =
    let inside : Agree k (block_at n) (block_at m) = block_agree k n m p q in
    agree_then (one_small _) alike (λ a1. agree_then (one_small _) alike (λ a2. agree_then (one_small _) alike (λ a3. agree_then (one_small _) alike (λ a4. agree_then (one_small _) alike (λ a5. agree_then (shrinks {goes = []} top_reads) alike (λ a6.
    agree_then (one_small _) alike (λ a7. agree_then (subprotocols_small m) (agree_many (subprotocol_small m) (subprotocol_agree k n m inside)) (λ subs. agree_then (one_small _) alike (λ a8. agree_then (one_small _) alike (λ a9. agree_then (one_small _) alike (λ a10. agree_then (one_small _) alike (λ a11. agree_then (shrinks roles_reads) alike (λ a12. agree_then (one_small _) alike (λ a13.
    agree_then (block_small m) inside (λ body. alike)))))))))))))))

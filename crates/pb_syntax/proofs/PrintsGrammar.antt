-- Each form of the grammar, printed anew.
use Rattle.std.proofs.Common.{◌≡◌, ℕ, zero, suc, List, [], ◌∷◌, ◌++◌, ◌==◌, ◌⊎◌, inl, inr, Bool, true, false, Option, Some, None, refl, sym, ap, subst, ◌∙◌, arith}
use Rattle.std.specs.Prelude.{ℤ, pos, negsuc, ◌-ℤ◌, map}
use Rattle.std.proofs.lemmas.List.{append-nil}
use Rattle.std.proofs.Math.IntN.{pos-ne-negsuc, +ℤ_idl}
use Rattle.pb_text.specs.declared.place.Place.{Place}
use Rattle.pb_text.specs.declared.place.Spot.{Spot}
use Rattle.pb_text.specs.declared.token.Token.{Token}
use Rattle.pb_text.specs.declared.token.TokenKind.{TokenKind}
use Rattle.pb_text.specs.declared.token.TokenKind.TheVariants as kind
use Rattle.pb_text.specs.declared.token.Mark.{Mark}
use Rattle.pb_text.specs.declared.token.Mark.TheVariants as marks
use Rattle.pb_text.specs.declared.token.Key.TheVariants as keys
use Rattle.pb_syntax.specs.declared.tree.High.TheVariants as high
use Rattle.pb_syntax.specs.declared.tree.Payload.{Payload}
use Rattle.pb_syntax.specs.declared.tree.Payload.TheVariants as pay
use Rattle.pb_syntax.specs.declared.tree.Op.{Op}
use Rattle.pb_syntax.specs.declared.tree.LinText.{LinText}
use Rattle.pb_syntax.specs.declared.tree.RangeText.{RangeText}
use Rattle.pb_syntax.specs.declared.tree.IndexText.{IndexText}
use Rattle.pb_syntax.specs.declared.tree.IndexText.TheVariants as index
use Rattle.pb_syntax.specs.declared.tree.End.{End}
use Rattle.pb_syntax.specs.declared.tree.RoleText.{RoleText}
use Rattle.pb_syntax.specs.Form.{Form, done, one, many, ◌or◌, Both}
use Rattle.pb_syntax.specs.Form.{◌>>=◌ as ◌then◌}
use Rattle.pb_syntax.specs.Tree.{PlainStatement, message, foreach, loop, again, choice, compute, barrier, broadcast, reduce, allreduce, PlainStatements, more, PlainBlock, PlainBranches, branch, PlainFile, statements_of, branches_of, Numeral, Top}
use Rattle.pb_syntax.specs.Grammar as grammar
use Rattle.pb_syntax.specs.Grammar.{offset, lin, range, top, role_range, role, comma_role, roles, type, count, carried, payload, op, plain_index, plain_end, after_name, bracketed, any_index, any_end, end_beside, message_text, item_message, compute_text, collective, and_semicolon, braces, item, foreach_text, rec_text, continue_text, or_block, choice_text, statement, block, file}
use Rattle.pb_syntax.specs.Bare.{nowhere, bare_spot, bare_numeral, bare_top, bare_base, bare_lin, bare_range, bare_over, bare_index, bare_end, bare_role, bare_statement, bare_statements, bare_branches, bare_block, bare_file}
use Rattle.pb_syntax.specs.Printed.{Kinds, mark, key, word, number, offset_tokens, size, lin_tokens, range_tokens, over_tokens, role_tokens, comma_tokens, roles_tokens, high_tokens, count_tokens, carried_tokens, payload_tokens, op_tokens, bracketed_tokens, index_tokens, end_tokens, statement_tokens, statements_tokens, branches_tokens, or_tokens, block_tokens, head_tokens, file_tokens}
use Rattle.pb_syntax.specs.Printed.{◌>>◌ as ◌next◌}
use Rattle.pb_syntax.proofs.Same.{flat, share, done_first}
use Rattle.pb_syntax.proofs.Prints.{Prints, Reprint, Again, AllOf, kinds_of, no_kinds, done_prints, last_prints, many_prints, same_prints, shown_prints, show_all, ◌>>=◌, ◌or_prints◌}
use Rattle.pb_syntax.proofs.PrintsTokens.{mark_prints, key_prints, name_prints, number_prints, count_prints_one}

-- a form in parts as the first part of another
flat_prints : {A B C : Type 0} {p : TokenKind → Type 0} {bare : C → C} {front : Kinds → Kinds} {show : C → Kinds → Kinds} (a : Form A) (f : A → Form B) (k : B → Form C) (c : Form A) (g : A → Form B) (l : B → Form C)
    → Prints p bare front show (a then (λ x. f x then k)) (c then (λ x. g x then l)) → Prints p bare front show ((a then f) then k) ((c then g) then l)
flat_prints a f k c g l h = same_prints (flat a f k) (flat c g l) h

first_prints : {A B : Type 0} {p : TokenKind → Type 0} {bare : B → B} {front : Kinds → Kinds} {show : B → Kinds → Kinds} (x : A) (k : A → Form B) (y : A) (l : A → Form B)
    → (k x).front [] → (l y).front [] → Prints p bare front show (k x) (l y) → Prints p bare front show (done x then k) (done y then l)
first_prints x k y l left right h = same_prints (done_first x k left) (done_first y l right) h

share_prints : {A B : Type 0} {p : TokenKind → Type 0} {bare : B → B} {front : Kinds → Kinds} {show : B → Kinds → Kinds} (a b : Form A) (k : A → Form B) (c d : Form A) (l : A → Form B)
    → Prints p bare front show ((a then k) or (b then k)) ((c then l) or (d then l)) → Prints p bare front show ((a or b) then k) ((c or d) then l)
share_prints a b k c d l h = same_prints (share a b k) (share c d l) h

-- An offset with its sign, also where it is 0.
plus_prints : {p : TokenKind → Type 0} → Prints p (λ (z : ℤ). z) (λ before. before) (λ z. mark marks.Plus next number (size z)) (grammar.mark marks.Plus then (λ plus. grammar.number then (λ n. done (pos n.value)))) (grammar.mark marks.Plus then (λ plus. grammar.number then (λ n. done (pos n.value))))
plus_prints = mark_prints marks.Plus >>= λ l r e. number_prints >>= λ n m f. done_prints _ _ (λ before. refl) (ap (λ (v : Numeral). pos v.value) f)

minus_is : (n : ℕ) → pos 0 -ℤ pos (suc n) ≡ negsuc n
minus_is n = +ℤ_idl (negsuc n)

minus_size : (n : ℕ) → size (pos 0 -ℤ pos n) ≡ n
minus_size zero = refl
minus_size (suc n) = ap size (minus_is n)

minus_prints : {p : TokenKind → Type 0} → Prints p (λ (z : ℤ). z) (λ before. before) (λ z. mark marks.Minus next number (size z)) (grammar.mark marks.Minus then (λ minus. grammar.number then (λ n. done (pos 0 -ℤ pos n.value)))) (grammar.mark marks.Minus then (λ minus. grammar.number then (λ n. done (pos 0 -ℤ pos n.value))))
minus_prints = mark_prints marks.Minus >>= λ l r e. number_prints >>= λ n m f. done_prints _ _ (λ before. ap (λ (v : ℕ). number v (mark marks.Minus before)) (minus_size n.value)) (ap (λ (v : Numeral). pos 0 -ℤ pos v.value) f)

plus_value : (ts : List Token) (z : ℤ) → (grammar.mark marks.Plus then (λ plus. grammar.number then (λ n. done (pos n.value)))).text ts z → (n : ℕ) × (z ≡ pos n)
unfolding ◌then◌ done
plus_value ts z h = (h.rest.value.value, h.rest.rest.1)

minus_value : (ts : List Token) (z : ℤ) → (grammar.mark marks.Minus then (λ minus. grammar.number then (λ n. done (pos 0 -ℤ pos n.value)))).text ts z → (n : ℕ) × (z ≡ pos 0 -ℤ pos n)
unfolding ◌then◌ done
minus_value ts z h = (h.rest.value.value, h.rest.rest.1)

no_offset : (p : TokenKind → Type 0) (ts : List Token) → Reprint p (λ (z : ℤ). z) (λ before. before) offset_tokens offset ts (pos zero)
unfolding ◌or◌ done
no_offset p ts = record { kinds = []; shown = λ before. sym (append-nil before); fine = λ all. tt; again = λ us e. record { value = pos zero; whole = inr (inr (no_kinds us e, refl)); alike = refl } }

plus_again : (p : TokenKind → Type 0) (ts : List Token) (z : ℤ) (n : ℕ) → z ≡ pos n → Reprint p (λ (z : ℤ). z) (λ before. before) (λ z. mark marks.Plus next number (size z)) (grammar.mark marks.Plus then (λ plus. grammar.number then (λ n. done (pos n.value)))) ts z → Reprint p (λ (z : ℤ). z) (λ before. before) offset_tokens offset ts z
unfolding ◌or◌
plus_again p ts (pos zero) n e r = no_offset p ts
plus_again p ts (pos (suc m)) n e r = record { kinds = r.kinds; shown = r.shown; fine = r.fine; again = λ us k. let y = r.again us k in record { value = y.value; whole = inl y.whole; alike = y.alike } }
plus_again p ts (negsuc m) n e r = cc

no_minus : (n m : ℕ) → pos (suc m) ≡ pos 0 -ℤ pos n → ⊥
no_minus zero m e = absurd (omega (arith, ap size e))
no_minus (suc n) m e = absurd (sign (e ∙ minus_is n))
  where
    sign : pos (suc m) ≡ negsuc n → ⊥
    sign f = pos-ne-negsuc (suc m) n f

minus_again : (p : TokenKind → Type 0) (ts : List Token) (z : ℤ) (n : ℕ) → z ≡ pos 0 -ℤ pos n → Reprint p (λ (z : ℤ). z) (λ before. before) (λ z. mark marks.Minus next number (size z)) (grammar.mark marks.Minus then (λ minus. grammar.number then (λ n. done (pos 0 -ℤ pos n.value)))) ts z → Reprint p (λ (z : ℤ). z) (λ before. before) offset_tokens offset ts z
unfolding ◌or◌
minus_again p ts (pos zero) n e r = no_offset p ts
minus_again p ts (pos (suc m)) n e r = absurd (no_minus n m e)
minus_again p ts (negsuc m) n e r = record { kinds = r.kinds; shown = r.shown; fine = r.fine; again = λ us k. let y = r.again us k in record { value = y.value; whole = inr (inl y.whole); alike = y.alike } }

none_again : (p : TokenKind → Type 0) (ts : List Token) (z : ℤ) → (done (pos 0)).text ts z → Reprint p (λ (z : ℤ). z) (λ before. before) offset_tokens offset ts z
unfolding done
none_again p ts z h = subst (λ (y : ℤ). Reprint p (λ (z : ℤ). z) (λ before. before) offset_tokens offset ts y) (sym h.1) (no_offset p ts)

pub offset_prints : {p : TokenKind → Type 0} → Prints p (λ (z : ℤ). z) (λ before. before) offset_tokens offset offset
unfolding ◌or◌
offset_prints {p} = record { prints = λ ts z h. from ts z h }
  where
    rest : (ts : List Token) (z : ℤ) → (grammar.mark marks.Minus then (λ minus. grammar.number then (λ n. done (pos 0 -ℤ pos n.value)))).text ts z ⊎ (done (pos 0)).text ts z → Reprint p (λ (z : ℤ). z) (λ before. before) offset_tokens offset ts z
    rest ts z (inl h) = let v = minus_value ts z h in minus_again p ts z v.0 v.1 (minus_prints.prints ts z h)
    rest ts z (inr h) = none_again p ts z h

    from : (ts : List Token) (z : ℤ) → (grammar.mark marks.Plus then (λ plus. grammar.number then (λ n. done (pos n.value)))).text ts z ⊎ ((grammar.mark marks.Minus then (λ minus. grammar.number then (λ n. done (pos 0 -ℤ pos n.value)))).text ts z ⊎ (done (pos 0)).text ts z) → Reprint p (λ (z : ℤ). z) (λ before. before) offset_tokens offset ts z
    from ts z (inl h) = let v = plus_value ts z h in plus_again p ts z v.0 v.1 (plus_prints.prints ts z h)
    from ts z (inr h) = rest ts z h

pub lin_prints : {p : TokenKind → Type 0} → Prints p bare_lin (λ before. before) lin_tokens lin lin
lin_prints =
    (number_prints >>= λ n m e. done_prints _ _ (λ before. refl) (ap (λ (v : Numeral). record { base = None; off = pos v.value; place = nowhere }) e))
    or_prints (name_prints >>= λ s t e. offset_prints >>= λ o q f. done_prints _ _ (λ before. refl) (cc (e, f)))

pub range_prints : {p : TokenKind → Type 0} → Prints p bare_range (λ before. before) range_tokens range range
range_prints = lin_prints >>= λ l l2 e. mark_prints marks.Dots >>= λ d d2 de. lin_prints >>= λ h h2 f. done_prints _ _ (λ before. refl) (cc (e, f))

pub top_prints : {p : TokenKind → Type 0} → Prints p bare_top (λ before. before) (λ (t : Top). high_tokens t.high) top top
top_prints =
    (number_prints >>= λ n m e. done_prints _ _ (λ before. refl) (ap (λ (v : Numeral). record { high = high.Upto v.value; place = nowhere }) e))
    or_prints (key_prints keys.Max >>= λ k k2 e. done_prints _ _ (λ before. refl) refl)

pub role_range_prints : {p : TokenKind → Type 0} → Prints p bare_over (λ before. before) over_tokens role_range role_range
role_range_prints =
    (mark_prints marks.LeftBracket >>= λ a a2 ae. range_prints >>= λ r r2 e. mark_prints marks.RightBracket >>= λ b b2 be. done_prints _ _ (λ before. refl) (ap (λ (v : RangeText). Some v) e))
    or_prints (done_prints _ _ (λ before. refl) refl)

pub role_prints : {p : TokenKind → Type 0} → Prints p bare_role (λ before. before) role_tokens role role
role_prints = key_prints keys.Role >>= λ k k2 ke. name_prints >>= λ s s2 e. role_range_prints >>= λ r r2 f. done_prints _ _ (λ before. refl) (cc (e, f))

pub comma_role_prints : {p : TokenKind → Type 0} → Prints p bare_role (λ before. before) (λ r. mark marks.Comma next role_tokens r) comma_role comma_role
comma_role_prints = mark_prints marks.Comma >>= λ k k2 ke. last_prints role_prints (λ r before. refl)

shown_roles : (rs : List RoleText) (before : Kinds) → comma_tokens rs before ≡ show_all (λ (r : RoleText). mark marks.Comma next role_tokens r) rs before
shown_roles [] before = refl
shown_roles (r ∷ rs) before = shown_roles rs ((mark marks.Comma next role_tokens r) before)

pub roles_prints : {p : TokenKind → Type 0} → Prints p (map bare_role) (λ before. before) roles_tokens roles roles
roles_prints = role_prints >>= λ r r2 e. many_prints comma_role_prints >>= λ rs rs2 f. done_prints _ _ (λ before. shown_roles rs (role_tokens r before)) (cc (e, f))

-- a count 1 may have been written
one_count : (p : TokenKind → Type 0) (ts : List Token) → Reprint p (λ (n : ℕ). n) (λ before. before) count_tokens count ts 1
unfolding ◌or◌ done
one_count p ts = record { kinds = []; shown = λ before. sym (append-nil before); fine = λ all. tt; again = λ us e. record { value = 1; whole = inr (no_kinds us e, refl); alike = refl } }

abbrev written : Form ℕ
written = grammar.mark marks.LeftBracket then (λ left. one grammar.reads_count then (λ n. grammar.mark marks.RightBracket then (λ right. done n.value)))

written_prints : {p : TokenKind → Type 0} → Prints p (λ (n : ℕ). n) (λ before. before) (λ n. mark marks.LeftBracket next number n next mark marks.RightBracket) written written
written_prints = mark_prints marks.LeftBracket >>= λ a a2 ae. count_prints_one >>= λ n m e. mark_prints marks.RightBracket >>= λ b b2 be. done_prints _ _ (λ before. refl) (ap (λ (v : Numeral). v.value) e)

written_again : (p : TokenKind → Type 0) (ts : List Token) (n : ℕ) (c : Bool) → (n == 1) ≡ c → Reprint p (λ (n : ℕ). n) (λ before. before) (λ n. mark marks.LeftBracket next number n next mark marks.RightBracket) written ts n → Reprint p (λ (n : ℕ). n) (λ before. before) count_tokens count ts n
unfolding ◌or◌
written_again p ts n true e r = let is : n ≡ 1 = grind arith in subst (λ (m : ℕ). Reprint p (λ (n : ℕ). n) (λ before. before) count_tokens count ts m) (sym is) (one_count p ts)
written_again p ts n false e r = record { kinds = r.kinds; shown = λ before. rw e (r.shown before); fine = r.fine; again = λ us k. let y = r.again us k in record { value = y.value; whole = inl y.whole; alike = y.alike } }

pub count_prints : {p : TokenKind → Type 0} → Prints p (λ (n : ℕ). n) (λ before. before) count_tokens count count
unfolding ◌or◌ done
count_prints {p} = record { prints = λ ts n h. from ts n h }
  where
    from : (ts : List Token) (n : ℕ) → written.text ts n ⊎ (done 1).text ts n → Reprint p (λ (n : ℕ). n) (λ before. before) count_tokens count ts n
    from ts n (inl h) = written_again p ts n (n == 1) refl (written_prints.prints ts n h)
    from ts n (inr h) = subst (λ (m : ℕ). Reprint p (λ (n : ℕ). n) (λ before. before) count_tokens count ts m) (sym h.1) (one_count p ts)

count_front : {A : Type 0} (g : ℕ → A) → (count then (λ n. done (g n))).front []
unfolding ◌then◌ ◌or◌ one done
count_front g = inl (inr refl)

pub carried_prints : {p : TokenKind → Type 0} → Prints p (λ (c : Payload). c) (λ before. before) carried_tokens carried carried
carried_prints =
    share_prints _ _ _ _ _ _
    (flat_prints _ _ _ _ _ _ (key_prints keys.Int32 >>= λ k k2 ke. first_prints _ _ _ _ (count_front _) (count_front _) (count_prints >>= λ n m e. done_prints _ _ (λ before. refl) (ap pay.Int32 e)))
    or_prints flat_prints _ _ _ _ _ _ (key_prints keys.Uint32 >>= λ k k2 ke. first_prints _ _ _ _ (count_front _) (count_front _) (count_prints >>= λ n m e. done_prints _ _ (λ before. refl) (ap pay.Uint32 e))))
    or_prints (done_prints _ _ (λ before. refl) refl)

pub payload_prints : {p : TokenKind → Type 0} → Prints p (λ (c : Payload). c) (λ before. before) payload_tokens payload payload
payload_prints = mark_prints marks.LeftParen >>= λ a a2 ae. carried_prints >>= λ c c2 e. mark_prints marks.RightParen >>= λ b b2 be. done_prints _ _ (λ before. refl) e

pub op_prints : {p : TokenKind → Type 0} → Prints p (λ (o : Op). o) (λ before. before) op_tokens op op
op_prints =
    (key_prints keys.Min >>= λ k k2 e. done_prints _ _ (λ before. refl) refl)
    or_prints (key_prints keys.Max >>= λ k k2 e. done_prints _ _ (λ before. refl) refl)
    or_prints (key_prints keys.Sum >>= λ k k2 e. done_prints _ _ (λ before. refl) refl)

pub plain_index_prints : {p : TokenKind → Type 0} → Prints p bare_index (λ before. before) index_tokens plain_index plain_index
plain_index_prints =
    (mark_prints marks.LeftBracket >>= λ a a2 ae. lin_prints >>= λ l l2 e. mark_prints marks.RightBracket >>= λ b b2 be. done_prints _ _ (λ before. refl) (ap (λ (v : LinText). index.At v) e))
    or_prints (done_prints _ _ (λ before. refl) refl)

pub plain_end_prints : {p : TokenKind → Type 0} → Prints p bare_end (λ before. before) end_tokens plain_end plain_end
plain_end_prints = name_prints >>= λ s s2 e. plain_index_prints >>= λ i i2 f. done_prints _ _ (λ before. refl) (cc (e, f))

after_name_prints : {p : TokenKind → Type 0} (s t : Spot) → bare_spot s ≡ bare_spot t → Prints p bare_index (word s.name) bracketed_tokens (after_name s) (after_name t)
after_name_prints s t e =
    (mark_prints marks.Colon >>= λ a a2 ae. range_prints >>= λ r r2 f. done_prints _ _ (λ before. refl) (cc (e, f)))
    or_prints (offset_prints >>= λ o q f. done_prints _ _ (λ before. refl) (cc (e, f)))

pub bracketed_prints : {p : TokenKind → Type 0} → Prints p bare_index (λ before. before) bracketed_tokens bracketed bracketed
bracketed_prints =
    (number_prints >>= λ n m e. done_prints _ _ (λ before. refl) (ap (λ (v : Numeral). index.At (record { base = None; off = pos v.value; place = nowhere })) e))
    or_prints (name_prints >>= λ s t e. after_name_prints s t e)

abbrev no_bind : IndexText → Type 0
no_bind (index.Bind v r) = Unit {0}
no_bind (index.At l) = ⊥
no_bind index.Zero = ⊥

-- a value and a last mark behind it
mark_front : {A : Type 0} (m : Mark) (f : Place → Form A) → (grammar.mark m then f).front []
unfolding ◌then◌ one
mark_front m f = inl tt

last_mark_prints : {A : Type 0} {p : TokenKind → Type 0} {bare : A → A} {front : Kinds → Kinds} {show : A → Kinds → Kinds} (m : Mark) (x y : A) → ((before : Kinds) → show x before ≡ mark m (front before)) → bare x ≡ bare y
    → Prints p bare front show (done x then (λ s. grammar.mark m then (λ e. done s))) (done y then (λ s. grammar.mark m then (λ e. done s)))
last_mark_prints m x y shows alike = first_prints _ _ _ _ (mark_front m _) (mark_front m _) (mark_prints m >>= λ a b e. done_prints _ _ shows alike)

any_index_prints : {p : TokenKind → Type 0} → Prints p bare_index (λ before. before) index_tokens any_index any_index
any_index_prints =
    (mark_prints marks.LeftBracket >>= λ a a2 ae. share_prints _ _ _ _ _ _
    (flat_prints _ _ _ _ _ _ (number_prints >>= λ n n2 ne. last_mark_prints marks.RightBracket _ _ (λ before. refl) (ap (λ (v : Numeral). index.At (record { base = None; off = pos v.value; place = nowhere })) ne))
    or_prints flat_prints _ _ _ _ _ _ (name_prints >>= λ s t e. share_prints _ _ _ _ _ _
    (flat_prints _ _ _ _ _ _ (mark_prints marks.Colon >>= λ c c2 ce. flat_prints _ _ _ _ _ _ (range_prints >>= λ r r2 re. last_mark_prints marks.RightBracket _ _ (λ before. refl) (cc (e, re))))
    or_prints flat_prints _ _ _ _ _ _ (offset_prints >>= λ o o2 oe. last_mark_prints marks.RightBracket _ _ (λ before. refl) (cc (e, oe)))))))
    or_prints (done_prints _ _ (λ before. refl) refl)

any_end_prints : {p : TokenKind → Type 0} → Prints p bare_end (λ before. before) end_tokens any_end any_end
any_end_prints = name_prints >>= λ s s2 e. any_index_prints >>= λ i i2 f. done_prints _ _ (λ before. refl) (cc (e, f))

end_beside_prints : {p : TokenKind → Type 0} (i j : IndexText) → bare_index i ≡ bare_index j → Prints p bare_end (λ before. before) end_tokens (end_beside i) (end_beside j)
end_beside_prints (index.Bind v r) (index.Bind w o) e = plain_end_prints
end_beside_prints (index.Bind v r) (index.At l) e = absurd (subst no_bind e tt)
end_beside_prints (index.Bind v r) index.Zero e = absurd (subst no_bind e tt)
end_beside_prints (index.At l) (index.Bind w o) e = absurd (subst no_bind (sym e) tt)
end_beside_prints index.Zero (index.Bind w o) e = absurd (subst no_bind (sym e) tt)
end_beside_prints (index.At l) (index.At m) e = any_end_prints
end_beside_prints (index.At l) index.Zero e = any_end_prints
end_beside_prints index.Zero (index.At m) e = any_end_prints
end_beside_prints index.Zero index.Zero e = any_end_prints

message_prints : {p : TokenKind → Type 0} → Prints p bare_statement (λ before. before) statement_tokens (and_semicolon message_text) (and_semicolon message_text)
message_prints = flat_prints _ _ _ _ _ _ (name_prints >>= λ l l2 le. flat_prints _ _ _ _ _ _ (payload_prints >>= λ c c2 ce. flat_prints _ _ _ _ _ _ (key_prints keys.From >>= λ k k2 ke. flat_prints _ _ _ _ _ _ (any_end_prints >>= λ f f2 fe. flat_prints _ _ _ _ _ _ (key_prints keys.To >>= λ q q2 qe. flat_prints _ _ _ _ _ _ (end_beside_prints f.index f2.index (ap (λ (v : End). v.index) fe) >>= λ t t2 te. last_mark_prints marks.Semicolon _ _ (λ before. refl) (cc (le, ce, fe, te))))))))

item_message_prints : {p : TokenKind → Type 0} → Prints p bare_statement (λ before. before) statement_tokens (and_semicolon item_message) (and_semicolon item_message)
item_message_prints = flat_prints _ _ _ _ _ _ (name_prints >>= λ l l2 le. flat_prints _ _ _ _ _ _ (payload_prints >>= λ c c2 ce. flat_prints _ _ _ _ _ _ (key_prints keys.From >>= λ k k2 ke. flat_prints _ _ _ _ _ _ (plain_end_prints >>= λ f f2 fe. flat_prints _ _ _ _ _ _ (key_prints keys.To >>= λ q q2 qe. flat_prints _ _ _ _ _ _ (plain_end_prints >>= λ t t2 te. last_mark_prints marks.Semicolon _ _ (λ before. refl) (cc (le, ce, fe, te))))))))

compute_prints : {p : TokenKind → Type 0} → Prints p bare_statement (λ before. before) statement_tokens (and_semicolon compute_text) (and_semicolon compute_text)
compute_prints = flat_prints _ _ _ _ _ _ (key_prints keys.Compute >>= λ k k2 ke. flat_prints _ _ _ _ _ _ (name_prints >>= λ l l2 le. flat_prints _ _ _ _ _ _ (key_prints keys.At >>= λ a a2 ae. flat_prints _ _ _ _ _ _ (plain_end_prints >>= λ w w2 we. last_mark_prints marks.Semicolon _ _ (λ before. refl) (cc (le, we))))))

continue_prints : {p : TokenKind → Type 0} → Prints p bare_statement (λ before. before) statement_tokens (and_semicolon continue_text) (and_semicolon continue_text)
continue_prints = flat_prints _ _ _ _ _ _ (key_prints keys.Continue >>= λ k k2 ke. flat_prints _ _ _ _ _ _ (name_prints >>= λ l l2 le. last_mark_prints marks.Semicolon _ _ (λ before. refl) (ap (λ (v : Spot). again nowhere v) le)))

collective_prints : {p : TokenKind → Type 0} → Prints p bare_statement (λ before. before) statement_tokens (and_semicolon collective) (and_semicolon collective)
collective_prints = share_prints _ _ _ _ _ _
    (flat_prints _ _ _ _ _ _ (key_prints keys.Barrier >>= λ k k2 ke. last_mark_prints marks.Semicolon _ _ (λ before. refl) (refl))
    or_prints share_prints _ _ _ _ _ _
    (flat_prints _ _ _ _ _ _ (key_prints keys.Broadcast >>= λ k k2 ke. flat_prints _ _ _ _ _ _ (name_prints >>= λ l l2 le. flat_prints _ _ _ _ _ _ (payload_prints >>= λ c c2 ce. flat_prints _ _ _ _ _ _ (key_prints keys.From >>= λ q q2 qe. flat_prints _ _ _ _ _ _ (plain_end_prints >>= λ f f2 fe. last_mark_prints marks.Semicolon _ _ (λ before. refl) (cc (le, ce, fe)))))))
    or_prints share_prints _ _ _ _ _ _
    (flat_prints _ _ _ _ _ _ (key_prints keys.Reduce >>= λ k k2 ke. flat_prints _ _ _ _ _ _ (name_prints >>= λ l l2 le. flat_prints _ _ _ _ _ _ (payload_prints >>= λ c c2 ce. flat_prints _ _ _ _ _ _ (key_prints keys.With >>= λ q q2 qe. flat_prints _ _ _ _ _ _ (op_prints >>= λ o o2 oe. flat_prints _ _ _ _ _ _ (key_prints keys.To >>= λ w w2 we. flat_prints _ _ _ _ _ _ (plain_end_prints >>= λ t t2 te. last_mark_prints marks.Semicolon _ _ (λ before. refl) (cc (le, ce, oe, te)))))))))
    or_prints flat_prints _ _ _ _ _ _ (key_prints keys.Allreduce >>= λ k k2 ke. flat_prints _ _ _ _ _ _ (name_prints >>= λ l l2 le. flat_prints _ _ _ _ _ _ (payload_prints >>= λ c c2 ce. flat_prints _ _ _ _ _ _ (key_prints keys.With >>= λ q q2 qe. flat_prints _ _ _ _ _ _ (op_prints >>= λ o o2 oe. last_mark_prints marks.Semicolon _ _ (λ before. refl) (cc (le, ce, oe))))))))))

-- lists of statements and of branches
shown_statements : (list : List PlainStatement) (before : Kinds) → statements_tokens (statements_of list) before ≡ show_all statement_tokens list before
shown_statements [] before = refl
shown_statements (s ∷ list) before = shown_statements list (statement_tokens s before)

alike_statements : (list : List PlainStatement) → bare_statements (statements_of list) ≡ statements_of (map bare_statement list)
alike_statements [] = refl
alike_statements (s ∷ list) = ap (λ (l : PlainStatements). more (bare_statement s) l) (alike_statements list)

abbrev or_block_tokens : PlainBlock → Kinds → Kinds
or_block_tokens b before = block_tokens b (key keys.Or before)

shown_branches : (bs : List PlainBlock) (before : Kinds) → or_tokens (branches_of bs) before ≡ show_all or_block_tokens bs before
shown_branches [] before = refl
shown_branches (b ∷ bs) before = shown_branches bs (or_block_tokens b before)

alike_branches : (bs : List PlainBlock) → bare_branches (branches_of bs) ≡ branches_of (map bare_block bs)
alike_branches [] = refl
alike_branches (b ∷ bs) = ap (λ (l : PlainBranches). branch nowhere (bare_statements b.list) l) (alike_branches bs)

braces_prints : {p : TokenKind → Type 0} {inside : Form PlainStatement} → Prints p bare_statement (λ before. before) statement_tokens inside inside → Prints p bare_block (λ before. before) block_tokens (braces inside) (braces inside)
braces_prints h = mark_prints marks.LeftBrace >>= λ a a2 ae. many_prints h >>= λ l l2 e. mark_prints marks.RightBrace >>= λ b b2 be. done_prints _ _
    (λ before. ap (λ (k : Kinds). mark marks.RightBrace k) (shown_statements l (mark marks.LeftBrace before)))
    (ap (λ (v : PlainStatements). record { place = nowhere; list = v }) (alike_statements l ∙ ap statements_of e ∙ sym (alike_statements l2)))

item_prints : {p : TokenKind → Type 0} → Prints p bare_statement (λ before. before) statement_tokens item item
item_prints = item_message_prints or_prints compute_prints

foreach_prints : {p : TokenKind → Type 0} → Prints p bare_statement (λ before. before) statement_tokens foreach_text foreach_text
foreach_prints = key_prints keys.Foreach >>= λ k k2 ke. mark_prints marks.LeftParen >>= λ a a2 ae. name_prints >>= λ v v2 ve. mark_prints marks.Colon >>= λ c c2 ce. range_prints >>= λ r r2 re. mark_prints marks.RightParen >>= λ b b2 be. braces_prints item_prints >>= λ i i2 ie. done_prints _ _ (λ before. refl)
    (let list : bare_statements i.list ≡ bare_statements i2.list = ap (λ (w : PlainBlock). w.list) ie in cc (ve, re, list))

module _ {p : TokenKind → Type 0} {block : Form PlainBlock} (h : Prints p bare_block (λ before. before) block_tokens block block) where
  rec_prints : Prints p bare_statement (λ before. before) statement_tokens (rec_text block) (rec_text block)
  rec_prints = key_prints keys.Rec >>= λ k k2 ke. name_prints >>= λ n n2 ne. h >>= λ b b2 be. done_prints _ _ (λ before. refl)
      (let list : bare_statements b.list ≡ bare_statements b2.list = ap (λ (w : PlainBlock). w.list) be in cc (ne, list))

  or_block_prints : Prints p bare_block (λ before. before) or_block_tokens (or_block block) (or_block block)
  or_block_prints = key_prints keys.Or >>= λ k k2 ke. last_prints h (λ b before. refl)

  choice_prints : Prints p bare_statement (λ before. before) statement_tokens (choice_text block) (choice_text block)
  choice_prints = key_prints keys.Choice >>= λ k k2 ke. name_prints >>= λ n n2 ne. key_prints keys.At >>= λ a a2 ae. plain_end_prints >>= λ w w2 we. h >>= λ b b2 be. or_block_prints >>= λ c c2 ce. many_prints or_block_prints >>= λ cs cs2 cse. done_prints _ _
      (λ before. shown_branches cs _)
      (let first : bare_statements b.list ≡ bare_statements b2.list = ap (λ (v : PlainBlock). v.list) be in
      let second : bare_statements c.list ≡ bare_statements c2.list = ap (λ (v : PlainBlock). v.list) ce in
      let others : bare_branches (branches_of cs) ≡ bare_branches (branches_of cs2) = alike_branches cs ∙ ap branches_of cse ∙ sym (alike_branches cs2) in
      cc (ne, we, first, second, others))

  statement_prints : Prints p bare_statement (λ before. before) statement_tokens (statement block) (statement block)
  statement_prints = message_prints or_prints foreach_prints or_prints rec_prints or_prints continue_prints or_prints choice_prints or_prints compute_prints or_prints collective_prints

  file_prints : Prints p bare_file (λ before. before) (λ (f : PlainFile). head_tokens f next block_tokens f.body) (file block) (file block)
  file_prints = key_prints keys.Const >>= λ a a2 ae. name_prints >>= λ c c2 ce. mark_prints marks.Equals >>= λ d d2 de. number_prints >>= λ l l2 le. mark_prints marks.Dots >>= λ e e2 ee. top_prints >>= λ t t2 te. mark_prints marks.Semicolon >>= λ f f2 fe. key_prints keys.Global >>= λ g g2 ge. key_prints keys.Protocol >>= λ i i2 ie. name_prints >>= λ n n2 ne. mark_prints marks.LeftParen >>= λ j j2 je. roles_prints >>= λ r r2 re. mark_prints marks.RightParen >>= λ k k2 ke. h >>= λ b b2 be. done_prints _ _ (λ before. refl)
      (let low : l.value ≡ l2.value = ap (λ (v : Numeral). v.value) le in
      let high : t.high ≡ t2.high = ap (λ (v : Top). v.high) te in
      cc (ce, low, high, ne, re, be))

block_prints : {p : TokenKind → Type 0} (n : ℕ) → Prints p bare_block (λ before. before) block_tokens (block n) (block n)
unfolding block
block_prints zero = mark_prints marks.LeftBrace >>= λ a a2 ae. mark_prints marks.RightBrace >>= λ b b2 be. done_prints _ _ (λ before. refl) refl
block_prints (suc n) = braces_prints (statement_prints (block_prints n))

-- the file of these tokens, printed anew
pub file_again : (p : TokenKind → Type 0) (ts : List Token) (f : PlainFile) → grammar.IsFile ts f → AllOf p (kinds_of ts) → AllOf p (file_tokens f) × ((us : List Token) → kinds_of us ≡ file_tokens f → (g : PlainFile) × grammar.IsFile us g × (bare_file f ≡ bare_file g))
file_again p ts f h all =
    let r = (file_prints (block_prints {p = p} h.0)).prints ts f h.1 in
    let same : file_tokens f ≡ r.kinds = r.shown [] in
    (subst (AllOf p) (sym same) (r.fine all), λ us e. let y = r.again us (e ∙ same) in (y.value, (h.0, y.whole), y.alike))

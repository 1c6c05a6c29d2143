-- What the grammar says of the tree of a file with calls.
use Rattle.std.proofs.Common.{◌≡◌, ℕ, zero, suc, true, ◌&&◌, List, [], ◌∷◌, inl, inr, refl, sym, ap, ap₂, subst, ◌∙◌}
use Rattle.pb_text.specs.declared.token.Token.{Token}
use Rattle.pb_text.specs.declared.place.Place.{Place}
use Rattle.pb_text.specs.declared.place.Spot.{Spot}
use Rattle.pb_syntax.specs.declared.tree.End.{End}
use Rattle.pb_syntax.specs.Form.{Form, done, many, ◌or◌, ManyText}
use Rattle.pb_syntax.specs.Form.{◌>>=◌ as ◌then◌}
use Rattle.pb_syntax.specs.Tree.{PlainStatement, compute}
use Rattle.pb_syntax.specs.Grammar.{message_text, item_message, compute_text, collective, continue_text, and_semicolon, item}
use Rattle.pb_do_syntax.specs.Calls.{Call, PlainCallBlock, PlainSub, calls_of, branches_of}
use Rattle.pb_do_grammar.specs.Grammar.{simple, item_call, braces, foreach_text, rec_text, or_block, choice_text, call_text, statement, block, subprotocol, file}
use Rattle.pb_do_laws.specs.Made.{has_no_braces, can_be_item, is_item, are_items, is_made, are_made, branches_are_made, subs_are_made, IsMade}
use Rattle.pb_do_made.specs.Laws.{FilesAreMade}

-- each value of which a form has a text is as P says
record Gives {A : Type 0} (P : A → Type 0) (a : Form A) : Type 0 where
  all : (ts : List Token) (x : A) → a.text ts x → P x

done_gives : {A : Type 0} {P : A → Type 0} (x : A) → P x → Gives P (done x)
unfolding done
done_gives {P = P} x p = record { all = λ ts y h. subst P (sym h.1) p }

then_gives : {A B : Type 0} {Q : A → Type 0} {P : B → Type 0} {a : Form A} {f : A → Form B} → Gives Q a → ((x : A) → Q x → Gives P (f x)) → Gives P (a then f)
unfolding ◌then◌
then_gives g k = record { all = λ ts y h. (k h.value (g.all h.head h.value h.whole)).all h.tail y h.rest }

-- whatever the first part stands for
next_gives : {A B : Type 0} {P : B → Type 0} (a : Form A) {f : A → Form B} → ((x : A) → Gives P (f x)) → Gives P (a then f)
unfolding ◌then◌
next_gives a k = record { all = λ ts y h. (k h.value).all h.tail y h.rest }

so_gives : {A : Type 0} {Q P : A → Type 0} {a : Form A} → ((x : A) → Q x → P x) → Gives Q a → Gives P a
so_gives k g = record { all = λ ts x h. k x (g.all ts x h) }

or_gives : {A : Type 0} {P : A → Type 0} {a b : Form A} → Gives P a → Gives P b → Gives P (a or b)
unfolding ◌or◌
or_gives g k = record { all = λ ts x h. elim h [ inl y ↦ g.all ts x y | inr y ↦ k.all ts x y ] }

abbrev Each : {A : Type 0} → (A → Type 0) → List A → Type 0
Each P [] = Unit {0}
Each P (x ∷ xs) = P x × Each P xs

many_each : {A : Type 0} (P : A → Type 0) (a : Form A) → Gives P a → (ts : List Token) (xs : List A) → ManyText a.text ts xs → Each P xs
many_each P a g ts [] h = tt
many_each P a g ts (x ∷ xs) h = (g.all h.0 x h.3, many_each P a g h.1 xs h.4)

many_gives : {A : Type 0} {P : A → Type 0} {a : Form A} → Gives P a → Gives (Each P) (many a)
unfolding many
many_gives {P = P} {a = a} g = record { all = many_each P a g }

-- ---- lists of statements, branches and subprotocols

abbrev Made : Call → Type 0
Made s = is_made s ≡ true

abbrev MadeBlock : PlainCallBlock → Type 0
MadeBlock b = are_made b.list ≡ true

abbrev MadeSub : PlainSub → Type 0
MadeSub s = are_made s.body.list ≡ true

all_made : (xs : List Call) → Each Made xs → are_made (calls_of xs) ≡ true
all_made [] h = refl
all_made (x ∷ xs) h = ap₂ (λ u v. u && v) h.0 (all_made xs h.1)

all_items : (xs : List Call) → Each (λ s. is_item s ≡ true) xs → are_items (calls_of xs) ≡ true
all_items [] h = refl
all_items (x ∷ xs) h = ap₂ (λ u v. u && v) h.0 (all_items xs h.1)

all_branches : (xs : List PlainCallBlock) → Each MadeBlock xs → branches_are_made (branches_of xs) ≡ true
all_branches [] h = refl
all_branches (x ∷ xs) h = ap₂ (λ u v. u && v) h.0 (all_branches xs h.1)

all_subs : (xs : List PlainSub) → Each MadeSub xs → subs_are_made xs ≡ true
all_subs [] h = refl
all_subs (x ∷ xs) h = ap₂ (λ u v. u && v) h.0 (all_subs xs h.1)

-- ---- statements without braces

abbrev Simple : PlainStatement → Type 0
Simple s = has_no_braces s ≡ true

abbrev Item : PlainStatement → Type 0
Item s = can_be_item s ≡ true

semicolon_gives : {P : PlainStatement → Type 0} {what : Form PlainStatement} → Gives P what → Gives P (and_semicolon what)
semicolon_gives g = then_gives g (λ s p. next_gives _ (λ semicolon. done_gives s p))

compute_is : {P : PlainStatement → Type 0} → ((at : Place) (k : Spot) (who : End) → P (compute at k who)) → Gives P compute_text
compute_is p = next_gives _ (λ start. next_gives _ (λ kernel. next_gives _ (λ at_key. next_gives _ (λ who. done_gives _ (p start kernel who)))))

item_message_is : Gives Item item_message
item_message_is = next_gives _ (λ label. next_gives _ (λ carries. next_gives _ (λ from_key. next_gives _ (λ from. next_gives _ (λ to_key. next_gives _ (λ to. done_gives _ refl))))))

item_is : Gives Item item
item_is = or_gives (semicolon_gives item_message_is) (semicolon_gives (compute_is (λ at k who. refl)))

message_is : Gives Simple message_text
message_is = next_gives _ (λ label. next_gives _ (λ carries. next_gives _ (λ from_key. next_gives _ (λ from. next_gives _ (λ to_key. next_gives _ (λ to. done_gives _ refl))))))

continue_is : Gives Simple continue_text
continue_is = next_gives _ (λ start. next_gives _ (λ of. done_gives _ refl))

collective_is : Gives Simple collective
collective_is =
    or_gives (next_gives _ (λ start. done_gives _ refl))
    (or_gives (next_gives _ (λ start. next_gives _ (λ label. next_gives _ (λ carries. next_gives _ (λ from_key. next_gives _ (λ from. done_gives _ refl))))))
    (or_gives (next_gives _ (λ start. next_gives _ (λ label. next_gives _ (λ carries. next_gives _ (λ with_key. next_gives _ (λ by. next_gives _ (λ to_key. next_gives _ (λ to. done_gives _ refl))))))))
    (next_gives _ (λ start. next_gives _ (λ label. next_gives _ (λ carries. next_gives _ (λ with_key. next_gives _ (λ by. done_gives _ refl))))))))

-- ---- the forms with calls

simple_is : {what : Form PlainStatement} → Gives Simple what → Gives Made (simple what)
simple_is g = then_gives (semicolon_gives g) (λ s h. done_gives _ h)

item_call_is : Gives (λ s. is_item s ≡ true) item_call
item_call_is = then_gives item_is (λ s h. done_gives _ h)

braces_gives : {P : Call → Type 0} {inside : Form Call} → Gives P inside → Gives (λ (b : PlainCallBlock). (xs : List Call) × (b.list ≡ calls_of xs) × Each P xs) (braces inside)
braces_gives g = next_gives _ (λ open_brace. then_gives (many_gives g) (λ list each. next_gives _ (λ close_brace. done_gives _ (list, refl, each))))

foreach_is : Gives Made foreach_text
foreach_is = next_gives _ (λ start. next_gives _ (λ left. next_gives _ (λ var. next_gives _ (λ colon. next_gives _ (λ over. next_gives _ (λ right. then_gives (braces_gives item_call_is) (λ items h. done_gives _ (ap are_items h.1 ∙ all_items h.0 h.2))))))))

call_is : Gives Made call_text
call_is = next_gives _ (λ start. next_gives _ (λ of. next_gives _ (λ left. next_gives _ (λ first. next_gives _ (λ others. next_gives _ (λ right. next_gives _ (λ semicolon. done_gives _ refl)))))))

module _ (inside : Form PlainCallBlock) (g : Gives MadeBlock inside) where
  rec_is : Gives Made (rec_text inside)
  rec_is = next_gives _ (λ start. next_gives _ (λ of. then_gives g (λ body h. done_gives _ h)))

  or_block_is : Gives MadeBlock (or_block inside)
  or_block_is = next_gives _ (λ or_key. g)

  choice_is : Gives Made (choice_text inside)
  choice_is = next_gives _ (λ start. next_gives _ (λ kernel. next_gives _ (λ at_key. next_gives _ (λ who. then_gives g (λ first f. then_gives or_block_is (λ second s. then_gives (many_gives or_block_is) (λ others h. done_gives _ (all_branches (first ∷ second ∷ others) (f, (s, h))))))))))

  statement_is : Gives Made (statement inside)
  statement_is =
      or_gives (simple_is message_is)
      (or_gives foreach_is
      (or_gives rec_is
      (or_gives (simple_is continue_is)
      (or_gives choice_is
      (or_gives (simple_is (compute_is (λ at k who. refl)))
      (or_gives call_is (simple_is collective_is)))))))

  sub_is : Gives MadeSub (subprotocol inside)
  sub_is = next_gives _ (λ start. next_gives _ (λ of. next_gives _ (λ left. next_gives _ (λ first. next_gives _ (λ others. next_gives _ (λ right. then_gives g (λ body h. done_gives _ h)))))))

block_is : (n : ℕ) → Gives MadeBlock (block n)
unfolding block
block_is zero = next_gives _ (λ open_brace. next_gives _ (λ close_brace. done_gives _ refl))
block_is (suc n) = so_gives (λ b h. ap are_made h.1 ∙ all_made h.0 h.2) (braces_gives (statement_is (block n) (block_is n)))

file_is : (n : ℕ) → Gives IsMade (file (block n))
file_is n =
    next_gives _ (λ a. next_gives _ (λ b. next_gives _ (λ c. next_gives _ (λ d. next_gives _ (λ e. next_gives _ (λ f. next_gives _ (λ g.
    then_gives (many_gives (sub_is (block n) (block_is n))) (λ subs all. next_gives _ (λ h. next_gives _ (λ i. next_gives _ (λ j. next_gives _ (λ k. next_gives _ (λ l. next_gives _ (λ right.
    then_gives (block_is n) (λ body made. done_gives _ (record { subs = all_subs subs all; body = made }))))))))))))))))

pub files_are_made : FilesAreMade
files_are_made ts f is = (file_is is.0).all ts f is.1

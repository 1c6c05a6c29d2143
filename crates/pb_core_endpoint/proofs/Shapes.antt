-- What the grammar says of a file's tree.
use Rattle.std.proofs.Common.{◌≡◌, ◌≢◌, ℕ, zero, suc, true, false, ◌&&◌, not, List, [], ◌∷◌, inl, inr, refl, sym, ap, ap₂, subst, ◌∙◌}
use Rattle.pb_text.specs.declared.token.Token.{Token}
use Rattle.pb_syntax.specs.declared.tree.End.{End}
use Rattle.pb_syntax.specs.declared.tree.RoleText.{RoleText}
use Rattle.pb_syntax.specs.Form.{Form, done, many, ◌or◌, ManyText}
use Rattle.pb_syntax.specs.Form.{◌>>=◌ as ◌then◌}
use Rattle.pb_text.specs.declared.place.Place.{Place}
use Rattle.pb_text.specs.declared.place.Spot.{Spot}
use Rattle.pb_syntax.specs.Tree.{PlainStatement, compute, PlainBlock, statements_of, branches_of}
use Rattle.pb_syntax.specs.Grammar.{roles, plain_index, plain_end, message_text, item_message, compute_text, collective, and_semicolon, braces, item, foreach_text, rec_text, continue_text, or_block, choice_text, statement, block, file}
use Rattle.pb_core_language.specs.Meaning.{binds}
use Rattle.pb_core_endpoint.specs.File.{is_item, are_items, has_shape, have_shape, branches_have_shape, IsShaped, FilesAreShaped}

-- each value of which a form has a text is as P says
record Gives {A : Type 0} (P : A → Type 0) (a : Form A) : Type 0 where
  all : (ts : List Token) (x : A) → a.text ts x → P x

done_gives : {A : Type 0} {P : A → Type 0} (x : A) → P x → Gives P (done x)
unfolding done
done_gives {P = P} x p = record { all = λ ts y h. subst P (sym h.1) p }

then_gives : {A B : Type 0} {Q : A → Type 0} {P : B → Type 0} {a : Form A} {f : A → Form B} → Gives Q a → ((x : A) → Q x → Gives P (f x)) → Gives P (a then f)
unfolding ◌then◌
then_gives g k = record { all = λ ts y h. (k h.value (g.all h.head h.value h.whole)).all h.tail y h.rest }

-- whatever the first part stands for
next_gives : {A B : Type 0} {P : B → Type 0} (a : Form A) {f : A → Form B} → ((x : A) → Gives P (f x)) → Gives P (a then f)
unfolding ◌then◌
next_gives a k = record { all = λ ts y h. (k h.value).all h.tail y h.rest }

so_gives : {A : Type 0} {Q P : A → Type 0} {a : Form A} → ((x : A) → Q x → P x) → Gives Q a → Gives P a
so_gives k g = record { all = λ ts x h. k x (g.all ts x h) }

or_gives : {A : Type 0} {P : A → Type 0} {a b : Form A} → Gives P a → Gives P b → Gives P (a or b)
unfolding ◌or◌
or_gives g k = record { all = λ ts x h. elim h [ inl y ↦ g.all ts x y | inr y ↦ k.all ts x y ] }

abbrev Each : {A : Type 0} → (A → Type 0) → List A → Type 0
Each P [] = Unit {0}
Each P (x ∷ xs) = P x × Each P xs

many_each : {A : Type 0} (P : A → Type 0) (a : Form A) → Gives P a → (ts : List Token) (xs : List A) → ManyText a.text ts xs → Each P xs
many_each P a g ts [] h = tt
many_each P a g ts (x ∷ xs) h = (g.all h.0 x h.3, many_each P a g h.1 xs h.4)

many_gives : {A : Type 0} {P : A → Type 0} {a : Form A} → Gives P a → Gives (Each P) (many a)
unfolding many
many_gives {P = P} {a = a} g = record { all = many_each P a g }

-- ---- lists of statements and branches

abbrev Shaped : PlainStatement → Type 0
Shaped s = has_shape s ≡ true

abbrev ShapedBlock : PlainBlock → Type 0
ShapedBlock b = have_shape b.list ≡ true

all_shaped : (xs : List PlainStatement) → Each Shaped xs → have_shape (statements_of xs) ≡ true
all_shaped [] h = refl
all_shaped (x ∷ xs) h = ap₂ (λ u v. u && v) h.0 (all_shaped xs h.1)

all_items : (xs : List PlainStatement) → Each (λ s. is_item s ≡ true) xs → are_items (statements_of xs) ≡ true
all_items [] h = refl
all_items (x ∷ xs) h = ap₂ (λ u v. u && v) h.0 (all_items xs h.1)

all_branches : (xs : List PlainBlock) → Each ShapedBlock xs → branches_have_shape (branches_of xs) ≡ true
all_branches [] h = refl
all_branches (x ∷ xs) h = ap₂ (λ u v. u && v) h.0 (all_branches xs h.1)

-- ---- the forms

plain_index_binds : Gives (λ x. binds x ≡ false) plain_index
plain_index_binds = or_gives (next_gives _ (λ left. next_gives _ (λ at. next_gives _ (λ right. done_gives _ refl)))) (done_gives _ refl)

plain_end_binds : Gives (λ (e : End). binds e.index ≡ false) plain_end
plain_end_binds = next_gives _ (λ of. then_gives plain_index_binds (λ at no_binding. done_gives _ no_binding))

item_message_is : Gives (λ s. is_item s ≡ true) item_message
item_message_is = next_gives _ (λ label. next_gives _ (λ carries. next_gives _ (λ from_key. then_gives plain_end_binds (λ from f. next_gives _ (λ to_key. then_gives plain_end_binds (λ to t. done_gives _ (ap₂ (λ u v. not u && not v) f t)))))))

compute_is : {P : PlainStatement → Type 0} → ((at : Place) (k : Spot) (who : End) → P (compute at k who)) → Gives P compute_text
compute_is p = next_gives _ (λ start. next_gives _ (λ kernel. next_gives _ (λ at_key. next_gives _ (λ who. done_gives _ (p start kernel who)))))

semicolon_gives : {P : PlainStatement → Type 0} {what : Form PlainStatement} → Gives P what → Gives P (and_semicolon what)
semicolon_gives g = then_gives g (λ s p. next_gives _ (λ semicolon. done_gives s p))

braces_gives : {P : PlainStatement → Type 0} {inside : Form PlainStatement} → Gives P inside → Gives (λ (b : PlainBlock). (xs : List PlainStatement) × (b.list ≡ statements_of xs) × Each P xs) (braces inside)
braces_gives g = next_gives _ (λ open_brace. then_gives (many_gives g) (λ list each. next_gives _ (λ close_brace. done_gives _ (list, refl, each))))

item_is : Gives (λ s. is_item s ≡ true) item
item_is = or_gives (semicolon_gives item_message_is) (semicolon_gives (compute_is (λ at k who. refl)))

foreach_is : Gives Shaped foreach_text
foreach_is = next_gives _ (λ start. next_gives _ (λ left. next_gives _ (λ var. next_gives _ (λ colon. next_gives _ (λ over. next_gives _ (λ right. then_gives (braces_gives item_is) (λ items h. done_gives _ (ap are_items h.1 ∙ all_items h.0 h.2))))))))

message_is : Gives Shaped message_text
message_is = next_gives _ (λ label. next_gives _ (λ carries. next_gives _ (λ from_key. next_gives _ (λ from. next_gives _ (λ to_key. next_gives _ (λ to. done_gives _ refl))))))

collective_is : Gives Shaped collective
collective_is =
    or_gives (next_gives _ (λ start. done_gives _ refl))
    (or_gives (next_gives _ (λ start. next_gives _ (λ label. next_gives _ (λ carries. next_gives _ (λ from_key. next_gives _ (λ from. done_gives _ refl))))))
    (or_gives (next_gives _ (λ start. next_gives _ (λ label. next_gives _ (λ carries. next_gives _ (λ with_key. next_gives _ (λ by. next_gives _ (λ to_key. next_gives _ (λ to. done_gives _ refl))))))))
    (next_gives _ (λ start. next_gives _ (λ label. next_gives _ (λ carries. next_gives _ (λ with_key. next_gives _ (λ by. done_gives _ refl))))))))

module _ (inside : Form PlainBlock) (g : Gives ShapedBlock inside) where
  rec_is : Gives Shaped (rec_text inside)
  rec_is = next_gives _ (λ start. next_gives _ (λ of. then_gives g (λ body h. done_gives _ h)))

  or_block_is : Gives ShapedBlock (or_block inside)
  or_block_is = next_gives _ (λ or_key. g)

  choice_is : Gives Shaped (choice_text inside)
  choice_is = next_gives _ (λ start. next_gives _ (λ kernel. next_gives _ (λ at_key. next_gives _ (λ who. then_gives g (λ first f. then_gives or_block_is (λ second s. then_gives (many_gives or_block_is) (λ others h. done_gives _ (all_branches (first ∷ second ∷ others) (f, (s, h))))))))))

  continue_is : Gives Shaped continue_text
  continue_is = next_gives _ (λ start. next_gives _ (λ of. done_gives _ refl))

  statement_is : Gives Shaped (statement inside)
  statement_is =
      or_gives (semicolon_gives message_is)
      (or_gives foreach_is
      (or_gives rec_is
      (or_gives (semicolon_gives continue_is)
      (or_gives choice_is
      (or_gives (semicolon_gives (compute_is (λ at k who. refl))) (semicolon_gives collective_is))))))

block_is : (n : ℕ) → Gives ShapedBlock (block n)
unfolding block
block_is zero = next_gives _ (λ open_brace. next_gives _ (λ close_brace. done_gives _ refl))
block_is (suc n) = so_gives (λ b h. ap have_shape h.1 ∙ all_shaped h.0 h.2) (braces_gives (statement_is (block n) (block_is n)))

roles_are : Gives (λ (rs : List RoleText). rs ≢ []) roles
roles_are = next_gives _ (λ first. next_gives _ (λ others. done_gives _ (λ e. cc)))

file_is : (n : ℕ) → Gives IsShaped (file (block n))
file_is n =
    next_gives _ (λ a. next_gives _ (λ b. next_gives _ (λ c. next_gives _ (λ d. next_gives _ (λ e. next_gives _ (λ f. next_gives _ (λ g. next_gives _ (λ h. next_gives _ (λ i. next_gives _ (λ j. next_gives _ (λ k.
    then_gives roles_are (λ list some. next_gives _ (λ right. then_gives (block_is n) (λ body shaped. done_gives _ (record { roles = some; body = shaped })))))))))))))))

pub files_are_shaped : FilesAreShaped
files_are_shaped ts f is = (file_is is.0).all ts f is.1

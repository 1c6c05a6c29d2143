-- What stands behind a part of a line is no longer than the text.
use Rattle.std.proofs.Common.{◌≡◌, ℕ, ◌+◌, ◌-◌, ◌*◌, ◌^◌, ◌<◌, ◌≤◌, Bool, true, false, cond, List, [], ◌∷◌, length, take, drop, Option, Some, None, IfSome, refl, ap, subst, ◌∙◌, arith, length-append, length-drop}
use Rattle.std.specs.Prelude.{nat_eq, nat_le, nat_lt, codes, ◌&&◌}
use Rattle.std.specs.Char.{is_ascii_digit}
use Rattle.std.specs.List.{prefix_len}
use Rattle.pb_text_read.specs.Fronts.{◌>>=◌, strip, after, digits_below}
use Rattle.pb_text_read.proofs.Strips.{strip_sound}
use Rattle.pb_draw_log.specs.Parts.{number_at, name_at, goes_on_name, word_by, word_at, below_zero}
use Rattle.pb_draw_log.specs.Heads.{named_at, sent_at, taken_at, chosen_at, deed_at, head_at}
use Rattle.pb_draw_log.specs.Lines.{IsLine, HasWords, no_word, word, WordsOf}
use Rattle.pb_draw_log.specs.declared.entry.Deed.{Deed}
use Rattle.pb_draw_log.specs.declared.entry.Deed.TheVariants.{Choose, Run, Send, Recv, Enter, Leave}
use Rattle.pb_draw_log.specs.declared.entry.Head.{Head}
use Rattle.pb_draw_log.specs.declared.line.Line.{Line}

-- what was read leaves at most n bytes
abbrev pub Leaves : {A : Type 0} → ℕ → Option (A × List ℕ) → Type 0
Leaves n o = IfSome o (λ x. length x.1 ≤ n)

-- a rest of at most n bytes
abbrev pub Rests : ℕ → Option (List ℕ) → Type 0
Rests n o = IfSome o (λ r. length r ≤ n)

leaves_less : {A : Type 0} (m n : ℕ) (o : Option (A × List ℕ)) → m ≤ n → Leaves m o → Leaves n o
leaves_less m n None le h = h
leaves_less m n (Some x) le h = omega (arith, le, h)

then_leaves : {A B : Type 0} (n : ℕ) (o : Option (A × List ℕ)) (f : A × List ℕ → Option (B × List ℕ)) → Leaves n o
    → ((x : A × List ℕ) → length x.1 ≤ n → Leaves n (f x)) → Leaves n (o >>= f)
then_leaves n None f h k = tt
then_leaves n (Some x) f h k = k x h

rest_leaves : {B : Type 0} (n : ℕ) (o : Option (List ℕ)) (f : List ℕ → Option (B × List ℕ)) → Rests n o
    → ((r : List ℕ) → length r ≤ n → Leaves n (f r)) → Leaves n (o >>= f)
rest_leaves n None f h k = tt
rest_leaves n (Some x) f h k = k x h

pub strip_length : (p text rest : List ℕ) → strip p text ≡ Some rest → length text ≡ length p + length rest
strip_length p text rest h = ap length (strip_sound p text rest h) ∙ length-append p rest

strip_rests : (p text : List ℕ) (n : ℕ) → length text ≤ n → Rests n (strip p text)
strip_rests p text n le = go (strip p text) refl
  where
    go : (o : Option (List ℕ)) → strip p text ≡ o → Rests n o
    go None e = tt
    go (Some r) e = omega (arith, strip_length p text r e, le)

digits_leave : (limit k : ℕ) (cs : List ℕ) → Leaves (length cs) (digits_below limit k cs)
digits_leave limit k [] = omega arith
digits_leave limit k (c ∷ cs) = go (is_ascii_digit c) (nat_lt (10 * k + (c - 48)) limit) (digits_leave limit (10 * k + (c - 48)) cs)
  where
    go : (a b : Bool) → Leaves (length cs) (digits_below limit (10 * k + (c - 48)) cs) → Leaves (length (c ∷ cs)) (cond a (cond b (digits_below limit (10 * k + (c - 48)) cs) None) (Some (k, c ∷ cs)))
    go true true h = leaves_less (length cs) (length (c ∷ cs)) (digits_below limit (10 * k + (c - 48)) cs) (omega arith) h
    go true false h = tt
    go false b h = omega arith

number_leaves : (text : List ℕ) (n : ℕ) → length text ≤ n → Leaves n (number_at text)
number_leaves [] n le = tt
number_leaves (c ∷ cs) n le = go (nat_eq c 48) (is_ascii_digit c)
  where
    go : (a b : Bool) → Leaves n (cond a (Some (0, cs)) (cond b (digits_below (2 ^ 32) (c - 48) cs) None))
    go true b = omega (arith, le)
    go false true = leaves_less (length cs) n (digits_below (2 ^ 32) (c - 48) cs) (omega (arith, le)) (digits_leave (2 ^ 32) (c - 48) cs)
    go false false = tt

name_leaves : (text : List ℕ) (n : ℕ) → length text ≤ n → Leaves n (name_at text)
name_leaves [] n le = tt
name_leaves (c ∷ cs) n le = go (is_ascii_digit c) (nat_le 1 len && nat_le len 64)
  where
    len : ℕ
    len = prefix_len goes_on_name (c ∷ cs)

    go : (a b : Bool) → Leaves n (cond a None (cond b (Some (take len (c ∷ cs), drop len (c ∷ cs))) None))
    go true b = tt
    go false true = omega (arith, le, length-drop len (c ∷ cs))
    go false false = tt

named_leaves : (rank : ℕ) (deed : Deed) (text : List ℕ) (n : ℕ) → length text ≤ n → Leaves n (named_at rank deed text)
named_leaves rank deed text n le = then_leaves n (name_at text) _ (name_leaves text n le) (λ x h. h)

sent_leaves : (rank : ℕ) (text : List ℕ) (n : ℕ) → length text ≤ n → Leaves n (sent_at rank text)
sent_leaves rank text n le = then_leaves n (number_at text) _ (number_leaves text n le) (λ x h.
    rest_leaves n (strip (codes " ") x.1) _ (strip_rests (codes " ") x.1 n h) (λ r k. named_leaves rank (Send x.0) r n k))

taken_leaves : (rank : ℕ) (text : List ℕ) (n : ℕ) → length text ≤ n → Leaves n (taken_at rank text)
taken_leaves rank text n le = then_leaves n (number_at text) _ (number_leaves text n le) (λ x h.
    rest_leaves n (strip (codes " ") x.1) _ (strip_rests (codes " ") x.1 n h) (λ r k. named_leaves rank (Recv x.0) r n k))

chosen_leaves : (rank : ℕ) (text : List ℕ) (n : ℕ) → length text ≤ n → Leaves n (chosen_at rank text)
chosen_leaves rank text n le = then_leaves n (name_at text) _ (name_leaves text n le) (λ x h.
    rest_leaves n (strip (codes " ") x.1) _ (strip_rests (codes " ") x.1 n h) (λ r k.
    then_leaves n (number_at r) _ (number_leaves r n k) (λ y l. l)))

after_leaves : {A : Type 0} (n : ℕ) (o : Option (List ℕ)) (f : List ℕ → Option (A × List ℕ)) (other : Option (A × List ℕ)) → Rests n o
    → ((r : List ℕ) → length r ≤ n → Leaves n (f r)) → Leaves n other → Leaves n (after o f other)
after_leaves n None f other h k l = l
after_leaves n (Some r) f other h k l = k r h

deed_leaves : (rank : ℕ) (text : List ℕ) (n : ℕ) → length text ≤ n → Leaves n (deed_at rank text)
deed_leaves rank text n le =
    after_leaves n (strip (codes " run ") text) (named_at rank Run) _ (strip_rests (codes " run ") text n le) (λ r k. named_leaves rank Run r n k)
    (after_leaves n (strip (codes " send ") text) (sent_at rank) _ (strip_rests (codes " send ") text n le) (λ r k. sent_leaves rank r n k)
    (after_leaves n (strip (codes " recv ") text) (taken_at rank) _ (strip_rests (codes " recv ") text n le) (λ r k. taken_leaves rank r n k)
    (after_leaves n (strip (codes " enter ") text) (named_at rank Enter) _ (strip_rests (codes " enter ") text n le) (λ r k. named_leaves rank Enter r n k)
    (after_leaves n (strip (codes " leave ") text) (named_at rank Leave) _ (strip_rests (codes " leave ") text n le) (λ r k. named_leaves rank Leave r n k)
    (after_leaves n (strip (codes " choose ") text) (chosen_at rank) None (strip_rests (codes " choose ") text n le) (λ r k. chosen_leaves rank r n k) tt)))))

pub head_leaves : (text : List ℕ) → Leaves (length text) (head_at text)
head_leaves text = then_leaves (length text) (number_at text) _ (number_leaves text (length text) (omega arith)) (λ x h. deed_leaves x.0 x.1 (length text) h)

some_leaves : {A : Type 0} (n : ℕ) (o : Option (A × List ℕ)) (x : A) (rest : List ℕ) → o ≡ Some (x, rest) → Leaves n o → length rest ≤ n
some_leaves n o x rest e h = subst (Leaves n) e h

pub head_shorter : (text : List ℕ) (head : Head) (rest : List ℕ) → head_at text ≡ Some (head, rest) → length rest ≤ length text
head_shorter text head rest e = some_leaves (length text) (head_at text) head rest e (head_leaves text)

unsigned_rests : (n : ℕ) (o : Option (ℕ × List ℕ)) → Leaves n o → Rests n (o >>= λ x. Some x.1)
unsigned_rests n None h = tt
unsigned_rests n (Some x) h = h

signed_rests : (n : ℕ) (o : Option (ℕ × List ℕ)) → Leaves n o → Rests n (o >>= below_zero)
signed_rests n None h = tt
signed_rests n (Some x) h = go (nat_le 1 x.0 && nat_le x.0 (2 ^ 31))
  where
    go : (b : Bool) → Rests n (cond b (Some x.1) None)
    go true = h
    go false = tt

word_rests : (text : List ℕ) → Rests (length text) (word_at text)
word_rests text = go (strip (codes "-") text) (strip_rests (codes "-") text (length text) (omega arith))
  where
    go : (o : Option (List ℕ)) → Rests (length text) o → Rests (length text) (word_by text o)
    go None h = unsigned_rests (length text) (number_at text) (number_leaves text (length text) (omega arith))
    go (Some digits) h = signed_rests (length text) (number_at digits) (number_leaves digits (length text) h)

pub word_shorter : (text rest : List ℕ) → word_at text ≡ Some rest → length rest ≤ length text
word_shorter text rest e = subst (Rests (length text)) e (word_rests text)

-- one space and one word take two bytes or more of a text, so here one suffices
pub spaced_shorter : (text next rest : List ℕ) → strip (codes " ") text ≡ Some next → word_at next ≡ Some rest → length rest < length text
spaced_shorter text next rest e f = omega (arith, strip_length (codes " ") text next e, word_shorter next rest f)

has_shorter : (text rest : List ℕ) (count : ℕ) → HasWords text count rest → length rest ≤ length text
has_shorter _ _ _ (no_word text e) = omega arith
has_shorter _ _ _ (word text next behind rest count e f more) = omega (arith, spaced_shorter text next behind e f, has_shorter behind rest count more)

of_shorter : (deed : Deed) (text : List ℕ) (count : ℕ) (rest : List ℕ) → WordsOf deed text count rest → length rest ≤ length text
of_shorter (Choose b) text count rest h = omega (arith, ap length h.1)
of_shorter Run text count rest h = omega (arith, ap length h.1)
of_shorter (Send to) text count rest h = has_shorter text rest count h
of_shorter (Recv from) text count rest h = has_shorter text rest count h
of_shorter Enter text count rest h = has_shorter text rest count h
of_shorter Leave text count rest h = has_shorter text rest count h

-- a line has its line feed
pub record IsShorter (text tail rest : List ℕ) : Type 0 where
  pub tail_within : length tail ≤ length text
  pub rest_shorter : length rest < length text

pub line_shorter : (text : List ℕ) (line : Line) (tail rest : List ℕ) → IsLine text line tail rest → IsShorter text tail rest
line_shorter text line tail rest h =
    let a : length tail ≤ length text = head_shorter text line.head tail h.head in
    let b : length h.last ≤ length tail = of_shorter line.head.deed tail line.words h.last h.words in
    let c : length h.last ≡ 1 + length rest = strip_length (codes "\n") h.last rest h.feed in
    record { tail_within = a; rest_shorter = omega (arith, a, b, c) }

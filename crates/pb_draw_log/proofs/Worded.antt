-- The words of a line are determined, and so is the line.
use Rattle.std.proofs.Common.{◌≡◌, ℕ, suc, ◌+◌, List, Option, Some, None, refl, sym, ap, subst, ◌∙◌, arith}
use Rattle.std.specs.Prelude.{codes}
use Rattle.pb_text_read.specs.Fronts.{strip}
use Rattle.pb_draw_log.specs.Parts.{word_at}
use Rattle.pb_draw_log.specs.Heads.{head_at}
use Rattle.pb_draw_log.specs.Lines.{IsLine, HasWords, no_word, word, WordsOf}
use Rattle.pb_draw_log.specs.declared.entry.Deed.{Deed}
use Rattle.pb_draw_log.specs.declared.entry.Deed.TheVariants.{Choose, Run, Send, Recv, Enter, Leave}
use Rattle.pb_draw_log.specs.declared.entry.Head.{Head}
use Rattle.pb_draw_log.specs.declared.line.Line.{Line}

abbrev value : {A : Type 0} → A → Option A → A
value other None = other
value other (Some x) = x

same_value : {A : Type 0} (o : Option A) (x y : A) → o ≡ Some x → o ≡ Some y → x ≡ y
same_value o x y e f = ap (value x) (sym e ∙ f)

pub words_unique : (text rest other : List ℕ) (m n : ℕ) → HasWords text m rest → HasWords text n other → (m ≡ n) × (rest ≡ other)
words_unique _ _ _ _ _ (no_word text e) (no_word _ f) = (refl, refl)
words_unique _ _ _ _ _ (no_word text e) (word _ next behind rest count f g more) = absurd cc
words_unique _ _ _ _ _ (word text next behind rest count e f more) (no_word _ g) = absurd cc
words_unique _ _ other _ _ (word text next behind rest count e f more) (word _ next2 behind2 _ count2 e2 f2 more2) =
    let a : next ≡ next2 = same_value (strip (codes " ") text) next next2 e e2 in
    let b : behind ≡ behind2 = same_value (word_at next) behind behind2 f (ap word_at a ∙ f2) in
    let both = words_unique behind rest other count count2 more (subst (λ t. HasWords t count2 other) (sym b) more2) in
    (ap (λ k. suc k) both.0, both.1)

pub of_unique : (deed : Deed) (text rest other : List ℕ) (m n : ℕ) → WordsOf deed text m rest → WordsOf deed text n other → rest ≡ other
of_unique (Choose b) text rest other m n h k = h.1 ∙ sym k.1
of_unique Run text rest other m n h k = h.1 ∙ sym k.1
of_unique (Send to) text rest other m n h k = (words_unique text rest other m n h k).1
of_unique (Recv from) text rest other m n h k = (words_unique text rest other m n h k).1
of_unique Enter text rest other m n h k = (words_unique text rest other m n h k).1
of_unique Leave text rest other m n h k = (words_unique text rest other m n h k).1

abbrev pub NoLine : List ℕ → Type 0
NoLine text = (line : Line) (tail rest : List ℕ) → IsLine text line tail rest → ⊥

pub no_head : (text : List ℕ) → head_at text ≡ None → NoLine text
no_head text e line tail rest h = let f = h.head in absurd cc

abbrev first : Head × List ℕ → Head
first x = x.0

abbrev second : Head × List ℕ → List ℕ
second x = x.1

pub no_words : (text : List ℕ) (head : Head) (behind : List ℕ) → head_at text ≡ Some (head, behind) → ((count : ℕ) (rest : List ℕ) → WordsOf head.deed behind count rest → ⊥) → NoLine text
no_words text head behind e none line tail rest h =
    let same : (head, behind) ≡ (line.head, tail) = same_value (head_at text) (head, behind) (line.head, tail) e h.head in
    let a : line.head ≡ head = sym (ap first same) in
    let b : tail ≡ behind = sym (ap second same) in
    none line.words h.last (subst (λ d. WordsOf d.deed behind line.words h.last) a (subst (λ t. WordsOf line.head.deed t line.words h.last) b h.words))

pub no_feed : (text : List ℕ) (head : Head) (behind last : List ℕ) (count : ℕ) → head_at text ≡ Some (head, behind) → WordsOf head.deed behind count last → strip (codes "\n") last ≡ None → NoLine text
no_feed text head behind last count e words none line tail rest h =
    let same : (head, behind) ≡ (line.head, tail) = same_value (head_at text) (head, behind) (line.head, tail) e h.head in
    let a : line.head ≡ head = sym (ap first same) in
    let b : tail ≡ behind = sym (ap second same) in
    let w : WordsOf head.deed behind line.words h.last = subst (λ d. WordsOf d.deed behind line.words h.last) a (subst (λ t. WordsOf line.head.deed t line.words h.last) b h.words) in
    let l : last ≡ h.last = of_unique head.deed behind last h.last count line.words words w in
    let f : strip (codes "\n") last ≡ Some rest = ap (strip (codes "\n")) l ∙ h.feed in
    absurd cc

pub made : (text : List ℕ) (line : Line) (tail last rest : List ℕ) → head_at text ≡ Some (line.head, tail) → WordsOf line.head.deed tail line.words last → strip (codes "\n") last ≡ Some rest → IsLine text line tail rest
made text line tail last rest a b c = record { last = last; head = a; words = b; feed = c }

-- ---- the loop over words: what is left has as many words fewer

pub record Counts (text rest : List ℕ) (count : ℕ) : Type 0 where
  pub onward : (n : ℕ) (last : List ℕ) → HasWords rest n last → HasWords text (count + n) last
  pub backward : (n : ℕ) (last : List ℕ) → HasWords text n last → (m : ℕ) × HasWords rest m last

pub counts_none : (text : List ℕ) → Counts text text 0
counts_none text = record { onward = λ n last h. let e : n ≡ 0 + n = omega arith in subst (λ k. HasWords text k last) e h; backward = λ n last h. (n, h) }

one_back : (rest next behind : List ℕ) → strip (codes " ") rest ≡ Some next → word_at next ≡ Some behind → (n : ℕ) (last : List ℕ) → HasWords rest n last → (m : ℕ) × HasWords behind m last
one_back rest next behind e f _ _ (no_word _ g) = absurd cc
one_back rest next behind e f _ last (word _ next2 behind2 _ count e2 f2 more) =
    let a : next ≡ next2 = same_value (strip (codes " ") rest) next next2 e e2 in
    let b : behind2 ≡ behind = sym (same_value (word_at next) behind behind2 f (ap word_at a ∙ f2)) in
    (count, subst (λ t. HasWords t count last) b more)

pub counts_more : (text rest next behind : List ℕ) (count : ℕ) → Counts text rest count → strip (codes " ") rest ≡ Some next → word_at next ≡ Some behind → Counts text behind (count + 1)
counts_more text rest next behind count h e f = record {
  onward = λ n last k. let add : count + suc n ≡ count + 1 + n = omega arith in subst (λ m. HasWords text m last) add (h.onward (suc n) last (word rest next behind last n e f k));
  backward = λ n last k. let back = h.backward n last k in one_back rest next behind e f back.0 last back.1;
}

pub counts_all : (text rest : List ℕ) (count : ℕ) → Counts text rest count → strip (codes " ") rest ≡ None → HasWords text count rest
counts_all text rest count h e = let add : count + 0 ≡ count = omega arith in subst (λ m. HasWords text m rest) add (h.onward 0 rest (no_word rest e))

bad_word : (rest next : List ℕ) → strip (codes " ") rest ≡ Some next → word_at next ≡ None → (n : ℕ) (last : List ℕ) → HasWords rest n last → ⊥
bad_word rest next e f _ _ (no_word _ g) = absurd cc
bad_word rest next e f _ last (word _ next2 behind _ count e2 f2 more) =
    let a : next ≡ next2 = same_value (strip (codes " ") rest) next next2 e e2 in
    let g : word_at next ≡ Some behind = ap word_at a ∙ f2 in absurd cc

pub counts_bad : (text rest next : List ℕ) (count : ℕ) → Counts text rest count → strip (codes " ") rest ≡ Some next → word_at next ≡ None → (n : ℕ) (last : List ℕ) → HasWords text n last → ⊥
counts_bad text rest next count h e f n last k = let back = h.backward n last k in bad_word rest next e f back.0 last back.1

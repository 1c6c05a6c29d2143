-- A form: which lists of tokens are texts of it, for which value, and which lists are fronts of it.
use Rattle.std.specs.Prelude.{◌≡◌, ◌⊎◌, List, [], ◌∷◌, ◌++◌, Option, Some}
use Rattle.pb_text.specs.declared.token.Token.{Token}

pub record Form (A : Type 0) : Type 1 where
  pub text : List Token → A → Type 0
  pub front : List Token → Type 0

-- no token at all
unfoldable pub done : {A : Type 0} → A → Form A
done x = record { text = λ ts y. (ts ≡ []) × (y ≡ x); front = λ ts. ts ≡ [] }

-- a single token has no other fronts than the empty list and itself
abbrev pub OneText : {A : Type 0} → (Token → Option A) → List Token → A → Type 0
OneText reads [] x = ⊥
OneText reads (t ∷ []) x = reads t ≡ Some x
OneText reads (t ∷ u ∷ ts) x = ⊥

abbrev pub OneFront : {A : Type 0} → (Token → Option A) → List Token → Type 0
OneFront reads [] = Unit {0}
OneFront {A} reads (t ∷ []) = (x : A) × (reads t ≡ Some x)
OneFront reads (t ∷ u ∷ ts) = ⊥

unfoldable pub one : {A : Type 0} → (Token → Option A) → Form A
one reads = record { text = OneText reads; front = OneFront reads }

-- a part whole, and the next part, which may look at what the first one stands for
pub record Both {A B : Type 0} (first : List Token → A → Type 0) (next : A → List Token → B → Type 0) (ts : List Token) (y : B) : Type 0 where
  pub head : List Token
  pub tail : List Token
  pub value : A
  pub split : ts ≡ head ++ tail
  pub whole : first head value
  pub rest : next value tail y

-- a front of the first part, or the first part whole followed by a front of the next
pub record Behind {A : Type 0} (first : List Token → A → Type 0) (next : A → List Token → Type 0) (ts : List Token) : Type 0 where
  pub head : List Token
  pub tail : List Token
  pub value : A
  pub split : ts ≡ head ++ tail
  pub whole : first head value
  pub rest : next value tail

infixl 10 ◌>>=◌
unfoldable pub ◌>>=◌ : {A B : Type 0} → Form A → (A → Form B) → Form B
a >>= f = record {
  text = λ ts y. Both a.text (λ x. (f x).text) ts y;
  front = λ ts. a.front ts ⊎ Behind a.text (λ x. (f x).front) ts;
}

infixr 5 ◌or◌
unfoldable pub ◌or◌ : {A : Type 0} → Form A → Form A → Form A
a or b = record { text = λ ts x. a.text ts x ⊎ b.text ts x; front = λ ts. a.front ts ⊎ b.front ts }

-- any number of times
abbrev pub ManyText : {A : Type 0} → (List Token → A → Type 0) → List Token → List A → Type 0
ManyText whole ts [] = ts ≡ []
ManyText whole ts (x ∷ xs) = (head : List Token) × (tail : List Token) × (ts ≡ head ++ tail) × whole head x × ManyText whole tail xs

unfoldable pub many : {A : Type 0} → Form A → Form (List A)
many {A} a = record {
  text = ManyText a.text;
  front = λ ts. (ts ≡ []) ⊎ Behind (ManyText a.text) (λ (xs : List A). a.front) ts;
}

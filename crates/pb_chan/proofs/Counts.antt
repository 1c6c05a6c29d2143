-- What a change of one list does to the number of words.
use Rattle.std.proofs.Common.{◌≡◌, ℕ, ◌+◌, ◌<◌, Bool, Some, [], ◌∷◌, ◌++◌, length, remove, get_or, sym, ap, ◌∙◌, arith}
use Rattle.std.proofs.lemmas.List.Sums.{sum_by-append, sum_by-remove}
use Rattle.std.proofs.lemmas.Map.Entries.{sum_by-set_value, sum_by_values_permutation}
use Rattle.std.specs.HashMap.{HashMap, values}
use Rattle.std.specs.List.{sum_by}
use Rattle.std.specs.List.Sorted.{IsPermutation}
use Rattle.std.specs.Map.{lookup, set_value, values_of}
use Rattle.pb_chan.specs.declared.message.Message.{Message}
use Rattle.pb_chan.specs.Lists.{words_in}
use Rattle.pb_chan.specs.Shown.{Queue, shown}
use Rattle.pb_chan.proofs.Seen.{weight}

abbrev size : Message → ℕ
size m = length m.words

abbrev words_of : Queue → ℕ
words_of q = sum_by size q.items

abbrev total : {S : Type 0} → HashMap (ℕ × ℕ) Queue S → ℕ
total m = sum_by words_of (values m)

grown : (v w : Queue) (x : Message) → w.items ≡ v.items ++ x ∷ [] → words_of w ≡ words_of v + length x.words
grown v w x e = let a = ap (sum_by size) e ∙ sum_by-append size v.items (x ∷ []) in omega (arith, a)

module _ {S : Type 0} (m n : HashMap (ℕ × ℕ) Queue S) (test : ℕ × ℕ → Bool) where
  written : (v w : Queue) → n.entries ≡ set_value test m.entries w → lookup test m.entries ≡ Some v → total n + words_of v ≡ total m + words_of w
  written v w is had = ap (λ es. sum_by words_of (values_of es) + words_of v) is ∙ sum_by-set_value words_of test m.entries v w had

  at-pushed_words : (v w : Queue) (x : Message) → n.entries ≡ set_value test m.entries w → lookup test m.entries ≡ Some v → w.items ≡ v.items ++ x ∷ [] → total n ≡ total m + length x.words
  at-pushed_words v w x is had items = let a = written v w is had in let b = grown v w x items in omega (arith, a, b)

  at-kept_words : (v w : Queue) → n.entries ≡ set_value test m.entries w → lookup test m.entries ≡ Some v → w.items ≡ v.items → total n ≡ total m
  at-kept_words v w is had items = let a = written v w is had in let b : words_of w ≡ words_of v = ap (sum_by size) items in omega (arith, a, b)

  at-removed_words : (v w : Queue) (at : ℕ) (y : Message) → n.entries ≡ set_value test m.entries w → lookup test m.entries ≡ Some v → w.items ≡ remove v.items at → at < length v.items → y ≡ get_or v.items at y →
      total n + length y.words ≡ total m
  at-removed_words v w at y is had items lt value =
      let a = written v w is had in
      let b : words_of w ≡ sum_by size (remove v.items at) = ap (sum_by size) items in
      let c = sum_by-remove size v.items at y lt in
      let d : size y ≡ size (get_or v.items at y) = ap size value in
      omega (arith, a, b, c, d)

  at-inserted_words : (k : ℕ × ℕ) (w : Queue) (x : Message) → IsPermutation ((k, w) ∷ m.entries) n.entries → w.items ≡ x ∷ [] → total n ≡ total m + length x.words
  at-inserted_words k w x is items =
      let a : total n ≡ 0 + words_of w + total m = sum_by_values_permutation words_of ((k, w) ∷ m.entries) n.entries is ∙ sum_by-append words_of (w ∷ []) (values_of m.entries) in
      let b : words_of w ≡ 0 + length x.words = ap (sum_by size) items in
      omega (arith, a, b)

  pub pushed_words : (v w : Queue) (x : Message) → n.entries ≡ set_value test m.entries w → lookup test m.entries ≡ Some v → w.items ≡ v.items ++ x ∷ [] → words_in (shown n) ≡ words_in (shown m) + length x.words
  pushed_words v w x is had items = weight n ∙ at-pushed_words v w x is had items ∙ ap (λ z. z + length x.words) (sym (weight m))

  pub kept_words : (v w : Queue) → n.entries ≡ set_value test m.entries w → lookup test m.entries ≡ Some v → w.items ≡ v.items → words_in (shown n) ≡ words_in (shown m)
  kept_words v w is had items = weight n ∙ at-kept_words v w is had items ∙ sym (weight m)

  pub removed_words : (v w : Queue) (at : ℕ) (y : Message) → n.entries ≡ set_value test m.entries w → lookup test m.entries ≡ Some v → w.items ≡ remove v.items at → at < length v.items → y ≡ get_or v.items at y →
      words_in (shown n) + length y.words ≡ words_in (shown m)
  removed_words v w at y is had items lt value = ap (λ z. z + length y.words) (weight n) ∙ at-removed_words v w at y is had items lt value ∙ sym (weight m)

  pub inserted_words : (k : ℕ × ℕ) (w : Queue) (x : Message) → IsPermutation ((k, w) ∷ m.entries) n.entries → w.items ≡ x ∷ [] → words_in (shown n) ≡ words_in (shown m) + length x.words
  inserted_words k w x is items = weight n ∙ at-inserted_words k w x is items ∙ ap (λ z. z + length x.words) (sym (weight m))

-- The entries have at each pair what the map has.
use Rattle.std.proofs.Common.{◌≡◌, ℕ, Bool, true, false, ◌&&◌, ◌+◌, ◌<◌, nat_eq, length, subst, cond, List, [], ◌∷◌, Option, Some, refl, sym, ap, ◌∙◌, map}
use Rattle.std.specs.HashMap.{HashMap, values}
use Rattle.std.specs.List.{sum_by}
use Rattle.std.proofs.lemmas.List.Sums.{sum_by-append}
use Rattle.std.specs.Map.{lookup, values_of}
use Rattle.pb_chan.specs.declared.message.Message.{Message}
use Rattle.pb_chan.specs.Lists.{Entry, messages, words_in, words_of}
use Rattle.pb_chan.specs.Shown.{Queue, entry_of, shown, items_of, list_at}

chosen : (b : Bool) (v : Queue) (o : Option Queue) → cond b v.items (items_of o) ≡ items_of (cond b (Some v) o)
chosen true v o = refl
chosen false v o = refl

seen_in : (es : List ((ℕ × ℕ) × Queue)) (p q : ℕ) → messages (map entry_of es) p q ≡ items_of (lookup (λ k. nat_eq p k.0 && nat_eq q k.1) es)
seen_in [] p q = refl
seen_in (e ∷ es) p q = ap (cond (nat_eq p e.0.0 && nat_eq q e.0.1) e.1.items) (seen_in es p q) ∙ chosen (nat_eq p e.0.0 && nat_eq q e.0.1) e.1 (lookup (λ k. nat_eq p k.0 && nat_eq q k.1) es)

pub seen : {S : Type 0} (m : HashMap (ℕ × ℕ) Queue S) (p q : ℕ) → messages (shown m) p q ≡ list_at m p q
seen m p q = seen_in m.entries p q

weight_in : (es : List ((ℕ × ℕ) × Queue)) → words_in (map entry_of es) ≡ sum_by (λ (v : Queue). words_of v.items) (values_of es)
weight_in [] = refl
weight_in (e ∷ es) =
    sum_by-append (λ (e : Entry). words_of e.1) (entry_of e ∷ []) (map entry_of es)
    ∙ ap (λ n. 0 + words_of e.1.items + n) (weight_in es)
    ∙ sym (sum_by-append (λ (v : Queue). words_of v.items) (e.1 ∷ []) (values_of es))

pub weight : {S : Type 0} (m : HashMap (ℕ × ℕ) Queue S) → words_in (shown m) ≡ sum_by (λ (v : Queue). words_of v.items) (values m)
weight m = weight_in m.entries

pub seen_room : {S : Type 0} (m : HashMap (ℕ × ℕ) Queue S) (p q at : ℕ) → at < length (messages (shown m) p q) → at < length (list_at m p q)
seen_room m p q at h = subst (λ (l : List Message). at < length l) (seen m p q) h

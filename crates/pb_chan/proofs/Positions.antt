-- One more message looked at.
use Rattle.std.proofs.Common.{◌≡◌, ◌<◌, ◌≤◌, ℕ, suc, ◌+◌, List, length, drop, get_or, ap, ◌∙◌, sym, Some, None, true, false, nat_eq, if◌then◌else◌, drop-cons, drop_of_length-le, add-one}
use Rattle.pb_chan.specs.declared.message.Message.{Message}
use Rattle.pb_chan.specs.Lists.{position}

at_head : (xs : List Message) (i : ℕ) (m : Message) (l : ℕ) → i < length xs → m ≡ get_or xs i m →
    position l i (drop i xs) ≡ (if nat_eq l m.label then Some i else position l (i + 1) (drop (i + 1) xs))
at_head xs i m l lt h =
    ap (position l i) (drop-cons xs i m lt) ∙ ap (λ (z : Message). if nat_eq l z.label then Some i else position l (suc i) (drop (suc i) xs)) (sym h)
    ∙ ap (λ z. if nat_eq l m.label then Some i else position l z (drop z xs)) (sym (add-one i))

pub found : (xs : List Message) (i : ℕ) (m : Message) (l : ℕ) → i < length xs → m ≡ get_or xs i m → nat_eq l m.label ≡ true → position l i (drop i xs) ≡ Some i
found xs i m l lt h e = at_head xs i m l lt h ∙ ap (λ b. if b then Some i else position l (i + 1) (drop (i + 1) xs)) e

pub passed : (xs : List Message) (i : ℕ) (m : Message) (l : ℕ) → i < length xs → m ≡ get_or xs i m → nat_eq l m.label ≡ false → position l i (drop i xs) ≡ position l (i + 1) (drop (i + 1) xs)
passed xs i m l lt h e = at_head xs i m l lt h ∙ ap (λ b. if b then Some i else position l (i + 1) (drop (i + 1) xs)) e

pub ended : (xs : List Message) (i l : ℕ) → length xs ≤ i → position l i (drop i xs) ≡ None
ended xs i l le = ap (position l i) (drop_of_length-le xs le)

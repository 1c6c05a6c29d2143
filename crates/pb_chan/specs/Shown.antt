-- A map of queues seen as entries, and the first of the lists that are left.
use Rattle.std.specs.Prelude.{ℕ, Bool, ◌&&◌, ◌||◌, nat_eq, nat_lt, List, [], ◌∷◌, map, Option, Some, None, if◌then◌else◌}
use Rattle.std.specs.HashMap.{get, HashMap}
use Rattle.std.specs.declared.alloc.Global.{Global}
use Rattle.std.specs.declared.collections.VecDeque.{VecDeque}
use Rattle.pb_chan.specs.declared.message.Message.{Message}
use Rattle.pb_chan.specs.Lists.{Entry, label_of}

abbrev pub Queue : Type 0
Queue = VecDeque Message Global

abbrev pub entry_of : (ℕ × ℕ) × Queue → Entry
entry_of e = (e.0, e.1.items)

abbrev pub shown : {S : Type 0} → HashMap (ℕ × ℕ) Queue S → List Entry
shown m = map entry_of m.entries

abbrev pub items_of : Option Queue → List Message
items_of None = []
items_of (Some q) = q.items

-- what the map has for a sender and a receiver
abbrev pub list_at : {S : Type 0} → HashMap (ℕ × ℕ) Queue S → ℕ → ℕ → List Message
list_at m p q = items_of (get (λ x y. nat_eq x.0 y.0 && nat_eq x.1 y.1) m (p, q))

-- the receiver, the sender and the first label of a list that isn't empty
abbrev pub left_at : ℕ → ℕ → Option ℕ → Option (ℕ × ℕ × ℕ)
left_at p q None = None
left_at p q (Some label) = Some (q, p, label)

abbrev pub left_of : ℕ × ℕ → List Message → Option (ℕ × ℕ × ℕ)
left_of pair ms = left_at pair.0 pair.1 (label_of ms)

-- by receiver, and then by sender
abbrev pub is_before : ℕ × ℕ × ℕ → ℕ × ℕ × ℕ → Bool
is_before x y = nat_lt x.0 y.0 || (nat_eq x.0 y.0 && nat_lt x.1 y.1)

abbrev pub lesser : Option (ℕ × ℕ × ℕ) → Option (ℕ × ℕ × ℕ) → Option (ℕ × ℕ × ℕ)
lesser None y = y
lesser (Some x) None = Some x
lesser (Some x) (Some y) = if is_before y x then Some y else Some x

abbrev pub least : Option (ℕ × ℕ × ℕ) → List ((ℕ × ℕ) × Queue) → Option (ℕ × ℕ × ℕ)
least x [] = x
least x (e ∷ es) = least (lesser x (left_of e.0 e.1.items)) es

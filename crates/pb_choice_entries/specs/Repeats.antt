-- Entries of which one says no more than others do of who is heard from.
use Rattle.std.specs.Prelude.{◌≡◌, ℕ, ℤ, Bool, true, List}
use Rattle.std.specs.List.{list_any}
use Rattle.pb_part_areas.specs.Areas.{has}
use Rattle.pb_part_firsts.specs.declared.firsts.Entry.{Entry}
use Rattle.pb_part_firsts.specs.declared.firsts.Kind.{Kind}
use Rattle.pb_choice_entries.specs.Clashes.{are_apart}

-- in comparing senders the one stands for the other
pub record AreSameSender (a b : Kind) : Type 0 where
  pub first : (k : Kind) (n x : ℤ) → are_apart a k n x ≡ are_apart b k n x
  pub second : (k : Kind) (n x : ℤ) → are_apart k a n x ≡ are_apart k b n x

-- both are of the same ranks, too
pub record AreRepeated (e f : Entry) : Type 0 where
  pub ranks : (n : ℤ) (role : ℕ) (x : ℤ) → has e.area n role x ≡ has f.area n role x
  pub sender : AreSameSender e.kind f.kind

-- a test that can't tell such entries apart
pub record Respects (t : Entry → Bool) : Type 0 where
  pub same : (e f : Entry) → AreRepeated e f → t e ≡ t f

-- whatever such a test says of the entry, it says of an entry of the list
pub record IsRepeated (list : List Entry) (e : Entry) : Type 0 where
  pub there : (t : Entry → Bool) → Respects t → t e ≡ true → list_any t list ≡ true

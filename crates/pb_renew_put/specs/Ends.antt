-- In which phase a call ends that answers so.
use Rattle.std.specs.Prelude.{◌≡◌, ◌⊎◌, ℕ, ◌≤◌, Bool, true, false, List, Result, Ok, Err, if◌then◌else◌}
use Rattle.std.specs.List.{list_any}
use Rattle.pb_io.specs.Faults.{next_count}
use Rattle.pb_renew_put.specs.declared.fault.PutFault.{PutFault}
use Rattle.pb_renew_put.specs.declared.fault.PutFault.TheVariants.{Busy, Changed, Olds, Halfway}
use Rattle.pb_renew_put.specs.Jobs.{Task}
use Rattle.pb_renew_put.specs.Names.{new_name, old_file, spare_name}
use Rattle.pb_renew_put.specs.Phases.{LeftIs, untouched, grown, sure, undone, nothing, Phase, same_name}
use Rattle.pb_renew_put.specs.Puts.{least_count}

-- OUT has the text, and nothing is left of a new OUT.left
pub record Finishes (p : Phase) : Type 0 where
  pub put : p.is_put ≡ true
  pub spare : p.spare ≡ nothing
  pub strays : p.strays ≡ false

-- OUT.left has the bodies
abbrev pub is_grown : LeftIs → Bool
is_grown untouched = false
is_grown grown = true
is_grown sure = true
is_grown undone = false

-- OUT.left is as it was; halfway it has the bodies
abbrev pub IsLeftSo : PutFault → LeftIs → Type 0
IsLeftSo Halfway left = is_grown left ≡ true
IsLeftSo other left = is_grown left ≡ false

abbrev pub is_taken : List (List ℕ) → List ℕ → Bool
is_taken names name = list_any (λ other. same_name other name) names

-- what the call saw, if it answers so
abbrev pub IsSeenBy : PutFault → Task → Phase → Type 0
IsSeenBy Busy t p = (is_taken p.taken (new_name t.out) ≡ true) ⊎ (is_taken p.taken (spare_name t.out) ≡ true)
IsSeenBy Changed t p = p.differs ≡ true
IsSeenBy Olds t p = (number : ℕ) → 1 ≤ number → number ≤ 9999 → is_taken p.taken (old_file t.out number) ≡ true
IsSeenBy other t p = Unit {0}

-- one more, unless OUT.left.new is there, made by somebody else
abbrev pub count_again : Task → Phase → ℕ → ℕ
count_again t p before = if is_taken p.taken (spare_name t.out) then before else next_count before

-- the counts of faults that such an ending needs by itself
abbrev pub least_in : PutFault → Task → Phase → ℕ → ℕ
least_in Halfway t p before = count_again t p (next_count before)
least_in other t p before = least_count other before

-- nothing is left of what the call made beside OUT
pub record IsClean (p : Phase) : Type 0 where
  pub fresh : p.fresh ≡ nothing
  pub spare : p.spare ≡ nothing
  pub strays : p.strays ≡ false

pub record Stops (why : PutFault) (t : Task) (before now : ℕ) (p : Phase) : Type 0 where
  pub put : p.is_put ≡ false
  pub left : IsLeftSo why p.left
  pub cause : IsSeenBy why t p
  pub fault : least_in why t p before ≤ now
  pub clean : IsClean p ⊎ (next_count (least_in why t p before) ≤ now)

-- with these counts of faults before and behind
abbrev pub Ends : {T : Type 0} → Result T PutFault → Task → ℕ → ℕ → Phase → Type 0
Ends (Ok value) t before now p = Finishes p
Ends (Err why) t before now p = Stops why t before now p

-- Files that are read, and what is said of their bytes.
use Rattle.std.proofs.Common.{◌≡◌, ℕ, ◌+◌, ◌<◌, ◌≤◌, Bool, List, length, Option, Some, None, Result, Ok, Err, sym, subst, inl, inr, arith}
use Rattle.pb_text.specs.declared.limits.TheConstants.{MOST_TEXT_BYTES}
use Rattle.pb_io.specs.Faults.{Rose, next_count}
use Rattle.pb_io.specs.Files.{File, content_of, IsContent, IsSureOf}
use Rattle.pb_io.specs.Unread.{IsUnread}
use Rattle.pb_ctree.specs.declared.tree.CTree.{CTree}
use Rattle.pb_ctree.specs.Trees.{IsTree}
use Rattle.pb_cli_status.specs.declared.refusal.Refusal.{Refusal}
use Rattle.pb_cli_status.specs.declared.refusal.Refusal.TheVariants as refusal
use Rattle.pb_cli_simulate.specs.Commands.{OnFile, OnShort, IsUntaken, IsOfText, IsOfSchedule}
use Rattle.pb_cli_simulate.specs.Sources.{IsTextOf, IsNoText, IsNoSchedule}

pub on_short : (P : List ℕ → Type 0) (holds : Option (List File)) (name bytes : List ℕ) → IsContent holds name bytes → length bytes ≤ MOST_TEXT_BYTES → P bytes → OnShort name holds P
on_short P None name bytes content few is = tt
on_short P (Some files) name bytes content few is = (subst (λ (b : List ℕ). length b ≤ MOST_TEXT_BYTES) content few, subst P content is)

pub no_text : (holds : Option (List File)) (name bytes : List ℕ) (why : Refusal) → IsContent holds name bytes → length bytes ≤ MOST_TEXT_BYTES → IsNoText bytes why → IsUntaken IsNoText name holds why
no_text holds name bytes (refusal.Text place) content few is = on_short (λ b. IsNoText b (refusal.Text place)) holds name bytes content few is
no_text holds name bytes (refusal.Limit limit place) content few is = on_short (λ b. IsNoText b (refusal.Limit limit place)) holds name bytes content few is
no_text holds name bytes refusal.NoMemory content few is = tt
no_text holds name bytes other content few is = absurd is

pub no_schedule : (holds : Option (List File)) (name bytes : List ℕ) (why : Refusal) → IsContent holds name bytes → length bytes ≤ MOST_TEXT_BYTES → IsNoSchedule bytes why → IsUntaken IsNoSchedule name holds why
no_schedule holds name bytes (refusal.Schedule line) content few is = on_short (λ b. IsNoSchedule b (refusal.Schedule line)) holds name bytes content few is
no_schedule holds name bytes refusal.Events content few is = on_short (λ b. IsNoSchedule b refusal.Events) holds name bytes content few is
no_schedule holds name bytes refusal.NoMemory content few is = tt
no_schedule holds name bytes other content few is = absurd is

pub of_text : (bytes : List ℕ) (why : Refusal) → IsNoText bytes why → IsOfText why
of_text bytes (refusal.Text place) is = tt
of_text bytes (refusal.Limit limit place) (inl (same, why)) = inl same
of_text bytes (refusal.Limit limit place) (inr (same, why)) = inr same
of_text bytes refusal.NoMemory is = tt
of_text bytes other is = absurd is

pub of_schedule : (bytes : List ℕ) (why : Refusal) → IsNoSchedule bytes why → IsOfSchedule why
of_schedule bytes (refusal.Schedule line) is = tt
of_schedule bytes refusal.Events is = tt
of_schedule bytes refusal.NoMemory is = tt
of_schedule bytes other is = absurd is

-- what rose later rose
pub rose_before : (a b c : ℕ) → a ≤ b → Rose b c → Rose a c
rose_before a b c le rose = omega (arith, le, rose)

-- a file couldn't be read at a later call
pub unread_before : (steady : Bool) (holds : Option (List File)) (a b c : ℕ) (name : List ℕ) → a ≤ b → Rose b c → (IsSureOf steady holds name → ⊥) → IsUnread steady holds a c name
unread_before steady holds a b c name le rose unsure = record { rose = rose_before a b c le rose; unsure = unsure }

pub made : (bytes : List ℕ) (tree : CTree) → IsTextOf bytes tree → IsTree tree
made bytes tree is = is.spells.made

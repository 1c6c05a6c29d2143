-- From the protocol's bytes and its run to what is said.
use Rattle.std.proofs.Common.{◌≡◌, ℕ, ◌<◌, inl, inr, List, length, Option, refl, sym, subst}
use Rattle.pb_core_language.specs.Plain.{Protocol}
use Rattle.pb_lex.specs.declared.error.LexError.TheVariants as E
use Rattle.pb_ctree.specs.declared.tree.CTree.{CTree}
use Rattle.pb_compile.specs.Compiled.{IsCompiled}
use Rattle.pb_compile.specs.Verdict.{IsVerdict}
use Rattle.pb_compile.specs.declared.verdict.Verdict.{Verdict}
use Rattle.pb_compile.specs.declared.verdict.Verdict.TheVariants as verdict
use Rattle.pb_cli_verdict.specs.Refusals.{refusal_of}
use Rattle.pb_cli_status.specs.Lines.{line_of, status_of}
use Rattle.pb_cli_status.specs.Written.{Says}
use Rattle.pb_cli_status.specs.declared.refusal.Refusal.{Refusal}
use Rattle.pb_cli_status.specs.declared.refusal.Refusal.TheVariants as refusal
use Rattle.pb_cli_status.specs.declared.status.Status.{Status}
use Rattle.pb_cli_status.specs.declared.status.Status.TheVariants as S
use Rattle.pb_sim.specs.declared.counts.Counts.{Counts}
use Rattle.pb_cli_demo.specs.Demo.{HasCounts, IsDenied, IsReply, IsTreeOf, SaysDemo, bytes_of, most_bytes, summary}

-- ---- the protocol

module _ (count : ℕ) (bytes : List ℕ) (same : bytes ≡ bytes_of count) where
  pub compiled : (p : Protocol) (tree : CTree) → IsCompiled bytes p tree → IsTreeOf count tree
  compiled p tree is = (p, subst (λ (l : List ℕ). IsCompiled l p tree) same is)

  pub long : most_bytes < length bytes → IsDenied count refusal.FileBytes
  long more = inr (inl (subst (λ (l : List ℕ). most_bytes < length l) same more, refl))

  pub told : (v : Verdict) → IsVerdict bytes v → (why : Refusal) → why ≡ refusal_of v → IsDenied count why
  told v is why e = inr (inr (v, subst (λ (l : List ℕ). IsVerdict l v) same is, e))

pub no_room : (count : ℕ) → IsDenied count refusal.NoMemory
no_room count = inl refl

-- ---- the reply where there is no tree

module _ (post : ℕ → ℕ → ℕ → Type 0) (count : ℕ) where
  replied : (v : Verdict) → IsVerdict (bytes_of count) v → IsReply post count (status_of (refusal_of v)) (line_of (refusal_of v))
  replied (verdict.Lex (E.BadByte place)) is = (verdict.Lex (E.BadByte place), is, refl, refl)
  replied (verdict.Lex (E.OpenComment place)) is = (verdict.Lex (E.OpenComment place), is, refl, refl)
  replied (verdict.Lex (E.NumberTooLarge place)) is = inr (inl (verdict.Lex (E.NumberTooLarge place), is, refl, refl))
  replied (verdict.Lex (E.NameTooLong place)) is = inr (inl (verdict.Lex (E.NameTooLong place), is, refl, refl))
  replied (verdict.Unexpected place) is = (verdict.Unexpected place, is, refl, refl)
  replied (verdict.TooDeep place) is = inr (inl (verdict.TooDeep place, is, refl, refl))
  replied (verdict.TooMany limit place) is = inr (inl (verdict.TooMany limit place, is, refl, refl))
  replied (verdict.Broken rule place n role index) is = (verdict.Broken rule place n role index, is, refl, refl)
  replied verdict.TooManyCases is = inr (inl (verdict.TooManyCases, is, refl, refl))
  replied verdict.NoMemory is = refl

  pub treeless : (why : Refusal) → IsDenied count why → IsReply post count (status_of why) (line_of why)
  treeless why (inl e) = subst (λ (r : Refusal). IsReply post count (status_of r) (line_of r)) (sym e) refl
  treeless why (inr (inl (more, e))) = subst (λ (r : Refusal). IsReply post count (status_of r) (line_of r)) (sym e) (inl (more, refl))
  treeless why (inr (inr (v, is, e))) = subst (λ (r : Refusal). IsReply post count (status_of r) (line_of r)) (sym e) (replied v is)

-- ---- what is said

module _ (post : ℕ → ℕ → ℕ → Type 0) (count : ℕ) (result : Status) (old new : Option (List ℕ)) where
  pub done : (c : Counts) → HasCounts post count c → Says S.Done (summary count c) result old new → SaysDemo post count result old new
  done c has says = (S.Done, summary count c, (c, has, refl), says)

  pub denied : (why : Refusal) → IsReply post count (status_of why) (line_of why) → Says (status_of why) (line_of why) result old new → SaysDemo post count result old new
  denied why reply says = (status_of why, line_of why, reply, says)

  -- no file is read
  pub never_unread : (why : Refusal) → IsReply post count (status_of why) (line_of why) → (result ≡ S.ReadFault → why ≡ refusal.ReadFault) → result ≡ S.ReadFault → ⊥
  never_unread why reply only e = subst (λ (r : Refusal). IsReply post count (status_of r) (line_of r)) (only e) reply

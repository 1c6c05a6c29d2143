-- Two steps that are the ends of a message.
use Rattle.std.proofs.Common.{◌≡◌, ℕ, refl, sym, subst}
use Rattle.pb_draw_log.specs.declared.entry.Deed.{Deed}
use Rattle.pb_draw_log.specs.declared.entry.Deed.TheVariants.{Send, Recv}
use Rattle.pb_draw_log.specs.declared.entry.Step.{Step}
use Rattle.pb_draw_times.specs.Pairs.{AreEnds, AreEndsOf, sent, taken}

sent_of : (one other : ℕ) (a b : Deed) → a ≡ Send other → b ≡ Recv one → AreEndsOf one other a b
sent_of one other a b e f = subst (λ d. AreEndsOf one other d b) (sym e) (subst (λ d. AreEndsOf one other (Send other) d) (sym f) (sent other one refl refl))

taken_of : (one other : ℕ) (a b : Deed) → a ≡ Recv other → b ≡ Send one → AreEndsOf one other a b
taken_of one other a b e f = subst (λ d. AreEndsOf one other d b) (sym e) (subst (λ d. AreEndsOf one other (Recv other) d) (sym f) (taken other one refl refl))

pub sent_ends : (one other : Step) → one.deed ≡ Send other.rank → other.deed ≡ Recv one.rank → one.name ≡ other.name → AreEnds one other
sent_ends one other e f name = record { ends = sent_of one.rank other.rank one.deed other.deed e f; name = name }

pub taken_ends : (one other : Step) → one.deed ≡ Recv other.rank → other.deed ≡ Send one.rank → one.name ≡ other.name → AreEnds one other
taken_ends one other e f name = record { ends = taken_of one.rank other.rank one.deed other.deed e f; name = name }

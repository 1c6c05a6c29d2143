-- Words one after the other.
use Rattle.std.proofs.Common.{◌≡◌, ℕ, zero, suc, ◌+◌, ◌*◌, ◌^◌, ap, ◌∙◌, sym, refl, arith, add-one}
use Rattle.rand_pcg.specs.Lcg.{Lcg, next, advance, next_state, state_after, started, increment_of}
use Rattle.rand_pcg.specs.Pcg.{multiplier_64}
use Rattle.pb_sched.specs.Draws.{generator}

after_more : (w m p n s : ℕ) → state_after w m p (suc n) s ≡ next_state w m p (state_after w m p n s)
unfolding state_after
after_more w m p zero s = refl
after_more w m p (suc n) s = after_more w m p n (next_state w m p s)

advance_more : (w m n : ℕ) (g : Lcg) → advance w m (suc n) g ≡ next w m (advance w m n g)
advance_more w m n g = ap (λ z. record g { state = z }) (after_more w m g.increment n g.state)

pub one_more : (seed n k : ℕ) (g : Lcg) → k ≡ n + 1 → g ≡ generator seed n → next 64 multiplier_64 g ≡ generator seed k
one_more seed n k g e h = ap (next 64 multiplier_64) h ∙ sym (advance_more 64 multiplier_64 n _) ∙ ap (generator seed) (sym (e ∙ add-one n))

pub at_start : (seed : ℕ) → started 64 multiplier_64 seed (increment_of 64 (2 ^ 32)) ≡ generator seed 0
unfolding state_after
at_start seed = refl

pub turn_more : (seed t : ℕ) (a b c : Lcg) → a ≡ generator seed (2 * t) → b ≡ next 64 multiplier_64 a → c ≡ next 64 multiplier_64 b → c ≡ generator seed (2 * (t + 1))
turn_more seed t a b c h e1 e2 =
    e2 ∙ ap (next 64 multiplier_64) e1 ∙ ap (λ z. next 64 multiplier_64 (next 64 multiplier_64 z)) h
    ∙ sym (ap (generator seed) (twice t) ∙ advance_more 64 multiplier_64 (suc (2 * t)) _ ∙ ap (next 64 multiplier_64) (advance_more 64 multiplier_64 (2 * t) _)) where
      twice : (n : ℕ) → 2 * (n + 1) ≡ suc (suc (2 * n))
      twice n = omega arith

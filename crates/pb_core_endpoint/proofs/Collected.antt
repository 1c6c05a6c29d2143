-- With what a rank leaves a collective depends on no more than what it needs.
use Rattle.std.proofs.Common.{◌≡◌, ℕ, zero, suc, ◌<◌, ◌==◌, cond, List, [], refl, sym, ap, ap₂, ◌∙◌, inl, inr, nat_lt, arith}
use Rattle.std.proofs.lemmas.Bool.{eq-eqb, ltb-true, cases_Bool}
use Rattle.pb_core_language.specs.Run.{Depends}
use Rattle.pb_world.specs.Actions.{Operation, Barrier, Broadcast, Reduce, Allreduce}
use Rattle.pb_core_language.specs.Collectives.{word_by_word, combined, combined_of, setting}

combined_same : (op : ℕ → ℕ → ℕ) (n : ℕ) (f g : ℕ → List ℕ) → ((p : ℕ) → p < suc n → f p ≡ g p) → combined op n f ≡ combined op n g
combined_same op zero f g h = h 0 (omega arith)
combined_same op (suc n) f g h = ap₂ (λ x y. word_by_word op x y) (combined_same op n f g (λ p lt. h p (omega arith))) (h (suc n) (omega arith))

combined_of_same : (op : ℕ → ℕ → ℕ) (n : ℕ) (f g : ℕ → List ℕ) → ((p : ℕ) → p < n → f p ≡ g p) → combined_of op n f ≡ combined_of op n g
combined_of_same op zero f g h = refl
combined_of_same op (suc n) f g h = combined_same op n f g h

pub setting_depends : (total : ℕ) (size : ℕ → ℕ) (operate : Operation → ℕ → ℕ → ℕ → ℕ) → Depends (setting total size operate)
setting_depends total size operate Barrier r f g h = refl
setting_depends total size operate (Broadcast label root) r f g h =
    elim (cases_Bool (nat_lt root total)) [
      | inl y ↦ ap (λ x. cond (nat_lt root total) x []) (h root (ltb-true root total y) (eq-eqb root root refl))
      | inr y ↦ ap₂ (λ b x. cond b x []) y refl ∙ sym (ap₂ (λ b x. cond b x []) y refl)
    ]
setting_depends total size operate (Reduce label operation root) r f g h =
    let op = operate operation label in
    elim (cases_Bool (r == root)) [
      | inl y ↦ ap (λ x. cond (r == root) x []) (combined_of_same op total f g (λ p lt. h p lt y))
      | inr y ↦ ap (λ b. cond b (combined_of op total f) []) y ∙ sym (ap (λ b. cond b (combined_of op total g) []) y)
    ]
setting_depends total size operate (Allreduce label operation) r f g h = combined_of_same (operate operation label) total f g (λ p lt. h p lt refl)

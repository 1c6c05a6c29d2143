-- Products of whole numbers.
use Rattle.std.proofs.Common.{◌≡◌, ℕ, zero, suc, ◌*◌, ◌≤◌, ℤ, pos, negsuc, ◌+ℤ◌, ◌-ℤ◌, ◌*ℤ◌, ◌≤ℤ◌, sym, ap, ◌∙◌, arith, mul-le-mul}
use Rattle.std.proofs.lemmas.Int.{ints}
use lib.IntN.{neg_ℤ, suc_ℤ-*ℤ, pred_ℤ-*ℤ, zero-*ℤ, *ℤ_comm}

up_step : (x y z a b p q r : ℤ) → p ≡ x +ℤ (a +ℤ b) → q ≡ y +ℤ a → r ≡ z +ℤ b → x ≡ y +ℤ z → p ≡ q +ℤ r
up_step x y z a b p q r e1 e2 e3 e = omega (arith, ints)

down_step : (x y z a b p q r : ℤ) → p ≡ x -ℤ (a +ℤ b) → q ≡ y -ℤ a → r ≡ z -ℤ b → x ≡ y +ℤ z → p ≡ q +ℤ r
down_step x y z a b p q r e1 e2 e3 e = omega (arith, ints)

at_zero : (a b : ℤ) → pos zero *ℤ (a +ℤ b) ≡ pos zero *ℤ a +ℤ pos zero *ℤ b
at_zero a b = zero-*ℤ (a +ℤ b) ∙ sym (ap (λ x. x +ℤ pos zero *ℤ b) (zero-*ℤ a) ∙ ap (λ x. pos zero +ℤ x) (zero-*ℤ b))

pub times_sum : (n a b : ℤ) → n *ℤ (a +ℤ b) ≡ n *ℤ a +ℤ n *ℤ b
times_sum (pos zero) a b = at_zero a b
times_sum (pos (suc n)) a b = up_step _ _ _ a b _ _ _ (suc_ℤ-*ℤ (pos n) (a +ℤ b)) (suc_ℤ-*ℤ (pos n) a) (suc_ℤ-*ℤ (pos n) b) (times_sum (pos n) a b)
times_sum (negsuc zero) a b = down_step _ _ _ a b _ _ _ (pred_ℤ-*ℤ (pos zero) (a +ℤ b)) (pred_ℤ-*ℤ (pos zero) a) (pred_ℤ-*ℤ (pos zero) b) (at_zero a b)
times_sum (negsuc (suc n)) a b = down_step _ _ _ a b _ _ _ (pred_ℤ-*ℤ (negsuc n) (a +ℤ b)) (pred_ℤ-*ℤ (negsuc n) a) (pred_ℤ-*ℤ (negsuc n) b) (times_sum (negsuc n) a b)

pub times_sum_is : (n a b c : ℤ) → c ≡ a +ℤ b → n *ℤ c ≡ n *ℤ a +ℤ n *ℤ b
times_sum_is n a b c e = ap (λ x. n *ℤ x) e ∙ times_sum n a b

pub times_one : (n : ℤ) → n *ℤ pos 1 ≡ n
times_one n = omega (arith, ints)

pub times_next : (n a c : ℤ) → c ≡ a +ℤ pos 1 → n *ℤ c ≡ n *ℤ a +ℤ n
times_next n a c e = times_sum_is n a (pos 1) c e ∙ ap (λ x. n *ℤ a +ℤ x) (times_one n)

pub sum_times : (a b n : ℤ) → (a +ℤ b) *ℤ n ≡ a *ℤ n +ℤ b *ℤ n
sum_times a b n = *ℤ_comm (a +ℤ b) n ∙ times_sum n a b ∙ ap (λ x. x +ℤ n *ℤ b) (*ℤ_comm n a) ∙ ap (λ x. a *ℤ n +ℤ x) (*ℤ_comm n b)

pub difference_times : (a b c n : ℤ) → a ≡ c +ℤ b → c *ℤ n ≡ a *ℤ n -ℤ b *ℤ n
difference_times a b c n e = back (a *ℤ n) (c *ℤ n) (b *ℤ n) (ap (λ x. x *ℤ n) e ∙ sum_times c b n) where
  back : (x y z : ℤ) → x ≡ y +ℤ z → y ≡ x -ℤ z
  back x y z h = omega (arith, ints)

-- the product of a slope and a number of steps is small
at_most : (a b m n : ℕ) → a ≤ m → b ≤ n → a * b ≤ m * n
at_most a b m n h k = mul-le-mul h k

neg_low : (x m : ℕ) → x ≤ suc m → negsuc m ≤ℤ neg_ℤ (pos x)
neg_low x m h = omega (arith, ints)

neg_high : (x m : ℕ) → neg_ℤ (pos x) ≤ℤ pos m
neg_high x m = omega (arith, ints)

pos_low : (x m : ℕ) → negsuc m ≤ℤ pos x
pos_low x m = omega (arith, ints)

pos_high : (x m : ℕ) → x ≤ m → pos x ≤ℤ pos m
pos_high x m h = omega (arith, ints)

nat_high : (x m : ℕ) → pos x ≤ℤ pos m → x ≤ m
nat_high x m h = omega (arith, ints)

neg_size : (x m : ℕ) → negsuc m ≤ℤ negsuc x → suc x ≤ suc m
neg_size x m h = omega (arith, ints)

not_below : (x : ℕ) → pos 0 ≤ℤ negsuc x → ⊥
not_below x h = omega (arith, ints)

pub product_low : (slope steps : ℤ) → negsuc 4099999 ≤ℤ slope → slope ≤ℤ pos 4100000 → pos 0 ≤ℤ steps → steps ≤ℤ pos 900000000000 → negsuc 3689999999999999999 ≤ℤ (slope *ℤ steps)
product_low (pos a) (pos b) low high least most = pos_low (a * b) 3689999999999999999
product_low (negsuc a) (pos b) low high least most = neg_low (suc a * b) 3689999999999999999 (at_most (suc a) b 4100000 900000000000 (neg_size a 4099999 low) (nat_high b 900000000000 most))
product_low (pos a) (negsuc b) low high least most = absurd (not_below b least)
product_low (negsuc a) (negsuc b) low high least most = absurd (not_below b least)

pub product_high : (slope steps : ℤ) → negsuc 4099999 ≤ℤ slope → slope ≤ℤ pos 4100000 → pos 0 ≤ℤ steps → steps ≤ℤ pos 900000000000 → (slope *ℤ steps) ≤ℤ pos 3690000000000000000
product_high (pos a) (pos b) low high least most = pos_high (a * b) 3690000000000000000 (at_most a b 4100000 900000000000 (nat_high a 4100000 high) (nat_high b 900000000000 most))
product_high (negsuc a) (pos b) low high least most = neg_high (suc a * b) 3690000000000000000
product_high (pos a) (negsuc b) low high least most = absurd (not_below b least)
product_high (negsuc a) (negsuc b) low high least most = absurd (not_below b least)

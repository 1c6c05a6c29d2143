-- What lists of actions send.
use Rattle.std.proofs.Common.{◌≡◌, ℕ, zero, suc, ◌+◌, ◌<◌, ◌≤◌, ◌==◌, cond, Bool, true, false, List, [], ◌∷◌, ◌++◌, length, replicate, refl, ap, arith, nat_lt}
use Rattle.pb_world.specs.Actions.{Action, Choose, Send, Enter, Leave, AnswerTable}
use Rattle.pb_world.specs.Family.{each}
use Rattle.pb_world.specs.Sequencer.{first_or}
use Rattle.pb_core_language.specs.Flat.{Block, stop, message, compute, together, choice, looped, again, Branches, count, ending, first_ending}
use Rattle.pb_core_language.specs.Run.{Setting, emit_at, words_now, branch_now, entered_now, is_allowed}
use Rattle.pb_cost_laws.specs.Sent.{Counted, Messages, Words, of_words, sent, sent_in}
use Rattle.pb_cost_laws.specs.Flats.{of_label}

pub sent_append : (what : Counted) (s t : List (ℕ × Action)) → sent_in what (s ++ t) ≡ sent_in what s + sent_in what t
sent_append what [] t = omega arith
sent_append what (e ∷ s) t = let h = sent_append what s t in omega (arith, h)

each_sends_nothing : (what : Counted) (f : ℕ → Action) → ((r : ℕ) → sent what (f r) ≡ 0) → (n : ℕ) → sent_in what (each n f) ≡ 0
each_sends_nothing what f h zero = refl
each_sends_nothing what f h (suc n) =
    let a = sent_append what (each n f) ((n, f n) ∷ []) in
    let b = each_sends_nothing what f h n in
    let d = h n in
    omega (arith, a, b, d)

-- ---- answers

by_case : {A : Type 0} (P : A → Type 0) (fine : A → Bool) (x d : A) (c : Bool) → fine x ≡ c → (fine x ≡ true → P x) → P d → P (cond c x d)
by_case P fine x d true e px pd = px e
by_case P fine x d false e px pd = pd

pub first_or_has : {A : Type 0} (P : A → Type 0) (xs : List A) (fine : A → Bool) (d : A) → ((x : A) → fine x ≡ true → P x) → P d → P (first_or xs fine d)
first_or_has P [] fine d px pd = pd
first_or_has P (x ∷ xs) fine d px pd = by_case P fine x d (fine x) refl (px x) pd

same_of_test : (a b : ℕ) → (a == b) ≡ true → a ≡ b
same_of_test a b e = grind arith

less_of_test : (a b : ℕ) → nat_lt a b ≡ true → a < b
less_of_test a b e = grind arith

pub zeros : (n : ℕ) → length {A = ℕ} (replicate n 0) ≡ n
zeros zero = refl
zeros (suc n) = ap suc (zeros n)

pub words_fit : (w : Setting) (left : AnswerTable) (from to label : ℕ) → length (words_now w left from to label) ≡ w.size label
words_fit w left from to label = first_or_has (λ ws. length ws ≡ w.size label) (left from).words (λ ws. is_allowed w from (Send to label ws)) (replicate (w.size label) 0) (λ ws e. same_of_test (length ws) (w.size label) e) (zeros (w.size label))

first_ending_case : (bs : Branches) → 1 ≤ count bs → (c : Bool) → nat_lt (ending bs) (count bs) ≡ c → cond c (ending bs) 0 < count bs
first_ending_case bs some true e = less_of_test (ending bs) (count bs) e
first_ending_case bs some false e = omega (arith, some)

pub branch_there : (w : Setting) (left : AnswerTable) (at kernel : ℕ) (bs : Branches) → 1 ≤ count bs → branch_now w left at kernel bs < count bs
branch_there w left at kernel bs some = first_or_has (λ n. n < count bs) (left at).branches (λ n. is_allowed w at (Choose kernel (count bs) n)) (first_ending bs) (λ n e. less_of_test n (count bs) e) (first_ending_case bs some (nat_lt (ending bs) (count bs)) refl)

-- ---- one step

-- what the first statement sends
abbrev pub size_at : Counted → (ℕ → ℕ) → Block → ℕ
size_at what size (message origin from to label rest) = of_label what size label
size_at what size stop = 0
size_at what size (compute origin at kernel rest) = 0
size_at what size (together origin joint rest) = 0
size_at what size (choice origin at kernel branches rest) = 0
size_at what size (looped origin body rest) = 0
size_at what size (again between) = 0

of_fitting : (what : Counted) (size : ℕ → ℕ) (label : ℕ) (words : List ℕ) → length words ≡ size label → of_words what words ≡ of_label what size label
of_fitting Messages size label words e = refl
of_fitting Words size label words e = e

pub step_sends : (w : Setting) (what : Counted) (b : Block) (left : AnswerTable) → sent_in what (emit_at w b left) ≡ size_at what w.size b
step_sends w what stop left = refl
step_sends w what (message origin from to label rest) left = let h = of_fitting what w.size label (words_now w left from to label) (words_fit w left from to label) in omega (arith, h)
step_sends w what (compute origin at kernel rest) left = refl
step_sends w what (together origin joint rest) left =
    let a = sent_append what (each w.total (λ r. Enter joint (entered_now w left joint r))) (each w.total (λ r. Leave joint (w.outcome joint r (entered_now w left joint)))) in
    let b = each_sends_nothing what (λ r. Enter joint (entered_now w left joint r)) (λ r. refl) w.total in
    let d = each_sends_nothing what (λ r. Leave joint (w.outcome joint r (entered_now w left joint))) (λ r. refl) w.total in
    omega (arith, a, b, d)
step_sends w what (choice origin at kernel branches rest) left = refl
step_sends w what (looped origin body rest) left = refl
step_sends w what (again between) left = refl

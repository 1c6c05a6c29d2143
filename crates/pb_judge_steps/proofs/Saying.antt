-- An entry says what it is.
use Rattle.std.proofs.Common.{◌≡◌, ◌≢◌, ℕ, zero, suc, Bool, true, false, List, [], ◌∷◌, length, replicate, refl, sym, ap, ap₂, ◌∙◌, arith}
use Rattle.std.specs.Prelude.{nat_eq, ◌&&◌}
use Rattle.std.specs.List.{list_all}
use Rattle.std.specs.Cmp.Lexicographic.{pointwise}
use Rattle.std.proofs.lemmas.Bool.{and_parts}
use Rattle.std.proofs.lemmas.Bool.Decides.{nat_tests}
use Rattle.std.proofs.lemmas.Slice.Eq.{bytes_eq-Decides}
use Rattle.pb_text.specs.declared.action.Action.{Action}
use Rattle.pb_text.specs.declared.action.Action.TheVariants as E
use Rattle.pb_text.specs.declared.action.Joint.{Joint}
use Rattle.pb_text.specs.declared.action.Joint.TheVariants.{Barrier, Labelled}
use Rattle.pb_world.specs.Log.{rank_of}
use Rattle.pb_judge_steps.specs.declared.made.Made.{Made}
use Rattle.pb_judge_steps.specs.declared.deed.Deed.{Deed}
use Rattle.pb_judge_steps.specs.declared.deed.Deed.TheVariants as D
use Rattle.pb_judge_steps.specs.Made.{list_of, is_zero, is_all_zero}
use Rattle.pb_judge_steps.specs.Deeds.{entry_of, same_joint, has_words, is_deed}

-- ---- zeros

none_zero : (n : ℕ) → (nat_eq 0 (suc n) && true) ≡ false
none_zero n = grind (arith, nat_tests)

more_zero : (k : ℕ) (b : Bool) → (nat_eq (suc k) 0 && b) ≡ false
more_zero k b = grind (arith, nat_tests)

next_zero : (k n w : ℕ) (a p : Bool) → (nat_eq k n && a) ≡ p → (nat_eq (suc k) (suc n) && (nat_eq w 0 && a)) ≡ (nat_eq w 0 && p)
next_zero k n w a p e = grind (arith, nat_tests)

pub zeros_are : (words : List ℕ) (count : ℕ) → is_all_zero words count ≡ pointwise nat_eq words (replicate count 0)
zeros_are [] zero = refl
zeros_are [] (suc n) = none_zero n
zeros_are (w ∷ words) zero = more_zero (length words) (list_all is_zero (w ∷ words))
zeros_are (w ∷ words) (suc n) = next_zero (length words) n w (list_all is_zero words) (pointwise nat_eq words (replicate n 0)) (zeros_are words n)

-- ---- tests

same_number : (x y : ℕ) → nat_eq x y ≡ true → x ≡ y
same_number x y h = grind (arith, nat_tests)

self_number : (x : ℕ) → nat_eq x x ≡ true
self_number x = grind (arith, nat_tests)

same_words : (ws : List ℕ) (m : Made) → has_words ws m ≡ true → ws ≡ list_of m
same_words ws m h = (bytes_eq-Decides ws (list_of m)).0 h

self_words : (m : Made) → has_words (list_of m) m ≡ true
self_words m = (bytes_eq-Decides (list_of m) (list_of m)).1 refl

joint_is : (a b : Joint) → same_joint a b ≡ true → a ≡ b
joint_is Barrier Barrier h = refl
joint_is Barrier (Labelled y) h = absurd cc
joint_is (Labelled x) Barrier h = absurd cc
joint_is (Labelled x) (Labelled y) h = ap Labelled (same_number x y h)

self_joint : (a : Joint) → same_joint a a ≡ true
self_joint Barrier = refl
self_joint (Labelled x) = self_number x

both : (a b : Bool) → a ≡ true → b ≡ true → (a && b) ≡ true
both a b e f = ap₂ (λ x y. x && y) e f

-- ---- deeds

chosen_is : (r k a at kernel branch : ℕ) → (nat_eq r at && (nat_eq k kernel && nat_eq a branch)) ≡ true → E.Choose r k a ≡ E.Choose at kernel branch
chosen_is r k a at kernel branch h =
    let p = and_parts _ _ h in
    let q = and_parts _ _ p.1 in
    let u = same_number r at p.0 in
    let v = same_number k kernel q.0 in
    let w = same_number a branch q.1 in λ i. E.Choose (u i) (v i) (w i)

run_is : (r k at kernel : ℕ) → (nat_eq r at && nat_eq k kernel) ≡ true → E.Run r k ≡ E.Run at kernel
run_is r k at kernel h =
    let p = and_parts _ _ h in
    let u = same_number r at p.0 in
    let v = same_number k kernel p.1 in λ i. E.Run (u i) (v i)

sent_is : (r t l : ℕ) (ws : List ℕ) (at peer label : ℕ) (m : Made) → (nat_eq r at && (nat_eq t peer && (nat_eq l label && has_words ws m))) ≡ true → E.Send r t l ws ≡ E.Send at peer label (list_of m)
sent_is r t l ws at peer label m h =
    let p = and_parts _ _ h in
    let q = and_parts _ _ p.1 in
    let o = and_parts _ _ q.1 in
    let u = same_number r at p.0 in
    let v = same_number t peer q.0 in
    let w = same_number l label o.0 in
    let x = same_words ws m o.1 in λ i. E.Send (u i) (v i) (w i) (x i)

received_is : (r t l : ℕ) (ws : List ℕ) (at peer label : ℕ) (m : Made) → (nat_eq r at && (nat_eq t peer && (nat_eq l label && has_words ws m))) ≡ true → E.Recv r t l ws ≡ E.Recv at peer label (list_of m)
received_is r t l ws at peer label m h =
    let p = and_parts _ _ h in
    let q = and_parts _ _ p.1 in
    let o = and_parts _ _ q.1 in
    let u = same_number r at p.0 in
    let v = same_number t peer q.0 in
    let w = same_number l label o.0 in
    let x = same_words ws m o.1 in λ i. E.Recv (u i) (v i) (w i) (x i)

entered_is : (r : ℕ) (j : Joint) (ws : List ℕ) (at : ℕ) (joint : Joint) (m : Made) → (nat_eq r at && (same_joint j joint && has_words ws m)) ≡ true → E.Enter r j ws ≡ E.Enter at joint (list_of m)
entered_is r j ws at joint m h =
    let p = and_parts _ _ h in
    let q = and_parts _ _ p.1 in
    let u = same_number r at p.0 in
    let v = joint_is j joint q.0 in
    let x = same_words ws m q.1 in λ i. E.Enter (u i) (v i) (x i)

left_is : (r : ℕ) (j : Joint) (ws : List ℕ) (at : ℕ) (joint : Joint) (m : Made) → (nat_eq r at && (same_joint j joint && has_words ws m)) ≡ true → E.Leave r j ws ≡ E.Leave at joint (list_of m)
left_is r j ws at joint m h =
    let p = and_parts _ _ h in
    let q = and_parts _ _ p.1 in
    let u = same_number r at p.0 in
    let v = joint_is j joint q.0 in
    let x = same_words ws m q.1 in λ i. E.Leave (u i) (v i) (x i)

wrong : false ≡ true → ⊥
wrong h = cc

pub says : (a : Action) (at : ℕ) (d : Deed) → is_deed a at d ≡ true → a ≡ entry_of at d
says (E.Choose r k x) at (D.Choose kernel branch) h = chosen_is r k x at kernel branch h
says (E.Run r k) at (D.Run kernel) h = run_is r k at kernel h
says (E.Send r t l ws) at (D.Send peer label m) h = sent_is r t l ws at peer label m h
says (E.Recv r t l ws) at (D.Recv peer label m) h = received_is r t l ws at peer label m h
says (E.Enter r j ws) at (D.Enter joint m) h = entered_is r j ws at joint m h
says (E.Leave r j ws) at (D.Leave joint m) h = left_is r j ws at joint m h
says a at d h = absurd (wrong h)

self_says : (at : ℕ) (d : Deed) → is_deed (entry_of at d) at d ≡ true
self_says at (D.Choose kernel branch) = both _ _ (self_number at) (both _ _ (self_number kernel) (self_number branch))
self_says at (D.Run kernel) = both _ _ (self_number at) (self_number kernel)
self_says at (D.Send peer label m) = both _ _ (self_number at) (both _ _ (self_number peer) (both _ _ (self_number label) (self_words m)))
self_says at (D.Recv peer label m) = both _ _ (self_number at) (both _ _ (self_number peer) (both _ _ (self_number label) (self_words m)))
self_says at (D.Enter joint m) = both _ _ (self_number at) (both _ _ (self_joint joint) (self_words m))
self_says at (D.Leave joint m) = both _ _ (self_number at) (both _ _ (self_joint joint) (self_words m))

pub says_not : (a : Action) (at : ℕ) (d : Deed) → is_deed a at d ≡ false → entry_of at d ≢ a
says_not a at d h e = wrong (sym h ∙ ap (λ x. is_deed x at d) (sym e) ∙ self_says at d)

pub rank_said : (at : ℕ) (d : Deed) → rank_of (entry_of at d) ≡ at
rank_said at (D.Choose kernel branch) = refl
rank_said at (D.Run kernel) = refl
rank_said at (D.Send peer label m) = refl
rank_said at (D.Recv peer label m) = refl
rank_said at (D.Enter joint m) = refl
rank_said at (D.Leave joint m) = refl

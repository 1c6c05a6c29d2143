-- The first message with a label is taken out of a list.
use Rattle.std.proofs.Common.{◌≡◌, ◌<◌, ◌≤◌, ℕ, zero, suc, ◌+◌, Bool, true, false, ◌&&◌, not, nat_eq, if◌then◌else◌, ◌⊎◌, inl, inr, Option, Some, None, List, [], ◌∷◌, ◌++◌, length, get_or, refl, ap, sym, ◌∙◌, subst, arith, length-append}
use Rattle.std.specs.List.{remove}
use Rattle.std.proofs.lemmas.Bool.{cases_lt, eq-eqb}
use Rattle.std.proofs.lemmas.Bool.Decides.{nat_tests}
use Rattle.std.proofs.lemmas.List.Edits.{remove-append_left}
use Rattle.pb_text.specs.declared.mode.Mode.TheVariants.{Eager}
use Rattle.pb_world.specs.World as W
use Rattle.pb_machine.specs.Steps.{is_there}
use Rattle.pb_chan.specs.declared.message.Message.{Message}
use Rattle.pb_chan.specs.Lists.{position}
use Rattle.pb_sim_world.specs.declared.stand.Waits.{Waits}
use Rattle.pb_sim_world.specs.Worlds.{mode_if, mode_before, moded, is_to, is_for, released}
use Rattle.pb_sim_world.specs.Sound.{IsLast}

equal_of : (a b : ℕ) → nat_eq a b ≡ true → a ≡ b
equal_of a b e = grind (arith, nat_tests)

apart_of : (a b : ℕ) → nat_eq a b ≡ false → b ≡ a → ⊥
apart_of a b e h = clash (sym (eq-eqb a b (sym h)) ∙ e) where
  clash : true ≡ false → ⊥
  clash z = cc

some_same : (a b : ℕ) → ◌≡◌ {A = Option ℕ} (Some a) (Some b) → a ≡ b
some_same a b e = cc

none_some : {P : Type 0} (b : ℕ) → ◌≡◌ {A = Option ℕ} None (Some b) → P
none_some b e = absurd (clash e) where
  clash : ◌≡◌ {A = Option ℕ} None (Some b) → ⊥
  clash z = cc

-- a position is at least where the list begins, and within it
pub bounds : (label i k : ℕ) (ms : List Message) → position label i ms ≡ Some k → (i ≤ k) × (k < i + length ms)
bounds label i k [] e = none_some k e
bounds label i k (m ∷ ms) e = by_case (nat_eq label m.label) (bounds label (suc i) k ms) e where
  by_case : (b : Bool) → (position label (suc i) ms ≡ Some k → (suc i ≤ k) × (k < suc i + length ms)) → (if b then Some i else position label (suc i) ms) ≡ Some k → (i ≤ k) × (k < i + suc (length ms))
  by_case true ih h = let s : i ≡ k = some_same i k h in (omega (arith, s), omega (arith, s))
  by_case false ih h = let p = ih h in let a : suc i ≤ k = p.0 in let b : k < suc i + length ms = p.1 in (omega (arith, a), omega (arith, b))

pub record IsTaken (label : ℕ) (b c : Bool) (ms : List Message) (at : ℕ) : Type 0 where
  pub message : W.Message
  pub taken : W.Takes label (moded b ms) message (moded c (remove ms at))
  pub words : (d : Message) → message.words ≡ (get_or ms at d).words

begins_eager : (c : Bool) (ms : List Message) (at : ℕ) → at < length ms → (suc at ≡ length ms → c ≡ false) → mode_before c (remove ms at) ≡ Eager
begins_eager c [] at h f = absurd (omega (arith, h))
begins_eager c (m ∷ []) zero h f = ap mode_if (f refl)
begins_eager c (m ∷ []) (suc at) h f = absurd (omega (arith, h))
begins_eager c (m ∷ x ∷ ms) zero h f = refl
begins_eager c (m ∷ x ∷ ms) (suc at) h f = refl

goes_on : (b : Bool) (ms : List Message) → 0 < length ms → mode_before b ms ≡ Eager
goes_on b [] h = absurd (omega (arith, h))
goes_on b (m ∷ ms) h = refl

pub takes : (label i k : ℕ) (b c : Bool) (ms : List Message) (at : ℕ) → position label i ms ≡ Some k → k ≡ i + at → (suc at ≡ length ms → c ≡ false) → (suc at < length ms → c ≡ b) → IsTaken label b c ms at
takes label i k b c [] at e h last other = none_some k e
takes label i k b c (m ∷ ms) at e h last other = by_case (nat_eq label m.label) refl e (takes label (suc i) k b c ms) where
  behind : (ms : List Message) → (suc 0 < suc (length ms) → c ≡ b) → moded b ms ≡ moded c ms
  behind [] o = refl
  behind (x ∷ xs) o = ap (λ v. moded v (x ∷ xs)) (sym (o (omega arith)))

  here : (at : ℕ) → at ≡ 0 → (suc at < length (m ∷ ms) → c ≡ b) → m.label ≡ label → IsTaken label b c (m ∷ ms) at
  here zero z o l = record {
    message = record { label = m.label; words = m.words; mode = mode_before b ms };
    taken = subst (λ rest. W.Takes label (moded b (m ∷ ms)) (record { label = m.label; words = m.words; mode = mode_before b ms }) rest) (behind ms o) (W.first l);
    words = λ d. refl;
  }
  here (suc at) z o l = absurd (omega (arith, z))

  there : ((at : ℕ) → position label (suc i) ms ≡ Some k → k ≡ suc i + at → (suc at ≡ length ms → c ≡ false) → (suc at < length ms → c ≡ b) → IsTaken label b c ms at) → (at : ℕ) → k ≡ i + at → (m.label ≡ label → ⊥) → (suc at ≡ length (m ∷ ms) → c ≡ false) → (suc at < length (m ∷ ms) → c ≡ b) → position label (suc i) ms ≡ Some k → IsTaken label b c (m ∷ ms) at
  there ih zero z n last other e = let p = bounds label (suc i) k ms e in let a : suc i ≤ k = p.0 in absurd (omega (arith, a, z))
  there ih (suc at) z n last other e =
      let p = bounds label (suc i) k ms e in
      let a : k < suc i + length ms = p.1 in
      let lt : at < length ms = omega (arith, a, z) in
      let t = ih at e (omega (arith, z)) (λ f. last (ap suc f)) (λ f. other (omega (arith, f))) in
      let g : mode_before b ms ≡ Eager = goes_on b ms (omega (arith, lt)) in
      let f : mode_before c (remove ms at) ≡ Eager = begins_eager c ms at lt (λ x. last (ap suc x)) in
      record {
        message = t.message;
        taken = subst (λ v. W.Takes label (record { label = m.label; words = m.words; mode = mode_before b ms } ∷ moded b ms) t.message (record { label = m.label; words = m.words; mode = v } ∷ moded c (remove ms at))) (g ∙ sym f) (W.later n t.taken);
        words = t.words;
      }

  by_case : (v : Bool) → nat_eq label m.label ≡ v → (if v then Some i else position label (suc i) ms) ≡ Some k → ((at : ℕ) → position label (suc i) ms ≡ Some k → k ≡ suc i + at → (suc at ≡ length ms → c ≡ false) → (suc at < length ms → c ≡ b) → IsTaken label b c ms at) → IsTaken label b c (m ∷ ms) at
  by_case true q f ih = let s : i ≡ k = some_same i k f in here at (omega (arith, s, h)) other (sym (equal_of label m.label q))
  by_case false q f ih = there ih at h (apart_of label m.label q) last other f

-- ---- a list that ends with a message

-- where the last message is the first with the label, none is before it
pub last_found : (label i k : ℕ) (front : List Message) (x : Message) → position label i (front ++ x ∷ []) ≡ Some k → k ≡ i + length front → (position label i front ≡ None) × (x.label ≡ label)
last_found label i k [] x e h = by_case (nat_eq label x.label) refl e where
  by_case : (v : Bool) → nat_eq label x.label ≡ v → (if v then Some i else None) ≡ Some k → (◌≡◌ {A = Option ℕ} None None) × (x.label ≡ label)
  by_case true q f = (refl, sym (equal_of label x.label q))
  by_case false q f = none_some k f
last_found label i k (m ∷ front) x e h = by_case (nat_eq label m.label) e (λ f. last_found label (suc i) k front x f (omega (arith, h))) where
  by_case : (v : Bool) → (if v then Some i else position label (suc i) (front ++ x ∷ [])) ≡ Some k → (position label (suc i) (front ++ x ∷ []) ≡ Some k → (position label (suc i) front ≡ None) × (x.label ≡ label)) → ((if v then Some i else position label (suc i) front) ≡ None) × (x.label ≡ label)
  by_case true f ih = let s : i ≡ k = some_same i k f in absurd (omega (arith, s, h))
  by_case false f ih = ih f

pub ends_there : (label i : ℕ) (front : List Message) (x : Message) → x.label ≡ label → is_there (position label i (front ++ x ∷ [])) ≡ true
ends_there label i [] x e = let b : nat_eq label x.label ≡ true = eq-eqb label x.label (sym e) in rw b refl
ends_there label i (m ∷ front) x e = by_case (nat_eq label m.label) (ends_there label (suc i) front x e) where
  by_case : (v : Bool) → is_there (position label (suc i) (front ++ x ∷ [])) ≡ true → is_there (if v then Some i else position label (suc i) (front ++ x ∷ [])) ≡ true
  by_case true h = refl
  by_case false h = h

removed_last : (front : List Message) (x : Message) → remove (front ++ x ∷ []) (length front) ≡ front
removed_last [] x = refl
removed_last (m ∷ front) x = ap (λ xs. m ∷ xs) (removed_last front x)

-- ---- who waits goes on exactly where its message was taken

pub record IsReleased (w : Option Waits) (by label : ℕ) (ms : List Message) (at : ℕ) (new : Option Waits) : Type 0 where
  pub last : suc at ≡ length ms → is_to new by ≡ false
  pub other : suc at < length ms → is_to new by ≡ is_to w by
  pub away : (q : ℕ) → (q ≡ by → ⊥) → is_to new q ≡ is_to w q
  pub again : (new ≡ None) ⊎ ((new ≡ w) × (is_to w by ≡ true → suc at < length ms))

pub release_none : (by label : ℕ) (ms : List Message) (at : ℕ) (left : Bool) → IsReleased None by label ms at (released None by label left)
release_none by label ms at left = record { last = λ e. refl; other = λ e. refl; away = λ q e. refl; again = inl refl }

pub release_other : (w : Waits) (by label : ℕ) (ms : List Message) (at : ℕ) (left : Bool) → nat_eq w.by by ≡ false → IsReleased (Some w) by label ms at (released (Some w) by label left)
release_other w by label ms at left e =
    let r : released (Some w) by label left ≡ Some w = ap (λ b. if (b && nat_eq w.label label) && not left then None else Some w) e in
    subst (IsReleased (Some w) by label ms at) (sym r) (record {
      last = λ f. e;
      other = λ f. refl;
      away = λ q f. refl;
      again = inr (refl, λ f. absurd (clash (sym f ∙ e)));
    }) where
      clash : true ≡ false → ⊥
      clash z = cc

pub release_it : (w : Waits) (by label : ℕ) (ms : List Message) (at : ℕ) (left : Bool) → nat_eq w.by by ≡ true → IsLast w.label ms → position label 0 ms ≡ Some at → left ≡ is_there (position label 0 (remove ms at)) → IsReleased (Some w) by label ms at (released (Some w) by label left)
release_it w by label ms at left e last p l = by_place (cases_lt at (length last.front)) where
  x : Message
  x = record { label = w.label; words = last.words }

  long : length ms ≡ length last.front + 1
  long = ap length last.is ∙ length-append last.front (x ∷ [])

  found : position label 0 (last.front ++ x ∷ []) ≡ Some at
  found = ap (position label 0) (sym last.is) ∙ p

  kept : (b : Bool) → is_for (Some w) by label && not left ≡ b → IsReleased (Some w) by label ms at (if b then None else Some w) → IsReleased (Some w) by label ms at (released (Some w) by label left)
  kept b q r = subst (λ v. IsReleased (Some w) by label ms at (if v then None else Some w)) (sym q) r

  by_place : (at < length last.front) ⊎ (length last.front ≤ at) → IsReleased (Some w) by label ms at (released (Some w) by label left)
  by_place (inl lt) = kept false (by_label (nat_eq w.label label) refl) (record {
    last = λ f. absurd (omega (arith, f, long, lt));
    other = λ f. refl;
    away = λ q f. refl;
    again = inr (refl, λ f. omega (arith, long, lt));
  }) where
    by_label : (v : Bool) → nat_eq w.label label ≡ v → is_for (Some w) by label && not left ≡ false
    by_label false q = rw (q, e) refl
    by_label true q =
        let g : remove ms at ≡ remove last.front at ++ x ∷ [] = ap (λ xs. remove xs at) last.is ∙ remove-append_left last.front (x ∷ []) at lt in
        let t : left ≡ true = l ∙ ap (λ xs. is_there (position label 0 xs)) g ∙ ends_there label 0 (remove last.front at) x (equal_of w.label label q) in
        rw (q, e, t) refl
  by_place (inr le) =
      let b = bounds label 0 at ms p in
      let u : at < 0 + length ms = b.1 in
      let a : at ≡ length last.front = omega (arith, le, long, u) in
      let f = last_found label 0 at last.front x found (omega (arith, a)) in
      let g : remove ms at ≡ last.front = ap (λ xs. remove xs at) last.is ∙ ap (remove (last.front ++ x ∷ [])) a ∙ removed_last last.front x in
      let t : left ≡ false = l ∙ ap (λ xs. is_there (position label 0 xs)) g ∙ ap is_there f.0 in
      let q : nat_eq w.label label ≡ true = eq-eqb w.label label f.1 in
      kept true (rw (q, e, t) refl) (record {
        last = λ h. refl;
        other = λ h. absurd (omega (arith, h, long, a));
        away = λ k h. not_to k h;
        again = inl refl;
      }) where
        not_to : (k : ℕ) → (k ≡ by → ⊥) → false ≡ nat_eq w.by k
        not_to k h = let d : w.by ≡ by = equal_of w.by by e in grind (arith, h, d)

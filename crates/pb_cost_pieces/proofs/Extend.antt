-- A stretch with more numbers.
use Rattle.std.proofs.Common.{◌≡◌, ◌≢◌, ℤ, pos, ◌+ℤ◌, ◌-ℤ◌, ◌≤ℤ◌, ◌<ℤ◌, List, [], ◌∷◌, ◌++◌, refl, sym, ap, ◌∙◌, subst, arith}
use Rattle.std.proofs.lemmas.Int.{ints}
use Rattle.pb_cost_pieces.specs.declared.stretch.Stretch.{Stretch}
use Rattle.pb_cost_pieces.specs.Lines.{along, value_at, IsOpen}
use Rattle.pb_cost_pieces.specs.Building.{Adds, Extends, Leaves, Follows, IsTurned}
use Rattle.pb_cost_pieces.proofs.Build.{second_number, stretched, begun, open_new, next_numbers, goes_on, turns, from_next, at_first, at_next, same_line}

after_last : (m : ℤ) → m <ℤ (m +ℤ pos 1)
after_last m = omega (arith, ints)

no_later : (m n : ℤ) → n ≡ m → m ≤ℤ n
no_later m n e = omega (arith, ints)

only_next : (m n : ℤ) → m <ℤ n → n ≤ℤ (m +ℤ pos 1) → n ≡ m +ℤ pos 1
only_next m n lt le = omega (arith, ints)

met : (x y v : ℤ) → y ≡ v -ℤ x → x +ℤ y ≡ v
met x y v e = omega (arith, ints)

-- ---- one number more

pub second_extends : (s t : Stretch) (v : ℤ) → s.from ≡ s.to → t.from ≡ s.from → t.to ≡ s.to +ℤ pos 1 → t.start ≡ s.start → t.slope ≡ v -ℤ s.start → Extends (λ n. v) (s.to +ℤ pos 1) s t
second_extends s t v single t_from t_to t_start t_slope = record {
  to = t_to;
  last = at_next t t.to t.from (t_to ∙ ap (λ x. x +ℤ pos 1) (sym single ∙ sym t_from)) ∙ ap (λ x. x +ℤ t.slope) (at_first t t.from refl ∙ t_start) ∙ met s.start t.slope v t_slope;
  adds = λ done. record { so_far = λ f from is so_far. second_number f from done s t v single t_from t_to t_start t_slope (is (s.to +ℤ pos 1) (after_last s.to) (no_later (s.to +ℤ pos 1) t.to t_to)) so_far };
}

pub number_extends : (s t : Stretch) (v : ℤ) → value_at s (s.to +ℤ pos 1) ≡ v → t.from ≡ s.from → t.to ≡ s.to +ℤ pos 1 → t.start ≡ s.start → t.slope ≡ s.slope → Extends (λ n. v) (s.to +ℤ pos 1) s t
number_extends s t v on t_from t_to t_start t_slope = record {
  to = t_to;
  last = same_line s t t.to t_from t_start t_slope ∙ ap (λ x. value_at s x) t_to ∙ on;
  adds = λ done. record {
    so_far = λ f from is so_far. stretched f from done s t (s.to +ℤ pos 1) (omega (arith, ints)) t_from t_to t_start t_slope
        (λ n gt le. is n gt (subst (λ x. n ≤ℤ x) (sym t_to) le) ∙ sym on ∙ ap (λ x. value_at s x) (sym (only_next s.to n gt le))) so_far;
  };
}

-- ---- more numbers on a line

pub next_extends : (s t : Stretch) (to slope : ℤ) → s.from ≡ s.to → s.to <ℤ to → t.from ≡ s.from → t.to ≡ to → t.start ≡ s.start → t.slope ≡ slope → Extends (along (value_at s s.to) slope s.to) to s t
next_extends s t to slope single beyond t_from t_to t_start t_slope = record {
  to = t_to;
  last = ap (λ x. along x t.slope t.from t.to) (t_start ∙ sym (at_first s s.to (sym single))) ∙ ap (λ x. along (value_at s s.to) x t.from t.to) t_slope ∙ ap (λ x. along (value_at s s.to) slope x t.to) (t_from ∙ single) ∙ ap (λ x. along (value_at s s.to) slope s.to x) t_to;
  adds = λ done. record { so_far = λ f from is so_far. next_numbers f from done s t to slope single beyond t_from t_to t_start t_slope (λ n gt le. is n gt (subst (λ x. n ≤ℤ x) (sym t_to) le)) so_far };
}

pub line_extends : (s t : Stretch) (to slope : ℤ) → s.slope ≡ slope → s.to <ℤ to → t.from ≡ s.from → t.to ≡ to → t.start ≡ s.start → t.slope ≡ s.slope → Extends (along (value_at s s.to) slope s.to) to s t
line_extends s t to slope same beyond t_from t_to t_start t_slope = record {
  to = t_to;
  last = same_line s t t.to t_from t_start t_slope ∙ ap (λ x. value_at s x) t_to ∙ sym (goes_on s slope to same);
  adds = λ done. record {
    so_far = λ f from is so_far. stretched f from done s t to (omega (arith, ints, beyond)) t_from t_to t_start t_slope
        (λ n gt le. is n gt (subst (λ x. n ≤ℤ x) (sym t_to) le) ∙ goes_on s slope n same) so_far;
  };
}

pub line_leaves : (s : Stretch) (slope : ℤ) → s.from ≢ s.to → s.slope ≢ slope → Leaves (along (value_at s s.to) slope s.to) s
line_leaves s slope long ne = record {
  long = long;
  off = turns (along (value_at s s.to) slope s.to) s slope (s.to +ℤ pos 1) ne (after_last s.to) (λ n gt le. refl);
}

-- ---- a stretch that begins where the one before leaves its line

-- a function that is the same on the stretch
pub open_as : (g h : ℤ → ℤ) (t : Stretch) → ((n : ℤ) → t.from ≤ℤ n → n ≤ℤ t.to → h n ≡ g n) → IsOpen g t → IsOpen h t
open_as g h t same is = record { some = is.some; single = is.single; on = λ n low high. same n low high ∙ is.on n low high }

after_to : (m from n : ℤ) → from ≡ m +ℤ pos 1 → from ≤ℤ n → m <ℤ n
after_to m from n e le = omega (arith, ints, e, le)

next_there : (m from to : ℤ) → from ≡ m +ℤ pos 1 → from ≤ℤ to → (m +ℤ pos 1) ≤ℤ to
next_there m from to e le = omega (arith, ints, e, le)

pub begins : (g : ℤ → ℤ) (done : List Stretch) (s : Stretch) (end_at : ℤ) (t : Stretch) → Leaves g s → Follows g s end_at t → Adds g done s (done ++ s ∷ []) t
begins g done s end_at t leaves follows = record {
  so_far = λ f from as_g so_far.
      let there : f (s.to +ℤ pos 1) ≡ g (s.to +ℤ pos 1) = as_g (s.to +ℤ pos 1) (after_last s.to) (next_there s.to t.from t.to follows.from follows.open_one.some) in
      begun f from done s t leaves.long follows.from (λ e. leaves.off (sym there ∙ e))
      (open_as g f t (λ n low high. as_g n (after_to s.to t.from n follows.from low) high) follows.open_one) so_far;
}

pub last_of : (g : ℤ → ℤ) (s : Stretch) (end_at : ℤ) (t : Stretch) → Follows g s end_at t → value_at t t.to ≡ g end_at
last_of g s end_at t follows = sym (follows.open_one.on t.to follows.open_one.some (le_same t.to)) ∙ ap g follows.to where
  le_same : (x : ℤ) → x ≤ℤ x
  le_same x = omega (arith, ints)

-- the same, once it has turned
pub turned_adds : (g : ℤ → ℤ) (done : List Stretch) (s : Stretch) (end_at : ℤ) (t : Stretch) (longer : List Stretch) (now_latest : Stretch) → Leaves g s → Follows g s end_at t → IsTurned done s t longer now_latest → Adds g done s longer now_latest
turned_adds g done s end_at t longer now_latest leaves follows is =
    subst (λ xs. Adds g done s xs now_latest) (sym is.done_is) (subst (λ u. Adds g done s (done ++ s ∷ []) u) (sym is.latest_is) (begins g done s end_at t leaves follows))

pub turned_last : (g : ℤ → ℤ) (done : List Stretch) (s : Stretch) (end_at : ℤ) (t : Stretch) (longer : List Stretch) (now_latest : Stretch) → Follows g s end_at t → IsTurned done s t longer now_latest → value_at now_latest now_latest.to ≡ g end_at
turned_last g done s end_at t longer now_latest follows is = subst (λ u. value_at u u.to ≡ g end_at) (sym is.latest_is) (last_of g s end_at t follows)

pub turned_to : (g : ℤ → ℤ) (done : List Stretch) (s : Stretch) (end_at : ℤ) (t : Stretch) (longer : List Stretch) (now_latest : Stretch) → Follows g s end_at t → IsTurned done s t longer now_latest → now_latest.to ≡ end_at
turned_to g done s end_at t longer now_latest follows is = subst (λ u. u.to ≡ end_at) (sym is.latest_is) follows.to

-- ---- such stretches

pub number_follows : (s t : Stretch) (value : ℤ) → t.from ≡ s.to +ℤ pos 1 → t.to ≡ s.to +ℤ pos 1 → t.start ≡ value → t.slope ≡ pos 0 → Follows (λ n. value) s (s.to +ℤ pos 1) t
number_follows s t value t_from t_to t_start flat = record {
  from = t_from;
  to = t_to;
  open_one = record {
    some = omega (arith, ints, t_from, t_to);
    single = λ e. flat;
    on = λ n low high. sym (at_first t n (here n low high) ∙ t_start);
  };
} where
  here : (n : ℤ) → t.from ≤ℤ n → n ≤ℤ t.to → n ≡ t.from
  here n low high = omega (arith, ints, t_from, t_to, low, high)

pub line_follows : (s t : Stretch) (to slope : ℤ) → t.from ≡ s.to +ℤ pos 1 → t.to ≡ to → t.start ≡ value_at s s.to +ℤ slope → s.to <ℤ to → (s.to +ℤ pos 1 ≡ to → t.slope ≡ pos 0) → ((s.to +ℤ pos 1) <ℤ to → t.slope ≡ slope) → Follows (along (value_at s s.to) slope s.to) s to t
line_follows s t to slope t_from t_to t_start beyond flat steep = record {
  from = t_from;
  to = t_to;
  open_one = open_new (along (value_at s s.to) slope s.to) t (s.to +ℤ pos 1) to (value_at s s.to +ℤ slope) slope t_from t_to t_start (omega (arith, ints, beyond)) flat steep
      (λ n low high. from_next (value_at s s.to) slope s.to n);
}

-- ---- one after the other

pub adds_as : (g h : ℤ → ℤ) (done : List Stretch) (s : Stretch) (longer : List Stretch) (t : Stretch) → ((n : ℤ) → s.to <ℤ n → n ≤ℤ t.to → h n ≡ g n) → Adds g done s longer t → Adds h done s longer t
adds_as g h done s longer t same adds = record { so_far = λ f from is so_far. adds.so_far f from (λ n gt le. is n gt le ∙ same n gt le) so_far }

pub adds_both : (g : ℤ → ℤ) (a : List Stretch) (s : Stretch) (b : List Stretch) (t : Stretch) (c : List Stretch) (u : Stretch) → s.to ≤ℤ t.to → t.to ≤ℤ u.to → Adds g a s b t → Adds g b t c u → Adds g a s c u
adds_both g a s b t c u first then one two = record {
  so_far = λ f from is so_far.
      two.so_far f from (λ n gt le. is n (omega (arith, ints, first, gt)) le) (one.so_far f from (λ n gt le. is n gt (omega (arith, ints, then, le))) so_far);
}

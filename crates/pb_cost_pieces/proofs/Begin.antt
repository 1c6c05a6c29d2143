-- The first number, and the whole list.
use Rattle.std.proofs.Common.{◌≡◌, ℤ, pos, ◌+ℤ◌, ◌≤ℤ◌, ◌<ℤ◌, List, [], ◌∷◌, ◌++◌, refl, sym, ap, ◌∙◌, subst, arith}
use Rattle.std.proofs.lemmas.Int.{ints}
use Rattle.pb_cost_pieces.specs.declared.stretch.Stretch.{Stretch}
use Rattle.pb_cost_pieces.specs.Lines.{along, value_at, nothing, AreSoFar, AreStretches}
use Rattle.pb_cost_pieces.specs.Building.{Adds}
use Rattle.pb_cost_pieces.proofs.Lines.{along_here}
use Rattle.pb_cost_pieces.proofs.Build.{finished, at_first}
use Rattle.pb_cost_pieces.proofs.Extend.{adds_as, adds_both}

between : (n from to : ℤ) → from ≤ℤ n → n ≤ℤ to → to ≡ from → n ≡ from
between n from to h g e = omega (arith, ints, h, g, e)

pub first_number : (f : ℤ → ℤ) (done : List Stretch) (s : Stretch) (from value : ℤ) → done ≡ [] → s.from ≡ from → s.to ≡ from → s.start ≡ value → s.slope ≡ pos 0 → f from ≡ value → AreSoFar f from done s
first_number f done s from value empty s_from s_to s_start flat is = subst (λ xs. AreSoFar f from xs s) (sym empty) (record {
  closed = nothing from (sym s_from);
  last = record {
    some = omega (arith, ints, s_from, s_to);
    single = λ e. flat;
    on = λ n low high.
        let here : n ≡ s.from = between n s.from s.to low high (s_to ∙ sym s_from) in
        ap f (here ∙ s_from) ∙ is ∙ sym (at_first s n here ∙ s_start);
  };
})

pub all_stretches : (f : ℤ → ℤ) (from : ℤ) (done : List Stretch) (s : Stretch) → AreSoFar f from done s → AreStretches f s.to from (done ++ s ∷ [])
all_stretches f from done s so_far = finished f s.to s.from from done s refl refl so_far.last so_far.closed

-- ---- a number and then a line

pub line_added : (start slope m to : ℤ) (a : List Stretch) (s : Stretch) (b : List Stretch) (t : Stretch) (c : List Stretch) (u : Stretch) → s.to ≡ m → t.to ≡ m +ℤ pos 1 → u.to ≡ to → (m +ℤ pos 1) <ℤ to → value_at t t.to ≡ start →
    Adds (λ n. start) a s b t → Adds (along (value_at t t.to) slope t.to) b t c u → Adds (along start slope (m +ℤ pos 1)) a s c u
line_added start slope m to a s b t c u s_to t_to u_to more value one two =
    adds_both (along start slope (m +ℤ pos 1)) a s b t c u (omega (arith, ints, s_to, t_to)) (omega (arith, ints, t_to, u_to, more))
    (adds_as (λ n. start) (along start slope (m +ℤ pos 1)) a s b t (λ n gt le. ap (λ x. along start slope (m +ℤ pos 1) x) (only n gt le) ∙ along_here start slope (m +ℤ pos 1)) one)
    (adds_as (along (value_at t t.to) slope t.to) (along start slope (m +ℤ pos 1)) b t c u (λ n gt le. ap (λ x. along x slope (m +ℤ pos 1) n) (sym value) ∙ ap (λ x. along (value_at t t.to) slope x n) (sym t_to)) two) where
      only : (n : ℤ) → s.to <ℤ n → n ≤ℤ t.to → n ≡ m +ℤ pos 1
      only n gt le = omega (arith, ints, s_to, t_to, gt, le)

pub number_added : (start slope m : ℤ) (a : List Stretch) (s : Stretch) (b : List Stretch) (t : Stretch) → s.to ≡ m → t.to ≡ m +ℤ pos 1 → Adds (λ n. start) a s b t → Adds (along start slope (m +ℤ pos 1)) a s b t
number_added start slope m a s b t s_to t_to one =
    adds_as (λ n. start) (along start slope (m +ℤ pos 1)) a s b t (λ n gt le. ap (λ x. along start slope (m +ℤ pos 1) x) (only n gt le) ∙ along_here start slope (m +ℤ pos 1)) one where
      only : (n : ℤ) → s.to <ℤ n → n ≤ℤ t.to → n ≡ m +ℤ pos 1
      only n gt le = omega (arith, ints, s_to, t_to, gt, le)

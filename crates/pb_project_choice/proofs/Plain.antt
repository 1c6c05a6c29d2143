-- Areas that guards can say beside any others.
use Rattle.std.proofs.Common.{◌≡◌, ◌≤◌, ◌<ℤ◌, ◌≤ℤ◌, inl, inr, ◌⊎◌, ℕ, ℤ, pos, Bool, true, false, nat_lt, Option, Some, None, List, [], ◌∷◌, ◌++◌, refl, arith}
use Rattle.std.specs.Prelude.{IfSome}
use Rattle.std.specs.List.{All, Contains}
use Rattle.std.proofs.lemmas.List.Elements.{All-nil, All-cons, All-append, All-weaker, Contains-append_left, Contains-append_right}
use Rattle.std.proofs.lemmas.Bool.{ltb-true}
use Rattle.std.proofs.lemmas.Bool.Decides.{nat_tests}
use Rattle.std.proofs.lemmas.Int.{ints}
use Rattle.pb_affine.specs.declared.lin.Base.TheVariants.{Fixed, Param}
use Rattle.pb_affine.specs.declared.lin.Lin.{Lin}
use Rattle.pb_affine.specs.declared.range.NRange.{NRange}
use Rattle.pb_affine.specs.Values.{is_up_to}
use Rattle.pb_part_areas.specs.declared.area.Area.{Area}
use Rattle.pb_part_areas.specs.Fits.{Fits, IsCutOf, IsEdgeOf, IsEdgeOfIf}
use Rattle.pb_cases.specs.Breakpoints.{IsCut, IsBreakpoint, IsMeeting}
use Rattle.pb_project_choice.specs.Sayable.{AreSayable, IsPlainLin, IsSayable}

-- ---- more cuts

module _ (cuts more : List Lin) (h : (l : Lin) → Contains cuts l → Contains more l) where
  cut_more : (l : Lin) → IsCutOf cuts l → IsCutOf more l
  cut_more l c = record { there = h l c.there; no_var = c.no_var; least = c.least; most = c.most }

  meeting_more : (n : ℤ) → IsMeeting cuts n → IsMeeting more n
  meeting_more n m = record { d = m.d; c = m.c; d_in = h m.d m.d_in; c_in = h m.c m.c_in; d_fixed = m.d_fixed; c_moves = m.c_moves; here = m.here }

  why_more : (n : ℤ) (a : Type 0) → a ⊎ IsMeeting cuts n → a ⊎ IsMeeting more n
  why_more n a (inl e) = inl e
  why_more n a (inr m) = inr (meeting_more n m)

  break_more : (range : NRange) (n : ℤ) → IsBreakpoint range cuts n → IsBreakpoint range more n
  break_more range n b = record { in_range = b.in_range; why = why_more n (n ≡ pos range.low) b.why }

  edge_more : (range : NRange) (n : ℤ) → IsEdgeOf range cuts n → IsEdgeOf range more n
  edge_more range n e = record { edge = go e.edge }
    where
      go : IsBreakpoint range cuts n ⊎ ((n <ℤ pos range.low) ⊎ (is_up_to n range.high ≡ false)) → IsBreakpoint range more n ⊎ ((n <ℤ pos range.low) ⊎ (is_up_to n range.high ≡ false))
      go (inl b) = inl (break_more range n b)
      go (inr k) = inr k

  edge_if_more : (range : NRange) (o : Option ℕ) → IsEdgeOfIf range cuts o → IsEdgeOfIf range more o
  edge_if_more range None e = tt
  edge_if_more range (Some m) e = edge_more range (pos m) e

  pub fits_more : (range : NRange) (a : Area) → Fits range cuts a → Fits range more a
  fits_more range a f = record { low = cut_more a.low f.low; end = cut_more a.end f.end; from = edge_more range (pos a.from) f.from; until = edge_if_more range a.until f.until }

-- two lists that can be said fit the same cuts
pub record BothFit (range : NRange) (xs ys : List Area) : Type 0 where
  pub cuts : List Lin
  pub are_cuts : All IsCut cuts
  pub first : All (Fits range cuts) xs
  pub second : All (Fits range cuts) ys

pub both_fit : (range : NRange) (xs ys : List Area) → AreSayable range xs → AreSayable range ys → BothFit range xs ys
both_fit range xs ys a b = record {
  cuts = a.cuts ++ b.cuts;
  are_cuts = All-append IsCut a.cuts b.cuts a.are_cuts b.are_cuts;
  first = All-weaker (Fits range a.cuts) (Fits range (a.cuts ++ b.cuts)) (fits_more a.cuts (a.cuts ++ b.cuts) (λ l c. Contains-append_left a.cuts b.cuts l c) range) xs a.fit;
  second = All-weaker (Fits range b.cuts) (Fits range (a.cuts ++ b.cuts)) (fits_more b.cuts (a.cuts ++ b.cuts) (λ l c. Contains-append_right a.cuts b.cuts l c) range) ys b.fit;
}

-- ---- plain areas

abbrev fixed : ℕ → Lin
fixed n = record { base = Fixed; off = pos n }

abbrev param : Lin
param = record { base = Param; off = pos 0 }

abbrev until_cut : Option ℕ → ℕ
until_cut None = 0
until_cut (Some u) = u

abbrev cuts_of : Area → List Lin
cuts_of a = a.low ∷ a.end ∷ fixed a.from ∷ param ∷ fixed (until_cut a.until) ∷ []

small_fixed : (n : ℕ) → n ≤ 1000000 → IsCut (fixed n)
small_fixed n h = record { no_var = λ e. cc; small = record { low = omega (arith, ints); high = omega (arith, ints, h) } }

small_param : IsCut param
small_param = record { no_var = λ e. cc; small = record { low = omega (arith, ints); high = omega (arith, ints) } }

plain_cut : (l : Lin) → IsPlainLin l → IsCut l
plain_cut l h = let least = h.least in record { no_var = h.no_var; small = record { low = omega (arith, ints, least); high = h.most } }

until_small : (o : Option ℕ) → IfSome o (λ n. n ≤ 1000000) → until_cut o ≤ 1000000
until_small None h = omega arith
until_small (Some u) h = h

module _ (range : NRange) (cuts : List Lin) (p_in : Contains cuts param) where
  meets : (n : ℕ) → Contains cuts (fixed n) → IsMeeting cuts (pos n)
  meets n c = record { d = fixed n; c = param; d_in = c; c_in = p_in; d_fixed = refl; c_moves = refl; here = inl (omega (arith, ints)) }

  edge : (n : ℕ) → Contains cuts (fixed n) → IsEdgeOf range cuts (pos n)
  edge n c = record { edge = go (nat_lt n range.low) (is_up_to (pos n) range.high) refl refl }
    where
      go : (a b : Bool) → nat_lt n range.low ≡ a → is_up_to (pos n) range.high ≡ b → IsBreakpoint range cuts (pos n) ⊎ ((pos n <ℤ pos range.low) ⊎ (is_up_to (pos n) range.high ≡ false))
      go true b e f = inr (inl (below n range.low e))
        where
          below : (n m : ℕ) → nat_lt n m ≡ true → pos n <ℤ pos m
          below n m e = let lt = ltb-true n m e in omega (arith, ints, lt)
      go false false e f = inr (inr f)
      go false true e f = inl (record { in_range = record { low = above n range.low e; high = f }; why = inr (meets n c) })
        where
          above : (n m : ℕ) → nat_lt n m ≡ false → pos m ≤ℤ pos n
          above n m e = grind (arith, ints, nat_tests)

  edge_if : (o : Option ℕ) → Contains cuts (fixed (until_cut o)) → IsEdgeOfIf range cuts o
  edge_if None c = tt
  edge_if (Some u) c = edge u c

pub plain_area : (a : Area) → IsPlainLin a.low × IsPlainLin a.end → (a.from ≤ 1000000) × IfSome a.until (λ n. n ≤ 1000000) → IsSayable a
plain_area a ends early = let low = ends.0 in let end = ends.1 in let from = early.0 in let until = early.1 in record {
  is = λ range.
      let p_in : Contains (cuts_of a) param = (3, omega arith, refl) in
      record {
        cuts = cuts_of a;
        are_cuts =
            All-cons IsCut a.low (a.end ∷ fixed a.from ∷ param ∷ fixed (until_cut a.until) ∷ []) (plain_cut a.low low)
            (All-cons IsCut a.end (fixed a.from ∷ param ∷ fixed (until_cut a.until) ∷ []) (plain_cut a.end end)
            (All-cons IsCut (fixed a.from) (param ∷ fixed (until_cut a.until) ∷ []) (small_fixed a.from from)
            (All-cons IsCut param (fixed (until_cut a.until) ∷ []) small_param
            (All-cons IsCut (fixed (until_cut a.until)) [] (small_fixed (until_cut a.until) (until_small a.until until)) (All-nil IsCut)))));
        fit = All-cons (Fits range (cuts_of a)) a [] (record {
          low = record { there = (0, omega arith, refl); no_var = low.no_var; least = low.least; most = low.most };
          end = record { there = (1, omega arith, refl); no_var = end.no_var; least = end.least; most = end.most };
          from = edge range (cuts_of a) p_in a.from (2, omega arith, refl);
          until = edge_if range (cuts_of a) p_in a.until (4, omega arith, refl);
        }) (All-nil (Fits range (cuts_of a)));
      };
}

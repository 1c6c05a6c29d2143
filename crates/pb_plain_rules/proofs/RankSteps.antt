-- The ranks, one after the other.
use Rattle.std.proofs.Common.{◌≡◌, ℕ, zero, suc, ◌+◌, ◌<◌, Bool, List, [], ◌∷◌, ◌++◌, map, length, slice_index_or, append_assoc, refl, ap, ap₂, sym, ◌∙◌, arith}
use Rattle.pb_core_language.specs.Ranks as R
use Rattle.pb_core_language.specs.Ranks.{seat_at}
use Rattle.pb_core_language.specs.Tree.{Mark}
use Rattle.pb_core_language.specs.Flat.{Block}
use Rattle.pb_core_language.specs.Outcomes.{Outcome}
use Rattle.pb_core_language.specs.Lists.{over_below}
use Rattle.pb_core_language.specs.Rules.{Breach, ranked, misfits}
use Rattle.pb_plain.specs.declared.flat.Seat.{Seat}
use Rattle.pb_plain.specs.declared.held.Held.{fold-roll-Held}
use Rattle.pb_plain.specs.declared.held.Held.TheVariants.{Top, rolls-Top}
use Rattle.pb_plain.specs.declared.held.Held.TheOpen as L
use Rattle.pb_plain.specs.Loops.{held_at, held_layer}
use Rattle.pb_plain.specs.View.{seat_of}

pub top_is : (r : ℕ) → held_at r Top ≡ []
top_is r = ap (held_at r) (sym rolls-Top) ∙ fold-roll-Held (List Bool) (held_layer r) L.Top

pub item_at : (xs : List Seat) (n : ℕ) (z : Seat) → n < length xs → seat_of (slice_index_or xs n z) ≡ seat_at n (map seat_of xs)
item_at [] n z h = absurd (omega arith)
item_at (x ∷ xs) zero z h = refl
item_at (x ∷ xs) (suc n) z h = item_at xs n z (omega arith)

-- a rank's breaches are added to those of the ranks before
pub told_step : (k : ℕ) (fits : List Outcome → List Outcome → Bool) (ranks : List R.Seat) (b : Block) (n : ℕ) (seat : R.Seat) (marks : List Mark) (old so_far new : List Breach) →
    seat ≡ seat_at n ranks → marks ≡ misfits fits (held_at n Top) n b →
    so_far ≡ old ++ over_below n (λ r. map (ranked k (seat_at r ranks)) (misfits fits [] r b)) →
    new ≡ so_far ++ map (ranked k seat) marks →
    new ≡ old ++ over_below (n + 1) (λ r. map (ranked k (seat_at r ranks)) (misfits fits [] r b))
told_step k fits ranks b n seat marks old so_far new at are before added =
    let e : suc n ≡ n + 1 = omega arith in
    added
    ∙ ap₂ (λ x y. x ++ y) before (ap₂ (λ s m. map (ranked k s) m) at (are ∙ ap (λ h. misfits fits h n b) (top_is n)))
    ∙ append_assoc old _ _
    ∙ ap (λ m. old ++ over_below m (λ r. map (ranked k (seat_at r ranks)) (misfits fits [] r b))) e

-- What each form below a statement reads: numbers within 100,000, and no fewer tokens than what is counted in it.
use Rattle.std.proofs.Common.{◌≡◌, ℕ, zero, suc, ◌<◌, ◌≤◌, ◌==◌, Bool, true, false, nat_lt, if◌then◌else◌, Some, None, refl, sym, arith, subst}
use Rattle.std.proofs.lemmas.Bool.Decides.{nat_tests}
use Rattle.std.specs.Prelude.{ℤ, pos, negsuc, ◌-ℤ◌}
use Rattle.std.proofs.Math.IntN.{+ℤ_idl}
use Rattle.pb_text.specs.declared.place.Spot.{Spot}
use Rattle.pb_text.specs.declared.quantity.Quantity.TheVariants as quantity
use Rattle.pb_text.specs.declared.token.Mark.TheVariants as marks
use Rattle.pb_text.specs.declared.token.Key.TheVariants as keys
use Rattle.pb_syntax.specs.declared.tree.IndexText.{IndexText}
use Rattle.pb_syntax.specs.declared.tree.IndexText.TheVariants as index
use Rattle.pb_syntax.specs.Grammar.{offset, lin, range, top, role_range, type, count, carried, payload, op, plain_index, plain_end, after_name, bracketed, any_index, any_end, end_beside}
use Rattle.pb_parse.specs.declared.limits.Behind.{Behind}
use Rattle.pb_parse.specs.declared.limits.Behind.TheVariants as behind
use Rattle.pb_parse.specs.Limits.{above, number_behind}
use Rattle.pb_core_language.specs.Sound.{is_small}
use Rattle.pb_parse_laws.proofs.Does.{Stays, done_does, weaker, softer, ◌>>>◌, ◌>>=◌, ◌or_does◌}
use Rattle.pb_parse_laws.proofs.Tokens.{mark_step, key_step, name_step, number_step, count_step}
use Rattle.pb_parse_laws.proofs.Shape.{IsSmallLin, IsSmallRange, IsSmallOver, IsSmallIndex, IsPlainIndex, IsSmallEnd, IsPlainEnd, over_weight, index_weight}

-- ---- small numbers

pub small_pos : (n : ℕ) → n ≤ 100000 → is_small (pos n) ≡ true
small_pos n h = grind (arith, nat_tests)

pub small_minus : (n : ℕ) → n ≤ 100000 → is_small (pos 0 -ℤ pos n) ≡ true
small_minus zero h = small_pos 0 h
small_minus (suc n) h = subst (λ (z : ℤ). is_small z ≡ true) (minus_is n) (small_negsuc n h)
  where
    minus_is : (n : ℕ) → negsuc n ≡ pos 0 -ℤ pos (suc n)
    minus_is n = sym (+ℤ_idl (negsuc n))

    small_negsuc : (n : ℕ) → suc n ≤ 100000 → is_small (negsuc n) ≡ true
    small_negsuc n h = grind (arith, nat_tests)

pub not_above : (n : ℕ) → above 100000 n quantity.Constant ≡ None → n ≤ 100000
not_above n e = at (nat_lt 100000 n) refl e
  where
    at : (b : Bool) → nat_lt 100000 n ≡ b → (if b then Some quantity.Constant else None) ≡ None → n ≤ 100000
    at true h e = absurd (grind arith)
    at false h e = grind (arith, nat_tests)

-- a number of a lin stands behind these
abbrev pub IsLinStart : Behind → Type 0
IsLinStart behind.Dots = Unit {0}
IsLinStart behind.Other = Unit {0}
IsLinStart behind.Boundary = ⊥
IsLinStart behind.ElementType = ⊥
IsLinStart behind.TypeBracket = ⊥

pub within : (l : Behind) (r n : ℕ) → 0 < r → IsLinStart l → number_behind l r n ≡ None → n ≤ 100000
within behind.Dots r n some start e = at (r == 0) refl e
  where
    at : (b : Bool) → (r == 0) ≡ b → (if b then None else above 100000 n quantity.Constant) ≡ None → n ≤ 100000
    at true h e = absurd (grind (arith, nat_tests))
    at false h e = not_above n e
within behind.Other r n some start e = not_above n e
within behind.Boundary r n some start e = absurd start
within behind.ElementType r n some start e = absurd start
within behind.TypeBracket r n some start e = absurd start

-- ---- forms

pub plain_small : (x : IndexText) → IsPlainIndex x → IsSmallIndex x
plain_small index.Zero p = tt
plain_small (index.At l) p = p
plain_small (index.Bind x over) p = absurd p

module _ {d r : ℕ} where
  pub offset_stays : {l : Behind} → Stays d r l offset (λ n z. is_small z ≡ true)
  offset_stays = record {
    stays =
        (mark_step marks.Plus >>> λ p u. number_step >>> λ n f. done_does _ (refl, (refl, small_pos n.value (not_above n.value f))))
        or_does (mark_step marks.Minus >>> λ p u. number_step >>> λ n f. done_does _ (refl, (refl, small_minus n.value (not_above n.value f))))
        or_does done_does _ (refl, (refl, small_pos 0 (omega arith)));
  }

  pub count_stays : {l : Behind} → Stays d r l count (λ n c. Unit {0})
  count_stays = record {
    stays =
        (mark_step marks.LeftBracket >>> λ p u. count_step >>> λ n f. mark_step marks.RightBracket >>> λ q v. done_does _ (refl, (refl, tt)))
        or_does done_does _ (refl, (refl, tt));
  }

  pub type_stays : {l : Behind} → Stays d r l type (λ n c. Unit {0})
  type_stays = record {
    stays =
        (key_step keys.Int32 >>> λ p u. done_does _ (refl, (refl, tt)))
        or_does (key_step keys.Uint32 >>> λ p u. done_does _ (refl, (refl, tt)));
  }

  pub carried_stays : {l : Behind} → Stays d r l carried (λ n c. Unit {0})
  carried_stays = record {
    stays =
        (type_stays >>= λ l1 n of u. count_stays >>= λ l2 m c v. done_does _ (refl, (refl, tt)))
        or_does done_does _ (refl, (refl, tt));
  }

  pub payload_stays : {l : Behind} → Stays d r l payload (λ n p. 2 ≤ n)
  payload_stays = record {
    stays =
        mark_step marks.LeftParen >>> λ p u. carried_stays >>= λ l1 n c v. mark_step marks.RightParen >>> λ q w. done_does _ (refl, (refl, omega arith));
  }

  pub op_stays : {l : Behind} → Stays d r l op (λ n o. Unit {0})
  op_stays = record {
    stays =
        (key_step keys.Min >>> λ p u. done_does _ (refl, (refl, tt)))
        or_does (key_step keys.Max >>> λ p u. done_does _ (refl, (refl, tt)))
        or_does (key_step keys.Sum >>> λ p u. done_does _ (refl, (refl, tt)));
  }

  pub top_stays : {l : Behind} → Stays d r l top (λ n t. Unit {0})
  top_stays = record {
    stays =
        (number_step >>> λ n f. done_does _ (refl, (refl, tt)))
        or_does (key_step keys.Max >>> λ p u. done_does _ (refl, (refl, tt)));
  }

  module _ (some : 0 < r) where
    pub lin_stays : {l : Behind} → IsLinStart l → Stays d r l lin (λ n x. IsSmallLin x × (1 ≤ n))
    lin_stays {l} start = record {
      stays =
          (number_step >>> λ n f. done_does _ (refl, (refl, (small_pos n.value (within l r n.value some start f), omega arith))))
          or_does (name_step >>> λ b u. offset_stays >>= λ l1 n o f. done_does _ (refl, (refl, (f, omega arith))));
    }

    pub range_stays : {l : Behind} → IsLinStart l → Stays d r l range (λ n x. IsSmallRange x × (2 ≤ n))
    range_stays start = record {
      stays =
          lin_stays start >>= λ l1 n a p. mark_step marks.Dots >>> λ q u. lin_stays tt >>= λ l2 m b s. done_does _ (refl, (refl, ((p.0, s.0), omega (arith, p.1, s.1))));
    }

    pub role_range_stays : Stays d r behind.Other role_range (λ n x. IsSmallOver x × (over_weight x ≤ n))
    role_range_stays = record {
      stays =
          (mark_step marks.LeftBracket >>> λ p u. range_stays tt >>= λ l1 n x s. mark_step marks.RightBracket >>> λ q v. done_does _ (refl, (refl, (s.0, omega (arith, s.1)))))
          or_does done_does _ (refl, (refl, (tt, omega arith)));
    }

    pub plain_index_stays : Stays d r behind.Other plain_index (λ n x. IsPlainIndex x × (index_weight x ≤ n))
    plain_index_stays = record {
      stays =
          (mark_step marks.LeftBracket >>> λ p u. lin_stays tt >>= λ l1 n x s. mark_step marks.RightBracket >>> λ q v. done_does _ (refl, (refl, (s.0, omega (arith, s.1)))))
          or_does done_does _ (refl, (refl, (tt, omega arith)));
    }

    pub plain_end_stays : {l : Behind} → Stays d r l plain_end (λ n x. IsPlainEnd x × (suc (index_weight x.index) ≤ n))
    plain_end_stays = record {
      stays =
          name_step >>> λ b u. plain_index_stays >>= λ l1 n x s. done_does _ (refl, (refl, (s.0, omega (arith, s.1))));
    }

    after_name_stays : (first : Spot) → Stays d r behind.Other (after_name first) (λ n x. IsSmallIndex x × (index_weight x ≤ suc n))
    after_name_stays first = record {
      stays =
          (mark_step marks.Colon >>> λ p u. range_stays tt >>= λ l1 n x s. done_does _ (refl, (refl, (s.0, omega (arith, s.1)))))
          or_does (offset_stays >>= λ l1 n x s. done_does _ (refl, (refl, (s, omega arith))));
    }

    bracketed_stays : Stays d r behind.Other bracketed (λ n x. IsSmallIndex x × (index_weight x ≤ n))
    bracketed_stays = record {
      stays =
          (number_step >>> λ n f. done_does _ (refl, (refl, (small_pos n.value (not_above n.value f), omega arith))))
          or_does (name_step >>> λ b u. weaker (after_name_stays b).stays (λ s n x p. (p.0, (p.1.0, (p.1.1.0, p.1.1.1)))));
    }

    any_index_stays : Stays d r behind.Other any_index (λ n x. IsSmallIndex x × (index_weight x ≤ n))
    any_index_stays = record {
      stays =
          (mark_step marks.LeftBracket >>> λ p u. bracketed_stays >>= λ l1 n x s. mark_step marks.RightBracket >>> λ q v. done_does _ (refl, (refl, (s.0, omega (arith, s.1)))))
          or_does done_does _ (refl, (refl, (tt, omega arith)));
    }

    pub any_end_stays : {l : Behind} → Stays d r l any_end (λ n x. IsSmallEnd x × (suc (index_weight x.index) ≤ n))
    any_end_stays = record {
      stays =
          name_step >>> λ b u. any_index_stays >>= λ l1 n x s. done_does _ (refl, (refl, (s.0, omega (arith, s.1))));
    }

    pub end_beside_stays : {l : Behind} (i : IndexText) → Stays d r l (end_beside i) (λ n x. IsSmallEnd x × (suc (index_weight x.index) ≤ n))
    end_beside_stays (index.Bind x over) = softer plain_end_stays (λ n x p. (plain_small x.index p.0, p.1))
    end_beside_stays index.Zero = any_end_stays
    end_beside_stays (index.At l) = any_end_stays

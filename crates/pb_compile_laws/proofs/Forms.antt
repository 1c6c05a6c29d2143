-- What each form below a statement reads: it begins no statement, its names are names, and a payload's count is within its limit.
use Rattle.std.proofs.Common.{◌≡◌, ℕ, ◌≤◌, Bool, true, false, nat_lt, if◌then◌else◌, Some, None, List, refl, arith}
use Rattle.std.proofs.lemmas.Bool.Decides.{nat_tests}
use Rattle.pb_text.specs.declared.place.Spot.{Spot}
use Rattle.pb_text.specs.declared.quantity.Quantity.TheVariants as quantity
use Rattle.pb_text.specs.declared.token.Mark.TheVariants as marks
use Rattle.pb_text.specs.declared.token.Key.TheVariants as keys
use Rattle.pb_syntax.specs.declared.tree.High.{High}
use Rattle.pb_syntax.specs.declared.tree.High.TheVariants as tops
use Rattle.pb_syntax.specs.declared.tree.IndexText.{IndexText}
use Rattle.pb_syntax.specs.declared.tree.IndexText.TheVariants as index
use Rattle.pb_syntax.specs.declared.tree.Payload.{Payload}
use Rattle.pb_syntax.specs.Form.{done}
use Rattle.pb_syntax.specs.Form.{◌>>=◌ as ◌then◌}
use Rattle.pb_syntax.specs.Tree.{Top}
use Rattle.pb_syntax.specs.Grammar.{offset, lin, range, top, role_range, type, count, carried, payload, op, plain_index, plain_end, after_name, bracketed, any_index, any_end, end_beside}
use Rattle.pb_parse.specs.declared.limits.Counts.{Counts}
use Rattle.pb_parse.specs.declared.limits.Behind.{Behind}
use Rattle.pb_parse.specs.declared.limits.Behind.TheVariants as behind
use Rattle.pb_parse.specs.Limits.{above}
use Rattle.pb_local.specs.WellMade.{IsPayload}
use Rattle.pb_compile_laws.proofs.Counted.{Quiet, Does, co, IsInside, after, done_does, ◌>>>◌, ◌>>=◌, ◌or_does◌}
use Rattle.pb_compile_laws.proofs.Tokens.{mark_step, key_step, name_step, number_step, count_step}

not_above : (n : ℕ) → above 1024 n quantity.PayloadCount ≡ None → n ≤ 1024
not_above n e = at (nat_lt 1024 n) refl e
  where
    at : (b : Bool) → nat_lt 1024 n ≡ b → (if b then Some quantity.PayloadCount else None) ≡ None → n ≤ 1024
    at true h e = absurd (grind arith)
    at false h e = grind (arith, nat_tests)

abbrev Anything : {A : Type 0} → A → Type 0
Anything x = Unit {0}

-- an upper end that a number of 32 bits holds
abbrev pub IsTop : High → Type 0
IsTop (tops.Upto n) = n ≤ 2000000000
IsTop tops.Max = Unit {0}

module _ {d s r : ℕ} {bs : List ℕ} where
  offset_quiet : {l : Behind} → IsInside l → Quiet d s r bs l offset Anything
  offset_quiet h = record {
    quiet =
        (mark_step marks.Plus >>> λ p u. number_step >>> λ n f. done_does _ ((refl, tt), tt))
        or_does (mark_step marks.Minus >>> λ p u. number_step >>> λ n f. done_does _ ((refl, tt), tt))
        or_does done_does _ ((refl, h), tt);
  }

  pub lin_quiet : {l : Behind} → IsInside l → Quiet d s r bs l lin Anything
  lin_quiet h = record {
    quiet =
        (number_step >>> λ n f. done_does _ ((refl, tt), tt))
        or_does (name_step h >>> λ b u. offset_quiet tt >>= λ l1 i o f. done_does _ ((refl, i), tt));
  }

  pub range_quiet : {l : Behind} → IsInside l → Quiet d s r bs l range Anything
  range_quiet h = record { quiet = lin_quiet h >>= λ l1 i a p. mark_step marks.Dots >>> λ q u. lin_quiet tt >>= λ l2 j b t. done_does _ ((refl, j), tt) }

  pub top_quiet : {l : Behind} → Quiet d s r bs l top (λ (t : Top). IsTop t.high)
  top_quiet = record {
    quiet =
        (number_step >>> λ n f. done_does _ ((refl, tt), f.1))
        or_does (key_step keys.Max >>> λ p u. done_does _ ((refl, tt), tt));
  }

  pub role_range_quiet : Quiet d s r bs behind.Other role_range Anything
  role_range_quiet = record {
    quiet =
        (mark_step marks.LeftBracket >>> λ p u. range_quiet tt >>= λ l1 i x t. mark_step marks.RightBracket >>> λ q v. done_does _ ((refl, tt), tt))
        or_does done_does _ ((refl, tt), tt);
  }

  count_quiet : Quiet d s r bs behind.ElementType count (λ (n : ℕ). (1 ≤ n) × (n ≤ 1024))
  count_quiet = record {
    quiet =
        (mark_step marks.LeftBracket >>> λ p u. count_step >>> λ n f. mark_step marks.RightBracket >>> λ q v. done_does _ ((refl, tt), (f.1, not_above n.value f.0)))
        or_does done_does _ ((refl, tt), (omega arith, omega arith));
  }

  -- a type makes a payload of a count
  type_does : {l : Behind} → Does (co d s r bs l) type (λ c of. (c ≡ co d s r bs behind.ElementType) × ((n : ℕ) → (1 ≤ n) × (n ≤ 1024) → IsPayload (of n)))
  type_does =
      (key_step keys.Int32 >>> λ p u. done_does _ (refl, λ n h. h))
      or_does (key_step keys.Uint32 >>> λ p u. done_does _ (refl, λ n h. h))

  counted_does : (c : Counts) (of : ℕ → Payload) → c ≡ co d s r bs behind.ElementType → ((n : ℕ) → (1 ≤ n) × (n ≤ 1024) → IsPayload (of n))
      → Does c (count then (λ n. done (of n))) (λ c1 p. ((c1 ≡ co d s r bs c1.last) × IsInside c1.last) × IsPayload p)
  counted_does c of e h = rw e (count_quiet >>= λ l1 i n f. done_does _ ((refl, i), h n f))

  carried_quiet : {l : Behind} → IsInside l → Quiet d s r bs l carried IsPayload
  carried_quiet h = record { quiet = (after type_does (λ c of p. counted_does c of p.0 p.1)) or_does done_does _ ((refl, h), tt) }

  pub payload_quiet : {l : Behind} → Quiet d s r bs l payload IsPayload
  payload_quiet = record { quiet = mark_step marks.LeftParen >>> λ p u. carried_quiet tt >>= λ l1 i c v. mark_step marks.RightParen >>> λ q w. done_does _ ((refl, tt), v) }

  pub op_quiet : {l : Behind} → Quiet d s r bs l op Anything
  op_quiet = record {
    quiet =
        (key_step keys.Min >>> λ p u. done_does _ ((refl, tt), tt))
        or_does (key_step keys.Max >>> λ p u. done_does _ ((refl, tt), tt))
        or_does (key_step keys.Sum >>> λ p u. done_does _ ((refl, tt), tt));
  }

  plain_index_quiet : Quiet d s r bs behind.Other plain_index Anything
  plain_index_quiet = record {
    quiet =
        (mark_step marks.LeftBracket >>> λ p u. lin_quiet tt >>= λ l1 i x t. mark_step marks.RightBracket >>> λ q v. done_does _ ((refl, tt), tt))
        or_does done_does _ ((refl, tt), tt);
  }

  pub plain_end_quiet : {l : Behind} → IsInside l → Quiet d s r bs l plain_end Anything
  plain_end_quiet h = record { quiet = name_step h >>> λ b u. plain_index_quiet >>= λ l1 i x t. done_does _ ((refl, i), tt) }

  after_name_quiet : (first : Spot) → Quiet d s r bs behind.Other (after_name first) Anything
  after_name_quiet first = record {
    quiet =
        (mark_step marks.Colon >>> λ p u. range_quiet tt >>= λ l1 i x t. done_does _ ((refl, i), tt))
        or_does (offset_quiet tt >>= λ l1 i x t. done_does _ ((refl, i), tt));
  }

  bracketed_quiet : Quiet d s r bs behind.Other bracketed Anything
  bracketed_quiet = record {
    quiet =
        (number_step >>> λ n f. done_does _ ((refl, tt), tt))
        or_does (name_step tt >>> λ b u. (after_name_quiet b).quiet);
  }

  any_index_quiet : Quiet d s r bs behind.Other any_index Anything
  any_index_quiet = record {
    quiet =
        (mark_step marks.LeftBracket >>> λ p u. bracketed_quiet >>= λ l1 i x t. mark_step marks.RightBracket >>> λ q v. done_does _ ((refl, tt), tt))
        or_does done_does _ ((refl, tt), tt);
  }

  pub any_end_quiet : {l : Behind} → IsInside l → Quiet d s r bs l any_end Anything
  any_end_quiet h = record { quiet = name_step h >>> λ b u. any_index_quiet >>= λ l1 i x t. done_does _ ((refl, i), tt) }

  pub end_beside_quiet : {l : Behind} → IsInside l → (i : IndexText) → Quiet d s r bs l (end_beside i) Anything
  end_beside_quiet h (index.Bind x over) = plain_end_quiet h
  end_beside_quiet h index.Zero = any_end_quiet h
  end_beside_quiet h (index.At l) = any_end_quiet h

-- Grammar and limits together.
use Rattle.std.proofs.Common.{◌≡◌, ℕ, ◌+◌, ◌<◌, inl, inr, List, [], ◌∷◌, ◌++◌, length, take, drop, slice_index_or, Some, None, Result, Ok, Err, refl, sym, ap, subst, ◌∙◌, append_assoc, arith}
use Rattle.std.proofs.lemmas.List.{take-append-drop, length-append, append-nil}
use Rattle.pb_text.specs.declared.place.Place.{Place}
use Rattle.pb_text.specs.declared.quantity.Quantity.{Quantity}
use Rattle.pb_text.specs.declared.quantity.Quantity.TheVariants as quantity
use Rattle.pb_text.specs.declared.token.Token.{Token}
use Rattle.pb_syntax.proofs.Split.{cuts}
use Rattle.pb_parse.specs.Gives.{place_at}
use Rattle.pb_parse.specs.Parsed.{passes_fault, stop_fault}
use Rattle.pb_parse.specs.declared.fault.ParseFault.{ParseFault}
use Rattle.pb_parse.specs.declared.fault.ParseFault.TheVariants as fault
use Rattle.pb_parse.proofs.Counting.{take_next}
use Rattle.pb_do_parse.specs.Limits.{AreWithin, NextPasses, passed, counts, at_start}
use Rattle.pb_do_parse.proofs.Counting.{none_front, none_at, passes_next}
use Rattle.pb_strips_syntax.specs.declared.tree.StripTree.{StripTree}
use Rattle.pb_strips_syntax.specs.Strips.{PlainStripFile}
use Rattle.pb_strips_syntax.specs.Plain.{plain_file}
use Rattle.pb_strips_grammar.specs.Grammar.{IsStripFile, IsStripFront}
use Rattle.pb_strips_grammar.specs.Unexpected.{StopsBefore, EndsEarly, Tells}
use Rattle.pb_strips_grammar.specs.Readers.{whole_at}
use Rattle.pb_strips_grammar.proofs.Final.{whole_tells, text_front, one_tree, stops_front}
use Rattle.pb_strips_parse.specs.Parsed.{IsUnexpected, IsTooEarly, Passes, IsFault, IsRead, Gives}

prefix_within : (xs ys : List Token) → AreWithin (xs ++ ys) → AreWithin xs
prefix_within xs ys h = none_front at_start xs ys h

-- all tokens are within the limits
pub stops_within : (ts : List Token) (t : Token) (rest : List Token) → AreWithin ts → whole_at ts ≡ Err (t ∷ rest) → IsUnexpected ts t.place
stops_within ts t rest within e =
    let s : StopsBefore ts t rest = subst (Tells ts) e (whole_tells ts) in
    record { token = t; rest = rest; stops = s; within = prefix_within s.front (t ∷ rest) (subst AreWithin s.split within); at = refl }

pub early_within : (ts : List Token) → AreWithin ts → whole_at ts ≡ Err [] → IsTooEarly ts
early_within ts within e = record { ends = subst (Tells ts) e (whole_tells ts); within = within }

pub file_within : (ts : List Token) (f : StripTree) (rest : List Token) → whole_at ts ≡ Ok (plain_file f, rest) → IsStripFile ts (plain_file f)
file_within ts f rest e = subst (Tells ts) e (whole_tells ts)

pub refused_within : (end : Place) (ts rest : List Token) → AreWithin ts → whole_at ts ≡ Err rest → IsFault end ts (fault.Unexpected (place_at end rest))
refused_within end ts [] within e = inr (early_within ts within e, refl)
refused_within end ts (t ∷ rest) within e = inl (stops_within ts t rest within e)

-- a token that passes a limit is at fault
pub passes_is : (end : Place) (ts : List Token) (limit : Quantity) (place : Place) → Passes ts limit place → IsFault end ts (passes_fault limit place)
passes_is end ts quantity.Nesting place p = p
passes_is end ts limit place p = (λ e. cc, p)

-- one token passes a limit, and the tokens up to it were read
module _ (ts : List Token) (i : ℕ) (u : Token) (limit : Quantity) (lt : i < length ts) (is : u ≡ slice_index_or ts i u) (within : AreWithin (take i ts)) (over : NextPasses (counts (take i ts)) (drop i ts) limit) where
  up_to : take (i + 1) ts ≡ take i ts ++ u ∷ []
  up_to = take_next ts i u lt is

  cut : ts ≡ take i ts ++ (u ∷ drop (i + 1) ts)
  cut = sym (take-append-drop (i + 1) ts) ∙ ap (λ (l : List Token). l ++ drop (i + 1) ts) up_to ∙ append_assoc (take i ts) (u ∷ []) (drop (i + 1) ts)

  passes : IsStripFront (take (i + 1) ts) → Passes ts limit u.place
  passes front = record { front = take i ts; token = u; rest = drop (i + 1) ts; split = cut; within = within; passes = passes_next (counts (take i ts)) ts i u limit lt is over; begun = subst IsStripFront up_to front; at = refl }

  pub passes_whole : (f : PlainStripFile) (rest : List Token) → whole_at (take (i + 1) ts) ≡ Ok (f, rest) → Passes ts limit u.place
  passes_whole f rest e = let file : IsStripFile (take (i + 1) ts) f = subst (Tells (take (i + 1) ts)) e (whole_tells (take (i + 1) ts)) in passes (text_front file.0 (take (i + 1) ts) f file.1)

  pub passes_early : whole_at (take (i + 1) ts) ≡ Err [] → Passes ts limit u.place
  passes_early e = let early : EndsEarly (take (i + 1) ts) = subst (Tells (take (i + 1) ts)) e (whole_tells (take (i + 1) ts)) in passes early.front

  before : (front : List Token) (t : Token) (rest : List Token) → take i ts ++ u ∷ [] ≡ front ++ (t ∷ rest) → AreWithin front
  before front t rest e = elim (cuts (take i ts) (u ∷ []) front (t ∷ rest) e) [
    | inl p ↦ let none : p.mid ≡ [] = no_mid p.mid t rest u p.back in subst AreWithin (sym (append-nil (take i ts)) ∙ ap (λ (l : List Token). take i ts ++ l) (sym none) ∙ sym p.longer) within
    | inr p ↦ prefix_within front p.mid (subst AreWithin p.front within)
  ]
    where
      no_mid : (mid : List Token) (t : Token) (rest : List Token) (u : Token) → u ∷ [] ≡ mid ++ (t ∷ rest) → mid ≡ []
      no_mid [] t rest u e = refl
      no_mid (m ∷ mid) t rest u e = absurd (omega (arith, ap (length {A = Token}) e, length-append (m ∷ mid) (t ∷ rest)))

  pub stops_before : (t : Token) (rest : List Token) → whole_at (take (i + 1) ts) ≡ Err (t ∷ rest) → IsUnexpected ts t.place
  stops_before t rest e =
      let s : StopsBefore (take (i + 1) ts) t rest = subst (Tells (take (i + 1) ts)) e (whole_tells (take (i + 1) ts)) in
      let all : ts ≡ s.front ++ (t ∷ (rest ++ drop (i + 1) ts)) = sym (take-append-drop (i + 1) ts) ∙ ap (λ (l : List Token). l ++ drop (i + 1) ts) s.split ∙ append_assoc s.front (t ∷ rest) (drop (i + 1) ts) in
      record { token = t; rest = rest ++ drop (i + 1) ts; stops = record { front = s.front; split = all; before = s.before; there = s.there }; within = before s.front t rest (sym up_to ∙ s.split); at = refl }

  pub refused : (end : Place) (rest : List Token) → whole_at (take (i + 1) ts) ≡ Err rest → IsFault end ts (stop_fault limit u.place rest)
  refused end [] e = passes_is end ts limit u.place (passes_early e)
  refused end (t ∷ rest) e = inl (stops_before t rest e)

-- a list of tokens within the limits has no token that passes one
none_passes : (ts : List Token) (limit : Quantity) (place : Place) → AreWithin ts → Passes ts limit place → ⊥
none_passes ts limit place within p =
    let none : passed (counts p.front) p.token ≡ None = none_at at_start p.front p.token p.rest (subst AreWithin p.split within) in
    let some : passed (counts p.front) p.token ≡ Some limit = p.passes in
    cc

-- what is a file within the limits is parsed, unless memory runs out
pub only : (end : Place) (ts : List Token) (result : Result StripTree ParseFault) → IsRead end ts result → (file : PlainStripFile) → IsStripFile ts file → AreWithin ts → Gives file result
only end ts (Ok f) p file h within = one_tree ts (plain_file f) file p.0 h
only end ts (Err (fault.Lex error)) p file h within = absurd p
only end ts (Err fault.NoMemory) p file h within = tt
only end ts (Err (fault.Unexpected place)) (inl p) file h within = absurd (p.stops.there (stops_front ts file h p.token p.rest p.stops))
only end ts (Err (fault.Unexpected place)) (inr p) file h within = absurd (p.0.ends.no_file file h)
only end ts (Err (fault.TooDeep place)) p file h within = absurd (none_passes ts quantity.Nesting place within p)
only end ts (Err (fault.TooMany limit place)) p file h within = absurd (none_passes ts limit place within p.1)

-- The next line that is awaited.
use Rattle.std.proofs.Common.{◌≡◌, ℕ, zero, suc, ◌+◌, ◌<◌, ◌≤◌, List, [], ◌∷◌, drop, length, refl, sym, ap, ◌∙◌, arith, add-one, Some, None}
use Rattle.std.specs.Prelude.{slice_get}
use Rattle.std.proofs.Common.{get_or, drop-cons}
use Rattle.std.specs.Global.{Vec}
use Rattle.std.proofs.Common.{Bool, false}
use Rattle.pb_cread_frame.specs.Reading.{Read, Phase, state, same_line, free_step, step_at, done_at, is_statements}
use Rattle.pb_local.specs.declared.tables.Role.{Role}
use Rattle.pb_ctree.specs.Sums.{HasSmallEnds}
use Rattle.std.specs.Prelude.{All, if◌then◌else◌}
use Rattle.std.proofs.Common.{◌++◌}
use Rattle.std.proofs.lemmas.List.Elements.{All-push}
use Rattle.pb_cread_frame.specs.Views.{texts_of}

pub next_text : (lines : List (Vec ℕ)) (at : ℕ) (line : Vec ℕ) → slice_get lines at ≡ Some line → drop at (texts_of lines) ≡ line.items ∷ drop (at + 1) (texts_of lines)
next_text lines at line e = next lines at e ∙ ap (λ n. line.items ∷ drop n (texts_of lines)) (sym (add-one at)) where
  next : (lines : List (Vec ℕ)) (at : ℕ) → slice_get lines at ≡ Some line → drop at (texts_of lines) ≡ line.items ∷ drop (suc at) (texts_of lines)
  next [] zero e = absurd cc
  next [] (suc at) e = absurd cc
  next (l ∷ ls) zero e = let same : l ≡ line = cc in ap (λ (x : Vec ℕ). x.items ∷ texts_of ls) same
  next (l ∷ ls) (suc at) e = next ls at e

pub no_text : (lines : List (Vec ℕ)) (at : ℕ) → slice_get lines at ≡ None → drop at (texts_of lines) ≡ []
no_text [] zero e = refl
no_text [] (suc at) e = refl
no_text (l ∷ ls) zero e = absurd cc
no_text (l ∷ ls) (suc at) e = no_text ls at e

pub some_waits : (lines : List (Vec ℕ)) (at : ℕ) (line : Vec ℕ) (phase : Phase) → slice_get lines at ≡ Some line → done_at (drop at (texts_of lines)) phase ≡ false
some_waits lines at line phase e = ap (λ texts. done_at texts phase) (next_text lines at line e)

pub none_waits : (lines : List (Vec ℕ)) (at : ℕ) (phase : Phase) → slice_get lines at ≡ None → done_at (drop at (texts_of lines)) phase ≡ is_statements phase
none_waits lines at phase e = ap (λ texts. done_at texts phase) (no_text lines at e)

pub waits_step : (r : Read) (lines : List (Vec ℕ)) (at : ℕ) (text : Vec ℕ) (phase : Phase) (line : List ℕ) (b : Bool) → slice_get lines at ≡ Some text → b ≡ same_line text.items line
    → step_at r (drop at (texts_of lines)) phase line ≡ (if b then Some (state r (drop (at + 1) (texts_of lines)) phase) else None)
waits_step r lines at text phase line b e same =
    ap (λ texts. step_at r texts phase line) (next_text lines at text e) ∙ ap (λ x. if x then Some (state r (drop (at + 1) (texts_of lines)) phase) else None) (sym same)

pub waits_free : (r : Read) (lines : List (Vec ℕ)) (at : ℕ) (phase : Phase) (line : List ℕ) → slice_get lines at ≡ None → step_at r (drop at (texts_of lines)) phase line ≡ free_step r phase line
waits_free r lines at phase line e = ap (λ texts. step_at r texts phase line) (no_text lines at e)

pub small_more : (roles : List Role) (role : Role) → All HasSmallEnds roles → HasSmallEnds role → All HasSmallEnds (roles ++ role ∷ [])
small_more roles role all one = All-push HasSmallEnds roles role all one

drop_texts : (lines : List (Vec ℕ)) (at : ℕ) → drop at (texts_of lines) ≡ texts_of (drop at lines)
drop_texts lines zero = refl
drop_texts [] (suc at) = refl
drop_texts (l ∷ ls) (suc at) = drop_texts ls at

drop_all : (lines : List (Vec ℕ)) (at : ℕ) → length lines ≤ at → drop at (texts_of lines) ≡ []
drop_all [] zero e = refl
drop_all [] (suc at) e = refl
drop_all (l ∷ ls) zero e = absurd (omega (arith, e))
drop_all (l ∷ ls) (suc at) e = drop_all ls at (omega (arith, e))

next_at : (lines : List (Vec ℕ)) (at : ℕ) (text : Vec ℕ) → at < length lines → text ≡ get_or lines at text → drop at (texts_of lines) ≡ text.items ∷ drop (at + 1) (texts_of lines)
next_at lines at text less is =
    drop_texts lines at ∙ ap texts_of (drop-cons lines at text less) ∙ ap (λ (x : Vec ℕ). x.items ∷ texts_of (drop (suc at) lines)) (sym is)
    ∙ ap (λ n. text.items ∷ texts_of (drop n lines)) (sym (add-one at)) ∙ ap (λ w. text.items ∷ w) (sym (drop_texts lines (at + 1)))

pub waits_at : (r : Read) (lines : List (Vec ℕ)) (at : ℕ) (text : Vec ℕ) (phase : Phase) (line : List ℕ) (b : Bool) → at < length lines → text ≡ get_or lines at text → b ≡ same_line text.items line
    → step_at r (drop at (texts_of lines)) phase line ≡ (if b then Some (state r (drop (at + 1) (texts_of lines)) phase) else None)
waits_at r lines at text phase line b less is same =
    ap (λ texts. step_at r texts phase line) (next_at lines at text less is) ∙ ap (λ x. if x then Some (state r (drop (at + 1) (texts_of lines)) phase) else None) (sym same)

pub none_left : (r : Read) (lines : List (Vec ℕ)) (at : ℕ) (phase : Phase) (line : List ℕ) → length lines ≤ at → step_at r (drop at (texts_of lines)) phase line ≡ free_step r phase line
none_left r lines at phase line e = ap (λ texts. step_at r texts phase line) (drop_all lines at e)

pub done_left : (lines : List (Vec ℕ)) (at : ℕ) (phase : Phase) → length lines ≤ at → done_at (drop at (texts_of lines)) phase ≡ is_statements phase
done_left lines at phase e = ap (λ texts. done_at texts phase) (drop_all lines at e)

pub some_left : (lines : List (Vec ℕ)) (at : ℕ) (phase : Phase) → at < length lines → done_at (drop at (texts_of lines)) phase ≡ false
some_left [] at phase less = absurd (omega (arith, less))
some_left (l ∷ ls) zero phase less = refl
some_left (l ∷ ls) (suc at) phase less = some_left ls at phase (omega (arith, less))

-- What a name stands for, by the tables of the parameters.
use Rattle.std.proofs.Common.{◌≡◌, ℕ, zero, suc, ◌<◌, ◌≤◌, Option, Some, None, List, [], ◌∷◌, length, slice_index_or, refl, sym, ap, ◌∙◌, subst}
use Rattle.std.specs.List.{slice_get}
use Rattle.std.proofs.lemmas.Option.{slice_get-get_or, slice_get_past}
use Rattle.pb_text.specs.Tables.{position_of}
use Rattle.pb_do_syntax.specs.Calls.{PlainSub}
use Rattle.pb_do_syntax.specs.Names.{Name, sub_at, params_of}
use Rattle.pb_do_syntax.specs.Inlining.{stands_for, name_at}
use Rattle.pb_do_inline.specs.Index.{param_lists}

or_none : Option (List Name) → List Name
or_none None = []
or_none (Some p) = p

params_in : (subs : List PlainSub) (k : ℕ) → params_of (slice_get subs k) ≡ or_none (slice_get (param_lists subs) k)
unfolding or_none
params_in [] k = refl
params_in (s ∷ ss) zero = refl
params_in (s ∷ ss) (suc k) = params_in ss k

none_at : (subs : List PlainSub) (k : ℕ) → length (param_lists subs) ≤ k → params_of (slice_get subs k) ≡ []
unfolding or_none
none_at subs k h = params_in subs k ∙ ap or_none (slice_get_past (param_lists subs) k h)

those_at : (subs : List PlainSub) (k : ℕ) (p : List Name) → k < length (param_lists subs) → p ≡ slice_index_or (param_lists subs) k p → params_of (slice_get subs k) ≡ p
unfolding or_none
those_at subs k p h e = params_in subs k ∙ ap or_none (slice_get-get_or (param_lists subs) k p h) ∙ sym e

none_in : (subs : List PlainSub) (sub : Option ℕ) (k : ℕ) (ps : List (List Name)) → sub ≡ Some k → ps ≡ param_lists subs → length ps ≤ k → params_of (sub_at subs sub) ≡ []
none_in subs sub k ps e same h = ap (λ (s : Option ℕ). params_of (sub_at subs s)) e ∙ none_at subs k (subst (λ (l : List (List Name)). length l ≤ k) same h)

those_in : (subs : List PlainSub) (sub : Option ℕ) (k : ℕ) (ps : List (List Name)) (p : List Name) → sub ≡ Some k → ps ≡ param_lists subs → k < length ps → p ≡ slice_index_or ps k p → params_of (sub_at subs sub) ≡ p
those_in subs sub k ps p e same h at =
    ap (λ (s : Option ℕ). params_of (sub_at subs s)) e ∙
    those_at subs k p (subst (λ (l : List (List Name)). k < length l) same h) (subst (λ (l : List (List Name)). p ≡ slice_index_or l k p) same at)

-- a name of no subprotocol's parameters stands for itself
pub itself : (subs : List PlainSub) (sub : Option ℕ) (k : ℕ) (ps : List (List Name)) (roles : List Name) (x : Name) →
    sub ≡ Some k → ps ≡ param_lists subs → length ps ≤ k → x ≡ stands_for (record { params = params_of (sub_at subs sub); names = roles }) x
itself subs sub k ps roles x e same h = ap (λ (p : List Name). name_at (position_of x p) roles x) (sym (none_in subs sub k ps e same h))

pub stands : (subs : List PlainSub) (sub : Option ℕ) (k : ℕ) (ps : List (List Name)) (p : List Name) (roles : List Name) (x r : Name) (i : Option ℕ) →
    sub ≡ Some k → ps ≡ param_lists subs → k < length ps → p ≡ slice_index_or ps k p → i ≡ position_of x p → r ≡ name_at i roles x →
    r ≡ stands_for (record { params = params_of (sub_at subs sub); names = roles }) x
stands subs sub k ps p roles x r i e same h at found is =
    is ∙ ap (λ (o : Option ℕ). name_at o roles x) found ∙ ap (λ (q : List Name). name_at (position_of x q) roles x) (sym (those_in subs sub k ps p e same h at))

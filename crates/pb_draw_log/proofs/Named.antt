-- A name that gets its number.
use Rattle.std.proofs.Common.{◌≡◌, ℕ, zero, suc, ◌<◌, List, [], ◌∷◌, ◌++◌, length, Option, Some, None, MatchOption, sym, ap, subst, ◌∙◌, arith, length-append}
use Rattle.std.specs.Prelude.{slice_get}
use Rattle.pb_text.specs.Tables.{IsInterned, IsTable, position_of}
use Rattle.pb_draw_log.specs.Taking.{Keeps, Numbers}

pub keeps_front : (old more : List (List ℕ)) (i : ℕ) (name : List ℕ) → slice_get old i ≡ Some name → slice_get (old ++ more) i ≡ Some name
keeps_front [] more i name e = absurd cc
keeps_front (x ∷ xs) more zero name e = e
keeps_front (x ∷ xs) more (suc i) name e = keeps_front xs more i name e

new_name : (place : Option ℕ) (old new : List (List ℕ)) (name : List ℕ) (id : ℕ)
    → MatchOption place ((id ≡ length old) × (new ≡ old ++ name ∷ [])) (λ k. (id ≡ k) × (new ≡ old)) → id < length new → id ≡ length old → new ≡ old ++ name ∷ []
new_name None old new name id h within last = h.1
new_name (Some k) old new name id h within last = absurd (omega (arith, within, last, ap length h.1))

old_name : (place : Option ℕ) (old new : List (List ℕ)) (name : List ℕ) (id : ℕ)
    → MatchOption place ((id ≡ length old) × (new ≡ old ++ name ∷ [])) (λ k. (id ≡ k) × (new ≡ old)) → (id ≡ length old → ⊥) → new ≡ old
old_name None old new name id h other = absurd (other h.0)
old_name (Some k) old new name id h other = h.1

pub numbered_new : (old new names names_new : List (List ℕ)) (name : List ℕ) (id : ℕ) → old ≡ names → IsInterned old name id new → slice_get new id ≡ Some name
    → id < length new → IsTable new → id ≡ length names → names_new ≡ names ++ name ∷ [] → Numbers old new names_new name id
numbered_new old new names names_new name id same interned there within table last is =
    let grown : new ≡ old ++ name ∷ [] = new_name (position_of name old) old new name id interned within (last ∙ ap length (sym same)) in
    let equal : new ≡ names_new = grown ∙ ap (λ xs. xs ++ name ∷ []) same ∙ sym is in
    record {
      same = equal;
      keeps = subst (λ xs. Keeps old xs) (sym grown ∙ equal) (keeps_front old (name ∷ []));
      there = subst (λ xs. slice_get xs id ≡ Some name) equal there;
      few = omega (arith, ap length equal, ap length grown, length-append old (name ∷ []));
      is_table = table;
    }

pub numbered_old : (old new names : List (List ℕ)) (name : List ℕ) (id : ℕ) → old ≡ names → IsInterned old name id new → slice_get new id ≡ Some name
    → IsTable new → (id ≡ length names → ⊥) → Numbers old new names name id
numbered_old old new names name id same interned there table other =
    let kept : new ≡ old = old_name (position_of name old) old new name id interned (λ e. other (e ∙ ap length same)) in
    let equal : new ≡ names = kept ∙ same in
    record {
      same = equal;
      keeps = λ i x e. subst (λ xs. slice_get xs i ≡ Some x) same e;
      there = subst (λ xs. slice_get xs id ≡ Some name) equal there;
      few = omega (arith, ap length same);
      is_table = table;
    }

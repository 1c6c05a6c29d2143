-- The tables of a program, with a label for each payload.
use Rattle.std.proofs.Common.{◌≡◌, ℕ, zero, suc, ◌+◌, ◌<◌, Bool, true, false, cond, List, [], ◌∷◌, length, map, Option, Some, None, refl, sym, ap, ◌∙◌, arith, nat_eq, ◌⊎◌, inl, inr, eqb-true, eq-eqb, BuildHasherDefault, FoldHasher}
use Rattle.std.specs.Prelude.{IsSome}
use Rattle.std.proofs.lemmas.Option.{same_Some, none-some}
use Rattle.indexmap.specs.Layout.{hash_map}
use Rattle.pb_syntax.specs.declared.tree.Payload.{Payload}
use Rattle.pb_syntax.specs.declared.tree.Payload.TheVariants.{Unit as NoWords, Int32, Uint32}
use Rattle.pb_syntax.specs.declared.core_label.CoreLabel.{CoreLabel}
use Rattle.pb_local.specs.Tree.{Program}
use Rattle.pb_cread_lines.specs.Head.{holding, payload_in, FindsFirst, AreTables}
use Rattle.pb_cread_lines.specs.declared.payloads.Payloads.{Payloads}
use Rattle.pb_cread_lines.specs.declared.tables.Tables.{Tables}

-- no matter which
abbrev pub hasher : BuildHasherDefault FoldHasher
hasher = record { initial = record { state = 0 } }

-- a payload more, before the others
abbrev pub put : ℕ → Payload → Payloads → Payloads
put k NoWords m = record m { unit = Some k }
put k (Int32 count) m = record m { int32 = hash_map ((count, k) ∷ m.int32.entries) hasher 0 }
put k (Uint32 count) m = record m { uint32 = hash_map ((count, k) ∷ m.uint32.entries) hasher 0 }

abbrev pub no_payload : Payloads
no_payload = record { unit = None; int32 = hash_map [] hasher 0; uint32 = hash_map [] hasher 0 }

-- the payloads of labels from this one on
abbrev pub payloads_from : ℕ → List CoreLabel → Payloads
payloads_from k [] = no_payload
payloads_from k (l ∷ ls) = put k l.payload (payloads_from (suc k) ls)

abbrev pub tables_of : Program → Tables
tables_of p = record { roles = map (λ r. r.name) p.roles; labels = map (λ l. l.name) p.labels; kernels = map (λ k. k.name) p.kernels; payloads = payloads_from 0 p.labels }

put_sound : (k : ℕ) (a : Payload) (m : Payloads) (q : Payload) (j : ℕ) → holding (put k a m) q ≡ Some j → ((j ≡ k) × (a ≡ q)) ⊎ (holding m q ≡ Some j)
put_sound k NoWords m NoWords j e = inl (sym (same_Some k j e), refl)
put_sound k NoWords m (Int32 d) j e = inr e
put_sound k NoWords m (Uint32 d) j e = inr e
put_sound k (Int32 c) m NoWords j e = inr e
put_sound k (Int32 c) m (Int32 d) j e = at (nat_eq d c) refl e where
  at : (b : Bool) → nat_eq d c ≡ b → cond b (Some k) (holding m (Int32 d)) ≡ Some j → ((j ≡ k) × (Int32 c ≡ Int32 d)) ⊎ (holding m (Int32 d) ≡ Some j)
  at true t e = inl (sym (same_Some k j e), ap (λ (n : ℕ). Int32 n) (sym (eqb-true d c t)))
  at false t e = inr e
put_sound k (Int32 c) m (Uint32 d) j e = inr e
put_sound k (Uint32 c) m NoWords j e = inr e
put_sound k (Uint32 c) m (Int32 d) j e = inr e
put_sound k (Uint32 c) m (Uint32 d) j e = at (nat_eq d c) refl e where
  at : (b : Bool) → nat_eq d c ≡ b → cond b (Some k) (holding m (Uint32 d)) ≡ Some j → ((j ≡ k) × (Uint32 c ≡ Uint32 d)) ⊎ (holding m (Uint32 d) ≡ Some j)
  at true t e = inl (sym (same_Some k j e), ap (λ (n : ℕ). Uint32 n) (sym (eqb-true d c t)))
  at false t e = inr e

same_number : (c : ℕ) → nat_eq c c ≡ true
same_number c = eq-eqb c c refl

put_here : (k : ℕ) (a : Payload) (m : Payloads) → IsSome (holding (put k a m) a)
put_here k NoWords m = refl
put_here k (Int32 c) m = rw (same_number c) refl
put_here k (Uint32 c) m = rw (same_number c) refl

some_or : (b : Bool) (k : ℕ) (o : Option ℕ) → IsSome o → IsSome (cond b (Some k) o)
some_or true k o s = refl
some_or false k o s = s

put_keeps : (k : ℕ) (a : Payload) (m : Payloads) (q : Payload) → IsSome (holding m q) → IsSome (holding (put k a m) q)
put_keeps k NoWords m NoWords s = refl
put_keeps k NoWords m (Int32 d) s = s
put_keeps k NoWords m (Uint32 d) s = s
put_keeps k (Int32 c) m NoWords s = s
put_keeps k (Int32 c) m (Int32 d) s = some_or (nat_eq d c) k (holding m (Int32 d)) s
put_keeps k (Int32 c) m (Uint32 d) s = s
put_keeps k (Uint32 c) m NoWords s = s
put_keeps k (Uint32 c) m (Int32 d) s = s
put_keeps k (Uint32 c) m (Uint32 d) s = some_or (nat_eq d c) k (holding m (Uint32 d)) s

record Found (k : ℕ) (ls : List CoreLabel) (q : Payload) (j : ℕ) : Type 0 where
  row : ℕ
  is : j ≡ k + row
  payload : payload_in ls row ≡ q

nothing_held : (q : Payload) (j : ℕ) → holding no_payload q ≡ Some j → ⊥
nothing_held NoWords j e = none-some j e
nothing_held (Int32 d) j e = none-some j e
nothing_held (Uint32 d) j e = none-some j e

sound_from : (k : ℕ) (ls : List CoreLabel) (q : Payload) (j : ℕ) → holding (payloads_from k ls) q ≡ Some j → Found k ls q j
sound_from k [] q j e = absurd (nothing_held q j e)
sound_from k (l ∷ ls) q j e = on (put_sound k l.payload (payloads_from (suc k) ls) q j e) (λ f. sound_from (suc k) ls q j f) where
  on : ((j ≡ k) × (l.payload ≡ q)) ⊎ (holding (payloads_from (suc k) ls) q ≡ Some j) → (holding (payloads_from (suc k) ls) q ≡ Some j → Found (suc k) ls q j) → Found k (l ∷ ls) q j
  on (inl x) others = record { row = 0; is = (let e = x.0 in omega (arith, e)); payload = x.1 }
  on (inr f) others =
      let r = others f in
      record { row = suc r.row; is = (let e = r.is in omega (arith, e)); payload = r.payload }

whole_from : (k : ℕ) (ls : List CoreLabel) (i : ℕ) → i < length ls → IsSome (holding (payloads_from k ls) (payload_in ls i))
whole_from k [] i lt = absurd (omega (arith, lt))
whole_from k (l ∷ ls) zero lt = put_here k l.payload (payloads_from (suc k) ls)
whole_from k (l ∷ ls) (suc i) lt = put_keeps k l.payload (payloads_from (suc k) ls) (payload_in ls i) (whole_from (suc k) ls i (omega (arith, lt)))

finds : (ls : List CoreLabel) → FindsFirst (payloads_from 0 ls) ls (length ls)
finds ls = record {
  sound = λ q j e.
      let r = sound_from 0 ls q j e in
      let same : j ≡ r.row = (let f = r.is in omega (arith, f)) in
      ap (payload_in ls) same ∙ r.payload;
  whole = whole_from 0 ls;
}

pub are_tables : (p : Program) → AreTables (tables_of p) p
are_tables p = record { roles = refl; labels = refl; kernels = refl; payloads = finds p.labels }

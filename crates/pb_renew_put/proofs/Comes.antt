-- What a call comes to, from the phase in which it ends.
use Rattle.std.proofs.Common.{◌≡◌, ◌⊎◌, ℕ, ◌≤◌, Bool, true, false, cond, ◌||◌, List, [], ◌∷◌, Option, None, Some, IsSome, IfSome, Result, Ok, Err, OnOk, IfErr, refl, sym, subst, ap, ◌∙◌, inl, inr, arith}
use Rattle.pb_io.specs.Faults.{next_count}
use Rattle.pb_io.specs.Files.{File, file_of}
use Rattle.pb_renew_store.specs.Changes.{KeepsFile, Turns}
use Rattle.pb_renew_store.specs.Deeds.{Deed}
use Rattle.pb_renew_put.specs.declared.fault.PutFault.{PutFault}
use Rattle.pb_renew_put.specs.declared.fault.PutFault.TheVariants.{NoMemory, Busy, Changed, Olds, ReadFault, WriteFault, Halfway}
use Rattle.pb_renew_put.specs.Ends.{Ends, Finishes, IsLeftSo, IsSeenBy, Stops, is_grown, is_taken, least_in}
use Rattle.pb_renew_put.specs.Jobs.{Behind, Task}
use Rattle.pb_renew_put.specs.Names.{is_old_name, is_written, left_name, new_name, spare_name}
use Rattle.pb_renew_put.specs.Phases.{DoesAll, Kept, keeps, unkept, Leads, LeftIs, untouched, grown, sure, undone, Own, nothing, has, broken, Phase, has_bytes, is_copy, is_kept, is_left_done, next, same_name, start, then_go, walk}
use Rattle.pb_renew_put.specs.Puts.{Cleans, ClearsSpare, Fails, HasFailed, IsBehind, IsCauseIn, KeepsOldIf, KeepsRest, Puts, PutsLeft, least_count}
use Rattle.pb_renew_put.proofs.Apart.{same_is, same_not}
use Rattle.pb_renew_put.proofs.At.{AllThere, At, BytesHas, CopyHas, LeftHas, OutHas, OwnHas, SpareHas, at_start}
use Rattle.pb_renew_put.proofs.Kept.{false_true, none_some}
use Rattle.pb_renew_put.proofs.Stays.{old_unwritten, step}
use Rattle.std.proofs.lemmas.Bool.{and_parts}
use Rattle.std.proofs.lemmas.Option.{same_Some}

walk_at : (t : Task) (apart : is_written t.out t.file ≡ false) (old : List File) (deeds : List Deed) (p q : Phase) (f g : List File) → At t old p f → walk t deeds p ≡ Some q → DoesAll deeds f g → At t old q g
walk_at t apart old [] p q f g at e does = subst (λ x. At t old x g) (same_Some _ _ e) (subst (λ h. At t old p h) (sym does) at)
walk_at t apart old (deed ∷ deeds) p q f g at e does =
    go (next t p deed) refl (λ x is rest. walk_at t apart old deeds x q does.0 g (step t apart old p x deed f does.0 at is does.1) rest does.2) e where
      go : (to : Option Phase) → next t p deed ≡ to → ((x : Phase) → next t p deed ≡ Some x → walk t deeds x ≡ Some q → At t old q g) → then_go (walk t deeds) to ≡ Some q → At t old q g
      go None is give rest = none_some q rest
      go (Some x) is give rest = give x is rest

reached : {d0 d1 : Option (List Deed)} {E : Phase → Type 0} (t : Task) (h0 h1 : Option (List File)) → is_written t.out t.file ≡ false → (leads : Leads t start d0 d1 h0 h1 E) → Turns h0 h1 (λ old new. At t old leads.phase new)
reached t None h1 apart leads = tt
reached t (Some a) None apart leads = leads.files
reached t (Some a) (Some b) apart leads = walk_at t apart a leads.deeds start leads.phase a b (at_start t a) leads.walks leads.files

weaken : (P Q : List File → List File → Type 0) (h0 h1 : Option (List File)) → ((a b : List File) → P a b → Q a b) → Turns h0 h1 P → Turns h0 h1 Q
weaken P Q None h1 give is = tt
weaken P Q (Some a) None give is = absurd is
weaken P Q (Some a) (Some b) give is = give a b is

-- ---- all was put

left_put : (behind : Option Behind) (left : LeftIs) (out : List ℕ) (old new : List File) → is_left_done behind left ≡ true
    → LeftHas left behind (file_of old (spare_name out)) (file_of old (left_name out)) (file_of new (left_name out)) → PutsLeft behind out old new
left_put None untouched out old new e held = held
left_put None grown out old new e held = false_true e
left_put None sure out old new e held = false_true e
left_put None undone out old new e held = false_true e
left_put (Some b) untouched out old new e held = false_true e
left_put (Some b) grown out old new e held = false_true e
left_put (Some b) sure out old new e held = (held.before, held.bodies)
left_put (Some b) undone out old new e held = false_true e

spare_put : (behind : Option Behind) (left : LeftIs) (out : List ℕ) (old new : List File) → is_left_done behind left ≡ true
    → LeftHas left behind (file_of old (spare_name out)) (file_of old (left_name out)) (file_of new (left_name out)) → KeepsFile (spare_name out) old new → ClearsSpare behind out old new
spare_put None left out old new e held stay = stay
spare_put (Some b) untouched out old new e held stay = false_true e
spare_put (Some b) grown out old new e held stay = false_true e
spare_put (Some b) sure out old new e held stay = (held.free, stay ∙ held.free)
spare_put (Some b) undone out old new e held stay = false_true e

full_of : (bytes : List ℕ) (own : Own) → has_bytes bytes own ≡ true → own ≡ has bytes true
full_of bytes nothing e = false_true e
full_of bytes broken e = false_true e
full_of bytes (has other disk) e =
    let parts = and_parts (same_name other bytes) disk e in
    ap (λ (l : List ℕ). has l disk) (same_is other bytes parts.0) ∙ ap (λ d. has bytes d) parts.1

kept_put : (t : Task) (keeps_old : Bool) (bytes : Option (List ℕ)) (kept : Kept) (old new : List File) → is_kept keeps_old bytes kept ≡ true → CopyHas kept t old new → KeepsOldIf keeps_old t.out bytes old new
kept_put t false bytes kept old new e held = tt
kept_put t true None kept old new e held = tt
kept_put t true (Some bytes) unkept old new e held = false_true e
kept_put t true (Some bytes) (keeps name own) old new e held =
    record { name = name; is = held.old_name; missing = held.free; whole = subst (λ o. BytesHas o (file_of new name)) (full_of bytes own e) held.bytes }

spare_stays : (t : Task) (old new : List File) (q : Phase) → At t old q new → q.spare ≡ nothing → q.strays ≡ false → KeepsFile (spare_name t.out) old new
spare_stays t old new q at spare strays =
    let held : SpareHas nothing q.strays (file_of old (spare_name t.out)) (file_of new (spare_name t.out)) = subst (λ o. SpareHas o q.strays (file_of old (spare_name t.out)) (file_of new (spare_name t.out))) spare at.stands.extra in
    subst (λ s. SpareHas nothing s (file_of old (spare_name t.out)) (file_of new (spare_name t.out))) strays held

lock_stays : (t : Task) (old new : List File) (q : Phase) → At t old q new → q.fresh ≡ nothing → KeepsFile (new_name t.out) old new
lock_stays t old new q at fresh = subst (λ o. OwnHas o (file_of old (new_name t.out)) (file_of new (new_name t.out))) fresh at.stands.lock

puts : (t : Task) (old new : List File) (q : Phase) → At t old q new → Finishes q → Puts t old new
puts t old new q at fin =
    let put = at.put fin.put in
    record {
      source = put.source;
      was = put.was;
      text = subst (λ b. OutHas b t (file_of old t.out) (file_of new t.out)) fin.put at.stands.out;
      left = left_put t.behind q.left t.out old new put.done at.stands.left;
      free = put.free;
      fresh = lock_stays t old new q at put.fresh_is ∙ put.free;
      spare = spare_put t.behind q.left t.out old new put.done at.stands.left (spare_stays t old new q at fin.spare fin.strays);
      kept = kept_put t t.keeps_old t.old q.kept old new put.copied at.stands.copy;
    }

pub put_done : {T : Type 0} {d0 d1 : Option (List Deed)} (t : Task) (h0 h1 : Option (List File)) (result : Result T PutFault) (before now : ℕ) → is_written t.out t.file ≡ false → Leads t start d0 d1 h0 h1 (Ends result t before now) → OnOk result (Turns h0 h1 (Puts t))
put_done t h0 h1 (Ok value) before now apart leads = weaken _ _ h0 h1 (λ a b at. puts t a b leads.phase at leads.end) (reached t h0 h1 apart leads)
put_done t h0 h1 (Err why) before now apart leads = tt

-- ---- it wasn't

left_kept : (behind : Option Behind) (left : LeftIs) (spare was is : Option (List ℕ)) → is_grown left ≡ false → LeftHas left behind spare was is → is ≡ was
left_kept behind untouched spare was is e held = held
left_kept behind undone spare was is e held = held
left_kept behind grown spare was is e held = false_true (sym e)
left_kept behind sure spare was is e held = false_true (sym e)

left_halfway : (behind : Option Behind) (left : LeftIs) (out : List ℕ) (old new : List File) → is_grown left ≡ true
    → LeftHas left behind (file_of old (spare_name out)) (file_of old (left_name out)) (file_of new (left_name out)) → IsBehind Halfway behind out old new × (file_of old (spare_name out) ≡ None)
left_halfway behind untouched out old new e held = false_true e
left_halfway behind undone out old new e held = false_true e
left_halfway None grown out old new e held = absurd held
left_halfway None sure out old new e held = absurd held
left_halfway (Some b) grown out old new e held = ((held.before, held.bodies), held.free)
left_halfway (Some b) sure out old new e held = ((held.before, held.bodies), held.free)

behind_so : (why : PutFault) (t : Task) (old new : List File) (q : Phase) → At t old q new → IsLeftSo why q.left → IsBehind why t.behind t.out old new
behind_so NoMemory t old new q at so = left_kept t.behind q.left _ _ _ so at.stands.left
behind_so Busy t old new q at so = left_kept t.behind q.left _ _ _ so at.stands.left
behind_so Changed t old new q at so = left_kept t.behind q.left _ _ _ so at.stands.left
behind_so Olds t old new q at so = left_kept t.behind q.left _ _ _ so at.stands.left
behind_so ReadFault t old new q at so = left_kept t.behind q.left _ _ _ so at.stands.left
behind_so WriteFault t old new q at so = left_kept t.behind q.left _ _ _ so at.stands.left
behind_so Halfway t old new q at so = (left_halfway t.behind q.left t.out old new so at.stands.left).0

pub put_kept : {T : Type 0} {d0 d1 : Option (List Deed)} (t : Task) (h0 h1 : Option (List File)) (result : Result T PutFault) (before now : ℕ) → is_written t.out t.file ≡ false → Leads t start d0 d1 h0 h1 (Ends result t before now) → IfErr result (λ why. Turns h0 h1 (Fails why t))
put_kept t h0 h1 (Ok value) before now apart leads = tt
put_kept t h0 h1 (Err why) before now apart leads =
    weaken _ _ h0 h1 (λ a b at. record { text = subst (λ put. OutHas put t (file_of a t.out) (file_of b t.out)) leads.end.put at.stands.out; left = behind_so why t a b leads.phase at leads.end.left }) (reached t h0 h1 apart leads)

-- ---- what was seen

there_so : (names : List (List ℕ)) (name : List ℕ) (old : List File) → is_taken names name ≡ true → AllThere names old → IsSome (file_of old name)
there_so [] name old e all = false_true e
there_so (other ∷ names) name old e all = by_test (same_name other name) refl (λ rest. there_so names name old rest all.1) e where
  by_test : (test : Bool) → same_name other name ≡ test → (is_taken names name ≡ true → IsSome (file_of old name)) → (test || is_taken names name) ≡ true → IsSome (file_of old name)
  by_test true same give either = subst (λ n. IsSome (file_of old n)) (same_is _ _ same) all.0
  by_test false same give either = give either

cause_so : (why : PutFault) (t : Task) (old new : List File) (q : Phase) → At t old q new → IsSeenBy why t q → IsCauseIn why t old
cause_so Busy t old new q at seen = elim seen [ inl x ↦ inl (there_so q.taken _ old x at.there) | inr x ↦ inr (there_so q.taken _ old x at.there) ]
cause_so Changed t old new q at seen = at.other seen
cause_so Olds t old new q at seen = λ number low high. there_so q.taken _ old (seen number low high) at.there
cause_so NoMemory t old new q at seen = tt
cause_so ReadFault t old new q at seen = tt
cause_so WriteFault t old new q at seen = tt
cause_so Halfway t old new q at seen = tt

pub put_cause : {T : Type 0} {d0 d1 : Option (List Deed)} (t : Task) (h0 h1 : Option (List File)) (result : Result T PutFault) (before now : ℕ) → is_written t.out t.file ≡ false → Leads t start d0 d1 h0 h1 (Ends result t before now) → IfErr result (λ why. IfSome h0 (IsCauseIn why t))
put_cause t h0 h1 (Ok value) before now apart leads = tt
put_cause t None h1 (Err why) before now apart leads = tt
put_cause t (Some a) None (Err why) before now apart leads = absurd (reached t (Some a) None apart leads)
put_cause t (Some a) (Some b) (Err why) before now apart leads = cause_so why t a b leads.phase (reached t (Some a) (Some b) apart leads) leads.end.cause

-- in a store that tells its files nobody else makes an OUT.left.new meanwhile
least_so : (why : PutFault) (t : Task) (old new : List File) (q : Phase) → At t old q new → IsLeftSo why q.left → (before : ℕ) → least_in why t q before ≡ least_count why before
least_so NoMemory t old new q at so before = refl
least_so Busy t old new q at so before = refl
least_so Changed t old new q at so before = refl
least_so Olds t old new q at so before = refl
least_so ReadFault t old new q at so before = refl
least_so WriteFault t old new q at so before = refl
least_so Halfway t old new q at so before = by_test (is_taken q.taken (spare_name t.out)) refl where
  by_test : (test : Bool) → is_taken q.taken (spare_name t.out) ≡ test → cond test (next_count before) (next_count (next_count before)) ≡ next_count (next_count before)
  by_test true e =
      let free : file_of old (spare_name t.out) ≡ None = (left_halfway t.behind q.left t.out old new so at.stands.left).1 in
      let some : IsSome (file_of old (spare_name t.out)) = there_so q.taken _ old e at.there in
      (let never : IsSome {T = List ℕ} None = subst (λ o. IsSome o) free some in false_true never)
  by_test false e = refl

failed_so : (why : PutFault) (t : Task) (q : Phase) (before now : ℕ) → least_in why t q before ≤ now → HasFailed why None before now
failed_so NoMemory t q before now le = le
failed_so Busy t q before now le = le
failed_so Changed t q before now le = le
failed_so Olds t q before now le = le
failed_so ReadFault t q before now le = le
failed_so WriteFault t q before now le = le
failed_so Halfway t q before now le = by_test (is_taken q.taken (spare_name t.out)) le where
  by_test : (test : Bool) → cond test (next_count before) (next_count (next_count before)) ≤ now → next_count before ≤ now
  by_test true is = is
  by_test false is = omega arith

failed_too : (why : PutFault) (a : List File) (before now : ℕ) → least_count why before ≤ now → HasFailed why (Some a) before now
failed_too NoMemory a before now le = le
failed_too Busy a before now le = le
failed_too Changed a before now le = le
failed_too Olds a before now le = le
failed_too ReadFault a before now le = le
failed_too WriteFault a before now le = le
failed_too Halfway a before now le = le

pub put_clean : {T : Type 0} {d0 d1 : Option (List Deed)} (t : Task) (h0 h1 : Option (List File)) (result : Result T PutFault) (before now : ℕ) → is_written t.out t.file ≡ false → Leads t start d0 d1 h0 h1 (Ends result t before now)
    → IfErr result (λ why. Turns h0 h1 (Cleans t) ⊎ (next_count (least_count why before) ≤ now))
put_clean t h0 h1 (Ok value) before now apart leads = tt
put_clean t None h1 (Err why) before now apart leads = inl tt
put_clean t (Some a) None (Err why) before now apart leads = absurd (reached t (Some a) None apart leads)
put_clean t (Some a) (Some b) (Err why) before now apart leads =
    let at : At t a leads.phase b = reached t (Some a) (Some b) apart leads in
    elim leads.end.clean [ inl x ↦ inl (record { fresh = lock_stays t a b leads.phase at x.fresh; spare = spare_stays t a b leads.phase at x.spare x.strays }) | inr x ↦ inr (subst (λ n. next_count n ≤ now) (least_so why t a b leads.phase at leads.end.left before) x) ]

pub put_fault : {T : Type 0} {d0 d1 : Option (List Deed)} (t : Task) (h0 h1 : Option (List File)) (result : Result T PutFault) (before now : ℕ) → is_written t.out t.file ≡ false → Leads t start d0 d1 h0 h1 (Ends result t before now) → IfErr result (λ why. HasFailed why h0 before now)
put_fault t h0 h1 (Ok value) before now apart leads = tt
put_fault t None h1 (Err why) before now apart leads = failed_so why t leads.phase before now leads.end.fault
put_fault t (Some a) None (Err why) before now apart leads = absurd (reached t (Some a) None apart leads)
put_fault t (Some a) (Some b) (Err why) before now apart leads =
    failed_too why a before now (subst (λ n. n ≤ now) (least_so why t a b leads.phase (reached t (Some a) (Some b) apart leads) leads.end.left before) leads.end.fault)

-- ---- each other file

uncopied : (t : Task) (old new : List File) (kept : Kept) (other : List ℕ) → CopyHas kept t old new → is_old_name t.out other ≡ false → is_copy kept other ≡ false
uncopied t old new unkept other held e = refl
uncopied t old new (keeps name own) other held e = same_not _ _ (λ is. false_true (sym e ∙ subst (λ n. is_old_name t.out n ≡ true) (sym is) held.old_name))

uncopied_there : (t : Task) (old new : List File) (kept : Kept) (other bytes : List ℕ) → CopyHas kept t old new → file_of old other ≡ Some bytes → is_copy kept other ≡ false
uncopied_there t old new unkept other bytes held e = refl
uncopied_there t old new (keeps name own) other bytes held e = same_not _ _ (λ is. none_some bytes (sym held.free ∙ subst (λ n. file_of old n ≡ Some bytes) is e))

uncopied_ever : (t : Task) (old new : List File) (kept : Kept) (other : List ℕ) → CopyHas kept t old new → t.keeps_old ≡ false → is_copy kept other ≡ false
uncopied_ever t old new unkept other held e = refl
uncopied_ever t old new (keeps name own) other held e = false_true (sym e ∙ held.keeps_old)

rest_so : (t : Task) (apart : is_written t.out t.file ≡ false) (old new : List File) (q : Phase) → At t old q new → KeepsRest t old new
rest_so t apart old new q at = record {
  others = λ other unwritten not_old. at.stands.others other unwritten (uncopied t old new q.kept other at.stands.copy not_old);
  olds = λ other bytes is_old e. at.stands.others other (old_unwritten t apart old other is_old) (uncopied_there t old new q.kept other bytes at.stands.copy e) ∙ e;
  unkept = λ e other is_old. at.stands.others other (old_unwritten t apart old other is_old) (uncopied_ever t old new q.kept other at.stands.copy e);
}

pub put_rest : {T : Type 0} {d0 d1 : Option (List Deed)} (t : Task) (h0 h1 : Option (List File)) (result : Result T PutFault) (before now : ℕ) → is_written t.out t.file ≡ false → Leads t start d0 d1 h0 h1 (Ends result t before now) → Turns h0 h1 (KeepsRest t)
put_rest t h0 h1 result before now apart leads = weaken _ _ h0 h1 (λ a b at. rest_so t apart a b leads.phase at) (reached t h0 h1 apart leads)

-- no memory at the start
pub nothing_done : (t : Task) (count : ℕ) → Stops NoMemory t count count start
nothing_done t count = record { put = refl; left = refl; cause = tt; fault = omega arith; clean = inl (record { fresh = refl; spare = refl; strays = refl }) }

-- The ways of OUT.left, and of the renamings.
use Rattle.std.proofs.Common.{◌≡◌, ℕ, ◌≤◌, Bool, true, false, cond, List, [], Option, None, Some, IsSome, Result, Ok, Err, OnOk, OnErr, refl, sym, subst, inl, inr, arith}
use Rattle.pb_io.specs.Faults.{HasCause, Rose, next_count}
use Rattle.pb_io.specs.Files.{File}
use Rattle.pb_renew_store.specs.Deeds.{Deed, made, met, renamed, removed, settled, Did, DidNothing}
use Rattle.pb_renew_put.specs.declared.files.Files.{Files}
use Rattle.pb_renew_put.specs.declared.fault.PutFault.TheVariants.{WriteFault, Halfway}
use Rattle.pb_renew_put.specs.Ends.{count_again, is_grown, is_taken}
use Rattle.pb_renew_put.specs.Jobs.{Behind, Task}
use Rattle.pb_renew_put.specs.Names.{left_name, new_name, spare_name}
use Rattle.pb_renew_put.specs.Phases.{Kept, Leads, LeftIs, untouched, grown, sure, undone, Own, nothing, has, Phase, is_kept, is_left_done, is_own, with_out, with_spare}
use Rattle.pb_renew_put.specs.Steps.{AreFiles, Closes, Falls, Raised, Removes, Rewrites, Stuck, Undoes, under}
use Rattle.pb_renew_put.proofs.Apart.{same_self}
use Rattle.pb_renew_put.proofs.Leads.{from_same, leads_deed, leads_nothing, then_leads}
use Rattle.pb_renew_put.proofs.Nexts.{left_raised, left_restored, made_spare, met_spare, out_put, removed_left, removed_spare, settled_left}
use Rattle.pb_renew_put.proofs.Kept.{false_true}

-- the same deed under the same name
pub did_at : {d0 d1 : Option (List Deed)} {h0 h1 : Option (List File)} (deed : List ℕ → Deed) (a b : List ℕ) → a ≡ b → Did d0 d1 h0 h1 (deed a) → Did d0 d1 h0 h1 (deed b)
did_at {d0 = d0} {d1 = d1} {h0 = h0} {h1 = h1} deed a b is did = subst (λ n. Did d0 d1 h0 h1 (deed n)) is did

pub did_rename : {d0 d1 : Option (List Deed)} {h0 h1 : Option (List File)} (a b from to : List ℕ) → a ≡ from → b ≡ to → Did d0 d1 h0 h1 (renamed a b) → Did d0 d1 h0 h1 (renamed from to)
did_rename a b from to is so did = did_at (λ n. renamed from n) b to so (did_at (λ n. renamed n b) a from is did)

left_done : (behind : Option Behind) → IsSome behind → is_left_done behind sure ≡ true
left_done None some = cc
left_done (Some b) some = refl

-- one more, or none, and two more
again_now : (t : Task) (p : Phase) (before between now : ℕ) → before ≤ between → Rose before between → between ≤ now → count_again t p before ≤ now
again_now t p before between now sooner rose later = by_test (is_taken p.taken (spare_name t.out)) where
  by_test : (test : Bool) → cond test before (next_count before) ≤ now
  by_test true = omega arith
  by_test false = omega arith

again_twice : (t : Task) (p : Phase) (before between now : ℕ) → Rose before between → Rose between now → next_count (count_again t p before) ≤ now
again_twice t p before between now rose rose2 = by_test (is_taken p.taken (spare_name t.out)) where
  by_test : (test : Bool) → next_count (cond test before (next_count before)) ≤ now
  by_test true = omega arith
  by_test false = omega arith

module _ (t : Task) (files : Files) (are : AreFiles t files) where
  pub settled_then_put : {T E : Type 0} {d0 d1 d2 : Option (List Deed)} {h0 h1 h2 : Option (List File)} (kept : Kept) (taken : List (List ℕ)) (result : Result T E)
      → IsSome t.behind → is_kept t.keeps_old t.old kept ≡ true
      → Did d0 d1 h0 h1 (settled files.left.now) → OnOk result (Did d1 d2 h1 h2 (renamed files.fresh.now files.out.now)) → OnErr result (DidNothing d1 d2 h1 h2)
      → Leads t (under (has t.text true) nothing kept taken true true true grown) d0 d2 h0 h2 (Closes result t kept taken)
  settled_then_put {d1 = d1} {d2 = d2} {h1 = h1} {h2 = h2} kept taken result some done settled_so renamed_so failed =
      then_leads (leads_deed {E = λ q. q ≡ under (has t.text true) nothing kept taken true true true sure} (settled (left_name t.out)) _ (did_at settled _ _ are.left settled_so) (settled_left t kept taken) refl)
      (λ q at. from_same q at (last result renamed_so failed)) where
        last : {T E : Type 0} (result : Result T E) → OnOk result (Did d1 d2 h1 h2 (renamed files.fresh.now files.out.now)) → OnErr result (DidNothing d1 d2 h1 h2)
            → Leads t (under (has t.text true) nothing kept taken true true true sure) d1 d2 h1 h2 (Closes result t kept taken)
        last (Ok value) did nothing_done =
            let at : Phase = under (has t.text true) nothing kept taken true true true sure in
            leads_deed (renamed (new_name t.out) t.out) (with_out at) (did_rename _ _ _ _ are.fresh are.out did)
            (out_put t at refl refl (left_done t.behind some) (rw (same_self t.text) refl) refl done) (record { put = refl; spare = refl; strays = refl })
        last (Err fault) did nothing_done = leads_nothing nothing_done (sure, refl, refl)

  -- OUT.left.new once more
  pub rewritten : {T E : Type 0} {d1 d2 : Option (List Deed)} {h1 h2 : Option (List File)} (b : Behind) (bytes : List ℕ) (kept : Kept) (taken : List (List ℕ)) (left : LeftIs) (result : Result T E)
      → t.behind ≡ Some b → b.before ≡ Some bytes → is_grown left ≡ true
      → OnOk result (Did d1 d2 h1 h2 (renamed files.spare.now files.left.now)) → OnErr result (DidNothing d1 d2 h1 h2)
      → Leads t (under (has t.text true) (has bytes true) kept taken true true true left) d1 d2 h1 h2 (Rewrites result t kept taken left)
  rewritten b bytes kept taken left (Ok value) behind before is_so did failed =
      leads_deed (renamed (spare_name t.out) (left_name t.out)) _ (did_rename _ _ _ _ are.spare are.left did) (left_restored t b bytes kept taken left behind before is_so) refl
  rewritten b bytes kept taken left (Err fault) behind before is_so did failed = leads_nothing failed (has bytes true, refl, refl)

  -- OUT.left.new can't be put in the place of OUT.left, and is taken away
  pub not_restored : {d1 d2 : Option (List Deed)} {h1 h2 : Option (List File)} (kept : Kept) (taken : List (List ℕ)) (left : LeftIs) (p : Phase) → is_grown left ≡ true
      → (before between now : ℕ) → before ≤ between → Rose before between
      → (own : Own) × (is_own own ≡ true) × (p ≡ under (has t.text true) own kept taken true true true left)
      → Removes files.spare.now d1 d2 h1 h2 between now → between ≤ now
      → Leads t p d1 d2 h1 h2 (Stuck t before now)
  not_restored kept taken left p is_so before between now sooner rose at away later =
      let from : Phase = under (has t.text true) at.0 kept taken true true true left in
      let fault : count_again t from before ≤ now = again_now t from before between now sooner rose later in
      from_same p at.2
      (elim away [
        | inl did ↦ leads_deed (removed (spare_name t.out)) _ (did_at removed _ _ are.spare did) (removed_spare t from refl at.1)
            (record { owns = false; locked = refl; spare = refl; strays = refl; put = refl; left = is_so; fault = again_now t (with_spare from nothing) before between now sooner rose later; again = λ e. false_true e })
        | inr nothing_did ↦ leads_nothing nothing_did.0
            (record { owns = true; locked = refl; spare = at.1; strays = refl; put = refl; left = is_so; fault = fault; again = λ e. again_twice t from before between now rose nothing_did.1 })
      ])

  pub spare_unmade : {d0 d1 : Option (List Deed)} {h0 h1 : Option (List File)} (kept : Kept) (taken : List (List ℕ)) (left : LeftIs) → is_grown left ≡ true → (before now : ℕ) → Rose before now → before ≤ now → DidNothing d0 d1 h0 h1
      → Leads t (under (has t.text true) nothing kept taken true true true left) d0 d1 h0 h1 (Stuck t before now)
  spare_unmade kept taken left is_so before now rose later failed =
      leads_nothing failed (record { owns = false; locked = refl; spare = refl; strays = refl; put = refl; left = is_so; fault = again_now t (under (has t.text true) nothing kept taken true true true left) before now now later rose (omega arith); again = λ e. false_true e })

  pub spare_met : {d0 d1 : Option (List Deed)} {h0 h1 : Option (List File)} (kept : Kept) (taken : List (List ℕ)) (left : LeftIs) → is_grown left ≡ true → (before now : ℕ) → before ≤ now → Did d0 d1 h0 h1 (met files.spare.now)
      → Leads t (under (has t.text true) nothing kept taken true true true left) d0 d1 h0 h1 (Stuck t before now)
  spare_met kept taken left is_so before now later did =
      let from : Phase = under (has t.text true) nothing kept taken true true true left in
      leads_deed (met (spare_name t.out)) _ (did_at met _ _ are.spare did) (met_spare t from refl refl)
      (record { owns = false; locked = refl; spare = refl; strays = refl; put = refl; left = is_so; fault = rw (same_self (spare_name t.out)) later; again = λ e. false_true e })

  pub spare_made : {d0 d1 : Option (List Deed)} {h0 h1 : Option (List File)} (kept : Kept) (taken : List (List ℕ)) (left : LeftIs) → Did d0 d1 h0 h1 (made files.spare.now)
      → Leads t (under (has t.text true) nothing kept taken true true true left) d0 d1 h0 h1 (λ q. q ≡ under (has t.text true) (has [] false) kept taken true true true left)
  spare_made kept taken left did =
      leads_deed (made (spare_name t.out)) _ (did_at made _ _ are.spare did) (made_spare t (under (has t.text true) nothing kept taken true true true left) refl refl) refl

  -- OUT.left, which wasn't there, is taken away
  pub left_taken : {T E : Type 0} {d0 d1 : Option (List Deed)} {h0 h1 : Option (List File)} (b : Behind) (kept : Kept) (taken : List (List ℕ)) (left : LeftIs) (result : Result T E) → t.behind ≡ Some b → b.before ≡ None → is_grown left ≡ true
      → (before now : ℕ) → HasCause before now result → OnOk result (Did d0 d1 h0 h1 (removed files.left.now)) → OnErr result (DidNothing d0 d1 h0 h1)
      → Leads t (under (has t.text true) nothing kept taken true true true left) d0 d1 h0 h1 (Undoes result t kept taken before now)
  left_taken b kept taken left (Ok value) behind before_is is_so before now cause did failed =
      leads_deed (removed (left_name t.out)) _ (did_at removed _ _ are.left did) (removed_left t b kept taken left behind before_is is_so) refl
  left_taken b kept taken left (Err fault) behind before_is is_so before now cause did failed = spare_unmade kept taken left is_so before now cause.failed cause.later failed

-- counted from further in front
pub shifted : {T E : Type 0} (t : Task) (kept : Kept) (taken : List (List ℕ)) (result : Result T E) (before between now : ℕ) (p : Phase) → before ≤ between → Undoes result t kept taken between now p → Undoes result t kept taken before now p
shifted t kept taken (Ok value) before between now p later so = so
shifted t kept taken (Err fault) before between now p later so = record {
  owns = so.owns;
  locked = so.locked;
  spare = so.spare;
  strays = so.strays;
  put = so.put;
  left = so.left;
  fault = by_test (is_taken p.taken (spare_name t.out)) so.fault;
  again = λ e. by_test2 (is_taken p.taken (spare_name t.out)) (so.again e);
} where
  by_test : (test : Bool) → cond test between (next_count between) ≤ now → cond test before (next_count before) ≤ now
  by_test true le = omega arith
  by_test false le = omega arith

  by_test2 : (test : Bool) → next_count (cond test between (next_count between)) ≤ now → next_count (cond test before (next_count before)) ≤ now
  by_test2 true le = omega arith
  by_test2 false le = omega arith

pub some_behind : (behind : Option Behind) (b : Behind) → behind ≡ Some b → IsSome behind
some_behind behind b is = subst (λ o. IsSome o) (sym is) refl

-- OUT.left is put back
pub undone_so : (t : Task) (kept : Kept) (taken : List (List ℕ)) (before between now : ℕ) (p : Phase) → Rose before between → between ≤ now
    → p ≡ under (has t.text true) nothing kept taken true true true undone → Falls WriteFault t before now p
undone_so t kept taken before between now p rose later is = subst (λ x. Falls WriteFault t before now x) (sym is)
    (record { owns = false; fell = record { locked = refl; spare = refl; strays = refl; put = refl; left = refl; cause = tt }; fault = omega arith; again = λ e. false_true e })

-- and isn't
pub halfway : (t : Task) (before between now : ℕ) (p : Phase) → Rose before between → Stuck t between now p → Falls Halfway t before now p
halfway t before between now p rose so = record {
  owns = so.owns;
  fell = record { locked = so.locked; spare = so.spare; strays = so.strays; put = so.put; left = so.left; cause = tt };
  fault = by_test (is_taken p.taken (spare_name t.out)) so.fault;
  again = λ e. by_test2 (is_taken p.taken (spare_name t.out)) (so.again e);
} where
  by_test : (test : Bool) → cond test between (next_count between) ≤ now → cond test (next_count before) (next_count (next_count before)) ≤ now
  by_test true le = omega arith
  by_test false le = omega arith

  by_test2 : (test : Bool) → next_count (cond test between (next_count between)) ≤ now → next_count (cond test (next_count before) (next_count (next_count before))) ≤ now
  by_test2 true le = omega arith
  by_test2 false le = omega arith

pub raised_so : {d0 d1 : Option (List Deed)} {h0 h1 : Option (List File)} (t : Task) (files : Files) → AreFiles t files → (b : Behind) (kept : Kept) (taken : List (List ℕ)) → t.behind ≡ Some b → is_kept t.keeps_old t.old kept ≡ true
    → Did d0 d1 h0 h1 (renamed files.spare.now files.left.now) → Leads t (under (has t.text true) (has b.bodies true) kept taken true true true untouched) d0 d1 h0 h1 (Raised t)
raised_so t files are b kept taken behind done did =
    leads_deed (renamed (spare_name t.out) (left_name t.out)) _ (did_rename _ _ _ _ are.spare are.left did) (left_raised t b kept taken behind) (record { kept = kept; taken = taken; is = refl; done = done })

-- The ways of a fault.
use Rattle.std.proofs.Common.{◌≡◌, ◌⊎◌, ℕ, ◌≤◌, Bool, true, false, cond, ◌||◌, List, [], Option, None, Result, Ok, Err, refl, sym, subst, inl, inr, arith}
use Rattle.pb_io.specs.Faults.{Rose, next_count}
use Rattle.pb_io.specs.Files.{File}
use Rattle.pb_renew_store.specs.Deeds.{Deed, made, met, renamed, removed, Did, DidNothing}
use Rattle.pb_renew_put.specs.declared.files.Files.{Files}
use Rattle.pb_renew_put.specs.declared.fault.PutFault.{PutFault}
use Rattle.pb_renew_put.specs.declared.fault.PutFault.TheVariants.{NoMemory, Busy, Changed, Olds, ReadFault, WriteFault, Halfway}
use Rattle.pb_renew_put.specs.Ends.{Ends, Finishes, IsClean, IsSeenBy, Stops, is_taken, least_in}
use Rattle.pb_renew_put.specs.Jobs.{Task}
use Rattle.pb_renew_put.specs.Names.{new_name, spare_name}
use Rattle.pb_renew_put.specs.Phases.{Kept, unkept, Leads, untouched, Own, nothing, has, Phase, is_kept, is_own, start, unlocked, with_fresh, with_out, with_spare}
use Rattle.pb_renew_put.specs.Puts.{least_count}
use Rattle.pb_renew_put.specs.Steps.{AreFiles, Falls, Fell, Fills, Removes, under}
use Rattle.pb_renew_put.proofs.Apart.{same_self}
use Rattle.pb_renew_put.proofs.Closing.{did_at, did_rename}
use Rattle.pb_renew_put.proofs.Kept.{false_true}
use Rattle.pb_renew_put.proofs.Leads.{leads_deed, leads_nothing}
use Rattle.pb_renew_put.proofs.Nexts.{made_new, made_spare, met_new, met_spare, out_put, removed_new, removed_spare}

-- ---- counts

least_le : (why : PutFault) (t : Task) (p : Phase) (before now : ℕ) → least_count why before ≤ now → least_in why t p before ≤ now
least_le NoMemory t p before now le = le
least_le Busy t p before now le = le
least_le Changed t p before now le = le
least_le Olds t p before now le = le
least_le ReadFault t p before now le = le
least_le WriteFault t p before now le = le
least_le Halfway t p before now le = by_test (is_taken p.taken (spare_name t.out)) where
  by_test : (test : Bool) → cond test (next_count before) (next_count (next_count before)) ≤ now
  by_test true = omega arith
  by_test false = le

again_le : (test : Bool) (before between : ℕ) → before ≤ between → cond test (next_count before) (next_count (next_count before)) ≤ cond test (next_count between) (next_count (next_count between))
again_le true before between le = omega arith
again_le false before between le = omega arith

-- counted from further in front
least_sooner : (why : PutFault) (t : Task) (p : Phase) (before between : ℕ) → before ≤ between → least_in why t p before ≤ least_in why t p between
least_sooner NoMemory t p before between le = le
least_sooner Busy t p before between le = le
least_sooner Changed t p before between le = le
least_sooner Olds t p before between le = le
least_sooner ReadFault t p before between le = omega arith
least_sooner WriteFault t p before between le = omega arith
least_sooner Halfway t p before between le = again_le (is_taken p.taken (spare_name t.out)) before between le

through : (a b c : ℕ) → a ≤ b → b ≤ c → a ≤ c
through a b c x y = omega arith

next_through : (a b c : ℕ) → a ≤ b → next_count b ≤ c → next_count a ≤ c
next_through a b c x y = omega arith

pub fills_sooner : {T : Type 0} (result : Result T PutFault) (t : Task) (before between now : ℕ) (p : Phase) → before ≤ between → Fills result t between now p → Fills result t before now p
fills_sooner (Ok value) t before between now p le so = so
fills_sooner (Err why) t before between now p le so = record {
  owns = so.owns;
  fell = so.fell;
  fault = through _ _ now (least_sooner why t p before between le) so.fault;
  again = λ e. next_through _ _ now (least_sooner why t p before between le) (so.again e);
}

pub ends_sooner : {T : Type 0} (result : Result T PutFault) (t : Task) (before between now : ℕ) (p : Phase) → before ≤ between → Ends result t between now p → Ends result t before now p
ends_sooner (Ok value) t before between now p le so = so
ends_sooner (Err why) t before between now p le so = record {
  put = so.put;
  left = so.left;
  cause = so.cause;
  fault = through _ _ now (least_sooner why t p before between le) so.fault;
  clean = elim so.clean [ inl x ↦ inl x | inr x ↦ inr (next_through _ _ now (least_sooner why t p before between le) x) ];
}

-- ---- what was seen is known still

seen_spare : (why : PutFault) (t : Task) (p : Phase) (own : Own) → IsSeenBy why t p → IsSeenBy why t (with_spare p own)
seen_spare NoMemory t p own s = s
seen_spare Busy t p own s = s
seen_spare Changed t p own s = s
seen_spare Olds t p own s = s
seen_spare ReadFault t p own s = s
seen_spare WriteFault t p own s = s
seen_spare Halfway t p own s = s

seen_unlocked : (why : PutFault) (t : Task) (p : Phase) → IsSeenBy why t p → IsSeenBy why t (unlocked p)
seen_unlocked NoMemory t p s = s
seen_unlocked Busy t p s = s
seen_unlocked Changed t p s = s
seen_unlocked Olds t p s = s
seen_unlocked ReadFault t p s = s
seen_unlocked WriteFault t p s = s
seen_unlocked Halfway t p s = s

least_unlocked : (why : PutFault) (t : Task) (p : Phase) (before : ℕ) → least_in why t (unlocked p) before ≡ least_in why t p before
least_unlocked NoMemory t p before = refl
least_unlocked Busy t p before = refl
least_unlocked Changed t p before = refl
least_unlocked Olds t p before = refl
least_unlocked ReadFault t p before = refl
least_unlocked WriteFault t p before = refl
least_unlocked Halfway t p before = refl

-- ---- a fault under the lock

pub falls_here : (why : PutFault) (t : Task) (p : Phase) (before now : ℕ) → Fell why t false p → least_count why before ≤ now → Falls why t before now p
falls_here why t p before now fell le = record { owns = false; fell = fell; fault = least_le why t p before now le; again = λ e. false_true e }

module _ (t : Task) (files : Files) (are : AreFiles t files) where
  -- OUT.left.new is taken away
  pub spare_away : {d0 d1 : Option (List Deed)} {h0 h1 : Option (List File)} (why : PutFault) (p : Phase) (before between now : ℕ)
      → Fell why t true p → least_count why before ≤ between → between ≤ now → Removes files.spare.now d0 d1 h0 h1 between now → Leads t p d0 d1 h0 h1 (Falls why t before now)
  spare_away why p before between now fell counted later away = elim away [
    | inl did ↦ leads_deed (removed (spare_name t.out)) _ (did_at removed _ _ are.spare did) (removed_spare t p fell.locked fell.spare)
        (falls_here why t (with_spare p nothing) before now (record { locked = fell.locked; spare = refl; strays = fell.strays; put = fell.put; left = fell.left; cause = seen_spare why t p nothing fell.cause }) (through _ _ now counted later))
    | inr failed ↦ leads_nothing failed.0
        (record { owns = true; fell = fell; fault = least_le why t p before now (through _ _ now counted later); again = λ e. next_through _ _ now (least_le why t p before between counted) failed.1 })
  ]

  -- OUT.new is taken away
  pub lock_away : {d0 d1 : Option (List Deed)} {h0 h1 : Option (List File)} (why : PutFault) (p : Phase) (before between now : ℕ)
      → Falls why t before between p → between ≤ now → Removes files.fresh.now d0 d1 h0 h1 between now → Leads t p d0 d1 h0 h1 (Stops why t before now)
  lock_away why p before between now falls later away = elim away [
    | inl did ↦ leads_deed (removed (new_name t.out)) _ (did_at removed _ _ are.fresh did) (removed_new t p falls.fell.locked)
        (record {
          put = falls.fell.put;
          left = falls.fell.left;
          cause = seen_unlocked why t p falls.fell.cause;
          fault = subst (λ n. n ≤ now) (sym (least_unlocked why t p before)) (through _ _ now falls.fault later);
          clean = clean falls.owns falls.fell.spare falls.again;
        })
    | inr failed ↦ leads_nothing failed.0
        (record {
          put = falls.fell.put;
          left = falls.fell.left;
          cause = falls.fell.cause;
          fault = through _ _ now falls.fault later;
          clean = inr (next_through _ _ now falls.fault failed.1);
        })
  ] where
    neither : (a b : Bool) → a ≡ false → b ≡ false → (a || b) ≡ false
    neither true b x y = x
    neither false b x y = y

    clean : (owns : Bool) → is_own p.spare ≡ owns → (owns ≡ true → next_count (least_in why t p before) ≤ between) → IsClean (unlocked p) ⊎ (next_count (least_in why t (unlocked p) before) ≤ now)
    clean false own again = inl (record { fresh = refl; spare = refl; strays = neither _ _ falls.fell.strays own })
    clean true own again = inr (subst (λ n. next_count n ≤ now) (sym (least_unlocked why t p before)) (through _ _ now (again refl) later))

  -- ---- OUT.left.new is made, or isn't

  pub spare_ready : {d0 d1 : Option (List Deed)} {h0 h1 : Option (List File)} → Did d0 d1 h0 h1 (made files.spare.now)
      → Leads t (with_fresh start (has t.text true)) d0 d1 h0 h1 (λ q. q ≡ under (has t.text true) (has [] false) unkept [] false false false untouched)
  spare_ready did = leads_deed (made (spare_name t.out)) _ (did_at made _ _ are.spare did) (made_spare t (with_fresh start (has t.text true)) refl refl) refl

  pub spare_busy : {d0 d1 : Option (List Deed)} {h0 h1 : Option (List File)} (before now : ℕ) → before ≤ now → Did d0 d1 h0 h1 (met files.spare.now)
      → Leads t (with_fresh start (has t.text true)) d0 d1 h0 h1 (Falls Busy t before now)
  spare_busy before now le did =
      leads_deed (met (spare_name t.out)) _ (did_at met _ _ are.spare did) (met_spare t (with_fresh start (has t.text true)) refl refl)
      (falls_here Busy t _ before now (record { locked = refl; spare = refl; strays = refl; put = refl; left = refl; cause = inr (rw (same_self (spare_name t.out)) refl) }) le)

  pub cant_write_yet : {d0 d1 : Option (List Deed)} {h0 h1 : Option (List File)} (own : Own) (before now : ℕ) → is_own own ≡ true → Rose before now → DidNothing d0 d1 h0 h1
      → Leads t (with_fresh start own) d0 d1 h0 h1 (Falls WriteFault t before now)
  cant_write_yet own before now locked rose failed =
      leads_nothing failed (falls_here WriteFault t (with_fresh start own) before now (record { locked = locked; spare = refl; strays = refl; put = refl; left = refl; cause = tt }) rose)

  pub text_unwritten : (p : Phase) (before now : ℕ) → Rose before now → (own : Own) × (is_own own ≡ true) × (p ≡ with_fresh start own) → Falls WriteFault t before now p
  text_unwritten p before now rose at = subst (λ x. Falls WriteFault t before now x) (sym at.2)
      (falls_here WriteFault t (with_fresh start at.0) before now (record { locked = at.1; spare = refl; strays = refl; put = refl; left = refl; cause = tt }) rose)

  pub bodies_unwritten : (text : List ℕ) (p : Phase) → (own : Own) × (is_own own ≡ true) × (p ≡ under (has text true) own unkept [] false false false untouched) → Fell WriteFault t true p
  bodies_unwritten text p at = subst (λ x. Fell WriteFault t true x) (sym at.2) (record { locked = refl; spare = at.1; strays = refl; put = refl; left = refl; cause = tt })

  -- ---- OUT gets its name, where no body goes to OUT.left

  pub text_put : {d0 d1 : Option (List Deed)} {h0 h1 : Option (List File)} (kept : Kept) (taken : List (List ℕ)) → t.behind ≡ None → is_kept t.keeps_old t.old kept ≡ true → Did d0 d1 h0 h1 (renamed files.fresh.now files.out.now)
      → Leads t (under (has t.text true) nothing kept taken true true false untouched) d0 d1 h0 h1 Finishes
  text_put kept taken alone done did =
      let at : Phase = under (has t.text true) nothing kept taken true true false untouched in
      leads_deed (renamed (new_name t.out) t.out) (with_out at) (did_rename _ _ _ _ are.fresh are.out did) (out_put t at refl refl (rw alone refl) (rw (same_self t.text) refl) refl done)
      (record { put = refl; spare = refl; strays = refl })

  pub text_stays : {d0 d1 : Option (List Deed)} {h0 h1 : Option (List File)} (spare : Own) (kept : Kept) (taken : List (List ℕ)) (left : Bool) → DidNothing d0 d1 h0 h1
      → Leads t (under (has t.text true) spare kept taken true true left untouched) d0 d1 h0 h1 (Fell WriteFault t (is_own spare))
  text_stays spare kept taken left failed = leads_nothing failed (record { locked = refl; spare = refl; strays = refl; put = refl; left = refl; cause = tt })

  -- ---- the lock is made, or isn't

  pub lock_ready : {d0 d1 : Option (List Deed)} {h0 h1 : Option (List File)} → Did d0 d1 h0 h1 (made files.fresh.now) → Leads t start d0 d1 h0 h1 (λ q. q ≡ with_fresh start (has [] false))
  lock_ready did = leads_deed (made (new_name t.out)) _ (did_at made _ _ are.fresh did) (made_new t) refl

  pub lock_busy : {d0 d1 : Option (List Deed)} {h0 h1 : Option (List File)} (before now : ℕ) → before ≤ now → Did d0 d1 h0 h1 (met files.fresh.now) → Leads t start d0 d1 h0 h1 (Stops Busy t before now)
  lock_busy before now le did =
      leads_deed (met (new_name t.out)) _ (did_at met _ _ are.fresh did) (met_new t)
      (record { put = refl; left = refl; cause = inl (rw (same_self (new_name t.out)) refl); fault = le; clean = inl (record { fresh = refl; spare = refl; strays = refl }) })

  pub lock_unmade : {d0 d1 : Option (List Deed)} {h0 h1 : Option (List File)} (before now : ℕ) → Rose before now → DidNothing d0 d1 h0 h1 → Leads t start d0 d1 h0 h1 (Stops WriteFault t before now)
  lock_unmade before now rose failed = leads_nothing failed (record { put = refl; left = refl; cause = tt; fault = rose; clean = inl (record { fresh = refl; spare = refl; strays = refl }) })

pub risen : (before between now : ℕ) → before ≤ between → Rose between now → Rose before now
risen before between now le rose = omega arith

pub counted : (why : PutFault) (before between now : ℕ) → before ≤ between → least_count why between ≤ now → least_count why before ≤ now
counted NoMemory before between now le c = omega arith
counted Busy before between now le c = omega arith
counted Changed before between now le c = omega arith
counted Olds before between now le c = omega arith
counted ReadFault before between now le c = omega arith
counted WriteFault before between now le c = omega arith
counted Halfway before between now le c = omega arith

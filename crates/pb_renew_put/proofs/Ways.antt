-- The ways of single steps.
use Rattle.std.proofs.Common.{◌≡◌, ℕ, ◌+◌, Bool, true, false, cond, List, ◌++◌, take, drop, Option, Some, refl, sym, subst, ap, ◌∙◌, inl, Result, Ok, Err, OnOk, OnErr, IsErr}
use Rattle.std.proofs.Math.Seq.{take-add}
use Rattle.pb_io.specs.Files.{File}
use Rattle.pb_renew_store.specs.Deeds.{Deed, wrote, spoiled, compared, synced, Did, DidNothing}
use Rattle.pb_renew_put.specs.declared.fault.PutFault.TheVariants.{Changed}
use Rattle.pb_renew_put.specs.Jobs.{Task}
use Rattle.pb_renew_put.specs.Phases.{Leads, Own, has, broken, Phase, is_own, lost, more, next, on_differs, on_disk, on_seen}
use Rattle.pb_renew_put.specs.Steps.{Looks, Sets, Writes}
use Rattle.pb_renew_put.proofs.Leads.{leads_deed, leads_nothing}

-- ---- looking

chosen : (own same : Bool) (x y p : Phase) → own ≡ true → Some (cond own (cond same x y) p) ≡ Some (cond same x y)
chosen true same x y p e = refl
chosen false same x y p e = cc

pub looked_same : {d0 d1 : Option (List Deed)} {h0 h1 : Option (List File)} (t : Task) (p : Phase) (name : List ℕ) (bytes : Option (List ℕ)) (same : Bool)
    → is_own p.fresh ≡ true → Did d0 d1 h0 h1 (compared name bytes same) → same ≡ true → Leads t p d0 d1 h0 h1 (λ q. q ≡ on_seen t p name bytes)
looked_same t p name bytes same locked did is =
    leads_deed (compared name bytes same) _ did (chosen (is_own p.fresh) same (on_seen t p name bytes) (on_differs t p name bytes) p locked)
    (ap (λ s. cond s (on_seen t p name bytes) (on_differs t p name bytes)) is)

pub looked_other : {d0 d1 : Option (List Deed)} {h0 h1 : Option (List File)} (t : Task) (p : Phase) (name : List ℕ) (bytes : Option (List ℕ)) (same : Bool)
    → is_own p.fresh ≡ true → Did d0 d1 h0 h1 (compared name bytes same) → same ≡ false → Leads t p d0 d1 h0 h1 (Looks {T = Unit {0}} (Err Changed) t p name bytes)
looked_other t p name bytes same locked did is =
    leads_deed (compared name bytes same) _ did (chosen (is_own p.fresh) same (on_seen t p name bytes) (on_differs t p name bytes) p locked)
    (inl (refl, ap (λ s. cond s (on_seen t p name bytes) (on_differs t p name bytes)) is))

-- ---- writing

module _ {d0 d1 : Option (List Deed)} {h0 h1 : Option (List File)} (t : Task) (name : List ℕ) (set : Own → Phase) (is : Sets t name set) (q : Phase) where
  pub wrote_more : (bytes piece written : List ℕ) (done count : ℕ) → Did d0 d1 h0 h1 (wrote written (take count piece)) → written ≡ name → piece ≡ drop done bytes
      → q ≡ set (has (take done bytes) false) → Leads t q d0 d1 h0 h1 (λ p. p ≡ set (has (take (done + count) bytes) false))
  wrote_more bytes piece written done count did named rest at =
      let own : Own = has (take done bytes) false in
      let goes : next t (set own) (wrote name (take count piece)) ≡ Some (set (has (take done bytes ++ take count piece) false)) = is.on own (more (take count piece)) in
      let same : take done bytes ++ take count piece ≡ take (done + count) bytes = ap (λ (l : List ℕ). take done bytes ++ take count l) rest ∙ sym (take-add done count bytes) in
      subst (λ x. Leads t x d0 d1 h0 h1 (λ p. p ≡ set (has (take (done + count) bytes) false))) (sym at)
      (leads_deed (wrote name (take count piece)) _ (subst (λ n. Did d0 d1 h0 h1 (wrote n (take count piece))) named did) goes (ap (λ l. set (has l false)) same))

  pub was_spoiled : (bytes written : List ℕ) (disk : Bool) → Did d0 d1 h0 h1 (spoiled written) → written ≡ name → q ≡ set (has bytes disk) → Leads t q d0 d1 h0 h1 (λ p. p ≡ set broken)
  was_spoiled bytes written disk did named at =
      subst (λ x. Leads t x d0 d1 h0 h1 (λ p. p ≡ set broken)) (sym at)
      (leads_deed (spoiled name) _ (subst (λ n. Did d0 d1 h0 h1 (spoiled n)) named did) (is.on (has bytes disk) lost) refl)

  pub was_synced : (bytes written : List ℕ) (disk : Bool) → Did d0 d1 h0 h1 (synced written) → written ≡ name → q ≡ set (has bytes disk) → Leads t q d0 d1 h0 h1 (λ p. p ≡ set (has bytes true))
  was_synced bytes written disk did named at =
      subst (λ x. Leads t x d0 d1 h0 h1 (λ p. p ≡ set (has bytes true))) (sym at)
      (leads_deed (synced name) _ (subst (λ n. Did d0 d1 h0 h1 (synced n)) named did) (is.on (has bytes disk) on_disk) refl)

  pub synced_last : {T E : Type 0} (result : Result T E) (bytes written : List ℕ) → OnOk result (Did d0 d1 h0 h1 (synced written)) → OnErr result (DidNothing d0 d1 h0 h1) → written ≡ name → q ≡ set (has bytes false)
      → Leads t q d0 d1 h0 h1 (Writes result set bytes)
  synced_last (Ok value) bytes written done failed named at = was_synced bytes written false done named at
  synced_last (Err fault) bytes written done failed named at = leads_nothing failed (has bytes false, refl, at)

-- what holds of any error
pub by_err : {T E : Type 0} (result : Result T E) (P : Result T E → Type 0) → IsErr result → ((fault : E) → P (Err fault)) → P result
by_err (Ok value) P is give = cc
by_err (Err fault) P is give = give fault

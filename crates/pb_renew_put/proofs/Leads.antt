-- One deed more, and two ways one after the other.
use Rattle.std.proofs.Common.{◌≡◌, List, [], ◌∷◌, ◌++◌, Option, None, Some, refl, sym, subst, ap, ◌∙◌, append_assoc}
use Rattle.std.proofs.lemmas.List.{append-nil}
use Rattle.pb_io.specs.Files.{File}
use Rattle.pb_renew_store.specs.Changes.{Turns}
use Rattle.pb_renew_store.specs.Deeds.{Deed, Does, Did, DidNothing, Tells}
use Rattle.pb_renew_put.specs.Jobs.{Task}
use Rattle.pb_renew_put.specs.Phases.{DoesAll, Leads, Phase, TellsAll, next, then_go, walk}

walk_both : (t : Task) (a b : List Deed) (p q r : Phase) → walk t a p ≡ Some q → walk t b q ≡ Some r → walk t (a ++ b) p ≡ Some r
walk_both t [] b p q r first second = let e : p ≡ q = cc in subst (λ x. walk t b x ≡ Some r) (sym e) second
walk_both t (d ∷ a) b p q r first second = go (next t p d) (λ x e. walk_both t a b x q r e second) first where
  go : (at : Option Phase) → ((x : Phase) → walk t a x ≡ Some q → walk t (a ++ b) x ≡ Some r) → then_go (walk t a) at ≡ Some q → then_go (walk t (a ++ b)) at ≡ Some r
  go None rest e = cc
  go (Some x) rest e = rest x e

does_both : (a b : List Deed) (f g h : List File) → DoesAll a f g → DoesAll b g h → DoesAll (a ++ b) f h
does_both [] b f g h first second = subst (λ x. DoesAll b x h) first second
does_both (d ∷ a) b f g h first second = (first.0, first.1, does_both a b first.0 g h first.2 second)

turns_both : (a b : List Deed) (f g h : Option (List File)) → Turns f g (DoesAll a) → Turns g h (DoesAll b) → Turns f h (DoesAll (a ++ b))
turns_both a b None g h first second = tt
turns_both a b (Some f) None h first second = absurd first
turns_both a b (Some f) (Some g) None first second = absurd second
turns_both a b (Some f) (Some g) (Some h) first second = does_both a b f g h first second

told_both : (a b : List Deed) (f g h : Option (List Deed)) → TellsAll f g a → TellsAll g h b → TellsAll f h (a ++ b)
told_both a b None g h first second = tt
told_both a b (Some f) g h first second =
    let after : TellsAll (Some (f ++ a)) h b = subst (λ x. TellsAll x h b) first second in
    after ∙ ap (λ (l : List Deed). Some l) (append_assoc f a b)

pub then_leads : {t : Task} {p : Phase} {d0 d1 d2 : Option (List Deed)} {h0 h1 h2 : Option (List File)} {E F : Phase → Type 0}
    → Leads t p d0 d1 h0 h1 E → ((q : Phase) → E q → Leads t q d1 d2 h1 h2 F) → Leads t p d0 d2 h0 h2 F
then_leads {t = t} {p = p} {d0 = d0} {d1 = d1} {d2 = d2} {h0 = h0} {h1 = h1} {h2 = h2} {E = E} {F = F} first second =
    let rest : Leads t first.phase d1 d2 h1 h2 F = second first.phase first.end in
    record {
      deeds = first.deeds ++ rest.deeds;
      told = told_both first.deeds rest.deeds d0 d1 d2 first.told rest.told;
      files = turns_both first.deeds rest.deeds h0 h1 h2 first.files rest.files;
      phase = rest.phase;
      walks = walk_both t first.deeds rest.deeds p first.phase rest.phase first.walks rest.walks;
      end = rest.end;
    }

told_nothing : (d : Option (List Deed)) → TellsAll d d []
told_nothing None = tt
told_nothing (Some d) = ap (λ (l : List Deed). Some l) (sym (append-nil d))

turns_nothing : (h : Option (List File)) → Turns h h (DoesAll [])
turns_nothing None = tt
turns_nothing (Some h) = refl

-- nothing was done
pub leads_here : {t : Task} {p : Phase} {d : Option (List Deed)} {h : Option (List File)} {E : Phase → Type 0} → E p → Leads t p d d h h E
leads_here {p = p} {d = d} {h = h} end = record { deeds = []; told = told_nothing d; files = turns_nothing h; phase = p; walks = refl; end = end }

pub leads_nothing : {t : Task} {p : Phase} {d0 d1 : Option (List Deed)} {h0 h1 : Option (List File)} {E : Phase → Type 0} → DidNothing d0 d1 h0 h1 → E p → Leads t p d0 d1 h0 h1 E
leads_nothing {t = t} {p = p} {d0 = d0} {d1 = d1} {h0 = h0} {h1 = h1} {E = E} nothing end =
    subst (λ d. Leads t p d0 d h0 h1 E) (sym nothing.told) (subst (λ h. Leads t p d0 d0 h0 h E) (sym nothing.files) (leads_here end))

told_one : (d0 d1 : Option (List Deed)) (deed : Deed) → Tells d0 d1 deed → TellsAll d0 d1 (deed ∷ [])
told_one None d1 deed told = tt
told_one (Some d) d1 deed told = told

turns_one : (h0 h1 : Option (List File)) (deed : Deed) → Turns h0 h1 (Does deed) → Turns h0 h1 (DoesAll (deed ∷ []))
turns_one None h1 deed does = tt
turns_one (Some a) None deed does = absurd does
turns_one (Some a) (Some b) deed does = (b, does, refl)

-- one deed was done
pub leads_deed : {t : Task} {p : Phase} {d0 d1 : Option (List Deed)} {h0 h1 : Option (List File)} {E : Phase → Type 0}
    (deed : Deed) (q : Phase) → Did d0 d1 h0 h1 deed → next t p deed ≡ Some q → E q → Leads t p d0 d1 h0 h1 E
leads_deed {t = t} {p = p} {d0 = d0} {d1 = d1} {h0 = h0} {h1 = h1} deed q did goes end = record {
  deeds = deed ∷ [];
  told = told_one d0 d1 deed did.told;
  files = turns_one h0 h1 deed did.files;
  phase = q;
  walks = subst (λ at. then_go (walk t []) at ≡ Some q) (sym goes) refl;
  end = end;
}

pub ends_so : {t : Task} {p : Phase} {d0 d1 : Option (List Deed)} {h0 h1 : Option (List File)} {E F : Phase → Type 0} → Leads t p d0 d1 h0 h1 E → ((q : Phase) → E q → F q) → Leads t p d0 d1 h0 h1 F
ends_so leads give = record { deeds = leads.deeds; told = leads.told; files = leads.files; phase = leads.phase; walks = leads.walks; end = give leads.phase leads.end }

-- from the same phase
pub from_same : {t : Task} {p : Phase} {d0 d1 : Option (List Deed)} {h0 h1 : Option (List File)} {E : Phase → Type 0} (q : Phase) → q ≡ p → Leads t p d0 d1 h0 h1 E → Leads t q d0 d1 h0 h1 E
from_same {t = t} {p = p} {d0 = d0} {d1 = d1} {h0 = h0} {h1 = h1} {E = E} q is leads = subst (λ x. Leads t x d0 d1 h0 h1 E) (sym is) leads

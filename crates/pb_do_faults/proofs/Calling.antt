-- The first call of a list that leads back, one call and one list at a time.
use Rattle.std.proofs.Common.{◌≡◌, ℕ, zero, suc, ◌+◌, ◌<◌, ◌≤◌, Bool, true, false, is_some, Option, Some, None, List, [], ◌∷◌, length, map, drop, get_or, refl, sym, ap, subst, arith}
use Rattle.pb_text.specs.declared.place.Place.{Place}
use Rattle.pb_do_faults.specs.declared.call_site.Body.{Body}
use Rattle.pb_do_faults.specs.declared.call_site.CallSite.{CallSite}
use Rattle.pb_do_faults.specs.Cycles.{Bodies, IsCycle, FirstCycleIn, no_call, on_cycle, off_cycle, FirstCycleFrom, no_body, here, later}
use Rattle.pb_do_faults.specs.Search.{Tells}
use Rattle.pb_do_faults.specs.Found.{body_calls}
use Rattle.pb_do_faults.proofs.Searches.{as_many}

more : {A : Type 0} (xs : List A) (i : ℕ) (x z : A) → i < length xs → x ≡ get_or xs i z → drop i xs ≡ x ∷ drop (suc i) xs
more [] i x z h e = absurd (omega (arith, h))
more (y ∷ ys) zero x z h e = ap (λ t. t ∷ ys) (sym e)
more (y ∷ ys) (suc i) x z h e = more ys i x z (omega (arith, h)) e

pub one_more : {A : Type 0} (xs : List A) (i : ℕ) (x z : A) → i < length xs → x ≡ get_or xs i z → drop i xs ≡ x ∷ drop (i + 1) xs
one_more xs i x z h e = let one : suc i ≡ i + 1 = omega arith in subst (λ (n : ℕ). drop i xs ≡ x ∷ drop n xs) one (more xs i x z h e)

pub told : (b : Bool) (P : Type 0) → b ≡ true → Tells b P → P
told true P e h = h
told false P e h = absurd (grind arith)

pub told_not : (b : Bool) (P : Type 0) → b ≡ false → Tells b P → P → ⊥
told_not false P e h = h
told_not true P e h = absurd (grind arith)

none_left : {A : Type 0} (xs : List A) (i : ℕ) → length xs ≤ i → drop i xs ≡ []
none_left [] zero h = refl
none_left [] (suc i) h = refl
none_left (x ∷ xs) zero h = absurd (omega (arith, h))
none_left (x ∷ xs) (suc i) h = none_left xs i (omega (arith, h))

-- ---- the calls of one

pub call_off : (bodies : Bodies) (i : ℕ) (calls : List CallSite) (k : ℕ) (d z : CallSite) (P : Option Place → Type 0) → k < length calls → d ≡ get_or calls k z → (IsCycle bodies i d → ⊥) →
    ((o : Option Place) → FirstCycleIn bodies i (drop k calls) o → P o) → (o : Option Place) → FirstCycleIn bodies i (drop (k + 1) calls) o → P o
call_off bodies i calls k d z P h e n so_far o x = so_far o (subst (λ (l : List CallSite). FirstCycleIn bodies i l o) (sym (one_more calls k d z h e)) (off_cycle n x))

pub call_on : (bodies : Bodies) (i : ℕ) (calls : List CallSite) (k : ℕ) (d z : CallSite) (P : Option Place → Type 0) → k < length calls → d ≡ get_or calls k z → IsCycle bodies i d →
    ((o : Option Place) → FirstCycleIn bodies i (drop k calls) o → P o) → P (Some d.place)
call_on bodies i calls k d z P h e c so_far = so_far (Some d.place) (subst (λ (l : List CallSite). FirstCycleIn bodies i l (Some d.place)) (sym (one_more calls k d z h e)) (on_cycle c refl))

pub calls_end : (bodies : Bodies) (i : ℕ) (calls : List CallSite) (k : ℕ) (P : Option Place → Type 0) → length calls ≤ k →
    ((o : Option Place) → FirstCycleIn bodies i (drop k calls) o → P o) → P None
calls_end bodies i calls k P h so_far = so_far None (subst (λ (l : List CallSite). FirstCycleIn bodies i l None) (sym (none_left calls k h)) (no_call refl))

-- ---- the calls of all

body_read : (list : List Body) (i : ℕ) (b : Body) → i < length list → b ≡ get_or list i b → body_calls b ≡ get_or (map body_calls list) i (body_calls b)
body_read [] i b h e = absurd (omega (arith, h))
body_read (x ∷ xs) zero b h e = ap body_calls e
body_read (x ∷ xs) (suc i) b h e = body_read xs i b (omega (arith, h)) e

this_body : (list : List Body) (i : ℕ) (b : Body) → i < length list → b ≡ get_or list i b → drop i (map body_calls list) ≡ body_calls b ∷ drop (i + 1) (map body_calls list)
this_body list i b h e = one_more (map body_calls list) i (body_calls b) (body_calls b) (omega (arith, h, as_many list)) (body_read list i b h e)

pub body_off : (bodies : Bodies) (list : List Body) (i : ℕ) (b : Body) (found : Option Place) (P : Option Place → Type 0) → i < length list → b ≡ get_or list i b → is_some found ≡ false → FirstCycleIn bodies i (body_calls b) found →
    ((o : Option Place) → FirstCycleFrom bodies i (drop i (map body_calls list)) o → P o) → (o : Option Place) → FirstCycleFrom bodies (i + 1) (drop (i + 1) (map body_calls list)) o → P o
body_off bodies list i b None P h e s n so_far o x = so_far o (subst (λ (l : Bodies). FirstCycleFrom bodies i l o) (sym (this_body list i b h e)) (later n x))
body_off bodies list i b (Some p) P h e s n so_far o x = absurd (grind arith)

pub body_on : (bodies : Bodies) (list : List Body) (i : ℕ) (b : Body) (found : Option Place) (P : Option Place → Type 0) → i < length list → b ≡ get_or list i b → is_some found ≡ true →
    FirstCycleIn bodies i (body_calls b) found → ((o : Option Place) → FirstCycleFrom bodies i (drop i (map body_calls list)) o → P o) → P found
body_on bodies list i b (Some p) P h e s c so_far = so_far (Some p) (subst (λ (l : Bodies). FirstCycleFrom bodies i l (Some p)) (sym (this_body list i b h e)) (here p c refl))
body_on bodies list i b None P h e s c so_far = absurd (grind arith)

pub bodies_end : (bodies : Bodies) (list : List Body) (i : ℕ) (P : Option Place → Type 0) → length list ≤ i →
    ((o : Option Place) → FirstCycleFrom bodies i (drop i (map body_calls list)) o → P o) → P None
bodies_end bodies list i P h so_far = so_far None (subst (λ (l : Bodies). FirstCycleFrom bodies i l None) (sym (none_left (map body_calls list) i (omega (arith, h, as_many list)))) (no_body refl))

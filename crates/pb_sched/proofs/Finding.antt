-- What is found in a text is one of its outcomes.
use Rattle.std.proofs.Common.{◌≡◌, ◌≢◌, ◌⊎◌, inl, inr, ℕ, ◌+◌, ◌<◌, ◌^◌, Bool, true, false, List, [], ◌∷◌, ◌++◌, length, length-append, Option, Some, None, refl, sym, ap, subst, ◌∙◌, append_assoc, arith}
use Rattle.std.specs.Prelude.{is_some}
use Rattle.std.specs.List.{AllByRecursion, flat_map}
use Rattle.pb_sched.specs.declared.fault.ScheduleFault.{ScheduleFault}
use Rattle.pb_sched.specs.declared.format.Format.{Format}
use Rattle.pb_sched.specs.declared.schedule.Turn.{Turn}
use Rattle.pb_sched.specs.Formats.{head_line, seed_line, turn_line, layout, IsTurn}
use Rattle.pb_sched.specs.Outcomes.{BeginsWith, IsSchedule, BeginsTurn, IsBadLine, bad_head, bad_seed, bad_event, beyond, IsFault}
use Rattle.pb_sched.specs.Parts.{head_at, seed_at, turn_at, HasFront, HasTurns, fault_by, fault_at}
use Rattle.pb_sched.proofs.Lines.{head_again, head_sound, seed_again, seed_sound, turn_again, turn_sound}
use Rattle.pb_sched.proofs.Strips.{no_pair}

-- ---- one more event

flat_last : (f : Format) (ts : List Turn) (t : Turn) → flat_map (turn_line f) (ts ++ t ∷ []) ≡ flat_map (turn_line f) ts ++ turn_line f t
flat_last f [] t = last (turn_line f t)
  where
    last : (xs : List ℕ) → xs ++ [] ≡ xs
    last [] = refl
    last (x ∷ xs) = ap (λ ys. x ∷ ys) (last xs)
flat_last f (s ∷ ts) t = ap (λ xs. turn_line f s ++ xs) (flat_last f ts t) ∙ sym (append_assoc (turn_line f s) (flat_map (turn_line f) ts) (turn_line f t))

each_last : (f : Format) (ts : List Turn) (t : Turn) → AllByRecursion (IsTurn f) ts → IsTurn f t → AllByRecursion (IsTurn f) (ts ++ t ∷ [])
each_last f [] t h k = (k, tt)
each_last f (s ∷ ts) t h k = (h.0, each_last f ts t h.1 k)

pub front_more : (f : Format) (text : List ℕ) (ts us : List Turn) (t : Turn) (rest after : List ℕ) → HasFront f text ts rest → length ts < 1000000 → us ≡ ts ++ t ∷ [] → turn_at f rest ≡ Some (t, after) → HasFront f text us after
front_more f text ts us t rest after h room is found =
    let e = turn_sound f rest t after found in
    subst (λ vs. HasFront f text vs after) (sym is) (record {
      is = h.is ∙ ap (λ xs. flat_map (turn_line f) ts ++ xs) e.is ∙ sym (ap (λ xs. xs ++ after) (flat_last f ts t) ∙ append_assoc (flat_map (turn_line f) ts) (turn_line f t) after);
      each = each_last f ts t h.each e.fits;
      most = omega (arith, room, length-append ts (t ∷ []));
    })

pub front_none : (f : Format) (text : List ℕ) (ts : List Turn) → ts ≡ [] → HasFront f text ts text
front_none f text ts is = subst (λ vs. HasFront f text vs text) (sym is) (record { is = refl; each = tt; most = omega arith })

-- ---- the first line

is_none : {A : Type 0} (o : Option A) → ((x : A) → o ≡ Some x → ⊥) → o ≡ None
is_none None h = refl
is_none (Some x) h = absurd (h x refl)

pub no_head : (bytes : List ℕ) → head_at bytes ≡ None → IsBadLine bytes 1
no_head bytes h = bad_head refl (λ f rest e. no_pair (sym h ∙ ap head_at e ∙ head_again f rest))

pub head_none : (bytes : List ℕ) → ((f : Format) (rest : List ℕ) → bytes ≢ head_line f ++ rest) → head_at bytes ≡ None
head_none bytes h = is_none (head_at bytes) (λ x e. h x.0 x.1 (head_sound bytes x.0 x.1 e))

-- ---- the second

pub no_seed : (bytes : List ℕ) (f : Format) (text : List ℕ) → head_at bytes ≡ Some (f, text) → seed_at text ≡ None → IsBadLine bytes 2
no_seed bytes f text a h = bad_seed f text refl (head_sound bytes f text a) (λ n after small e. no_pair (sym h ∙ ap seed_at e ∙ seed_again n after small))

pub seed_none : (text : List ℕ) → ((seed : ℕ) (after : List ℕ) → seed < 2 ^ 64 → text ≢ seed_line seed ++ after) → seed_at text ≡ None
seed_none text h = is_none (seed_at text) (λ x e. let s = seed_sound text x.0 x.1 e in h x.0 x.1 s.small s.is)

-- ---- the events

pub begins_turn : (f : Format) (rest : List ℕ) → is_some (turn_at f rest) ≡ true → BeginsTurn f rest
begins_turn f rest h = go (turn_at f rest) refl h
  where
    go : (o : Option (Turn × List ℕ)) → turn_at f rest ≡ o → is_some o ≡ true → BeginsTurn f rest
    go None e g = absurd cc
    go (Some x) e g = let k = turn_sound f rest x.0 x.1 e in record { turn = x.0; rest = x.1; is = k.is; fits = k.fits }

pub turn_none : (f : Format) (rest : List ℕ) → (BeginsTurn f rest → ⊥) → turn_at f rest ≡ None
turn_none f rest h = is_none (turn_at f rest) (λ x e. let k = turn_sound f rest x.0 x.1 e in h (record { turn = x.0; rest = x.1; is = k.is; fits = k.fits }))

pub turn_some : (f : Format) (rest : List ℕ) → BeginsTurn f rest → is_some (turn_at f rest) ≡ true
turn_some f rest b = ap (λ text. is_some (turn_at f text)) b.is ∙ ap is_some (turn_again f b.turn b.rest b.fits)

pub laid : (f : Format) (n : ℕ) (ts : List Turn) (rest : List ℕ) → layout f n ts ++ rest ≡ head_line f ++ (seed_line n ++ (flat_map (turn_line f) ts ++ rest))
laid f n ts rest = append_assoc (head_line f ++ seed_line n) (flat_map (turn_line f) ts) rest ∙ append_assoc (head_line f) (seed_line n) (flat_map (turn_line f) ts ++ rest)

begins_with : (bytes text rest : List ℕ) (f : Format) (n : ℕ) (ts : List Turn) (below : List ℕ) → head_at bytes ≡ Some (f, text) → seed_at text ≡ Some (n, below) → HasFront f below ts rest → BeginsWith bytes f n ts rest
begins_with bytes text rest f n ts below a b h =
    let s = seed_sound text n below b in
    record {
      is = head_sound bytes f text a ∙ ap (λ xs. head_line f ++ xs) (s.is ∙ ap (λ xs. seed_line n ++ xs) h.is) ∙ sym (laid f n ts rest);
      seed_fits = s.small;
      each = h.each;
      most = h.most;
    }

not_nothing : (x : ℕ) (xs : List ℕ) → x ∷ xs ≢ []
not_nothing x xs e = absurd cc

not_begun : (f : Format) (rest : List ℕ) → is_some (turn_at f rest) ≡ false → BeginsTurn f rest → ⊥
not_begun f rest h b = let t = turn_some f rest b in absurd cc

full : (k : ℕ) (f : Format) (rest : List ℕ) → (k ≡ 1000000) ⊎ (turn_at f rest ≡ None) → is_some (turn_at f rest) ≡ true → k ≡ 1000000
full k f rest (inl e) h = e
full k f rest (inr e) h = let z : is_some (turn_at f rest) ≡ false = ap is_some e in absurd cc

module _ (bytes text below : List ℕ) (f : Format) (n : ℕ) (ts : List Turn) (a : head_at bytes ≡ Some (f, text)) (b : seed_at text ≡ Some (n, below)) where
  pub ended : (rest : List ℕ) → HasTurns f below ts rest → fault_at f (length ts) rest ≡ None → IsSchedule bytes n ts
  ended [] h e = (f, begins_with bytes text [] f n ts below a b h.front)
  ended (x ∷ xs) h e = absurd cc

  wrong : (x : ℕ) (xs : List ℕ) → HasTurns f below ts (x ∷ xs) → (c : Bool) → is_some (turn_at f (x ∷ xs)) ≡ c → IsFault bytes (fault_by (length ts + 3) c)
  wrong x xs h true e = beyond f n ts (x ∷ xs) refl (begins_with bytes text (x ∷ xs) f n ts below a b h.front) (full (length ts) f (x ∷ xs) h.stops e) (begins_turn f (x ∷ xs) e)
  wrong x xs h false e = bad_event f n ts (x ∷ xs) refl (begins_with bytes text (x ∷ xs) f n ts below a b h.front) (not_nothing x xs) (not_begun f (x ∷ xs) e)

  pub refused : (rest : List ℕ) (fault : ScheduleFault) → HasTurns f below ts rest → fault_at f (length ts) rest ≡ Some fault → IsFault bytes fault
  refused [] fault h e = absurd cc
  refused (x ∷ xs) fault h e =
      let same : fault_by (length ts + 3) (is_some (turn_at f (x ∷ xs))) ≡ fault = cc in
      subst (λ z. IsFault bytes z) same (wrong x xs h (is_some (turn_at f (x ∷ xs))) refl)

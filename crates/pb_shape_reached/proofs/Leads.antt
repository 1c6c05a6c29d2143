-- How a rank's machine comes from one state to another along a list of its actions, and that it then comes there within the bound on silent steps.
use Rattle.std.proofs.Common.{◌≡◌, ℕ, zero, suc, ℤ, Bool, true, false, ◌&&◌, cond, nat_le, ◌⊎◌, List, [], ◌∷◌, ◌++◌, map, Option, Some, None, refl, sym, ap, ◌∙◌, subst, inl, inr}
use Rattle.pb_world.specs.Actions.{Action, Recv, Kind, kind_of}
use Rattle.pb_world.specs.Machine.{Next, Silent, Does, Probe, Ended, Lost, Machine, IsStanding, Follows}
use Rattle.pb_world.specs.Machine as M
use Rattle.pb_world.specs.Counted.{Counted, is_quiet, one_more}
use Rattle.pb_core_language.specs.Plain.{Protocol}
use Rattle.pb_local.specs.Ranks.{Seat}
use Rattle.pb_local.specs.Tree.{Codes, Program}
use Rattle.pb_local.specs.Machine.{Todo, end_of, Rank, Move, ends, undefined, silent, does, chooses, probes, move, next_in, quiet_in, read_in, act_in, machine}
use Rattle.pb_local.specs.Family.{most_silent, text_machine}
use Rattle.pb_local.specs.Alone.{Passes, number_at, Part, part_at}
use Rattle.pb_local.specs.Alone as A
use Rattle.pb_shape.specs.Straight.{at_todo}
use Rattle.pb_shape.specs.Ways as V
use Rattle.pb_shape.specs.Ways.{Way}
use Rattle.pb_shape_follow.proofs.Steps.{Given}
use Rattle.pb_shape_follow.proofs.Walks.{past_end}

module _ (l : Program) (n : ℤ) (me : Seat) where
  -- From a state with these actions ahead to another with these ahead. The end of a loop's body is passed without a step
  pub data Leads : Rank → List Action → Rank → List Action → Type 0 where
    stays : {x : Rank} {s : List Action} → Leads x s x s
    by_silent : {x y : Rank} {s t : List Action} → (machine l n).next x ≡ Silent → Leads ((machine l n).quiet x) s y t → Leads x s y t
    by_act : {x y : Rank} {a : Action} {s t : List Action} → (machine l n).next x ≡ Does (kind_of a) → Leads ((machine l n).act x a) s y t → Leads x (a ∷ s) y t
    by_probe : {x y z : Rank} {p label : ℕ} {words : List ℕ} {s t : List Action} → (machine l n).next x ≡ Probe p → (machine l n).read x label ≡ Some z → Leads z (Recv p label words ∷ s) y t → Leads x (Recv p label words ∷ s) y t
    by_end : {i : ℤ} {y : Rank} {id k : ℕ} {body : Codes} {todo : Todo} {s t : List Action} → Leads (at_todo me i todo) s y t → Leads (at_todo me i (end_of id k body todo)) s y t

  pub leads_on : {x y z : Rank} {s t u : List Action} → Leads x s y t → Leads y t z u → Leads x s z u
  leads_on stays b = b
  leads_on (by_silent e a) b = by_silent e (leads_on a b)
  leads_on (by_act e a) b = by_act e (leads_on a b)
  leads_on (by_probe e r a) b = by_probe e r (leads_on a b)
  leads_on (by_end a) b = by_end (leads_on a b)

  -- along straight code
  pub way_leads : {bound left : ℕ} {last : Rank} {k : ℕ} {x : Rank} {kinds : List Kind} → Way (machine l n) bound last left k x kinds → (s t : List Action) → map kind_of s ≡ kinds → Leads x (s ++ t) last t
  way_leads V.here [] t e = stays
  way_leads V.here (a ∷ s) t e = cc
  way_leads (V.silent h w) s t e = by_silent h (way_leads w s t e)
  way_leads (V.act h f w) [] t e = cc
  way_leads {last = last} (V.act {x = x} {y = y} {kind = kind} {kinds = kinds} h f w) (a ∷ s) t e =
      let k : kind_of a ≡ kind = cc in
      let ks : map kind_of s ≡ kinds = cc in
      by_act (h ∙ ap Does (sym k)) (subst (λ z. Leads z (s ++ t) last t) (sym (f a k)) (way_leads w s t ks))

  -- ---- two states that do the same

  pub record Twin (x y : Rank) : Type 0 where
    pub moves : move l n x ≡ move l n y
    pub number : number_at x.todo ≡ number_at y.todo
    pub part : part_at n x x.todo ≡ part_at n y y.todo

  same_twin : (x y : Rank) → x ≡ y → Twin x y
  same_twin x y e = subst (λ z. Twin x z) e (record { moves = refl; number = refl; part = refl })

  quiet_by : (x y : Rank) (m : Move) → next_in m ≡ Silent → quiet_in x m ≡ quiet_in y m
  quiet_by x y ends e = cc
  quiet_by x y undefined e = cc
  quiet_by x y (silent z) e = refl
  quiet_by x y (does k z) e = cc
  quiet_by x y (chooses k b f) e = cc
  quiet_by x y (probes q f) e = cc

  act_by : (x y : Rank) (m : Move) (k : Kind) (a : Action) → next_in m ≡ Does k → act_in x m a ≡ act_in y m a
  act_by x y ends k a e = cc
  act_by x y undefined k a e = cc
  act_by x y (silent z) k a e = cc
  act_by x y (does k' z) k a e = refl
  act_by x y (chooses k' b f) k a e = refl
  act_by x y (probes q f) k a e = cc

  module _ (allowed : Action → Bool) where
    abbrev T : Machine (Counted Rank)
    T = text_machine l n

    abbrev at : Rank → ℕ → Counted Rank
    at x c = record { state = x; count = c }

    -- what comes next, or too many silent steps
    next_or : (q : Next) (b : Bool) → (cond (is_quiet q && b) Lost q ≡ q) ⊎ (cond (is_quiet q && b) Lost q ≡ Lost)
    next_or Silent true = inr refl
    next_or Silent false = inl refl
    next_or (Does k) b = inl refl
    next_or (Probe p) true = inr refl
    next_or (Probe p) false = inl refl
    next_or Ended b = inl refl
    next_or Lost b = inl refl
    next_or M.Undefined b = inl refl

    next_is : (x : Rank) (c : ℕ) → (T.next (at x c) ≡ (machine l n).next x) ⊎ (T.next (at x c) ≡ Lost)
    next_is x c = next_or ((machine l n).next x) (nat_le (most_silent l) c)

    -- what is followed isn't lost
    not_lost : {st : Counted Rank} {s : List Action} {end : Bool} → Follows T allowed st s end → T.next st ≡ Lost → ⊥
    not_lost (M.stands h) e = subst IsStanding e h
    not_lost (M.ended h) e = cc
    not_lost (M.silent h f) e = cc
    not_lost (M.act h al f) e = cc
    not_lost (M.probe h r f) e = cc

    pub next_same : (x : Rank) (c : ℕ) {s : List Action} {end : Bool} → Follows T allowed (at x c) s end → T.next (at x c) ≡ (machine l n).next x
    next_same x c f = elim (next_is x c) [ inl e ↦ e | inr e ↦ absurd (not_lost f e) ]

    after_silent : {st : Counted Rank} {s : List Action} {end : Bool} → Follows T allowed st s end → T.next st ≡ Silent → Follows T allowed (T.quiet st) s end
    after_silent (M.stands h) e = absurd (subst IsStanding e h)
    after_silent (M.ended h) e = cc
    after_silent (M.silent h f) e = f
    after_silent (M.act h al f) e = cc
    after_silent (M.probe h r f) e = cc

    record Acted (st : Counted Rank) (a : Action) (s : List Action) (end : Bool) : Type 0 where
      allows : allowed a ≡ true
      follows : Follows T allowed (T.act st a) s end

    after_act : {st : Counted Rank} {a : Action} {s : List Action} {end : Bool} {k : Kind} → Follows T allowed st (a ∷ s) end → T.next st ≡ Does k → Acted st a s end
    after_act (M.silent h f) e = cc
    after_act (M.act h al f) e = record { allows = al; follows = f }
    after_act (M.probe h r f) e = cc

    record Read (st : Counted Rank) (p label : ℕ) (words : List ℕ) (s : List Action) (end : Bool) : Type 0 where
      to : Counted Rank
      reads : T.read st label ≡ Some to
      follows : Follows T allowed to (Recv p label words ∷ s) end

    after_probe : {st : Counted Rank} {p label : ℕ} {words : List ℕ} {s : List Action} {end : Bool} {q : ℕ} → Follows T allowed st (Recv p label words ∷ s) end → T.next st ≡ Probe q → Read st p label words s end
    after_probe (M.silent h f) e = cc
    after_probe (M.act h al f) e = cc
    after_probe (M.probe h r f) e = record { to = _; reads = r; follows = f }

    -- it comes there, or to a state that does the same
    pub record Comes (x : Counted Rank) (s : List Action) (y : Rank) (t : List Action) (end : Bool) : Type 0 where
      pub state : Counted Rank
      pub way : Passes T allowed state x s
      pub twin : Twin state.state y
      pub follows : Follows T allowed state t end

    module _ (p : Protocol) (g : Given p l n me) where
      past : {i : ℤ} {id k : ℕ} {body : Codes} {todo : Todo} {x : Rank} → Twin x (at_todo me i (end_of id k body todo)) → Twin x (at_todo me i todo)
      past {i = i} {id = id} {k = k} {body = body} {todo = todo} h = record { moves = h.moves ∙ past_end p l n me g i id k body todo; number = h.number; part = h.part ∙ same_part i todo }
        where
          same_part : (i : ℤ) (todo : Todo) → part_at n (at_todo me i (end_of id k body todo)) (end_of id k body todo) ≡ part_at n (at_todo me i todo) todo
          same_part i todo = refl

      pub comes : {x y : Rank} {s t : List Action} {end : Bool} (x0 : Rank) (c : ℕ) → Twin x0 x → Leads x s y t → Follows T allowed (at x0 c) s end → Comes (at x0 c) s y t end
      comes x0 c twin stays f = record { state = at x0 c; way = A.here; twin = twin; follows = f }
      comes {s = s} x0 c twin (by_silent {x = x} e a) f =
          let down = ap next_in twin.moves ∙ e in
          let up = next_same x0 c f ∙ down in
          let same : (machine l n).quiet x0 ≡ (machine l n).quiet x = ap (quiet_in x0) twin.moves ∙ quiet_by x0 x (move l n x) e in
          let r = comes ((machine l n).quiet x0) (suc c) (same_twin _ _ same) a (after_silent f up) in
          record { state = r.state; way = A.silent up r.way; twin = r.twin; follows = r.follows }
      comes x0 c twin (by_act {x = x} {a = a} e w) f =
          let up = next_same x0 c f ∙ ap next_in twin.moves ∙ e in
          let g' = after_act f up in
          let same : (machine l n).act x0 a ≡ (machine l n).act x a = ap (λ m. act_in x0 m a) twin.moves ∙ act_by x0 x (move l n x) (kind_of a) a e in
          let r = comes ((machine l n).act x0 a) zero (same_twin _ _ same) w g'.follows in
          record { state = r.state; way = A.act up g'.allows r.way; twin = r.twin; follows = r.follows }
      comes {end = end} x0 c twin (by_probe {x = x} {z = z} {p = q} {label = label} {words = words} {s = s} e rd w) f =
          let up = next_same x0 c f ∙ ap next_in twin.moves ∙ e in
          let g' = after_probe f up in
          let read_is : T.read (at x0 c) label ≡ Some (at z (suc c)) = ap (one_more c) (ap (λ m. read_in m label) twin.moves ∙ rd) in
          let to_is : g'.to ≡ at z (suc c) = some_same (sym g'.reads ∙ read_is) in
          let r = comes z (suc c) (same_twin z z refl) w (subst (λ st. Follows T allowed st (Recv q label words ∷ s) end) to_is g'.follows) in
          record { state = r.state; way = A.probe up read_is r.way; twin = r.twin; follows = r.follows }
        where
          some_same : {a b : Counted Rank} → Some a ≡ Some b → a ≡ b
          some_same e = cc
      comes x0 c twin (by_end a) f = comes x0 c (past twin) a f

-- The list of breakpoints grows by what each two cuts give.
use Rattle.std.proofs.Common.{◌≡◌, ◌≢◌, ℕ, zero, suc, ◌+◌, ◌^◌, ◌<◌, ◌≤◌, ℤ, pos, ◌+ℤ◌, ◌-ℤ◌, inl, inr, List, [], ◌∷◌, length, get_or, true, refl, sym, ap, ◌∙◌, subst, arith}
use Rattle.std.proofs.lemmas.Int.{ints}
use borrow.Author.Count.{below_more}
use Rattle.std.specs.List.{All, Contains}
use Rattle.std.proofs.lemmas.List.Elements.{Contains-get_or, All-from_get_or, All-contains}
use Rattle.pb_affine.specs.declared.lin.Base.TheVariants.{Fixed, Param}
use Rattle.pb_affine.specs.declared.lin.Lin.{Lin}
use Rattle.pb_affine.specs.declared.range.NRange.{NRange}
use Rattle.pb_affine.specs.Values.{is_up_to, IsNear}
use Rattle.pb_cases.specs.Numbers.{IsNearList, nth}
use Rattle.pb_cases.specs.Breakpoints.{HasTooMany, IsBreakpoint, IsCut, IsDivision, IsInRange, IsMeeting}
use Rattle.pb_cases.specs.Building.{HasAllMeetings, HasMeeting, HasMeetings, IsAdded, IsAddedTwice, IsOneOf, IsPartOfAll, cut_at}
use Rattle.pb_cases.proofs.Sorted.{any_default}

pub added_twice : (range : NRange) (m : ℤ) (old mid new : List ℤ) → IsAdded range m old mid → IsAdded range (m +ℤ pos 1) mid new → IsAddedTwice range m old new
added_twice range m old mid new p q = record {
  ascending = q.ascending;
  here = λ in_range. q.kept m (p.own in_range);
  next = q.own;
  kept = λ z h. q.kept z (p.kept z h);
  only = λ z h. elim (q.only z h) [
    | inl before ↦ elim (p.only z before) [ inl there ↦ inl there | inr is ↦ inr (inl is.0, subst (λ y. IsInRange range y) (sym is.0) is.1) ]
    | inr is ↦ inr (inr is.0, subst (λ y. IsInRange range y) (sym is.0) is.1)
  ];
}

grown : (range : NRange) (old new : List ℤ) (d c : Lin) → ((z : ℤ) → IsOneOf old z → IsOneOf new z) → HasMeeting range old d c → HasMeeting range new d c
grown range old new d c kept h = record { here = λ p q r. kept (d.off -ℤ c.off) (h.here p q r); next = λ p q r. kept ((d.off -ℤ c.off) +ℤ pos 1) (h.next p q r) }

pub meetings_step : (range : NRange) (cuts : List Lin) (old list new : List ℤ) (d : Lin) (j : ℕ) (m : ℤ) → Contains cuts d → d.base ≡ Fixed → j < length cuts → (cut_at cuts j).base ≡ Param → m ≡ d.off -ℤ (cut_at cuts j).off → IsAddedTwice range m list new → HasMeetings range cuts old list d j → HasMeetings range cuts old new d (j + 1)
meetings_step range cuts old list new d j m d_in fixed lt moves is added so_far = record {
  part = record {
    ascending = added.ascending;
    sound = λ z h. elim (added.only z h) [
      | inl before ↦ so_far.part.sound z before
      | inr new_one ↦ record { in_range = new_one.1; why = inr (record { d = d; c = cut_at cuts j; d_in = d_in; c_in = Contains-get_or cuts j _ lt; d_fixed = fixed; c_moves = moves; here = elim new_one.0 [ inl e ↦ inl (e ∙ is) | inr e ↦ inr (e ∙ ap (λ y. y +ℤ pos 1) is) ] }) }
    ];
    first = added.kept (pos range.low) so_far.part.first;
  };
  kept = λ z h. added.kept z (so_far.kept z h);
  all = below_more (λ q. HasMeeting range new d (cut_at cuts q)) j (λ q q_lt. grown range list new d (cut_at cuts q) added.kept (so_far.all q q_lt))
      (record { here = λ p q r. subst (λ y. IsOneOf new y) is (added.here (subst (λ y. IsInRange range y) (sym is) r)); next = λ p q r. subst (λ y. IsOneOf new (y +ℤ pos 1)) is (added.next (subst (λ y. IsInRange range (y +ℤ pos 1)) (sym is) r)) });
}

pub meetings_skip : (range : NRange) (cuts : List Lin) (old list : List ℤ) (d : Lin) (j : ℕ) → (cut_at cuts j).base ≢ Param → HasMeetings range cuts old list d j → HasMeetings range cuts old list d (j + 1)
meetings_skip range cuts old list d j stands so_far = record {
  part = so_far.part;
  kept = so_far.kept;
  all = below_more (λ q. HasMeeting range list d (cut_at cuts q)) j so_far.all (record { here = λ p q r. absurd (stands q); next = λ p q r. absurd (stands q) });
}

pub meetings_first : (range : NRange) (cuts : List Lin) (list : List ℤ) (d : Lin) → IsPartOfAll range cuts list → HasMeetings range cuts list list d 0
meetings_first range cuts list d part = record { part = part; kept = λ z h. h; all = λ q lt. absurd (omega arith) }

pub all_step : (range : NRange) (cuts : List Lin) (list new : List ℤ) (i : ℕ) → length new ≤ 4096 → HasMeetings range cuts list new (cut_at cuts i) (length cuts) → HasAllMeetings range cuts list i → HasAllMeetings range cuts new (i + 1)
all_step range cuts list new i few more so_far = record {
  part = more.part;
  few = few;
  all = λ p q p_lt q_lt. below_more (λ k. (q : ℕ) → q < length cuts → HasMeeting range new (cut_at cuts k) (cut_at cuts q)) i (λ k k_lt q lt. grown range list new (cut_at cuts k) (cut_at cuts q) more.kept (so_far.all k q k_lt lt)) more.all p p_lt q q_lt;
}

pub all_skip : (range : NRange) (cuts : List Lin) (list : List ℤ) (i : ℕ) → (cut_at cuts i).base ≢ Fixed → HasAllMeetings range cuts list i → HasAllMeetings range cuts list (i + 1)
all_skip range cuts list i moves so_far = record {
  part = so_far.part;
  few = so_far.few;
  all = λ p q p_lt q_lt. below_more (λ k. (q : ℕ) → q < length cuts → HasMeeting range list (cut_at cuts k) (cut_at cuts q)) i (λ k k_lt q lt. so_far.all k q k_lt lt) (λ q lt. record { here = λ f _ _. absurd (moves f); next = λ f _ _. absurd (moves f) }) p p_lt q q_lt;
}

pub all_first : (range : NRange) (cuts : List Lin) (list : List ℤ) → is_up_to (pos range.low) range.high ≡ true → list ≡ pos range.low ∷ [] → HasAllMeetings range cuts list 0
all_first range cuts list some is = subst (λ l. HasAllMeetings range cuts l 0) (sym is) (record {
  part = record {
    ascending = record { below = λ i j lt j_lt. absurd (omega arith) };
    sound = λ z h. record { in_range = subst (λ y. IsInRange range y) (only z h.place h.is h.within) (record { low = omega (arith, ints); high = some }); why = inl (sym (only z h.place h.is h.within)) };
    first = record { place = 0; within = omega arith; is = refl };
  };
  few = omega arith;
  all = λ p q p_lt q_lt. absurd (omega arith);
}) where
  only : (z : ℤ) (j : ℕ) → get_or (pos range.low ∷ []) j (pos 0) ≡ z → j < length (pos range.low ∷ []) → pos range.low ≡ z
  only z zero e lt = e
  only z (suc j) e lt = absurd (omega arith)

any_cut : (cuts : List Lin) (k : ℕ) (d e : Lin) → k < length cuts → get_or cuts k d ≡ get_or cuts k e
any_cut [] k d e lt = absurd (omega arith)
any_cut (x ∷ xs) zero d e lt = refl
any_cut (x ∷ xs) (suc k) d e lt = any_cut xs k d e (omega arith)

contained : (list : List ℤ) (z : ℤ) → IsOneOf list z → Contains list z
contained list z h = (h.place, h.within, any_default list h.place z (pos 0) h.within ∙ h.is)

met : (range : NRange) (cuts : List Lin) (list : List ℤ) (n : ℤ) → HasAllMeetings range cuts list (length cuts) → IsInRange range n → IsMeeting cuts n → IsOneOf list n
met range cuts list n all n_in m =
    let d_is : cut_at cuts m.d_in.0 ≡ m.d = any_cut cuts m.d_in.0 _ m.d m.d_in.1 ∙ m.d_in.2 in
    let c_is : cut_at cuts m.c_in.0 ≡ m.c = any_cut cuts m.c_in.0 _ m.c m.c_in.1 ∙ m.c_in.2 in
    let both : HasMeeting range list m.d m.c = subst (λ d. HasMeeting range list d m.c) d_is (subst (λ c. HasMeeting range list (cut_at cuts m.d_in.0) c) c_is (all.all m.d_in.0 m.c_in.0 m.d_in.1 m.c_in.1)) in
    elim m.here [
      | inl e ↦ subst (λ z. IsOneOf list z) (sym e) (both.here m.d_fixed m.c_moves (subst (λ z. IsInRange range z) e n_in))
      | inr e ↦ subst (λ z. IsOneOf list z) (sym e) (both.next m.d_fixed m.c_moves (subst (λ z. IsInRange range z) e n_in))
    ]

pub divided : (range : NRange) (cuts : List Lin) (list : List ℤ) → All IsCut cuts → HasAllMeetings range cuts list (length cuts) → IsDivision (record { range = range; cuts = cuts; breakpoints = list })
divided range cuts list cut all = record {
  cuts = cut;
  ascending = all.part.ascending;
  sound = All-from_get_or (IsBreakpoint range cuts) list (pos 0) (λ i lt. all.part.sound (get_or list i (pos 0)) (record { place = i; within = lt; is = refl }));
  complete = λ n break. contained list n (elim break.why [
    | inl e ↦ subst (λ z. IsOneOf list z) (sym e) all.part.first
    | inr m ↦ met range cuts list n all break.in_range m
  ]);
}

pub too_many : (range : NRange) (cuts : List Lin) (list : List ℤ) → IsPartOfAll range cuts list → 4096 < length list → HasTooMany range cuts
too_many range cuts list part many = record {
  list = list;
  ascending = part.ascending;
  sound = All-from_get_or (IsBreakpoint range cuts) list (pos 0) (λ i lt. part.sound (get_or list i (pos 0)) (record { place = i; within = lt; is = refl }));
  many = many;
}

near_break : (range : NRange) (cuts : List Lin) (n : ℤ) → range.low < 2 ^ 32 → All IsCut cuts → IsBreakpoint range cuts n → IsNear n
near_break range cuts n low cut break = elim break.why [
  | inl e ↦ record { low = omega (arith, ints, e); high = omega (arith, ints, e) }
  | inr m ↦
      let d_small = (All-contains IsCut cuts m.d cut m.d_in).small in
      let c_small = (All-contains IsCut cuts m.c cut m.c_in).small in
      elim m.here [
        | inl e ↦ record { low = omega (arith, ints, e, d_small.low, c_small.high); high = omega (arith, ints, e, d_small.high, c_small.low) }
        | inr e ↦ record { low = omega (arith, ints, e, d_small.low, c_small.high); high = omega (arith, ints, e, d_small.high, c_small.low) }
      ]
]

pub near_list : (range : NRange) (cuts : List Lin) (list : List ℤ) → range.low < 2 ^ 32 → All IsCut cuts → IsPartOfAll range cuts list → IsNearList list
near_list range cuts list low cut part = record { near = λ j lt. near_break range cuts (nth list j) low cut (part.sound (nth list j) (record { place = j; within = lt; is = refl })) }

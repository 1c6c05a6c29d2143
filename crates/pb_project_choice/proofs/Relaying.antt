-- Relays, and the one rank from which each rank hears first.
use Rattle.std.proofs.Common.{◌≡◌, ◌<◌, ◌≤◌, ◌+◌, ◌≤ℤ◌, inl, inr, ◌⊎◌, ℕ, zero, suc, ◌==◌, ℤ, pos, negsuc, Bool, true, false, not, ◌&&◌, ◌||◌, nat_eq, int_le, if◌then◌else◌, List, [], ◌∷◌, ◌++◌, drop, get_or, length, refl, sym, ap, ◌∙◌, subst, arith}
use Rattle.std.specs.List.{All, list_any}
use Rattle.std.specs.Ordering.{int_eq}
use Rattle.std.proofs.lemmas.List.Elements.{All-nil, All-push, All-head, All-tail}
use Rattle.std.proofs.lemmas.Bool.{and_parts, and_from, or_cases, or_left, or_right, true≢false, false≢true, eqb-true, lt-ltb}
use Rattle.std.proofs.lemmas.Int.{ints}
use Rattle.std.proofs.Math.Bool.{or_assoc, or-false}
use Rattle.pb_affine.specs.declared.guard.Guard.{Guard}
use Rattle.pb_affine.specs.declared.lin.Lin.{Lin}
use Rattle.pb_affine.specs.declared.range.NRange.{NRange}
use Rattle.pb_affine.specs.Values.{value, hold, IsSmall}
use Rattle.pb_part_areas.specs.declared.area.Area.{Area}
use Rattle.pb_part_areas.specs.Areas.{has, have}
use Rattle.pb_choice_entries.specs.Clashes.{agrees}
use Rattle.pb_choice.proofs.Origins.{none_left, none_right}
use Rattle.pb_choice.proofs.Seatings.{seated_first}
use Rattle.pb_core_language.specs.declared.protocol.CoreRole.{CoreRole}
use Rattle.pb_core_language.specs.declared.tree.CoreEnd.{CoreEnd}
use Rattle.pb_core_language.specs.Flat.{Block, Branches, no_branch, branch, stop, branch_at, takes_part, takes_part_among}
use Rattle.pb_core_language.specs.FlatOf.{flat_block, flat_branches}
use Rattle.pb_core_language.specs.Outcomes.{Outcome, nothing_first, receives, other_first, again_first, firsts, firsts_among, only_from, source_of}
use Rattle.pb_core_language.specs.Ranks.{seats, total}
use Rattle.pb_core_language.specs.Rules.{strays, each_origin, each_origin_among}
use Rattle.pb_core_language.specs.Sound.{is_small}
use Rattle.pb_core_language.specs.Tree as T
use Rattle.pb_core_language.specs.Tree.{BlockTree, BranchTrees}
use Rattle.pb_core_language.specs.Verdict.{IsIn}
use Rattle.pb_part_firsts.specs.declared.firsts.Entry.{Entry}
use Rattle.pb_part_firsts.specs.declared.firsts.Kind.{Kind}
use Rattle.pb_part_firsts.specs.declared.firsts.Kind.TheVariants.{Receive, Other, Again}
use Rattle.pb_part_firsts.specs.declared.firsts.Source.{Source}
use Rattle.pb_part_firsts.specs.Firsts.{finds, outcome_of, is_small_kind, are_small}
use Rattle.pb_part_visits.specs.Visits.{is_small_off}
use Rattle.pb_part_firsts.specs.Fitting.{EntriesFit}
use Rattle.pb_core_flat.specs.OutcomeSets.{outcome_eq, is_outcome}
use Rattle.pb_core_flat.specs.Seated.{rank, is_rank, is_at}
use Rattle.pb_core_flat.proofs.OutcomeSets.{is_append}
use Rattle.pb_core_flat.proofs.OutcomesAdd.{bystander_finds}
use Rattle.pb_core_flat.proofs.OutcomeTests.{label_is}
use Rattle.pb_core_flat.proofs.Seats.{is_below}
use Rattle.pb_local.specs.declared.stmt.Peer.{Peer}
use Rattle.pb_local.specs.declared.stmt.Relay.{Relay}
use Rattle.pb_local.specs.declared.stmt.Test.{Test}
use Rattle.pb_local.specs.Computed as C
use Rattle.pb_local.specs.Tree.{Program}
use Rattle.pb_local.specs.WellMade.{IsRange, IsGuard, IsRelay}
use Rattle.pb_project_piece.specs.Ranked.{Ranked}
use Rattle.pb_project_piece.proofs.Ones.{from_zero}
use Rattle.pb_project_piece.specs.Standing.{Stands, IsOpen}
use Rattle.pb_shape.specs.Places.{Scope, Here, peer_of}
use Rattle.pb_shape.specs.Loops.{Around}
use Rattle.pb_shape.specs.Choices.{Tests, Relays, is_told, teller}
use Rattle.pb_project_choice.specs.declared.entries.Branch.{Branch}
use Rattle.pb_project_choice.specs.Found.{entries_at, all_entries, IsFoundIn}
use Rattle.pb_project_choice.specs.Heard.{IsOther, IsHeard, AreStrangers}
use Rattle.pb_project_choice.specs.Relayed.{relayed, HasCaller, IsRight, AreOfRoles, AreFit, HaveCallers, HearSuch, IsRelayed, AreRelayed}
use Rattle.pb_project_choice.specs.Sayable.{AreSayable}
use Rattle.pb_project_choice.specs.Sources.{OneSource, same_source, is_from, is_listed, hears, source_at}
use Rattle.pb_project_choice.proofs.Hearing.{source_is, source_self, any_next, any_none}
use Rattle.pb_project_choice.proofs.Saying.{rank_role}
use Rattle.pb_project_choice.proofs.Telling.{Says, finds_here, some_guard, rank_there}

-- ---- one relay

relayed_append : (rs : List Relay) (r : Relay) (n : ℤ) (role : ℕ) (x : ℤ) → relayed (rs ++ r ∷ []) n role x ≡ relayed rs n role x || hold r.guards n x role x
relayed_append [] r n role x = sym (sym (or-false (hold r.guards n x role x)))
relayed_append (q ∷ rs) r n role x = ap (λ z. hold q.guards n x role x || z) (relayed_append rs r n role x) ∙ sym (or_assoc (hold q.guards n x role x) (relayed rs n role x) (hold r.guards n x role x))

small_off : (x : ℤ) → is_small_off x ≡ true → IsSmall x
small_off x h = let parts = and_parts (int_le (negsuc 999999) x) (int_le x (pos 1000000)) h in record { low = from_le (negsuc 999999) x parts.0; high = from_le x (pos 1000000) parts.1 }
  where
    from_le : (a b : ℤ) → int_le a b ≡ true → a ≤ℤ b
    from_le a b h = grind (arith, ints)

-- who is heard is small
heard_small : (s : Source) (es : List Entry) (n : ℤ) (role : ℕ) (x : ℤ) → are_small es ≡ true → hears s es n role x ≡ true → is_small_off s.at.off ≡ true
heard_small s [] n role x small h = absurd (false≢true h)
heard_small s (e ∷ es) n role x small h =
    let parts = and_parts (is_small_kind e.kind) (are_small es) small in
    elim (or_cases (is_from s e.kind && has e.area n role x) (hears s es n role x) h) [
      | inl y ↦ here e.kind (and_parts (is_from s e.kind) (has e.area n role x) y).0 parts.0
      | inr y ↦ heard_small s es n role x parts.1 y
    ]
  where
    here : (k : Kind) → is_from s k ≡ true → is_small_kind k ≡ true → is_small_off s.at.off ≡ true
    here (Receive t l) h k = subst (λ z. is_small_off z.at.off ≡ true) (sym (source_is s t h)) k
    here Other h k = absurd (false≢true h)
    here Again h k = absurd (false≢true h)

sayable_of : (range : NRange) (chooser : CoreEnd) (s : Source) (es : List Entry) (areas : List Area) → IsHeard chooser s es areas → AreFit range es → AreSayable range areas
sayable_of range chooser s es areas it fit = it.sayable range fit.cuts fit.are_cuts fit.fit

neither : (a b : Bool) → a ≡ false → b ≡ false → not (a || b) ≡ true
neither a b h k = grind (arith, h, k)

pub relay_there : (range : NRange) (roles : ℕ) (whole areas strangers : List Area) (chooser : CoreEnd) (es : List Entry) (s : Source) (old new : List Relay) (gs : List Guard) → IsHeard chooser s es areas → AreStrangers chooser s areas strangers → Ranked range whole strangers →
    Says range roles areas gs → ((p : Program) → length p.roles ≡ roles → All (IsGuard p) gs) → new ≡ old ++ (record { guards = gs; from = record { role = s.role; at = s.at } }) ∷ [] →
    IsRelayed range roles whole chooser es s old new
relay_there range roles whole areas strangers chooser es s old new gs it apart there says guards e =
    let r : Relay = record { guards = gs; from = record { role = s.role; at = s.at } } in
    let in_areas : have areas there.n there.role there.index ≡ true = apart.only there.n there.role there.index there.there in
    let heard : hears s es there.n there.role there.index ≡ true = it.only there.n there.role there.index in_areas in
    record {
      kept = λ n role x h. ap (λ z. relayed z n role x) e ∙ relayed_append old r n role x ∙ or_left (relayed old n role x) (hold gs n x role x) h;
      rest = λ sc st range_is fit n role x within is other h.
          ap (λ z. relayed z n role x) e ∙ relayed_append old r n role x ∙ or_right (relayed old n role x) (hold gs n x role x)
          (says sc.roles n x role x (sym st.roles_is) range_is (sayable_of range chooser s es areas it fit) within is ∙ it.rest n role x other fit.small h);
      right = λ sc st range_is fit all. subst (All (IsRight range sc.roles es)) (sym e) (All-push (IsRight range sc.roles es) old r all
          (λ n role x within is held. it.only n role x (sym (says sc.roles n x role x (sym st.roles_is) range_is (sayable_of range chooser s es areas it fit) within is) ∙ held)));
      each = λ p sc st range_is fit known same all.
          let is_one = rank_there range roles whole sc there.n there.role there.index st there.within there.rank in
          let held : hold gs there.n (pos 0) there.role there.index ≡ true = says sc.roles there.n (pos 0) there.role there.index (sym st.roles_is) range_is (sayable_of range chooser s es areas it fit) there.within is_one ∙ in_areas in
          subst (All (IsRelay p)) (sym e) (All-push (IsRelay p) old r all (record {
            guards = record { some = some_guard gs there.n (pos 0) there.role there.index held; each = guards p same };
            from = record { role = subst (λ z. s.role < z) (sym same) (known there.n there.role there.index s there.within is_one heard); off = small_off s.at.off (heard_small s es there.n there.role there.index fit.small heard) };
          }));
      called = λ such sc st range_is small fit hear all.
          let is_one = rank_there range roles whole sc there.n there.role there.index st there.within there.rank in
          let other : agrees s (source_at chooser) there.n there.index ≡ false = apart.apart there.n there.role there.index (from_zero range there.n there.within) small (heard_small s es there.n there.role there.index fit.small heard) there.there in
          let else_where = apart.else_where there.n there.role there.index (from_zero range there.n there.within) small there.there in
          subst (HaveCallers range sc.roles such chooser) (sym e) (All-push (HasCaller range sc.roles such chooser) old r all (record {
            n = there.n;
            role = there.role;
            index = there.index;
            within = there.within;
            rank = is_one;
            is = hear s there.n there.role there.index there.within is_one heard;
            holds = λ i. says sc.roles there.n i there.role there.index (sym st.roles_is) range_is (sayable_of range chooser s es areas it fit) there.within is_one ∙ in_areas;
            apart = neither _ _ other else_where;
          }));
    }

pub relay_gone : (range : NRange) (roles : ℕ) (whole areas strangers : List Area) (chooser : CoreEnd) (es : List Entry) (s : Source) (old : List Relay) → IsHeard chooser s es areas → AreStrangers chooser s areas strangers →
    ((n : ℤ) (role : ℕ) (x : ℤ) → IsIn range n → have whole n role x ≡ true → have strangers n role x ≡ false) → IsRelayed range roles whole chooser es s old old
relay_gone range roles whole areas strangers chooser es s old it apart none = record {
  kept = λ n role x h. h;
  rest = λ sc st range_is fit n role x within is other h.
      absurd (true≢false (sym (apart.rest n role x other (heard_small s es n role x fit.small h) (it.rest n role x other fit.small h)) ∙ none n role x within (st.whole_is.is n role x within ∙ is)));
  right = λ sc st range_is fit all. all;
  each = λ p sc st range_is fit known same all. all;
  called = λ such sc st range_is small fit hear all. all;
}

-- ---- all relays

pub record RelayedSoFar (range : NRange) (roles : ℕ) (whole : List Area) (chooser : CoreEnd) (es : List Entry) (sources : List Source) (i : ℕ) (rs : List Relay) : Type 0 where
  pub rest : (sc : Scope) → Stands range roles whole sc → IsRange range → AreFit range es → (s : Source) → is_listed s sources ≡ true → (n : ℤ) (role : ℕ) (x : ℤ) → IsIn range n → is_rank sc.roles n role x ≡ true →
      IsOther chooser s n role x → hears s es n role x ≡ true → (relayed rs n role x ≡ true) ⊎ (is_listed s (drop i sources) ≡ true)
  pub right : (sc : Scope) → Stands range roles whole sc → IsRange range → AreFit range es → All (IsRight range sc.roles es) rs
  pub each : (p : Program) (sc : Scope) → Stands range roles whole sc → IsRange range → AreFit range es → AreOfRoles range sc.roles es roles → length p.roles ≡ roles → All (IsRelay p) rs
  pub called : (such : ℤ → ℕ → ℤ → Bool) (sc : Scope) → Stands range roles whole sc → IsRange range → is_small chooser.at.off ≡ true → AreFit range es → HearSuch range sc.roles such es → HaveCallers range sc.roles such chooser rs

pub relayed_start : (range : NRange) (roles : ℕ) (whole : List Area) (chooser : CoreEnd) (es : List Entry) (sources : List Source) (rs : List Relay) → rs ≡ [] → RelayedSoFar range roles whole chooser es sources 0 rs
relayed_start range roles whole chooser es sources rs e = subst (RelayedSoFar range roles whole chooser es sources 0) (sym e) (record {
  rest = λ sc st range_is fit s listed n role x within is other h. inr listed;
  right = λ sc st range_is fit. All-nil (IsRight range sc.roles es);
  each = λ p sc st range_is fit known same. All-nil (IsRelay p);
  called = λ such sc st range_is small fit hear. All-nil (HasCaller range sc.roles such chooser);
})

pub relayed_step : (range : NRange) (roles : ℕ) (whole : List Area) (chooser : CoreEnd) (es : List Entry) (sources : List Source) (i : ℕ) (d : Source) (old new : List Relay) → i < length sources →
    IsRelayed range roles whole chooser es (get_or sources i d) old new → RelayedSoFar range roles whole chooser es sources i old → RelayedSoFar range roles whole chooser es sources (i + 1) new
relayed_step range roles whole chooser es sources i d old new lt one h =
    let t : Source = get_or sources i d in
    record {
      rest = λ sc st range_is fit s listed n role x within is other k. elim (h.rest sc st range_is fit s listed n role x within is other k) [
        | inl y ↦ inl (one.kept n role x y)
        | inr y ↦ elim (any_next (same_source s) sources i d lt y) [
          | inl z ↦ (let e : s ≡ t = source_is s t z in
              inl (one.rest sc st range_is fit n role x within is (subst (λ q. IsOther chooser q n role x) e other) (subst (λ q. hears q es n role x ≡ true) e k)))
          | inr z ↦ inr z
        ]
      ];
      right = λ sc st range_is fit. one.right sc st range_is fit (h.right sc st range_is fit);
      each = λ p sc st range_is fit known same. one.each p sc st range_is fit known same (h.each p sc st range_is fit known same);
      called = λ such sc st range_is small fit hear. one.called such sc st range_is small fit hear (h.called such sc st range_is small fit hear);
    }

pub relayed_end : (range : NRange) (roles : ℕ) (whole : List Area) (chooser : CoreEnd) (es : List Entry) (sources : List Source) (i : ℕ) (rs : List Relay) → length sources ≤ i →
    RelayedSoFar range roles whole chooser es sources i rs → AreRelayed range roles whole chooser es sources rs
relayed_end range roles whole chooser es sources i rs le h = record {
  rest = λ sc st range_is fit s listed n role x within is other k. elim (h.rest sc st range_is fit s listed n role x within is other k) [
    | inl y ↦ y
    | inr y ↦ absurd (any_none (same_source s) sources i le y)
  ];
  right = h.right;
  each = h.each;
  called = h.called;
}

-- ---- the entries of all branches

small_append : (xs ys : List Entry) → are_small xs ≡ true → are_small ys ≡ true → are_small (xs ++ ys) ≡ true
small_append [] ys h k = k
small_append (e ∷ xs) ys h k = let parts = and_parts (is_small_kind e.kind) (are_small xs) h in and_from (is_small_kind e.kind) (are_small (xs ++ ys)) parts.0 (small_append xs ys parts.1 k)

fit_append : (range : NRange) (cuts : List Lin) (xs ys : List Entry) → EntriesFit range cuts xs → EntriesFit range cuts ys → EntriesFit range cuts (xs ++ ys)
fit_append range cuts [] ys h k = k
fit_append range cuts (e ∷ xs) ys h k = (h.0, fit_append range cuts xs ys h.1 k)

all_small : (found : List Branch) → ((k : ℕ) → are_small (entries_at k found) ≡ true) → are_small (all_entries found) ≡ true
all_small [] h = refl
all_small (b ∷ bs) h = small_append b.entries.items (all_entries bs) (h 0) (all_small bs (λ k. h (suc k)))

all_fit : (range : NRange) (cuts : List Lin) (found : List Branch) → ((k : ℕ) → EntriesFit range cuts (entries_at k found)) → EntriesFit range cuts (all_entries found)
all_fit range cuts [] h = tt
all_fit range cuts (b ∷ bs) h = fit_append range cuts b.entries.items (all_entries bs) (h 0) (all_fit range cuts bs (λ k. h (suc k)))

pub are_fit : (range : NRange) (sc : Scope) (a : Around) (bs : BranchTrees) (found : List Branch) → sc.range ≡ range → IsFoundIn sc a bs found → AreFit range (all_entries found)
are_fit range sc a bs found e h = record {
  small = all_small found h.small;
  cuts = h.cuts;
  are_cuts = h.are_cuts;
  fit = all_fit range h.cuts found (λ k. subst (λ r. EntriesFit r h.cuts (entries_at k found)) e (h.fit k));
}

any_append : {X : Type 0} (p : X → Bool) (xs ys : List X) → list_any p (xs ++ ys) ≡ list_any p xs || list_any p ys
any_append p [] ys = refl
any_append p (x ∷ xs) ys = ap (λ z. p x || z) (any_append p xs ys) ∙ sym (or_assoc (p x) (list_any p xs) (list_any p ys))

any_all : (p : Entry → Bool) (k : ℕ) (found : List Branch) → list_any p (entries_at k found) ≡ true → list_any p (all_entries found) ≡ true
any_all p k [] h = absurd (false≢true h)
any_all p zero (b ∷ bs) h = any_append p b.entries.items (all_entries bs) ∙ or_left (list_any p b.entries.items) (list_any p (all_entries bs)) h
any_all p (suc k) (b ∷ bs) h = any_append p b.entries.items (all_entries bs) ∙ or_right (list_any p b.entries.items) (list_any p (all_entries bs)) (any_all p k bs h)

all_any : (p : Entry → Bool) (found : List Branch) → list_any p (all_entries found) ≡ true → (k : ℕ) × (list_any p (entries_at k found) ≡ true)
all_any p [] h = absurd (false≢true h)
all_any p (b ∷ bs) h = elim (or_cases (list_any p b.entries.items) (list_any p (all_entries bs)) (sym (any_append p b.entries.items (all_entries bs)) ∙ h)) [
  | inl y ↦ (0, y)
  | inr y ↦ (let it = all_any p bs y in (suc it.0, it.1))
]

-- ---- who is heard is found

hears_gives : (roles : List CoreRole) (s : Source) (es : List Entry) (n : ℤ) (role : ℕ) (x : ℤ) → hears s es n role x ≡ true → (l : ℕ) × (finds roles es n role x (receives (rank roles n s.role (value s.at n x)) l) ≡ true)
hears_gives roles s [] n role x h = absurd (false≢true h)
hears_gives roles s (e ∷ es) n role x h =
    elim (or_cases (is_from s e.kind && has e.area n role x) (hears s es n role x) h) [
      | inl y ↦ (let parts = and_parts (is_from s e.kind) (has e.area n role x) y in
          let k = kind e.kind parts.0 in
          (k.0, finds_here roles n role x e es s k.0 k.1 parts.1))
      | inr y ↦ (let it = hears_gives roles s es n role x y in
          (it.0, or_right (has e.area n role x && outcome_eq (outcome_of roles e.kind n x) (receives (rank roles n s.role (value s.at n x)) it.0)) (finds roles es n role x (receives (rank roles n s.role (value s.at n x)) it.0)) it.1))
    ]
  where
    kind : (k : Kind) → is_from s k ≡ true → (l : ℕ) × (k ≡ Receive s l)
    kind (Receive t l) h = (l, ap (λ z. Receive z l) (sym (source_is s t h)))
    kind Other h = absurd (false≢true h)
    kind Again h = absurd (false≢true h)

from_self : (k : Kind) (s : Source) (l : ℕ) → k ≡ Receive s l → is_from s k ≡ true
from_self k s l e = ap (is_from s) e ∙ source_self s

-- a found receive is heard, from a source with its rank
record IsHeardFrom (roles : List CoreRole) (es : List Entry) (n : ℤ) (role : ℕ) (x : ℤ) (t : ℕ) : Type 0 where
  source : Source
  heard : hears source es n role x ≡ true
  there : list_any (λ e. is_from source e.kind) es ≡ true
  rank_is : rank roles n source.role (value source.at n x) ≡ t

gives_heard : (roles : List CoreRole) (es : List Entry) (n : ℤ) (role : ℕ) (x : ℤ) (t l : ℕ) → finds roles es n role x (receives t l) ≡ true → IsHeardFrom roles es n role x t
gives_heard roles [] n role x t l h = absurd (false≢true h)
gives_heard roles (e ∷ es) n role x t l h =
    elim (or_cases (has e.area n role x && outcome_eq (outcome_of roles e.kind n x) (receives t l)) (finds roles es n role x (receives t l)) h) [
      | inl y ↦ (let parts = and_parts (has e.area n role x) (outcome_eq (outcome_of roles e.kind n x) (receives t l)) y in
          let k = kind_gives e.kind parts.1 in
          record {
            source = k.0;
            heard = or_left (is_from k.0 e.kind && has e.area n role x) (hears k.0 es n role x) (and_from (is_from k.0 e.kind) (has e.area n role x) (from_self e.kind k.0 l k.1) parts.0);
            there = or_left (is_from k.0 e.kind) (list_any (λ e. is_from k.0 e.kind) es) (from_self e.kind k.0 l k.1);
            rank_is = k.2;
          })
      | inr y ↦ (let it = gives_heard roles es n role x t l y in
          record {
            source = it.source;
            heard = or_right (is_from it.source e.kind && has e.area n role x) (hears it.source es n role x) it.heard;
            there = or_right (is_from it.source e.kind) (list_any (λ e. is_from it.source e.kind) es) it.there;
            rank_is = it.rank_is;
          })
    ]
  where
    kind_gives : (k : Kind) → outcome_eq (outcome_of roles k n x) (receives t l) ≡ true → (a : Source) × (k ≡ Receive a l) × (rank roles n a.role (value a.at n x) ≡ t)
    kind_gives (Receive a j) h =
        let parts = and_parts (rank roles n a.role (value a.at n x) == t) (j == l) h in
        (a, ap (λ z. Receive a z) (eqb-true j l parts.1), eqb-true (rank roles n a.role (value a.at n x)) t parts.0)
    kind_gives Other h = absurd (false≢true h)
    kind_gives Again h = absurd (false≢true h)

-- ---- one rank

from_gives : (p : ℕ) (os : List Outcome) → only_from p os ≡ true → (s l : ℕ) → is_outcome (receives s l) os ≡ true → s ≡ p
from_gives p [] h s l k = absurd (false≢true k)
from_gives p (receives t j ∷ os) h s l k =
    let hs = and_parts (t == p) (only_from p os) h in
    elim (or_cases (outcome_eq (receives t j) (receives s l)) (is_outcome (receives s l) os) k) [
      | inl e ↦ sym (eqb-true t s (and_parts (t == s) (j == l) e).0) ∙ eqb-true t p hs.0
      | inr e ↦ from_gives p os hs.1 s l e
    ]
from_gives p (nothing_first ∷ os) h s l k = from_gives p os h s l k
from_gives p (other_first ∷ os) h s l k = from_gives p os h s l k
from_gives p (again_first ∷ os) h s l k = from_gives p os h s l k

among_at : (held : List Bool) (r k : ℕ) (bs : Branches) (s l : ℕ) → is_outcome (receives s l) (firsts held r (branch_at k bs)) ≡ true → is_outcome (receives s l) (firsts_among held r bs) ≡ true
among_at held r k no_branch s l h = absurd (false≢true h)
among_at held r zero (branch m b bs) s l h = is_append (firsts held r b) (firsts_among held r bs) (receives s l) ∙ or_left (is_outcome (receives s l) (firsts held r b)) (is_outcome (receives s l) (firsts_among held r bs)) h
among_at held r (suc k) (branch m b bs) s l h =
    is_append (firsts held r b) (firsts_among held r bs) (receives s l) ∙ or_right (is_outcome (receives s l) (firsts held r b)) (is_outcome (receives s l) (firsts_among held r bs)) (among_at held r k bs s l h)

part_in : (held : List Bool) (r : ℕ) (b : Block) (s l : ℕ) → is_outcome (receives s l) (firsts held r b) ≡ true → takes_part held r b ≡ true
part_in held r b s l h = by (takes_part held r b) refl
  where
    by : (t : Bool) → takes_part held r b ≡ t → takes_part held r b ≡ true
    by true e = e
    by false e = absurd (false≢true (sym (ap (is_outcome (receives s l)) (bystander_finds held r b e)) ∙ h))

part_at : (held : List Bool) (r k : ℕ) (bs : Branches) (s l : ℕ) → is_outcome (receives s l) (firsts held r (branch_at k bs)) ≡ true → takes_part_among held r bs ≡ true
part_at held r k no_branch s l h = absurd (false≢true h)
part_at held r zero (branch m b bs) s l h = or_left (takes_part held r b) (takes_part_among held r bs) (part_in held r b s l h)
part_at held r (suc k) (branch m b bs) s l h = or_right (takes_part held r b) (takes_part_among held r bs) (part_at held r k bs s l h)

seated_at : (roles : List CoreRole) (n : ℤ) (r k : ℕ) (held : List Bool) (opens : List ℕ) (bs : BranchTrees) (s l : ℕ) → each_origin_among (strays (seats roles n)) (flat_branches roles n opens (pos 0) bs) ≡ [] →
    is_outcome (receives s l) (firsts held r (branch_at k (flat_branches roles n opens (pos 0) bs))) ≡ true → s < total roles n
seated_at roles n r k held opens T.no_branch s l e h = absurd (false≢true h)
seated_at roles n r zero held opens (T.branch m b bs) s l e h =
    seated_first s l roles n r held opens b (none_left (each_origin (strays (seats roles n)) (flat_block roles n opens (pos 0) b stop)) (each_origin_among (strays (seats roles n)) (flat_branches roles n opens (pos 0) bs)) e) h
seated_at roles n r (suc k) held opens (T.branch m b bs) s l e h =
    seated_at roles n r k held opens bs s l (none_right (each_origin (strays (seats roles n)) (flat_block roles n opens (pos 0) b stop)) (each_origin_among (strays (seats roles n)) (flat_branches roles n opens (pos 0) bs)) e) h

-- the rank of one of two peers
abbrev peer_rank : Scope → ℤ → ℤ → Bool → Peer → Peer → ℕ
peer_rank sc n x b p q = rank sc.roles n (if b then p else q).role (value (if b then p else q).at n x)

module _ (sc : Scope) (a : Around) (at : CoreEnd) (bs : BranchTrees) (found : List Branch) (h : IsFoundIn sc a bs found) (one : OneSource sc a at bs) where
  -- a heard source is that of a first receive, in some branch
  heard_first : (n : ℤ) (role : ℕ) (x : ℤ) → IsIn sc.range n → is_rank sc.roles n role x ≡ true → (s : Source) → hears s (all_entries found) n role x ≡ true →
      (k : ℕ) × (l : ℕ) × (is_outcome (receives (rank sc.roles n s.role (value s.at n x)) l) (firsts (a.held n role x) (rank sc.roles n role x) (branch_at k (flat_branches sc.roles n a.opens (pos 0) bs))) ≡ true)
  heard_first n role x within is s heard =
      let k = all_any (λ e. is_from s e.kind && has e.area n role x) found heard in
      let g = hears_gives sc.roles s (entries_at k.0 found) n role x k.1 in
      (k.0, g.0, sym (h.finds_is k.0 n role x (rank sc.roles n s.role (value s.at n x)) g.0 within is) ∙ g.1)

  pub of_roles : AreOfRoles sc.range sc.roles (all_entries found) (length sc.roles)
  of_roles n role x s within is heard =
      let f = heard_first n role x within is s heard in
      let below : rank sc.roles n s.role (value s.at n x) < total sc.roles n = seated_at sc.roles n (rank sc.roles n role x) f.0 (a.held n role x) a.opens bs (rank sc.roles n s.role (value s.at n x)) f.1 (one.seated n within) f.2 in
      rank_role sc.roles n s.role (value s.at n x) (is_below (seats sc.roles n) (record { role = s.role; index = value s.at n x }) ∙ lt-ltb (rank sc.roles n s.role (value s.at n x)) (total sc.roles n) below)

  heard_teller : (n : ℤ) (role : ℕ) (x : ℤ) → IsIn sc.range n → is_rank sc.roles n role x ≡ true → is_at at n (pos 0) role x ≡ false → (s : Source) → hears s (all_entries found) n role x ≡ true →
      rank sc.roles n s.role (value s.at n x) ≡ teller sc a bs n role x
  heard_teller n role x within is other s heard =
      let f = heard_first n role x within is s heard in
      let flats : Branches = flat_branches sc.roles n a.opens (pos 0) bs in
      let t : ℕ = rank sc.roles n s.role (value s.at n x) in
      let all : List Outcome = firsts_among (a.held n role x) (rank sc.roles n role x) flats in
      from_gives (source_of all) all (one.one n role x within is other (part_at (a.held n role x) (rank sc.roles n role x) f.0 flats t f.1 f.2)) t f.1 (among_at (a.held n role x) (rank sc.roles n role x) f.0 flats t f.1 f.2)

  first_relay : (n : ℤ) (role : ℕ) (x : ℤ) → IsIn sc.range n → is_rank sc.roles n role x ≡ true → is_at at n (pos 0) role x ≡ false → (rs : List Relay) → All (IsRight sc.range sc.roles (all_entries found)) rs →
      (relayed rs n role x ≡ false → rank sc.roles n at.role (value at.at n x) ≡ teller sc a bs n role x) →
      rank sc.roles n (C.source_of n (record { role = role; index = x }) x rs (peer_of at)).role (value (C.source_of n (record { role = role; index = x }) x rs (peer_of at)).at n x) ≡ teller sc a bs n role x
  first_relay n role x within is other [] right none = none refl
  first_relay n role x within is other (r ∷ rs) right none =
      by (hold r.guards n x role x) refl
      (λ e. first_relay n role x within is other rs (All-tail (IsRight sc.range sc.roles (all_entries found)) r rs right) (λ f. none (ap (λ b. b || relayed rs n role x) e ∙ f)))
    where
      by : (b : Bool) → hold r.guards n x role x ≡ b → (hold r.guards n x role x ≡ false → peer_rank sc n x false r.from (C.source_of n (record { role = role; index = x }) x rs (peer_of at)) ≡ teller sc a bs n role x) →
          peer_rank sc n x (hold r.guards n x role x) r.from (C.source_of n (record { role = role; index = x }) x rs (peer_of at)) ≡ teller sc a bs n role x
      by true e next = ap (λ b. peer_rank sc n x b r.from (C.source_of n (record { role = role; index = x }) x rs (peer_of at))) e
          ∙ heard_teller n role x within is other (record { role = r.from.role; at = r.from.at }) (All-head (IsRight sc.range sc.roles (all_entries found)) r rs right n role x within is e)
      by false e next = ap (λ b. peer_rank sc n x b r.from (C.source_of n (record { role = role; index = x }) x rs (peer_of at))) e ∙ next e

  -- whom no relay tells, the chooser does
  by_chooser : (roles : ℕ) (whole : List Area) (sources : List Source) (rs : List Relay) → Stands sc.range roles whole sc → IsRange sc.range → is_small at.at.off ≡ true →
      ((s : Source) → list_any (λ e. is_from s e.kind) (all_entries found) ≡ true → is_listed s sources ≡ true) → AreRelayed sc.range roles whole at (all_entries found) sources rs →
      (n : ℤ) (role : ℕ) (x : ℤ) (k l : ℕ) → IsIn sc.range n → is_rank sc.roles n role x ≡ true → is_at at n (pos 0) role x ≡ false → is_told sc a bs k l n (pos 0) role x ≡ true → relayed rs n role x ≡ false →
      rank sc.roles n at.role (value at.at n x) ≡ teller sc a bs n role x
  by_chooser roles whole sources rs st range_is small listed are n role x k l within is other told none =
      let os : List Outcome = firsts (a.held n role x) (rank sc.roles n role x) (branch_at k (flat_branches sc.roles n a.opens (pos 0) bs)) in
      let out = (label_is os l).0 told in
      let hf = gives_heard sc.roles (entries_at k found) n role x out.0 l (h.finds_is k n role x out.0 l within is ∙ out.1) in
      let s : Source = hf.source in
      let heard : hears s (all_entries found) n role x ≡ true = any_all (λ e. is_from s e.kind && has e.area n role x) k found hf.heard in
      let there : is_listed s sources ≡ true = listed s (any_all (λ e. is_from s e.kind) k found hf.there) in
      by s heard there (agrees s (source_at at) n x) refl
    where
      near : (low : ℕ) (n : ℤ) → pos low ≤ℤ n → pos 0 ≤ℤ n
      near low n h = omega (arith, ints, h)

      same_value : (x y : ℤ) → int_eq x y ≡ true → x ≡ y
      same_value x y h = grind (arith, ints)

      by : (s : Source) → hears s (all_entries found) n role x ≡ true → is_listed s sources ≡ true → (b : Bool) → agrees s (source_at at) n x ≡ b → rank sc.roles n at.role (value at.at n x) ≡ teller sc a bs n role x
      by s heard there true e =
          let parts = and_parts (nat_eq s.role at.role) (int_eq (value s.at n x) (value at.at n x)) e in
          ap (λ z. rank sc.roles n z (value at.at n x)) (sym (eqb-true s.role at.role parts.0)) ∙ ap (λ z. rank sc.roles n s.role z) (sym (same_value (value s.at n x) (value at.at n x) parts.1))
          ∙ heard_teller n role x within is other s heard
      by s heard there false e =
          absurd (true≢false (sym (are.rest sc st range_is (are_fit sc.range sc a bs found refl h) s there n role x within is
          (record { near = near sc.range.low n within.low; small = small; apart = e; else_where = other }) heard) ∙ none))

  pub relays_are : (roles : ℕ) (whole : List Area) (sources : List Source) (rs : List Relay) → Stands sc.range roles whole sc → IsRange sc.range → is_small at.at.off ≡ true →
      ((s : Source) → list_any (λ e. is_from s e.kind) (all_entries found) ≡ true → is_listed s sources ≡ true) → AreRelayed sc.range roles whole at (all_entries found) sources rs → Relays sc a at bs rs
  relays_are roles whole sources rs st range_is small listed are n role x k l within is other told =
      first_relay n role x within is other rs (are.right sc st range_is (are_fit sc.range sc a bs found refl h)) (by_chooser roles whole sources rs st range_is small listed are n role x k l within is other told)

  pub relays_made : (roles : ℕ) (whole : List Area) (sources : List Source) (rs : List Relay) → Stands sc.range roles whole sc → IsRange sc.range → AreRelayed sc.range roles whole at (all_entries found) sources rs →
      (p : Program) → length p.roles ≡ roles → All (IsRelay p) rs
  relays_made roles whole sources rs st range_is are p same =
      are.each p sc st range_is (are_fit sc.range sc a bs found refl h) (subst (AreOfRoles sc.range sc.roles (all_entries found)) (sym st.roles_is) of_roles) same

  -- whoever hears is told
  abbrev pub Told : (ℤ → ℕ → ℤ → Bool) → Type 0
  Told such = (k l : ℕ) (n : ℤ) (role : ℕ) (x : ℤ) → IsIn sc.range n → is_rank sc.roles n role x ≡ true → is_told sc a bs k l n (pos 0) role x ≡ true → such n role x ≡ true

  heard_such : (such : ℤ → ℕ → ℤ → Bool) → Told such → HearSuch sc.range sc.roles such (all_entries found)
  heard_such such told s n role x within is heard =
      let f = heard_first n role x within is s heard in
      let os : List Outcome = firsts (a.held n role x) (rank sc.roles n role x) (branch_at f.0 (flat_branches sc.roles n a.opens (pos 0) bs)) in
      told f.0 f.1 n role x within is ((label_is os f.1).1 (rank sc.roles n s.role (value s.at n x), f.2))

  pub relays_hold : (roles : ℕ) (whole : List Area) (sources : List Source) (rs : List Relay) → Stands sc.range roles whole sc → IsRange sc.range → AreRelayed sc.range roles whole at (all_entries found) sources rs →
      is_small at.at.off ≡ true → (such : ℤ → ℕ → ℤ → Bool) → Told such → HaveCallers sc.range sc.roles such at rs
  relays_hold roles whole sources rs st range_is are small such told = are.called such sc st range_is small (are_fit sc.range sc a bs found refl h) (heard_such such told)

-- nobody is told where there are no tests
pub no_tests : (sc : Scope) (h : Here) (a : Around) (at : CoreEnd) (bs : BranchTrees) (tests : List Test) (rs : List Relay) → IsOpen h → Tests sc h a bs tests → tests ≡ [] → Relays sc a at bs rs
no_tests sc h a at bs tests rs opened ts e n role x k l within is other told =
    absurd (true≢false (sym told ∙ sym (subst (λ z. Tests sc h a bs z) e ts k l n (pos 0) role x within is (opened.at n (pos 0)))))

-- ---- in the program's words

pub relays_right : (range : NRange) (roles : ℕ) (whole : List Area) (sc : Scope) (a : Around) (at : CoreEnd) (bs : BranchTrees) (found : List Branch) (es : List Entry) (sources : List Source) (rs : List Relay) →
    Stands range roles whole sc → IsRange range → is_small at.at.off ≡ true → IsFoundIn sc a bs found → OneSource sc a at bs → es ≡ all_entries found →
    ((s : Source) → list_any (λ e. is_from s e.kind) es ≡ true → is_listed s sources ≡ true) → AreRelayed range roles whole at es sources rs → Relays sc a at bs rs
relays_right range roles whole sc a at bs found es sources rs st range_is small h one same listed are =
    subst (λ r. Stands r roles whole sc → IsRange r → AreRelayed r roles whole at (all_entries found) sources rs → Relays sc a at bs rs) st.range_is
    (λ st range_is are. relays_are sc a at bs found h one roles whole sources rs st range_is small (subst (λ z. (s : Source) → list_any (λ e. is_from s e.kind) z ≡ true → is_listed s sources ≡ true) same listed) are)
    st range_is (subst (λ z. AreRelayed range roles whole at z sources rs) same are)

pub relays_each : (range : NRange) (roles : ℕ) (whole : List Area) (sc : Scope) (a : Around) (at : CoreEnd) (bs : BranchTrees) (found : List Branch) (es : List Entry) (sources : List Source) (rs : List Relay) (p : Program) →
    Stands range roles whole sc → IsRange range → IsFoundIn sc a bs found → OneSource sc a at bs → es ≡ all_entries found → AreRelayed range roles whole at es sources rs → length p.roles ≡ roles → All (IsRelay p) rs
relays_each range roles whole sc a at bs found es sources rs p st range_is h one same are fits =
    subst (λ r. Stands r roles whole sc → IsRange r → AreRelayed r roles whole at (all_entries found) sources rs → All (IsRelay p) rs) st.range_is
    (λ st range_is are. relays_made sc a at bs found h one roles whole sources rs st range_is are p fits)
    st range_is (subst (λ z. AreRelayed range roles whole at z sources rs) same are)

pub relays_called : (range : NRange) (roles : ℕ) (whole : List Area) (sc : Scope) (a : Around) (at : CoreEnd) (bs : BranchTrees) (found : List Branch) (es : List Entry) (sources : List Source) (rs : List Relay) (such : ℤ → ℕ → ℤ → Bool) →
    Stands range roles whole sc → IsRange range → is_small at.at.off ≡ true → IsFoundIn sc a bs found → OneSource sc a at bs → es ≡ all_entries found → AreRelayed range roles whole at es sources rs →
    ((k l : ℕ) (n : ℤ) (role : ℕ) (x : ℤ) → IsIn sc.range n → is_rank sc.roles n role x ≡ true → is_told sc a bs k l n (pos 0) role x ≡ true → such n role x ≡ true) → HaveCallers range sc.roles such at rs
relays_called range roles whole sc a at bs found es sources rs such st range_is small h one same are told =
    subst (λ r. Stands r roles whole sc → IsRange r → AreRelayed r roles whole at (all_entries found) sources rs → HaveCallers r sc.roles such at rs) st.range_is
    (λ st range_is are. relays_hold sc a at bs found h one roles whole sources rs st range_is are small such told)
    st range_is (subst (λ z. AreRelayed range roles whole at z sources rs) same are)

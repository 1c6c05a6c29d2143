-- What clashes and forks say of what entries give.
use Rattle.std.proofs.Common.{◌≡◌, ◌<◌, inl, inr, ℕ, ◌==◌, ℤ, Bool, true, false, not, ◌&&◌, ◌||◌, nat_eq, nat_lt, List, [], ◌∷◌, length, refl, sym, ap, ◌∙◌, subst, arith}
use Rattle.std.specs.List.{list_any}
use Rattle.std.specs.Ordering.{int_eq}
use Rattle.std.proofs.lemmas.Bool.{and_parts, and_from, or_cases, or_left, or_right, false≢true, eqb-true, eq-eqb}
use Rattle.std.proofs.lemmas.Bool.Decides.{nat_tests}
use Rattle.std.proofs.lemmas.Int.{ints}
use Rattle.pb_affine.specs.Values.{value}
use Rattle.pb_core_language.specs.declared.protocol.CoreRole.{CoreRole}
use Rattle.pb_core_language.specs.Outcomes.{Outcome, receives, other_first, again_first}
use Rattle.pb_core_language.specs.Ranks.{Seat, seats, total, number_in}
use Rattle.pb_part_areas.specs.Areas.{has}
use Rattle.pb_core_flat.specs.Seated.{rank}
use Rattle.pb_core_flat.specs.OutcomeSets.{outcome_eq}
use Rattle.pb_core_flat.proofs.Seats.{same_number, is_below}
use Rattle.pb_part_firsts.specs.declared.firsts.Entry.{Entry}
use Rattle.pb_part_firsts.specs.declared.firsts.Kind.{Kind}
use Rattle.pb_part_firsts.specs.declared.firsts.Kind.TheVariants.{Receive, Other, Again}
use Rattle.pb_part_firsts.specs.declared.firsts.Source.{Source}
use Rattle.pb_part_firsts.specs.Firsts.{outcome_of, finds}
use Rattle.pb_choice_entries.specs.Clashes.{is_receive, is_strange, strange, is_label, same_label, clash, clash_any, clashes, agrees, is_from_other, are_apart, fork, fork_any, forks}

module _ (roles : List CoreRole) (n : ℤ) (role : ℕ) (x : ℤ) where
  -- ---- what is no receive

  strange_step : (t s f g a b : Bool) → s ≡ f || g → a || b ≡ t → (t || s) ≡ (a || f) || (b || g)
  strange_step t s f g a b e h = grind (arith, nat_tests)

  kind_other : (k : Kind) (h : Bool) → (h && outcome_eq (outcome_of roles k n x) other_first) || (h && outcome_eq (outcome_of roles k n x) again_first) ≡ not (is_receive k) && h
  kind_other (Receive s l) true = refl
  kind_other (Receive s l) false = refl
  kind_other Other true = refl
  kind_other Other false = refl
  kind_other Again true = refl
  kind_other Again false = refl

  pub strange_is : (es : List Entry) → strange es n role x ≡ finds roles es n role x other_first || finds roles es n role x again_first
  strange_is [] = refl
  strange_is (e ∷ es) =
      strange_step (is_strange e n role x) (strange es n role x) (finds roles es n role x other_first) (finds roles es n role x again_first)
      (has e.area n role x && outcome_eq (outcome_of roles e.kind n x) other_first) (has e.area n role x && outcome_eq (outcome_of roles e.kind n x) again_first)
      (strange_is es) (kind_other e.kind (has e.area n role x))

  -- ---- receives

  -- the list gives the rank a receive of this label
  abbrev pub Gets : List Entry → ℕ → Type 0
  Gets es l = (s : ℕ) × (finds roles es n role x (receives s l) ≡ true)

  self : (s l : ℕ) → outcome_eq (receives s l) (receives s l) ≡ true
  self s l = and_from (s == s) (l == l) (eq-eqb s s refl) (eq-eqb l l refl)

  head_gets : (e : Entry) (es : List Entry) (a : Source) (l : ℕ) → e.kind ≡ Receive a l → has e.area n role x ≡ true → finds roles (e ∷ es) n role x (receives (rank roles n a.role (value a.at n x)) l) ≡ true
  head_gets e es a l is h =
      or_left (has e.area n role x && outcome_eq (outcome_of roles e.kind n x) (receives (rank roles n a.role (value a.at n x)) l)) _
      (and_from (has e.area n role x) (outcome_eq (outcome_of roles e.kind n x) (receives (rank roles n a.role (value a.at n x)) l)) h
      (ap (λ k. outcome_eq (outcome_of roles k n x) (receives (rank roles n a.role (value a.at n x)) l)) is ∙ self (rank roles n a.role (value a.at n x)) l))

  tail_gets : (e : Entry) (es : List Entry) (o : Outcome) → finds roles es n role x o ≡ true → finds roles (e ∷ es) n role x o ≡ true
  tail_gets e es o h = or_right (has e.area n role x && outcome_eq (outcome_of roles e.kind n x) o) (finds roles es n role x o) h

  -- an entry that gives a receive
  pub record Given (es : List Entry) (s l : ℕ) (test : Entry → Bool) : Type 0 where
    pub entry : Entry
    pub source : Source
    pub kind_is : entry.kind ≡ Receive source l
    pub has_it : has entry.area n role x ≡ true
    pub rank_is : rank roles n source.role (value source.at n x) ≡ s
    pub holds : test entry ≡ true → list_any test es ≡ true

  kind_gives : (k : Kind) (s l : ℕ) → outcome_eq (outcome_of roles k n x) (receives s l) ≡ true → (a : Source) × (k ≡ Receive a l) × (rank roles n a.role (value a.at n x) ≡ s)
  kind_gives (Receive a j) s l h =
      let parts = and_parts (rank roles n a.role (value a.at n x) == s) (j == l) h in
      (a, ap (λ z. Receive a z) (eqb-true j l parts.1), eqb-true (rank roles n a.role (value a.at n x)) s parts.0)
  kind_gives Other s l h = absurd (false≢true h)
  kind_gives Again s l h = absurd (false≢true h)

  pub given : (es : List Entry) (s l : ℕ) (test : Entry → Bool) → finds roles es n role x (receives s l) ≡ true → Given es s l test
  given [] s l test h = absurd (false≢true h)
  given (e ∷ es) s l test h =
      elim (or_cases (has e.area n role x && outcome_eq (outcome_of roles e.kind n x) (receives s l)) (finds roles es n role x (receives s l)) h) [
        | inl y ↦ (let parts = and_parts (has e.area n role x) (outcome_eq (outcome_of roles e.kind n x) (receives s l)) y in
            let k = kind_gives e.kind s l parts.1 in
            record { entry = e; source = k.0; kind_is = k.1; has_it = parts.0; rank_is = k.2; holds = λ t. or_left (test e) (list_any test es) t })
        | inr z ↦ (let g : Given es s l test = given es s l test z in
            record { entry = g.entry; source = g.source; kind_is = g.kind_is; has_it = g.has_it; rank_is = g.rank_is; holds = λ t. or_right (test e) (list_any test es) (g.holds t) })
      ]

  -- ---- one label

  pub record Shared (es fs : List Entry) : Type 0 where
    pub label : ℕ
    pub first : ℕ
    pub second : ℕ
    pub one : finds roles es n role x (receives first label) ≡ true
    pub other : finds roles fs n role x (receives second label) ≡ true

  label_kind : (l : ℕ) (k : Kind) → is_label l k ≡ true → (b : Source) × (k ≡ Receive b l)
  label_kind l (Receive b j) h = (b, ap (λ z. Receive b z) (sym (eqb-true l j h)))
  label_kind l Other h = absurd (false≢true h)
  label_kind l Again h = absurd (false≢true h)

  labels_kind : (a b : Kind) → same_label a b ≡ true → (l : ℕ) × (s : Source) × (t : Source) × (a ≡ Receive s l) × (b ≡ Receive t l)
  labels_kind (Receive s l) b h = let k = label_kind l b h in (l, s, k.0, refl, k.1)
  labels_kind Other b h = absurd (false≢true h)
  labels_kind Again b h = absurd (false≢true h)

  -- an entry of a list shares its label with this one
  clash_gives : (e : Entry) (fs : List Entry) → clash_any fs e n role x ≡ true →
      (l : ℕ) × (a : Source) × (t : ℕ) × (e.kind ≡ Receive a l) × (has e.area n role x ≡ true) × (finds roles fs n role x (receives t l) ≡ true)
  clash_gives e [] h = absurd (false≢true h)
  clash_gives e (f ∷ fs) h =
      elim (or_cases (clash e f n role x) (clash_any fs e n role x) h) [
        | inl y ↦ (let parts = and_parts (same_label e.kind f.kind) (has e.area n role x && has f.area n role x) y in
            let k = labels_kind e.kind f.kind parts.0 in
            let two = and_parts (has e.area n role x) (has f.area n role x) parts.1 in
            (k.0, k.1, rank roles n k.2.role (value k.2.at n x), k.3, two.0, head_gets f fs k.2 k.0 k.4 two.1))
        | inr z ↦ (let k = clash_gives e fs z in (k.0, k.1, k.2, k.3, k.4, tail_gets f fs (receives k.2 k.0) k.5))
      ]

  pub clashes_give : (es fs : List Entry) → clashes es fs n role x ≡ true → Shared es fs
  clashes_give [] fs h = absurd (false≢true h)
  clashes_give (e ∷ es) fs h =
      elim (or_cases (clash_any fs e n role x) (clashes es fs n role x) h) [
        | inl y ↦ (let k = clash_gives e fs y in
            record { label = k.0; first = rank roles n k.1.role (value k.1.at n x); second = k.2; one = head_gets e es k.1 k.0 k.3 k.4; other = k.5 })
        | inr z ↦ (let k : Shared es fs = clashes_give es fs z in
            record { label = k.label; first = k.first; second = k.second; one = tail_gets e es (receives k.first k.label) k.one; other = k.other })
      ]

  same_labels : (a b : Kind) (l : ℕ) (s t : Source) → a ≡ Receive s l → b ≡ Receive t l → same_label a b ≡ true
  same_labels a b l s t e f = ap (λ z. same_label z b) e ∙ ap (is_label l) f ∙ eq-eqb l l refl

  pub give_clashes : (es fs : List Entry) → Shared es fs → clashes es fs n role x ≡ true
  give_clashes es fs k =
      let g : Given es k.first k.label (λ e. clash_any fs e n role x) = given es k.first k.label (λ e. clash_any fs e n role x) k.one in
      let h : Given fs k.second k.label (λ f. clash g.entry f n role x) = given fs k.second k.label (λ f. clash g.entry f n role x) k.other in
      g.holds (h.holds (and_from (same_label g.entry.kind h.entry.kind) (has g.entry.area n role x && has h.entry.area n role x)
      (same_labels g.entry.kind h.entry.kind k.label g.source h.source g.kind_is h.kind_is) (and_from (has g.entry.area n role x) (has h.entry.area n role x) g.has_it h.has_it)))

  -- ---- two sources

  pub record Forked (es fs : List Entry) : Type 0 where
    pub first : ℕ
    pub label : ℕ
    pub second : ℕ
    pub other_label : ℕ
    pub one : finds roles es n role x (receives first label) ≡ true
    pub other : finds roles fs n role x (receives second other_label) ≡ true
    pub apart : first ≡ second → ⊥

  abbrev seat_of : Source → Seat
  seat_of a = record { role = a.role; index = value a.at n x }

  same_seat : (r s : ℕ) (v w : ℤ) → nat_eq s r && int_eq w v ≡ nat_eq r s && int_eq v w
  same_seat r s v w = grind (arith, ints, nat_tests)

  -- two sources, the first of them a rank, are one rank exactly where they agree
  agrees_is : (a b : Source) → rank roles n a.role (value a.at n x) < total roles n →
      (rank roles n b.role (value b.at n x) == rank roles n a.role (value a.at n x)) ≡ agrees a b n x
  agrees_is a b lt =
      same_number (seats roles n) (seat_of b) (seat_of a) (is_below (seats roles n) (seat_of a) ∙ lt_true (number_in (seat_of a) (seats roles n)) (length (seats roles n)) lt)
      ∙ same_seat a.role b.role (value a.at n x) (value b.at n x) where
        lt_true : (k m : ℕ) → k < m → nat_lt k m ≡ true
        lt_true k m h = grind (arith, nat_tests)

  not_apart : (s t : ℕ) (g : Bool) → (t == s) ≡ g → not g ≡ true → s ≡ t → ⊥
  not_apart s t g e h q = grind (arith, nat_tests)

  apart_not : (s t : ℕ) (g : Bool) → (t == s) ≡ g → (s ≡ t → ⊥) → not g ≡ true
  apart_not s t true e h = absurd (h (sym (eqb-true t s e)))
  apart_not s t false e h = refl

  other_kind : (a : Source) (k : Kind) → is_from_other a k n x ≡ true → (b : Source) × (j : ℕ) × (k ≡ Receive b j) × (not (agrees a b n x) ≡ true)
  other_kind a (Receive b j) h = (b, j, refl, h)
  other_kind a Other h = absurd (false≢true h)
  other_kind a Again h = absurd (false≢true h)

  apart_kinds : (a b : Kind) → are_apart a b n x ≡ true → (s : Source) × (l : ℕ) × (t : Source) × (j : ℕ) × (a ≡ Receive s l) × (b ≡ Receive t j) × (not (agrees s t n x) ≡ true)
  apart_kinds (Receive s l) b h = let k = other_kind s b h in (s, l, k.0, k.1, refl, k.2, k.3)
  apart_kinds Other b h = absurd (false≢true h)
  apart_kinds Again b h = absurd (false≢true h)

  fork_gives : (e : Entry) (fs : List Entry) → fork_any fs e n role x ≡ true →
      (a : Source) × (l : ℕ) × (b : Source) × (j : ℕ) × (e.kind ≡ Receive a l) × (has e.area n role x ≡ true) × (finds roles fs n role x (receives (rank roles n b.role (value b.at n x)) j) ≡ true) × (not (agrees a b n x) ≡ true)
  fork_gives e [] h = absurd (false≢true h)
  fork_gives e (f ∷ fs) h =
      elim (or_cases (fork e f n role x) (fork_any fs e n role x) h) [
        | inl y ↦ (let parts = and_parts (has e.area n role x && has f.area n role x) (are_apart e.kind f.kind n x) y in
            let two = and_parts (has e.area n role x) (has f.area n role x) parts.0 in
            let k = apart_kinds e.kind f.kind parts.1 in
            (k.0, k.1, k.2, k.3, k.4, two.0, head_gets f fs k.2 k.3 k.5 two.1, k.6))
        | inr z ↦ (let k = fork_gives e fs z in (k.0, k.1, k.2, k.3, k.4, k.5, tail_gets f fs (receives (rank roles n k.2.role (value k.2.at n x)) k.3) k.6, k.7))
      ]

  -- what the first list gives is from ranks
  abbrev pub FromRanks : List Entry → Type 0
  FromRanks es = (s l : ℕ) → finds roles es n role x (receives s l) ≡ true → s < total roles n

  pub forks_give : (es fs : List Entry) → FromRanks es → forks es fs n role x ≡ true → Forked es fs
  forks_give [] fs seated h = absurd (false≢true h)
  forks_give (e ∷ es) fs seated h =
      elim (or_cases (fork_any fs e n role x) (forks es fs n role x) h) [
        | inl y ↦ (let k = fork_gives e fs y in
            let here : finds roles (e ∷ es) n role x (receives (rank roles n k.0.role (value k.0.at n x)) k.1) ≡ true = head_gets e es k.0 k.1 k.4 k.5 in
            record {
              first = rank roles n k.0.role (value k.0.at n x);
              label = k.1;
              second = rank roles n k.2.role (value k.2.at n x);
              other_label = k.3;
              one = here;
              other = k.6;
              apart = not_apart (rank roles n k.0.role (value k.0.at n x)) (rank roles n k.2.role (value k.2.at n x)) (agrees k.0 k.2 n x) (agrees_is k.0 k.2 (seated _ k.1 here)) k.7;
            })
        | inr z ↦ (let k : Forked es fs = forks_give es fs (λ s l q. seated s l (tail_gets e es (receives s l) q)) z in
            record { first = k.first; label = k.label; second = k.second; other_label = k.other_label; one = tail_gets e es (receives k.first k.label) k.one; other = k.other; apart = k.apart })
      ]

  kinds_apart : (a b : Kind) (s t : Source) (l j : ℕ) → a ≡ Receive s l → b ≡ Receive t j → not (agrees s t n x) ≡ true → are_apart a b n x ≡ true
  kinds_apart a b s t l j e f h = ap (λ z. are_apart z b n x) e ∙ ap (λ z. is_from_other s z n x) f ∙ h

  pub give_forks : (es fs : List Entry) → FromRanks es → Forked es fs → forks es fs n role x ≡ true
  give_forks es fs seated k =
      let g : Given es k.first k.label (λ e. fork_any fs e n role x) = given es k.first k.label (λ e. fork_any fs e n role x) k.one in
      let h : Given fs k.second k.other_label (λ f. fork g.entry f n role x) = given fs k.second k.other_label (λ f. fork g.entry f n role x) k.other in
      g.holds (h.holds (and_from (has g.entry.area n role x && has h.entry.area n role x) (are_apart g.entry.kind h.entry.kind n x)
      (and_from (has g.entry.area n role x) (has h.entry.area n role x) g.has_it h.has_it)
      (kinds_apart g.entry.kind h.entry.kind g.source h.source k.label k.other_label g.kind_is h.kind_is
      (apart_not (rank roles n g.source.role (value g.source.at n x)) (rank roles n h.source.role (value h.source.at n x)) (agrees g.source h.source n x)
      (agrees_is g.source h.source (subst (λ z. z < total roles n) (sym g.rank_is) (seated k.first k.label k.one)))
      (λ q. k.apart (sym g.rank_is ∙ q ∙ h.rank_is))))))

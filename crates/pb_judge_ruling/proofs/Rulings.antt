-- A log has one ruling, and what it tells.
use Rattle.std.proofs.Common.{◌≡◌, ◌≢◌, ℕ, zero, suc, ◌+◌, ◌<◌, ◌≤◌, cond, ◌⊎◌, inl, inr, List, [], ◌∷◌, ◌++◌, length, slice_get, Option, Some, None, refl, sym, ap, ap₂, subst, ◌∙◌, arith, append_assoc}
use Rattle.std.specs.List.{cons_option}
use Rattle.std.proofs.lemmas.Bool.{eq-eqb}
use Rattle.std.proofs.lemmas.List.Elements.{filter_map-append}
use Rattle.std.proofs.lemmas.Option.{slice_get_within}
use Rattle.pb_text.specs.declared.action.Action.{Action}
use Rattle.pb_world.specs.Actions.{IsPrefixOf}
use Rattle.pb_world.specs.Log.{rank_of, entry_by, log_of_rank}
use Rattle.pb_world.proofs.Lists.{prefix_refl, prefix_filter, prefix_length, prefix_get, prefix_both, get_end, behind, not_eqb}
use Rattle.pb_core_language.specs.Flat.{Block}
use Rattle.pb_core_language.specs.Run.{Setting}
use Rattle.pb_judge_ruling.specs.Ruling.{actions_of, entries_of, Agrees, run, DiffersAt, AllAgree, HasAll, GoesBeyond, IsWhole, IsRuling}
use Rattle.pb_judge_ruling.specs.Laws.{OneRuling, IsCovered, HasRanks, RulingMeans}
use Rattle.pb_judge_ruling.specs.declared.ruling.Ruling.{Ruling}
use Rattle.pb_judge_ruling.specs.declared.ruling.Ruling.TheVariants.{Whole, Covered, Differs, Beyond}
use Rattle.pb_judge_ruling.proofs.Runs.{entry_action, longer, rank_longer, either, ended_longest, same_place}

pub some_same : {A : Type 0} {a b : A} → ◌≡◌ {A = Option A} (Some a) (Some b) → a ≡ b
some_same e = cc

-- the rank's own action stands behind what it did before
own_place : (before after : List Action) (a : Action) → slice_get (log_of_rank (rank_of a) (before ++ a ∷ after)) (length (log_of_rank (rank_of a) before)) ≡ Some a
own_place before after a =
    let r = rank_of a in
    let own : log_of_rank r (a ∷ after) ≡ a ∷ log_of_rank r after = ap (λ b. cons_option (cond b (Some a) None) (log_of_rank r after)) (eq-eqb r r refl) in
    ap (λ xs. slice_get xs (length (log_of_rank r before))) (filter_map-append (entry_by r) before (a ∷ after) ∙ ap (λ xs. log_of_rank r before ++ xs) own)
    ∙ get_end (log_of_rank r before) a (log_of_rank r after)

-- a list that begins one that agrees, agrees
pub agrees_front : (xs ys w : List Action) → IsPrefixOf xs ys → Agrees ys w → Agrees xs w
agrees_front xs ys w p h r k x y a b = h r k x y (prefix_get _ _ k x (prefix_filter (entry_by r) xs ys p) a) b

-- a list that agrees with another and isn't shorter goes on where that ends
goes_on : {A : Type 0} (xs ys : List A) → length xs ≤ length ys → ((k : ℕ) (x y : A) → slice_get ys k ≡ Some x → slice_get xs k ≡ Some y → x ≡ y) → IsPrefixOf xs ys
goes_on [] ys le h = (ys, refl)
goes_on (x ∷ xs) [] le h = absurd (omega (arith, le))
goes_on (x ∷ xs) (y ∷ ys) le h =
    let same : y ≡ x = h 0 y x refl refl in
    let more = goes_on xs ys (omega (arith, le)) (λ k a b e f. h (suc k) a b e f) in
    (more.0, ap₂ (λ z zs. z ∷ zs) (sym same) more.1)

module _ (s : Setting) (protocol : Block) (log : List (ℕ × Action)) where
  abbrev w : List Action
  w = actions_of log

  -- ---- what excludes what

  -- where a list agrees up to behind the action, it doesn't differ there
  not_apart : (r line : ℕ) (d : DiffersAt s protocol log r line) (g : List Action) → IsPrefixOf (d.before ++ d.action ∷ []) g → Agrees g w → ⊥
  not_apart r line d g p h =
      let k = length (log_of_rank (rank_of d.action) d.before) in
      let mine : slice_get (log_of_rank (rank_of d.action) g) k ≡ Some d.action = prefix_get _ _ k d.action (prefix_filter (entry_by (rank_of d.action)) (d.before ++ d.action ∷ []) g p) (own_place d.before [] d.action) in
      let theirs : slice_get (log_of_rank (rank_of d.action) w) k ≡ Some d.other = entry_action (rank_of d.action) k log line d.other (subst (λ q. slice_get (entries_of q log) (length (log_of_rank q d.before)) ≡ Some (line, d.other)) (sym d.by) d.there) in
      d.apart (h (rank_of d.action) k d.action d.other mine theirs)

  up_to : (before after : List Action) (a : Action) (g : List Action) → g ≡ before ++ a ∷ after → IsPrefixOf (before ++ a ∷ []) g
  up_to before after a g e = (after, append_assoc before (a ∷ []) after ∙ sym e)

  not_differs : (r line : ℕ) → DiffersAt s protocol log r line → AllAgree s protocol log → ⊥
  not_differs r line d h = not_apart r line d (run s protocol log d.steps) (up_to d.before d.after d.action _ d.is) (h d.steps)

  not_beyond : (r line : ℕ) → GoesBeyond s protocol log r line → HasAll s protocol log r → ⊥
  not_beyond r line b h =
      let theirs = slice_get_within _ b.many b.other (entry_action r b.many log line b.other b.there) in
      let most = b.most h.0 in
      let all = h.1 in
      absurd (omega (arith, theirs, most, all))

  whole_agrees : IsWhole s protocol log → AllAgree s protocol log
  whole_agrees h m r k x y a b =
      let p = prefix_filter (entry_by r) _ _ (ended_longest s protocol log h.0 m h.1) in
      some_same (sym (prefix_get _ _ k x p a) ∙ ap (λ xs. slice_get xs k) (sym (h.2 r)) ∙ b)

  whole_has : IsWhole s protocol log → (r : ℕ) → HasAll s protocol log r
  whole_has h r = (h.0, let e = ap length (h.2 r) in omega (arith, e))

  whole_covers : IsWhole s protocol log → IsCovered s protocol log
  whole_covers h = (h.0, λ r. subst (λ xs. IsPrefixOf (log_of_rank r w) xs) (h.2 r) (prefix_refl (log_of_rank r w)))

  covered_agrees : IsCovered s protocol log → AllAgree s protocol log
  covered_agrees h m r k x y a b = same_place s protocol log r k m h.0 x y a (prefix_get _ _ k y (h.1 r) b)

  covered_has : IsCovered s protocol log → (r : ℕ) → HasAll s protocol log r
  covered_has h r = (h.0, prefix_length _ _ (h.1 r))

  -- ---- two of one kind

  -- the first that differs, in one run
  differs_first : (r q line other : ℕ) (d : DiffersAt s protocol log r line) (e : DiffersAt s protocol log q other) (g : List Action) → IsPrefixOf (run s protocol log d.steps) g → IsPrefixOf (run s protocol log e.steps) g → (r ≡ q) × (line ≡ other)
  differs_first r q line other d e g p f =
      let one : d.before ++ (d.action ∷ (d.after ++ p.0)) ≡ e.before ++ (e.action ∷ (e.after ++ f.0)) =
      sym (append_assoc d.before (d.action ∷ d.after) p.0) ∙ ap (λ xs. xs ++ p.0) (sym d.is) ∙ p.1 ∙ sym f.1 ∙ ap (λ xs. xs ++ f.0) e.is ∙ append_assoc e.before (e.action ∷ e.after) f.0 in
      by_length (d.after ++ p.0) (e.after ++ f.0) one (behind d.before _ e.before _ one) (behind e.before _ d.before _ (sym one))
    where
      first : (a b : Action) (xs ys zs : List Action) → zs ++ (a ∷ xs) ≡ zs ++ (b ∷ ys) → a ≡ b
      first a b xs ys zs k = some_same (sym (get_end zs a xs) ∙ ap (λ l. slice_get l (length zs)) k ∙ get_end zs b ys)

      same : (ds es : List Action) → d.before ++ (d.action ∷ ds) ≡ e.before ++ (e.action ∷ es) → d.before ≡ e.before → (r ≡ q) × (line ≡ other)
      same ds es one k =
          let u : slice_get (d.before ++ (d.action ∷ ds)) (length d.before) ≡ Some d.action = get_end d.before d.action ds in
          let v : slice_get (d.before ++ (d.action ∷ ds)) (length d.before) ≡ Some e.action = ap₂ (λ xs n. slice_get xs n) one (ap length k) ∙ get_end e.before e.action es in
          let a : d.action ≡ e.action = some_same (sym u ∙ v) in
          let ranks : r ≡ q = sym d.by ∙ ap rank_of a ∙ e.by in
          let there : slice_get (entries_of q log) (length (log_of_rank q e.before)) ≡ Some (line, d.other) = subst (λ x. slice_get (entries_of x log) (length (log_of_rank x e.before)) ≡ Some (line, d.other)) ranks (subst (λ b. slice_get (entries_of r log) (length (log_of_rank r b)) ≡ Some (line, d.other)) k d.there) in
          let pair : ◌≡◌ {A = ℕ × Action} (line, d.other) (other, e.other) = some_same (sym there ∙ e.there) in
          (ranks, ap (λ (x : ℕ × Action). x.0) pair)

      by_length : (ds es : List Action) → d.before ++ (d.action ∷ ds) ≡ e.before ++ (e.action ∷ es) → IsPrefixOf e.before d.before ⊎ ((c : Action) × (cs : List Action) × (e.before ≡ d.before ++ c ∷ cs))
          → IsPrefixOf d.before e.before ⊎ ((c : Action) × (cs : List Action) × (d.before ≡ e.before ++ c ∷ cs)) → (r ≡ q) × (line ≡ other)
      by_length ds es one (inl x) (inl y) = same ds es one (prefix_both d.before e.before y x)
      by_length ds es one (inr x) _ =
          let c : d.action ≡ x.0 = first d.action x.0 ds (x.1 ++ (e.action ∷ es)) d.before (one ∙ ap (λ xs. xs ++ (e.action ∷ es)) x.2 ∙ append_assoc d.before (x.0 ∷ x.1) (e.action ∷ es)) in
          absurd (not_apart r line d e.before (x.1, append_assoc d.before (d.action ∷ []) x.1 ∙ ap (λ z. d.before ++ z ∷ x.1) c ∙ sym x.2) e.agrees)
      by_length ds es one (inl _) (inr x) =
          let c : e.action ≡ x.0 = first e.action x.0 es (x.1 ++ (d.action ∷ ds)) e.before (sym one ∙ ap (λ xs. xs ++ (d.action ∷ ds)) x.2 ∙ append_assoc e.before (x.0 ∷ x.1) (d.action ∷ ds)) in
          absurd (not_apart q other e d.before (x.1, append_assoc e.before (e.action ∷ []) x.1 ∙ ap (λ z. e.before ++ z ∷ x.1) c ∙ sym x.2) d.agrees)

  one_difference : (r q line other : ℕ) → DiffersAt s protocol log r line → DiffersAt s protocol log q other → (r ≡ q) × (line ≡ other)
  one_difference r q line other d e = elim (either s protocol log d.steps e.steps) [
    | inl le ↦ differs_first r q line other d e (run s protocol log e.steps) (longer s protocol log d.steps e.steps le) (prefix_refl (run s protocol log e.steps))
    | inr le ↦ differs_first r q line other d e (run s protocol log d.steps) (prefix_refl (run s protocol log d.steps)) (longer s protocol log e.steps d.steps le)
  ]

  same_beyond : (r line other : ℕ) → GoesBeyond s protocol log r line → GoesBeyond s protocol log r other → line ≡ other
  same_beyond r line other a b =
      let x = b.most a.steps in
      let y = a.most b.steps in
      let many : a.many ≡ b.many = omega (arith, x, y, a.reached, b.reached) in
      let pair : ◌≡◌ {A = ℕ × Action} (line, a.other) (other, b.other) = some_same (sym a.there ∙ ap (slice_get (entries_of r log)) many ∙ b.there) in
      ap (λ (x : ℕ × Action). x.0) pair

  pub order : (r q : ℕ) → (r < q) ⊎ ((r ≡ q) ⊎ (q < r))
  order r q = grind arith

  one_beyond : (r q line other : ℕ) → GoesBeyond s protocol log r line → ((p : ℕ) → p < r → HasAll s protocol log p) → GoesBeyond s protocol log q other → ((p : ℕ) → p < q → HasAll s protocol log p) → Beyond r line ≡ Beyond q other
  one_beyond r q line other a f b g = elim (order r q) [
    | inl lt ↦ absurd (not_beyond r line a (g r lt))
    | inr h ↦ elim h [
      | inl e ↦ ap₂ (λ x y. Beyond x y) e (same_beyond q line other (subst (λ x. GoesBeyond s protocol log x line) e a) b)
      | inr lt ↦ absurd (not_beyond q other b (f q lt))
    ]
  ]

  pub one : (x y : Ruling) → IsRuling s protocol log x → IsRuling s protocol log y → x ≡ y
  one (Differs r l) (Differs q k) a b = let e = one_difference r q l k a b in ap₂ (λ x y. Differs x y) e.0 e.1
  one (Differs r l) (Beyond q k) a b = absurd (not_differs r l a b.0)
  one (Differs r l) Whole a b = absurd (not_differs r l a (whole_agrees b))
  one (Differs r l) Covered a b = absurd (not_differs r l a b.0)
  one (Beyond r l) (Differs q k) a b = absurd (not_differs q k b a.0)
  one (Beyond r l) (Beyond q k) a b = one_beyond r q l k a.1 a.2 b.1 b.2
  one (Beyond r l) Whole a b = absurd (not_beyond r l a.1 (whole_has b r))
  one (Beyond r l) Covered a b = absurd (not_beyond r l a.1 (b.1 r))
  one Whole (Differs q k) a b = absurd (not_differs q k b (whole_agrees a))
  one Whole (Beyond q k) a b = absurd (not_beyond q k b.1 (whole_has a q))
  one Whole Whole a b = refl
  one Whole Covered a b = absurd (b.2 a)
  one Covered (Differs q k) a b = absurd (not_differs q k b a.0)
  one Covered (Beyond q k) a b = absurd (not_beyond q k b.1 (a.1 q))
  one Covered Whole a b = absurd (a.2 b)
  one Covered Covered a b = refl

  -- ---- what a ruling tells

  -- so many steps have all of each rank below a number
  abbrev AllBelow : ℕ → ℕ → Type 0
  AllBelow total m = (r : ℕ) → r < total → length (log_of_rank r w) ≤ length (log_of_rank r (run s protocol log m))

  longer_has : (r m n : ℕ) → m ≤ n → length (log_of_rank r w) ≤ length (log_of_rank r (run s protocol log m)) → length (log_of_rank r w) ≤ length (log_of_rank r (run s protocol log n))
  longer_has r m n le h = let p = prefix_length _ _ (rank_longer s protocol log r m n le) in omega (arith, p, h)

  below : (total : ℕ) → ((r : ℕ) → HasAll s protocol log r) → (m : ℕ) × AllBelow total m
  below zero h = (0, λ r lt. absurd (omega (arith, lt)))
  below (suc total) h =
      let k = below total h in
      let l = h total in (
        k.0 + l.0,
        λ r lt. elim (order r total) [
          | inl less ↦ longer_has r k.0 (k.0 + l.0) (omega arith) (k.1 r less)
          | inr o ↦ elim o [
            | inl e ↦ subst (λ q. length (log_of_rank q w) ≤ length (log_of_rank q (run s protocol log (k.0 + l.0)))) (sym e) (longer_has total l.0 (k.0 + l.0) (omega arith) l.1)
            | inr more ↦ absurd (omega (arith, lt, more))
          ]
        ],
      )

no_entries : (total r : ℕ) (log : List (ℕ × Action)) → total ≤ r → HasRanks total log → log_of_rank r (actions_of log) ≡ []
no_entries total r [] le h = refl
no_entries total r (e ∷ log) le h =
    let lt : rank_of e.1 < total = h.0 in
    let apart : rank_of e.1 ≢ r = λ k. absurd (omega (arith, lt, le, k)) in
    ap (λ b. cons_option (cond b (Some e.1) None) (log_of_rank r (actions_of log))) (not_eqb (rank_of e.1) r apart) ∙ no_entries total r log le h.1

below_or_not : (r total : ℕ) → (r < total) ⊎ (total ≤ r)
below_or_not r total = grind arith

covers : (s : Setting) (protocol : Block) (log : List (ℕ × Action)) (total : ℕ) → HasRanks total log → AllAgree s protocol log → ((r : ℕ) → HasAll s protocol log r) → IsCovered s protocol log
covers s protocol log total ranks h all =
    let k = below s protocol log total all in (
      k.0,
      λ r. elim (below_or_not r total) [
        | inl lt ↦ goes_on (log_of_rank r (actions_of log)) (log_of_rank r (run s protocol log k.0)) (k.1 r lt) (h k.0 r)
        | inr le ↦ (log_of_rank r (run s protocol log k.0), ap (λ xs. xs ++ log_of_rank r (run s protocol log k.0)) (no_entries total r log le ranks))
      ],
    )

pub one_ruling : OneRuling
one_ruling s protocol log x y a b = one s protocol log x y a b

pub ruling_means : RulingMeans
ruling_means s protocol log total Whole ranks h = (whole_covers s protocol log h, h)
ruling_means s protocol log total Covered ranks h = (covers s protocol log total ranks h.0 h.1, h.2)
ruling_means s protocol log total (Differs r line) ranks h =
    (λ c. not_differs s protocol log r line h (covered_agrees s protocol log c), λ v. not_differs s protocol log r line h (whole_agrees s protocol log v))
ruling_means s protocol log total (Beyond r line) ranks h =
    (λ c. not_beyond s protocol log r line h.1 (covered_has s protocol log c r), λ v. not_beyond s protocol log r line h.1 (whole_has s protocol log v r))

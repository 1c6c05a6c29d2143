-- Lists that have the same cuts, and tables in which each cut stands once.
use Rattle.std.proofs.Common.{◌≡◌, ℕ, ◌+◌, ◌<◌, ◌≤◌, ℤ, pos, Bool, true, false, ◌||◌, ◌⊎◌, inl, inr, if◌then◌else◌, List, [], ◌∷◌, ◌++◌, length, map, drop, get_or, refl, sym, ap, ◌∙◌, subst, true≢false}
use Rattle.std.specs.List.{All, Contains, list_any, IsDistinct, AllByRecursion}
use Rattle.std.specs.Ordering.{int_eq}
use Rattle.std.proofs.lemmas.Bool.{both_ways, and_parts}
use Rattle.std.proofs.lemmas.Bool.Decides.{Decides-int_eq}
use Rattle.std.proofs.lemmas.List.{at_drop_more, at_drop_all, append-nil}
use Rattle.std.proofs.lemmas.List.Elements.{All-weaker, All-contains, All-contains_itself, Contains-append_left, Contains-append_right, Contains-append_cases, Contains-push, Contains-push_cases}
use Rattle.std.proofs.lemmas.Map.Keys.{IsDistinct-head, IsDistinct-tail}
use Rattle.indexmap.specs.IndexSet.{insert_key}
use Rattle.pb_affine.specs.declared.lin.Base.{Base}
use Rattle.pb_affine.specs.declared.lin.Base.TheVariants.{Fixed, Param, Var}
use Rattle.pb_affine.specs.declared.lin.Lin.{Lin}
use Rattle.pb_affine.specs.declared.range.NRange.{NRange}
use Rattle.pb_cases.specs.Breakpoints.{IsCut, IsMeeting, IsBreakpoint, IsDivision, HasTooMany}
use Rattle.pb_rules.specs.declared.cuts.Wide.{Wide}
use Rattle.pb_rules.specs.declared.offsets.Offsets.{Offsets}
use Rattle.pb_rules.specs.CutLists.{is_cut, are_cuts, lin_of, lin_at, listed, HaveSame, AreApart, IsWith, IsOffsetWith}
use Rattle.pb_rules.proofs.Lists.{Has, has, contains, has_map, map_has}

-- ---- what is said of cuts depends on which cuts there are

turned : (xs ys : List Lin) → HaveSame xs ys → HaveSame ys xs
turned xs ys h = record { only = h.all; all = h.only }

same_all : (P : Lin → Type 0) (xs ys : List Lin) → HaveSame xs ys → All P ys → All P xs
same_all P xs ys h all = All-weaker (Contains xs) P (λ l c. All-contains P ys l all (h.only l c)) xs (All-contains_itself xs)

pub same_cuts : (xs ys : List Lin) → HaveSame xs ys → All IsCut ys → All IsCut xs
same_cuts xs ys h all = same_all IsCut xs ys h all

same_meeting : (xs ys : List Lin) (n : ℤ) → HaveSame xs ys → IsMeeting xs n → IsMeeting ys n
same_meeting xs ys n h m = record { d = m.d; c = m.c; d_in = h.only m.d m.d_in; c_in = h.only m.c m.c_in; d_fixed = m.d_fixed; c_moves = m.c_moves; here = m.here }

pub same_breakpoint : (range : NRange) (xs ys : List Lin) (n : ℤ) → HaveSame xs ys → IsBreakpoint range xs n → IsBreakpoint range ys n
same_breakpoint range xs ys n h b = record {
  in_range = b.in_range;
  why = elim b.why [ inl e ↦ inl e | inr m ↦ inr (same_meeting xs ys n h m) ];
}

same_breakpoints : (range : NRange) (xs ys : List Lin) (list : List ℤ) → HaveSame xs ys → All (IsBreakpoint range xs) list → All (IsBreakpoint range ys) list
same_breakpoints range xs ys list h all = All-weaker (IsBreakpoint range xs) (IsBreakpoint range ys) (λ n b. same_breakpoint range xs ys n h b) list all

pub same_division : (range : NRange) (xs ys : List Lin) (list : List ℤ) → HaveSame xs ys
    → IsDivision (record { range = range; cuts = xs; breakpoints = list }) → IsDivision (record { range = range; cuts = ys; breakpoints = list })
same_division range xs ys list h d = record {
  cuts = same_all IsCut ys xs (turned xs ys h) d.cuts;
  ascending = d.ascending;
  sound = same_breakpoints range xs ys list h d.sound;
  complete = λ n b. d.complete n (same_breakpoint range ys xs n (turned xs ys h) b);
}

pub same_too_many : (range : NRange) (xs ys : List Lin) → HaveSame xs ys → HasTooMany range xs → HasTooMany range ys
same_too_many range xs ys h t = record { list = t.list; ascending = t.ascending; sound = same_breakpoints range xs ys t.list h t.sound; many = t.many }

-- ---- one offset more

has_first : (xs : List ℤ) (x k : ℤ) (here later : Bool) → (here ≡ true → x ≡ k) → (later ≡ true → Has xs k) → (here || later) ≡ true → Has (x ∷ xs) k
has_first xs x k true later f g e = inl (f refl)
has_first xs x k false later f g e = inr (g e)

any_has : (old : List ℤ) (k : ℤ) → list_any (int_eq k) old ≡ true → Has old k
any_has [] k h = absurd (true≢false (sym h))
any_has (x ∷ xs) k h = has_first xs x k (int_eq k x) (list_any (int_eq k) xs) (λ e. sym ((Decides-int_eq k x).0 e)) (any_has xs k) h

with_offset : (there : Bool) (old : List ℤ) (k : ℤ) → (there ≡ true → Has old k) → IsOffsetWith k old (if there then old else old ++ k ∷ [])
with_offset true old k h = record {
  only = λ x c. inl c;
  all = λ x c. elim c [ inl d ↦ d | inr e ↦ subst (λ y. Contains old y) (sym e) (contains old k (h refl)) ];
}
with_offset false old k h = record {
  only = λ x c. elim (Contains-push_cases old k x c) [ inl d ↦ inl d | inr e ↦ inr (sym e) ];
  all = λ x c. elim c [ inl d ↦ Contains-append_left old (k ∷ []) x d | inr e ↦ subst (λ y. Contains (old ++ k ∷ []) y) (sym e) (Contains-push old k) ];
}

pub inserted : (old new : List ℤ) (k : ℤ) → new ≡ insert_key int_eq old k → IsOffsetWith k old new
inserted old new k is = subst (λ l. IsOffsetWith k old l) (sym is) (with_offset (list_any (int_eq k) old) old k (any_has old k))

-- ---- one cut more

off_of : (b : Base) (ks : List ℤ) (l : Lin) → Contains (map (lin_at b) ks) l → (x : ℤ) × Contains ks x × (lin_at b x ≡ l)
off_of b ks l c = let t = has_map (lin_at b) ks l (has (map (lin_at b) ks) l c) in (t.0, contains ks t.0 t.1, t.2)

lin_there : (b : Base) (ks : List ℤ) (x : ℤ) → Contains ks x → Contains (map (lin_at b) ks) (lin_at b x)
lin_there b ks x c = contains (map (lin_at b) ks) (lin_at b x) (map_has (lin_at b) ks x (has ks x c))

with_lin : (b : Base) (k : ℤ) (old new : List ℤ) → IsOffsetWith k old new → IsWith (lin_at b k) (map (lin_at b) old) (map (lin_at b) new)
with_lin b k old new h = record {
  only = λ l c. only l (off_of b new l c);
  all = λ l c. all l c;
}
  where
    only : (l : Lin) → (x : ℤ) × Contains new x × (lin_at b x ≡ l) → Contains (map (lin_at b) old) l ⊎ (l ≡ lin_at b k)
    only l t = elim (h.only t.0 t.1) [
      | inl d ↦ inl (subst (λ y. Contains (map (lin_at b) old) y) t.2 (lin_there b old t.0 d))
      | inr e ↦ inr (sym t.2 ∙ ap (lin_at b) e)
    ]

    all : (l : Lin) → Contains (map (lin_at b) old) l ⊎ (l ≡ lin_at b k) → Contains (map (lin_at b) new) l
    all l (inl c) = let t = off_of b old l c in subst (λ y. Contains (map (lin_at b) new) y) t.2 (lin_there b new t.0 (h.all t.0 (inl t.1)))
    all l (inr e) = subst (λ y. Contains (map (lin_at b) new) y) (sym e) (lin_there b new k (h.all k (inr refl)))

with_left : (cut : Lin) (old new rest : List Lin) → IsWith cut old new → IsWith cut (old ++ rest) (new ++ rest)
with_left cut old new rest h = record { only = λ l c. only l (Contains-append_cases new rest l c); all = all }
  where
    only : (l : Lin) → Contains new l ⊎ Contains rest l → Contains (old ++ rest) l ⊎ (l ≡ cut)
    only l (inl c) = elim (h.only l c) [ inl d ↦ inl (Contains-append_left old rest l d) | inr e ↦ inr e ]
    only l (inr c) = inl (Contains-append_right old rest l c)

    all : (l : Lin) → Contains (old ++ rest) l ⊎ (l ≡ cut) → Contains (new ++ rest) l
    all l (inl c) = elim (Contains-append_cases old rest l c) [ inl d ↦ Contains-append_left new rest l (h.all l (inl d)) | inr d ↦ Contains-append_right new rest l d ]
    all l (inr e) = Contains-append_left new rest l (h.all l (inr e))

with_right : (cut : Lin) (front old new : List Lin) → IsWith cut old new → IsWith cut (front ++ old) (front ++ new)
with_right cut front old new h = record { only = λ l c. only l (Contains-append_cases front new l c); all = all }
  where
    only : (l : Lin) → Contains front l ⊎ Contains new l → Contains (front ++ old) l ⊎ (l ≡ cut)
    only l (inl c) = inl (Contains-append_left front old l c)
    only l (inr c) = elim (h.only l c) [ inl d ↦ inl (Contains-append_right front old l d) | inr e ↦ inr e ]

    all : (l : Lin) → Contains (front ++ old) l ⊎ (l ≡ cut) → Contains (front ++ new) l
    all l (inl c) = elim (Contains-append_cases front old l c) [ inl d ↦ Contains-append_left front new l d | inr d ↦ Contains-append_right front new l (h.all l (inl d)) ]
    all l (inr e) = Contains-append_right front new l (h.all l (inr e))

at_its_base : (cut : Lin) (b : Base) → cut.base ≡ b → lin_at b cut.off ≡ cut
at_its_base cut b e = sym (ap (λ x. lin_at x cut.off) e)

pub fixed_added : (cut : Lin) (fixed moving new : List ℤ) → cut.base ≡ Fixed → IsOffsetWith cut.off fixed new
    → IsWith cut (map (lin_at Fixed) fixed ++ map (lin_at Param) moving) (map (lin_at Fixed) new ++ map (lin_at Param) moving)
fixed_added cut fixed moving new e h =
    subst (λ l. IsWith l (map (lin_at Fixed) fixed ++ map (lin_at Param) moving) (map (lin_at Fixed) new ++ map (lin_at Param) moving)) (at_its_base cut Fixed e)
    (with_left (lin_at Fixed cut.off) (map (lin_at Fixed) fixed) (map (lin_at Fixed) new) (map (lin_at Param) moving) (with_lin Fixed cut.off fixed new h))

pub moving_added : (cut : Lin) (fixed moving new : List ℤ) → cut.base ≡ Param → IsOffsetWith cut.off moving new
    → IsWith cut (map (lin_at Fixed) fixed ++ map (lin_at Param) moving) (map (lin_at Fixed) fixed ++ map (lin_at Param) new)
moving_added cut fixed moving new e h =
    subst (λ l. IsWith l (map (lin_at Fixed) fixed ++ map (lin_at Param) moving) (map (lin_at Fixed) fixed ++ map (lin_at Param) new)) (at_its_base cut Param e)
    (with_right (lin_at Param cut.off) (map (lin_at Fixed) fixed) (map (lin_at Param) moving) (map (lin_at Param) new) (with_lin Param cut.off moving new h))

-- ---- the loop over the cuts: those that are listed, and those that still come, are all

pub nothing_listed : (ls : List Lin) → HaveSame ls ls
nothing_listed ls = record { only = λ l c. c; all = λ l c. c }

pub all_listed : (held : List Lin) (items : List Wide) (i : ℕ) (all : List Lin) → length items ≤ i → HaveSame (held ++ map lin_of (drop i items)) all → HaveSame held all
all_listed held items i all past h = subst (λ l. HaveSame l all) (at_drop_all (λ l. held ++ map lin_of l) items i past ∙ append-nil held) h

goes_on : (cut : Lin) (held new rest all : List Lin) → IsWith cut held new → HaveSame (held ++ cut ∷ rest) all → HaveSame (new ++ rest) all
goes_on cut held new rest all w h = record { only = λ l c. only l (Contains-append_cases new rest l c); all = λ l c. there l (Contains-append_cases held (cut ∷ rest) l (h.all l c)) }
  where
    only : (l : Lin) → Contains new l ⊎ Contains rest l → Contains all l
    only l (inl c) = elim (w.only l c) [
      | inl d ↦ h.only l (Contains-append_left held (cut ∷ rest) l d)
      | inr e ↦ h.only l (Contains-append_right held (cut ∷ rest) l (contains (cut ∷ rest) l (inl (sym e))))
    ]
    only l (inr c) = h.only l (Contains-append_right held (cut ∷ rest) l (Contains-append_right (cut ∷ []) rest l c))

    there : (l : Lin) → Contains held l ⊎ Contains (cut ∷ rest) l → Contains (new ++ rest) l
    there l (inl c) = Contains-append_left new rest l (w.all l (inl c))
    there l (inr c) = elim (has (cut ∷ rest) l c) [
      | inl e ↦ Contains-append_left new rest l (w.all l (inr (sym e)))
      | inr d ↦ Contains-append_right new rest l (contains rest l d)
    ]

pub next_listed : (items : List Wide) (i : ℕ) (d : Wide) (cut : Lin) (held new all : List Lin) → i < length items → cut ≡ lin_of (get_or items i d) → IsWith cut held new
    → HaveSame (held ++ map lin_of (drop i items)) all → HaveSame (new ++ map lin_of (drop (i + 1) items)) all
next_listed items i d cut held new all less is w h =
    goes_on cut held new (map lin_of (drop (i + 1) items)) all w
    (subst (λ l. HaveSame (held ++ l) all) (at_drop_more (map lin_of) items i d less ∙ ap (λ y. y ∷ map lin_of (drop (i + 1) items)) (sym is)) h)

pub next_small : (items : List Wide) (i : ℕ) → i < length items → are_cuts (map lin_of (drop i items)) ≡ true → are_cuts (map lin_of (drop (i + 1) items)) ≡ true
next_small items i less h =
    let d : Wide = record { base = Fixed; off = pos 0 } in
    (and_parts (is_cut (lin_of (get_or items i d))) (are_cuts (map lin_of (drop (i + 1) items))) (sym (at_drop_more (λ l. are_cuts (map lin_of l)) items i d less) ∙ h)).1

-- ---- each once

not_has : (ks : List ℤ) (k : ℤ) → AllByRecursion (λ y. int_eq k y ≡ false) ks → Has ks k → ⊥
not_has [] k h c = c
not_has (x ∷ xs) k h (inl e) = both_ways (int_eq k x) h.0 ((Decides-int_eq k x).1 (sym e))
not_has (x ∷ xs) k h (inr c) = not_has xs k h.1 c

apart_lins : (b : Base) (ks : List ℤ) → IsDistinct int_eq ks → AreApart (map (lin_at b) ks)
apart_lins b [] h = tt
apart_lins b (k ∷ ks) h = (λ c. twice (off_of b ks (lin_at b k) c), apart_lins b ks (IsDistinct-tail int_eq k ks h))
  where
    twice : (x : ℤ) × Contains ks x × (lin_at b x ≡ lin_at b k) → ⊥
    twice t = not_has ks k (IsDistinct-head int_eq k ks h) (has ks k (subst (λ y. Contains ks y) (ap (λ l. l.off) t.2) t.1))

apart_both : (xs ys : List Lin) → AreApart xs → AreApart ys → ((l : Lin) → Contains xs l → Contains ys l → ⊥) → AreApart (xs ++ ys)
apart_both [] ys h k apart = k
apart_both (x ∷ xs) ys h k apart = (
  λ c. elim (Contains-append_cases xs ys x c) [ inl d ↦ h.0 d | inr d ↦ apart x (contains (x ∷ xs) x (inl refl)) d ],
  apart_both xs ys h.1 k (λ l c d. apart l (Contains-append_right (x ∷ []) xs l c) d),
)

base_of : (b : Base) (ks : List ℤ) (l : Lin) → Contains (map (lin_at b) ks) l → l.base ≡ b
base_of b ks l c = let t = off_of b ks l c in sym (ap (λ x. x.base) t.2)

abbrev is_fixed : Base → Bool
is_fixed Fixed = true
is_fixed Param = false
is_fixed Var = false

pub listed_apart : (o : Offsets) (v : List Lin) → IsDistinct int_eq o.fixed.keys → IsDistinct int_eq o.moving.keys → v ≡ listed o → AreApart v
listed_apart o v f m is =
    subst AreApart (sym is)
    (apart_both (map (lin_at Fixed) o.fixed.keys) (map (lin_at Param) o.moving.keys) (apart_lins Fixed o.fixed.keys f) (apart_lins Param o.moving.keys m)
    (λ l c d. both_ways (is_fixed l.base) (ap is_fixed (base_of Param o.moving.keys l d)) (ap is_fixed (base_of Fixed o.fixed.keys l c))))

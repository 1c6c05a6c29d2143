-- Where no fault is found and no strip has a long name, each column of an end has a name.
use Rattle.std.proofs.Common.{◌≡◌, ℕ, zero, suc, ◌+◌, ◌-◌, ◌<◌, ◌≤◌, ℤ, pos, negsuc, ◌+ℤ◌, int_le, Bool, true, false, not, ◌&&◌, ◌||◌, nat_le, is_some, if◌then◌else◌, Option, Some, None, List, [], ◌∷◌, ◌++◌, length, refl, sym, ap, ◌∙◌, subst, arith}
use Rattle.std.proofs.lemmas.Bool.{and_parts, le-leb, leb-true, true≢false}
use Rattle.std.proofs.lemmas.Int.{ints}
use Rattle.std.proofs.Math.IntN.{+ℤ_idl}
use Rattle.std.proofs.lemmas.Slice.Eq.{bytes_eq-Decides}
use Rattle.pb_text.specs.declared.place.Place.{Place}
use Rattle.pb_text.specs.declared.place.Spot.{Spot}
use Rattle.pb_text.specs.declared.quantity.Quantity.TheVariants.{NameLength, Roles}
use Rattle.pb_strips_syntax.specs.declared.tree.Col.{Col}
use Rattle.pb_strips_syntax.specs.declared.tree.StripEnd.{StripEnd}
use Rattle.pb_strips_syntax.specs.declared.tree.StripRole.{StripRole}
use Rattle.pb_strips_syntax.specs.Columns.{Name, base_value, column_of, up_from, numbers}
use Rattle.pb_strips_syntax.specs.Flattening.{natural}
use Rattle.pb_strips_syntax.specs.Strips.{Strip, message, foreach, loop, again, choice, compute, barrier, broadcast, reduce, allreduce, columns, Strips, nothing, more, StripBranches, no_branch, branch, PlainStripFile}
use Rattle.pb_strips_faults.specs.declared.site.Around.{Around}
use Rattle.pb_strips_faults.specs.declared.site.EndSite.{EndSite}
use Rattle.pb_strips_faults.specs.Sites.{site, around_by, sites_at, sites_in, sites_among}
use Rattle.pb_strips_faults.specs.Faults.{same, place_if, is_wide, is_narrow, width, columns_at, differ, plain, unless_variable, variable_of, variable, is_within, leads_out, base_is_out, is_out, column}
use Rattle.pb_strips_faults.specs.Found.{first, HasNoFault}
use Rattle.pb_strips_flatten.specs.Excess.{first_of, passing, first_long}
use Rattle.pb_strips_flatten.specs.Parts.{EndIn, Fits, AllFit, ends_for, ends_at, ends_in, ends_among}
use Rattle.pb_strips_flatten.specs.Halts.{IsNarrow, AreNarrow, role_excess}
use Rattle.pb_strips_flatten.specs.RoleEnds.{Fit, RolesFit, ColumnsFit}
use Rattle.pb_strips_flatten.proofs.Fitting.{is_name, roles_fit}

-- ---- no place

by_not : (b : Bool) → not b ≡ false → b ≡ true
by_not true e = refl
by_not false e = sym e

not_there : (b : Bool) (p : Place) (rest : List Place) → first (place_if b p ++ rest) ≡ None → (b ≡ false) × (first rest ≡ None)
not_there true p rest e = absurd (grind arith)
not_there false p rest e = (refl, e)

none_there : (xs ys : List Place) → first (xs ++ ys) ≡ None → (first xs ≡ None) × (first ys ≡ None)
none_there [] ys e = (refl, e)
none_there (x ∷ xs) ys e = absurd (grind arith)

-- ---- roles

is_sound : (ends : Option (ℕ × ℕ)) → is_wide ends ≡ false → IsNarrow ends
is_sound None e = tt
is_sound (Some ends) e =
    let both = and_parts (nat_le ends.0 ends.1) (nat_le ends.1 63) (by_not (is_narrow ends) e) in
    leb-true ends.1 63 both.1

pub are_narrow : (roles : List StripRole) → first (width roles) ≡ None → AreNarrow roles
are_narrow [] e = tt
are_narrow (r ∷ rs) e =
    let both = not_there (is_wide r.columns) r.role.place (width rs) e in
    (is_sound r.columns both.0, are_narrow rs both.1)

-- what a declared strip has
record IsStrip (x : Name) (ends : ℕ × ℕ) : Type 0 where
  short : length x ≤ 60
  narrow : ends.1 ≤ 63

declared : (roles : List StripRole) (x : Name) (ends : ℕ × ℕ) → RolesFit roles → columns_at roles x ≡ Some ends → IsStrip x ends
declared [] x ends fits e = absurd (grind arith)
declared (r ∷ rs) x ends fits e = at (same r.role.name x) refl (λ later. declared rs x ends fits.1 later) e
  where
    at : (b : Bool) → same r.role.name x ≡ b → (columns_at rs x ≡ Some ends → IsStrip x ends) → (if b then r.columns else columns_at rs x) ≡ Some ends → IsStrip x ends
    at true s later e =
        let fit : Fit r.role ends.1 = subst (λ (o : Option (ℕ × ℕ)). ColumnsFit r.role o) e fits.0 in
        let alike : length r.role.name ≡ length x = ap length ((bytes_eq-Decides r.role.name x).0 s) in
        record { short = omega (arith, fit.short, alike); narrow = fit.narrow }
    at false s later e = later e

-- ---- an end

-- nothing is wrong with an end
record IsSound (roles : List StripRole) (e : EndSite) : Type 0 where
  placed : differ (is_some (columns_at roles e.role.name)) (is_some e.col) ≡ false
  bound : first (variable_of e.around e.col) ≡ None
  within : is_out (columns_at roles e.role.name) e.col e.around ≡ false

abbrev AreSound : List StripRole → List EndSite → Type 0
AreSound roles [] = Unit {0}
AreSound roles (e ∷ es) = IsSound roles e × AreSound roles es

are_sound : (roles : List StripRole) (es : List EndSite) → first (plain roles es) ≡ None → first (variable es) ≡ None → first (column roles es) ≡ None → AreSound roles es
are_sound roles [] p v c = tt
are_sound roles (e ∷ es) p v c =
    let placed = not_there (differ (is_some (columns_at roles e.role.name)) (is_some e.col)) e.role.place (plain roles es) p in
    let bound = none_there (variable_of e.around e.col) (variable es) v in
    let within = not_there (is_out (columns_at roles e.role.name) e.col e.around) e.role.place (column roles es) c in
    (record { placed = placed.0; bound = bound.0; within = within.0 }, are_sound roles es placed.1 bound.1 within.1)

sound_both : (roles : List StripRole) (a b : List EndSite) → AreSound roles (a ++ b) → AreSound roles a × AreSound roles b
sound_both roles [] b h = (tt, h)
sound_both roles (e ∷ a) b h =
    let rest = sound_both roles a b h.1 in
    ((h.0, rest.0), rest.1)

-- a copy of what stands in such a `columns`
abbrev IsCopy : Option Around → Option ℕ → Type 0
IsCopy None None = Unit {0}
IsCopy None (Some c) = ⊥
IsCopy (Some a) None = ⊥
IsCopy (Some a) (Some c) = (a.low ≤ c) × (c ≤ a.high)

neither : (a b : Bool) → (a || b) ≡ false → (a ≡ false) × (b ≡ false)
neither true b e = absurd (true≢false e)
neither false b e = (refl, e)

inside : (ends : ℕ × ℕ) (off : ℤ) (n low k : ℕ) → leads_out ends off (up_from low n) ≡ false → k < n → is_within ends (pos (low + k) +ℤ off) ≡ true
inside ends off zero low k e h = absurd (omega (arith, h))
inside ends off (suc n) low zero e h =
    let same : low ≡ low + 0 = omega arith in
    subst (λ (c : ℕ). is_within ends (pos c +ℤ off) ≡ true) same (by_not (is_within ends (pos low +ℤ off)) (neither _ _ e).0)
inside ends off (suc n) low (suc k) e h =
    let same : suc low + k ≡ low + suc k = omega arith in
    subst (λ (c : ℕ). is_within ends (pos c +ℤ off) ≡ true) same (inside ends off n (suc low) k (neither (not (is_within ends (pos low +ℤ off))) _ e).1 (omega (arith, h)))

within_copies : (ends : ℕ × ℕ) (off : ℤ) (low high c : ℕ) → leads_out ends off (numbers low high) ≡ false → low ≤ c → c ≤ high → is_within ends (pos c +ℤ off) ≡ true
within_copies ends off low high c e l h =
    let same : low + (c - low) ≡ c = omega (arith, l) in
    subst (λ (d : ℕ). is_within ends (pos d +ℤ off) ≡ true) same (inside ends off (suc high - low) low (c - low) e (omega (arith, l, h)))

has_copies : (low high : ℕ) (b : Bool) → low ≤ high → (nat_le low high && not b) ≡ false → b ≡ true
has_copies low high b h e = by_not b (ap (λ (t : Bool). t && not b) (sym (le-leb low high h)) ∙ e)

without_variable : (ends : ℕ × ℕ) (off : ℤ) → is_within ends off ≡ true → is_within ends (pos 0 +ℤ off) ≡ true
without_variable ends off h = subst (λ (c : ℤ). is_within ends c ≡ true) (sym (+ℤ_idl off)) h

column_within : (ends : ℕ × ℕ) (off : ℤ) (around : Option Around) (v : Option ℕ) (var : Option Spot) → IsCopy around v → first (unless_variable around var) ≡ None →
    base_is_out ends off around var ≡ false → is_within ends (base_value var v +ℤ off) ≡ true
column_within ends off None None None copy b e = without_variable ends off (by_not (is_within ends off) e)
column_within ends off None None (Some x) copy b e = absurd (let z : Some x.place ≡ None = b in grind arith)
column_within ends off None (Some c) var copy b e = absurd copy
column_within ends off (Some a) None var copy b e = absurd copy
column_within ends off (Some a) (Some c) None copy b e = without_variable ends off (has_copies a.low a.high (is_within ends off) (omega (arith, copy.0, copy.1)) e)
column_within ends off (Some a) (Some c) (Some x) copy b e = within_copies ends off a.low a.high c e copy.0 copy.1

at_most : (c : ℤ) (high : ℕ) → int_le c (pos high) ≡ true → natural c ≤ high
at_most (pos n) high e = omega (arith, ints, e)
at_most (negsuc n) high e = omega arith

col_fits : (roles : List StripRole) (around : Option Around) (v : Option ℕ) (role : Spot) (col : Option Col) → RolesFit roles → IsCopy around v →
    differ (is_some (columns_at roles role.name)) (is_some col) ≡ false → first (variable_of around col) ≡ None → is_out (columns_at roles role.name) col around ≡ false → Fits role col v
col_fits roles around v role None fits copy p b w = tt
col_fits roles around v role (Some col) fits copy p b w = by_ends (columns_at roles role.name) refl p w
  where
    by_ends : (o : Option (ℕ × ℕ)) → columns_at roles role.name ≡ o → differ (is_some o) true ≡ false → is_out o (Some col) around ≡ false → Fits role (Some col) v
    by_ends None is p w = absurd (true≢false p)
    by_ends (Some ends) is p w =
        let strip = declared roles role.name ends fits is in
        let within = column_within ends col.off around v col.var copy b w in
        let c = column_of col v in
        let last = at_most c ends.1 (and_parts (int_le (pos ends.0) c) (int_le c (pos ends.1)) within).1 in
        is_name role.name (natural c) strip.short (omega (arith, last, strip.narrow))

end_fits : (roles : List StripRole) (around : Option Around) (v : Option ℕ) (e : StripEnd) → RolesFit roles → IsCopy around v → IsSound roles (site around e) → Fits e.role e.col v
end_fits roles around v e fits copy h = col_fits roles around v e.role e.col fits copy h.placed h.bound h.within

-- ---- copies

both_fit : (a b : List EndIn) → AllFit a → AllFit b → AllFit (a ++ b)
both_fit [] b x y = y
both_fit (e ∷ a) b x y = (x.0, both_fit a b x.1 y)

each_fits : (f : Option ℕ → List EndIn) (n c : ℕ) → ((k : ℕ) → k < n → AllFit (f (Some (c + k)))) → AllFit (ends_for (up_from c n) f)
each_fits f zero c h = tt
each_fits f (suc n) c h =
    let first : c + 0 ≡ c = omega arith in
    both_fit (f (Some c)) (ends_for (up_from (suc c) n) f)
    (subst (λ (d : ℕ). AllFit (f (Some d))) first (h 0 (omega arith)))
    (each_fits f n (suc c) (λ k less.
    let later : c + suc k ≡ suc c + k = omega arith in
    subst (λ (d : ℕ). AllFit (f (Some d))) later (h (suc k) (omega (arith, less)))))

copies_fit : (f : Option ℕ → List EndIn) (low high : ℕ) → ((c : ℕ) → low ≤ c → c ≤ high → AllFit (f (Some c))) → AllFit (ends_for (numbers low high) f)
copies_fit f low high h = each_fits f (suc high - low) low (λ k less. h (low + k) (omega arith) (omega (arith, less)))

-- ---- statements

mutual
  at_fits : (roles : List StripRole) (fits : RolesFit roles) (s : Strip) (around : Option Around) (v : Option ℕ) → IsCopy around v → AreSound roles (sites_at around s) → AllFit (ends_at s v)
  at_fits roles fits (message label carries from to) around v copy h =
      (end_fits roles around v from fits copy h.0, (end_fits roles around v to fits copy h.1.0, tt))
  at_fits roles fits (foreach place var over at items) around v copy h = in_fits roles fits items around v copy h
  at_fits roles fits (loop place name at body) around v copy h = in_fits roles fits body around v copy h
  at_fits roles fits (again place name) around v copy h = tt
  at_fits roles fits (choice place kernel who branches) around v copy h = (end_fits roles around v who fits copy h.0, among_fits roles fits branches around v copy h.1)
  at_fits roles fits (compute place kernel who) around v copy h = (end_fits roles around v who fits copy h.0, tt)
  at_fits roles fits (barrier place) around v copy h = tt
  at_fits roles fits (broadcast place label carries from) around v copy h = (end_fits roles around v from fits copy h.0, tt)
  at_fits roles fits (reduce place label carries by to) around v copy h = (end_fits roles around v to fits copy h.0, tt)
  at_fits roles fits (allreduce place label carries by) around v copy h = tt
  at_fits roles fits (columns place var low high at body) around v copy h =
      copies_fit (λ c. ends_in body c) low high (λ c l m. in_fits roles fits body (around_by var low high) (Some c) (l, m) h)

  in_fits : (roles : List StripRole) (fits : RolesFit roles) (ss : Strips) (around : Option Around) (v : Option ℕ) → IsCopy around v → AreSound roles (sites_in around ss) → AllFit (ends_in ss v)
  in_fits roles fits nothing around v copy h = tt
  in_fits roles fits (more s rest) around v copy h =
      let both = sound_both roles (sites_at around s) (sites_in around rest) h in
      both_fit (ends_at s v) (ends_in rest v) (at_fits roles fits s around v copy both.0) (in_fits roles fits rest around v copy both.1)

  among_fits : (roles : List StripRole) (fits : RolesFit roles) (bs : StripBranches) (around : Option Around) (v : Option ℕ) → IsCopy around v → AreSound roles (sites_among around bs) → AllFit (ends_among bs v)
  among_fits roles fits no_branch around v copy h = tt
  among_fits roles fits (branch at first rest) around v copy h =
      let both = sound_both roles (sites_in around first) (sites_among around rest) h in
      both_fit (ends_in first v) (ends_among rest v) (in_fits roles fits first around v copy both.0) (among_fits roles fits rest around v copy both.1)

-- ---- a file

short_names : (long : Option Place) (many : Option Place) → first_of (passing NameLength long) (passing Roles many) ≡ None → long ≡ None
short_names None many e = refl
short_names (Some p) many e = absurd (grind arith)

pub all_named : (f : PlainStripFile) → HasNoFault f → role_excess f.roles ≡ None → AllFit (ends_in f.body.list None)
all_named f n none =
    in_fits f.roles (roles_fit f.roles (short_names (first_long f.roles) _ none) (are_narrow f.roles n.narrow)) f.body.list None None tt
    (are_sound f.roles (sites_in None f.body.list) n.in_columns n.bound n.within)

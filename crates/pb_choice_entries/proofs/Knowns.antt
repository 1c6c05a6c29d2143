-- Entries with labels that others have, too.
use Rattle.std.proofs.Common.{◌≡◌, ◌<◌, ◌+◌, ℕ, ℤ, Bool, true, false, not, if◌then◌else◌, List, [], drop, get_or, length, refl, sym, ◌∙◌}
use Rattle.std.proofs.lemmas.Bool.{false≢true}
use Rattle.pb_part_firsts.specs.declared.firsts.Entry.{Entry}
use Rattle.pb_choice_entries.specs.Clashes.{clash_any, clashes, is_label, lacks, lacks_label}
use Rattle.pb_choice_entries.proofs.Alikes.{all_step, no_clash}
use Rattle.pb_choice_entries.proofs.Closes.{Keeps, kept_any}

other_label : (b c : Bool) → (if b then true else c) ≡ false → not b ≡ true
other_label true c h = absurd (false≢true (sym h))
other_label false c h = refl

known_before : (b c : Bool) → (if b then true else c) ≡ false → c ≡ false
known_before true c h = absurd (false≢true (sym h))
known_before false c h = h

-- where the label isn't known with those up to here, none of them has it
pub known_step : (l : ℕ) (xs : List Entry) (i : ℕ) (d : Entry) (known next : Bool) → i < length xs → next ≡ (if is_label l (get_or xs i d).kind then true else known) →
    (known ≡ false → lacks l xs ≡ lacks l (drop i xs)) → next ≡ false → lacks l xs ≡ lacks l (drop (i + 1) xs)
known_step l xs i d known next lt e h n =
    let label = is_label l (get_or xs i d).kind in
    all_step (λ f. not (is_label l f.kind)) xs i d lt (other_label label known (sym e ∙ n)) (h (known_before label known (sym e ∙ n)))

abbrev pub IsNew : List Entry → Entry → Type 0
IsNew fs e = lacks_label e.kind fs ≡ true

pub known_alone : (es kept fs : List Entry) → Keeps (IsNew fs) es kept [] → (n : ℤ) (role : ℕ) (x : ℤ) → clashes kept fs n role x ≡ clashes es fs n role x
known_alone es kept fs k n role x = kept_any (IsNew fs) es kept k (λ e. clash_any fs e n role x) (λ e out. no_clash e e.kind fs n role x refl out)

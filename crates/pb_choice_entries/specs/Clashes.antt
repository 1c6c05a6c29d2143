-- What entries of a branch have to do with others: receives of one label, and of two sources.
use Rattle.std.specs.Prelude.{◌≡◌, ℕ, ℤ, pos, negsuc, ◌≤ℤ◌, Bool, true, false, not, ◌&&◌, ◌||◌, nat_eq, List}
use Rattle.std.specs.List.{list_any, list_all}
use Rattle.std.specs.Ordering.{int_eq}
use Rattle.pb_affine.specs.declared.lin.Base.{Base}
use Rattle.pb_affine.specs.declared.lin.Base.TheVariants.{Fixed, Param, Var}
use Rattle.pb_affine.specs.declared.lin.Lin.{Lin}
use Rattle.pb_affine.specs.Values.{value}
use Rattle.pb_part_areas.specs.declared.area.Area.{Area}
use Rattle.pb_part_areas.specs.Areas.{has, have}
use Rattle.pb_part_firsts.specs.declared.firsts.Entry.{Entry}
use Rattle.pb_part_firsts.specs.declared.firsts.Kind.{Kind}
use Rattle.pb_part_firsts.specs.declared.firsts.Kind.TheVariants.{Receive, Other, Again}
use Rattle.pb_part_firsts.specs.declared.firsts.Source.{Source}
use Rattle.pb_part_visits.specs.Visits.{is_small_off}
use Rattle.pb_choice_entries.specs.declared.pair.Pairing.{Pairing}
use Rattle.pb_choice_entries.specs.declared.pair.Pairing.TheVariants.{Sources, Labels}

abbrev pub is_receive : Kind → Bool
is_receive (Receive s l) = true
is_receive Other = false
is_receive Again = false

-- a rank finds first what is no receive
abbrev pub is_strange : Entry → ℤ → ℕ → ℤ → Bool
is_strange e n role x = not (is_receive e.kind) && has e.area n role x

abbrev pub strange : List Entry → ℤ → ℕ → ℤ → Bool
strange es n role x = list_any (λ e. is_strange e n role x) es

-- a receive of this label
abbrev pub is_label : ℕ → Kind → Bool
is_label l (Receive t k) = nat_eq l k
is_label l Other = false
is_label l Again = false

-- both are receives of one label
abbrev pub same_label : Kind → Kind → Bool
same_label (Receive s l) b = is_label l b
same_label Other b = false
same_label Again b = false

abbrev pub clash : Entry → Entry → ℤ → ℕ → ℤ → Bool
clash e f n role x = same_label e.kind f.kind && (has e.area n role x && has f.area n role x)

abbrev pub clash_any : List Entry → Entry → ℤ → ℕ → ℤ → Bool
clash_any fs e n role x = list_any (λ f. clash e f n role x) fs

abbrev pub clashes : List Entry → List Entry → ℤ → ℕ → ℤ → Bool
clashes es fs n role x = list_any (λ e. clash_any fs e n role x) es

abbrev pub same_base : Base → Base → Bool
same_base Fixed Fixed = true
same_base Param Param = true
same_base Var Var = true
same_base a b = false

-- a receive from this source as it is written, or no receive
abbrev pub is_sent_by : Source → Kind → Bool
is_sent_by a (Receive b l) = nat_eq a.role b.role && same_base a.at.base b.at.base && int_eq a.at.off b.at.off
is_sent_by a Other = true
is_sent_by a Again = true

abbrev pub are_sent_by : Source → List Entry → Bool
are_sent_by a es = list_all (λ e. is_sent_by a e.kind) es

-- no receive of this label
abbrev pub lacks : ℕ → List Entry → Bool
lacks l es = list_all (λ e. not (is_label l e.kind)) es

-- no receive of the label of this, if it is a receive
abbrev pub lacks_label : Kind → List Entry → Bool
lacks_label (Receive t l) es = lacks l es
lacks_label Other es = true
lacks_label Again es = true

-- at N = n the rank with index x has the same sender by both
abbrev pub agrees : Source → Source → ℤ → ℤ → Bool
agrees a b n x = nat_eq a.role b.role && int_eq (value a.at n x) (value b.at n x)

-- a receive from another sender than this
abbrev pub is_from_other : Source → Kind → ℤ → ℤ → Bool
is_from_other a (Receive b k) n x = not (agrees a b n x)
is_from_other a Other n x = false
is_from_other a Again n x = false

-- both are receives, and from two senders
abbrev pub are_apart : Kind → Kind → ℤ → ℤ → Bool
are_apart (Receive a l) b n x = is_from_other a b n x
are_apart Other b n x = false
are_apart Again b n x = false

abbrev pub fork_from : Area → Source → Entry → ℤ → ℕ → ℤ → Bool
fork_from area a f n role x = (has area n role x && has f.area n role x) && is_from_other a f.kind n x

abbrev pub fork : Entry → Entry → ℤ → ℕ → ℤ → Bool
fork e f n role x = (has e.area n role x && has f.area n role x) && are_apart e.kind f.kind n x

abbrev pub fork_any : List Entry → Entry → ℤ → ℕ → ℤ → Bool
fork_any fs e n role x = list_any (λ f. fork e f n role x) fs

abbrev pub forks : List Entry → List Entry → ℤ → ℕ → ℤ → Bool
forks es fs n role x = list_any (λ e. fork_any fs e n role x) es

-- a rank of both has two senders by them, or one label
abbrev pub pair : Pairing → Entry → Entry → ℤ → ℕ → ℤ → Bool
pair Sources e f n role x = fork e f n role x
pair Labels e f n role x = clash e f n role x

abbrev pub pair_any : Pairing → List Entry → Entry → ℤ → ℕ → ℤ → Bool
pair_any p fs e n role x = list_any (λ f. pair p e f n role x) fs

abbrev pub pairs : Pairing → List Entry → List Entry → ℤ → ℕ → ℤ → Bool
pairs p es fs n role x = list_any (λ e. pair_any p fs e n role x) es

-- the areas hold of what the test is true of besides the old ones, for the N from 0 on
pub record AddsWhere (old new : List Area) (test : ℤ → ℕ → ℤ → Bool) : Type 0 where
  pub is : (n : ℤ) (role : ℕ) (x : ℤ) → pos 0 ≤ℤ n → have new n role x ≡ have old n role x || test n role x

-- of the ranks of an area, this one holds of those at which two lins agree, if their offsets are small
pub record IsMeeting (area : Area) (a b : Lin) (met : Area) : Type 0 where
  pub is : (n : ℤ) (role : ℕ) (x : ℤ) → is_small_off a.off ≡ true → is_small_off b.off ≡ true → pos 0 ≤ℤ n → has area n role x ≡ true →
      has met n role x ≡ int_eq (value a n x) (value b n x)

-- the same of two sources
pub record IsAgreement (area : Area) (a b : Source) (met : Area) : Type 0 where
  pub is : (n : ℤ) (role : ℕ) (x : ℤ) → is_small_off a.at.off ≡ true → is_small_off b.at.off ≡ true → pos 0 ≤ℤ n → has area n role x ≡ true →
      has met n role x ≡ agrees a b n x

-- within 4,000,000 of zero
pub record IsLittle (x : ℤ) : Type 0 where
  pub low : negsuc 3999999 ≤ℤ x
  pub high : x ≤ℤ pos 4000000

-- the areas hold of what the test is true of, for the N from 0 on
pub record AreWhere (areas : List Area) (test : ℤ → ℕ → ℤ → Bool) : Type 0 where
  pub is : (n : ℤ) (role : ℕ) (x : ℤ) → pos 0 ≤ℤ n → have areas n role x ≡ test n role x

-- the number t, of N from 0 on, and a number that no N near 0 is
pub record IsNumber (g : ℤ) (t : ℕ) : Type 0 where
  pub is : pos t ≡ g
  pub small : pos t ≤ℤ pos 4000000

pub record IsNoNumber (g : ℤ) : Type 0 where
  pub none : (n : ℤ) → IsLittle g → pos 0 ≤ℤ n → int_eq n g ≡ false

-- the areas are of those that fork by the entries of a branch and those before or of the branch, and aren't mixed already
pub record AreSplit (here before : List Entry) (mixed split : List Area) : Type 0 where
  pub is : (n : ℤ) (role : ℕ) (x : ℤ) → pos 0 ≤ℤ n → have split n role x ≡ (forks here before n role x || forks here here n role x) && not (have mixed n role x)

-- No line of a text has a line feed within.
use Rattle.std.proofs.Common.{◌≡◌, ℕ, zero, suc, ◌+◌, ◌<◌, ℤ, pos, negsuc, Bool, true, false, not, ◌&&◌, ◌||◌, cond, if◌then◌else◌, List, [], ◌∷◌, ◌++◌, length, get_or, Option, Some, None, refl, sym, ap, ◌∙◌, arith, nat_eq, eqb-true}
use Rattle.std.specs.Prelude.{All, codes, decimal, nat_lt, ◌/◌, ◌%◌}
use Rattle.std.specs.Fmt.{signed_decimal, digits, digits_onto, digit_glyph}
use Rattle.std.specs.List.{list_all}
use Rattle.pb_affine.specs.declared.lin.Base.{Base}
use Rattle.pb_affine.specs.declared.lin.Base.TheVariants.{Fixed, Param, Var}
use Rattle.pb_affine.specs.declared.lin.Lin.{Lin}
use Rattle.pb_affine.specs.declared.guard.Guard.{Guard}
use Rattle.pb_syntax.specs.declared.tree.Payload.{Payload}
use Rattle.pb_syntax.specs.declared.tree.Payload.TheVariants.{Unit as NoWords, Int32, Uint32}
use Rattle.pb_syntax.specs.declared.tree.Op.{Op}
use Rattle.pb_syntax.specs.declared.tree.Op.TheVariants.{Min, Max, Sum}
use Rattle.pb_syntax.specs.declared.core_label.CoreLabel.{CoreLabel}
use Rattle.pb_syntax.specs.declared.core_label.CoreKernel.{CoreKernel}
use Rattle.pb_local.specs.declared.stmt.Peer.{Peer}
use Rattle.pb_local.specs.declared.tables.Role.{Role}
use Rattle.pb_local.specs.Layout.{is_same_lin}
use Rattle.pb_local.specs.Names.{is_letter, is_digit, is_word, is_keyword, is_name}
use Rattle.pb_local.specs.Pieces as P
use Rattle.pb_local.specs.Ranks as R
use Rattle.pb_local.specs.Tables.{role_at, label_at, kernel_at}
use Rattle.pb_local.specs.Tree.{Program}
use Rattle.pb_cread_lines.specs.Head.{HasHead}
use Rattle.pb_ctree.specs.Lines.{Item, raw, close, else_open, if_open, else_if_open, for_open, own_is, loop_open, goto, makes, root_makes, takes, root_takes, mpi_send, mpi_recv, mpi_barrier, mpi_bcast, mpi_reduce, mpi_allreduce, calls, chooses, probe, test_open, else_test_open, picks, aborts, pick_open, else_pick_open, test_text, item_text}
use Rattle.pb_ctree.specs.Small.{offset_text, based_text, lin_text, index_text, from_text, to_text, guard_text, others_text, cond_text, peer_text, root_text, sum_text, Side, outgoing, incoming, buffer_text, type_text, count_of, payload_of, words_text, call_text, op_text, reduced_text}
use Rattle.pb_cread_rows.proofs.Again.{and_left, and_right}

-- no line feed is there
abbrev pub clean : List ℕ → Bool
clean [] = true
clean (c ∷ cs) = not (nat_eq c 10) && clean cs

pub both : (a b : List ℕ) → clean a ≡ true → clean b ≡ true → clean (a ++ b) ≡ true
both [] b e f = f
both (c ∷ cs) b e f = at (not (nat_eq c 10)) e (λ g. both cs b g f) where
  at : (t : Bool) → (t && clean cs) ≡ true → (clean cs ≡ true → clean (cs ++ b) ≡ true) → (t && clean (cs ++ b)) ≡ true
  at true e more = more e
  at false e more = e

-- ---- numbers

not_ten : (n : ℕ) → 10 < n → not (nat_eq n 10) ≡ true
not_ten n less = at (nat_eq n 10) refl where
  at : (b : Bool) → nat_eq n 10 ≡ b → not b ≡ true
  at true e = let f : n ≡ 10 = eqb-true n 10 e in absurd (omega (arith, f, less))
  at false e = refl

glyph_at : (b : Bool) (d : ℕ) → not (nat_eq (if b then 48 + d else 87 + d) 10) ≡ true
glyph_at true d = not_ten (48 + d) (omega arith)
glyph_at false d = not_ten (87 + d) (omega arith)

glyph : (d : ℕ) → not (nat_eq (digit_glyph false d) 10) ≡ true
glyph d = glyph_at (nat_lt d 10) d

onto : (k n : ℕ) (acc : List ℕ) → clean acc ≡ true → clean (digits_onto k 10 false n acc) ≡ true
onto zero n acc e = e
onto (suc k) n acc e =
    let more : clean (digit_glyph false (n % 10) ∷ acc) ≡ true = ap (λ b. b && clean acc) (glyph (n % 10)) ∙ e in
    at _ more (onto k (n / 10) (digit_glyph false (n % 10) ∷ acc) more) where
      at : (b : Bool) → clean (digit_glyph false (n % 10) ∷ acc) ≡ true → clean (digits_onto k 10 false (n / 10) (digit_glyph false (n % 10) ∷ acc)) ≡ true
          → clean (if b then digit_glyph false (n % 10) ∷ acc else digits_onto k 10 false (n / 10) (digit_glyph false (n % 10) ∷ acc)) ≡ true
      at true one more = one
      at false one more = more

pub number : (n : ℕ) → clean (decimal n) ≡ true
unfolding digits
number n = onto 64 n [] refl

pub signed : (z : ℤ) → clean (signed_decimal z) ≡ true
signed (pos n) = number n
signed (negsuc n) = number (suc n)

offset : (z : ℤ) → clean (offset_text z) ≡ true
offset (pos n) = at (nat_eq n 0) where
  at : (b : Bool) → clean (cond b [] (codes " + " ++ decimal n)) ≡ true
  at true = refl
  at false = number n
offset (negsuc n) = number (n + 1)

based : (b : Base) (z : ℤ) → clean (based_text b z) ≡ true
based Fixed z = signed z
based Param z = offset z
based Var z = offset z

pub lin : (l : Lin) → clean (lin_text l) ≡ true
lin l = based l.base l.off

pub sum : (f : R.Sum) → clean (sum_text f) ≡ true
sum f = both (signed_decimal f.a) _ (signed f.a) (both (signed_decimal f.b) _ (signed f.b) refl)

-- ---- guards

index : (low high : Option Lin) → clean (index_text low high) ≡ true
index None None = refl
index (Some low) None = lin low
index None (Some high) = lin high
index (Some low) (Some high) = at (is_same_lin low high) where
  at : (b : Bool) → clean (if b then codes " && I == " ++ lin_text low else P.joined (codes " && I >= " ∷ lin_text low ∷ codes " && I <= " ∷ lin_text high ∷ [])) ≡ true
  at true = lin low
  at false = both (lin_text low) _ (lin low) (both (lin_text high) _ (lin high) refl)

from_clean : (n : Option ℕ) → clean (from_text n) ≡ true
from_clean None = refl
from_clean (Some n) = number n

to_clean : (n : Option ℕ) → clean (to_text n) ≡ true
to_clean None = refl
to_clean (Some n) = number n

guard : (g : Guard) → clean (guard_text g) ≡ true
guard g = both (decimal g.role) _ (number g.role) (both (index_text g.low g.high) _ (index g.low g.high) (both (from_text g.from) _ (from_clean g.from) (both (to_text g.to) _ (to_clean g.to) refl)))

others : (gs : List Guard) → clean (others_text gs) ≡ true
others [] = refl
others (g ∷ gs) = both (guard_text g) _ (guard g) (both (others_text gs) _ (others gs) refl)

pub guards : (gs : List Guard) → clean (cond_text gs) ≡ true
guards [] = refl
guards (g ∷ []) = guard g
guards (g ∷ h ∷ gs) = both (guard_text g) _ (guard g) (both (others_text (h ∷ gs)) _ (others (h ∷ gs)) refl)

-- ---- names

no_feed : (f : ℕ → Bool) (c : ℕ) → f 10 ≡ false → f c ≡ true → not (nat_eq c 10) ≡ true
no_feed f c none is = at (nat_eq c 10) refl where
  at : (b : Bool) → nat_eq c 10 ≡ b → not b ≡ true
  at true e = absurd (differ (sym (ap f (eqb-true c 10 e) ∙ none) ∙ is)) where
    differ : false ≡ true → ⊥
    differ e = cc
  at false e = refl

abbrev goes_on : ℕ → Bool
goes_on d = is_letter d || is_digit d

all_clean : (cs : List ℕ) → list_all (λ d. is_letter d || is_digit d) cs ≡ true → clean cs ≡ true
all_clean [] e = refl
all_clean (c ∷ cs) e =
    ap (λ b. b && clean cs) (no_feed goes_on c refl (and_left (is_letter c || is_digit c) (list_all (λ d. is_letter d || is_digit d) cs) e))
    ∙ all_clean cs (and_right (is_letter c || is_digit c) (list_all (λ d. is_letter d || is_digit d) cs) e)

word : (w : List ℕ) → is_word w ≡ true → clean w ≡ true
word [] e = refl
word (c ∷ cs) e =
    ap (λ b. b && clean cs) (no_feed is_letter c refl (and_left (is_letter c) (list_all (λ d. is_letter d || is_digit d) cs) e))
    ∙ all_clean cs (and_right (is_letter c) (list_all (λ d. is_letter d || is_digit d) cs) e)

pub name : (w : List ℕ) → is_name w ≡ true → clean w ≡ true
name w e = word w (and_left (is_word w) (nat_lt (length w) 65) (and_left (is_word w && nat_lt (length w) 65) (not (is_keyword w)) e))

row : {A : Type 0} (P : A → Type 0) (xs : List A) (k : ℕ) (d : A) → All P xs → P d → P (get_or xs k d)
row P [] k d all own = own
row P (x ∷ xs) zero d all own = all 0 x (omega arith)
row P (x ∷ xs) (suc k) d all own = row P xs k d (λ j e less. all (suc j) e (omega (arith, less))) own

-- all names of the tables
pub record Named (p : Program) : Type 0 where
  pub roles : (k : ℕ) → clean (role_at p k).name ≡ true
  pub labels : (k : ℕ) → clean (label_at p k).name ≡ true
  pub kernels : (k : ℕ) → clean (kernel_at p k).name ≡ true

pub named : (p : Program) → HasHead p → Named p
named p h = record {
  roles = λ k. row (λ (r : Role). clean r.name ≡ true) p.roles k _ (λ j d less. name (get_or p.roles j d).name (h.roles.each j d less).name) refl;
  labels = λ k. row (λ (l : CoreLabel). clean l.name ≡ true) p.labels k _ (λ j d less. name (get_or p.labels j d).name (h.labels.each j d less).name) refl;
  kernels = λ k. row (λ (x : CoreKernel). clean x.name ≡ true) p.kernels k _ (λ j d less. name (get_or p.kernels j d).name (h.kernels.each j d less)) refl;
}

-- ---- lines of statements

pub peer : (p : Program) → Named p → (e : Peer) → clean (peer_text p e) ≡ true
peer p t e = both (role_at p e.role).name _ (t.roles e.role) (both (lin_text e.at) _ (lin e.at) refl)

root : (e : Peer) → clean (root_text e) ≡ true
root e = both (decimal e.role) _ (number e.role) (both (lin_text e.at) _ (lin e.at) refl)

buffer : (x : Payload) (side : Side) → clean (buffer_text x side) ≡ true
buffer (Int32 n) outgoing = refl
buffer (Int32 n) incoming = refl
buffer (Uint32 n) outgoing = refl
buffer (Uint32 n) incoming = refl
buffer NoWords outgoing = refl
buffer NoWords incoming = refl

kind_clean : (x : Payload) → clean (type_text x) ≡ true
kind_clean (Int32 n) = refl
kind_clean (Uint32 n) = refl
kind_clean NoWords = refl

words : (p : Program) (label : ℕ) (side : Side) → clean (words_text p label side) ≡ true
words p label side =
    let x = payload_of p label in
    both (buffer_text x side) _ (buffer x side) (both (decimal (count_of x)) _ (number (count_of x)) (both (type_text x) _ (kind_clean x) refl))

call : (p : Program) → Named p → (label : ℕ) (side : Side) → clean (call_text p label side) ≡ true
call p t label side = both (label_at p label).name _ (t.labels label) (both (buffer_text (payload_of p label) side) _ (buffer (payload_of p label) side) refl)

op_clean : (op : Op) → clean (op_text op) ≡ true
op_clean Min = refl
op_clean Max = refl
op_clean Sum = refl

reduced : (p : Program) (label : ℕ) (op : Op) → clean (reduced_text p label op) ≡ true
reduced p label op =
    let x = payload_of p label in
    both (buffer_text x outgoing) _ (buffer x outgoing) (both (words_text p label incoming) _ (words p label incoming) (both (op_text op) _ (op_clean op) refl))

test : (label : ℕ) (gs : List Guard) → clean (test_text label gs) ≡ true
test label gs = both (decimal label) _ (number label) (both (cond_text gs) _ (guards gs) refl)

-- a line of the frame is whole
abbrev pub IsStated : Item → Type 0
IsStated (raw text) = ⊥
IsStated other = Unit {0}

pub item : (p : Program) → Named p → (i : Item) → IsStated i → clean (item_text p i) ≡ true
item p t (raw text) s = absurd s
item p t close s = refl
item p t else_open s = refl
item p t (if_open gs) s = both (cond_text gs) _ (guards gs) refl
item p t (else_if_open gs) s = both (cond_text gs) _ (guards gs) refl
item p t (for_open low high) s = both (lin_text low) _ (lin low) (both (lin_text high) _ (lin high) refl)
item p t (own_is off) s = both (offset_text off) _ (offset off) refl
item p t (loop_open id) s = both (decimal id) _ (number id) refl
item p t (goto id) s = both (decimal id) _ (number id) refl
item p t (makes label) s = call p t label outgoing
item p t (root_makes e label) s = both (root_text e) _ (root e) (both (call_text p label outgoing) _ (call p t label outgoing) refl)
item p t (takes label side) s = call p t label side
item p t (root_takes e label) s = both (root_text e) _ (root e) (both (call_text p label incoming) _ (call p t label incoming) refl)
item p t (mpi_send label e) s = both (words_text p label outgoing) _ (words p label outgoing) (both (peer_text p e) _ (peer p t e) (both (decimal label) _ (number label) refl))
item p t (mpi_recv label e) s = both (words_text p label incoming) _ (words p label incoming) (both (peer_text p e) _ (peer p t e) (both (decimal label) _ (number label) refl))
item p t mpi_barrier s = refl
item p t (mpi_bcast label e) s = both (words_text p label outgoing) _ (words p label outgoing) (both (peer_text p e) _ (peer p t e) refl)
item p t (mpi_reduce label op e) s = both (reduced_text p label op) _ (reduced p label op) (both (peer_text p e) _ (peer p t e) refl)
item p t (mpi_allreduce label op) s = both (reduced_text p label op) _ (reduced p label op) refl
item p t (calls kernel) s = both (kernel_at p kernel).name _ (t.kernels kernel) refl
item p t (chooses kernel) s = both (kernel_at p kernel).name _ (t.kernels kernel) refl
item p t (probe e) s = both (peer_text p e) _ (peer p t e) refl
item p t (test_open label gs) s = test label gs
item p t (else_test_open label gs) s = test label gs
item p t (picks branch) s = both (decimal branch) _ (number branch) refl
item p t aborts s = refl
item p t (pick_open branch) s = both (decimal branch) _ (number branch) refl
item p t (else_pick_open branch) s = both (decimal branch) _ (number branch) refl

pub indented : (d : ℕ) (text : List ℕ) → clean text ≡ true → clean (P.indent d ++ text) ≡ true
indented zero text e = e
indented (suc d) text e = indented d text e

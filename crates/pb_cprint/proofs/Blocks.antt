-- Statements that hold others.
use Rattle.std.proofs.Common.{◌≡◌, ℕ, suc, zero, ◌+◌, ◌<◌, ◌≤◌, List, [], ◌∷◌, ◌++◌, length, map, drop, get_or, refl, Result, Ok, Err, ap, ◌∙◌, Bool, true, false, append_assoc, Vec, sym, drop-cons, add-one, drop_of_length-le, nat_eq, arith, rules, subst}
use Rattle.std.specs.Prelude.{OnOk, codes}
use Rattle.std.specs.Bool.{◌==◌}
use Rattle.std.proofs.lemmas.List.{length-append, drop_more}
use Rattle.std.specs.declared.alloc.Global.{Global}
use Rattle.pb_affine.specs.declared.lin.Lin.{Lin}
use Rattle.pb_affine.specs.declared.guard.Guard.{Guard}
use Rattle.pb_local.specs.declared.stmt.Peer.{Peer}
use Rattle.pb_local.specs.declared.stmt.Test.{Test}
use Rattle.pb_local.specs.declared.stmt.Relay.{Relay}
use Rattle.pb_local.specs.declared.stmt.Stmt.{Stmt}
use Rattle.pb_local.specs.declared.stmt.Stmt.TheVariants.{If, For, Loop, Choice}
use Rattle.pb_local.specs.Tree.{Program, Code, plain, plain_all, parts_of}
use Rattle.pb_ctree.specs.Lines.{Item, close, else_open, if_open, for_open, loop_open}
use Rattle.pb_cprint_lines.specs.Printed.{bytes}
use Rattle.pb_cprint.specs.Written.{written, written_all, written_other, written_parts, part_written, choice_written, branch_item, is_last}
use Rattle.pb_local.proofs.Plains.{when_plain, for_plain, loop_plain, choice_plain}
use Rattle.pb_cprint_lines.proofs.Steps.{onto}

-- three appendings, of which the last may fail
pub three : {X E : Type 0} (old a b now t1 t2 t3 : List ℕ) (r : Result X E) → a ≡ old ++ t1 → b ≡ a ++ t2 → OnOk r (now ≡ b ++ t3) → OnOk r (now ≡ old ++ (t1 ++ t2 ++ t3))
three old a b now t1 t2 t3 (Ok x) p q last = onto old b now (t1 ++ t2) t3 (onto old a b t1 t2 p q) last
three old a b now t1 t2 t3 (Err e) p q last = tt

pub along : {X E : Type 0} (old now s t : List ℕ) (r : Result X E) → s ≡ t → OnOk r (now ≡ old ++ s) → OnOk r (now ≡ old ++ t)
along old now s t (Ok x) e h = h ∙ ap (λ w. old ++ w) e
along old now s t (Err x) e h = tt

-- statements between a line and another text
inner_text : (p : Program) (d inner : ℕ) (front behind : List ℕ) (list items : List Stmt) → inner ≡ d + 1 → list ≡ items
    → front ++ written_all p inner (plain_all list) ++ behind ≡ front ++ written_all p (d + 1) (plain_all items) ++ behind
inner_text p d inner front behind list items deep is =
    ap (λ k. front ++ written_all p k (plain_all list) ++ behind) deep ∙ ap (λ l. front ++ written_all p (d + 1) (plain_all l) ++ behind) is

pub for_put : {X E : Type 0} (p : Program) (d inner : ℕ) (stmt : Stmt) (low high : Lin) (body : Vec Stmt Global) (list : List Stmt) (old a b now : List ℕ) (r : Result X E)
    → stmt ≡ For low high body → list ≡ body.items → inner ≡ d + 1
    → a ≡ old ++ bytes p d (for_open low high) → b ≡ a ++ written_all p inner (plain_all list) → OnOk r (now ≡ b ++ bytes p d close)
    → OnOk r (now ≡ old ++ written p d (plain stmt))
for_put p d inner stmt low high body list old a b now r is list_is deep first second last =
    along old now _ _ r
    (inner_text p d inner (bytes p d (for_open low high)) (bytes p d close) list body.items deep list_is ∙ ap (λ c. written p d c) (sym (ap plain is ∙ for_plain low high body)))
    (three old a b now (bytes p d (for_open low high)) (written_all p inner (plain_all list)) (bytes p d close) r first second last)

pub loop_put : {X E : Type 0} (p : Program) (d inner : ℕ) (stmt : Stmt) (id : ℕ) (body : Vec Stmt Global) (list : List Stmt) (old a b now : List ℕ) (r : Result X E)
    → stmt ≡ Loop id body → list ≡ body.items → inner ≡ d + 1
    → a ≡ old ++ bytes p d (loop_open id) → b ≡ a ++ written_all p inner (plain_all list) → OnOk r (now ≡ b ++ bytes p d close)
    → OnOk r (now ≡ old ++ written p d (plain stmt))
loop_put p d inner stmt id body list old a b now r is list_is deep first second last =
    along old now _ _ r
    (inner_text p d inner (bytes p d (loop_open id)) (bytes p d close) list body.items deep list_is ∙ ap (λ c. written p d c) (sym (ap plain is ∙ loop_plain id body)))
    (three old a b now (bytes p d (loop_open id)) (written_all p inner (plain_all list)) (bytes p d close) r first second last)

pub when_put : {X E : Type 0} (p : Program) (d inner : ℕ) (stmt : Stmt) (guards gs : List Guard) (first_part other_part : Vec Stmt Global) (list others : List Stmt) (old a b now : List ℕ) (r : Result X E)
    → stmt ≡ If guards first_part other_part → gs ≡ guards → list ≡ first_part.items → others ≡ other_part.items → inner ≡ d + 1
    → a ≡ old ++ bytes p d (if_open gs) → b ≡ a ++ written_all p inner (plain_all list) → OnOk r (now ≡ b ++ written_other p d (plain_all others))
    → OnOk r (now ≡ old ++ written p d (plain stmt))
when_put p d inner stmt guards gs first_part other_part list others old a b now r is gs_is list_is others_is deep first second last =
    along old now _ _ r
    (inner_text p d inner (bytes p d (if_open gs)) (written_other p d (plain_all others)) list first_part.items deep list_is
    ∙ ap (λ g. bytes p d (if_open g) ++ written_all p (d + 1) (plain_all first_part.items) ++ written_other p d (plain_all others)) gs_is
    ∙ ap (λ l. bytes p d (if_open guards) ++ written_all p (d + 1) (plain_all first_part.items) ++ written_other p d (plain_all l)) others_is
    ∙ ap (λ c. written p d c) (sym (ap plain is ∙ when_plain guards first_part other_part)))
    (three old a b now (bytes p d (if_open gs)) (written_all p inner (plain_all list)) (written_other p d (plain_all others)) r first second last)

other_more : (p : Program) (d : ℕ) (list : List Stmt) → false ≡ (length list == 0)
    → bytes p d else_open ++ written_all p (d + 1) (plain_all list) ++ bytes p d close ≡ written_other p d (plain_all list)
other_more p d [] some = absurd cc
other_more p d (s ∷ ss) some = refl

pub other_put : {X E : Type 0} (p : Program) (d : ℕ) (list : List Stmt) (inner : ℕ) (old a b now : List ℕ) (r : Result X E) → inner ≡ d + 1 → false ≡ (length list == 0)
    → a ≡ old ++ bytes p d else_open → b ≡ a ++ written_all p inner (plain_all list) → OnOk r (now ≡ b ++ bytes p d close) → OnOk r (now ≡ old ++ written_other p d (plain_all list))
other_put p d list inner old a b now r deep some first second last =
    along old now _ _ r
    (inner_text p d inner (bytes p d else_open) (bytes p d close) list list deep refl ∙ other_more p d list some)
    (three old a b now (bytes p d else_open) (written_all p inner (plain_all list)) (bytes p d close) r first second last)

-- what one element more of a list adds to a text
pub one_round : {A : Type 0} (all : List A → List ℕ) (one : A → List ℕ) (xs : List A) (i : ℕ) (x : A) (out new start : List ℕ) → ((y : A) (ys : List A) → all (y ∷ ys) ≡ one y ++ all ys)
    → i < length xs → x ≡ get_or xs i x → new ≡ out ++ one x → out ++ all (drop i xs) ≡ start → new ++ all (drop (i + 1) xs) ≡ start
one_round all one xs i x out new start each less is put so_far =
    ap (λ w. w ++ all (drop (i + 1) xs)) put
    ∙ append_assoc out (one x) (all (drop (i + 1) xs))
    ∙ ap (λ w. out ++ w) (sym (each x (drop (i + 1) xs)))
    ∙ ap (λ w. out ++ all w) (sym (drop_more xs i x less ∙ ap (λ y. y ∷ drop (i + 1) xs) (sym is)))
    ∙ so_far

pub all_round : (p : Program) (d : ℕ) (list : List Stmt) (i : ℕ) (s : Stmt) (out new start : List ℕ) → i < length list → s ≡ get_or list i s → new ≡ out ++ written p d (plain s)
    → out ++ written_all p d (plain_all (drop i list)) ≡ start → new ++ written_all p d (plain_all (drop (i + 1) list)) ≡ start
all_round p d list i s out new start less is put so_far =
    one_round (λ ss. written_all p d (plain_all ss)) (λ s. written p d (plain s)) list i s out new start (λ t ts. refl) less is put so_far

pub part_put : {X E : Type 0} (p : Program) (d inner number : ℕ) (last : Bool) (list : List Stmt) (old a now : List ℕ) (r : Result X E) → inner ≡ d + 1 → a ≡ old ++ bytes p d (branch_item number last)
    → OnOk r (now ≡ a ++ written_all p inner (plain_all list)) → OnOk r (now ≡ old ++ part_written p d number last (plain_all list))
part_put p d inner number last list old a now (Ok x) deep first put =
    onto old a now (bytes p d (branch_item number last)) (written_all p inner (plain_all list)) first put ∙ ap (λ k. old ++ (bytes p d (branch_item number last) ++ written_all p k (plain_all list))) deep
part_put p d inner number last list old a now (Err e) deep first put = tt

-- ---- branches

abbrev pub plains : List (Vec Stmt Global) → List (List Code)
plains vs = map (λ v. map plain v.items) vs

pub last_is : (items : List (Vec Stmt Global)) (k : ℕ) → k < length items → nat_eq (k + 1) (length items) ≡ is_last (parts_of (plains (drop (k + 1) items)))
last_is [] k less = absurd (omega (arith, less))
last_is (v ∷ []) zero less = refl
last_is (v ∷ w ∷ vs) zero less = apart where
  apart : nat_eq (0 + 1) (suc (suc (length vs))) ≡ false
  apart = grind arith
last_is (v ∷ vs) (suc k) less =
    let same : suc (k + 1) ≡ suc k + 1 = omega arith in
    shift ∙ last_is vs k (omega (arith, less)) ∙ ap (λ n. is_last (parts_of (plains (drop n (v ∷ vs))))) same where
      shift : nat_eq (suc k + 1) (suc (length vs)) ≡ nat_eq (k + 1) (length vs)
      shift = grind arith

pub branch_round : (p : Program) (d k : ℕ) (items : List (Vec Stmt Global)) (v : Vec Stmt Global) (list : List Stmt) (last : Bool) (out now all : List ℕ)
    → k < length items → v ≡ get_or items k v → list ≡ v.items → last ≡ is_last (parts_of (plains (drop (k + 1) items)))
    → now ≡ out ++ part_written p d k last (plain_all list)
    → out ++ written_parts p d k (parts_of (plains (drop k items))) ≡ all → now ++ written_parts p d (k + 1) (parts_of (plains (drop (k + 1) items))) ≡ all
branch_round p d k items v list last out now all less is list_is last_was put so_far =
    let cut : drop k items ≡ v ∷ drop (k + 1) items = drop-cons items k v less ∙ ap (λ x. x ∷ drop (suc k) items) (sym is) ∙ ap (λ n. v ∷ drop n items) (sym (add-one k)) in
    let rest = written_parts p d (k + 1) (parts_of (plains (drop (k + 1) items))) in
    let here : now ≡ out ++ part_written p d k (is_last (parts_of (plains (drop (k + 1) items)))) (plain_all v.items) =
    put ∙ ap (λ l. out ++ part_written p d k l (plain_all list)) last_was ∙ ap (λ l. out ++ part_written p d k (is_last (parts_of (plains (drop (k + 1) items)))) (plain_all l)) list_is in
    ap (λ w. w ++ rest) here
    ∙ append_assoc out (part_written p d k (is_last (parts_of (plains (drop (k + 1) items)))) (plain_all v.items)) rest
    ∙ ap (λ l. out ++ written_parts p d k (parts_of (plains l))) (sym cut) ∙ so_far

pub not_shorter : (n : ℕ) (out now t : List ℕ) → now ≡ out ++ t → n ≤ length out → n ≤ length now
not_shorter n out now t is most = omega (arith, ap length is, length-append out t, most)

branches_put : {X E : Type 0} (p : Program) (d k : ℕ) (bs : List (Vec Stmt Global)) (mid out now : List ℕ) (r : Result X E) → length bs ≤ k
    → out ++ written_parts p d k (parts_of (plains (drop k bs))) ≡ mid ++ written_parts p d 0 (parts_of (plains bs))
    → OnOk r (now ≡ out ++ bytes p d close) → OnOk r (now ≡ mid ++ written_parts p d 0 (parts_of (plains bs)))
branches_put p d k bs mid out now (Ok x) all done last =
    let none : drop k bs ≡ [] = drop_of_length-le bs all in
    last ∙ (rw none at done)
branches_put p d k bs mid out now (Err e) all done last = tt

pub choice_put : {X E : Type 0} (p : Program) (d : ℕ) (stmt : Stmt) (who : Guard) (kernel : ℕ) (relays : Vec Relay Global) (from : Peer) (tests : Vec Test Global) (branches : Vec (Vec Stmt Global) Global)
    (rs : List Relay) (ts : List Test) (bs : List (Vec Stmt Global)) (k : ℕ) (old mid out now : List ℕ) (r : Result X E)
    → stmt ≡ Choice who kernel relays from tests branches → rs ≡ relays.items → ts ≡ tests.items → bs ≡ branches.items
    → mid ≡ old ++ choice_written p d who kernel rs from ts → length bs ≤ k
    → out ++ written_parts p d k (parts_of (plains (drop k bs))) ≡ mid ++ written_parts p d 0 (parts_of (plains bs))
    → OnOk r (now ≡ out ++ bytes p d close)
    → OnOk r (now ≡ old ++ written p d (plain stmt))
choice_put p d stmt who kernel relays from tests branches rs ts bs k old mid out now (Ok x) is rs_is ts_is bs_is first all done end_is =
    let last : now ≡ mid ++ written_parts p d 0 (parts_of (plains bs)) = branches_put p d k bs mid out now (let r : Result ℕ ℕ = Ok 0 in r) all done end_is in
    onto old mid now (choice_written p d who kernel rs from ts) (written_parts p d 0 (parts_of (plains bs))) first last
    ∙ ap (λ w. old ++ (choice_written p d who kernel w from ts ++ written_parts p d 0 (parts_of (plains bs)))) rs_is
    ∙ ap (λ w. old ++ (choice_written p d who kernel relays.items from w ++ written_parts p d 0 (parts_of (plains bs)))) ts_is
    ∙ ap (λ w. old ++ (choice_written p d who kernel relays.items from tests.items ++ written_parts p d 0 (parts_of (plains w)))) bs_is
    ∙ ap (λ c. old ++ written p d c) (sym (ap plain is ∙ choice_plain who kernel relays from tests branches))
choice_put p d stmt who kernel relays from tests branches rs ts bs k old mid out now (Err e) is rs_is ts_is bs_is first all done end_is = tt

-- Statements that hold others.
use Rattle.std.proofs.Common.{◌≡◌, ℕ, suc, ◌+◌, ◌<◌, ◌≤◌, List, [], ◌∷◌, ◌++◌, length, drop, get_or, refl, Result, Ok, Err, ap, ◌∙◌, Bool, false, append_assoc, Vec, sym, drop-cons, add-one, drop_of_length-le}
use Rattle.std.specs.Prelude.{OnOk}
use Rattle.std.specs.Bool.{◌==◌}
use Rattle.std.specs.declared.alloc.Global.{Global}
use Rattle.pb_syntax.specs.declared.tree.Op.{Op}
use Rattle.pb_affine.specs.declared.lin.Lin.{Lin}
use Rattle.pb_affine.specs.declared.guard.Guard.{Guard}
use Rattle.pb_local.specs.declared.stmt.Peer.{Peer}
use Rattle.pb_local.specs.declared.stmt.Test.{Test}
use Rattle.pb_local.specs.declared.stmt.Relay.{Relay}
use Rattle.pb_local.specs.declared.stmt.Stmt.{Stmt, fold-roll-Stmt}
use Rattle.pb_local.specs.declared.stmt.Stmt.TheVariants.{If, For, Loop, Choice, Broadcast, Reduce, rolls-Broadcast, rolls-Reduce}
use Rattle.pb_local.specs.declared.stmt.Stmt.TheOpen as Layer
use Rattle.pb_local.specs.Tree.{Program, Code, broadcast, reduce, layer, plain, plain_all, parts_of}
use Rattle.pb_ctree.specs.Lines.{close, else_open, if_open, for_open, loop_open}
use Rattle.pb_cprint_lines.specs.Printed.{bytes}
use Rattle.pb_cprint.specs.Written.{branch_item, is_last}
use Rattle.pb_cprint.proofs.Blocks.{three, along, one_round, plains}
use Rattle.pb_cprint_lines.proofs.Steps.{onto}
use Rattle.pb_local.proofs.Plains.{when_plain, for_plain, loop_plain, choice_plain}
use Rattle.pb_types.specs.declared.carried.Carried.{Carried}
use Rattle.pb_typed.specs.Pieces.{pieces_text}
use Rattle.pb_typed.specs.Statements.{typed, parts_in}
use Rattle.pb_typed_print.specs.Written.{choice_front, part_text}
use Rattle.pb_typed_print.proofs.Appended.{all_text, other_text, parts_text, for_text, loop_text, when_text, more_text, each_text, part_more, part_end, choice_text, parts_count}

-- what a statement is told by its plain tree
told_as : (p : Program) (t : List Carried) (d : ℕ) (stmt : Stmt) (s : Stmt) (c : Code) → stmt ≡ s → plain s ≡ c → pieces_text p (typed p t d c) ≡ pieces_text p (typed p t d (plain stmt))
told_as p t d stmt s c is plain_is = ap (λ k. pieces_text p (typed p t d k)) (sym (ap plain is ∙ plain_is))

pub broadcast_put : {X E : Type 0} (p : Program) (t : List Carried) (d : ℕ) (stmt : Stmt) (label : ℕ) (root : Peer) (old now : List ℕ) (r : Result X E) → stmt ≡ Broadcast label root
    → OnOk r (now ≡ old ++ pieces_text p (typed p t d (broadcast label root))) → OnOk r (now ≡ old ++ pieces_text p (typed p t d (plain stmt)))
broadcast_put p t d stmt label root old now r is put =
    along old now _ _ r
    (told_as p t d stmt (Broadcast label root) (broadcast label root) is (ap plain (sym (rolls-Broadcast label root)) ∙ fold-roll-Stmt Code layer (Layer.Broadcast label root))) put

pub reduce_put : {X E : Type 0} (p : Program) (t : List Carried) (d : ℕ) (stmt : Stmt) (label : ℕ) (op : Op) (root : Peer) (old now : List ℕ) (r : Result X E) → stmt ≡ Reduce label op root
    → OnOk r (now ≡ old ++ pieces_text p (typed p t d (reduce label op root))) → OnOk r (now ≡ old ++ pieces_text p (typed p t d (plain stmt)))
reduce_put p t d stmt label op root old now r is put =
    along old now _ _ r
    (told_as p t d stmt (Reduce label op root) (reduce label op root) is (ap plain (sym (rolls-Reduce label op root)) ∙ fold-roll-Stmt Code layer (Layer.Reduce label op root))) put

-- statements between a line and another text
inner_text : (p : Program) (t : List Carried) (d inner : ℕ) (front behind : List ℕ) (list items : List Stmt) → inner ≡ d + 1 → list ≡ items
    → front ++ all_text p t inner (plain_all list) ++ behind ≡ front ++ all_text p t (d + 1) (plain_all items) ++ behind
inner_text p t d inner front behind list items deep is =
    ap (λ k. front ++ all_text p t k (plain_all list) ++ behind) deep ∙ ap (λ l. front ++ all_text p t (d + 1) (plain_all l) ++ behind) is

pub for_put : {X E : Type 0} (p : Program) (t : List Carried) (d inner : ℕ) (stmt : Stmt) (low high : Lin) (body : Vec Stmt Global) (list : List Stmt) (old a b now : List ℕ) (r : Result X E)
    → stmt ≡ For low high body → list ≡ body.items → inner ≡ d + 1
    → a ≡ old ++ bytes p d (for_open low high) → b ≡ a ++ all_text p t inner (plain_all list) → OnOk r (now ≡ b ++ bytes p d close)
    → OnOk r (now ≡ old ++ pieces_text p (typed p t d (plain stmt)))
for_put p t d inner stmt low high body list old a b now r is list_is deep first second last =
    along old now _ _ r
    (inner_text p t d inner (bytes p d (for_open low high)) (bytes p d close) list body.items deep list_is
    ∙ for_text p t d low high (plain_all body.items)
    ∙ told_as p t d stmt (For low high body) _ is (for_plain low high body))
    (three old a b now (bytes p d (for_open low high)) (all_text p t inner (plain_all list)) (bytes p d close) r first second last)

pub loop_put : {X E : Type 0} (p : Program) (t : List Carried) (d inner : ℕ) (stmt : Stmt) (id : ℕ) (body : Vec Stmt Global) (list : List Stmt) (old a b now : List ℕ) (r : Result X E)
    → stmt ≡ Loop id body → list ≡ body.items → inner ≡ d + 1
    → a ≡ old ++ bytes p d (loop_open id) → b ≡ a ++ all_text p t inner (plain_all list) → OnOk r (now ≡ b ++ bytes p d close)
    → OnOk r (now ≡ old ++ pieces_text p (typed p t d (plain stmt)))
loop_put p t d inner stmt id body list old a b now r is list_is deep first second last =
    along old now _ _ r
    (inner_text p t d inner (bytes p d (loop_open id)) (bytes p d close) list body.items deep list_is
    ∙ loop_text p t d id (plain_all body.items)
    ∙ told_as p t d stmt (Loop id body) _ is (loop_plain id body))
    (three old a b now (bytes p d (loop_open id)) (all_text p t inner (plain_all list)) (bytes p d close) r first second last)

pub when_put : {X E : Type 0} (p : Program) (t : List Carried) (d inner : ℕ) (stmt : Stmt) (guards gs : List Guard) (first_part other_part : Vec Stmt Global) (list others : List Stmt) (old a b now : List ℕ) (r : Result X E)
    → stmt ≡ If guards first_part other_part → gs ≡ guards → list ≡ first_part.items → others ≡ other_part.items → inner ≡ d + 1
    → a ≡ old ++ bytes p d (if_open gs) → b ≡ a ++ all_text p t inner (plain_all list) → OnOk r (now ≡ b ++ other_text p t d (plain_all others))
    → OnOk r (now ≡ old ++ pieces_text p (typed p t d (plain stmt)))
when_put p t d inner stmt guards gs first_part other_part list others old a b now r is gs_is list_is others_is deep first second last =
    along old now _ _ r
    (inner_text p t d inner (bytes p d (if_open gs)) (other_text p t d (plain_all others)) list first_part.items deep list_is
    ∙ ap (λ g. bytes p d (if_open g) ++ all_text p t (d + 1) (plain_all first_part.items) ++ other_text p t d (plain_all others)) gs_is
    ∙ ap (λ l. bytes p d (if_open guards) ++ all_text p t (d + 1) (plain_all first_part.items) ++ other_text p t d (plain_all l)) others_is
    ∙ when_text p t d guards (plain_all first_part.items) (plain_all other_part.items)
    ∙ told_as p t d stmt (If guards first_part other_part) _ is (when_plain guards first_part other_part))
    (three old a b now (bytes p d (if_open gs)) (all_text p t inner (plain_all list)) (other_text p t d (plain_all others)) r first second last)

other_more : (p : Program) (t : List Carried) (d : ℕ) (list : List Stmt) → false ≡ (length list == 0)
    → bytes p d else_open ++ all_text p t (d + 1) (plain_all list) ++ bytes p d close ≡ other_text p t d (plain_all list)
other_more p t d [] some = absurd cc
other_more p t d (s ∷ ss) some = more_text p t d (plain s) (plain_all ss)

pub other_put : {X E : Type 0} (p : Program) (t : List Carried) (d : ℕ) (list : List Stmt) (inner : ℕ) (old a b now : List ℕ) (r : Result X E) → inner ≡ d + 1 → false ≡ (length list == 0)
    → a ≡ old ++ bytes p d else_open → b ≡ a ++ all_text p t inner (plain_all list) → OnOk r (now ≡ b ++ bytes p d close) → OnOk r (now ≡ old ++ other_text p t d (plain_all list))
other_put p t d list inner old a b now r deep some first second last =
    along old now _ _ r
    (inner_text p t d inner (bytes p d else_open) (bytes p d close) list list deep refl ∙ other_more p t d list some)
    (three old a b now (bytes p d else_open) (all_text p t inner (plain_all list)) (bytes p d close) r first second last)

pub all_round : (p : Program) (t : List Carried) (d : ℕ) (list : List Stmt) (i : ℕ) (s : Stmt) (out new start : List ℕ) → i < length list → s ≡ get_or list i s → new ≡ out ++ pieces_text p (typed p t d (plain s))
    → out ++ all_text p t d (plain_all (drop i list)) ≡ start → new ++ all_text p t d (plain_all (drop (i + 1) list)) ≡ start
all_round p t d list i s out new start less is put so_far =
    one_round (λ ss. all_text p t d (plain_all ss)) (λ s. pieces_text p (typed p t d (plain s))) list i s out new start (λ x xs. each_text p t d (plain x) (plain_all xs)) less is put so_far

pub part_put : {X E : Type 0} (p : Program) (t : List Carried) (d inner number : ℕ) (last : Bool) (list : List Stmt) (old a now : List ℕ) (r : Result X E) → inner ≡ d + 1 → a ≡ old ++ bytes p d (branch_item number last)
    → OnOk r (now ≡ a ++ all_text p t inner (plain_all list)) → OnOk r (now ≡ old ++ part_text p t d number last (plain_all list))
part_put p t d inner number last list old a now (Ok x) deep first put =
    onto old a now (bytes p d (branch_item number last)) (all_text p t inner (plain_all list)) first put ∙ ap (λ k. old ++ (bytes p d (branch_item number last) ++ all_text p t k (plain_all list))) deep
part_put p t d inner number last list old a now (Err e) deep first put = tt

-- ---- branches

pub branch_round : (p : Program) (t : List Carried) (d k : ℕ) (items : List (Vec Stmt Global)) (v : Vec Stmt Global) (list : List Stmt) (last : Bool) (out now all : List ℕ)
    → k < length items → v ≡ get_or items k v → list ≡ v.items → last ≡ is_last (parts_of (plains (drop (k + 1) items)))
    → now ≡ out ++ part_text p t d k last (plain_all list)
    → out ++ parts_text p t d k (parts_of (plains (drop k items))) ≡ all → now ++ parts_text p t d (k + 1) (parts_of (plains (drop (k + 1) items))) ≡ all
branch_round p t d k items v list last out now all less is list_is last_was put so_far =
    let cut : drop k items ≡ v ∷ drop (k + 1) items = drop-cons items k v less ∙ ap (λ x. x ∷ drop (suc k) items) (sym is) ∙ ap (λ n. v ∷ drop n items) (sym (add-one k)) in
    let behind = parts_of (plains (drop (k + 1) items)) in
    let rest = parts_text p t d (k + 1) behind in
    let here : now ≡ out ++ part_text p t d k (is_last behind) (plain_all v.items) =
    put ∙ ap (λ l. out ++ part_text p t d k l (plain_all list)) last_was ∙ ap (λ l. out ++ part_text p t d k (is_last behind) (plain_all l)) list_is in
    ap (λ w. w ++ rest) here
    ∙ append_assoc out (part_text p t d k (is_last behind) (plain_all v.items)) rest
    ∙ ap (λ w. out ++ w) (part_more p t d k (plain_all v.items) behind)
    ∙ ap (λ l. out ++ parts_text p t d k (parts_of (plains l))) (sym cut) ∙ so_far

branches_put : {X E : Type 0} (p : Program) (t : List Carried) (d k : ℕ) (bs : List (Vec Stmt Global)) (mid out now : List ℕ) (r : Result X E) → length bs ≤ k
    → out ++ parts_text p t d k (parts_of (plains (drop k bs))) ≡ mid ++ parts_text p t d 0 (parts_of (plains bs))
    → OnOk r (now ≡ out ++ bytes p d close) → OnOk r (now ≡ mid ++ parts_text p t d 0 (parts_of (plains bs)))
branches_put p t d k bs mid out now (Ok x) all done last =
    let none : drop k bs ≡ [] = drop_of_length-le bs all in
    last ∙ ap (λ w. out ++ w) (part_end p t d k) ∙ (rw none at done)
branches_put p t d k bs mid out now (Err e) all done last = tt

pub choice_put : {X E : Type 0} (p : Program) (t : List Carried) (d : ℕ) (stmt : Stmt) (who : Guard) (kernel : ℕ) (relays : Vec Relay Global) (from : Peer) (tests : Vec Test Global) (branches : Vec (Vec Stmt Global) Global)
    (number : ℕ) (rs : List Relay) (ts : List Test) (bs : List (Vec Stmt Global)) (k : ℕ) (old mid out now : List ℕ) (r : Result X E)
    → stmt ≡ Choice who kernel relays from tests branches → number ≡ length branches.items → rs ≡ relays.items → ts ≡ tests.items → bs ≡ branches.items
    → mid ≡ old ++ choice_front p d who kernel number rs from ts → length bs ≤ k
    → out ++ parts_text p t d k (parts_of (plains (drop k bs))) ≡ mid ++ parts_text p t d 0 (parts_of (plains bs))
    → OnOk r (now ≡ out ++ bytes p d close)
    → OnOk r (now ≡ old ++ pieces_text p (typed p t d (plain stmt)))
choice_put p t d stmt who kernel relays from tests branches number rs ts bs k old mid out now (Ok x) is number_is rs_is ts_is bs_is first all done end_is =
    let last : now ≡ mid ++ parts_text p t d 0 (parts_of (plains bs)) = branches_put p t d k bs mid out now (let r : Result ℕ ℕ = Ok 0 in r) all done end_is in
    let count : number ≡ parts_in (parts_of (plains branches.items)) = number_is ∙ sym (parts_count branches.items) in
    onto old mid now (choice_front p d who kernel number rs from ts) (parts_text p t d 0 (parts_of (plains bs))) first last
    ∙ ap (λ w. old ++ (choice_front p d who kernel w rs from ts ++ parts_text p t d 0 (parts_of (plains bs)))) count
    ∙ ap (λ w. old ++ (choice_front p d who kernel (parts_in (parts_of (plains branches.items))) w from ts ++ parts_text p t d 0 (parts_of (plains bs)))) rs_is
    ∙ ap (λ w. old ++ (choice_front p d who kernel (parts_in (parts_of (plains branches.items))) relays.items from w ++ parts_text p t d 0 (parts_of (plains bs)))) ts_is
    ∙ ap (λ w. old ++ (choice_front p d who kernel (parts_in (parts_of (plains branches.items))) relays.items from tests.items ++ parts_text p t d 0 (parts_of (plains w)))) bs_is
    ∙ ap (λ w. old ++ w) (choice_text p t d who kernel relays.items from tests.items (parts_of (plains branches.items)))
    ∙ ap (λ w. old ++ w) (told_as p t d stmt (Choice who kernel relays from tests branches) _ is (choice_plain who kernel relays from tests branches))
choice_put p t d stmt who kernel relays from tests branches number rs ts bs k old mid out now (Err e) is number_is rs_is ts_is bs_is first all done end_is = tt

-- Layouts that take more than one line.
use Rattle.std.proofs.Common.{◌≡◌, ℕ, ◌+◌, List, [], ◌∷◌, ◌++◌, length, map, refl, Result, Ok, Err, ap, ◌∙◌, false, append_assoc, Vec, sym, drop, ◌≤◌, ◌<◌, drop_of_length-le, get_or}
use Rattle.std.specs.Prelude.{OnOk, codes}
use Rattle.std.specs.Bool.{◌==◌}
use Rattle.std.specs.declared.alloc.Global.{Global}
use Rattle.pb_affine.specs.declared.lin.Lin.{Lin}
use Rattle.pb_affine.specs.declared.guard.Guard.{Guard}
use Rattle.pb_local.specs.declared.stmt.Peer.{Peer}
use Rattle.pb_local.specs.declared.stmt.Test.{Test}
use Rattle.pb_local.specs.declared.stmt.Relay.{Relay}
use Rattle.pb_local.specs.declared.stmt.Stmt.{Stmt}
use Rattle.pb_local.specs.declared.stmt.Stmt.TheVariants.{If, For, Loop, Choice}
use Rattle.pb_local.specs.Layout.{statement, statements, else_part, choice_lines, branches_from, branch_part, when_line, for_line, loop_line, branch_line}
use Rattle.pb_local.specs.Pieces.{line}
use Rattle.pb_local.specs.Tree.{Program, plain, plain_all, parts_of}
use Rattle.pb_local.proofs.Steps.{one_more, text_step}
use Rattle.pb_local.proofs.Plains.{choice_plain, when_plain, for_plain, loop_plain}

-- one appending after another
pub onto : (x y z a b : List ℕ) → y ≡ x ++ a → z ≡ y ++ b → z ≡ x ++ (a ++ b)
onto x y z a b p q = q ∙ ap (λ w. w ++ b) p ∙ append_assoc x a b

else_more : (p : Program) (d : ℕ) (list : List Stmt) → false ≡ (length list == 0)
    → (line d (codes "else") ++ statements p (d + 1) (plain_all list)) ++ line d (codes "end") ≡ else_part p d (plain_all list)
else_more p d [] some = absurd cc
else_more p d (s ∷ ss) some = refl

pub else_put : {X E : Type 0} (p : Program) (d : ℕ) (list : List Stmt) (inner : ℕ) (old a b now : List ℕ) (r : Result X E) → inner ≡ d + 1 → false ≡ (length list == 0)
    → a ≡ old ++ line d (codes "else") → b ≡ a ++ statements p inner (plain_all list) → OnOk r (now ≡ b ++ line d (codes "end")) → OnOk r (now ≡ old ++ else_part p d (plain_all list))
else_put p d list inner old a b now (Ok x) deep some first second last =
    let second' : b ≡ a ++ statements p (d + 1) (plain_all list) = second ∙ ap (λ k. a ++ statements p k (plain_all list)) deep in
    onto old b now (line d (codes "else") ++ statements p (d + 1) (plain_all list)) (line d (codes "end")) (onto old a b (line d (codes "else")) (statements p (d + 1) (plain_all list)) first second') last
    ∙ ap (λ w. old ++ w) (else_more p d list some)
else_put p d list inner old a b now (Err e) deep some first second last = tt

-- the branches, once all are laid out
branches_put : {X E : Type 0} (p : Program) (d k : ℕ) (bs : List (Vec Stmt Global)) (mid out now : List ℕ) (r : Result X E) → length bs ≤ k
    → out ++ branches_from p d k (parts_of (map (λ v. map plain v.items) (drop k bs))) ≡ mid ++ branches_from p d 0 (parts_of (map (λ v. map plain v.items) bs))
    → OnOk r (now ≡ out ++ line d (codes "end")) → OnOk r (now ≡ mid ++ branches_from p d 0 (parts_of (map (λ v. map plain v.items) bs)))
branches_put p d k bs mid out now (Ok x) all done last =
    let none : drop k bs ≡ [] = drop_of_length-le bs all in
    last ∙ (rw none at done)
branches_put p d k bs mid out now (Err e) all done last = tt

pub choice_put : {X E : Type 0} (p : Program) (d : ℕ) (stmt : Stmt) (who : Guard) (kernel : ℕ) (relays : Vec Relay Global) (from : Peer) (tests : Vec Test Global) (branches : Vec (Vec Stmt Global) Global)
    (rs : List Relay) (ts : List Test) (bs : List (Vec Stmt Global)) (k : ℕ) (old mid out now : List ℕ) (r : Result X E)
    → stmt ≡ Choice who kernel relays from tests branches → rs ≡ relays.items → ts ≡ tests.items → bs ≡ branches.items
    → mid ≡ old ++ choice_lines p d who kernel rs ts → length bs ≤ k
    → out ++ branches_from p d k (parts_of (map (λ v. map plain v.items) (drop k bs))) ≡ mid ++ branches_from p d 0 (parts_of (map (λ v. map plain v.items) bs))
    → OnOk r (now ≡ out ++ line d (codes "end"))
    → OnOk r (now ≡ old ++ statement p d (plain stmt))
choice_put p d stmt who kernel relays from tests branches rs ts bs k old mid out now (Ok x) is rs_is ts_is bs_is first all done end_is =
    let last : now ≡ mid ++ branches_from p d 0 (parts_of (map (λ v. map plain v.items) bs)) = branches_put p d k bs mid out now (let r : Result ℕ ℕ = Ok 0 in r) all done end_is in
    onto old mid now (choice_lines p d who kernel rs ts) (branches_from p d 0 (parts_of (map (λ v. map plain v.items) bs))) first last
    ∙ ap (λ w. old ++ (choice_lines p d who kernel w ts ++ branches_from p d 0 (parts_of (map (λ v. map plain v.items) bs)))) rs_is
    ∙ ap (λ w. old ++ (choice_lines p d who kernel relays.items w ++ branches_from p d 0 (parts_of (map (λ v. map plain v.items) bs)))) ts_is
    ∙ ap (λ w. old ++ (choice_lines p d who kernel relays.items tests.items ++ branches_from p d 0 (parts_of (map (λ v. map plain v.items) w)))) bs_is
    ∙ ap (λ c. old ++ statement p d c) (sym (ap plain is ∙ choice_plain who kernel relays from tests branches))
choice_put p d stmt who kernel relays from tests branches rs ts bs k old mid out now (Err e) is rs_is ts_is bs_is first all done end_is = tt

pub when_put : {X E : Type 0} (p : Program) (d inner : ℕ) (stmt : Stmt) (guards gs : List Guard) (first other : Vec Stmt Global) (fs os : List Stmt) (old a b now : List ℕ) (r : Result X E)
    → stmt ≡ If guards first other → gs ≡ guards → fs ≡ first.items → os ≡ other.items → inner ≡ d + 1
    → a ≡ old ++ when_line p d gs → b ≡ a ++ statements p inner (plain_all fs) → OnOk r (now ≡ b ++ else_part p d (plain_all os))
    → OnOk r (now ≡ old ++ statement p d (plain stmt))
when_put p d inner stmt guards gs first other fs os old a b now (Ok x) is gs_is fs_is os_is deep is_a is_b last =
    onto old b now (when_line p d gs ++ statements p inner (plain_all fs)) (else_part p d (plain_all os)) (onto old a b (when_line p d gs) (statements p inner (plain_all fs)) is_a is_b) last
    ∙ ap (λ k. old ++ (when_line p d gs ++ statements p k (plain_all fs) ++ else_part p d (plain_all os))) deep
    ∙ ap (λ w. old ++ (when_line p d w ++ statements p (d + 1) (plain_all fs) ++ else_part p d (plain_all os))) gs_is
    ∙ ap (λ w. old ++ (when_line p d guards ++ statements p (d + 1) (plain_all w) ++ else_part p d (plain_all os))) fs_is
    ∙ ap (λ w. old ++ (when_line p d guards ++ statements p (d + 1) (plain_all first.items) ++ else_part p d (plain_all w))) os_is
    ∙ ap (λ c. old ++ statement p d c) (sym (ap plain is ∙ when_plain guards first other))
when_put p d inner stmt guards gs first other fs os old a b now (Err e) is gs_is fs_is os_is deep is_a is_b last = tt

-- a line, the statements inside it and the end
body_put : (p : Program) (d inner : ℕ) (list items : List Stmt) (first old a b now : List ℕ) → list ≡ items → inner ≡ d + 1 → a ≡ old ++ first → b ≡ a ++ statements p inner (plain_all list)
    → now ≡ b ++ line d (codes "end") → now ≡ old ++ (first ++ statements p (d + 1) (plain_all items) ++ line d (codes "end"))
body_put p d inner list items first old a b now same deep is_a is_b last =
    onto old b now (first ++ statements p inner (plain_all list)) (line d (codes "end")) (onto old a b first (statements p inner (plain_all list)) is_a is_b) last
    ∙ ap (λ k. old ++ (first ++ statements p k (plain_all list) ++ line d (codes "end"))) deep
    ∙ ap (λ w. old ++ (first ++ statements p (d + 1) (plain_all w) ++ line d (codes "end"))) same

pub for_put : {X E : Type 0} (p : Program) (d inner : ℕ) (stmt : Stmt) (low high : Lin) (body : Vec Stmt Global) (list : List Stmt) (old a b now : List ℕ) (r : Result X E)
    → stmt ≡ For low high body → list ≡ body.items → inner ≡ d + 1 → a ≡ old ++ for_line d low high → b ≡ a ++ statements p inner (plain_all list)
    → OnOk r (now ≡ b ++ line d (codes "end")) → OnOk r (now ≡ old ++ statement p d (plain stmt))
for_put p d inner stmt low high body list old a b now (Ok x) is same deep is_a is_b last =
    body_put p d inner list body.items (for_line d low high) old a b now same deep is_a is_b last ∙ ap (λ c. old ++ statement p d c) (sym (ap plain is ∙ for_plain low high body))
for_put p d inner stmt low high body list old a b now (Err e) is same deep is_a is_b last = tt

pub loop_put : {X E : Type 0} (p : Program) (d inner : ℕ) (stmt : Stmt) (id : ℕ) (body : Vec Stmt Global) (list : List Stmt) (old a b now : List ℕ) (r : Result X E)
    → stmt ≡ Loop id body → list ≡ body.items → inner ≡ d + 1 → a ≡ old ++ loop_line d id → b ≡ a ++ statements p inner (plain_all list)
    → OnOk r (now ≡ b ++ line d (codes "end")) → OnOk r (now ≡ old ++ statement p d (plain stmt))
loop_put p d inner stmt id body list old a b now (Ok x) is same deep is_a is_b last =
    body_put p d inner list body.items (loop_line d id) old a b now same deep is_a is_b last ∙ ap (λ c. old ++ statement p d c) (sym (ap plain is ∙ loop_plain id body))
loop_put p d inner stmt id body list old a b now (Err e) is same deep is_a is_b last = tt

pub part_put : {X E : Type 0} (p : Program) (d inner number : ℕ) (list : List Stmt) (old a now : List ℕ) (r : Result X E) → inner ≡ d + 1 → a ≡ old ++ branch_line d number
    → OnOk r (now ≡ a ++ statements p inner (plain_all list)) → OnOk r (now ≡ old ++ branch_part p d number (plain_all list))
part_put p d inner number list old a now (Ok x) deep is_a last =
    onto old a now (branch_line d number) (statements p inner (plain_all list)) is_a last ∙ ap (λ k. old ++ (branch_line d number ++ statements p k (plain_all list))) deep
part_put p d inner number list old a now (Err e) deep is_a last = tt

pub statements_step : (p : Program) (d : ℕ) (list : List Stmt) (i : ℕ) (s : Stmt) (out new start : List ℕ) → i < length list → s ≡ get_or list i s → new ≡ out ++ statement p d (plain s)
    → out ++ statements p d (plain_all (drop i list)) ≡ start → new ++ statements p d (plain_all (drop (i + 1) list)) ≡ start
statements_step p d list i s out new start lt is put done =
    text_step (λ w. statements p d (plain_all w)) (λ x. statement p d (plain x)) list i s out new start (λ y ys. refl) lt is put done

pub branches_step : (p : Program) (d k : ℕ) (bs : List (Vec Stmt Global)) (v : Vec Stmt Global) (list : List Stmt) (out new start : List ℕ) → k < length bs → v ≡ get_or bs k v → list ≡ v.items
    → new ≡ out ++ branch_part p d k (plain_all list) → out ++ branches_from p d k (parts_of (map (λ v. map plain v.items) (drop k bs))) ≡ start
    → new ++ branches_from p d (k + 1) (parts_of (map (λ v. map plain v.items) (drop (k + 1) bs))) ≡ start
branches_step p d k bs v list out new start lt is same put done =
    ap (λ w. w ++ branches_from p d (k + 1) (parts_of (map (λ v. map plain v.items) (drop (k + 1) bs)))) (put ∙ ap (λ w. out ++ branch_part p d k (plain_all w)) same)
    ∙ append_assoc out (branch_part p d k (plain_all v.items)) (branches_from p d (k + 1) (parts_of (map (λ v. map plain v.items) (drop (k + 1) bs))))
    ∙ ap (λ w. out ++ branches_from p d k (parts_of (map (λ v. map plain v.items) w))) (sym (one_more bs k v lt is))
    ∙ done

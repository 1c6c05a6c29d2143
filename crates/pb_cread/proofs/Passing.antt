-- What one call says from another's end.
use Rattle.std.proofs.Common.{◌≡◌, ℕ, true, false, List, [], ◌∷◌, map, length, Result, Ok, Err, refl, sym, ap, subst, ◌∙◌}
use Rattle.std.specs.Prelude.{IfOk, IfErr}
use Rattle.std.specs.Global.{Vec}
use Rattle.pb_text.specs.declared.place.Place.{Place}
use Rattle.pb_local.specs.declared.stmt.Stmt.{Stmt}
use Rattle.pb_local.specs.Tree.{Code, Program, plain, plain_all, program_of}
use Rattle.pb_ctree.specs.declared.body.Bodies.{Bodies}
use Rattle.pb_ctree.specs.declared.tree.CTree.{CTree}
use Rattle.pb_ctree.specs.Functions.{functions_of}
use Rattle.pb_ctree.specs.Texts.{Spells, text}
use Rattle.pb_ctree.specs.Trees.{IsTree}
use Rattle.pb_cread_statements.specs.Reading as M
use Rattle.pb_cread.specs.Reached.{with_body, headed, InFrame, InMain, IsBehind, InEnd, IsWhole, last_texts}
use Rattle.pb_cread_frame.specs.Reading as F
use Rattle.pb_cread_frame.specs.Reading.{Read}
use Rattle.pb_cread.proofs.Faulted.{main_starts}
use Rattle.pb_cread_frame.specs.Rows.{is_nothing}
use Rattle.pb_cread.specs.declared.fault.TextFault.{TextFault}
use Rattle.pb_cread.specs.Faults.{IsFault}

pub ok_from : {T E : Type 0} (result : Result T E) (A B W : List ℕ → Read → Program → List Code → Type 0) → IfOk result (λ x. (b : List ℕ) (r : Read) (p : Program) (d : List Code) → B b r p d → W b r p d)
    → ((b : List ℕ) (r : Read) (p : Program) (d : List Code) → A b r p d → B b r p d) → IfOk result (λ x. (b : List ℕ) (r : Read) (p : Program) (d : List Code) → A b r p d → W b r p d)
ok_from (Ok x) A B W f g = λ b r p d a. f b r p d (g b r p d a)
ok_from (Err e) A B W f g = tt

pub err_from : {T : Type 0} (result : Result T TextFault) (A B : List ℕ → Read → Program → List Code → Type 0) → IfErr result (λ e. (b : List ℕ) (r : Read) (p : Program) (d : List Code) → B b r p d → IsFault b e)
    → ((b : List ℕ) (r : Read) (p : Program) (d : List Code) → A b r p d → B b r p d) → IfErr result (λ e. (b : List ℕ) (r : Read) (p : Program) (d : List Code) → A b r p d → IsFault b e)
err_from (Ok x) A B f g = tt
err_from (Err e) A B f g = λ b r p d a. f b r p d (g b r p d a)

pub nothing_is : (xs : List ℕ) → is_nothing xs ≡ true → xs ≡ []
nothing_is [] e = refl
nothing_is (x ∷ xs) e = absurd cc

pub something_is : (xs : List ℕ) → is_nothing xs ≡ false → xs ≡ [] → ⊥
something_is [] e f = cc
something_is (x ∷ xs) e f = cc

pub finish_ok : {E : Type 0} (result : Result (Vec Stmt) E) (s : M.State) (place : Place) (rest : List ℕ) (n : ℕ) (p : Program) (A : List ℕ → Read → Type 0)
    → IfOk result (λ v. (text rest : List ℕ) (n : ℕ) (r : Read) (p : Program) → IsBehind text rest n r p s place → InEnd text rest n r p (map plain v.items) [] last_texts)
    → ((text : List ℕ) (r : Read) → A text r → IsBehind text rest n r p s place) → IfOk result (λ v. (text : List ℕ) (r : Read) → A text r → InEnd text rest n r p (map plain v.items) [] last_texts)
finish_ok (Ok v) s place rest n p A f g = λ text r a. f text rest n r p (g text r a)
finish_ok (Err e) s place rest n p A f g = tt

pub finish_err : {T : Type 0} (result : Result T TextFault) (s : M.State) (place : Place) (rest : List ℕ) (n : ℕ) (p : Program) (A : List ℕ → Read → Type 0)
    → IfErr result (λ e. (text rest : List ℕ) (n : ℕ) (r : Read) (p : Program) → IsBehind text rest n r p s place → IsFault text e)
    → ((text : List ℕ) (r : Read) → A text r → IsBehind text rest n r p s place) → IfErr result (λ e. (text : List ℕ) (r : Read) → A text r → IsFault text e)
finish_err (Ok v) s place rest n p A f g = tt
finish_err (Err e) s place rest n p A f g = λ text r a. f text rest n r p (g text r a)

-- the tree of what was read has this text
pub spelled : (tree : CTree) (bodies : Bodies) (bytes : List ℕ) (r : Read) (q : Program) → IsTree tree → program_of tree.local ≡ q → bodies.prelude ≡ r.prelude → bodies.list.items ≡ r.bodies → IsWhole bytes r q → Spells tree bodies bytes
spelled tree bodies bytes r q made same prelude list whole = record {
  made = made;
  many = ap length list ∙ whole.many ∙ ap (λ (p : Program). length (functions_of p)) (sym same);
  text = whole.text ∙ ap (λ (p : Program). text p r.prelude r.bodies) (sym same) ∙ ap (λ (x : List ℕ). text (program_of tree.local) x r.bodies) (sym prelude) ∙ ap (λ (x : List (List ℕ)). text (program_of tree.local) bodies.prelude x) (sym list);
}

-- a program without statements has the tables that were read
pub without_body : (r : Read) (statements : List Stmt) → statements ≡ [] → headed r ≡ with_body (headed r) (plain_all statements)
without_body r statements e = ap (λ (xs : List Stmt). with_body (headed r) (plain_all xs)) (sym e)

-- the statements begin where the frame is at its end
pub begin : (bytes whole rest : List ℕ) (n : ℕ) (s : F.State) (p : Program) → whole ≡ bytes → InFrame whole rest n s → F.is_done s ≡ true → p ≡ headed s.read → InMain bytes rest n s.read p M.nothing_read
begin bytes whole rest n s p e f done is = main_starts bytes rest n s p (subst (λ (x : List ℕ). InFrame x rest n s) e f) done (sym is)

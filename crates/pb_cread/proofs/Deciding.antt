-- Whether a line of statements goes on.
use Rattle.std.proofs.Common.{◌≡◌, ℕ, Bool, true, false, cond, List, Some, None, Result, Ok, Err, sym, ap, subst, ◌∙◌}
use Rattle.std.specs.Prelude.{IfOk}
use Rattle.std.proofs.lemmas.Option.{none-some}
use Rattle.pb_local.specs.Tree.{Program}
use Rattle.pb_ctree.specs.Lines.{Item}
use Rattle.pb_cread_lines.specs.Fits.{FitsNumber, Fits}
use Rattle.pb_cread_lines.specs.Head.{HasHead}
use Rattle.pb_cread_lines.specs.Reading.{IsLine, IsNoLine, IsOnlyLine}
use Rattle.pb_cread_statements.specs.Labels.{relabelled}
use Rattle.pb_cread_statements.specs.Reading.{State, goes_on}
use Rattle.pb_cread_statements.proofs.Relabelled.{is_line, only_one}
use Rattle.pb_cread.specs.Reached.{Judged}

same_line_of : (p : Program) (s u : State) (line : List ℕ) (depth : ℕ) (a b : Item) → a ≡ relabelled p s.wanted b → IsOnlyLine p line depth b → HasHead p → (d : ℕ) (i : Item) → FitsNumber d → Fits p i → IsLine p line d i → goes_on p s d i ≡ Some u → (d ≡ depth) × (i ≡ a)
same_line_of p s u line depth a b e only head d i number fit is goes =
    let o = only head d i number fit is in
    (o.0, sym (only_one p s u d i b o.1 goes) ∙ sym e)

pub judged : (p : Program) (s t : State) (went : Bool) (depth : ℕ) (a b : Item) (line : List ℕ) → a ≡ relabelled p s.wanted b → goes_on p s depth a ≡ cond went (Some t) None → IsLine p line depth b → IsOnlyLine p line depth b → HasHead p → Judged went p s line t
judged p s t true depth a b line e goes is only head =
    let A : Item → Type 0 = λ i. IsLine p line depth i in
    record {
      depth = depth;
      item = a;
      is = subst A (sym e) (is_line p s line depth b is);
      goes = goes;
      only = λ d i u number fit own on. same_line_of p s u line depth a b e only head d i number fit own on;
    }
judged p s t false depth a b line e goes is only head = λ d i u number fit own on.
    let o = same_line_of p s u line depth a b e only head d i number fit own on in
    none-some u (sym goes ∙ ap (λ (x : ℕ). goes_on p s x a) (sym o.0) ∙ ap (goes_on p s d) (sym o.1) ∙ on)

pub none_judged : (p : Program) (s t : State) (line : List ℕ) → IsNoLine p line → HasHead p → Judged false p s line t
none_judged p s t line none head = λ d i u number fit own on. none head d i number fit own

pub judged_if : {E : Type 0} (p : Program) (s t : State) (result : Result Bool E) (depth : ℕ) (a b : Item) → a ≡ relabelled p s.wanted b → IfOk result (λ went. goes_on p s depth a ≡ cond went (Some t) None)
    → IfOk result (λ went. (line : List ℕ) → IsLine p line depth b → IsOnlyLine p line depth b → HasHead p → Judged went p s line t)
judged_if p s t (Ok went) depth a b e goes = λ line is only head. judged p s t went depth a b line e goes is only head
judged_if p s t (Err x) depth a b e goes = tt

pub given : {E : Type 0} (p : Program) (s t : State) (result : Result Bool E) (depth : ℕ) (b : Item) (line : List ℕ) → IfOk result (λ went. (line : List ℕ) → IsLine p line depth b → IsOnlyLine p line depth b → HasHead p → Judged went p s line t) → IsLine p line depth b → IsOnlyLine p line depth b → HasHead p → IfOk result (λ went. Judged went p s line t)
given p s t (Ok went) depth b line f is only head = f line is only head
given p s t (Err x) depth b line f is only head = tt

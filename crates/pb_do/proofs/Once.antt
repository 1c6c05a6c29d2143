-- Statements give one outcome.
use Rattle.std.proofs.Common.{◌≡◌, ℕ, Option, Some, None, List, Result, Ok, Err, ◌⊎◌, inl, inr, refl, sym, ap, ◌∙◌, subst, arith}
use Rattle.pb_text.specs.declared.place.Place.{Place}
use Rattle.pb_text.specs.declared.quantity.Quantity.{Quantity}
use Rattle.pb_syntax.specs.Tree as tree
use Rattle.pb_syntax.specs.Tree.{PlainStatement, PlainBlock, statements_of, branches_of}
use Rattle.pb_do_syntax.specs.Calls.{Call, plain, foreach, loop, choice, call, Calls, nothing, more, CallBranches, no_branch, branch, PlainSub}
use Rattle.pb_do_syntax.specs.Inlining.{Site, Written, WrittenBranches, Excess, Outcome, excess_at, limit_passed, renamed_end, closed, chosen, inside, counted, with_branch, Inlines, too_many, copied, iterated, looped, offered, called, lost, InlinesAll, ended, next, stopped, InlinesBranches, no_more, another, branch_stopped}

-- a limit that is passed leaves one outcome
limited : (subs : List PlainSub) (site : Site) (s : Call) (w : Written) (q : Quantity) (a b : Outcome) → limit_passed site w.count s ≡ Some q → a ≡ Err (excess_at site s q) → Inlines subs site s w b → a ≡ b
limited subs site s w q a b h e (too_many r k f) = e ∙ ap (λ (x : Quantity). Err (excess_at site s x)) (same_limit q r (sym h ∙ k)) ∙ sym f
  where
    same_limit : (q r : Quantity) → Some q ≡ Some r → q ≡ r
    same_limit q r e = grind arith
limited subs site (plain st) w q a b h e (copied k f) = absurd (let z : Some q ≡ None = sym h ∙ k in grind arith)
limited subs site (foreach p v o at items) w q a b h e (iterated inner k x f) = absurd (let z : Some q ≡ None = sym h ∙ k in grind arith)
limited subs site (loop p n at body) w q a b h e (looped inner k x f) = absurd (let z : Some q ≡ None = sym h ∙ k in grind arith)
limited subs site (choice p n who bs) w q a b h e (offered inner k x f) = absurd (let z : Some q ≡ None = sym h ∙ k in grind arith)
limited subs site (call p n args) w q a b h e (called sub k at x) = absurd (let z : Some q ≡ None = sym h ∙ k in grind arith)
limited subs site (call p n args) w q a b h e (lost k at f) = absurd (let z : Some q ≡ None = sym h ∙ k in grind arith)

pub ok_or_err : {A : Type 0} (w : A) (e : Excess) → Ok w ≡ Err e → ⊥
ok_or_err w e h = grind arith

pub same_ok : {A : Type 0} (v w : A) → ◌≡◌ {A = Result A Excess} (Ok v) (Ok w) → v ≡ w
same_ok v w h = grind arith

same_sub : (s t : PlainSub) → Some s ≡ Some t → s ≡ t
same_sub s t h = grind arith

mutual
  pub one : (subs : List PlainSub) (site : Site) (s : Call) (w : Written) (a b : Outcome) → Inlines subs site s w a → Inlines subs site s w b → a ≡ b
  one subs site s w a b (too_many q h e) y = limited subs site s w q a b h e y
  one subs site s w a b x (too_many q h e) = sym (limited subs site s w q b a h e x)
  one subs site (plain st) w a b (copied k f) (copied l g) = f ∙ sym g
  one subs site (foreach p v o at items) w a b (iterated inner k x f) (iterated inner' l y g) =
      f ∙ ap (closed w (λ (ss : List PlainStatement). tree.foreach p v o at (statements_of ss))) (one_of_all subs _ items _ inner inner' x y) ∙ sym g
  one subs site (loop p n at body) w a b (looped inner k x f) (looped inner' l y g) =
      f ∙ ap (closed w (λ (ss : List PlainStatement). tree.loop p n at (statements_of ss))) (one_of_all subs _ body _ inner inner' x y) ∙ sym g
  one subs site (choice p n who bs) w a b (offered inner k x f) (offered inner' l y g) =
      f ∙ ap (chosen w (λ (list : List PlainBlock). tree.choice p n (renamed_end site.roles who) (branches_of list))) (one_of_branches subs _ bs _ inner inner' x y) ∙ sym g
  one subs site (call p n args) w a b (called sub k at x) (called sub' l at' y) =
      one_of_all subs (inside site p sub' args) sub'.body.list (counted w) a b (subst (λ (t : PlainSub). InlinesAll subs (inside site p t args) t.body.list (counted w) a) (same_sub sub sub' (sym at ∙ at')) x) y
  one subs site (call p n args) w a b (called sub k at x) (lost l at' g) = absurd (let z : Some sub ≡ None = sym at ∙ at' in grind arith)
  one subs site (call p n args) w a b (lost k at f) (called sub l at' y) = absurd (let z : Some sub ≡ None = sym at' ∙ at in grind arith)
  one subs site (call p n args) w a b (lost k at f) (lost l at' g) = f ∙ sym g

  pub one_of_all : (subs : List PlainSub) (site : Site) (ss : Calls) (w : Written) (a b : Outcome) → InlinesAll subs site ss w a → InlinesAll subs site ss w b → a ≡ b
  one_of_all subs site nothing w a b (ended e) (ended f) = e ∙ sym f
  one_of_all subs site (more s ss) w a b (next mid x y) (next mid' x' y') =
      one_of_all subs site ss mid' a b (subst (λ (m : Written). InlinesAll subs site ss m a) (same_ok mid mid' (one subs site s w (Ok mid) (Ok mid') x x')) y) y'
  one_of_all subs site (more s ss) w a b (next mid x y) (stopped e x' f) = absurd (ok_or_err mid e (one subs site s w (Ok mid) (Err e) x x'))
  one_of_all subs site (more s ss) w a b (stopped e x f) (next mid x' y) = absurd (ok_or_err mid e (sym (one subs site s w (Err e) (Ok mid) x x')))
  one_of_all subs site (more s ss) w a b (stopped e x f) (stopped e' x' f') = f ∙ one subs site s w (Err e) (Err e') x x' ∙ sym f'

  pub one_of_branches : (subs : List PlainSub) (site : Site) (bs : CallBranches) (w : WrittenBranches) (a b : Result WrittenBranches Excess) → InlinesBranches subs site bs w a → InlinesBranches subs site bs w b → a ≡ b
  one_of_branches subs site no_branch w a b (no_more e) (no_more f) = e ∙ sym f
  one_of_branches subs site (branch at ss bs) w a b (another inner x y) (another inner' x' y') =
      one_of_branches subs site bs (with_branch w at inner') a b (subst (λ (m : Written). InlinesBranches subs site bs (with_branch w at m) a) (same_ok inner inner' (one_of_all subs site ss _ (Ok inner) (Ok inner') x x')) y) y'
  one_of_branches subs site (branch at ss bs) w a b (another inner x y) (branch_stopped e x' f) = absurd (ok_or_err inner e (one_of_all subs site ss _ (Ok inner) (Err e) x x'))
  one_of_branches subs site (branch at ss bs) w a b (branch_stopped e x f) (another inner x' y) = absurd (ok_or_err inner e (sym (one_of_all subs site ss _ (Err e) (Ok inner) x x')))
  one_of_branches subs site (branch at ss bs) w a b (branch_stopped e x f) (branch_stopped e' x' f') =
      f ∙ ap (λ (o : Outcome). as_branches o) (one_of_all subs site ss _ (Err e) (Err e') x x') ∙ sym f'
    where
      as_branches : Outcome → Result WrittenBranches Excess
      as_branches (Ok v) = Err e
      as_branches (Err k) = Err k

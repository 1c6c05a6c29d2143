-- The stack of a file with calls beside that of its flat protocol: each step of the one is one of the other, or none.
use Rattle.std.proofs.Common.{◌≡◌, ℕ, suc, pos, Bool, true, false, ◌||◌, if◌then◌else◌, List, [], ◌∷◌, refl, sym, ap, ap₂, subst}
use Rattle.pb_text.specs.declared.place.Place.{Place}
use Rattle.pb_text.specs.declared.place.Spot.{Spot}
use Rattle.pb_syntax.specs.declared.tree.End.{End}
use Rattle.pb_syntax.specs.Tree as tree
use Rattle.pb_syntax.specs.Tree.{PlainStatement}
use Rattle.pb_world.specs.Actions.{Choose, AnswerTable}
use Rattle.pb_world.specs.Sequencer.{first_or}
use Rattle.pb_core_language.specs.Flat as F
use Rattle.pb_core_language.specs.Flat.{Block, stop}
use Rattle.pb_core_language.specs.Meaning.{position_of}
use Rattle.pb_core_language.specs.Names.{same, is_named}
use Rattle.pb_core_language.specs.Run as R
use Rattle.pb_do_syntax.specs.Calls.{plain, loop, choice, Calls, nothing, more, CallBranches}
use Rattle.pb_do_syntax.specs.Names.{Name}
use Rattle.pb_do_syntax.specs.Inlining.{Roles}
use Rattle.pb_do_laws.specs.Deeds.{Deed, deeds, foreach_deeds}
use Rattle.pb_do_laws.specs.Machine.{Ground, Opener, Once, Body, Frame, frame, back, emit_of, move_of, move_plain, is_over_at, called_roles, enter, branch_at, branch_now, chooser, kernel_of}
use Rattle.pb_do_laws.proofs.Unfolding.{Puts, none, sending, running, joining, is_simple, Unfolds, UnfoldsBranches, at_end, begun, goes_back, iterated, loops, offered, called, lost, branches_count, branches_first, branch_unfolds}

abbrev around : Opener → List Name → List Name
around Once opens = opens
around (Body x body) opens = x ∷ opens

-- the names of the open loops, the innermost first
abbrev loops_of : List Frame → List Name
loops_of [] = []
loops_of (f ∷ K) = around f.opener (loops_of K)

abbrev flat_frame : R.Opener → Block → R.Frame
flat_frame o rest = record { opener = o; rest = rest }

-- Frames of calls have no frame beside them: what they hold stands in front of what is done after them.
pub data Matches (g : Ground) : List Frame → List R.Frame → Type 0 where
  nothing_left : Matches g [] []
  within : {r : Roles} {ds : List Deed} {c : Calls} {K : List Frame} {o : R.Opener} {after mid b : Block} {S : List R.Frame} →
      Matches g K (flat_frame o after ∷ S) → Puts ds mid b → Unfolds g r (loops_of K) c after mid → Matches g (frame Once r ds c ∷ K) (flat_frame o b ∷ S)
  at_top : {r : Roles} {ds : List Deed} {c : Calls} {K : List Frame} {mid b : Block} {S : List R.Frame} →
      Matches g K S → Puts ds mid b → Unfolds g r (loops_of K) c stop mid → Matches g (frame Once r ds c ∷ K) (flat_frame R.Top b ∷ S)
  in_branch : {r : Roles} {ds : List Deed} {c : Calls} {K : List Frame} {mid b : Block} {S : List R.Frame} (at : ℕ) (blocks : F.Branches) →
      Matches g K S → Puts ds mid b → Unfolds g r (loops_of K) c stop mid → Matches g (frame Once r ds c ∷ K) (flat_frame (R.Chosen at blocks) b ∷ S)
  in_loop : {r : Roles} {x : Name} {body : Calls} {inner : Block} {ds : List Deed} {c : Calls} {K : List Frame} {mid b : Block} {S : List R.Frame} →
      Unfolds g r (x ∷ loops_of K) body stop inner → Matches g K S → Puts ds mid b → Unfolds g r (x ∷ loops_of K) c stop mid →
      Matches g (frame (Body x body) r ds c ∷ K) (flat_frame (R.Body inner) b ∷ S)

-- each step of the one is one of the other, or a step alone without an action
pub data Front (g : Ground) : List Frame → List R.Frame → Type 0 where
  together : {K : List Frame} {S : List R.Frame} →
      ((left : AnswerTable) → emit_of g K left ≡ R.emit_of g.setting S left) → ((left : AnswerTable) → Matches g (move_of g K left) (R.move_of g.setting S left)) →
      is_over_at K ≡ R.is_over_at S → Front g K S
  alone : {K : List Frame} {S : List R.Frame} (L : List Frame) →
      ((left : AnswerTable) → emit_of g K left ≡ []) → ((left : AnswerTable) → move_of g K left ≡ L) → is_over_at K ≡ R.is_over_at S → Front g L S → Front g K S

module _ (g : Ground) where
  -- ---- back to a loop

  back_over_loop : (x y : Name) {r : Roles} {body : Calls} {inner : Block} {K : List Frame} {S : List R.Frame} →
      Unfolds g r (y ∷ loops_of K) body stop inner → Matches g K S → (b : Bool) → (b || is_named x (loops_of K)) ≡ true →
      (is_named x (loops_of K) ≡ true → Matches g (back x K) (R.back S (position_of x (loops_of K)))) →
      Matches g (if b then frame (Body y body) r [] body ∷ K else back x K) (R.back_over (R.Body inner) (if b then 0 else suc (position_of x (loops_of K))) S (R.back S))
  back_over_loop x y i m true h outer = in_loop i m none i
  back_over_loop x y i m false h outer = outer h

  matches_back : (x : Name) {K : List Frame} {S : List R.Frame} → Matches g K S → is_named x (loops_of K) ≡ true → Matches g (back x K) (R.back S (position_of x (loops_of K)))
  matches_back x nothing_left h = cc
  matches_back x (within m p u) h = matches_back x m h
  matches_back x (at_top m p u) h = matches_back x m h
  matches_back x (in_branch at blocks m p u) h = matches_back x m h
  matches_back x (in_loop {x = y} i m p u) h = back_over_loop x y i m (same x y) h (λ k. matches_back x m k)

  -- ---- what comes next

  simple_moves : (o : Opener) (r : Roles) (s : PlainStatement) (rest : Calls) (K : List Frame) → is_simple s ≡ true →
      move_plain g o r s rest K ≡ frame o r (deeds g.table g.roles g.n r (pos 0) s) rest ∷ K
  simple_moves o r (tree.message l p from to) rest K h = refl
  simple_moves o r (tree.compute at k who) rest K h = refl
  simple_moves o r (tree.barrier at) rest K h = refl
  simple_moves o r (tree.broadcast at l p from) rest K h = refl
  simple_moves o r (tree.reduce at l p op to) rest K h = refl
  simple_moves o r (tree.allreduce at l p op) rest K h = refl
  simple_moves o r (tree.again at x) rest K h = cc
  simple_moves o r (tree.foreach at x range place items) rest K h = cc
  simple_moves o r (tree.loop at x place body) rest K h = cc
  simple_moves o r (tree.choice at k who bs) rest K h = cc

  branch_same : (left : AnswerTable) (at kernel : ℕ) {r : Roles} {opens : List Name} {bs : CallBranches} {blocks : F.Branches} → UnfoldsBranches g r opens bs blocks →
      branch_now g left at kernel bs ≡ R.branch_now g.setting left at kernel blocks
  branch_same left at kernel u =
      ap₂ (λ n e. first_or (left at).branches (λ taken. R.is_allowed g.setting at (Choose kernel n taken)) e) (branches_count g u) (branches_first g u)

  -- what a frame may hold, above these frames and inside these loops, beside the first frame of a flat stack
  abbrev Fits : Opener → Roles → List Frame → R.Opener → List R.Frame → List Name → Block → Type 0
  Fits o r K p S opens after = (ds : List Deed) (c : Calls) (mid b : Block) → Puts ds mid b → Unfolds g r opens c after mid → Matches g (frame o r ds c ∷ K) (flat_frame p b ∷ S)

  abbrev Next : Opener → Roles → List Frame → R.Opener → List R.Frame → List Deed → Calls → Block → Type 0
  Next o r K p S ds c b = Front g (frame o r ds c ∷ K) (flat_frame p b ∷ S)

  next_doing : (o : Opener) (r : Roles) (K : List Frame) (p : R.Opener) (S : List R.Frame) (opens : List Name) (after : Block) → Fits o r K p S opens after →
      (c : Calls) {ds : List Deed} {mid b : Block} → Next o r K p S [] c mid → Puts ds mid b → Unfolds g r opens c after mid → Next o r K p S ds c b
  next_doing o r K p S opens after fits c next none u = next
  next_doing o r K p S opens after fits c next (sending origin q) u = together (λ left. refl) (λ left. fits _ c _ _ q u) refl
  next_doing o r K p S opens after fits c next (running origin q) u = together (λ left. refl) (λ left. fits _ c _ _ q u) refl
  next_doing o r K p S opens after fits c next (joining origin q) u = together (λ left. refl) (λ left. fits _ c _ _ q u) refl

  -- a continue, a loop and a choice
  next_back : (o : Opener) (r : Roles) (K : List Frame) (p : R.Opener) (S : List R.Frame) (opens : List Name) (after : Block) → Fits o r K p S opens after → opens ≡ around o (loops_of K) →
      (place : Place) (x : Spot) (rest : Calls) → is_named x.name opens ≡ true → Next o r K p S [] (more (plain (tree.again place x)) rest) (F.again (position_of x.name opens))
  next_back o r K p S opens after fits inside place x rest h =
      together (λ left. refl)
      (λ left.
      subst (λ k. Matches g (back x.name (frame o r [] rest ∷ K)) (R.back (flat_frame p after ∷ S) k)) (ap (λ os. position_of x.name os) (sym inside))
      (matches_back x.name (fits [] nothing after after none at_end) (subst (λ os. is_named x.name os ≡ true) inside h)))
      refl

  next_loop : (o : Opener) (r : Roles) (K : List Frame) (p : R.Opener) (S : List R.Frame) (opens : List Name) (after : Block) → Fits o r K p S opens after → opens ≡ around o (loops_of K) →
      (place : Place) (x : Spot) (at : Place) (body rest : Calls) (mid inner : Block) (origin : F.Origin) →
      Unfolds g r (x.name ∷ opens) body stop inner → Unfolds g r opens rest after mid → Next o r K p S [] (more (loop place x at body) rest) (F.looped origin inner mid)
  next_loop o r K p S opens after fits inside place x at body rest mid inner origin i u =
      let i' = subst (λ os. Unfolds g r (x.name ∷ os) body stop inner) inside i in
      together (λ left. refl) (λ left. in_loop i' (fits [] rest mid mid none u) none i') refl

  next_choice : (o : Opener) (r : Roles) (K : List Frame) (p : R.Opener) (S : List R.Frame) (opens : List Name) (after : Block) → Fits o r K p S opens after → opens ≡ around o (loops_of K) →
      (place : Place) (k : Spot) (who : End) (bs : CallBranches) (rest : Calls) (mid : Block) (blocks : F.Branches) (origin : F.Origin) →
      UnfoldsBranches g r opens bs blocks → Unfolds g r opens rest after mid → Next o r K p S [] (more (choice place k who bs) rest) (F.choice origin (chooser g r who) (kernel_of g k) blocks mid)
  next_choice o r K p S opens after fits inside place k who bs rest mid blocks origin i u =
      let i' = subst (λ os. UnfoldsBranches g r os bs blocks) inside i in
      together
      (λ left. ap₂ (λ n taken. (chooser g r who, Choose (kernel_of g k) n taken) ∷ []) (branches_count g i) (branch_same left (chooser g r who) (kernel_of g k) i))
      (λ left.
      subst
      (λ taken. Matches g (frame Once r [] (branch_at (branch_now g left (chooser g r who) (kernel_of g k) bs) bs) ∷ frame o r [] rest ∷ K)
      (flat_frame (R.Chosen (chooser g r who) blocks) (F.branch_at taken blocks) ∷ flat_frame p mid ∷ S))
      (branch_same left (chooser g r who) (kernel_of g k) i)
      (in_branch (chooser g r who) blocks (fits [] rest mid mid none u) none (branch_unfolds g i' (branch_now g left (chooser g r who) (kernel_of g k) bs))))
      refl

  next_of : (o : Opener) (r : Roles) (K : List Frame) (p : R.Opener) (S : List R.Frame) (opens : List Name) (after : Block) → Fits o r K p S opens after → opens ≡ around o (loops_of K) →
      Next o r K p S [] nothing after → {c : Calls} {b : Block} → Unfolds g r opens c after b → Next o r K p S [] c b
  next_of o r K p S opens after fits inside end at_end = end
  next_of o r K p S opens after fits inside end (begun {s = s} {rest = rest} h q u) =
      alone (frame o r (deeds g.table g.roles g.n r (pos 0) s) rest ∷ K) (λ left. refl) (λ left. simple_moves o r s rest K h) refl
      (next_doing o r K p S opens after fits rest (next_of o r K p S opens after fits inside end u) q u)
  next_of o r K p S opens after fits inside end (goes_back {place = place} {x = x} {rest = rest} h) = next_back o r K p S opens after fits inside place x rest h
  next_of o r K p S opens after fits inside end (iterated {range = range} {items = items} {rest = rest} q u) =
      alone (frame o r (foreach_deeds g.table g.roles g.n r range items) rest ∷ K) (λ left. refl) (λ left. refl) refl
      (next_doing o r K p S opens after fits rest (next_of o r K p S opens after fits inside end u) q u)
  next_of o r K p S opens after fits inside end (loops {place = place} {x = x} {at = at} {body = body} {rest = rest} {mid = mid} {inner = inner} origin i u) =
      next_loop o r K p S opens after fits inside place x at body rest mid inner origin i u
  next_of o r K p S opens after fits inside end (offered {place = place} {k = k} {who = who} {bs = bs} {rest = rest} {mid = mid} {blocks = blocks} origin i u) =
      next_choice o r K p S opens after fits inside place k who bs rest mid blocks origin i u
  next_of o r K p S opens after fits inside end (called {args = args} {rest = rest} {mid = mid} sub there i u) =
      alone (frame Once (called_roles sub r args) [] sub.body.list ∷ frame o r [] rest ∷ K) (λ left. refl) (λ left. ap (λ s. enter s r args (frame o r [] rest ∷ K)) there) refl
      (next_of Once (called_roles sub r args) (frame o r [] rest ∷ K) p S opens mid
      (λ ds c m b q v. within (fits [] rest mid mid none u) q (subst (λ os. Unfolds g (called_roles sub r args) os c mid m) inside v)) inside
      (alone (frame o r [] rest ∷ K) (λ left. refl) (λ left. refl) refl (next_of o r K p S opens after fits inside end u)) i)
  next_of o r K p S opens after fits inside end (lost {args = args} {rest = rest} absent u) =
      alone (frame o r [] rest ∷ K) (λ left. refl) (λ left. ap (λ s. enter s r args (frame o r [] rest ∷ K)) absent) refl (next_of o r K p S opens after fits inside end u)

  pub front : {K : List Frame} {S : List R.Frame} → Matches g K S → Front g K S
  front nothing_left = together (λ left. refl) (λ left. nothing_left) refl
  front (within {r = r} {c = c} {K = K} {o = o} {after = after} {S = S} m q u) =
      let fits : Fits Once r K o S (loops_of K) after = λ ds d mid b p v. within m p v in
      next_doing Once r K o S (loops_of K) after fits c (next_of Once r K o S (loops_of K) after fits refl (alone K (λ left. refl) (λ left. refl) refl (front m)) u) q u
  front (at_top {r = r} {c = c} {K = K} {S = S} m q u) =
      let fits : Fits Once r K R.Top S (loops_of K) stop = λ ds d mid b p v. at_top m p v in
      next_doing Once r K R.Top S (loops_of K) stop fits c (next_of Once r K R.Top S (loops_of K) stop fits refl (together (λ left. refl) (λ left. m) refl) u) q u
  front (in_branch {r = r} {c = c} {K = K} {S = S} at blocks m q u) =
      let fits : Fits Once r K (R.Chosen at blocks) S (loops_of K) stop = λ ds d mid b p v. in_branch at blocks m p v in
      next_doing Once r K (R.Chosen at blocks) S (loops_of K) stop fits c (next_of Once r K (R.Chosen at blocks) S (loops_of K) stop fits refl (together (λ left. refl) (λ left. m) refl) u) q u
  front (in_loop {r = r} {x = x} {body = body} {inner = inner} {c = c} {K = K} {S = S} i m q u) =
      let fits : Fits (Body x body) r K (R.Body inner) S (x ∷ loops_of K) stop = λ ds d mid b p v. in_loop i m p v in
      next_doing (Body x body) r K (R.Body inner) S (x ∷ loops_of K) stop fits c
      (next_of (Body x body) r K (R.Body inner) S (x ∷ loops_of K) stop fits refl (together (λ left. refl) (λ left. m) refl) u) q u

-- Who comes to a part of a protocol: those that take part in it, and somebody.
use Rattle.std.proofs.Common.{◌≡◌, ℕ, ◌==◌, ℤ, pos, nat_eq, nat_lt, Bool, true, false, ◌&&◌, if◌then◌else◌, List, ◌∷◌, refl, sym, ap, ◌∙◌, subst, inl, inr}
use Rattle.std.specs.Ordering.{int_eq}
use Rattle.std.proofs.lemmas.Bool.{and_parts, and_from, or_left, or_right, or_cases, false≢true}
use Rattle.pb_core_language.specs.declared.tree.CoreEnd.{CoreEnd}
use Rattle.pb_core_language.specs.Flat.{Block, stop, takes_part}
use Rattle.pb_core_language.specs.FlatOf.{rank_of, flat_block}
use Rattle.pb_core_language.specs.Sound.{Rows, is_end, is_over_n, is_small, is_bound, is_stmt, is_block}
use Rattle.pb_core_language.specs.Tree as T
use Rattle.pb_core_language.specs.Tree.{Mark, StmtTree, BlockTree, BranchTrees, is_again}
use Rattle.pb_core_flat.specs.Seated.{rank, is_rank, is_at}
use Rattle.pb_core_flat.proofs.Each.{each_is_met}
use Rattle.pb_core_flat.proofs.Seats.{end_is_at}
use Rattle.pb_core_flat.proofs.SoundOnes.{sound_items}
use Rattle.pb_core_flat.proofs.Sources.{over_n_is}
use Rattle.pb_core_flat.proofs.TakersAdd.{takes_first}
use Rattle.pb_project_piece.specs.Standing.{Come, at_ends}
use Rattle.pb_shape.specs.Guards.{Somebody}
use Rattle.pb_shape.specs.Loops.{Around, takers, in_loop}
use Rattle.pb_shape.specs.Places.{Scope, Who, Here, inside}
use Rattle.pb_project.specs.Places.{block_takers, among_takers, IsReached}

-- ---- one statement

module _ (sc : Scope) (a : Around) (rows : Rows) (n i : ℤ) (role : ℕ) (x : ℤ) (is : is_rank sc.roles n role x ≡ true) where
  -- the rank at an end that doesn't use the variable
  end_takes : (e : CoreEnd) → is_end rows false e ≡ true → is_at e n i role x ≡ true → (rank_of sc.roles n e (pos 0) == rank sc.roles n role x) ≡ true
  end_takes e sound at =
      let k = and_parts (is_over_n e.at.base) (is_small e.at.off) (and_parts (nat_lt e.role rows.roles) (is_over_n e.at.base && is_small e.at.off) sound).1 in
      end_is_at sc.roles n (pos 0) e role x is ∙ ap (λ v. nat_eq e.role role && int_eq v x) (over_n_is e.at n (pos 0) i k.0) ∙ at

  -- a rank at an end of a statement takes part in it
  ends_take : (ids : List ℕ) (m : Mark) (s : StmtTree) → is_stmt rows false ids s ≡ true → at_ends s n i role x ≡ true → takers sc a m s n i role x ≡ true
  ends_take ids m (T.message l f t) sound at =
      let ends = and_parts (is_end rows false f) (is_end rows false t) (and_parts (nat_lt l rows.labels) _ sound).1 in
      elim (or_cases (is_at f n i role x) (is_at t n i role x) at) [
        | inl h ↦ or_left _ _ (end_takes f ends.0 h)
        | inr h ↦ or_right _ _ (or_left _ _ (end_takes t ends.1 h))
      ]
  ends_take ids m (T.foreach b k items) sound at =
      let low = and_parts (is_bound b.low) (is_bound b.high && is_block rows true ids items) sound in
      let high = and_parts (is_bound b.high) (is_block rows true ids items) low.1 in
      each_is_met sc.roles n (pos 0) role x (a.held n role x) a.opens m b k items is (sound_items rows ids items high.1) ∙ at
  ends_take ids m (T.loop id k body) sound at = absurd (false≢true at)
  ends_take ids m (T.again id) sound at = absurd (false≢true at)
  ends_take ids m (T.choice k e bs) sound at = absurd (false≢true at)
  ends_take ids m (T.run k e) sound at = or_left _ _ (end_takes e (and_parts (nat_lt k rows.kernels) (is_end rows false e) sound).1 at)
  ends_take ids m T.barrier sound at = absurd (false≢true at)
  ends_take ids m (T.broadcast l root) sound at = absurd (false≢true at)
  ends_take ids m (T.reduce l op root) sound at = absurd (false≢true at)
  ends_take ids m (T.allreduce l op) sound at = absurd (false≢true at)

pub ends_come : (sc : Scope) (a : Around) (h : Here) (rows : Rows) (ids : List ℕ) (m : Mark) (s : StmtTree) → is_stmt rows false ids s ≡ true → IsReached sc h (takers sc a m s) → Come sc h (at_ends s)
ends_come sc a h rows ids m s sound reached = record { come = λ n i role x within is at. reached.come.come n i role x within is (ends_take sc a rows n i role x is ids m s sound at) }

-- ---- parts of a block

fewer : (sc : Scope) (h : Here) (all some : Who) → ((n i : ℤ) (role : ℕ) (x : ℤ) → some n i role x ≡ true → all n i role x ≡ true) → IsReached sc h all → IsReached sc h some
fewer sc h all some among reached = record {
  free = reached.free;
  some = reached.some;
  come = record { come = λ n i role x within is t. reached.come.come n i role x within is (among n i role x t) };
}

if_not : (t c : Bool) → t ≡ false → c ≡ true → (if t then false else c) ≡ true
if_not true c e h = absurd (false≢true (sym e))
if_not false c e h = h

module _ (sc : Scope) (a : Around) (h : Here) where
  pub first_reached : (rows : Rows) (ids : List ℕ) (m : Mark) (s : StmtTree) (b : BlockTree) → is_stmt rows false ids s ≡ true → IsReached sc h (block_takers sc a (T.more m s b)) → IsReached sc h (takers sc a m s)
  first_reached rows ids m s b sound reached =
      fewer sc h (block_takers sc a (T.more m s b)) (takers sc a m s)
      (λ n i role x t. takes_first rows false ids sc.roles n (pos 0) (rank sc.roles n role x) (a.held n role x) a.opens m s b sound ∙ or_left _ _ t) reached

  pub rest_reached : (rows : Rows) (ids : List ℕ) (m : Mark) (s : StmtTree) (b : BlockTree) → is_stmt rows false ids s ≡ true → is_again s ≡ false → IsReached sc h (block_takers sc a (T.more m s b)) →
      IsReached sc h (block_takers sc a b)
  rest_reached rows ids m s b sound goes reached =
      fewer sc h (block_takers sc a (T.more m s b)) (block_takers sc a b)
      (λ n i role x t. takes_first rows false ids sc.roles n (pos 0) (rank sc.roles n role x) (a.held n role x) a.opens m s b sound ∙ or_right _ _ (if_not (is_again s) _ goes t)) reached

  pub branch_reached : (m : Mark) (b : BlockTree) (bs : BranchTrees) → IsReached sc h (among_takers sc a (T.branch m b bs)) → IsReached sc h (block_takers sc a b)
  branch_reached m b bs reached = fewer sc h (among_takers sc a (T.branch m b bs)) (block_takers sc a b) (λ n i role x t. or_left _ _ t) reached

  pub others_reached : (m : Mark) (b : BlockTree) (bs : BranchTrees) → IsReached sc h (among_takers sc a (T.branch m b bs)) → IsReached sc h (among_takers sc a bs)
  others_reached m b bs reached = fewer sc h (among_takers sc a (T.branch m b bs)) (among_takers sc a bs) (λ n i role x t. or_right _ _ t) reached

-- ---- inside a loop or a choice

within_it : (sc : Scope) (h : Here) (who some : Who) → ((n i : ℤ) (role : ℕ) (x : ℤ) → some n i role x ≡ true → who n i role x ≡ true) → IsReached sc h who → Somebody sc h who → IsReached sc (inside h who) some
within_it sc h who some among reached s = record {
  free = record { at = reached.free.at };
  some = record { n = s.n; i = s.i; role = s.role; index = s.index; within = s.within; few = s.few; rank = s.rank; at = s.at; comes = and_from _ _ s.is s.comes; is = refl };
  come = record { come = λ n i role x within is t. let w = among n i role x t in and_from _ _ w (reached.come.come n i role x within is w) };
}

-- whoever takes part in a loop's body does so for a reason other than the loop's own continue
in_body : (held : List Bool) (r : ℕ) (g : Block) → takes_part (takes_part (false ∷ held) r g ∷ held) r g ≡ true → takes_part (false ∷ held) r g ≡ true
in_body held r g h = at (takes_part (false ∷ held) r g) refl
  where
    at : (t : Bool) → takes_part (false ∷ held) r g ≡ t → takes_part (false ∷ held) r g ≡ true
    at true e = e
    at false e = subst (λ z. takes_part (z ∷ held) r g ≡ true) e h

module _ (sc : Scope) (a : Around) (h : Here) where
  pub body_reached : (m mark : Mark) (id number : ℕ) (body : BlockTree) → IsReached sc h (takers sc a m (T.loop id mark body)) → Somebody sc h (takers sc a m (T.loop id mark body)) →
      IsReached sc (inside h (takers sc a m (T.loop id mark body))) (block_takers sc (in_loop sc a id number body) body)
  body_reached m mark id number body reached s =
      within_it sc h (takers sc a m (T.loop id mark body)) (block_takers sc (in_loop sc a id number body) body)
      (λ n i role x t. or_left _ _ (in_body (a.held n role x) (rank sc.roles n role x) (flat_block sc.roles n (id ∷ a.opens) (pos 0) body stop) t)) reached s

  pub branches_reached : (m : Mark) (k : ℕ) (at : CoreEnd) (bs : BranchTrees) → IsReached sc h (takers sc a m (T.choice k at bs)) → Somebody sc h (takers sc a m (T.choice k at bs)) →
      IsReached sc (inside h (takers sc a m (T.choice k at bs))) (among_takers sc a bs)
  branches_reached m k at bs reached s =
      within_it sc h (takers sc a m (T.choice k at bs)) (among_takers sc a bs) (λ n i role x t. or_left _ _ (or_right (rank_of sc.roles n at (pos 0) == rank sc.roles n role x) _ t)) reached s

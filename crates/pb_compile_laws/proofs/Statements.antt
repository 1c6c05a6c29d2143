-- What each statement and each block reads.
use Rattle.std.proofs.Common.{◌≡◌, ℕ, zero, suc, ◌+◌, ◌-◌, ◌<◌, ◌≤◌, List, [], ◌∷◌, length, refl, sym, ap, ap₂, ◌∙◌, arith, subst}
use Rattle.std.specs.Prelude.{slice_index, slice_set}
use Rattle.std.proofs.lemmas.List.{get_or-set_same, get_or-set_other, length-set}
use Rattle.pb_text.specs.declared.quantity.Quantity.TheVariants as quantity
use Rattle.pb_text.specs.declared.token.Mark.TheVariants as marks
use Rattle.pb_text.specs.declared.token.Key.TheVariants as keys
use Rattle.pb_syntax.specs.Form.{Form}
use Rattle.pb_syntax.specs.Tree.{PlainStatement, PlainStatements, more, PlainBlock, statements_of, branches_of}
use Rattle.pb_syntax.specs.Grammar.{message_text, item_message, compute_text, collective, and_semicolon, braces, item, foreach_text, rec_text, continue_text, or_block, choice_text, statement, block}
use Rattle.pb_parse.specs.declared.limits.Counts.{Counts}
use Rattle.pb_parse.specs.declared.limits.Behind.{Behind}
use Rattle.pb_parse.specs.declared.limits.Behind.TheVariants as behind
use Rattle.pb_compile_laws.proofs.Bools.{not_full}
use Rattle.pb_compile_laws.proofs.Counted.{Does, co, after, done_does, weaker, many_do, ◌>>>◌, ◌>>=◌, ◌or_does◌}
use Rattle.pb_compile_laws.proofs.Tokens.{mark_step, key_step, name_step, label_step}
use Rattle.pb_compile_laws.proofs.Forms.{range_quiet, payload_quiet, op_quiet, plain_end_quiet, any_end_quiet, end_beside_quiet}
use Rattle.pb_compile_laws.proofs.Measures.{texts_at, texts_in, texts_among, tall_at, tall_in, tall_among, branch_count, IsWell, AreWell, AreWellAmong}

-- where a statement may begin, within so many braces
pub record IsAt (d : ℕ) (c : Counts) : Type 0 where
  pub depth : c.depth ≡ d
  pub length : length c.branches ≡ 65
  pub last : c.last ≡ behind.Boundary

-- so many statements on; the branches that are counted for fewer braces are as before
pub record Moved (k : ℕ) (c c1 : Counts) (n : ℕ) : Type 0 where
  pub statements : c1.statements ≡ c.statements + n
  pub below : (j : ℕ) → j < k → slice_index c1.branches j ≡ slice_index c.branches j

abbrev Fits : ℕ → PlainStatement → Type 0
Fits d x = IsWell x × (d + tall_at x ≤ 64)

abbrev FitsAll : ℕ → PlainStatements → Type 0
FitsAll d xs = AreWell xs × (d + tall_in xs ≤ 64)

-- a statement, and a block, that was read
abbrev Stated : ℕ → Counts → Counts → PlainStatement → Type 0
Stated d c c1 x = IsAt d c1 × (Moved d c c1 (texts_at x) × Fits d x)

abbrev pub Blocked : ℕ → Counts → Counts → PlainBlock → Type 0
Blocked d c c1 b = IsAt d c1 × (Moved (d + 1) c c1 (texts_in b.list) × FitsAll (d + 1) b.list)

at_co : (d : ℕ) (c : Counts) → IsAt d c → c ≡ co d c.statements c.roles c.branches behind.Boundary
at_co d c h = ap₂ (λ a b. co a c.statements c.roles c.branches b) h.depth h.last

-- ---- statements without braces

-- one statement more, before its semicolon
abbrev Simple : ℕ → ℕ → ℕ → List ℕ → Counts → PlainStatement → Type 0
Simple d s r bs c x = (c ≡ co d (s + 1) r bs c.last) × ((texts_at x ≡ 1) × Fits d x)

level : {d : ℕ} → d ≤ 64 → d + 0 ≤ 64
level few = omega (arith, few)

module _ {d s r : ℕ} {bs : List ℕ} (few : d ≤ 64) where
  message_does : Does (co d s r bs behind.Boundary) message_text (Simple d s r bs)
  message_does =
      label_step >>> λ x named. payload_quiet >>= λ l1 i p f. key_step keys.From >>> λ q v. any_end_quiet tt >>= λ l2 j a g. key_step keys.To >>> λ z w. end_beside_quiet tt a.index >>= λ l3 o b h.
      done_does _ (refl, (refl, ((named, f), level few)))

  item_message_does : Does (co d s r bs behind.Boundary) item_message (Simple d s r bs)
  item_message_does =
      label_step >>> λ x named. payload_quiet >>= λ l1 i p f. key_step keys.From >>> λ q v. plain_end_quiet tt >>= λ l2 j a g. key_step keys.To >>> λ z w. plain_end_quiet tt >>= λ l3 o b h.
      done_does _ (refl, (refl, ((named, f), level few)))

  compute_does : Does (co d s r bs behind.Boundary) compute_text (Simple d s r bs)
  compute_does = key_step keys.Compute >>> λ q u. name_step tt >>> λ x named. key_step keys.At >>> λ z w. plain_end_quiet tt >>= λ l1 i a g. done_does _ (refl, (refl, (named, level few)))

  continue_does : Does (co d s r bs behind.Boundary) continue_text (Simple d s r bs)
  continue_does = key_step keys.Continue >>> λ q u. name_step tt >>> λ x named. done_does _ (refl, (refl, (tt, level few)))

  collective_does : Does (co d s r bs behind.Boundary) collective (Simple d s r bs)
  collective_does =
      (key_step keys.Barrier >>> λ q u. done_does _ (refl, (refl, (tt, level few))))
      or_does (key_step keys.Broadcast >>> λ q u. name_step tt >>> λ x named. payload_quiet >>= λ l1 i p f. key_step keys.From >>> λ z w. plain_end_quiet tt >>= λ l2 j a g.
      done_does _ (refl, (refl, ((named, f), level few))))
      or_does (key_step keys.Reduce >>> λ q u. name_step tt >>> λ x named. payload_quiet >>= λ l1 i p f. key_step keys.With >>> λ z w. op_quiet >>= λ l2 j o t. key_step keys.To >>> λ y c. plain_end_quiet tt >>= λ l3 m a g.
      done_does _ (refl, (refl, ((named, f), level few))))
      or_does (key_step keys.Allreduce >>> λ q u. name_step tt >>> λ x named. payload_quiet >>= λ l1 i p f. key_step keys.With >>> λ z w. op_quiet >>= λ l2 j o t.
      done_does _ (refl, (refl, ((named, f), level few))))

  module _ (long : length bs ≡ 65) where
    semicolon_does : {what : Form PlainStatement} → Does (co d s r bs behind.Boundary) what (Simple d s r bs) → Does (co d s r bs behind.Boundary) (and_semicolon what) (Stated d (co d s r bs behind.Boundary))
    semicolon_does does = after does (λ c x p. rw p.0 (mark_step marks.Semicolon >>> λ q u. done_does _ (record { depth = refl; length = long; last = refl }, (record { statements = ap (λ n. s + n) (sym p.1.0); below = λ j h. refl }, p.1.1))))

    item_does : Does (co d s r bs behind.Boundary) item (Stated d (co d s r bs behind.Boundary))
    item_does = semicolon_does item_message_does or_does semicolon_does compute_does

-- ---- blocks

one_more : {d : ℕ} {c c1 c2 : Counts} (x : PlainStatement) (xs : PlainStatements) → Moved d c c1 (texts_at x) × Fits d x → Moved d c1 c2 (texts_in xs) × FitsAll d xs → Moved d c c2 (texts_in (more x xs)) × FitsAll d (more x xs)
one_more x xs p q = (record { statements = omega (arith, p.0.statements, q.0.statements); below = λ j h. q.0.below j h ∙ p.0.below j h }, ((p.1.0, q.1.0), omega (arith, p.1.1, q.1.1)))

less_one : (d : ℕ) → d + 1 - 1 ≡ d
less_one d = omega arith

braces_does : {d s r : ℕ} {bs : List ℕ} {l : Behind} {inside : Form PlainStatement} → length bs ≡ 65
    → (d < 64 → (s1 r1 : ℕ) (bs1 : List ℕ) → length bs1 ≡ 65 → Does (co (d + 1) s1 r1 bs1 behind.Boundary) inside (Stated (d + 1) (co (d + 1) s1 r1 bs1 behind.Boundary)))
    → Does (co d s r bs l) (braces inside) (Blocked d (co d s r bs l))
braces_does {d} {s} {r} {bs} {l} {inside} long within =
    mark_step marks.LeftBrace >>> λ p passes.
    let deep : d < 64 = not_full 64 d quantity.Nesting passes in
    after (many_do {good = λ c c1 x. Moved (d + 1) c c1 (texts_at x) × Fits (d + 1) x} {all = λ c c1 xs. Moved (d + 1) c c1 (texts_in (statements_of xs)) × FitsAll (d + 1) (statements_of xs)} {from = IsAt (d + 1)}
    (λ c h. subst (λ (c1 : Counts). Does c1 inside (Stated (d + 1) c1)) (sym (at_co (d + 1) c h)) (within deep c.statements c.roles c.branches h.length))
    (λ c h. (record { statements = omega arith; below = λ j few. refl }, (tt, omega (arith, deep))))
    (λ c c1 c2 x xs p q. one_more x (statements_of xs) p q) (co (d + 1) s r bs behind.Boundary) (record { depth = refl; length = long; last = refl }))
    (λ c xs q. rw (at_co (d + 1) c q.0) (mark_step marks.RightBrace >>> λ e u. done_does _ (record { depth = less_one d; length = q.0.length; last = refl }, (record { statements = q.1.0.statements; below = q.1.0.below }, q.1.1))))

-- a branch more was read
record Branched (d : ℕ) (c c1 : Counts) (b : PlainBlock) : Type 0 where
  moved : Moved d c c1 (texts_in b.list)
  count : slice_index c1.branches d ≡ slice_index c.branches d + 1
  few : slice_index c1.branches d ≤ 64
  fits : FitsAll (d + 1) b.list

-- so many branches more
record Others (d : ℕ) (c c1 : Counts) (bs : List PlainBlock) : Type 0 where
  moved : Moved d c c1 (texts_among (branches_of bs))
  count : slice_index c1.branches d ≡ slice_index c.branches d + branch_count (branches_of bs)
  few : slice_index c.branches d ≤ 64 → slice_index c1.branches d ≤ 64
  well : AreWellAmong (branches_of bs)
  tall : d + 1 ≤ 64 → d + 1 + tall_among (branches_of bs) ≤ 64

none_other : {d : ℕ} {c : Counts} → Others d c c []
none_other = record { moved = record { statements = omega arith; below = λ j h. refl }; count = omega arith; few = λ h. h; well = tt; tall = λ h. omega (arith, h) }

one_other : {d : ℕ} {c c1 c2 : Counts} {b : PlainBlock} {bs : List PlainBlock} → Branched d c c1 b → Others d c1 c2 bs → Others d c c2 (b ∷ bs)
one_other p q = record {
  moved = record { statements = omega (arith, p.moved.statements, q.moved.statements); below = λ j h. q.moved.below j h ∙ p.moved.below j h };
  count = omega (arith, p.count, q.count);
  few = λ h. q.few p.few;
  well = (p.fits.0, q.well);
  tall = λ h. omega (arith, p.fits.1, q.tall h);
}

-- the first branch, the second and the others
chosen : {d : ℕ} {c c1 c2 c3 : Counts} (first second : PlainBlock) (others : List PlainBlock) → Moved (d + 1) c c1 (texts_in first.list) → slice_index c1.branches d ≡ 1 → FitsAll (d + 1) first.list → Branched d c1 c2 second → Others d c2 c3 others
    → Moved d c c3 (texts_among (branches_of (first ∷ second ∷ others))) × ((2 ≤ branch_count (branches_of (first ∷ second ∷ others))) × ((branch_count (branches_of (first ∷ second ∷ others)) ≤ 64)
    × (AreWellAmong (branches_of (first ∷ second ∷ others)) × (d + (1 + tall_among (branches_of (first ∷ second ∷ others))) ≤ 64))))
chosen first second others m one f p q = (
  record { statements = omega (arith, m.statements, p.moved.statements, q.moved.statements); below = λ j h. q.moved.below j h ∙ (p.moved.below j h ∙ m.below j (omega (arith, h))) },
  (omega arith, (omega (arith, one, p.count, q.count, q.few p.few), ((f.0, (p.fits.0, q.well)), omega (arith, f.1, p.fits.1, q.tall (omega (arith, f.1)))))),
)

module _ {d : ℕ} (inner : Form PlainBlock) (holds : (s1 r1 : ℕ) (bs1 : List ℕ) (l : Behind) → length bs1 ≡ 65 → Does (co d s1 r1 bs1 l) inner (Blocked d (co d s1 r1 bs1 l))) where
  or_at : d ≤ 64 → (s1 r1 : ℕ) (bs1 : List ℕ) → length bs1 ≡ 65 → Does (co d s1 r1 bs1 behind.Boundary) (or_block inner) (λ c1 b. IsAt d c1 × Branched d (co d s1 r1 bs1 behind.Boundary) c1 b)
  or_at few s1 r1 bs1 long1 =
      key_step keys.Or >>> λ q passes. weaker (holds s1 r1 (slice_set bs1 d (slice_index bs1 d + 1)) behind.Other (length-set bs1 d (slice_index bs1 d + 1) ∙ long1)) (λ c1 b g.
      let one : slice_index c1.branches d ≡ slice_index bs1 d + 1 = g.1.0.below d (omega arith) ∙ get_or-set_same bs1 d (slice_index bs1 d + 1) 0 (omega (arith, few, long1)) in (
        g.0,
        record {
          moved = record { statements = g.1.0.statements; below = λ j h. g.1.0.below j (omega (arith, h)) ∙ get_or-set_other bs1 d j (slice_index bs1 d + 1) 0 (λ e. omega (arith, e, h)) };
          count = one;
          few = omega (arith, one, not_full 64 (slice_index bs1 d) quantity.Branches passes);
          fits = g.1.1;
        },
      ))

  or_does_so : d ≤ 64 → (c : Counts) → IsAt d c → Does c (or_block inner) (λ c1 b. IsAt d c1 × Branched d c c1 b)
  or_does_so few c h = subst (λ (c1 : Counts). Does c1 (or_block inner) (λ c2 b. IsAt d c2 × Branched d c1 c2 b)) (sym (at_co d c h)) (or_at few c.statements c.roles c.branches h.length)

module _ {d s r : ℕ} {bs : List ℕ} (long : length bs ≡ 65) where
  within_more : {n : ℕ} {c : Counts} → Moved (d + 1) (co d (s + 1) r bs behind.Other) c n → Moved d (co d s r bs behind.Boundary) c (1 + n)
  within_more m = record { statements = omega (arith, m.statements); below = λ j h. m.below j (omega (arith, h)) }

  foreach_does : Does (co d s r bs behind.Boundary) foreach_text (Stated d (co d s r bs behind.Boundary))
  foreach_does =
      key_step keys.Foreach >>> λ q u. mark_step marks.LeftParen >>> λ a v. name_step tt >>> λ x w. mark_step marks.Colon >>> λ b t. range_quiet tt >>= λ l1 i over f. mark_step marks.RightParen >>> λ c y.
      after (braces_does long (λ deep s1 r1 bs1 long1. item_does (omega (arith, deep)) long1)) (λ c1 items g. done_does _ (g.0, (within_more g.1.0, (g.1.1.0, omega (arith, g.1.1.1)))))

  -- the blocks inside
  module _ (inner : Form PlainBlock) (holds : (s1 r1 : ℕ) (bs1 : List ℕ) (l : Behind) → length bs1 ≡ 65 → Does (co d s1 r1 bs1 l) inner (Blocked d (co d s1 r1 bs1 l))) where
    rec_does : Does (co d s r bs behind.Boundary) (rec_text inner) (Stated d (co d s r bs behind.Boundary))
    rec_does = key_step keys.Rec >>> λ q u. name_step tt >>> λ x v. after (holds (s + 1) r bs behind.Other long) (λ c1 b g. done_does _ (g.0, (within_more g.1.0, (g.1.1.0, omega (arith, g.1.1.1)))))

    choice_does : d ≤ 64 → Does (co d s r bs behind.Boundary) (choice_text inner) (Stated d (co d s r bs behind.Boundary))
    choice_does few =
        key_step keys.Choice >>> λ q u. name_step tt >>> λ x named. key_step keys.At >>> λ z w. plain_end_quiet tt >>= λ l1 i a f.
        after (holds (s + 1) r (slice_set bs d 1) l1 (length-set bs d 1 ∙ long)) (λ c1 b g. after (or_does_so inner holds few c1 g.0) (λ c2 b2 g2.
        after (many_do {good = Branched d} {all = Others d} {from = IsAt d} (or_does_so inner holds few) (λ c h. none_other) (λ c c3 c4 b3 bs3 p q. one_other p q) c2 g2.0) (λ c3 bs3 g3.
        let one : slice_index c1.branches d ≡ 1 = g.1.0.below d (omega arith) ∙ get_or-set_same bs d 1 0 (omega (arith, few, long)) in
        let all = chosen b b2 bs3 g.1.0 one g.1.1 g2.1 g3.1 in
        done_does _ (
          g3.0,
          (
            record { statements = omega (arith, all.0.statements); below = λ j h. all.0.below j h ∙ get_or-set_other bs d j 1 0 (λ e. omega (arith, e, h)) },
            ((named, (all.1.0, (all.1.1.0, all.1.1.1.0))), all.1.1.1.1),
          ),
        ))))

    statement_does : d ≤ 64 → Does (co d s r bs behind.Boundary) (statement inner) (Stated d (co d s r bs behind.Boundary))
    statement_does few =
        semicolon_does few long (message_does few)
        or_does foreach_does
        or_does rec_does
        or_does semicolon_does few long (continue_does few)
        or_does choice_does few
        or_does semicolon_does few long (compute_does few)
        or_does semicolon_does few long (collective_does few)

pub block_does : (n d s r : ℕ) (bs : List ℕ) (l : Behind) → length bs ≡ 65 → Does (co d s r bs l) (block n) (Blocked d (co d s r bs l))
unfolding block
block_does zero d s r bs l long =
    mark_step marks.LeftBrace >>> λ p passes. mark_step marks.RightBrace >>> λ q u.
    done_does _ (record { depth = less_one d; length = long; last = refl }, (record { statements = omega arith; below = λ j h. refl }, (tt, omega (arith, not_full 64 d quantity.Nesting passes))))
block_does (suc n) d s r bs l long =
    braces_does long (λ deep s1 r1 bs1 long1. statement_does long1 (block n) (λ s2 r2 bs2 l2 long2. block_does n (d + 1) s2 r2 bs2 l2 long2) (omega (arith, deep)))

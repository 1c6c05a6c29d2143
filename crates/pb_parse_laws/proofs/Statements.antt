-- What each statement, each block and the whole file reads.
use Rattle.std.proofs.Common.{◌≡◌, ℕ, zero, suc, ◌+◌, ◌-◌, ◌<◌, ◌≤◌, List, [], ◌∷◌, length, refl, sym, arith, subst}
use Rattle.pb_text.specs.declared.token.Token.{Token}
use Rattle.pb_text.specs.declared.token.Mark.TheVariants as marks
use Rattle.pb_text.specs.declared.token.Key.TheVariants as keys
use Rattle.pb_syntax.specs.declared.tree.RoleText.{RoleText}
use Rattle.pb_syntax.specs.Form.{Form, done, many, ManyText}
use Rattle.pb_syntax.specs.Form.{◌>>=◌ as ◌then◌}
use Rattle.pb_syntax.specs.Tree.{PlainStatement, PlainStatements, nothing, more, PlainBlock, statements_of, branches_of, PlainFile}
use Rattle.pb_syntax.specs.Grammar.{role, comma_role, roles, message_text, item_message, compute_text, collective, and_semicolon, braces, item, foreach_text, rec_text, continue_text, or_block, choice_text, statement, block, file, IsFile}
use Rattle.pb_parse.specs.Limits.{AreWithin, at_start as first_counts}
use Rattle.pb_parse.specs.declared.limits.Behind.{Behind}
use Rattle.pb_parse.specs.declared.limits.Behind.TheVariants as behind
use Rattle.pb_parse_laws.proofs.Seen.{Seen, seen_from, AreFine, at_start, fine_from}
use Rattle.pb_parse_laws.proofs.Does.{Does, Stays, seen, same_seen, done_does, weaker, after, many_stays, ◌>>>◌, ◌>>=◌, ◌or_does◌, ◌or_stays◌, fine_both, joined}
use Rattle.pb_parse_laws.proofs.Tokens.{mark_step, key_step, name_step, number_step}
use Rattle.pb_parse_laws.proofs.Forms.{not_above, op_stays, top_stays, payload_stays, range_stays, role_range_stays, plain_end_stays, any_end_stays, end_beside_stays}
use Rattle.pb_parse_laws.proofs.Shape.{IsSmallOver, AreSmallRoles, IsItem, AreItems, IsShaped, AreShaped, AreBranches, over_weight, roles_weight, weight_at, weight_in, weight_among, IsShapedFile, file_weight}

-- a statement that is such, and no longer than it is counted
abbrev Fits : (PlainStatement → Type 0) → ℕ → PlainStatement → Type 0
Fits One n s = One s × (weight_at s ≤ n)

-- a block with such statements, whose brace stands at most 64 deep
abbrev pub Holds : ℕ → (PlainStatements → Type 0) → ℕ → PlainBlock → Type 0
Holds d Each n b = (d < 64) × (Each b.list × (2 + weight_in b.list ≤ n))

and_semicolon_stays : {d r : ℕ} {l : Behind} {One : PlainStatement → Type 0} {what : Form PlainStatement} → Stays d r l what (Fits One) → Stays d r l (and_semicolon what) (Fits One)
and_semicolon_stays w = record { stays = w >>= λ l1 n s p. mark_step marks.Semicolon >>> λ q u. done_does _ (refl, (refl, (p.0, omega (arith, p.1)))) }

less_one : (d : ℕ) → d + 1 - 1 ≡ d
less_one d = omega arith

braces_stays : {d r : ℕ} {l : Behind} {inside : Form PlainStatement} (One : PlainStatement → Type 0) (Each : PlainStatements → Type 0) → Each nothing → ((s : PlainStatement) (rest : PlainStatements) → One s → Each rest → Each (more s rest))
    → (d < 64 → (l1 : Behind) → Stays (d + 1) r l1 inside (Fits One)) → Stays d r l (braces inside) (Holds d Each)
braces_stays {d} {r} {l} {inside} One Each none one_more within = record {
  stays =
      mark_step marks.LeftBrace >>> λ p deep. many_stays {all = λ n ss. Each (statements_of ss) × (weight_in (statements_of ss) ≤ n)} (within deep) (none, omega arith) (λ n k s ss p q. (one_more s (statements_of ss) p.0 q.0, omega (arith, p.1, q.1))) behind.Boundary
      >>= λ l1 n ss q. mark_step marks.RightBrace >>> λ e u. done_does _ (less_one d, (refl, (deep, (q.0, omega (arith, q.1)))));
}

module _ {d r : ℕ} (some : 0 < r) where
  item_message_stays : {l : Behind} → Stays d r l item_message (Fits IsItem)
  item_message_stays = record {
    stays =
        name_step >>> λ x u. payload_stays >>= λ l1 n p f. key_step keys.From >>> λ k v. plain_end_stays some >>= λ l2 m a g. key_step keys.To >>> λ q w. plain_end_stays some >>= λ l3 o b h.
        done_does _ (refl, (refl, ((g.0, h.0), omega (arith, f, g.1, h.1))));
  }

  compute_stays : {l : Behind} → Stays d r l compute_text (Fits IsItem)
  compute_stays = record {
    stays =
        key_step keys.Compute >>> λ k u. name_step >>> λ x v. key_step keys.At >>> λ q w. plain_end_stays some >>= λ l1 n a g. done_does _ (refl, (refl, (g.0, omega (arith, g.1))));
  }

  item_stays : {l : Behind} → Stays d r l item (Fits IsItem)
  item_stays = and_semicolon_stays item_message_stays or_stays and_semicolon_stays compute_stays

module _ {d r : ℕ} (some : 0 < r) (k : ℕ) where
  message_stays : {l : Behind} → Stays d r l message_text (Fits (IsShaped k))
  message_stays = record {
    stays =
        name_step >>> λ x u. payload_stays >>= λ l1 n p f. key_step keys.From >>> λ q v. any_end_stays some >>= λ l2 m a g. key_step keys.To >>> λ z w. end_beside_stays some a.index >>= λ l3 o b h.
        done_does _ (refl, (refl, ((g.0, h.0), omega (arith, f, g.1, h.1))));
  }

  run_stays : {l : Behind} → Stays d r l compute_text (Fits (IsShaped k))
  run_stays = record {
    stays =
        key_step keys.Compute >>> λ q u. name_step >>> λ x v. key_step keys.At >>> λ z w. plain_end_stays some >>= λ l1 n a g. done_does _ (refl, (refl, (g.0, omega (arith, g.1))));
  }

  collective_stays : {l : Behind} → Stays d r l collective (Fits (IsShaped k))
  collective_stays = record {
    stays =
        (key_step keys.Barrier >>> λ q u. done_does _ (refl, (refl, (tt, omega arith))))
        or_does (key_step keys.Broadcast >>> λ q u. name_step >>> λ x v. payload_stays >>= λ l1 n p f. key_step keys.From >>> λ z w. plain_end_stays some >>= λ l2 m a g.
        done_does _ (refl, (refl, (g.0, omega (arith, f, g.1)))))
        or_does (key_step keys.Reduce >>> λ q u. name_step >>> λ x v. payload_stays >>= λ l1 n p f. key_step keys.With >>> λ z w. op_stays >>= λ l2 m o t. key_step keys.To >>> λ y c. plain_end_stays some >>= λ l3 i a g.
        done_does _ (refl, (refl, (g.0, omega (arith, f, g.1)))))
        or_does (key_step keys.Allreduce >>> λ q u. name_step >>> λ x v. payload_stays >>= λ l1 n p f. key_step keys.With >>> λ z w. op_stays >>= λ l2 m o t.
        done_does _ (refl, (refl, (tt, omega (arith, f)))));
  }

  foreach_stays : {l : Behind} → Stays d r l foreach_text (Fits (IsShaped k))
  foreach_stays = record {
    stays =
        key_step keys.Foreach >>> λ q u. mark_step marks.LeftParen >>> λ a v. name_step >>> λ x w. mark_step marks.Colon >>> λ b t. range_stays some tt >>= λ l1 n over f. mark_step marks.RightParen >>> λ c y.
        braces_stays IsItem AreItems tt (λ s rest p q. (p, q)) (λ deep l2. item_stays some) >>= λ l3 m items g. done_does _ (refl, (refl, ((f.0, g.1.0), omega (arith, f.1, g.1.1))));
  }

  continue_stays : {l : Behind} → Stays d r l continue_text (Fits (IsShaped k))
  continue_stays = record { stays = key_step keys.Continue >>> λ q u. name_step >>> λ x v. done_does _ (refl, (refl, (tt, omega arith))) }

  -- the blocks inside
  module _ (inner : Form PlainBlock) (fewer : k < d) (holds : (j : ℕ) → j ≤ d → (l : Behind) → Stays d r l inner (Holds d (AreShaped j))) where
    rec_stays : {l : Behind} → Stays d r l (rec_text inner) (Fits (IsShaped k))
    rec_stays = record {
      stays =
          key_step keys.Rec >>> λ q u. name_step >>> λ x v. holds (suc k) fewer behind.Other >>= λ l1 n b h. done_does _ (refl, (refl, ((omega (arith, fewer, h.0), h.1.0), omega (arith, h.1.1))));
    }

    here : (l : Behind) → Stays d r l inner (Holds d (AreShaped k))
    here l = holds k (omega (arith, fewer)) l

    or_block_stays : {l : Behind} → Stays d r l (or_block inner) (Holds d (AreShaped k))
    or_block_stays = record { stays = key_step keys.Or >>> λ q u. weaker (here behind.Other).stays (λ s n b p. (p.0, (p.1.0, (p.1.1.0, (p.1.1.1.0, omega (arith, p.1.1.1.1)))))) }

    choice_stays : {l : Behind} → Stays d r l (choice_text inner) (Fits (IsShaped k))
    choice_stays = record {
      stays =
          key_step keys.Choice >>> λ q u. name_step >>> λ x v. key_step keys.At >>> λ z w. plain_end_stays some >>= λ l1 n a f. here l1 >>= λ l2 m b g. or_block_stays >>= λ l3 i c h.
          many_stays {all = λ j bs. AreBranches k (branches_of bs) × (weight_among (branches_of bs) ≤ j)} (λ l4. or_block_stays) (tt, omega arith) (λ j o b bs p q. ((p.1.0, q.0), omega (arith, p.1.1, q.1))) l3 >>= λ l5 o bs t.
          done_does _ (refl, (refl, ((f.0, (tt, (g.1.0, (h.1.0, t.0)))), omega (arith, f.1, g.1.1, h.1.1, t.1))));
    }

    statement_stays : {l : Behind} → Stays d r l (statement inner) (Fits (IsShaped k))
    statement_stays =
        and_semicolon_stays message_stays
        or_stays foreach_stays
        or_stays rec_stays
        or_stays and_semicolon_stays continue_stays
        or_stays choice_stays
        or_stays and_semicolon_stays run_stays
        or_stays and_semicolon_stays collective_stays

block_stays : (n : ℕ) {r : ℕ} → 0 < r → (d k : ℕ) → k ≤ d → (l : Behind) → Stays d r l (block n) (Holds d (AreShaped k))
unfolding block
block_stays zero some d k few l = record { stays = mark_step marks.LeftBrace >>> λ p deep. mark_step marks.RightBrace >>> λ q u. done_does _ (less_one d, (refl, (deep, (tt, omega arith)))) }
block_stays (suc n) some d k few l =
    braces_stays (IsShaped k) (AreShaped k) tt (λ s rest p q. (p, q)) (λ deep l1. statement_stays some k (block n) (omega (arith, few)) (λ j le l2. block_stays n some (d + 1) j le l2))

-- ---- files

-- a role more, of 64 at most
abbrev RoleRead : ℕ → Seen → ℕ → RoleText → Type 0
RoleRead r s n x = (s.depth ≡ 0) × ((s.roles ≡ r + 1) × ((r < 64) × (IsSmallOver x.range × (suc (over_weight x.range) ≤ n))))

role_does : (r : ℕ) {l : Behind} → Does (seen 0 r l) role (RoleRead r)
role_does r = key_step keys.Role >>> λ k few. name_step >>> λ x u. role_range_stays (omega arith) >>= λ l1 n over f. done_does _ (refl, (refl, (few, (f.0, omega (arith, f.1)))))

comma_role_does : (r : ℕ) {l : Behind} → Does (seen 0 r l) comma_role (RoleRead r)
comma_role_does r = mark_step marks.Comma >>> λ p u. weaker (role_does r) (λ s n x p. (p.0, (p.1.0, (p.1.1.0, (p.1.1.1.0, omega (arith, p.1.1.1.1))))))

-- so many roles more
record RolesRead (r : ℕ) (s : Seen) (n : ℕ) (xs : List RoleText) : Type 0 where
  depth : s.depth ≡ 0
  roles : s.roles ≡ r + length xs
  few : r ≤ 64 → r + length xs ≤ 64
  small : AreSmallRoles xs
  weight : roles_weight xs ≤ n

others_read : (r : ℕ) (l : Behind) (ts : List Token) (xs : List RoleText) → ManyText comma_role.text ts xs → AreFine (seen 0 r l) ts → RolesRead r (seen_from (seen 0 r l) ts) (length ts) xs
others_read r l ts [] e fine = rw e (record { depth = refl; roles = omega arith; few = λ h. omega (arith, h); small = tt; weight = omega arith })
others_read r l ts (x ∷ xs) h fine =
    let g = fine_both (seen 0 r l) h.0 h.1 (subst (AreFine (seen 0 r l)) h.2 fine) in
    let p = (comma_role_does r {l = l}).does h.0 x h.3 g.0 in
    let s = seen_from (seen 0 r l) h.0 in
    let same : s ≡ seen 0 (r + 1) s.last = same_seen s 0 (r + 1) p.0 p.1.0 in
    let q = others_read (r + 1) s.last h.1 xs h.4 (subst (λ (s1 : Seen). AreFine s1 h.1) same g.1) in
    joined (seen 0 r l) ts h.0 h.1 (x ∷ xs) (RolesRead r) h.2
    (subst (λ (s1 : Seen). RolesRead r (seen_from s1 h.1) (length h.0 + length h.1) (x ∷ xs)) (sym same) (one_more s _ _ _ r x xs p q))
  where
    one_more : (s s1 : Seen) (n k r : ℕ) (x : RoleText) (xs : List RoleText) → RoleRead r s n x → RolesRead (r + 1) s1 k xs → RolesRead r s1 (n + k) (x ∷ xs)
    one_more s s1 n k r x xs p q = record { depth = q.depth; roles = omega (arith, q.roles); few = λ h. omega (arith, q.few, p.1.1.0); small = (p.1.1.1.0, q.small); weight = omega (arith, p.1.1.1.1, q.weight) }

others_does : (r : ℕ) (l : Behind) → Does (seen 0 r l) (many comma_role) (RolesRead r)
unfolding many
others_does r l = record { does = λ ts xs h fine. others_read r l ts xs h fine }

first_more : (s : Seen) (n k : ℕ) (x : RoleText) (xs : List RoleText) → IsSmallOver x.range → suc (over_weight x.range) ≤ n → RolesRead 1 s k xs → RolesRead 0 s (n + (k + 0)) (x ∷ xs)
first_more s n k x xs small w q = record { depth = q.depth; roles = omega (arith, q.roles); few = λ h. omega (arith, q.few); small = (small, q.small); weight = omega (arith, w, q.weight) }

roles_does : {l : Behind} → Does (seen 0 0 l) roles (λ s n xs. RolesRead 0 s n xs × (0 < length xs))
roles_does = after (role_does 0) (λ s n x p.
    subst (λ (s1 : Seen). Does s1 (many comma_role then (λ others. done (x ∷ others))) (λ s2 k ys. RolesRead 0 s2 (n + k) ys × (0 < length ys))) (sym (same_seen s 0 1 p.0 p.1.0))
    (after (others_does 1 s.last) (λ s1 k xs q. done_does _ (first_more s1 n k x xs p.1.1.1.0 p.1.1.1.1 q, omega arith))))

file_does : (n : ℕ) → Does at_start (file (block n)) (λ s k f. IsShapedFile f × (file_weight f ≤ k))
file_does n =
    key_step keys.Const >>> λ a a1. name_step >>> λ constant b1. mark_step marks.Equals >>> λ c c1. number_step >>> λ low small. mark_step marks.Dots >>> λ e e1. top_stays >>= λ l1 m high t.
    mark_step marks.Semicolon >>> λ g g1. key_step keys.Global >>> λ h h1. key_step keys.Protocol >>> λ i i1. name_step >>> λ protocol j1. mark_step marks.LeftParen >>> λ k k1.
    after roles_does (λ s o rs p. mark_step marks.RightParen >>> λ q q1. block_stays n (omega (arith, p.0.roles, p.1)) s.depth 0 (omega arith) behind.Other >>= λ l2 w body r.
    done_does _ (record { low = not_above low.value small; few = omega (arith, p.0.few); roles = p.0.small; body = r.1.0 }, omega (arith, p.0.weight, r.1.1)))

pub file_shaped : (ts : List Token) (f : PlainFile) → IsFile ts f → AreWithin ts → IsShapedFile f × (file_weight f ≤ length ts)
file_shaped ts f h within = (file_does h.0).does ts f h.1 (fine_from first_counts ts within)

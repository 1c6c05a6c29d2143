-- The numbers of a text with subprotocols that is within the limits are small.
use Rattle.std.proofs.Common.{◌≡◌, ℕ, zero, suc, ◌+◌, ◌-◌, ◌<◌, ◌≤◌, Bool, true, false, nat_le, nat_lt, if◌then◌else◌, Some, None, List, [], ◌∷◌, length, slice_index, slice_set, refl, sym, ap, subst, ap₂, ◌∙◌, arith}
use Rattle.std.specs.Prelude.{ℤ, pos, negsuc, ◌-ℤ◌}
use Rattle.std.proofs.Math.IntN.{+ℤ_idl}
use Rattle.std.proofs.lemmas.Bool.Decides.{nat_tests}
use Rattle.std.proofs.lemmas.List.{length-set, get_or-set_same, get_or-set_other}
use Rattle.pb_text.specs.declared.place.Spot.{Spot}
use Rattle.pb_text.specs.declared.quantity.Quantity.{Quantity}
use Rattle.pb_text.specs.declared.quantity.Quantity.TheVariants as quantity
use Rattle.pb_text.specs.declared.token.Token.{Token}
use Rattle.pb_text.specs.declared.token.Mark.TheVariants as marks
use Rattle.pb_text.specs.declared.token.Key.TheVariants as keys
use Rattle.pb_syntax.specs.declared.tree.Payload.{Payload}
use Rattle.pb_syntax.specs.declared.tree.Op.{Op}
use Rattle.pb_syntax.specs.declared.tree.IndexText.{IndexText}
use Rattle.pb_syntax.specs.declared.tree.IndexText.TheVariants as index
use Rattle.pb_syntax.specs.declared.tree.RoleText.{RoleText}
use Rattle.pb_syntax.specs.Form.{Form, many, ManyText}
use Rattle.pb_syntax.specs.Form.{◌>>=◌ as ◌then◌}
use Rattle.pb_syntax.specs.Printed.{size}
use Rattle.pb_syntax.specs.Tree.{PlainStatement, Top}
use Rattle.pb_syntax.specs.Grammar.{offset, lin, range, top, role_range, role, comma_role, roles, type, count, carried, payload, op, plain_index, plain_end, after_name, bracketed, any_index, any_end, end_beside, message_text, item_message, compute_text, continue_text, collective, and_semicolon}
use Rattle.pb_parse.specs.Limits.{full, above}
use Rattle.pb_do_syntax.specs.Calls.{Call, calls_of, branches_of, PlainCallBlock, PlainCallFile}
use Rattle.pb_do_grammar.specs.Grammar.{simple, item_call, braces, foreach_text, rec_text, or_block, choice_text, comma_name, call_text, statement, block, parameter, comma_parameter, subprotocol, file, IsCallFile}
use Rattle.pb_do_parse.specs.declared.limits.Counts.{Counts}
use Rattle.pb_do_parse.specs.declared.limits.Behind.{Behind}
use Rattle.pb_do_parse.specs.declared.limits.Behind.TheVariants as behind
use Rattle.pb_do_parse.specs.declared.limits.Part.{Part}
use Rattle.pb_do_parse.specs.declared.limits.Part.TheVariants as part
use Rattle.pb_do_parse.specs.Limits.{behind_semicolon, number_behind_dots, at_start, NonePasses, AreWithin, counts_from}
use Rattle.pb_do_text_laws.specs.Limits.{IsSmallLin, IsSmallRange, IsSmallOver, IsSmallIndex, IsSmallEnd, IsSmallPayload, IsSmallPlain, AreSmallRoles, IsSmall, AreSmall, AreSmallBranches, AreSmallSubs, IsSmallFile, branch_count}
use Rattle.pb_do_parse_laws.proofs.Runs.{Runs, Leaves, none_both, after, joined, done_runs, weaker, many_runs, mark_runs, key_runs, name_runs, number_runs, count_runs, ◌>>=◌, ◌or_runs◌}

-- ---- tests of limits

pub under : (most n : ℕ) (q : Quantity) → above most n q ≡ None → n ≤ most
under most n q e = at (nat_lt most n) refl e
  where
    at : (b : Bool) → nat_lt most n ≡ b → (if b then Some q else None) ≡ None → n ≤ most
    at true h f = absurd (grind arith)
    at false h f = grind (arith, nat_tests)

pub room : (most n : ℕ) (q : Quantity) → full most n q ≡ None → n < most
room most n q e = at (nat_le most n) refl e
  where
    at : (b : Bool) → nat_le most n ≡ b → (if b then Some q else None) ≡ None → n < most
    at true h f = absurd (grind arith)
    at false h f = grind (arith, nat_tests)

-- behind the constant
abbrev pub IsBody : Part → Type 0
IsBody part.Constant = ⊥
IsBody part.Subprotocols = Unit {0}
IsBody part.Protocol = Unit {0}

under_dots : (p : Part) (n : ℕ) → IsBody p → number_behind_dots p n ≡ None → n ≤ 100000
under_dots part.Constant n body e = absurd body
under_dots part.Subprotocols n body e = under 100000 n quantity.Constant e
under_dots part.Protocol n body e = under 100000 n quantity.Constant e

same_part : (p : Part) → IsBody p → behind_semicolon p ≡ p
same_part part.Constant body = absurd body
same_part part.Subprotocols body = refl
same_part part.Protocol body = refl

-- ---- parts of statements

abbrev pub at : Behind → Counts → Counts
at l c = record c { last = l }

pub moved : {A : Type 0} {form : Form A} {post : Counts → A → Type 0} {c d : Counts} → c ≡ d → Runs d form post → Runs c form post
moved {form = form} {post = post} e r = subst (λ (b : Counts). Runs b form post) (sym e) r

minus_size : (n : ℕ) → size (pos 0 -ℤ pos n) ≡ n
minus_size zero = refl
minus_size (suc n) = ap size (+ℤ_idl (negsuc n))

module _ (c : Counts) (body : IsBody c.part) where
  offset_runs : Runs (at behind.Other c) offset (Leaves (at behind.Other c) (λ (z : ℤ). size z ≤ 100000))
  offset_runs =
      (mark_runs marks.Plus >>= λ p u. number_runs >>= λ n e. done_runs _ (refl, under 100000 n.value quantity.Constant e))
      or_runs (mark_runs marks.Minus >>= λ p u. number_runs >>= λ n e. done_runs _ (refl, subst (λ (k : ℕ). k ≤ 100000) (sym (minus_size n.value)) (under 100000 n.value quantity.Constant e)))
      or_runs done_runs _ (refl, omega arith)

  pub lin_runs : Runs (at behind.Other c) lin (Leaves (at behind.Other c) IsSmallLin)
  lin_runs =
      (number_runs >>= λ n e. done_runs _ (refl, under 100000 n.value quantity.Constant e))
      or_runs (name_runs >>= λ s u. offset_runs >>= λ z small. done_runs _ (refl, small))

  lin_behind : Runs (at behind.Dots c) lin (Leaves (at behind.Other c) IsSmallLin)
  lin_behind =
      (number_runs >>= λ n e. done_runs _ (refl, under_dots c.part n.value body e))
      or_runs (name_runs >>= λ s u. offset_runs >>= λ z small. done_runs _ (refl, small))

  pub range_runs : Runs (at behind.Other c) range (Leaves (at behind.Other c) IsSmallRange)
  range_runs = lin_runs >>= λ l e. mark_runs marks.Dots >>= λ p u. lin_behind >>= λ h f. done_runs _ (refl, (e, f))

  pub role_range_runs : Runs (at behind.Other c) role_range (Leaves (at behind.Other c) IsSmallOver)
  role_range_runs = (mark_runs marks.LeftBracket >>= λ p u. range_runs >>= λ r e. mark_runs marks.RightBracket >>= λ q v. done_runs _ (refl, e)) or_runs done_runs _ (refl, tt)

  type_runs : Runs (at behind.Other c) type (Leaves (at behind.ElementType c) (λ (make : ℕ → Payload). (n : ℕ) → n ≤ 1024 → IsSmallPayload (make n)))
  type_runs = (key_runs keys.Int32 >>= λ p u. done_runs _ (refl, λ n few. few)) or_runs (key_runs keys.Uint32 >>= λ p u. done_runs _ (refl, λ n few. few))

  -- a count, or none, leaves what the last token was open
  count_leaves : Runs (at behind.ElementType c) count (λ d n. (l : Behind) × (d ≡ at l c) × (n ≤ 1024))
  count_leaves =
      (mark_runs marks.LeftBracket >>= λ p u. count_runs >>= λ n e. mark_runs marks.RightBracket >>= λ q v. done_runs _ (behind.Other, refl, under 1024 n.value quantity.PayloadCount e))
      or_runs done_runs _ (behind.ElementType, refl, omega arith)

  carried_leaves : Runs (at behind.Other c) carried (λ d p. (l : Behind) × (d ≡ at l c) × IsSmallPayload p)
  carried_leaves =
      (type_runs >>= λ make small. after count_leaves (λ d n h. done_runs _ (h.0, h.1, small n h.2)))
      or_runs done_runs _ (behind.Other, refl, tt)

  pub payload_runs : Runs (at behind.Other c) payload (Leaves (at behind.Other c) IsSmallPayload)
  payload_runs = mark_runs marks.LeftParen >>= λ p u. after carried_leaves (λ d x h. moved h.1 (mark_runs marks.RightParen >>= λ q v. done_runs _ (refl, h.2)))

  pub op_runs : Runs (at behind.Other c) op (Leaves (at behind.Other c) (λ (o : Op). Unit {0}))
  op_runs =
      (key_runs keys.Min >>= λ p u. done_runs _ (refl, tt))
      or_runs (key_runs keys.Max >>= λ p u. done_runs _ (refl, tt))
      or_runs (key_runs keys.Sum >>= λ p u. done_runs _ (refl, tt))

  pub plain_index_runs : Runs (at behind.Other c) plain_index (Leaves (at behind.Other c) IsSmallIndex)
  plain_index_runs = (mark_runs marks.LeftBracket >>= λ p u. lin_runs >>= λ l e. mark_runs marks.RightBracket >>= λ q v. done_runs _ (refl, e)) or_runs done_runs _ (refl, tt)

  plain_end_runs : Runs (at behind.Other c) plain_end (Leaves (at behind.Other c) IsSmallEnd)
  plain_end_runs = name_runs >>= λ s u. plain_index_runs >>= λ i e. done_runs _ (refl, e)

  after_name_runs : (first : Spot) → Runs (at behind.Other c) (after_name first) (Leaves (at behind.Other c) IsSmallIndex)
  after_name_runs first =
      (mark_runs marks.Colon >>= λ p u. range_runs >>= λ r e. done_runs _ (refl, e))
      or_runs (offset_runs >>= λ z e. done_runs _ (refl, e))

  bracketed_runs : Runs (at behind.Other c) bracketed (Leaves (at behind.Other c) IsSmallIndex)
  bracketed_runs =
      (number_runs >>= λ n e. done_runs _ (refl, under 100000 n.value quantity.Constant e))
      or_runs (name_runs >>= λ s u. after_name_runs s)

  pub any_index_runs : Runs (at behind.Other c) any_index (Leaves (at behind.Other c) IsSmallIndex)
  any_index_runs = (mark_runs marks.LeftBracket >>= λ p u. bracketed_runs >>= λ i e. mark_runs marks.RightBracket >>= λ q v. done_runs _ (refl, e)) or_runs done_runs _ (refl, tt)

  any_end_runs : Runs (at behind.Other c) any_end (Leaves (at behind.Other c) IsSmallEnd)
  any_end_runs = name_runs >>= λ s u. any_index_runs >>= λ i e. done_runs _ (refl, e)

  end_beside_runs : (i : IndexText) → Runs (at behind.Other c) (end_beside i) (Leaves (at behind.Other c) IsSmallEnd)
  end_beside_runs (index.Bind x over) = plain_end_runs
  end_beside_runs index.Zero = any_end_runs
  end_beside_runs (index.At l) = any_end_runs

-- ---- statements without braces

-- a statement more
abbrev pub started : Counts → Counts
started c = record c { statements = c.statements + 1 }

abbrev Leaf : Counts → Form PlainStatement → Type 0
Leaf c form = Runs (at behind.Boundary c) form (Leaves (at behind.Other (started c)) IsSmallPlain)

module _ (c : Counts) (body : IsBody c.part) where
  message_runs : Leaf c message_text
  message_runs =
      name_runs >>= λ l u. payload_runs (started c) body >>= λ p e. key_runs keys.From >>= λ k v. any_end_runs (started c) body >>= λ f g. key_runs keys.To >>= λ m w.
      end_beside_runs (started c) body f.index >>= λ t h. done_runs _ (refl, (e, (g, h)))

  item_message_runs : Leaf c item_message
  item_message_runs =
      name_runs >>= λ l u. payload_runs (started c) body >>= λ p e. key_runs keys.From >>= λ k v. plain_end_runs (started c) body >>= λ f g. key_runs keys.To >>= λ m w.
      plain_end_runs (started c) body >>= λ t h. done_runs _ (refl, (e, (g, h)))

  compute_runs : Leaf c compute_text
  compute_runs = key_runs keys.Compute >>= λ p u. name_runs >>= λ k v. key_runs keys.At >>= λ q w. plain_end_runs (started c) body >>= λ e f. done_runs _ (refl, f)

  continue_runs : Leaf c continue_text
  continue_runs = key_runs keys.Continue >>= λ p u. name_runs >>= λ s v. done_runs _ (refl, tt)

  collective_runs : Leaf c collective
  collective_runs =
      (key_runs keys.Barrier >>= λ p u. done_runs _ (refl, tt))
      or_runs (key_runs keys.Broadcast >>= λ q u. name_runs >>= λ l v. payload_runs (started c) body >>= λ p e. key_runs keys.From >>= λ k w. plain_end_runs (started c) body >>= λ f g. done_runs _ (refl, (e, g)))
      or_runs (key_runs keys.Reduce >>= λ q u. name_runs >>= λ l v. payload_runs (started c) body >>= λ p e. key_runs keys.With >>= λ k w. op_runs (started c) body >>= λ o x. key_runs keys.To >>= λ m y.
      plain_end_runs (started c) body >>= λ t g. done_runs _ (refl, (e, g)))
      or_runs (key_runs keys.Allreduce >>= λ q u. name_runs >>= λ l v. payload_runs (started c) body >>= λ p e. key_runs keys.With >>= λ k w. op_runs (started c) body >>= λ o x. done_runs _ (refl, e))

-- ---- between statements

-- braces and roles are as they were, and branches that were counted below a depth
pub record Kept (below : ℕ) (c d : Counts) : Type 0 where
  pub depth : d.depth ≡ c.depth
  pub roles : d.roles ≡ c.roles
  pub here : d.part ≡ c.part
  pub last : d.last ≡ behind.Boundary
  pub wide : length d.branches ≡ 65
  pub kept : (i : ℕ) → i < below → slice_index d.branches i ≡ slice_index c.branches i

pub record Start (c : Counts) : Type 0 where
  pub last : c.last ≡ behind.Boundary
  pub body : IsBody c.part
  pub wide : length c.branches ≡ 65
  pub few : c.depth ≤ 64

one_further : (below b : ℕ) (c d e : Counts) → below ≤ b → Kept below c d → Kept b d e → Kept below c e
one_further below b c d e few h g = record {
  depth = g.depth ∙ h.depth;
  roles = g.roles ∙ h.roles;
  here = g.here ∙ h.here;
  last = g.last;
  wide = g.wide;
  kept = λ i less. g.kept i (omega (arith, few, less)) ∙ h.kept i less;
}

pub from_boundary : {A : Type 0} {form : Form A} {post : Counts → A → Type 0} (c : Counts) → c.last ≡ behind.Boundary → Runs (at behind.Boundary c) form post → Runs c form post
from_boundary c e r = moved (ap (λ (l : Behind). at l c) e) r

-- a statement leaves what is counted so, and is small
abbrev Small : Counts → Counts → Call → Type 0
Small c d s = Kept c.depth c d × IsSmall s

pub semicolon_kept : (c : Counts) → IsBody c.part → length c.branches ≡ 65 → Kept c.depth c (record (started c) { last = behind.Boundary; part = behind_semicolon c.part })
semicolon_kept c body wide = record { depth = refl; roles = refl; here = same_part c.part body; last = refl; wide = wide; kept = λ i less. refl }

semicolon_runs : (c : Counts) → IsBody c.part → length c.branches ≡ 65 → (form : Form PlainStatement) → Leaf c form → Runs (at behind.Boundary c) (and_semicolon form) (λ d s. Kept c.depth c d × IsSmallPlain s)
semicolon_runs c body wide form r = r >>= λ s e. mark_runs marks.Semicolon >>= λ p u. done_runs _ (semicolon_kept c body wide, e)

simple_runs : (c : Counts) → Start c → (form : Form PlainStatement) → Leaf c form → Runs c (simple form) (Small c)
simple_runs c start form r = from_boundary c start.last (after (semicolon_runs c start.body start.wide form r) (λ d s h. done_runs _ h))

item_runs : (c : Counts) → Start c → Runs c item_call (Small c)
item_runs c start =
    from_boundary c start.last
    (after (semicolon_runs c start.body start.wide item_message (item_message_runs c start.body) or_runs semicolon_runs c start.body start.wide compute_text (compute_runs c start.body)) (λ d s h. done_runs _ h))

-- ---- blocks

abbrev SmallBlock : Counts → Counts → PlainCallBlock → Type 0
SmallBlock c d b = Kept (c.depth + 1) c d × AreSmall b.list

abbrev pub inner : Counts → Counts
inner c = record c { depth = c.depth + 1; last = behind.Boundary }

pub start_in : (c d : Counts) → IsBody c.part → c.depth < 64 → Kept (inner c).depth (inner c) d → Start d
start_in c d body few h = record { last = h.last; body = subst IsBody (sym h.here) body; wide = h.wide; few = omega (arith, few, h.depth) }

pub left : (c d : Counts) → Kept (inner c).depth (inner c) d → Kept (c.depth + 1) c (record d { depth = d.depth - 1; last = behind.Boundary })
left c d h = record { depth = omega (arith, h.depth); roles = h.roles; here = h.here; last = refl; wide = h.wide; kept = h.kept }

pub same_depth : (c d e : Counts) → Kept (inner c).depth (inner c) d → Kept d.depth d e → Kept (inner c).depth (inner c) e
same_depth c d e h g = one_further (inner c).depth d.depth (inner c) d e (omega (arith, h.depth)) h g

braces_runs : (inside : Form Call) → ((d : Counts) → Start d → Runs d inside (Small d)) → (c : Counts) → IsBody c.part → length c.branches ≡ 65 → Runs (at behind.Other c) (braces inside) (SmallBlock c)
braces_runs inside each c body wide =
    mark_runs marks.LeftBrace >>= λ p e.
    let few = room 64 c.depth quantity.Nesting e in
    let none : Kept (inner c).depth (inner c) (inner c) = record { depth = refl; roles = refl; here = refl; last = refl; wide = wide; kept = λ i less. refl } in
    after (many_runs {all = λ xs. AreSmall (calls_of xs)} (λ d h. weaker (each d (start_in c d body few h)) (λ e x g. (same_depth c d e h g.0, g.1))) tt (λ x xs small all. (small, all)) (inner c) none)
    (λ d xs h. mark_runs marks.RightBrace >>= λ q u. done_runs _ (left c d h.0, h.1))

-- ---- statements with braces

pub of_started : (c d : Counts) → Kept (c.depth + 1) (started c) d → Kept c.depth c d
of_started c d h = record { depth = h.depth; roles = h.roles; here = h.here; last = h.last; wide = h.wide; kept = λ i less. h.kept i (omega (arith, less)) }

foreach_runs : (c : Counts) → Start c → Runs c foreach_text (Small c)
foreach_runs c start = from_boundary c start.last (
    key_runs keys.Foreach >>= λ p u. mark_runs marks.LeftParen >>= λ q v. name_runs >>= λ x w. mark_runs marks.Colon >>= λ r y. range_runs (started c) start.body >>= λ over e. mark_runs marks.RightParen >>= λ s z.
    after (braces_runs item_call item_runs (started c) start.body start.wide) (λ d b h. done_runs _ (of_started c d h.0, (e, h.1))))

call_runs : (c : Counts) → Start c → Runs c call_text (Small c)
call_runs c start = from_boundary c start.last (
    key_runs keys.Do >>= λ p u. name_runs >>= λ f v. mark_runs marks.LeftParen >>= λ q w. name_runs >>= λ x y.
    after (many_runs {a = comma_name} {keeps = λ d. d ≡ at behind.Other (started c)} {good = λ x. Unit {0}} {all = λ xs. Unit {0}}
    (λ d e. moved e (mark_runs marks.Comma >>= λ r z. weaker name_runs (λ d2 x2 h. (h.0, tt)))) tt (λ x2 xs g all. tt) (at behind.Other (started c)) refl)
    (λ d xs h. moved h.0 (mark_runs marks.RightParen >>= λ r z. mark_runs marks.Semicolon >>= λ s t. done_runs _ (semicolon_kept c start.body start.wide, tt))))

-- so many branches were counted at this depth
pub record Branched (c : Counts) (q : ℕ) (d : Counts) : Type 0 where
  pub same : Kept c.depth c d
  pub counted : slice_index d.branches c.depth ≡ q

abbrev pub choosing : Counts → Counts
choosing c = record c { statements = c.statements + 1; branches = slice_set c.branches c.depth 1 }

abbrev pub offering : Counts → Counts
offering d = record d { branches = slice_set d.branches d.depth (slice_index d.branches d.depth + 1) }

pub first_branch : (c d : Counts) → Start c → Kept (c.depth + 1) (choosing c) d → Branched c 1 d
first_branch c d start h = record {
  same = record {
    depth = h.depth;
    roles = h.roles;
    here = h.here;
    last = h.last;
    wide = h.wide;
    kept = λ i less. h.kept i (omega (arith, less)) ∙ get_or-set_other c.branches c.depth i 1 0 (λ e. omega (arith, less, e));
  };
  counted = h.kept c.depth (omega arith) ∙ get_or-set_same c.branches c.depth 1 0 (omega (arith, start.wide, start.few));
}

pub next_branch : (c d e : Counts) (q : ℕ) → Start c → Branched c q d → Kept (d.depth + 1) (offering d) e → Branched c (q + 1) e
next_branch c d e q start h g =
    let v = slice_index d.branches d.depth + 1 in
    let was : slice_index d.branches d.depth ≡ q = ap (slice_index d.branches) h.same.depth ∙ h.counted in
    let set : slice_index (slice_set d.branches d.depth v) d.depth ≡ v = get_or-set_same d.branches d.depth v 0 (omega (arith, h.same.wide, h.same.depth, start.few)) in
    let now : slice_index e.branches d.depth ≡ q + 1 = g.kept d.depth (omega arith) ∙ set ∙ ap (λ (k : ℕ). k + 1) was in
    record {
      same = record {
        depth = g.depth ∙ h.same.depth;
        roles = g.roles ∙ h.same.roles;
        here = g.here ∙ h.same.here;
        last = g.last;
        wide = g.wide;
        kept = λ i less. g.kept i (omega (arith, less, h.same.depth)) ∙ get_or-set_other d.branches d.depth i v 0 (λ x. omega (arith, less, x, h.same.depth)) ∙ h.same.kept i less;
      };
      counted = ap (slice_index e.branches) (sym h.same.depth) ∙ now;
    }

count_is : (bs : List PlainCallBlock) → branch_count (branches_of bs) ≡ length bs
count_is [] = refl
count_is (b ∷ bs) = ap suc (count_is bs)

module _ (inside : Form PlainCallBlock) (each : (c : Counts) → IsBody c.part → length c.branches ≡ 65 → Runs (at behind.Other c) inside (SmallBlock c)) where
  rec_runs : (c : Counts) → Start c → Runs c (rec_text inside) (Small c)
  rec_runs c start = from_boundary c start.last (
      key_runs keys.Rec >>= λ p u. name_runs >>= λ x v. after (each (started c) start.body start.wide) (λ d b h. done_runs _ (of_started c d h.0, h.1)))

  or_runs_on : (c d : Counts) (q : ℕ) → Start c → Branched c q d → Runs d (or_block inside) (λ e b. (Branched c (q + 1) e × (q < 64)) × AreSmall b.list)
  or_runs_on c d q start h = from_boundary d h.same.last (
      key_runs keys.Or >>= λ p e.
      let few : q < 64 = omega (arith, room 64 (slice_index d.branches d.depth) quantity.Branches e, ap (slice_index d.branches) h.same.depth, h.counted) in
      weaker (each (offering d) (subst IsBody (sym h.same.here) start.body) (length-set d.branches d.depth _ ∙ h.same.wide)) (λ e2 b g. ((next_branch c d e2 q start h g.0, few), g.1)))

  others_run : (c : Counts) → Start c → (bs : List PlainCallBlock) (ts : List Token) (d : Counts) (q : ℕ) → Branched c q d → q ≤ 64 → ManyText (or_block inside).text ts bs → NonePasses d ts
      → Kept c.depth c (counts_from d ts) × ((q + length bs ≤ 64) × AreSmallBranches (branches_of bs))
  others_run c start [] ts d q h few e none = rw e (h.same, (omega (arith, few), tt))
  others_run c start (b ∷ bs) ts d q h few w none =
      let g = none_both d w.0 w.1 (subst (NonePasses d) w.2 none) in
      let p = (or_runs_on c d q start h).runs w.0 b w.3 g.0 in
      let r = others_run c start bs w.1 (counts_from d w.0) (q + 1) p.0.0 (omega (arith, p.0.1)) w.4 g.1 in
      joined d ts w.0 w.1 (b ∷ bs) (λ e ys. Kept c.depth c e × ((q + length ys ≤ 64) × AreSmallBranches (branches_of ys))) w.2 (r.0, (omega (arith, r.1.0), (p.1, r.1.1)))

  others_runs : (c d : Counts) (q : ℕ) → Start c → Branched c q d → q ≤ 64 → Runs d (many (or_block inside)) (λ e bs. Kept c.depth c e × ((q + length bs ≤ 64) × AreSmallBranches (branches_of bs)))
  unfolding many
  others_runs c d q start h few = record { runs = λ ts bs w none. others_run c start bs ts d q h few w none }

  choice_runs : (c : Counts) → Start c → Runs c (choice_text inside) (Small c)
  choice_runs c start = from_boundary c start.last (
      key_runs keys.Choice >>= λ p u. name_runs >>= λ k v. key_runs keys.At >>= λ q w. plain_end_runs (choosing c) start.body >>= λ who e.
      after (each (choosing c) start.body (length-set c.branches c.depth 1 ∙ start.wide)) (λ d1 first h.
      after (or_runs_on c d1 1 start (first_branch c d1 start h.0)) (λ d2 second g.
      after (others_runs c d2 2 start g.0.0 (omega arith)) (λ d3 bs o.
      done_runs _ (o.0, (e, (omega (arith, o.1.0, count_is bs), (h.1, (g.1, o.1.1)))))))))

  statement_runs : (c : Counts) → Start c → Runs c (statement inside) (Small c)
  statement_runs c start =
      simple_runs c start message_text (message_runs c start.body)
      or_runs foreach_runs c start
      or_runs rec_runs c start
      or_runs simple_runs c start continue_text (continue_runs c start.body)
      or_runs choice_runs c start
      or_runs simple_runs c start compute_text (compute_runs c start.body)
      or_runs call_runs c start
      or_runs simple_runs c start collective (collective_runs c start.body)

pub block_runs : (n : ℕ) (c : Counts) → IsBody c.part → length c.branches ≡ 65 → Runs (at behind.Other c) (block n) (SmallBlock c)
unfolding block
block_runs zero c body wide =
    mark_runs marks.LeftBrace >>= λ p e. mark_runs marks.RightBrace >>= λ q u.
    done_runs _ (left c (inner c) (record { depth = refl; roles = refl; here = refl; last = refl; wide = wide; kept = λ i less. refl }), tt)
block_runs (suc n) c body wide = braces_runs (statement (block n)) (statement_runs (block n) (block_runs n)) c body wide

-- ---- subprotocols

-- in the part of the subprotocols
abbrev called : Counts → Counts
called d = record d { part = part.Subprotocols }

parameter_runs : (d : Counts) → Runs (at behind.Other (called d)) parameter (Leaves (at behind.Other (called d)) (λ (s : Spot). Unit {0}))
parameter_runs d = key_runs keys.Role >>= λ p u. weaker name_runs (λ e s h. (h.0, tt))

comma_parameter_runs : (d e : Counts) → e ≡ at behind.Other (called d) → Runs e comma_parameter (λ b s. (b ≡ at behind.Other (called d)) × Unit {0})
comma_parameter_runs d e same = moved same (mark_runs marks.Comma >>= λ p u. parameter_runs d)

parameters_run : (d : Counts) → Runs (at behind.Other (called d)) (many comma_parameter) (λ e xs. (e ≡ at behind.Other (called d)) × Unit {0})
parameters_run d =
    many_runs {a = comma_parameter} {keeps = λ e. e ≡ at behind.Other (called d)} {good = λ s. Unit {0}} {all = λ xs. Unit {0}} (comma_parameter_runs d) tt (λ x xs g all. tt) (at behind.Other (called d)) refl

-- before the first subprotocol
abbrev behind_constant : Counts
behind_constant = record at_start { last = behind.Boundary; part = part.Subprotocols }

called_again : (d : Counts) → Kept 0 behind_constant d → d ≡ at behind.Boundary (called d)
called_again d h = ap₂ (λ (l : Behind) (p : Part). record d { last = l; part = p }) h.last h.here

sub_kept : (d e : Counts) → Kept 0 behind_constant d → Kept (d.depth + 1) (called d) e → Kept 0 behind_constant e
sub_kept d e h g = record {
  depth = g.depth ∙ h.depth;
  roles = g.roles ∙ h.roles;
  here = g.here;
  last = g.last;
  wide = g.wide;
  kept = λ i less. absurd (omega (arith, less));
}

subprotocol_runs : (n : ℕ) (d : Counts) → Kept 0 behind_constant d → Runs d (subprotocol (block n)) (λ e s. Kept 0 behind_constant e × AreSmall s.body.list)
subprotocol_runs n d h = moved (called_again d h) (
    key_runs keys.Protocol >>= λ p u. name_runs >>= λ f v. mark_runs marks.LeftParen >>= λ q w. parameter_runs d >>= λ x y.
    after (parameters_run d) (λ b xs g. moved g.0 (mark_runs marks.RightParen >>= λ r z.
    after (block_runs n (called d) tt h.wide) (λ e body s. done_runs _ (sub_kept d e h s.0, s.1)))))

-- ---- the protocol

abbrev roled : Counts → ℕ → Counts
roled d r = record d { part = part.Protocol; roles = r }

-- a role more, of 64 at most
role_runs : (d : Counts) (r : ℕ) → Runs (at behind.Other (roled d r)) role (Leaves (at behind.Other (roled d (r + 1))) (λ (x : RoleText). (r < 64) × IsSmallOver x.range))
role_runs d r = key_runs keys.Role >>= λ p e. name_runs >>= λ s u. role_range_runs (roled d (r + 1)) tt >>= λ over f. done_runs _ (refl, (room 64 r quantity.Roles e, f))

comma_role_runs : (d : Counts) (r : ℕ) → Runs (at behind.Other (roled d r)) comma_role (Leaves (at behind.Other (roled d (r + 1))) (λ (x : RoleText). (r < 64) × IsSmallOver x.range))
comma_role_runs d r = mark_runs marks.Comma >>= λ p u. role_runs d r

abbrev RolesRead : Counts → ℕ → Counts → List RoleText → Type 0
RolesRead d r e xs = (e ≡ at behind.Other (roled d (r + length xs))) × ((r ≤ 64 → r + length xs ≤ 64) × AreSmallRoles xs)

roles_read : (d : Counts) (xs : List RoleText) (r : ℕ) (ts : List Token) → ManyText comma_role.text ts xs → NonePasses (at behind.Other (roled d r)) ts → RolesRead d r (counts_from (at behind.Other (roled d r)) ts) xs
roles_read d [] r ts e none =
    let same : r ≡ r + 0 = omega arith in
    rw e (ap (λ (k : ℕ). at behind.Other (roled d k)) same, (λ few. omega (arith, few), tt))
roles_read d (x ∷ xs) r ts h none =
    let c = at behind.Other (roled d r) in
    let g = none_both c h.0 h.1 (subst (NonePasses c) h.2 none) in
    let p = (comma_role_runs d r).runs h.0 x h.3 g.0 in
    let q = roles_read d xs (r + 1) h.1 h.4 (subst (λ (b : Counts). NonePasses b h.1) p.0 g.1) in
    let back : RolesRead d (r + 1) (counts_from (counts_from c h.0) h.1) xs = subst (λ (b : Counts). RolesRead d (r + 1) (counts_from b h.1) xs) (sym p.0) q in
    joined c ts h.0 h.1 (x ∷ xs) (RolesRead d r) h.2 (one_more back.0 back.1.0 back.1.1 p.1.0 p.1.1)
  where
    one_more : {e : Counts} → e ≡ at behind.Other (roled d (r + 1 + length xs)) → (r + 1 ≤ 64 → r + 1 + length xs ≤ 64) → AreSmallRoles xs → r < 64 → IsSmallOver x.range → RolesRead d r e (x ∷ xs)
    one_more same most small few over =
        let count : r + 1 + length xs ≡ r + suc (length xs) = omega arith in
        let most_here : r + 1 + length xs ≤ 64 = most (omega (arith, few)) in
        (same ∙ ap (λ (k : ℕ). at behind.Other (roled d k)) count, (λ le. omega (arith, most_here), (over, small)))

comma_roles_run : (d : Counts) (r : ℕ) → Runs (at behind.Other (roled d r)) (many comma_role) (RolesRead d r)
unfolding many
comma_roles_run d r = record { runs = λ ts xs h none. roles_read d xs r ts h none }

-- all roles
abbrev AllRoles : Counts → Counts → List RoleText → Type 0
AllRoles d e xs = (r : ℕ) × (e ≡ at behind.Other (roled d r)) × (length xs ≤ 64) × AreSmallRoles xs

roles_run : (d : Counts) → Runs (at behind.Other (roled d 0)) roles (AllRoles d)
roles_run d =
    role_runs d 0 >>= λ x e. after (comma_roles_run d (0 + 1)) (λ b xs h.
    let most : 0 + 1 + length xs ≤ 64 = h.1.0 (omega arith) in
    done_runs _ (0 + 1 + length xs, h.0, omega (arith, most), (e.1, h.1.1)))

pub top_runs : Runs (at behind.Dots at_start) top (Leaves at_start (λ (t : Top). Unit {0}))
top_runs = (number_runs >>= λ n e. done_runs _ (refl, tt)) or_runs (key_runs keys.Max >>= λ p u. done_runs _ (refl, tt))

subs_run : (n : ℕ) → Runs behind_constant (many (subprotocol (block n))) (λ e ss. Kept 0 behind_constant e × AreSmallSubs ss)
subs_run n =
    let none : Kept 0 behind_constant behind_constant = record { depth = refl; roles = refl; here = refl; last = refl; wide = refl; kept = λ i less. refl } in
    many_runs {all = AreSmallSubs} (subprotocol_runs n) tt (λ x xs small all. (small, all)) behind_constant none

roled_again : (d : Counts) → d.roles ≡ 0 → record d { last = behind.Other; part = part.Protocol } ≡ at behind.Other (roled d 0)
roled_again d e = ap (λ (r : ℕ). record d { last = behind.Other; part = part.Protocol; roles = r }) e

file_runs : (n : ℕ) → Runs at_start (file (block n)) (λ d f. IsSmallFile f)
file_runs n =
    key_runs keys.Const >>= λ p u. name_runs >>= λ constant v. mark_runs marks.Equals >>= λ q w. number_runs >>= λ low e. mark_runs marks.Dots >>= λ r x. top_runs >>= λ high y. mark_runs marks.Semicolon >>= λ s z.
    after (subs_run n) (λ d subs h. key_runs keys.Global >>= λ p1 u1. moved (roled_again d h.0.roles) (key_runs keys.Protocol >>= λ q1 v1. name_runs >>= λ protocol w1. mark_runs marks.LeftParen >>= λ r1 x1.
    after (roles_run d) (λ b list g. moved g.1 (mark_runs marks.RightParen >>= λ s1 z1. after (block_runs n (roled d g.0) tt h.0.wide) (λ last body k.
    done_runs _ (record { subs = h.1; low = under 100000 low.value quantity.Constant e; few = g.2; roles = g.3; body = k.1 }))))))

-- a file of a text within the limits
pub small_file : (ts : List Token) (f : PlainCallFile) → IsCallFile ts f → AreWithin ts → IsSmallFile f
small_file ts f h within = (file_runs h.0).runs ts f h.1 within

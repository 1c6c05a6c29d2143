-- The statements of a text with strips that is within the limits are small.
use Rattle.std.proofs.Common.{◌≡◌, ℕ, zero, suc, ◌+◌, ◌-◌, ◌<◌, ◌≤◌, List, [], ◌∷◌, length, slice_index, refl, sym, ap, subst, ◌∙◌, arith}
use Rattle.std.proofs.lemmas.List.{length-set}
use Rattle.pb_text.specs.declared.quantity.Quantity.TheVariants as quantity
use Rattle.pb_text.specs.declared.token.Token.{Token}
use Rattle.pb_text.specs.declared.token.Mark.TheVariants as marks
use Rattle.pb_text.specs.declared.token.Key.TheVariants as keys
use Rattle.pb_syntax.specs.Form.{Form, many, ManyText, ◌or◌}
use Rattle.pb_do_parse.specs.declared.limits.Counts.{Counts}
use Rattle.pb_do_parse.specs.declared.limits.Behind.TheVariants as behind
use Rattle.pb_do_parse.specs.Limits.{NonePasses, counts_from}
use Rattle.pb_do_parse_laws.proofs.Runs.{Runs, none_both, after, joined, done_runs, weaker, many_runs, mark_runs, key_runs, name_runs, number_runs, ◌>>=◌, ◌or_runs◌}
use Rattle.pb_do_parse_laws.proofs.Small.{room, IsBody, at, range_runs, started, Kept, Start, from_boundary, semicolon_kept, inner, start_in, left, same_depth, of_started, Branched, choosing, offering, first_branch, next_branch}
use Rattle.pb_strips_syntax.specs.Strips.{Strip, message, foreach, loop, again, choice, compute, barrier, broadcast, reduce, allreduce, columns, Strips, nothing, more, StripBranches, no_branch, branch, strips_of, branches_of, PlainStripBlock}
use Rattle.pb_strips_grammar.specs.Grammar.{message_text, item_message, compute_text, continue_text, collective, and_semicolon, item, braces, columns_text, foreach_text, items, items_or_columns, rec_text, or_block, choice_text, statement, column_block, block}
use Rattle.pb_strips_text_laws.specs.Limits.{branch_count, IsSmall, AreSmall, AreSmallBranches}
use Rattle.pb_strips_parse_laws.proofs.Ends.{Leaf, plain_end_runs, message_runs, item_message_runs, compute_runs, continue_runs, collective_runs}

-- ---- where more braces may be opened

mutual
  deeper : (s : Strip) (l k : ℕ) → l ≤ k → IsSmall l s → IsSmall k s
  deeper (message label carries from to) l k le small = small
  deeper (foreach place var over at list) l k le small = (omega (arith, le, small.0), (small.1.0, all_deeper list (l - 1) (k - 1) (omega (arith, le)) small.1.1))
  deeper (loop place name at body) l k le small = (omega (arith, le, small.0), all_deeper body (l - 1) (k - 1) (omega (arith, le)) small.1)
  deeper (again place name) l k le small = tt
  deeper (choice place kernel who branches) l k le small =
      (omega (arith, le, small.0), (small.1.0, (small.1.1.0, branches_deeper branches (l - 1) (k - 1) (omega (arith, le)) small.1.1.1)))
  deeper (compute place kernel who) l k le small = small
  deeper (barrier place) l k le small = tt
  deeper (broadcast place label carries from) l k le small = small
  deeper (reduce place label carries by to) l k le small = small
  deeper (allreduce place label carries by) l k le small = small
  deeper (columns place var low high at body) l k le small = all_deeper body l k le small

  all_deeper : (ss : Strips) (l k : ℕ) → l ≤ k → AreSmall l ss → AreSmall k ss
  all_deeper nothing l k le small = tt
  all_deeper (more s rest) l k le small = (deeper s l k le small.0, all_deeper rest l k le small.1)

  branches_deeper : (bs : StripBranches) (l k : ℕ) → l ≤ k → AreSmallBranches l bs → AreSmallBranches k bs
  branches_deeper no_branch l k le small = tt
  branches_deeper (branch at first rest) l k le small = (all_deeper first l k le small.0, branches_deeper rest l k le small.1)

same_small : (l k : ℕ) (ss : Strips) → l ≡ k → AreSmall l ss → AreSmall k ss
same_small l k ss e small = subst (λ (n : ℕ). AreSmall n ss) e small

-- ---- statements without braces

-- a statement leaves what is counted so, and is small
abbrev Small : Counts → Counts → Strip → Type 0
Small c d s = Kept c.depth c d × IsSmall (64 - c.depth) s

semicolon_runs : (c : Counts) → Start c → (form : Form Strip) → Leaf c form → Runs c (and_semicolon form) (Small c)
semicolon_runs c start form r = from_boundary c start.last (r >>= λ s e. mark_runs marks.Semicolon >>= λ p u. done_runs _ (semicolon_kept c start.body start.wide, e))

item_runs : (c : Counts) → Start c → Runs c item (Small c)
item_runs c start = semicolon_runs c start item_message (item_message_runs c start.body) or_runs semicolon_runs c start compute_text (compute_runs c start.body)

-- ---- blocks

-- a block in braces that may be opened
abbrev pub SmallBlock : Counts → Counts → PlainStripBlock → Type 0
SmallBlock c d b = Kept (c.depth + 1) c d × ((c.depth < 64) × AreSmall (63 - c.depth) b.list)

abbrev pub Inside : Form PlainStripBlock → Type 0
Inside block = (c : Counts) → IsBody c.part → length c.branches ≡ 65 → Runs (at behind.Other c) block (SmallBlock c)

braces_runs : (form : Form Strip) → ((d : Counts) → Start d → Runs d form (Small d)) → Inside (braces form)
braces_runs form each c body wide =
    mark_runs marks.LeftBrace >>= λ p e.
    let few = room 64 c.depth quantity.Nesting e in
    let none : Kept (inner c).depth (inner c) (inner c) = record { depth = refl; roles = refl; here = refl; last = refl; wide = wide; kept = λ i less. refl } in
    after (many_runs {all = λ xs. AreSmall (63 - c.depth) (strips_of xs)} (λ d h. weaker (each d (start_in c d body few h)) (λ e2 x g. (same_depth c d e2 h g.0, here d x h.depth g.1))) tt (λ x xs small all. (small, all)) (inner c) none)
    (λ d xs h. mark_runs marks.RightBrace >>= λ q u. done_runs _ (left c d h.0, (few, h.1)))
  where
    here : (d : Counts) (x : Strip) → d.depth ≡ c.depth + 1 → IsSmall (64 - d.depth) x → IsSmall (63 - c.depth) x
    here d x e small = let same : 64 - d.depth ≡ 63 - c.depth = omega (arith, e) in subst (λ (n : ℕ). IsSmall n x) same small

-- ---- statements with braces

within_one : (n : ℕ) → 63 - n ≡ 64 - n - 1
within_one n = omega arith

columns_runs : (inside : Form PlainStripBlock) → Inside inside → (c : Counts) → Start c → Runs c (columns_text inside) (Small c)
columns_runs inside each c start = from_boundary c start.last (
    key_runs keys.Do >>= λ p u. mark_runs marks.LeftParen >>= λ q v. name_runs >>= λ x w. mark_runs marks.Colon >>= λ r y. number_runs >>= λ low e. mark_runs marks.Dots >>= λ s z. number_runs >>= λ high f. mark_runs marks.RightParen >>= λ t o.
    after (each (started c) start.body start.wide) (λ d b h. done_runs _ (of_started c d h.0, all_deeper b.list (63 - c.depth) (64 - c.depth) (omega arith) h.1.1)))

foreach_runs : (inside : Form PlainStripBlock) → Inside inside → (c : Counts) → Start c → Runs c (foreach_text inside) (Small c)
foreach_runs inside each c start = from_boundary c start.last (
    key_runs keys.Foreach >>= λ p u. mark_runs marks.LeftParen >>= λ q v. name_runs >>= λ x w. mark_runs marks.Colon >>= λ r y. range_runs (started c) start.body >>= λ over e. mark_runs marks.RightParen >>= λ s z.
    after (each (started c) start.body start.wide) (λ d b h. done_runs _ (of_started c d h.0, (omega (arith, h.1.0), (e, same_small _ _ b.list (within_one c.depth) h.1.1)))))

items_runs : Inside items
items_runs = braces_runs item item_runs

items_or_columns_runs : Inside items_or_columns
items_or_columns_runs = braces_runs (item or columns_text items) (λ c start. item_runs c start or_runs columns_runs items items_runs c start)

count_is : (bs : List PlainStripBlock) → branch_count (branches_of bs) ≡ length bs
count_is [] = refl
count_is (b ∷ bs) = ap suc (count_is bs)

module _ (each : Form PlainStripBlock) (each_runs : Inside each) (inside : Form PlainStripBlock) (inside_runs : Inside inside) where
  rec_runs : (c : Counts) → Start c → Runs c (rec_text inside) (Small c)
  rec_runs c start = from_boundary c start.last (
      key_runs keys.Rec >>= λ p u. name_runs >>= λ x v. after (inside_runs (started c) start.body start.wide) (λ d b h. done_runs _ (of_started c d h.0, (omega (arith, h.1.0), same_small _ _ b.list (within_one c.depth) h.1.1))))

  or_runs_on : (c d : Counts) (q : ℕ) → Start c → Branched c q d → Runs d (or_block inside) (λ e b. (Branched c (q + 1) e × (q < 64)) × AreSmall (64 - c.depth - 1) b.list)
  or_runs_on c d q start h = from_boundary d h.same.last (
      key_runs keys.Or >>= λ p e.
      let few : q < 64 = omega (arith, room 64 (slice_index d.branches d.depth) quantity.Branches e, ap (slice_index d.branches) h.same.depth, h.counted) in
      let depth : 63 - d.depth ≡ 64 - c.depth - 1 = omega (arith, h.same.depth) in
      weaker (inside_runs (offering d) (subst IsBody (sym h.same.here) start.body) (length-set d.branches d.depth _ ∙ h.same.wide)) (λ e2 b g. ((next_branch c d e2 q start h g.0, few), same_small _ _ b.list depth g.1.1)))

  others_run : (c : Counts) → Start c → (bs : List PlainStripBlock) (ts : List Token) (d : Counts) (q : ℕ) → Branched c q d → q ≤ 64 → ManyText (or_block inside).text ts bs → NonePasses d ts
      → Kept c.depth c (counts_from d ts) × ((q + length bs ≤ 64) × AreSmallBranches (64 - c.depth - 1) (branches_of bs))
  others_run c start [] ts d q h few e none = rw e (h.same, (omega (arith, few), tt))
  others_run c start (b ∷ bs) ts d q h few w none =
      let g = none_both d w.0 w.1 (subst (NonePasses d) w.2 none) in
      let p = (or_runs_on c d q start h).runs w.0 b w.3 g.0 in
      let r = others_run c start bs w.1 (counts_from d w.0) (q + 1) p.0.0 (omega (arith, p.0.1)) w.4 g.1 in
      joined d ts w.0 w.1 (b ∷ bs) (λ e ys. Kept c.depth c e × ((q + length ys ≤ 64) × AreSmallBranches (64 - c.depth - 1) (branches_of ys))) w.2 (r.0, (omega (arith, r.1.0), (p.1, r.1.1)))

  others_runs : (c d : Counts) (q : ℕ) → Start c → Branched c q d → q ≤ 64 → Runs d (many (or_block inside)) (λ e bs. Kept c.depth c e × ((q + length bs ≤ 64) × AreSmallBranches (64 - c.depth - 1) (branches_of bs)))
  unfolding many
  others_runs c d q start h few = record { runs = λ ts bs w none. others_run c start bs ts d q h few w none }

  choice_runs : (c : Counts) → Start c → Runs c (choice_text inside) (Small c)
  choice_runs c start = from_boundary c start.last (
      key_runs keys.Choice >>= λ p u. name_runs >>= λ k v. key_runs keys.At >>= λ q w. plain_end_runs (choosing c) start.body >>= λ who e.
      after (inside_runs (choosing c) start.body (length-set c.branches c.depth 1 ∙ start.wide)) (λ d1 first h.
      after (or_runs_on c d1 1 start (first_branch c d1 start h.0)) (λ d2 second g.
      after (others_runs c d2 2 start g.0.0 (omega arith)) (λ d3 bs o.
      done_runs _ (o.0, (omega (arith, h.1.0), (e, (omega (arith, o.1.0, count_is bs), (same_small _ _ first.list (within_one c.depth) h.1.1, (g.1, o.1.1))))))))))

  statement_runs : (c : Counts) → Start c → Runs c (statement each inside) (Small c)
  statement_runs c start =
      semicolon_runs c start message_text (message_runs c start.body)
      or_runs foreach_runs each each_runs c start
      or_runs rec_runs c start
      or_runs semicolon_runs c start continue_text (continue_runs c start.body)
      or_runs choice_runs c start
      or_runs semicolon_runs c start compute_text (compute_runs c start.body)
      or_runs semicolon_runs c start collective (collective_runs c start.body)

-- ---- blocks of statements

empty_runs : (c : Counts) → length c.branches ≡ 65 → (d : Counts) → d ≡ inner c → c.depth < 64 → Kept (c.depth + 1) c (record d { depth = d.depth - 1; last = behind.Boundary })
empty_runs c wide d e few = left c d (rw e (record { depth = refl; roles = refl; here = refl; last = refl; wide = wide; kept = λ i less. refl }))

column_block_runs : (n : ℕ) → Inside (column_block n)
unfolding column_block
column_block_runs zero c body wide =
    mark_runs marks.LeftBrace >>= λ p e. mark_runs marks.RightBrace >>= λ q u. let few = room 64 c.depth quantity.Nesting e in done_runs _ (empty_runs c wide (inner c) refl few, (few, tt))
column_block_runs (suc n) c body wide = braces_runs (statement items (column_block n)) (statement_runs items items_runs (column_block n) (column_block_runs n)) c body wide

pub block_runs : (n : ℕ) → Inside (block n)
unfolding block
block_runs zero c body wide =
    mark_runs marks.LeftBrace >>= λ p e. mark_runs marks.RightBrace >>= λ q u. let few = room 64 c.depth quantity.Nesting e in done_runs _ (empty_runs c wide (inner c) refl few, (few, tt))
block_runs (suc n) c body wide =
    braces_runs (columns_text (column_block n) or statement items_or_columns (block n))
    (λ d start. columns_runs (column_block n) (column_block_runs n) d start or_runs statement_runs items_or_columns items_or_columns_runs (block n) (block_runs n) d start) c body wide

-- The tokens of a file that fits are within the limits.
use Rattle.std.proofs.Common.{◌≡◌, ℕ, zero, suc, ◌+◌, ◌-◌, ◌<◌, ◌≤◌, Bool, true, false, ◌==◌, if◌then◌else◌, Option, Some, None, List, [], ◌∷◌, length, slice_index, slice_set, refl, ap, subst, ◌∙◌, arith}
use Rattle.std.specs.Prelude.{ℤ, pos, negsuc}
use Rattle.std.proofs.lemmas.List.{length-set, get_or-set_same, get_or-set_other}
use Rattle.pb_text.specs.declared.place.Spot.{Spot}
use Rattle.pb_text.specs.declared.quantity.Quantity.TheVariants as quantity
use Rattle.pb_text.specs.declared.token.TokenKind.TheVariants as kind
use Rattle.pb_text.specs.declared.token.Mark.TheVariants as marks
use Rattle.pb_text.specs.declared.token.Key.{Key}
use Rattle.pb_text.specs.declared.token.Key.TheVariants as keys
use Rattle.pb_syntax.specs.declared.tree.High.{High}
use Rattle.pb_syntax.specs.declared.tree.High.TheVariants as high
use Rattle.pb_syntax.specs.declared.tree.Payload.{Payload}
use Rattle.pb_syntax.specs.declared.tree.Payload.TheVariants as pay
use Rattle.pb_syntax.specs.declared.tree.Op.{Op}
use Rattle.pb_syntax.specs.declared.tree.Op.TheVariants as ops
use Rattle.pb_syntax.specs.declared.tree.LinText.{LinText}
use Rattle.pb_syntax.specs.declared.tree.RangeText.{RangeText}
use Rattle.pb_syntax.specs.declared.tree.IndexText.{IndexText}
use Rattle.pb_syntax.specs.declared.tree.IndexText.TheVariants as index
use Rattle.pb_syntax.specs.declared.tree.End.{End}
use Rattle.pb_syntax.specs.declared.tree.RoleText.{RoleText}
use Rattle.pb_syntax.specs.Tree.{PlainStatement, message, foreach, loop, again, choice, compute, barrier, broadcast, reduce, allreduce, PlainStatements, nothing, more, PlainBranches, no_branch, branch, PlainFile}
use Rattle.pb_syntax.specs.Printed.{Kinds, mark, key, word, number, offset_tokens, size, based_tokens, lin_tokens, range_tokens, over_tokens, role_tokens, comma_tokens, roles_tokens, high_tokens, count_tokens, payload_tokens, op_tokens, index_tokens, end_tokens, statement_tokens, statements_tokens, branches_tokens, or_tokens, constant_tokens, head_tokens, file_tokens}
use Rattle.pb_parse.specs.declared.limits.Counts.{Counts}
use Rattle.pb_parse.specs.declared.limits.Sort.TheVariants as sorts
use Rattle.pb_parse.specs.declared.limits.Behind.TheVariants as behind
use Rattle.pb_parse.specs.Limits.{at_start, key_sort}
use Rattle.pb_do_text_laws.specs.Limits.{IsSmallLin, IsSmallRange, IsSmallOver, IsSmallIndex, IsSmallEnd, IsSmallPayload, AreSmallRoles}
use Rattle.pb_do_text_laws.proofs.Fits.{Fits, AllFit, BranchesFit, size_at, size_in, size_among, count}
use Rattle.pb_do_text_laws.proofs.Counted.{At, nothing_yet, step_as, not_full, not_above, Amid, amid, amid_other, amid_dots, amid_bracket, amid_word, amid_number, at_boundary, ended, opened}

-- ---- parts of statements

offset_passes : {before : Kinds} {c : Counts} (z : ℤ) → size z ≤ 100000 → Amid before c → Amid (offset_tokens z before) c
offset_passes (pos zero) small m = m
offset_passes (pos (suc n)) small m = amid_number (suc n) small (amid_other (kind.Mark marks.Plus) refl m)
offset_passes (negsuc n) small m = amid_number (suc n) small (amid_other (kind.Mark marks.Minus) refl m)

based_passes : {before : Kinds} {c : Counts} (base : Option Spot) (off : ℤ) → size off ≤ 100000 → Amid before c → Amid (based_tokens base off before) c
based_passes None off small m = amid_number (size off) small m
based_passes (Some b) off small m = offset_passes off small (amid_word b.name m)

lin_passes : {before : Kinds} {c : Counts} (l : LinText) → IsSmallLin l → Amid before c → Amid (lin_tokens l before) c
lin_passes l small m = based_passes l.base l.off small m

range_passes : {before : Kinds} {c : Counts} (r : RangeText) → IsSmallRange r → Amid before c → Amid (range_tokens r before) c
range_passes r small m = lin_passes r.high small.1 (amid_dots (lin_passes r.low small.0 m))

over_passes : {before : Kinds} {c : Counts} (o : Option RangeText) → IsSmallOver o → Amid before c → Amid (over_tokens o before) c
over_passes None small m = m
over_passes (Some r) small m = amid_other (kind.Mark marks.RightBracket) refl (range_passes r small (amid_bracket m))

index_passes : {before : Kinds} {c : Counts} (i : IndexText) → IsSmallIndex i → Amid before c → Amid (index_tokens i before) c
index_passes index.Zero small m = m
index_passes (index.At l) small m = amid_other (kind.Mark marks.RightBracket) refl (lin_passes l small (amid_bracket m))
index_passes (index.Bind x over) small m =
    amid_other (kind.Mark marks.RightBracket) refl (range_passes over small (amid_other (kind.Mark marks.Colon) refl (amid_word x.name (amid_bracket m))))

end_passes : {before : Kinds} {c : Counts} (e : End) → IsSmallEnd e → Amid before c → Amid (end_tokens e before) c
end_passes e small m = index_passes e.index small (amid_word e.role.name m)

-- behind a type
count_passes : {before : Kinds} {c : Counts} (n : ℕ) → n ≤ 1024 → At before (record c { last = behind.ElementType }) → Amid (mark marks.RightParen (count_tokens n before)) c
count_passes {before} {c} n few at = from (n == 1)
  where
    from : (b : Bool) → Amid (mark marks.RightParen (if b then before else mark marks.RightBracket (number n (mark marks.LeftBracket before)))) c
    from true = amid (step_as (kind.Mark marks.RightParen) sorts.Other refl at refl)
    from false =
        let bracket = step_as (kind.Mark marks.LeftBracket) sorts.LeftBracket refl at refl in
        let counted = step_as (kind.Number n) (sorts.Number n) refl bracket (not_above 1024 n quantity.PayloadCount few) in
        amid_other (kind.Mark marks.RightParen) refl (amid_other (kind.Mark marks.RightBracket) refl (amid counted))

payload_passes : {before : Kinds} {c : Counts} (p : Payload) → IsSmallPayload p → Amid before c → Amid (payload_tokens p before) c
payload_passes pay.Unit small m = amid_other (kind.Mark marks.RightParen) refl (amid_other (kind.Mark marks.LeftParen) refl m)
payload_passes (pay.Int32 n) small m =
    count_passes n small (step_as (kind.Key keys.Int32) sorts.ElementType refl (amid_other (kind.Mark marks.LeftParen) refl m).at refl)
payload_passes (pay.Uint32 n) small m =
    count_passes n small (step_as (kind.Key keys.Uint32) sorts.ElementType refl (amid_other (kind.Mark marks.LeftParen) refl m).at refl)

op_passes : {before : Kinds} {c : Counts} (o : Op) → Amid before c → Amid (op_tokens o before) c
op_passes ops.Min m = amid_other (kind.Key keys.Min) refl m
op_passes ops.Max m = amid_other (kind.Key keys.Max) refl m
op_passes ops.Sum m = amid_other (kind.Key keys.Sum) refl m

-- ---- between statements

abbrev standing : ℕ → ℕ → ℕ → List ℕ → Counts
standing d n r bs = record { depth = d; statements = n; roles = r; branches = bs; last = behind.Boundary }

-- so many braces are open and statements counted; of the branches counted below a depth all are as they were
record Stands (below d n r : ℕ) (bs : List ℕ) (before : Kinds) : Type 0 where
  branches : List ℕ
  at : At before (standing d n r branches)
  wide : length branches ≡ 65
  kept : (i : ℕ) → i < below → slice_index branches i ≡ slice_index bs i

stood : (below d n r : ℕ) (bs : List ℕ) (before : Kinds) → length bs ≡ 65 → At before (standing d n r bs) → Stands below d n r bs before
stood below d n r bs before wide at = record { branches = bs; at = at; wide = wide; kept = λ i less. refl }

-- the same, where statements are added otherwise, and fewer branches looked at
other_count : (below d n m r : ℕ) (bs : List ℕ) (before : Kinds) → n ≡ m → Stands below d n r bs before → Stands below d m r bs before
other_count below d n m r bs before e h = subst (λ (k : ℕ). Stands below d k r bs before) e h

-- the first token of a statement
labelled : {d n r : ℕ} {bs : List ℕ} {before : Kinds} (w : List ℕ) → n < 4000 → At before (standing d n r bs) → Amid (word w before) (standing d (n + 1) r bs)
labelled {d} {n} {r} {bs} {before} w few at = amid (step_as (kind.Word w) sorts.Name refl at (not_full 4000 n quantity.Statements few))

keyed : {d n r : ℕ} {bs : List ℕ} {before : Kinds} (k : Key) → key_sort k ≡ sorts.Statement → n < 4000 → At before (standing d n r bs) → Amid (key k before) (standing d (n + 1) r bs)
keyed {d} {n} {r} {bs} {before} k is few at = amid (step_as (kind.Key k) sorts.Statement is at (not_full 4000 n quantity.Statements few))

chosen : {d n r : ℕ} {bs : List ℕ} {before : Kinds} → n < 4000 → At before (standing d n r bs) → Amid (key keys.Choice before) (standing d (n + 1) r (slice_set bs d 1))
chosen {d} {n} {r} {bs} {before} few at = amid (step_as (kind.Key keys.Choice) sorts.Choice refl at (not_full 4000 n quantity.Statements few))

one_less : (d : ℕ) → d + 1 - 1 ≡ d
one_less d = omega arith

-- the brace behind a block
closed : {below d n r : ℕ} {bs : List ℕ} {before : Kinds} → Stands below (d + 1) n r bs before → Stands below d n r bs (mark marks.RightBrace before)
closed {below} {d} {n} {r} {bs} {before} h =
    let at = step_as (kind.Mark marks.RightBrace) sorts.RightBrace refl h.at refl in
    record {
      branches = h.branches;
      at = subst (λ (k : ℕ). At (mark marks.RightBrace before) (standing k n r h.branches)) (one_less d) at;
      wide = h.wide;
      kept = h.kept;
    }

lower : {below d n r : ℕ} {bs : List ℕ} {before : Kinds} (less : ℕ) → less ≤ below → Stands below d n r bs before → Stands less d n r bs before
lower less few h = record { branches = h.branches; at = h.at; wide = h.wide; kept = λ i l. h.kept i (omega (arith, few, l)) }

-- one behind the other
behind_that : {below wider d n m r : ℕ} {bs : List ℕ} {before after : Kinds} → below ≤ wider → (h : Stands wider d n r bs before) → Stands below d m r h.branches after → Stands below d m r bs after
behind_that few h g = record { branches = g.branches; at = g.at; wide = g.wide; kept = λ i l. g.kept i l ∙ h.kept i (omega (arith, few, l)) }

-- the branches counted at this depth aren't looked at
unset : (d n r v : ℕ) (bs : List ℕ) (before : Kinds) → Stands d d n r (slice_set bs d v) before → Stands d d n r bs before
unset d n r v bs before h = record {
  branches = h.branches;
  at = h.at;
  wide = h.wide;
  kept = λ i less. h.kept i less ∙ get_or-set_other bs d i v 0 (λ e. omega (arith, less, e));
}

-- ---- statements

module _ (r : ℕ) where
  mutual
    stmt_passes : (s : PlainStatement) (l d n : ℕ) (bs : List ℕ) (before : Kinds) → d + l ≤ 64 → n + size_at s ≤ 4000 → Fits l s → length bs ≡ 65 → At before (standing d n r bs)
        → Stands d d (n + size_at s) r bs (statement_tokens s before)
    stmt_passes (message label carries from to) l d n bs before deep few fit wide at =
        stood d d (n + 1) r bs _ wide (ended (end_passes to fit.1.1 (amid_other (kind.Key keys.To) refl (end_passes from fit.1.0 (amid_other (kind.Key keys.From) refl
        (payload_passes carries fit.0 (labelled label.name (omega (arith, few)) at)))))))
    stmt_passes (foreach place var over at_brace items) l d n bs before deep few fit wide at =
        let head = amid_other (kind.Mark marks.RightParen) refl (range_passes over fit.1.0 (amid_other (kind.Mark marks.Colon) refl (amid_word var.name (amid_other (kind.Mark marks.LeftParen) refl
        (keyed keys.Foreach refl (omega (arith, few)) at))))) in
        let inside = all_pass items (l - 1) (d + 1) (n + 1) bs _ (omega (arith, deep, fit.0)) (omega (arith, few)) fit.1.1 wide (opened (omega (arith, deep, fit.0)) head) in
        other_count d d (n + 1 + size_in items) (n + suc (size_in items)) r bs _ (omega arith) (lower d (omega arith) (closed inside))
    stmt_passes (loop place name at_brace body) l d n bs before deep few fit wide at =
        let head = amid_word name.name (keyed keys.Rec refl (omega (arith, few)) at) in
        let inside = all_pass body (l - 1) (d + 1) (n + 1) bs _ (omega (arith, deep, fit.0)) (omega (arith, few)) fit.1 wide (opened (omega (arith, deep, fit.0)) head) in
        other_count d d (n + 1 + size_in body) (n + suc (size_in body)) r bs _ (omega arith) (lower d (omega arith) (closed inside))
    stmt_passes (again place name) l d n bs before deep few fit wide at =
        stood d d (n + 1) r bs _ wide (ended (amid_word name.name (keyed keys.Continue refl (omega (arith, few)) at)))
    stmt_passes (choice place kernel who branches) l d n bs before deep few fit wide at =
        let set = slice_set bs d 1 in
        let wide_set : length set ≡ 65 = length-set bs d 1 ∙ wide in
        let head = end_passes who fit.1.0 (amid_other (kind.Key keys.At) refl (amid_word kernel.name (chosen (omega (arith, few)) at))) in
        let one : slice_index set d ≡ 1 = get_or-set_same bs d 1 0 (omega (arith, wide, deep, fit.0)) in
        let inside = branches_pass branches (l - 1) d (n + 1) set _ (omega (arith, deep, fit.0)) (omega (arith, few)) fit.1.1.1.1 wide_set one fit.1.1.0 fit.1.1.1.0 head in
        other_count d d (n + 1 + size_among branches) (n + suc (size_among branches)) r bs _ (omega arith)
        (unset d (n + 1 + size_among branches) r 1 bs _ inside)
    stmt_passes (compute place kernel who) l d n bs before deep few fit wide at =
        stood d d (n + 1) r bs _ wide (ended (end_passes who fit (amid_other (kind.Key keys.At) refl (amid_word kernel.name (keyed keys.Compute refl (omega (arith, few)) at)))))
    stmt_passes (barrier place) l d n bs before deep few fit wide at = stood d d (n + 1) r bs _ wide (ended (keyed keys.Barrier refl (omega (arith, few)) at))
    stmt_passes (broadcast place label carries from) l d n bs before deep few fit wide at =
        stood d d (n + 1) r bs _ wide (ended (end_passes from fit.1 (amid_other (kind.Key keys.From) refl (payload_passes carries fit.0 (amid_word label.name (keyed keys.Broadcast refl (omega (arith, few)) at))))))
    stmt_passes (reduce place label carries by to) l d n bs before deep few fit wide at =
        stood d d (n + 1) r bs _ wide (ended (end_passes to fit.1 (amid_other (kind.Key keys.To) refl (op_passes by (amid_other (kind.Key keys.With) refl
        (payload_passes carries fit.0 (amid_word label.name (keyed keys.Reduce refl (omega (arith, few)) at))))))))
    stmt_passes (allreduce place label carries by) l d n bs before deep few fit wide at =
        stood d d (n + 1) r bs _ wide (ended (op_passes by (amid_other (kind.Key keys.With) refl (payload_passes carries fit (amid_word label.name (keyed keys.Allreduce refl (omega (arith, few)) at))))))

    all_pass : (ss : PlainStatements) (l d n : ℕ) (bs : List ℕ) (before : Kinds) → d + l ≤ 64 → n + size_in ss ≤ 4000 → AllFit l ss → length bs ≡ 65 → At before (standing d n r bs)
        → Stands d d (n + size_in ss) r bs (statements_tokens ss before)
    all_pass nothing l d n bs before deep few fit wide at = other_count d d n (n + 0) r bs _ (omega arith) (stood d d n r bs before wide at)
    all_pass (more s rest) l d n bs before deep few fit wide at =
        let first = stmt_passes s l d n bs before deep (omega (arith, few)) fit.0 wide at in
        let others = all_pass rest l d (n + size_at s) first.branches _ deep (omega (arith, few)) fit.1 first.wide first.at in
        other_count d d (n + size_at s + size_in rest) (n + (size_at s + size_in rest)) r bs _ (omega arith) (behind_that (omega arith) first others)

    branches_pass : (branches : PlainBranches) (l d n : ℕ) (bs : List ℕ) (before : Kinds) → d + 1 + l ≤ 64 → n + size_among branches ≤ 4000 → BranchesFit l branches → length bs ≡ 65
        → slice_index bs d ≡ 1 → 0 < count branches → count branches ≤ 64 → Amid before (standing d n r bs) → Stands d d (n + size_among branches) r bs (branches_tokens branches before)
    branches_pass no_branch l d n bs before deep few fit wide one some most m = absurd (omega (arith, some))
    branches_pass (branch at_brace body rest) l d n bs before deep few fit wide one some most m =
        let inside = closed (all_pass body l (d + 1) n bs _ deep (omega (arith, few)) fit.0 wide (opened (omega (arith, deep)) m)) in
        let first : slice_index inside.branches d ≡ 1 = inside.kept d (omega arith) ∙ one in
        let others = ors_pass rest l d (n + size_in body) 1 inside.branches _ deep (omega (arith, few)) fit.1 inside.wide first (omega (arith, most)) inside.at in
        other_count d d (n + size_in body + size_among rest) (n + (size_in body + size_among rest)) r bs _ (omega arith) (behind_that (omega arith) inside others)

    ors_pass : (branches : PlainBranches) (l d n q : ℕ) (bs : List ℕ) (before : Kinds) → d + 1 + l ≤ 64 → n + size_among branches ≤ 4000 → BranchesFit l branches → length bs ≡ 65
        → slice_index bs d ≡ q → q + count branches ≤ 64 → At before (standing d n r bs) → Stands d d (n + size_among branches) r bs (or_tokens branches before)
    ors_pass no_branch l d n q bs before deep few fit wide counted most at = other_count d d n (n + 0) r bs _ (omega arith) (stood d d n r bs before wide at)
    ors_pass (branch at_brace body rest) l d n q bs before deep few fit wide counted most at =
        let v = slice_index bs d + 1 in
        let set = slice_set bs d v in
        let wide_set : length set ≡ 65 = length-set bs d v ∙ wide in
        let or_key : Amid (key keys.Or before) (standing d n r set) = amid (step_as (kind.Key keys.Or) sorts.Or refl at (not_full 64 (slice_index bs d) quantity.Branches (omega (arith, counted, most)))) in
        let inside = closed (all_pass body l (d + 1) n set _ deep (omega (arith, few)) fit.0 wide_set (opened (omega (arith, deep)) or_key)) in
        let here : slice_index set d ≡ v = get_or-set_same bs d v 0 (omega (arith, wide, deep)) in
        let now : slice_index inside.branches d ≡ q + 1 = inside.kept d (omega arith) ∙ here ∙ ap (λ (k : ℕ). k + 1) counted in
        let others = ors_pass rest l d (n + size_in body) (q + 1) inside.branches _ deep (omega (arith, few)) fit.1 inside.wide now (omega (arith, most)) inside.at in
        let whole : Stands d d (n + size_in body + size_among rest) r set _ = behind_that (omega arith) inside others in
        other_count d d (n + size_in body + size_among rest) (n + (size_in body + size_among rest)) r bs _ (omega arith)
        (unset d (n + size_in body + size_among rest) r v bs _ whole)

-- ---- a file

abbrev roled : ℕ → Counts
roled r = record at_start { roles = r }

role_passes : {before : Kinds} (r : ℕ) (x : RoleText) → r < 64 → IsSmallOver x.range → Amid before (roled r) → Amid (role_tokens x before) (roled (r + 1))
role_passes {before} r x few small m =
    over_passes x.range small (amid_word x.role.name (amid (step_as (kind.Key keys.Role) sorts.Role refl m.at (not_full 64 r quantity.Roles few))))

commas_pass : (xs : List RoleText) (r : ℕ) {before : Kinds} → r + length xs ≤ 64 → AreSmallRoles xs → Amid before (roled r) → (k : ℕ) × Amid (comma_tokens xs before) (roled k)
commas_pass [] r few small m = (r, m)
commas_pass (x ∷ xs) r few small m =
    commas_pass xs (r + 1) (omega (arith, few)) small.1 (role_passes r x (omega (arith, few)) small.0 (amid_other (kind.Mark marks.Comma) refl m))

roles_pass : {before : Kinds} (xs : List RoleText) → length xs ≤ 64 → AreSmallRoles xs → Amid before at_start → (k : ℕ) × Amid (roles_tokens xs before) (roled k)
roles_pass [] few small m = (0, m)
roles_pass (x ∷ xs) few small m = commas_pass xs 1 (omega (arith, few)) small.1 (role_passes 0 x (omega arith) small.0 m)

high_passes : {before : Kinds} (h : High) → Amid before at_start → At before (record at_start { last = behind.Dots }) → Amid (high_tokens h before) at_start
high_passes (high.Upto n) m at = amid (step_as (kind.Number n) (sorts.Number n) refl at refl)
high_passes high.Max m at = amid_other (kind.Key keys.Max) refl m

constant_passes : (f : PlainFile) → f.low ≤ 100000 → At (constant_tokens f []) (at_boundary at_start)
constant_passes f small =
    let low = amid_number f.low small (amid_other (kind.Mark marks.Equals) refl (amid_word f.constant.name (amid_other (kind.Key keys.Const) refl (amid nothing_yet)))) in
    let dots = step_as (kind.Mark marks.Dots) sorts.Dots refl low.at refl in
    ended (high_passes f.high (amid_dots low) dots)

head_passes : (f : PlainFile) → f.low ≤ 100000 → length f.roles ≤ 64 → AreSmallRoles f.roles → (k : ℕ) × Amid (head_tokens f []) (roled k)
head_passes f small few roles =
    let globals : Amid (key keys.Global (constant_tokens f [])) at_start = amid (step_as (kind.Key keys.Global) sorts.Other refl (constant_passes f small) refl) in
    let name = amid_other (kind.Mark marks.LeftParen) refl (amid_word f.protocol.name (amid_other (kind.Key keys.Protocol) refl globals)) in
    let all = roles_pass f.roles few roles name in
    (all.0, amid_other (kind.Mark marks.RightParen) refl all.1)

pub file_passes : (f : PlainFile) → f.low ≤ 100000 → length f.roles ≤ 64 → AreSmallRoles f.roles → AllFit 63 f.body.list → size_in f.body.list ≤ 4000 → (c : Counts) × At (file_tokens f) c
file_passes f small few roles fit most =
    let head = head_passes f small few roles in
    let inside = all_pass head.0 f.body.list 63 1 0 at_start.branches _ (omega arith) (omega (arith, most)) fit refl (opened (omega arith) head.1) in
    let end = step_as (kind.Mark marks.RightBrace) sorts.RightBrace refl inside.at refl in
    (_, end)

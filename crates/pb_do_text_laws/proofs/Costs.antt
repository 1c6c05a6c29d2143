-- The tokens of a file that fits cost so many bytes at most.
use Rattle.std.proofs.Common.{◌≡◌, ℕ, zero, suc, ◌+◌, ◌-◌, ◌*◌, ◌≤◌, Bool, true, false, ◌&&◌, ◌==◌, if◌then◌else◌, Option, Some, None, List, [], ◌∷◌, ◌++◌, length, refl, ap, arith}
use Rattle.std.specs.Prelude.{ℤ, pos, negsuc}
use Rattle.pb_text.specs.declared.place.Spot.{Spot}
use Rattle.pb_text.specs.declared.token.TokenKind.{TokenKind}
use Rattle.pb_text.specs.declared.token.TokenKind.TheVariants as kind
use Rattle.pb_text.specs.declared.token.Mark.TheVariants as marks
use Rattle.pb_text.specs.declared.token.Key.TheVariants as keys
use Rattle.pb_syntax.specs.declared.tree.High.{High}
use Rattle.pb_syntax.specs.declared.tree.High.TheVariants as high
use Rattle.pb_syntax.specs.declared.tree.Payload.{Payload}
use Rattle.pb_syntax.specs.declared.tree.Payload.TheVariants as pay
use Rattle.pb_syntax.specs.declared.tree.Op.{Op}
use Rattle.pb_syntax.specs.declared.tree.Op.TheVariants as ops
use Rattle.pb_syntax.specs.declared.tree.LinText.{LinText}
use Rattle.pb_syntax.specs.declared.tree.RangeText.{RangeText}
use Rattle.pb_syntax.specs.declared.tree.IndexText.{IndexText}
use Rattle.pb_syntax.specs.declared.tree.IndexText.TheVariants as index
use Rattle.pb_syntax.specs.declared.tree.End.{End}
use Rattle.pb_syntax.specs.declared.tree.RoleText.{RoleText}
use Rattle.pb_syntax.specs.Tree.{PlainStatement, message, foreach, loop, again, choice, compute, barrier, broadcast, reduce, allreduce, PlainStatements, nothing, more, PlainBranches, no_branch, branch, PlainFile}
use Rattle.pb_syntax.specs.Grammar.{is_mark, is_key}
use Rattle.pb_syntax.specs.Layout.{ends_line}
use Rattle.pb_syntax.specs.Printed.{Kinds, mark, key, word, number, offset_tokens, size, based_tokens, lin_tokens, range_tokens, over_tokens, role_tokens, comma_tokens, roles_tokens, high_tokens, count_tokens, payload_tokens, op_tokens, index_tokens, end_tokens, statement_tokens, statements_tokens, branches_tokens, or_tokens, constant_tokens, head_tokens, file_tokens}
use Rattle.pb_do_text_laws.proofs.Fits.{Fits, AllFit, BranchesFit, size_at, size_in, size_among, count}
use Rattle.pb_do_text_laws.proofs.Bytes.{most_spelled, most_between, cost}

-- the longest gap behind a token
abbrev after : Option TokenKind → ℕ
after None = 0
after (Some a) = if ends_line a then 129 else 1

abbrev last_in : Option TokenKind → Kinds → Option TokenKind
last_in last [] = last
last_in last (k ∷ ks) = last_in (Some k) ks

-- these tokens, and the gap behind them
pub record Costs (before : Kinds) (n : ℕ) : Type 0 where
  pub few : cost None before + after (last_in None before) ≤ n

pub cost_of : (before : Kinds) (n : ℕ) → Costs before n → cost None before ≤ n
cost_of before n h = omega (arith, h.few)

cost_last : (last : Option TokenKind) (ks : Kinds) (k : TokenKind) → cost last (ks ++ k ∷ []) ≡ cost last ks + (most_between (last_in last ks) k + most_spelled k)
cost_last last [] k = omega arith
cost_last last (l ∷ ks) k = omega (arith, cost_last (Some l) ks k)

last_last : (last : Option TokenKind) (ks : Kinds) (k : TokenKind) → last_in last (ks ++ k ∷ []) ≡ Some k
last_last last [] k = refl
last_last last (l ∷ ks) k = last_last (Some l) ks k

between_cases : (ends or_key : Bool) → (if ends then (if or_key then 1 else 129) else 1) ≤ (if ends then 129 else 1)
between_cases true true = omega arith
between_cases true false = omega arith
between_cases false or_key = omega arith

between_after : (last : Option TokenKind) (k : TokenKind) → most_between last k ≤ after last
between_after None k = omega arith
between_after (Some a) k = between_cases (ends_line a) (is_mark marks.RightBrace a && is_key keys.Or k)

-- one token more
costs_token : {before : Kinds} {n : ℕ} (k : TokenKind) (m : ℕ) → most_spelled k + after (Some k) ≤ m → Costs before n → Costs (before ++ k ∷ []) (n + m)
costs_token {before} {n} k m most h = record {
  few = omega (arith, most, h.few, cost_last None before k, between_after (last_in None before) k, ap after (last_last None before k));
}

-- an or behind a closing brace has no line of its own
costs_or : {before : Kinds} {n : ℕ} → Costs before n → Costs (key keys.Or (mark marks.RightBrace before)) (n + 13)
costs_or {before} {n} h =
    let brace : Kinds = mark marks.RightBrace before in
    let joined : most_between (last_in None brace) (kind.Key keys.Or) ≡ 1 = ap (λ (l : Option TokenKind). most_between l (kind.Key keys.Or)) (last_last None before (kind.Mark marks.RightBrace)) in
    record {
      few = omega (
        arith,
        h.few,
        cost_last None before (kind.Mark marks.RightBrace),
        between_after (last_in None before) (kind.Mark marks.RightBrace),
        cost_last None brace (kind.Key keys.Or),
        joined,
        ap after (last_last None brace (kind.Key keys.Or)),
      );
    }

costs_most : {before : Kinds} {n : ℕ} (m : ℕ) → n ≤ m → Costs before n → Costs before m
costs_most m few h = record { few = omega (arith, few, h.few) }

costs_word : {before : Kinds} {n : ℕ} (w : List ℕ) → Costs before n → Costs (word w before) (n + 65)
costs_word w h = costs_token (kind.Word w) 65 (omega arith) h

costs_number : {before : Kinds} {n : ℕ} (v : ℕ) → Costs before n → Costs (number v before) (n + 11)
costs_number v h = costs_token (kind.Number v) 11 (omega arith) h

-- ---- parts of statements

offset_costs : {before : Kinds} {n : ℕ} (z : ℤ) → Costs before n → Costs (offset_tokens z before) (n + 14)
offset_costs {n = n} (pos zero) h = costs_most (n + 14) (omega arith) h
offset_costs {n = n} (pos (suc v)) h = costs_most (n + 14) (omega arith) (costs_number (suc v) (costs_token (kind.Mark marks.Plus) 3 (omega arith) h))
offset_costs {n = n} (negsuc v) h = costs_most (n + 14) (omega arith) (costs_number (suc v) (costs_token (kind.Mark marks.Minus) 3 (omega arith) h))

based_costs : {before : Kinds} {n : ℕ} (base : Option Spot) (off : ℤ) → Costs before n → Costs (based_tokens base off before) (n + 79)
based_costs {n = n} None off h = costs_most (n + 79) (omega arith) (costs_number (size off) h)
based_costs {n = n} (Some b) off h = costs_most (n + 79) (omega arith) (offset_costs off (costs_word b.name h))

lin_costs : {before : Kinds} {n : ℕ} (l : LinText) → Costs before n → Costs (lin_tokens l before) (n + 79)
lin_costs l h = based_costs l.base l.off h

range_costs : {before : Kinds} {n : ℕ} (r : RangeText) → Costs before n → Costs (range_tokens r before) (n + 161)
range_costs {n = n} r h = costs_most (n + 161) (omega arith) (lin_costs r.high (costs_token (kind.Mark marks.Dots) 3 (omega arith) (lin_costs r.low h)))

over_costs : {before : Kinds} {n : ℕ} (o : Option RangeText) → Costs before n → Costs (over_tokens o before) (n + 167)
over_costs {n = n} None h = costs_most (n + 167) (omega arith) h
over_costs {n = n} (Some r) h = costs_most (n + 167) (omega arith) (costs_token (kind.Mark marks.RightBracket) 3 (omega arith) (range_costs r (costs_token (kind.Mark marks.LeftBracket) 3 (omega arith) h)))

index_costs : {before : Kinds} {n : ℕ} (i : IndexText) → Costs before n → Costs (index_tokens i before) (n + 235)
index_costs {n = n} index.Zero h = costs_most (n + 235) (omega arith) h
index_costs {n = n} (index.At l) h = costs_most (n + 235) (omega arith) (costs_token (kind.Mark marks.RightBracket) 3 (omega arith) (lin_costs l (costs_token (kind.Mark marks.LeftBracket) 3 (omega arith) h)))
index_costs {n = n} (index.Bind x over) h =
    costs_most (n + 235) (omega arith) (costs_token (kind.Mark marks.RightBracket) 3 (omega arith) (range_costs over
    (costs_token (kind.Mark marks.Colon) 3 (omega arith) (costs_word x.name (costs_token (kind.Mark marks.LeftBracket) 3 (omega arith) h)))))

end_costs : {before : Kinds} {n : ℕ} (e : End) → Costs before n → Costs (end_tokens e before) (n + 300)
end_costs {n = n} e h = costs_most (n + 300) (omega arith) (index_costs e.index (costs_word e.role.name h))

count_costs : {before : Kinds} {n : ℕ} (v : ℕ) → Costs before n → Costs (count_tokens v before) (n + 17)
count_costs {before} {n} v h = from (v == 1)
  where
    from : (b : Bool) → Costs (if b then before else mark marks.RightBracket (number v (mark marks.LeftBracket before))) (n + 17)
    from true = costs_most (n + 17) (omega arith) h
    from false = costs_most (n + 17) (omega arith) (costs_token (kind.Mark marks.RightBracket) 3 (omega arith) (costs_number v (costs_token (kind.Mark marks.LeftBracket) 3 (omega arith) h)))

payload_costs : {before : Kinds} {n : ℕ} (p : Payload) → Costs before n → Costs (payload_tokens p before) (n + 33)
payload_costs {n = n} pay.Unit h = costs_most (n + 33) (omega arith) (costs_token (kind.Mark marks.RightParen) 3 (omega arith) (costs_token (kind.Mark marks.LeftParen) 3 (omega arith) h))
payload_costs {n = n} (pay.Int32 v) h =
    costs_most (n + 33) (omega arith) (costs_token (kind.Mark marks.RightParen) 3 (omega arith) (count_costs v (costs_token (kind.Key keys.Int32) 10 (omega arith) (costs_token (kind.Mark marks.LeftParen) 3 (omega arith) h))))
payload_costs {n = n} (pay.Uint32 v) h =
    costs_most (n + 33) (omega arith) (costs_token (kind.Mark marks.RightParen) 3 (omega arith) (count_costs v (costs_token (kind.Key keys.Uint32) 10 (omega arith) (costs_token (kind.Mark marks.LeftParen) 3 (omega arith) h))))

op_costs : {before : Kinds} {n : ℕ} (o : Op) → Costs before n → Costs (op_tokens o before) (n + 10)
op_costs ops.Min h = costs_token (kind.Key keys.Min) 10 (omega arith) h
op_costs ops.Max h = costs_token (kind.Key keys.Max) 10 (omega arith) h
op_costs ops.Sum h = costs_token (kind.Key keys.Sum) 10 (omega arith) h

-- ---- statements

semicolon : {before : Kinds} {n : ℕ} → Costs before n → Costs (mark marks.Semicolon before) (n + 131)
semicolon h = costs_token (kind.Mark marks.Semicolon) 131 (omega arith) h

left_brace : {before : Kinds} {n : ℕ} → Costs before n → Costs (mark marks.LeftBrace before) (n + 131)
left_brace h = costs_token (kind.Mark marks.LeftBrace) 131 (omega arith) h

right_brace : {before : Kinds} {n : ℕ} → Costs before n → Costs (mark marks.RightBrace before) (n + 131)
right_brace h = costs_token (kind.Mark marks.RightBrace) 131 (omega arith) h

mutual
  stmt_costs : (s : PlainStatement) (l : ℕ) {before : Kinds} {n : ℕ} → Fits l s → Costs before n → Costs (statement_tokens s before) (n + 10000 * size_at s)
  stmt_costs (message label carries from to) l {n = n} fit h =
      costs_most (n + 10000 * 1) (omega arith) (semicolon (end_costs to (costs_token (kind.Key keys.To) 10 (omega arith) (end_costs from (costs_token (kind.Key keys.From) 10 (omega arith) (payload_costs carries (costs_word label.name h)))))))
  stmt_costs (foreach place var over at items) l {n = n} fit h =
      let head = costs_token (kind.Mark marks.RightParen) 3 (omega arith) (range_costs over (costs_token (kind.Mark marks.Colon) 3 (omega arith) (costs_word var.name (costs_token (kind.Mark marks.LeftParen) 3 (omega arith)
      (costs_token (kind.Key keys.Foreach) 10 (omega arith) h))))) in
      costs_most (n + 10000 * suc (size_in items)) (omega arith) (right_brace (all_costs items (l - 1) fit.1.1 (left_brace head)))
  stmt_costs (loop place name at body) l {n = n} fit h =
      costs_most (n + 10000 * suc (size_in body)) (omega arith) (right_brace (all_costs body (l - 1) fit.1 (left_brace (costs_word name.name (costs_token (kind.Key keys.Rec) 10 (omega arith) h)))))
  stmt_costs (again place name) l {n = n} fit h = costs_most (n + 10000 * 1) (omega arith) (semicolon (costs_word name.name (costs_token (kind.Key keys.Continue) 10 (omega arith) h)))
  stmt_costs (choice place kernel who branches) l {n = n} fit h =
      let head = end_costs who (costs_token (kind.Key keys.At) 10 (omega arith) (costs_word kernel.name (costs_token (kind.Key keys.Choice) 10 (omega arith) h))) in
      costs_most (n + 10000 * suc (size_among branches)) (omega (arith, fit.1.1.1.0)) (branches_cost branches (l - 1) fit.1.1.1.1 head)
  stmt_costs (compute place kernel who) l {n = n} fit h =
      costs_most (n + 10000 * 1) (omega arith) (semicolon (end_costs who (costs_token (kind.Key keys.At) 10 (omega arith) (costs_word kernel.name (costs_token (kind.Key keys.Compute) 10 (omega arith) h)))))
  stmt_costs (barrier place) l {n = n} fit h = costs_most (n + 10000 * 1) (omega arith) (semicolon (costs_token (kind.Key keys.Barrier) 10 (omega arith) h))
  stmt_costs (broadcast place label carries from) l {n = n} fit h =
      costs_most (n + 10000 * 1) (omega arith) (semicolon (end_costs from (costs_token (kind.Key keys.From) 10 (omega arith) (payload_costs carries (costs_word label.name (costs_token (kind.Key keys.Broadcast) 10 (omega arith) h))))))
  stmt_costs (reduce place label carries by to) l {n = n} fit h =
      costs_most (n + 10000 * 1) (omega arith) (semicolon (end_costs to (costs_token (kind.Key keys.To) 10 (omega arith) (op_costs by (costs_token (kind.Key keys.With) 10 (omega arith) (payload_costs carries (costs_word label.name (costs_token (kind.Key keys.Reduce) 10 (omega arith) h))))))))
  stmt_costs (allreduce place label carries by) l {n = n} fit h =
      costs_most (n + 10000 * 1) (omega arith) (semicolon (op_costs by (costs_token (kind.Key keys.With) 10 (omega arith) (payload_costs carries (costs_word label.name (costs_token (kind.Key keys.Allreduce) 10 (omega arith) h))))))

  pub all_costs : (ss : PlainStatements) (l : ℕ) {before : Kinds} {n : ℕ} → AllFit l ss → Costs before n → Costs (statements_tokens ss before) (n + 10000 * size_in ss)
  all_costs nothing l {n = n} fit h = costs_most (n + 10000 * 0) (omega arith) h
  all_costs (more s rest) l {n = n} fit h = costs_most (n + 10000 * (size_at s + size_in rest)) (omega arith) (all_costs rest l fit.1 (stmt_costs s l fit.0 h))

  branches_cost : (bs : PlainBranches) (l : ℕ) {before : Kinds} {n : ℕ} → BranchesFit l bs → Costs before n → Costs (branches_tokens bs before) (n + 262 + 144 * count bs + 10000 * size_among bs)
  branches_cost no_branch l {n = n} fit h = costs_most (n + 262 + 144 * 0 + 10000 * 0) (omega arith) h
  branches_cost (branch at body rest) l {n = n} fit h =
      costs_most (n + 262 + 144 * suc (count rest) + 10000 * (size_in body + size_among rest)) (omega arith) (ors_cost rest l fit.1 (all_costs body l fit.0 (left_brace h)))

  -- behind a closing brace
  ors_cost : (bs : PlainBranches) (l : ℕ) {before : Kinds} {n : ℕ} → BranchesFit l bs → Costs before n → Costs (or_tokens bs (mark marks.RightBrace before)) (n + 131 + 144 * count bs + 10000 * size_among bs)
  ors_cost no_branch l {n = n} fit h = costs_most (n + 131 + 144 * 0 + 10000 * 0) (omega arith) (right_brace h)
  ors_cost (branch at body rest) l {n = n} fit h =
      costs_most (n + 131 + 144 * suc (count rest) + 10000 * (size_in body + size_among rest)) (omega arith) (ors_cost rest l fit.1 (all_costs body l fit.0 (left_brace (costs_or h))))

-- ---- a file

role_costs : {before : Kinds} {n : ℕ} (r : RoleText) → Costs before n → Costs (role_tokens r before) (n + 242)
role_costs {n = n} r h = costs_most (n + 242) (omega arith) (over_costs r.range (costs_word r.role.name (costs_token (kind.Key keys.Role) 10 (omega arith) h)))

commas_cost : (rs : List RoleText) {before : Kinds} {n : ℕ} → Costs before n → Costs (comma_tokens rs before) (n + 245 * length rs)
commas_cost [] {n = n} h = costs_most (n + 245 * 0) (omega arith) h
commas_cost (r ∷ rs) {n = n} h = costs_most (n + 245 * suc (length rs)) (omega arith) (commas_cost rs (role_costs r (costs_token (kind.Mark marks.Comma) 3 (omega arith) h)))

roles_cost : {before : Kinds} {n : ℕ} (rs : List RoleText) → Costs before n → Costs (roles_tokens rs before) (n + 245 * length rs)
roles_cost {n = n} [] h = costs_most (n + 245 * 0) (omega arith) h
roles_cost {n = n} (r ∷ rs) h = costs_most (n + 245 * suc (length rs)) (omega arith) (commas_cost rs (role_costs r h))

high_costs : {before : Kinds} {n : ℕ} (h : High) → Costs before n → Costs (high_tokens h before) (n + 11)
high_costs (high.Upto v) h = costs_number v h
high_costs {n = n} high.Max h = costs_most (n + 11) (omega arith) (costs_token (kind.Key keys.Max) 10 (omega arith) h)

constant_costs : (f : PlainFile) → Costs (constant_tokens f []) 234
constant_costs f =
    let nothing_yet : Costs [] 0 = record { few = omega arith } in
    costs_most 234 (omega arith) (semicolon (high_costs f.high (costs_token (kind.Mark marks.Dots) 3 (omega arith) (costs_number f.low
    (costs_token (kind.Mark marks.Equals) 3 (omega arith) (costs_word f.constant.name (costs_token (kind.Key keys.Const) 10 (omega arith) nothing_yet)))))))

head_costs : (f : PlainFile) → length f.roles ≤ 64 → Costs (head_tokens f []) 20000
head_costs f few =
    costs_most 20000 (omega (arith, few)) (costs_token (kind.Mark marks.RightParen) 3 (omega arith) (roles_cost f.roles (costs_token (kind.Mark marks.LeftParen) 3 (omega arith) (costs_word f.protocol.name
    (costs_token (kind.Key keys.Protocol) 10 (omega arith) (costs_token (kind.Key keys.Global) 10 (omega arith) (constant_costs f)))))))

pub file_costs : (f : PlainFile) → length f.roles ≤ 64 → AllFit 63 f.body.list → size_in f.body.list ≤ 4000 → Costs (file_tokens f) 50000000
file_costs f few fit most = costs_most 50000000 (omega (arith, most)) (right_brace (all_costs f.body.list 63 fit (left_brace (head_costs f few))))

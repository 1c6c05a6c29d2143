-- Places aside, alike trees are printed as the same tokens.
use Rattle.std.proofs.Common.{◌≡◌, List, [], ◌∷◌, Option, Some, None, refl, sym, ap, ◌∙◌}
use Rattle.std.specs.Prelude.{ℤ, map}
use Rattle.pb_text.specs.declared.place.Spot.{Spot}
use Rattle.pb_text.specs.declared.token.Mark.TheVariants as marks
use Rattle.pb_text.specs.declared.token.Key.TheVariants as keys
use Rattle.pb_syntax.specs.declared.tree.LinText.{LinText}
use Rattle.pb_syntax.specs.declared.tree.RangeText.{RangeText}
use Rattle.pb_syntax.specs.declared.tree.IndexText.{IndexText}
use Rattle.pb_syntax.specs.declared.tree.IndexText.TheVariants as index
use Rattle.pb_syntax.specs.declared.tree.End.{End}
use Rattle.pb_syntax.specs.declared.tree.RoleText.{RoleText}
use Rattle.pb_syntax.specs.Tree.{PlainStatement, message, foreach, loop, again, choice, compute, barrier, broadcast, reduce, allreduce, PlainStatements, nothing, more, PlainBranches, no_branch, branch, PlainBlock, PlainFile}
use Rattle.pb_syntax.specs.Bare.{bare_base, bare_lin, bare_range, bare_over, bare_index, bare_end, bare_role, bare_statement, bare_statements, bare_branches, bare_file}
use Rattle.pb_syntax.specs.Printed.{Kinds, mark, key, word, based_tokens, lin_tokens, range_tokens, over_tokens, role_tokens, comma_tokens, roles_tokens, index_tokens, end_tokens, payload_tokens, op_tokens, statement_tokens, statements_tokens, branches_tokens, or_tokens, head_tokens, block_tokens, file_tokens}
use Rattle.pb_syntax.specs.Printed.{◌>>◌}

based_bare : (base : Option Spot) (off : ℤ) (b : Kinds) → based_tokens (bare_base base) off b ≡ based_tokens base off b
based_bare None off b = refl
based_bare (Some s) off b = refl

lin_bare : (l : LinText) (b : Kinds) → lin_tokens (bare_lin l) b ≡ lin_tokens l b
lin_bare l b = based_bare l.base l.off b

range_bare : (r : RangeText) (b : Kinds) → range_tokens (bare_range r) b ≡ range_tokens r b
range_bare r b = ap (λ (k : Kinds). lin_tokens (bare_lin r.high) (mark marks.Dots k)) (lin_bare r.low b) ∙ lin_bare r.high (mark marks.Dots (lin_tokens r.low b))

over_bare : (o : Option RangeText) (b : Kinds) → over_tokens (bare_over o) b ≡ over_tokens o b
over_bare None b = refl
over_bare (Some r) b = ap (mark marks.RightBracket) (range_bare r (mark marks.LeftBracket b))

role_bare : (r : RoleText) (b : Kinds) → role_tokens (bare_role r) b ≡ role_tokens r b
role_bare r b = over_bare r.range (word r.role.name (key keys.Role b))

commas_bare : (rs : List RoleText) (b : Kinds) → comma_tokens (map bare_role rs) b ≡ comma_tokens rs b
commas_bare [] b = refl
commas_bare (r ∷ rs) b = ap (comma_tokens (map bare_role rs)) (role_bare r (mark marks.Comma b)) ∙ commas_bare rs (role_tokens r (mark marks.Comma b))

roles_bare : (rs : List RoleText) (b : Kinds) → roles_tokens (map bare_role rs) b ≡ roles_tokens rs b
roles_bare [] b = refl
roles_bare (r ∷ rs) b = ap (comma_tokens (map bare_role rs)) (role_bare r b) ∙ commas_bare rs (role_tokens r b)

index_bare : (i : IndexText) (b : Kinds) → index_tokens (bare_index i) b ≡ index_tokens i b
index_bare index.Zero b = refl
index_bare (index.At l) b = ap (mark marks.RightBracket) (lin_bare l (mark marks.LeftBracket b))
index_bare (index.Bind var over) b = ap (mark marks.RightBracket) (range_bare over (mark marks.Colon (word var.name (mark marks.LeftBracket b))))

end_bare : (e : End) (b : Kinds) → end_tokens (bare_end e) b ≡ end_tokens e b
end_bare e b = index_bare e.index (word e.role.name b)

mutual
  statement_bare : (s : PlainStatement) (b : Kinds) → statement_tokens (bare_statement s) b ≡ statement_tokens s b
  statement_bare (message label payload from to) b =
      let start : Kinds = key keys.From (payload_tokens payload (word label.name b)) in
      ap (λ (k : Kinds). mark marks.Semicolon (end_tokens (bare_end to) (key keys.To k))) (end_bare from (key keys.From (payload_tokens payload (word label.name b))))
      ∙ ap (mark marks.Semicolon) (end_bare to (key keys.To (end_tokens from (key keys.From (payload_tokens payload (word label.name b))))))
  statement_bare (foreach place var over at items) b =
      ap (λ (k : Kinds). mark marks.RightBrace (statements_tokens (bare_statements items) (mark marks.LeftBrace (mark marks.RightParen k)))) (range_bare over (mark marks.Colon (word var.name (mark marks.LeftParen (key keys.Foreach b)))))
      ∙ ap (mark marks.RightBrace) (statements_bare items (mark marks.LeftBrace (mark marks.RightParen (range_tokens over (mark marks.Colon (word var.name (mark marks.LeftParen (key keys.Foreach b))))))))
  statement_bare (loop place name at body) b = ap (mark marks.RightBrace) (statements_bare body (mark marks.LeftBrace (word name.name (key keys.Rec b))))
  statement_bare (again place name) b = refl
  statement_bare (choice place kernel who branches) b =
      ap (branches_tokens (bare_branches branches)) (end_bare who (key keys.At (word kernel.name (key keys.Choice b))))
      ∙ branches_bare branches (end_tokens who (key keys.At (word kernel.name (key keys.Choice b))))
  statement_bare (compute place kernel who) b = ap (mark marks.Semicolon) (end_bare who (key keys.At (word kernel.name (key keys.Compute b))))
  statement_bare (barrier place) b = refl
  statement_bare (broadcast place label payload from) b = ap (mark marks.Semicolon) (end_bare from (key keys.From (payload_tokens payload (word label.name (key keys.Broadcast b)))))
  statement_bare (reduce place label payload op to) b = ap (mark marks.Semicolon) (end_bare to (key keys.To (op_tokens op (key keys.With (payload_tokens payload (word label.name (key keys.Reduce b)))))))
  statement_bare (allreduce place label payload op) b = refl

  statements_bare : (ss : PlainStatements) (b : Kinds) → statements_tokens (bare_statements ss) b ≡ statements_tokens ss b
  statements_bare nothing b = refl
  statements_bare (more s rest) b = ap (statements_tokens (bare_statements rest)) (statement_bare s b) ∙ statements_bare rest (statement_tokens s b)

  branches_bare : (bs : PlainBranches) (b : Kinds) → branches_tokens (bare_branches bs) b ≡ branches_tokens bs b
  branches_bare no_branch b = refl
  branches_bare (branch at body rest) b =
      ap (λ (k : Kinds). or_tokens (bare_branches rest) (mark marks.RightBrace k)) (statements_bare body (mark marks.LeftBrace b))
      ∙ ors_bare rest (mark marks.RightBrace (statements_tokens body (mark marks.LeftBrace b)))

  ors_bare : (bs : PlainBranches) (b : Kinds) → or_tokens (bare_branches bs) b ≡ or_tokens bs b
  ors_bare no_branch b = refl
  ors_bare (branch at body rest) b =
      ap (λ (k : Kinds). or_tokens (bare_branches rest) (mark marks.RightBrace k)) (statements_bare body (mark marks.LeftBrace (key keys.Or b)))
      ∙ ors_bare rest (mark marks.RightBrace (statements_tokens body (mark marks.LeftBrace (key keys.Or b))))

head_bare : (f : PlainFile) → head_tokens (bare_file f) [] ≡ head_tokens f []
head_bare f = ap (mark marks.RightParen) (roles_bare f.roles _)

file_bare : (f : PlainFile) → file_tokens (bare_file f) ≡ file_tokens f
file_bare f =
    ap (λ (k : Kinds). block_tokens (bare_file f).body k) (head_bare f)
    ∙ ap (mark marks.RightBrace) (statements_bare f.body.list (mark marks.LeftBrace (head_tokens f [])))

pub alike_tokens : (f g : PlainFile) → bare_file f ≡ bare_file g → file_tokens f ≡ file_tokens g
alike_tokens f g e = sym (file_bare f) ∙ ap file_tokens e ∙ file_bare g

-- What a whole file within the limits reads.
use Rattle.std.proofs.Common.{◌≡◌, ℕ, ◌+◌, ◌≤◌, None, List, [], ◌∷◌, length, replicate, refl, sym, arith, subst}
use Rattle.std.proofs.lemmas.List.{length-replicate}
use Rattle.pb_text.specs.declared.quantity.Quantity.TheVariants as quantity
use Rattle.pb_text.specs.declared.token.Token.{Token}
use Rattle.pb_text.specs.declared.token.Mark.TheVariants as marks
use Rattle.pb_text.specs.declared.token.Key.TheVariants as keys
use Rattle.pb_text.specs.Tokens.{IsName}
use Rattle.pb_syntax.specs.declared.tree.RoleText.{RoleText}
use Rattle.pb_syntax.specs.Tree.{PlainFile}
use Rattle.pb_syntax.specs.Grammar.{role, comma_role, roles, block, file, IsFile}
use Rattle.pb_parse.specs.declared.limits.Counts.{Counts}
use Rattle.pb_parse.specs.declared.limits.Behind.{Behind}
use Rattle.pb_parse.specs.declared.limits.Behind.TheVariants as behind
use Rattle.pb_parse.specs.declared.limits.Sort.{Sort}
use Rattle.pb_parse.specs.declared.limits.Sort.TheVariants.{LeftBrace, RightBrace, Semicolon, LeftBracket, Dots, ElementType, Role, Choice, Or, Statement, Name, Number, Other}
use Rattle.pb_parse.specs.Limits.{sort_of, counted, sort_passed, name_passed, name_counted, counts_next, counts_from, at_start}
use Rattle.pb_compile_laws.proofs.Bools.{not_full}
use Rattle.pb_compile_laws.proofs.Counted.{AreFine, Does, co, IsInside, after, done_does, many_do, ◌>>>◌, ◌>>=◌}
use Rattle.pb_compile_laws.proofs.Tokens.{mark_step, key_step, name_step, number_step}
use Rattle.pb_compile_laws.proofs.Forms.{IsTop, top_quiet, role_range_quiet}
use Rattle.pb_compile_laws.proofs.Measures.{texts_in, tall_in, AreWell}
use Rattle.pb_compile_laws.proofs.Statements.{block_does}

abbrev pub AreNamed : List RoleText → Type 0
AreNamed [] = Unit {0}
AreNamed (r ∷ rs) = IsName r.role.name × AreNamed rs

pub record IsWellFile (f : PlainFile) : Type 0 where
  pub protocol : IsName f.protocol.name
  pub low : f.low ≤ 2000000000
  pub high : IsTop f.high
  pub some : 1 ≤ length f.roles
  pub roles : AreNamed f.roles
  pub body : AreWell f.body.list
  pub tall : 1 + tall_in f.body.list ≤ 64

-- among the roles
module _ (bs : List ℕ) where
  abbrev IsAmong : Counts → Type 0
  IsAmong c = (c ≡ co 0 0 c.roles bs c.last) × IsInside c.last

  role_does : (r : ℕ) (l : Behind) → Does (co 0 0 r bs l) role (λ c x. IsAmong c × IsName x.role.name)
  role_does r l = key_step keys.Role >>> λ k few. name_step tt >>> λ x named. role_range_quiet >>= λ l1 i over f. done_does _ ((refl, i), named)

  comma_does : (c : Counts) → IsAmong c → Does c comma_role (λ c1 x. IsAmong c1 × IsName x.role.name)
  comma_does c h = subst (λ (c1 : Counts). Does c1 comma_role (λ c2 x. IsAmong c2 × IsName x.role.name)) (sym h.0) (mark_step marks.Comma >>> λ p u. role_does c.roles behind.Other)

  roles_does : (r : ℕ) (l : Behind) → Does (co 0 0 r bs l) roles (λ c xs. IsAmong c × ((1 ≤ length xs) × AreNamed xs))
  roles_does r l =
      after (role_does r l) (λ c x p. after (many_do {good = λ c1 c2 x. IsName x.role.name} {all = λ c1 c2 xs. AreNamed xs} {from = IsAmong} comma_does (λ c1 h. tt) (λ c1 c2 c3 x xs p q. (p, q)) c p.0)
      (λ c1 xs q. done_does _ (q.0, (omega arith, (p.1, q.1)))))

file_does : (n : ℕ) (bs : List ℕ) → length bs ≡ 65 → Does (co 0 0 0 bs behind.Other) (file (block n)) (λ c f. IsWellFile f × (c.statements ≡ texts_in f.body.list))
file_does n bs long =
    key_step keys.Const >>> λ a a1. name_step tt >>> λ constant b1. mark_step marks.Equals >>> λ c c1. number_step >>> λ low small. mark_step marks.Dots >>> λ e e1. top_quiet >>= λ l1 i high t.
    mark_step marks.Semicolon >>> λ g g1. key_step keys.Global >>> λ h h1. key_step keys.Protocol >>> λ j j1. name_step tt >>> λ protocol named. mark_step marks.LeftParen >>> λ k k1.
    after (roles_does bs 0 behind.Other) (λ s rs p. rw p.0.0 (mark_step marks.RightParen >>> λ q q1. after (block_does n 0 0 s.roles bs behind.Other long) (λ c2 body r.
    done_does _ (record { protocol = named; low = small.1; high = t; some = p.1.0; roles = p.1.1; body = r.1.1.0; tall = r.1.1.1 }, omega (arith, r.1.0.statements)))))

-- ---- no more than 4,000 statements

few_named : (c : Counts) (l : Behind) → c.statements ≤ 4000 → name_passed l c.statements ≡ None → (name_counted l c).statements ≤ 4000
few_named c behind.Boundary h e = omega (arith, not_full 4000 c.statements quantity.Statements e)
few_named c behind.ElementType h e = h
few_named c behind.TypeBracket h e = h
few_named c behind.Dots h e = h
few_named c behind.Other h e = h

few_next : (c : Counts) (sort : Sort) → c.statements ≤ 4000 → sort_passed c sort ≡ None → (counted c sort).statements ≤ 4000
few_next c LeftBrace h e = h
few_next c RightBrace h e = h
few_next c Semicolon h e = h
few_next c LeftBracket h e = h
few_next c Dots h e = h
few_next c ElementType h e = h
few_next c Role h e = h
few_next c Choice h e = omega (arith, not_full 4000 c.statements quantity.Statements e)
few_next c Or h e = h
few_next c Statement h e = omega (arith, not_full 4000 c.statements quantity.Statements e)
few_next c Name h e = few_named c c.last h e
few_next c (Number n) h e = h
few_next c Other h e = h

few_from : (c : Counts) (ts : List Token) → c.statements ≤ 4000 → AreFine c ts → (counts_from c ts).statements ≤ 4000
few_from c [] h fine = h
few_from c (t ∷ ts) h fine = few_from (counts_next c t) ts (few_next c (sort_of t.kind) h fine.0.0) fine.1

-- ---- files

pub file_well : (ts : List Token) (f : PlainFile) → IsFile ts f → AreFine at_start ts → IsWellFile f × (texts_in f.body.list ≤ 4000)
file_well ts f is fine =
    let p = (file_does is.0 (replicate 65 0) (length-replicate {A = ℕ} 65 0)).does ts f is.1 fine in
    (p.0, omega (arith, sym p.1, few_from at_start ts (omega arith) fine))

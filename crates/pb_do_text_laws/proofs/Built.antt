-- Statements and blocks said from their parts.
use Rattle.std.proofs.Common.{◌≡◌, ℕ, zero, suc, ◌-◌, ◌<◌, ◌≤◌, List, [], ◌∷◌, inl, inr, length, sym, subst, arith}
use Rattle.pb_text.specs.declared.place.Place.{Place}
use Rattle.pb_text.specs.declared.place.Spot.{Spot}
use Rattle.pb_text.specs.declared.token.Mark.TheVariants as marks
use Rattle.pb_text.specs.declared.token.Key.TheVariants as keys
use Rattle.pb_syntax.specs.declared.tree.End.{End}
use Rattle.pb_syntax.specs.declared.tree.RangeText.{RangeText}
use Rattle.pb_syntax.specs.Bare.{nowhere}
use Rattle.pb_syntax.specs.Form.{Form, done, ◌>>=◌}
use Rattle.pb_syntax.specs.Tree.{PlainStatement, foreach, loop, choice, PlainBlock, statements_of, branches_of, PlainFile, Numeral, Top}
use Rattle.pb_syntax.specs.Grammar.{mark, key, name, roles, range, plain_end, and_semicolon, item, message_text, item_message, compute_text, continue_text, collective, braces, or_block, statement, block, file}
use Rattle.pb_do_syntax.specs.Calls.{PlainCallBlock, PlainSub, PlainCallFile}
use Rattle.pb_do_syntax.specs.Inlining.{file_with}
use Rattle.pb_do_grammar.specs.Grammar as calls
use Rattle.pb_do_text_laws.proofs.Said.{Said, AllSaid, said_done, said_then, said_left, said_right, said_mark, said_key, said_name, said_many, parts, of_done, either}
use Rattle.pb_do_text_laws.proofs.Renamed.{IsWord, leaf}
use Rattle.pb_do_text_laws.proofs.Fits.{IsLeaf}

-- the statements that may stand where so many braces may be opened
abbrev pub within : ℕ → Form PlainStatement
within l = statement (block l)

-- ---- statements without braces

pub leaf_said : (l : ℕ) (s : PlainStatement) → Said leaf s → Said (within l) s
leaf_said l s h = elim (either _ _ h) [
  | inl p ↦ said_left _ p
  | inr h1 ↦ elim (either _ _ h1) [
    | inl p ↦ said_right _ (said_right _ (said_right _ (said_left _ p)))
    | inr h2 ↦ elim (either _ _ h2) [
      | inl p ↦ said_right _ (said_right _ (said_right _ (said_right _ (said_right _ (said_left _ p)))))
      | inr p ↦ said_right _ (said_right _ (said_right _ (said_right _ (said_right _ (said_right _ p)))))
    ]
  ]
]

semicolon_leaf : (form : Form PlainStatement) → ((s : PlainStatement) → Said form s → IsLeaf s) → (s : PlainStatement) → Said (and_semicolon form) s → IsLeaf s
semicolon_leaf form are s h =
    let a = parts _ _ h in
    let b = parts _ _ a.rest in
    subst IsLeaf (sym (of_done _ b.rest)) (are a.value a.first)

message_leaf : (s : PlainStatement) → Said message_text s → IsLeaf s
message_leaf s h =
    let a = parts _ _ h in
    let b = parts _ _ a.rest in
    let c = parts _ _ b.rest in
    let d = parts _ _ c.rest in
    let e = parts _ _ d.rest in
    let f = parts _ _ e.rest in
    subst IsLeaf (sym (of_done _ f.rest)) tt

item_message_leaf : (s : PlainStatement) → Said item_message s → IsLeaf s
item_message_leaf s h =
    let a = parts _ _ h in
    let b = parts _ _ a.rest in
    let c = parts _ _ b.rest in
    let d = parts _ _ c.rest in
    let e = parts _ _ d.rest in
    let f = parts _ _ e.rest in
    subst IsLeaf (sym (of_done _ f.rest)) tt

compute_leaf : (s : PlainStatement) → Said compute_text s → IsLeaf s
compute_leaf s h =
    let a = parts _ _ h in
    let b = parts _ _ a.rest in
    let c = parts _ _ b.rest in
    let d = parts _ _ c.rest in
    subst IsLeaf (sym (of_done _ d.rest)) tt

continue_leaf : (s : PlainStatement) → Said continue_text s → IsLeaf s
continue_leaf s h =
    let a = parts _ _ h in
    let b = parts _ _ a.rest in
    subst IsLeaf (sym (of_done _ b.rest)) tt

collective_leaf : (s : PlainStatement) → Said collective s → IsLeaf s
collective_leaf s h = elim (either _ _ h) [
  | inl p ↦
      let a = parts _ _ p in
      subst IsLeaf (sym (of_done _ a.rest)) tt
  | inr h1 ↦ elim (either _ _ h1) [
    | inl p ↦
        let a = parts _ _ p in
        let b = parts _ _ a.rest in
        let c = parts _ _ b.rest in
        let d = parts _ _ c.rest in
        let e = parts _ _ d.rest in
        subst IsLeaf (sym (of_done _ e.rest)) tt
    | inr h2 ↦ elim (either _ _ h2) [
      | inl p ↦
          let a = parts _ _ p in
          let b = parts _ _ a.rest in
          let c = parts _ _ b.rest in
          let d = parts _ _ c.rest in
          let e = parts _ _ d.rest in
          let f = parts _ _ e.rest in
          let g = parts _ _ f.rest in
          subst IsLeaf (sym (of_done _ g.rest)) tt
      | inr p ↦
          let a = parts _ _ p in
          let b = parts _ _ a.rest in
          let c = parts _ _ b.rest in
          let d = parts _ _ c.rest in
          let e = parts _ _ d.rest in
          subst IsLeaf (sym (of_done _ e.rest)) tt
    ]
  ]
]

pub leaf_is : (s : PlainStatement) → Said leaf s → IsLeaf s
leaf_is s h = elim (either _ _ h) [
  | inl p ↦ semicolon_leaf message_text message_leaf s p
  | inr h1 ↦ elim (either _ _ h1) [
    | inl p ↦ semicolon_leaf continue_text continue_leaf s p
    | inr h2 ↦ elim (either _ _ h2) [
      | inl p ↦ semicolon_leaf compute_text compute_leaf s p
      | inr p ↦ semicolon_leaf collective collective_leaf s p
    ]
  ]
]

pub item_is_leaf : (s : PlainStatement) → Said item s → IsLeaf s
item_is_leaf s h = elim (either _ _ h) [
  | inl p ↦ semicolon_leaf item_message item_message_leaf s p
  | inr p ↦ semicolon_leaf compute_text compute_leaf s p
]

-- ---- blocks

braces_said : (form : Form PlainStatement) (at : Place) (list : List PlainStatement) → AllSaid form list → Said (braces form) (record { place = at; list = statements_of list })
braces_said form at list all = said_then _ (said_mark marks.LeftBrace at) (said_then _ (said_many form list all) (said_then _ (said_mark marks.RightBrace nowhere) (said_done _)))

pub block_said : (l : ℕ) (at : Place) (list : List PlainStatement) → AllSaid (within l) list → Said (block (suc l)) (record { place = at; list = statements_of list })
unfolding block
block_said l at list all = braces_said (within l) at list all

-- ---- statements with braces

pub foreach_said : (l : ℕ) (place : Place) (var : Spot) (over : RangeText) (at : Place) (list : List PlainStatement) → IsWord var.name → Said range over → AllSaid item list
    → Said (within l) (foreach place var over at (statements_of list))
foreach_said l place var over at list is ranged all =
    said_right _ (said_left _
    (said_then _ (said_key keys.Foreach place) (said_then _ (said_mark marks.LeftParen nowhere) (said_then _ (said_name var is) (said_then _ (said_mark marks.Colon nowhere)
    (said_then _ ranged (said_then _ (said_mark marks.RightParen nowhere) (said_then _ (braces_said item at list all) (said_done _)))))))))

less : (l : ℕ) → suc l - 1 ≡ l
less l = omega arith

pub loop_said : (l : ℕ) (place : Place) (name : Spot) (at : Place) (list : List PlainStatement) → 0 < l → IsWord name.name → AllSaid (within (l - 1)) list
    → Said (within l) (loop place name at (statements_of list))
loop_said zero place name at list some is all = absurd (omega (arith, some))
loop_said (suc l) place name at list some is all =
    let inside : AllSaid (within l) list = subst (λ (n : ℕ). AllSaid (within n) list) (less l) all in
    said_right _ (said_right _ (said_left _ (said_then _ (said_key keys.Rec place) (said_then _ (said_name name is) (said_then _ (block_said l at list inside) (said_done _))))))

or_said : (form : Form PlainBlock) (bs : List PlainBlock) → AllSaid form bs → AllSaid (or_block form) bs
or_said form [] all = tt
or_said form (b ∷ bs) all = (said_then _ (said_key keys.Or nowhere) all.0, or_said form bs all.1)

pub choice_said : (l : ℕ) (place : Place) (kernel : Spot) (who : End) (bs : List PlainBlock) → 0 < l → IsWord kernel.name → Said plain_end who → 2 ≤ length bs → AllSaid (block (suc (l - 1))) bs
    → Said (within l) (choice place kernel who (branches_of bs))
choice_said zero place kernel who bs some is at two all = absurd (omega (arith, some))
choice_said (suc l) place kernel who [] some is at two all = absurd (omega (arith, two))
choice_said (suc l) place kernel who (b ∷ []) some is at two all = absurd (omega (arith, two))
choice_said (suc l) place kernel who (b ∷ c ∷ bs) some is at two all =
    let inside : AllSaid (block (suc l)) (b ∷ c ∷ bs) = subst (λ (n : ℕ). AllSaid (block (suc n)) (b ∷ c ∷ bs)) (less l) all in
    said_right _ (said_right _ (said_right _ (said_right _ (said_left _
    (said_then _ (said_key keys.Choice place) (said_then _ (said_name kernel is) (said_then _ (said_key keys.At nowhere) (said_then _ at
    (said_then _ inside.0 (said_then _ (said_then _ (said_key keys.Or nowhere) inside.1.0) (said_then _ (said_many (or_block (block (suc l))) bs (or_said (block (suc l)) bs inside.1.1)) (said_done _))))))))))))

-- ---- a file

-- what stands behind the constant
abbrev pub protocol_form : Form PlainBlock → Spot → Numeral → Top → Form PlainFile
protocol_form body_form constant low high = do
  global_key ← key keys.Global
  protocol_key ← key keys.Protocol
  protocol ← name
  left ← mark marks.LeftParen
  list ← roles
  right ← mark marks.RightParen
  body ← body_form
  done (record { constant = constant; low = low.value; low_place = low.place; high = high.high; high_place = high.place; protocol = protocol; roles = list; body = body })

-- and behind the subprotocols
abbrev calls_form : Form PlainCallBlock → Spot → Numeral → Top → List PlainSub → Form PlainCallFile
calls_form body_form constant low high subs = do
  global_key ← key keys.Global
  protocol_key ← key keys.Protocol
  protocol ← name
  left ← mark marks.LeftParen
  list ← roles
  right ← mark marks.RightParen
  body ← body_form
  done (record { subs = subs; constant = constant; low = low.value; low_place = low.place; high = high.high; high_place = high.place; protocol = protocol; roles = list; body = body })

protocol_said : (n l : ℕ) (constant : Spot) (low : Numeral) (high : Top) (subs : List PlainSub) (f : PlainCallFile) (list : List PlainStatement) → Said (calls_form (calls.block n) constant low high subs) f → AllSaid (within l) list
    → Said (protocol_form (block (suc l)) constant low high) (file_with f list)
protocol_said n l constant low high subs f list h all =
    let k = parts _ _ h in
    let m = parts _ _ k.rest in
    let o = parts _ _ m.rest in
    let p = parts _ _ o.rest in
    let q = parts _ _ p.rest in
    let r = parts _ _ q.rest in
    let s = parts _ _ r.rest in
    subst (λ (x : PlainCallFile). Said (protocol_form (block (suc l)) constant low high) (file_with x list)) (sym (of_done _ s.rest))
    (said_then _ k.first (said_then _ m.first (said_then _ o.first (said_then _ p.first (said_then _ q.first (said_then _ r.first
    (said_then _ (block_said l s.value.place list all) (said_done _))))))))

pub file_said : (n l : ℕ) (f : PlainCallFile) (list : List PlainStatement) → Said (calls.file (calls.block n)) f → AllSaid (within l) list → Said (file (block (suc l))) (file_with f list)
file_said n l f list h all =
    let a = parts _ _ h in
    let b = parts _ _ a.rest in
    let c = parts _ _ b.rest in
    let d = parts _ _ c.rest in
    let e = parts _ _ d.rest in
    let g = parts _ _ e.rest in
    let i = parts _ _ g.rest in
    let j = parts _ _ i.rest in
    let last : Said (protocol_form (block (suc l)) b.value d.value g.value) (file_with f list) = protocol_said n l b.value d.value g.value j.value f list j.rest all in
    said_then _ a.first (said_then _ b.first (said_then _ c.first (said_then _ d.first (said_then _ e.first (said_then _ g.first (said_then _ i.first last))))))

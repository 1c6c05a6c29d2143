-- What a text with subprotocols says of its tree: each part of it is said.
use Rattle.std.proofs.Common.{ℕ, zero, suc, ◌≤◌, List, [], ◌∷◌, inl, inr, sym, subst, arith}
use Rattle.pb_text.specs.declared.place.Spot.{Spot}
use Rattle.pb_syntax.specs.Form.{Form}
use Rattle.pb_syntax.specs.Tree.{PlainStatement}
use Rattle.pb_syntax.specs.Grammar.{range, plain_end, item, and_semicolon, message_text, continue_text, compute_text, collective}
use Rattle.pb_do_syntax.specs.Calls.{Call, plain, foreach, loop, choice, call, Calls, nothing, more, CallBranches, no_branch, branch, calls_of, branches_of, PlainCallBlock, PlainSub, PlainCallFile}
use Rattle.pb_do_grammar.specs.Grammar.{simple, item_call, braces, foreach_text, rec_text, or_block, choice_text, comma_name, call_text, statement, block, subprotocol, file}
use Rattle.pb_do_text_laws.specs.Limits.{branch_count}
use Rattle.pb_do_text_laws.proofs.Said.{Said, AllSaid, said_left, said_right, parts, of_done, either, of_name, of_many}
use Rattle.pb_do_text_laws.proofs.Renamed.{IsWord, AreNames, leaf}

-- an item of a foreach
abbrev pub IsItem : Call → Type 0
IsItem (plain s) = Said item s
IsItem (foreach place var over at items) = ⊥
IsItem (loop place name at body) = ⊥
IsItem (choice place kernel who branches) = ⊥
IsItem (call place sub args) = ⊥

abbrev pub AreItems : Calls → Type 0
AreItems nothing = Unit {0}
AreItems (more first rest) = IsItem first × AreItems rest

abbrev mutual
  pub IsSpoken : Call → Type 0
  IsSpoken (plain s) = Said leaf s
  IsSpoken (foreach place var over at items) = IsWord var.name × (Said range over × AreItems items)
  IsSpoken (loop place name at body) = IsWord name.name × AreSpoken body
  IsSpoken (choice place kernel who branches) = IsWord kernel.name × (Said plain_end who × ((2 ≤ branch_count branches) × AreSpokenBranches branches))
  IsSpoken (call place sub args) = AreNames args

  pub AreSpoken : Calls → Type 0
  AreSpoken nothing = Unit {0}
  AreSpoken (more first rest) = IsSpoken first × AreSpoken rest

  pub AreSpokenBranches : CallBranches → Type 0
  AreSpokenBranches no_branch = Unit {0}
  AreSpokenBranches (branch at first rest) = AreSpoken first × AreSpokenBranches rest

abbrev pub AreSpokenSubs : List PlainSub → Type 0
AreSpokenSubs [] = Unit {0}
AreSpokenSubs (s ∷ ss) = AreSpoken s.body.list × AreSpokenSubs ss

-- ---- items

item_is : (s : Call) → Said item_call s → IsItem s
item_is s h =
    let a = parts _ _ h in
    subst IsItem (sym (of_done _ a.rest)) a.first

items_are : (xs : List Call) → AllSaid item_call xs → AreItems (calls_of xs)
items_are [] all = tt
items_are (x ∷ xs) all = (item_is x all.0, items_are xs all.1)

item_block : (b : PlainCallBlock) → Said (braces item_call) b → AreItems b.list
item_block b h =
    let o = parts _ _ h in
    let l = parts _ _ o.rest in
    let c = parts _ _ l.rest in
    subst (λ (x : PlainCallBlock). AreItems x.list) (sym (of_done _ c.rest)) (items_are l.value (of_many item_call l.value l.first))

foreach_is : (s : Call) → Said foreach_text s → IsSpoken s
foreach_is s h =
    let a = parts _ _ h in
    let b = parts _ _ a.rest in
    let c = parts _ _ b.rest in
    let d = parts _ _ c.rest in
    let e = parts _ _ d.rest in
    let f = parts _ _ e.rest in
    let g = parts _ _ f.rest in
    subst IsSpoken (sym (of_done _ g.rest)) (of_name c.value c.first, (e.first, item_block g.value g.first))

-- ---- statements

simple_is : (form : Form PlainStatement) → ((s : PlainStatement) → Said (and_semicolon form) s → Said leaf s) → (s : Call) → Said (simple form) s → IsSpoken s
simple_is form leaves s h =
    let a = parts _ _ h in
    subst IsSpoken (sym (of_done _ a.rest)) (leaves a.value a.first)

names_are : (xs : List Spot) → AllSaid comma_name xs → AreNames xs
names_are [] all = tt
names_are (x ∷ xs) all = (of_name x (parts _ _ all.0).rest, names_are xs all.1)

call_is : (s : Call) → Said call_text s → IsSpoken s
call_is s h =
    let a = parts _ _ h in
    let b = parts _ _ a.rest in
    let c = parts _ _ b.rest in
    let d = parts _ _ c.rest in
    let e = parts _ _ d.rest in
    let f = parts _ _ e.rest in
    let g = parts _ _ f.rest in
    subst IsSpoken (sym (of_done _ g.rest)) (of_name d.value d.first, names_are e.value (of_many comma_name e.value e.first))

module _ (inside : Form PlainCallBlock) (spoken : (b : PlainCallBlock) → Said inside b → AreSpoken b.list) where
  rec_is : (s : Call) → Said (rec_text inside) s → IsSpoken s
  rec_is s h =
      let a = parts _ _ h in
      let b = parts _ _ a.rest in
      let c = parts _ _ b.rest in
      subst IsSpoken (sym (of_done _ c.rest)) (of_name b.value b.first, spoken c.value c.first)

  or_is : (b : PlainCallBlock) → Said (or_block inside) b → AreSpoken b.list
  or_is b h = spoken b (parts _ _ h).rest

  others_are : (bs : List PlainCallBlock) → AllSaid (or_block inside) bs → AreSpokenBranches (branches_of bs)
  others_are [] all = tt
  others_are (b ∷ bs) all = (or_is b all.0, others_are bs all.1)

  choice_is : (s : Call) → Said (choice_text inside) s → IsSpoken s
  choice_is s h =
      let a = parts _ _ h in
      let b = parts _ _ a.rest in
      let c = parts _ _ b.rest in
      let d = parts _ _ c.rest in
      let e = parts _ _ d.rest in
      let f = parts _ _ e.rest in
      let g = parts _ _ f.rest in
      subst IsSpoken (sym (of_done _ g.rest)) (of_name b.value b.first, (d.first, (omega arith, (spoken e.value e.first, (or_is f.value f.first, others_are g.value (of_many (or_block inside) g.value g.first))))))

  statement_is : (s : Call) → Said (statement inside) s → IsSpoken s
  statement_is s h = elim (either _ _ h) [
    | inl p ↦ simple_is message_text (λ x q. said_left _ q) s p
    | inr h1 ↦ elim (either _ _ h1) [
      | inl p ↦ foreach_is s p
      | inr h2 ↦ elim (either _ _ h2) [
        | inl p ↦ rec_is s p
        | inr h3 ↦ elim (either _ _ h3) [
          | inl p ↦ simple_is continue_text (λ x q. said_right _ (said_left _ q)) s p
          | inr h4 ↦ elim (either _ _ h4) [
            | inl p ↦ choice_is s p
            | inr h5 ↦ elim (either _ _ h5) [
              | inl p ↦ simple_is compute_text (λ x q. said_right _ (said_right _ (said_left _ q))) s p
              | inr h6 ↦ elim (either _ _ h6) [
                | inl p ↦ call_is s p
                | inr p ↦ simple_is collective (λ x q. said_right _ (said_right _ (said_right _ q))) s p
              ]
            ]
          ]
        ]
      ]
    ]
  ]

  statements_are : (xs : List Call) → AllSaid (statement inside) xs → AreSpoken (calls_of xs)
  statements_are [] all = tt
  statements_are (x ∷ xs) all = (statement_is x all.0, statements_are xs all.1)

  braces_are : (b : PlainCallBlock) → Said (braces (statement inside)) b → AreSpoken b.list
  braces_are b h =
      let o = parts _ _ h in
      let l = parts _ _ o.rest in
      let c = parts _ _ l.rest in
      subst (λ (x : PlainCallBlock). AreSpoken x.list) (sym (of_done _ c.rest)) (statements_are l.value (of_many (statement inside) l.value l.first))

-- ---- blocks

pub block_is : (n : ℕ) (b : PlainCallBlock) → Said (block n) b → AreSpoken b.list
unfolding block
block_is zero b h =
    let o = parts _ _ h in
    let c = parts _ _ o.rest in
    subst (λ (x : PlainCallBlock). AreSpoken x.list) (sym (of_done _ c.rest)) tt
block_is (suc n) b h = braces_are (block n) (block_is n) b h

pub sub_is : (n : ℕ) (s : PlainSub) → Said (subprotocol (block n)) s → AreSpoken s.body.list
sub_is n s h =
    let a = parts _ _ h in
    let b = parts _ _ a.rest in
    let c = parts _ _ b.rest in
    let d = parts _ _ c.rest in
    let e = parts _ _ d.rest in
    let f = parts _ _ e.rest in
    let g = parts _ _ f.rest in
    subst (λ (x : PlainSub). AreSpoken x.body.list) (sym (of_done _ g.rest)) (block_is n g.value g.first)

subs_are : (n : ℕ) (ss : List PlainSub) → AllSaid (subprotocol (block n)) ss → AreSpokenSubs ss
subs_are n [] all = tt
subs_are n (s ∷ ss) all = (sub_is n s all.0, subs_are n ss all.1)

pub file_is : (n : ℕ) (f : PlainCallFile) → Said (file (block n)) f → AreSpokenSubs f.subs × AreSpoken f.body.list
file_is n f h =
    let a = parts _ _ h in
    let b = parts _ _ a.rest in
    let c = parts _ _ b.rest in
    let d = parts _ _ c.rest in
    let e = parts _ _ d.rest in
    let g = parts _ _ e.rest in
    let i = parts _ _ g.rest in
    let j = parts _ _ i.rest in
    let k = parts _ _ j.rest in
    let l = parts _ _ k.rest in
    let m = parts _ _ l.rest in
    let o = parts _ _ m.rest in
    let p = parts _ _ o.rest in
    let q = parts _ _ p.rest in
    let r = parts _ _ q.rest in
    subst (λ (x : PlainCallFile). AreSpokenSubs x.subs × AreSpoken x.body.list) (sym (of_done _ r.rest))
    (subs_are n j.value (of_many (subprotocol (block n)) j.value j.first), block_is n r.value r.first)

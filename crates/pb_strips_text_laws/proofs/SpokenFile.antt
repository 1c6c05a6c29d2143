-- What a text with strips says of its statements with braces, and of the whole.
use Rattle.std.proofs.Common.{ℕ, zero, suc, ◌<◌, List, [], ◌∷◌, length, inl, inr, sym, subst, arith}
use Rattle.pb_syntax.specs.Form.{Form, ◌or◌}
use Rattle.pb_do_text_laws.proofs.Said.{Said, AllSaid, parts, of_done, either, of_name, of_many}
use Rattle.pb_strips_syntax.specs.declared.tree.StripRole.{StripRole}
use Rattle.pb_strips_syntax.specs.Strips.{Strip, strips_of, branches_of, PlainStripBlock, PlainStripFile}
use Rattle.pb_strips_grammar.specs.Grammar.{role, comma_role, roles, message_text, compute_text, continue_text, collective, item, braces, columns_text, items, items_or_columns, rec_text, or_block, choice_text, statement, column_block, block, file}
use Rattle.pb_strips_text_laws.proofs.Spoken.{IsSpoken, AreSpoken, AreSpokenBranches, AreSpokenRoles, AreItems, message_is, compute_is, continue_is, collective_is, semicolon_is, item_is, item_block, columns_is, item_or_columns_is, foreach_is, plain_end_is}

-- ---- statements with braces

module _ (each : Form PlainStripBlock) (are_items : (b : PlainStripBlock) → Said each b → AreItems b.list) (inside : Form PlainStripBlock) (spoken : (b : PlainStripBlock) → Said inside b → AreSpoken b.list) where
  rec_is : (s : Strip) → Said (rec_text inside) s → IsSpoken s
  rec_is s h =
      let a = parts _ _ h in
      let b = parts _ _ a.rest in
      let c = parts _ _ b.rest in
      subst IsSpoken (sym (of_done _ c.rest)) (of_name b.value b.first, spoken c.value c.first)

  or_is : (b : PlainStripBlock) → Said (or_block inside) b → AreSpoken b.list
  or_is b h = spoken b (parts _ _ h).rest

  others_are : (bs : List PlainStripBlock) → AllSaid (or_block inside) bs → AreSpokenBranches (branches_of bs)
  others_are [] all = tt
  others_are (b ∷ bs) all = (or_is b all.0, others_are bs all.1)

  choice_is : (s : Strip) → Said (choice_text inside) s → IsSpoken s
  choice_is s h =
      let a = parts _ _ h in
      let b = parts _ _ a.rest in
      let c = parts _ _ b.rest in
      let d = parts _ _ c.rest in
      let e = parts _ _ d.rest in
      let f = parts _ _ e.rest in
      let g = parts _ _ f.rest in
      subst IsSpoken (sym (of_done _ g.rest))
      (of_name b.value b.first, (plain_end_is d.value d.first, (omega arith, (spoken e.value e.first, (or_is f.value f.first, others_are g.value (of_many (or_block inside) g.value g.first))))))

  statement_is : (s : Strip) → Said (statement each inside) s → IsSpoken s
  statement_is s h = elim (either _ _ h) [
    | inl p ↦ semicolon_is IsSpoken message_text message_is s p
    | inr h1 ↦ elim (either _ _ h1) [
      | inl p ↦ foreach_is each are_items s p
      | inr h2 ↦ elim (either _ _ h2) [
        | inl p ↦ rec_is s p
        | inr h3 ↦ elim (either _ _ h3) [
          | inl p ↦ semicolon_is IsSpoken continue_text continue_is s p
          | inr h4 ↦ elim (either _ _ h4) [
            | inl p ↦ choice_is s p
            | inr h5 ↦ elim (either _ _ h5) [
              | inl p ↦ semicolon_is IsSpoken compute_text compute_is s p
              | inr p ↦ semicolon_is IsSpoken collective collective_is s p
            ]
          ]
        ]
      ]
    ]
  ]

statements_are : (form : Form Strip) → ((s : Strip) → Said form s → IsSpoken s) → (xs : List Strip) → AllSaid form xs → AreSpoken (strips_of xs)
statements_are form are [] all = tt
statements_are form are (x ∷ xs) all = (are x all.0, statements_are form are xs all.1)

braces_are : (form : Form Strip) → ((s : Strip) → Said form s → IsSpoken s) → (b : PlainStripBlock) → Said (braces form) b → AreSpoken b.list
braces_are form are b h =
    let o = parts _ _ h in
    let l = parts _ _ o.rest in
    let c = parts _ _ l.rest in
    subst (λ (x : PlainStripBlock). AreSpoken x.list) (sym (of_done _ c.rest)) (statements_are form are l.value (of_many form l.value l.first))

-- ---- blocks

column_block_is : (n : ℕ) (b : PlainStripBlock) → Said (column_block n) b → AreSpoken b.list
unfolding column_block
column_block_is zero b h =
    let o = parts _ _ h in
    let c = parts _ _ o.rest in
    subst (λ (x : PlainStripBlock). AreSpoken x.list) (sym (of_done _ c.rest)) tt
column_block_is (suc n) b h =
    braces_are (statement items (column_block n)) (statement_is items (item_block item item_is) (column_block n) (column_block_is n)) b h

-- a statement outside of columns
outer_is : (columned inside : Form PlainStripBlock) → ((b : PlainStripBlock) → Said columned b → AreSpoken b.list) → ((b : PlainStripBlock) → Said inside b → AreSpoken b.list) → (s : Strip)
    → Said (columns_text columned or statement items_or_columns inside) s → IsSpoken s
outer_is columned inside column_spoken spoken s h = elim (either _ _ h) [
  | inl p ↦ columns_is IsSpoken columned (λ b q place var low high. column_spoken b q) s p
  | inr p ↦ statement_is items_or_columns (item_block (item or columns_text items) item_or_columns_is) inside spoken s p
]

block_is : (n : ℕ) (b : PlainStripBlock) → Said (block n) b → AreSpoken b.list
unfolding block
block_is zero b h =
    let o = parts _ _ h in
    let c = parts _ _ o.rest in
    subst (λ (x : PlainStripBlock). AreSpoken x.list) (sym (of_done _ c.rest)) tt
block_is (suc n) b h = braces_are (columns_text (column_block n) or statement items_or_columns (block n)) (outer_is (column_block n) (block n) (column_block_is n) (block_is n)) b h

-- ---- roles

role_is : (r : StripRole) → Said role r → AreSpokenRoles (r ∷ [])
role_is r h =
    let a = parts _ _ h in
    let b = parts _ _ a.rest in
    let c = parts _ _ b.rest in
    let d = parts _ _ c.rest in
    subst (λ (x : StripRole). AreSpokenRoles (x ∷ [])) (sym (of_done _ d.rest)) ((of_name b.value b.first, c.first), tt)

commas_are : (rs : List StripRole) → AllSaid comma_role rs → AreSpokenRoles rs
commas_are [] all = tt
commas_are (r ∷ rs) all = ((role_is r (parts _ _ all.0).rest).0, commas_are rs all.1)

roles_are : (rs : List StripRole) → Said roles rs → AreSpokenRoles rs × (0 < length rs)
roles_are rs h =
    let a = parts _ _ h in
    let b = parts _ _ a.rest in
    subst (λ (xs : List StripRole). AreSpokenRoles xs × (0 < length xs)) (sym (of_done _ b.rest))
    (((role_is a.value a.first).0, commas_are b.value (of_many comma_role b.value b.first)), omega arith)

-- ---- a file

pub file_is : (n : ℕ) (f : PlainStripFile) → Said (file (block n)) f → (AreSpokenRoles f.roles × (0 < length f.roles)) × AreSpoken f.body.list
file_is n f h =
    let a = parts _ _ h in
    let b = parts _ _ a.rest in
    let c = parts _ _ b.rest in
    let d = parts _ _ c.rest in
    let e = parts _ _ d.rest in
    let g = parts _ _ e.rest in
    let i = parts _ _ g.rest in
    let j = parts _ _ i.rest in
    let k = parts _ _ j.rest in
    let l = parts _ _ k.rest in
    let m = parts _ _ l.rest in
    let o = parts _ _ m.rest in
    let p = parts _ _ o.rest in
    let q = parts _ _ p.rest in
    subst (λ (x : PlainStripFile). (AreSpokenRoles x.roles × (0 < length x.roles)) × AreSpoken x.body.list) (sym (of_done _ q.rest))
    (roles_are o.value o.first, block_is n q.value q.first)

-- What a text with strips says of its tree: each part of it is said.
use Rattle.std.proofs.Common.{ℕ, ◌≤◌, List, [], ◌∷◌, inl, inr, sym, subst}
use Rattle.pb_syntax.specs.declared.tree.IndexText.{IndexText}
use Rattle.pb_syntax.specs.declared.tree.IndexText.TheVariants as index
use Rattle.pb_text.specs.declared.place.Place.{Place}
use Rattle.pb_text.specs.declared.place.Spot.{Spot}
use Rattle.pb_syntax.specs.Form.{Form, ◌or◌}
use Rattle.pb_syntax.specs.Grammar.{range, role_range, payload, op, plain_index, any_index}
use Rattle.pb_do_text_laws.proofs.Said.{Said, AllSaid, parts, of_done, either, of_name, of_many}
use Rattle.pb_do_text_laws.proofs.Renamed.{IsWord}
use Rattle.pb_strips_syntax.specs.declared.tree.StripEnd.{StripEnd}
use Rattle.pb_strips_syntax.specs.declared.tree.StripRole.{StripRole}
use Rattle.pb_strips_syntax.specs.Strips.{Strip, message, foreach, loop, again, choice, compute, barrier, broadcast, reduce, allreduce, columns, Strips, nothing, more, StripBranches, no_branch, branch, strips_of, PlainStripBlock}
use Rattle.pb_strips_grammar.specs.Grammar.{plain_end, any_end, end_beside, message_text, item_message, compute_text, continue_text, collective, and_semicolon, item, braces, columns_text, foreach_text, items}
use Rattle.pb_strips_text_laws.specs.Limits.{branch_count}

-- ---- what is said of ends and statements

abbrev pub IsPlainEnd : StripEnd → Type 0
IsPlainEnd e = IsWord e.role.name × Said plain_index e.index

abbrev pub IsAnyEnd : StripEnd → Type 0
IsAnyEnd e = IsWord e.role.name × Said any_index e.index

abbrev pub IsEndBeside : IndexText → StripEnd → Type 0
IsEndBeside (index.Bind var over) e = IsPlainEnd e
IsEndBeside index.Zero e = IsAnyEnd e
IsEndBeside (index.At at) e = IsAnyEnd e

-- an item of a foreach, and columns of items
abbrev mutual
  pub IsItem : Strip → Type 0
  IsItem (message label carries from to) = IsWord label.name × (Said payload carries × (IsPlainEnd from × IsPlainEnd to))
  IsItem (foreach place var over at list) = ⊥
  IsItem (loop place name at body) = ⊥
  IsItem (again place name) = ⊥
  IsItem (choice place kernel who branches) = ⊥
  IsItem (compute place kernel who) = IsWord kernel.name × IsPlainEnd who
  IsItem (barrier place) = ⊥
  IsItem (broadcast place label carries from) = ⊥
  IsItem (reduce place label carries by to) = ⊥
  IsItem (allreduce place label carries by) = ⊥
  IsItem (columns place var low high at body) = AreItems body

  pub AreItems : Strips → Type 0
  AreItems nothing = Unit {0}
  AreItems (more first rest) = IsItem first × AreItems rest

abbrev mutual
  pub IsSpoken : Strip → Type 0
  IsSpoken (message label carries from to) = IsWord label.name × (Said payload carries × (IsAnyEnd from × IsEndBeside from.index to))
  IsSpoken (foreach place var over at list) = IsWord var.name × (Said range over × AreItems list)
  IsSpoken (loop place name at body) = IsWord name.name × AreSpoken body
  IsSpoken (again place name) = IsWord name.name
  IsSpoken (choice place kernel who branches) = IsWord kernel.name × (IsPlainEnd who × ((2 ≤ branch_count branches) × AreSpokenBranches branches))
  IsSpoken (compute place kernel who) = IsWord kernel.name × IsPlainEnd who
  IsSpoken (barrier place) = Unit {0}
  IsSpoken (broadcast place label carries from) = IsWord label.name × (Said payload carries × IsPlainEnd from)
  IsSpoken (reduce place label carries by to) = IsWord label.name × (Said payload carries × (Said op by × IsPlainEnd to))
  IsSpoken (allreduce place label carries by) = IsWord label.name × (Said payload carries × Said op by)
  IsSpoken (columns place var low high at body) = AreSpoken body

  pub AreSpoken : Strips → Type 0
  AreSpoken nothing = Unit {0}
  AreSpoken (more first rest) = IsSpoken first × AreSpoken rest

  pub AreSpokenBranches : StripBranches → Type 0
  AreSpokenBranches no_branch = Unit {0}
  AreSpokenBranches (branch at first rest) = AreSpoken first × AreSpokenBranches rest

abbrev pub AreSpokenRoles : List StripRole → Type 0
AreSpokenRoles [] = Unit {0}
AreSpokenRoles (r ∷ rs) = (IsWord r.role.name × Said role_range r.range) × AreSpokenRoles rs

-- ---- ends

pub plain_end_is : (e : StripEnd) → Said plain_end e → IsPlainEnd e
plain_end_is e h =
    let a = parts _ _ h in
    let b = parts _ _ a.rest in
    let c = parts _ _ b.rest in
    subst IsPlainEnd (sym (of_done _ c.rest)) (of_name a.value a.first, b.first)

any_end_is : (e : StripEnd) → Said any_end e → IsAnyEnd e
any_end_is e h =
    let a = parts _ _ h in
    let b = parts _ _ a.rest in
    let c = parts _ _ b.rest in
    subst IsAnyEnd (sym (of_done _ c.rest)) (of_name a.value a.first, b.first)

end_beside_is : (i : IndexText) (e : StripEnd) → Said (end_beside i) e → IsEndBeside i e
end_beside_is (index.Bind var over) e h = plain_end_is e h
end_beside_is index.Zero e h = any_end_is e h
end_beside_is (index.At at) e h = any_end_is e h

-- ---- statements without braces

pub message_is : (s : Strip) → Said message_text s → IsSpoken s
message_is s h =
    let a = parts _ _ h in
    let b = parts _ _ a.rest in
    let c = parts _ _ b.rest in
    let d = parts _ _ c.rest in
    let e = parts _ _ d.rest in
    let f = parts _ _ e.rest in
    subst IsSpoken (sym (of_done _ f.rest)) (of_name a.value a.first, (b.first, (any_end_is d.value d.first, end_beside_is d.value.index f.value f.first)))

item_message_is : (s : Strip) → Said item_message s → IsItem s
item_message_is s h =
    let a = parts _ _ h in
    let b = parts _ _ a.rest in
    let c = parts _ _ b.rest in
    let d = parts _ _ c.rest in
    let e = parts _ _ d.rest in
    let f = parts _ _ e.rest in
    subst IsItem (sym (of_done _ f.rest)) (of_name a.value a.first, (b.first, (plain_end_is d.value d.first, plain_end_is f.value f.first)))

item_compute_is : (s : Strip) → Said compute_text s → IsItem s
item_compute_is s h =
    let a = parts _ _ h in
    let b = parts _ _ a.rest in
    let c = parts _ _ b.rest in
    let d = parts _ _ c.rest in
    subst IsItem (sym (of_done _ d.rest)) (of_name b.value b.first, plain_end_is d.value d.first)

pub compute_is : (s : Strip) → Said compute_text s → IsSpoken s
compute_is s h =
    let a = parts _ _ h in
    let b = parts _ _ a.rest in
    let c = parts _ _ b.rest in
    let d = parts _ _ c.rest in
    subst IsSpoken (sym (of_done _ d.rest)) (of_name b.value b.first, plain_end_is d.value d.first)

pub continue_is : (s : Strip) → Said continue_text s → IsSpoken s
continue_is s h =
    let a = parts _ _ h in
    let b = parts _ _ a.rest in
    subst IsSpoken (sym (of_done _ b.rest)) (of_name b.value b.first)

pub collective_is : (s : Strip) → Said collective s → IsSpoken s
collective_is s h = elim (either _ _ h) [
  | inl p ↦
      let a = parts _ _ p in
      subst IsSpoken (sym (of_done _ a.rest)) tt
  | inr h1 ↦ elim (either _ _ h1) [
    | inl p ↦
        let a = parts _ _ p in
        let b = parts _ _ a.rest in
        let c = parts _ _ b.rest in
        let d = parts _ _ c.rest in
        let e = parts _ _ d.rest in
        subst IsSpoken (sym (of_done _ e.rest)) (of_name b.value b.first, (c.first, plain_end_is e.value e.first))
    | inr h2 ↦ elim (either _ _ h2) [
      | inl p ↦
          let a = parts _ _ p in
          let b = parts _ _ a.rest in
          let c = parts _ _ b.rest in
          let d = parts _ _ c.rest in
          let e = parts _ _ d.rest in
          let f = parts _ _ e.rest in
          let g = parts _ _ f.rest in
          subst IsSpoken (sym (of_done _ g.rest)) (of_name b.value b.first, (c.first, (e.first, plain_end_is g.value g.first)))
      | inr p ↦
          let a = parts _ _ p in
          let b = parts _ _ a.rest in
          let c = parts _ _ b.rest in
          let d = parts _ _ c.rest in
          let e = parts _ _ d.rest in
          subst IsSpoken (sym (of_done _ e.rest)) (of_name b.value b.first, (c.first, e.first))
    ]
  ]
]

pub semicolon_is : (keeps : Strip → Type 0) (form : Form Strip) → ((s : Strip) → Said form s → keeps s) → (s : Strip) → Said (and_semicolon form) s → keeps s
semicolon_is keeps form are s h =
    let a = parts _ _ h in
    let b = parts _ _ a.rest in
    subst keeps (sym (of_done _ b.rest)) (are a.value a.first)

-- ---- items

pub item_is : (s : Strip) → Said item s → IsItem s
item_is s h = elim (either _ _ h) [
  | inl p ↦ semicolon_is IsItem item_message item_message_is s p
  | inr p ↦ semicolon_is IsItem compute_text item_compute_is s p
]

items_are : (form : Form Strip) → ((s : Strip) → Said form s → IsItem s) → (xs : List Strip) → AllSaid form xs → AreItems (strips_of xs)
items_are form are [] all = tt
items_are form are (x ∷ xs) all = (are x all.0, items_are form are xs all.1)

pub item_block : (form : Form Strip) → ((s : Strip) → Said form s → IsItem s) → (b : PlainStripBlock) → Said (braces form) b → AreItems b.list
item_block form are b h =
    let o = parts _ _ h in
    let l = parts _ _ o.rest in
    let c = parts _ _ l.rest in
    subst (λ (x : PlainStripBlock). AreItems x.list) (sym (of_done _ c.rest)) (items_are form are l.value (of_many form l.value l.first))

pub columns_is : (keeps : Strip → Type 0) (inside : Form PlainStripBlock) → ((b : PlainStripBlock) → Said inside b → (place : Place) (var : Spot) (low high : ℕ) → keeps (columns place var low high b.place b.list)) → (s : Strip) → Said (columns_text inside) s → keeps s
columns_is keeps inside are s h =
    let a = parts _ _ h in
    let b = parts _ _ a.rest in
    let c = parts _ _ b.rest in
    let d = parts _ _ c.rest in
    let e = parts _ _ d.rest in
    let f = parts _ _ e.rest in
    let g = parts _ _ f.rest in
    let i = parts _ _ g.rest in
    let j = parts _ _ i.rest in
    subst keeps (sym (of_done _ j.rest)) (are j.value j.first a.value c.value e.value.value g.value.value)

pub item_or_columns_is : (s : Strip) → Said (item or columns_text items) s → IsItem s
item_or_columns_is s h = elim (either _ _ h) [
  | inl p ↦ item_is s p
  | inr p ↦ columns_is IsItem items (λ b q place var low high. item_block item item_is b q) s p
]

pub foreach_is : (inside : Form PlainStripBlock) → ((b : PlainStripBlock) → Said inside b → AreItems b.list) → (s : Strip) → Said (foreach_text inside) s → IsSpoken s
foreach_is inside are s h =
    let a = parts _ _ h in
    let b = parts _ _ a.rest in
    let c = parts _ _ b.rest in
    let d = parts _ _ c.rest in
    let e = parts _ _ d.rest in
    let f = parts _ _ e.rest in
    let g = parts _ _ f.rest in
    subst IsSpoken (sym (of_done _ g.rest)) (of_name c.value c.first, (e.first, are g.value g.first))

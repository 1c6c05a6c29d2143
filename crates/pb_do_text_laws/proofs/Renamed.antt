-- A statement without braces whose roles have other names.
use Rattle.std.proofs.Common.{ℕ, zero, suc, List, [], ◌∷◌, inl, inr, Option, Some, None, slice_index_or, sym, subst}
use Rattle.pb_text.specs.Tables.{position_of}
use Rattle.pb_text.specs.declared.place.Spot.{Spot}
use Rattle.pb_text.specs.declared.token.TokenKind.TheVariants as kind
use Rattle.pb_syntax.specs.declared.tree.End.{End}
use Rattle.pb_syntax.specs.declared.tree.IndexText.{IndexText}
use Rattle.pb_syntax.specs.declared.tree.IndexText.TheVariants as index
use Rattle.pb_syntax.specs.Form.{Form, ◌or◌}
use Rattle.pb_syntax.specs.Tree.{PlainStatement}
use Rattle.pb_syntax.specs.Grammar.{plain_end, any_end, end_beside, message_text, item_message, compute_text, continue_text, collective, and_semicolon, item}
use Rattle.pb_syntax.proofs.Relex.{IsWritten}
use Rattle.pb_do_syntax.specs.Names.{Name}
use Rattle.pb_do_syntax.specs.Inlining.{Roles, name_at, stands_for, renamed, renamed_spot, renamed_end, passed_on}
use Rattle.pb_do_text_laws.proofs.Said.{Said, said_done, said_then, said_left, said_right, said_name, parts, of_done, either, of_name}

abbrev pub IsWord : Name → Type 0
IsWord x = IsWritten (kind.Word x)

abbrev pub AreWords : List Name → Type 0
AreWords [] = Unit {0}
AreWords (x ∷ xs) = IsWord x × AreWords xs

-- ---- what names stand for

word_of : (names : List Name) (i : ℕ) (x : Name) → AreWords names → IsWord x → IsWord (slice_index_or names i x)
word_of [] i x all is = is
word_of (n ∷ ns) zero x all is = all.0
word_of (n ∷ ns) (suc i) x all is = word_of ns i x all.1 is

word_at : (o : Option ℕ) (names : List Name) (x : Name) → AreWords names → IsWord x → IsWord (name_at o names x)
word_at None names x all is = is
word_at (Some i) names x all is = word_of names i x all is

pub stands_word : (r : Roles) (x : Name) → AreWords r.names → IsWord x → IsWord (stands_for r x)
stands_word r x all is = word_at (position_of x r.params) r.names x all is

abbrev pub AreNames : List Spot → Type 0
AreNames [] = Unit {0}
AreNames (a ∷ as_) = IsWord a.name × AreNames as_

pub passed_words : (r : Roles) (args : List Spot) → AreWords r.names → AreNames args → AreWords (passed_on r args)
passed_words r [] all are = tt
passed_words r (a ∷ as_) all are = (stands_word r a.name all are.0, passed_words r as_ all are.1)

-- ---- ends

module _ (r : Roles) (all : AreWords r.names) where
  pub renamed_plain : (e : End) → Said plain_end e → Said plain_end (renamed_end r e)
  renamed_plain e h =
      let p = parts _ _ h in
      let q = parts _ _ p.rest in
      subst (λ (x : End). Said plain_end (renamed_end r x)) (sym (of_done _ q.rest))
      (said_then _ (said_name (renamed_spot r p.value) (stands_word r p.value.name all (of_name p.value p.first))) (said_then _ q.first (said_done _)))

  renamed_any : (e : End) → Said any_end e → Said any_end (renamed_end r e)
  renamed_any e h =
      let p = parts _ _ h in
      let q = parts _ _ p.rest in
      subst (λ (x : End). Said any_end (renamed_end r x)) (sym (of_done _ q.rest))
      (said_then _ (said_name (renamed_spot r p.value) (stands_word r p.value.name all (of_name p.value p.first))) (said_then _ q.first (said_done _)))

  renamed_beside : (i : IndexText) (e : End) → Said (end_beside i) e → Said (end_beside i) (renamed_end r e)
  renamed_beside (index.Bind var over) e h = renamed_plain e h
  renamed_beside index.Zero e h = renamed_any e h
  renamed_beside (index.At at) e h = renamed_any e h

  -- ---- statements

  renamed_message : (s : PlainStatement) → Said message_text s → Said message_text (renamed r s)
  renamed_message s h =
      let a = parts _ _ h in
      let b = parts _ _ a.rest in
      let c = parts _ _ b.rest in
      let d = parts _ _ c.rest in
      let e = parts _ _ d.rest in
      let f = parts _ _ e.rest in
      subst (λ (x : PlainStatement). Said message_text (renamed r x)) (sym (of_done _ f.rest))
      (said_then _ a.first (said_then _ b.first (said_then _ c.first (said_then _ (renamed_any d.value d.first) (said_then _ e.first (said_then _ (renamed_beside d.value.index f.value f.first) (said_done _)))))))

  renamed_item_message : (s : PlainStatement) → Said item_message s → Said item_message (renamed r s)
  renamed_item_message s h =
      let a = parts _ _ h in
      let b = parts _ _ a.rest in
      let c = parts _ _ b.rest in
      let d = parts _ _ c.rest in
      let e = parts _ _ d.rest in
      let f = parts _ _ e.rest in
      subst (λ (x : PlainStatement). Said item_message (renamed r x)) (sym (of_done _ f.rest))
      (said_then _ a.first (said_then _ b.first (said_then _ c.first (said_then _ (renamed_plain d.value d.first) (said_then _ e.first (said_then _ (renamed_plain f.value f.first) (said_done _)))))))

  renamed_compute : (s : PlainStatement) → Said compute_text s → Said compute_text (renamed r s)
  renamed_compute s h =
      let a = parts _ _ h in
      let b = parts _ _ a.rest in
      let c = parts _ _ b.rest in
      let d = parts _ _ c.rest in
      subst (λ (x : PlainStatement). Said compute_text (renamed r x)) (sym (of_done _ d.rest))
      (said_then _ a.first (said_then _ b.first (said_then _ c.first (said_then _ (renamed_plain d.value d.first) (said_done _)))))

  renamed_continue : (s : PlainStatement) → Said continue_text s → Said continue_text (renamed r s)
  renamed_continue s h =
      let a = parts _ _ h in
      let b = parts _ _ a.rest in
      subst (λ (x : PlainStatement). Said continue_text (renamed r x)) (sym (of_done _ b.rest)) (said_then _ a.first (said_then _ b.first (said_done _)))

  renamed_semicolon : (form : Form PlainStatement) → ((s : PlainStatement) → Said form s → Said form (renamed r s)) → (s : PlainStatement) → Said (and_semicolon form) s → Said (and_semicolon form) (renamed r s)
  renamed_semicolon form keeps s h =
      let a = parts _ _ h in
      let b = parts _ _ a.rest in
      subst (λ (x : PlainStatement). Said (and_semicolon form) (renamed r x)) (sym (of_done _ b.rest)) (said_then _ (keeps a.value a.first) (said_then _ b.first (said_done _)))

  renamed_collective : (s : PlainStatement) → Said collective s → Said collective (renamed r s)
  renamed_collective s h = elim (either _ _ h) [
    | inl p ↦
        let a = parts _ _ p in
        subst (λ (x : PlainStatement). Said collective (renamed r x)) (sym (of_done _ a.rest)) (said_left _ (said_then _ a.first (said_done _)))
    | inr o ↦ elim (either _ _ o) [
      | inl p ↦
          let a = parts _ _ p in
          let b = parts _ _ a.rest in
          let c = parts _ _ b.rest in
          let d = parts _ _ c.rest in
          let e = parts _ _ d.rest in
          subst (λ (x : PlainStatement). Said collective (renamed r x)) (sym (of_done _ e.rest))
          (said_right _ (said_left _ (said_then _ a.first (said_then _ b.first (said_then _ c.first (said_then _ d.first (said_then _ (renamed_plain e.value e.first) (said_done _))))))))
      | inr q ↦ elim (either _ _ q) [
        | inl p ↦
            let a = parts _ _ p in
            let b = parts _ _ a.rest in
            let c = parts _ _ b.rest in
            let d = parts _ _ c.rest in
            let e = parts _ _ d.rest in
            let f = parts _ _ e.rest in
            let g = parts _ _ f.rest in
            subst (λ (x : PlainStatement). Said collective (renamed r x)) (sym (of_done _ g.rest))
            (said_right _ (said_right _ (said_left _ (said_then _ a.first (said_then _ b.first (said_then _ c.first (said_then _ d.first (said_then _ e.first (said_then _ f.first (said_then _ (renamed_plain g.value g.first) (said_done _)))))))))))
        | inr p ↦
            let a = parts _ _ p in
            let b = parts _ _ a.rest in
            let c = parts _ _ b.rest in
            let d = parts _ _ c.rest in
            let e = parts _ _ d.rest in
            subst (λ (x : PlainStatement). Said collective (renamed r x)) (sym (of_done _ e.rest))
            (said_right _ (said_right _ (said_right _ (said_then _ a.first (said_then _ b.first (said_then _ c.first (said_then _ d.first (said_then _ e.first (said_done _)))))))))
      ]
    ]
  ]

-- a statement without braces
abbrev pub leaf : Form PlainStatement
leaf = and_semicolon message_text or and_semicolon continue_text or and_semicolon compute_text or and_semicolon collective

pub renamed_leaf : (r : Roles) → AreWords r.names → (s : PlainStatement) → Said leaf s → Said leaf (renamed r s)
renamed_leaf r all s h = elim (either _ _ h) [
  | inl p ↦ said_left _ (renamed_semicolon r all message_text (renamed_message r all) s p)
  | inr o ↦ elim (either _ _ o) [
    | inl p ↦ said_right _ (said_left _ (renamed_semicolon r all continue_text (renamed_continue r all) s p))
    | inr q ↦ elim (either _ _ q) [
      | inl p ↦ said_right _ (said_right _ (said_left _ (renamed_semicolon r all compute_text (renamed_compute r all) s p)))
      | inr p ↦ said_right _ (said_right _ (said_right _ (renamed_semicolon r all collective (renamed_collective r all) s p)))
    ]
  ]
]

pub renamed_item : (r : Roles) → AreWords r.names → (s : PlainStatement) → Said item s → Said item (renamed r s)
renamed_item r all s h = elim (either _ _ h) [
  | inl p ↦ said_left _ (renamed_semicolon r all item_message (renamed_item_message r all) s p)
  | inr p ↦ said_right _ (renamed_semicolon r all compute_text (renamed_compute r all) s p)
]

-- A text of the shape has no empty parts.
use Rattle.std.proofs.Common.{◌≡◌, ℕ, ℤ, pos, ◌+ℤ◌, Bool, true, false, not, ◌&&◌, nat_eq, List, [], ◌∷◌, inl, inr, sym, ◌∙◌}
use Rattle.std.specs.Ordering.{int_eq}
use Rattle.std.proofs.lemmas.Bool.{and_parts, or_cases, true≢false, false≢true}
use Rattle.pb_affine.specs.declared.lin.Base.{Base}
use Rattle.pb_affine.specs.declared.lin.Base.TheVariants.{Fixed, Param, Var}
use Rattle.pb_affine.specs.Values.{base_value}
use Rattle.pb_core_language.specs.declared.protocol.CoreRole.{CoreRole}
use Rattle.pb_core_language.specs.declared.tree.CoreEnd.{CoreEnd}
use Rattle.pb_core_language.specs.declared.tree.Bounds.{Bounds}
use Rattle.pb_core_language.specs.Tree as T
use Rattle.pb_core_language.specs.Tree.{StmtTree, BlockTree, BranchTrees}
use Rattle.pb_core_language.specs.Verdict.{IsIn}
use Rattle.pb_core_flat.specs.Seated.{is_rank}
use Rattle.pb_core_flat.specs.Meets.{is_var}
use Rattle.pb_local.specs.declared.stmt.Relay.{Relay}
use Rattle.pb_local.specs.Tree.{Code, Codes, Parts, nothing, more}
use Rattle.pb_shape.specs.Items as I
use Rattle.pb_shape.specs.Segments as E
use Rattle.pb_shape.specs.Pieces as P
use Rattle.pb_shape.specs.Shape as S
use Rattle.pb_shape.specs.Places.{Scope, Who, Here, is_end}
use Rattle.pb_shape.specs.Guards.{One, there, gone}
use Rattle.pb_shape.specs.Items.{Item, Items}
use Rattle.pb_shape.specs.Segments.{is_at_offset, put, segment_code, segment_codes, OfRole, Segments}
use Rattle.pb_shape.specs.Pieces.{is_fixed, is_fixed_at, fixed_in, ForEach, Piece}
use Rattle.pb_shape.specs.Loops.{Around}
use Rattle.pb_shape.specs.Choices.{told_by}
use Rattle.pb_shape.specs.Shape.{HasShape, Shape, Shapes}
use Rattle.pb_shape_filled.specs.Filled.{IsSome, IsSomeOf, IsFilled, AreFilled, PartsAreFilled, TextIsFilled}

some_first : (first other : Codes) → IsSome first → IsSomeOf first other
some_first nothing other h = absurd h
some_first (more c rest) other h = tt

-- an end without the variable
fixed_end : (r : ℕ) (base : Base) (c n i : ℤ) (role : ℕ) (x : ℤ) → not (is_var base) && (nat_eq r role && int_eq (c +ℤ base_value base n (pos 0)) x) ≡ true → nat_eq r role && int_eq (c +ℤ base_value base n i) x ≡ true
fixed_end r Fixed c n i role x h = h
fixed_end r Param c n i role x h = h
fixed_end r Var c n i role x h = absurd (false≢true h)

end_is : (e : CoreEnd) (n i : ℤ) (role : ℕ) (x : ℤ) → is_fixed e n role x ≡ true → is_end e n i role x ≡ true
end_is e n i role x h = fixed_end e.role e.at.base e.at.off n i role x h

-- ---- an `If`

module _ {sc : Scope} {h : Here} where
  one_filled : {who : Who} {first tail codes : Codes} → One sc h who first tail codes → IsSome first → AreFilled first → AreFilled tail → AreFilled codes
  one_filled {first = first} (there {gs = gs} names some) s f t = ((some_first first nothing s, f, tt), t)
  one_filled (gone nobody) s f t = t

  one_some : {who : Who} {first tail codes : Codes} → One sc h who first tail codes → IsSome tail → IsSome codes
  one_some (there {gs = gs} names some) s = tt
  one_some (gone nobody) s = s

  -- where one of the ranks comes
  one_there : {who : Who} {first tail codes : Codes} (n i : ℤ) (role : ℕ) (x : ℤ) → One sc h who first tail codes → IsIn sc.range n → is_rank sc.roles n role x ≡ true → h.at n i ≡ true → h.comes n i role x ≡ true → who n i role x ≡ true → IsSome codes
  one_there n i role x (there {gs = gs} names some) within rank at comes is = tt
  one_there n i role x (gone nobody) within rank at comes is = absurd (true≢false (sym is ∙ nobody n i role x within rank at comes))

  -- ---- items

  item_filled : {s : StmtTree} {tail codes : Codes} → Item sc h tail s codes → AreFilled tail → AreFilled codes
  item_filled (I.message a b) t = one_filled a tt (tt, tt) (one_filled b tt (tt, tt) t)
  item_filled (I.run a) t = one_filled a tt (tt, tt) t

  item_keeps : {s : StmtTree} {tail codes : Codes} → Item sc h tail s codes → IsSome tail → IsSome codes
  item_keeps (I.message a b) t = one_some a (one_some b t)
  item_keeps (I.run a) t = one_some a t

  items_filled : {b : BlockTree} {codes : Codes} → Items sc h b codes → AreFilled codes
  items_filled I.none = tt
  items_filled (I.item a rest) = item_filled a (items_filled rest)

  module _ (n i : ℤ) (role : ℕ) (x : ℤ) (within : IsIn sc.range n) (rank : is_rank sc.roles n role x ≡ true) (at : h.at n i ≡ true) (comes : h.comes n i role x ≡ true) where
    item_there : {s : StmtTree} {tail codes : Codes} → Item sc h tail s codes → is_fixed_at s n role x ≡ true → IsSome codes
    item_there (I.message {f = f} {t = t} a b) k =
        elim (or_cases (is_fixed f n role x) (is_fixed t n role x) k) [
          | inl e ↦ one_there n i role x a within rank at comes (end_is f n i role x e)
          | inr e ↦ one_some a (one_there n i role x b within rank at comes (end_is t n i role x e))
        ]
    item_there (I.run {e = e} a) k = one_there n i role x a within rank at comes (end_is e n i role x k)

    -- who is at an end without the variable has something in each round
    items_there : {b : BlockTree} {codes : Codes} → Items sc h b codes → fixed_in b n role x ≡ true → IsSome codes
    items_there I.none k = absurd (false≢true k)
    items_there (I.item {s = s} {rest = rest} a more') k =
        elim (or_cases (is_fixed_at s n role x) (fixed_in rest n role x) k) [
          | inl e ↦ item_there a e
          | inr e ↦ item_keeps a (items_there more' e)
        ]

-- ---- segments

put_filled : (b : Bool) (c : Code) (cs : Codes) → IsFilled c → AreFilled cs → AreFilled (put b c cs)
put_filled true c cs h f = (h, f)
put_filled false c cs h f = f

code_filled : (k : ℕ) (c : ℤ) (s : StmtTree) (rest : Codes) → AreFilled rest → AreFilled (segment_code k c s rest)
code_filled k c (T.message l f t) rest h = put_filled (is_at_offset k c f) _ _ tt (put_filled (is_at_offset k c t) _ rest tt h)
code_filled k c (T.run kernel e) rest h = put_filled (is_at_offset k c e) _ rest tt h
code_filled k c (T.foreach b m items) rest h = h
code_filled k c (T.loop id m body) rest h = h
code_filled k c (T.again id) rest h = h
code_filled k c (T.choice kernel at bs) rest h = h
code_filled k c T.barrier rest h = h
code_filled k c (T.broadcast l root) rest h = h
code_filled k c (T.reduce l op root) rest h = h
code_filled k c (T.allreduce l op) rest h = h

codes_filled : (k : ℕ) (c : ℤ) (b : BlockTree) → AreFilled (segment_codes k c b)
codes_filled k c T.nothing = tt
codes_filled k c (T.more m s rest) = code_filled k c s (segment_codes k c rest) (codes_filled k c rest)

module _ {sc : Scope} {h : Here} where
  role_filled : {b : Bounds} {items : BlockTree} {k : ℕ} {tail : Codes} {cs : List ℤ} {codes : Codes} → OfRole sc h b items k tail cs codes → AreFilled tail → AreFilled codes
  role_filled E.none t = t
  role_filled {items = items} {k = k} (E.segment {c = c} a w) t = one_filled a tt (tt, codes_filled k c items) (role_filled w t)

  segments_filled : {b : Bounds} {items : BlockTree} {tail : Codes} {k : ℕ} {roles : List CoreRole} {codes : Codes} → Segments sc h b items tail k roles codes → AreFilled tail → AreFilled codes
  segments_filled E.none t = t
  segments_filled (E.of_role a w) t = role_filled a (segments_filled w t)

-- ---- a foreach

module _ {sc : Scope} {h : Here} where
  each_filled : {b : Bounds} {items : BlockTree} {tail codes : Codes} → ForEach sc h b items tail codes → AreFilled tail → AreFilled codes
  each_filled {items = items} (P.both names some its segs) t =
      let fixed = (and_parts (fixed_in items some.n some.role some.index) _ some.comes).0 in
      ((tt, ((items_there some.n some.i some.role some.index some.within some.rank some.at some.comes its fixed, items_filled its), tt), segments_filled segs tt), t)
  each_filled (P.segments nobody segs) t = segments_filled segs t

  piece_filled : {s : StmtTree} {tail codes : Codes} → Piece sc h tail s codes → AreFilled tail → AreFilled codes
  piece_filled (P.item w) t = item_filled w t
  piece_filled (P.foreach w) t = each_filled w t
  piece_filled P.barrier t = (tt, t)
  piece_filled P.broadcast t = (tt, t)
  piece_filled P.reduce t = (tt, t)
  piece_filled P.allreduce t = (tt, t)

-- ---- a block

told_some : (relays : List Relay) (c : Code) → IsSome (told_by relays c)
told_some [] c = tt
told_some (r ∷ rs) c = tt

told_filled : (relays : List Relay) (c : Code) → IsFilled c → AreFilled (told_by relays c)
told_filled [] c h = (h, tt)
told_filled (r ∷ rs) c h = (tt, (h, tt))

mutual
  shape_filled : {sc : Scope} {h : Here} {a : Around} {b : BlockTree} {codes : Codes} → Shape sc h a b codes → AreFilled codes
  shape_filled S.none = tt
  shape_filled (S.piece some w rest) = piece_filled w (shape_filled rest)
  shape_filled (S.loop some one inner rest) = one_filled one tt (shape_filled inner, tt) (shape_filled rest)
  shape_filled (S.again some) = (tt, tt)
  shape_filled (S.choice who relays tests some one names tested held relayed called shapes rest) =
      one_filled one (told_some relays _) (told_filled relays _ (shapes_filled shapes)) (shape_filled rest)
  shape_filled (S.unreached nobody) = tt

  shapes_filled : {sc : Scope} {h : Here} {a : Around} {bs : BranchTrees} {parts : Parts} → Shapes sc h a bs parts → PartsAreFilled parts
  shapes_filled S.no_shape = tt
  shapes_filled (S.branch w rest) = (shape_filled w, shapes_filled rest)

pub text_is_filled : TextIsFilled
text_is_filled p l h = shape_filled h.body

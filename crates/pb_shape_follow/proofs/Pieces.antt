-- What is left of well-made code behind a straight statement.
use Rattle.std.proofs.Common.{◌≤◌, ℕ, ℤ, List, arith}
use Rattle.pb_core_language.specs.declared.protocol.CoreRole.{CoreRole}
use Rattle.pb_core_language.specs.Tree.{StmtTree, BlockTree}
use Rattle.pb_core_language.specs.declared.tree.Bounds.{Bounds}
use Rattle.pb_local.specs.Tree.{Codes, size_all, Program}
use Rattle.pb_local.specs.WellMade as W
use Rattle.pb_local.specs.WellMade.{AreMade}
use Rattle.pb_shape.specs.Items as I
use Rattle.pb_shape.specs.Segments as E
use Rattle.pb_shape.specs.Pieces as P
use Rattle.pb_shape.specs.Places.{Scope, Here, Who}
use Rattle.pb_shape.specs.Guards.{One, there, gone}
use Rattle.pb_shape.specs.Items.{Item}
use Rattle.pb_shape.specs.Segments.{OfRole, Segments}
use Rattle.pb_shape.specs.Pieces.{ForEach, Piece}

module _ (l : Program) where
  pub record Left (s : W.Scope) (codes tail : Codes) : Type 0 where
    pub at : W.Scope
    pub made : AreMade l at tail
    pub later : s.loops ≤ at.loops
    pub fewer : size_all tail ≤ size_all codes

  leaves_all : (s : W.Scope) (codes : Codes) → AreMade l s codes → Left s codes codes
  leaves_all s codes h = record { at = s; made = h; later = omega arith; fewer = omega arith }

  leaves_two : {s : W.Scope} {codes middle tail : Codes} (x : Left s codes middle) → Left x.at middle tail → Left s codes tail
  leaves_two x y = record { at = y.at; made = y.made; later = (let a = x.later in let b = y.later in omega arith); fewer = (let a = x.fewer in let b = y.fewer in omega arith) }

  module _ {sc : Scope} {h : Here} where
    pub one_leaves : {who : Who} {first tail codes : Codes} (s : W.Scope) → One sc h who first tail codes → AreMade l s codes → Left s codes tail
    one_leaves s (there {gs = gs} names some) made = record { at = _; made = made.1; later = omega arith; fewer = omega arith }
    one_leaves {codes = codes} s (gone nobody) made = leaves_all s codes made

    item_leaves : {st : StmtTree} {tail codes : Codes} (s : W.Scope) → Item sc h tail st codes → AreMade l s codes → Left s codes tail
    item_leaves s (I.message a b) made = let x = one_leaves s a made in leaves_two x (one_leaves x.at b x.made)
    item_leaves s (I.run a) made = one_leaves s a made

    of_role_leaves : {b : Bounds} {items : BlockTree} {k : ℕ} {tail : Codes} {cs : List ℤ} {codes : Codes} (s : W.Scope) → OfRole sc h b items k tail cs codes → AreMade l s codes → Left s codes tail
    of_role_leaves {codes = codes} s E.none made = leaves_all s codes made
    of_role_leaves s (E.segment a w) made = let x = one_leaves s a made in leaves_two x (of_role_leaves x.at w x.made)

    segments_leave : {b : Bounds} {items : BlockTree} {tail : Codes} {k : ℕ} {roles : List CoreRole} {codes : Codes} (s : W.Scope) → Segments sc h b items tail k roles codes → AreMade l s codes → Left s codes tail
    segments_leave {codes = codes} s E.none made = leaves_all s codes made
    segments_leave s (E.of_role a w) made = let x = of_role_leaves s a made in leaves_two x (segments_leave x.at w x.made)

    foreach_leaves : {b : Bounds} {items : BlockTree} {tail codes : Codes} (s : W.Scope) → ForEach sc h b items tail codes → AreMade l s codes → Left s codes tail
    foreach_leaves s (P.both names some its other) made = record { at = _; made = made.1; later = omega arith; fewer = omega arith }
    foreach_leaves s (P.segments nobody w) made = segments_leave s w made

    pub piece_leaves : {st : StmtTree} {tail codes : Codes} (s : W.Scope) → Piece sc h tail st codes → AreMade l s codes → Left s codes tail
    piece_leaves s (P.item w) made = item_leaves s w made
    piece_leaves s (P.foreach w) made = foreach_leaves s w made
    piece_leaves s P.barrier made = record { at = _; made = made.1; later = omega arith; fewer = omega arith }
    piece_leaves s P.broadcast made = record { at = _; made = made.1; later = omega arith; fewer = omega arith }
    piece_leaves s P.reduce made = record { at = _; made = made.1; later = omega arith; fewer = omega arith }
    piece_leaves s P.allreduce made = record { at = _; made = made.1; later = omega arith; fewer = omega arith }

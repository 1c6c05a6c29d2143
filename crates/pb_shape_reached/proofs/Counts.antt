-- The number of what follows a straight statement.
use Rattle.std.proofs.Common.{◌≡◌, ℕ, ◌+◌, ℤ, true, List, refl, arith}
use Rattle.pb_core_language.specs.declared.protocol.CoreRole.{CoreRole}
use Rattle.pb_core_language.specs.declared.tree.Bounds.{Bounds}
use Rattle.pb_core_language.specs.Plain.{Protocol}
use Rattle.pb_core_language.specs.Tree.{StmtTree, BlockTree}
use Rattle.pb_local.specs.Ranks.{Seat}
use Rattle.pb_local.specs.Tree.{Codes, size_all, Program}
use Rattle.pb_shape.specs.Items as I
use Rattle.pb_shape.specs.Items.{Item}
use Rattle.pb_shape.specs.Pieces as P
use Rattle.pb_shape.specs.Pieces.{ForEach}
use Rattle.pb_shape.specs.Places.{Here, scope_of}
use Rattle.pb_shape.specs.Segments as E
use Rattle.pb_shape.specs.Segments.{OfRole, Segments}
use Rattle.pb_shape.specs.Straight.{IsEach, IsOpenTo}
use Rattle.pb_shape_reached.proofs.Standing.{Present}
use Rattle.pb_shape_reached.proofs.Texts.{after_one, one_counts}
use Rattle.pb_shape_reached.proofs.Finding.{after_item}
use Rattle.pb_shape_reached.proofs.Segments.{after_role, after_segments}
use Rattle.pb_shape_reached.proofs.Eaches.{after_each}

module _ (p : Protocol) (l : Program) (h : Here) where
  pub item_counts : (At : ℤ → Seat → ℤ → ℤ → Type 0) {s : StmtTree} {tail codes : Codes} (k : ℕ) (item : Item (scope_of p) h tail s codes) → after_item p l At h item k + size_all tail ≡ k + size_all codes
  item_counts At k (I.message a b) = omega (arith, one_counts k a, one_counts (after_one a k) b)
  item_counts At k (I.run a) = one_counts k a

  module _ (b : Bounds) (items : BlockTree) (good : (n : ℤ) (me : Seat) → Present p l n me → IsOpenTo h n me → IsEach p n b items) where
    role_counts : (role : ℕ) {tail : Codes} {cs : List ℤ} {codes : Codes} (k : ℕ) (w : OfRole (scope_of p) h b items role tail cs codes) → after_role p l h b items good role w k + size_all tail ≡ k + size_all codes
    role_counts role k E.none = refl
    role_counts role k (E.segment one w) = omega (arith, one_counts k one, role_counts role (after_one one k) w)

    segments_count : {tail : Codes} (role : ℕ) {rs : List CoreRole} {codes : Codes} (k : ℕ) (w : Segments (scope_of p) h b items tail role rs codes) → after_segments p l h b items good role w k + size_all tail ≡ k + size_all codes
    segments_count role k E.none = refl
    segments_count role k (E.of_role one w) = omega (arith, role_counts role k one, segments_count _ (after_role p l h b items good role one k) w)

    pub each_counts : (open_of : (n i : ℤ) (me : Seat) → h.comes n i me.role me.index ≡ true → IsOpenTo h n me) {tail codes : Codes} (k : ℕ) (w : ForEach (scope_of p) h b items tail codes) → after_each p l h b items open_of good w k + size_all tail ≡ k + size_all codes
    each_counts open_of k (P.both names some its segs) = omega arith
    each_counts open_of k (P.segments nobody segs) = segments_count 0 k segs

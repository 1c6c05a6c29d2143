-- Statements that are no loop, no continue and no choice.
use Rattle.std.proofs.Common.{◌≡◌, ℕ, ◌+◌, ◌*◌, ◌≤◌, max, length, get_or, nat_lt, arith, true, false, ◌&&◌, None, List, [], ◌∷◌, ◌++◌, refl, sym, ap, ◌∙◌, subst}
use Rattle.std.proofs.lemmas.Bool.{and_parts, false≢true}
use Rattle.pb_affine.specs.declared.range.NRange.{NRange}
use Rattle.pb_part_areas.specs.declared.area.Area.{Area}
use Rattle.pb_syntax.specs.declared.core_label.CoreLabel.{CoreLabel}
use Rattle.pb_syntax.specs.declared.tree.Payload.TheVariants.{Unit as NoWords}
use Rattle.pb_core_language.specs.Plain.{Protocol}
use Rattle.pb_core_language.specs.Sound.{rows_of, is_end, is_bound, is_item, is_stmt, is_block}
use Rattle.pb_core_language.specs.Tree as T
use Rattle.pb_core_language.specs.Tree.{Mark, StmtTree, BlockTree}
use Rattle.pb_core_language.specs.declared.tree.Bounds.{Bounds}
use Rattle.pb_local.specs.declared.stmt.Stmt.{Stmt}
use Rattle.pb_local.specs.Tree.{Code, Codes, Program, size_all, plain}
use Rattle.pb_local.specs.Tables.{label_at}
use Rattle.pb_local.specs.WellMade.{loops_in, HasWords, GoesWith}
use Rattle.pb_shape.specs.Sizes.{room, room_each, depth, braces_all}
use Rattle.pb_shape.specs.Tabled as P
use Rattle.pb_shape.specs.Tabled.{Goes}
use Rattle.pb_project_piece.specs.Weights.{sizes, depths, loop_count, AreFlat, IsWeighed, IsTabledAs, item_room}
use Rattle.pb_project_piece.proofs.Weights.{weighed_less, weighed_none, sizes_onto, loops_onto, braces_onto, made_onto, peer_made, weaker_end, label_below}
use Rattle.pb_shape.specs.Places.{Scope, Here}
use Rattle.pb_shape.specs.Pieces.{Piece}
use Rattle.pb_project_piece.specs.Adding.{onto, Added}
use Rattle.pb_project_piece.specs.Ones.{IsItemOf}
use Rattle.pb_project_piece.specs.Looping.{IsForEach}
use Rattle.pb_project_piece.specs.Pieces.{is_straight, is_collective, code_of, IsPieceOf, IsCodeOf, IsCollective}
use Rattle.pb_project_piece.proofs.Added.{added_one, added_none, added_as}

pub collective_put : (s : StmtTree) (old new : List Stmt) (one : Stmt) → IsCodeOf s (plain one) → new ≡ old ++ one ∷ [] → Added old new (IsCollective s)
collective_put s old new one code pushed = added_one (IsCollective s) old new one (code_of s) pushed code.is (record { is = λ h. refl })

four_four : 4 ≤ 4
four_four = omega arith

two_two : 2 ≤ 2
two_two = omega arith

one_one : 1 ≤ 1
one_one = omega arith

none_one : 0 ≤ 1
none_one = omega arith

-- ---- how large a piece is, and that it is made

size_up : (s r t k : ℕ) → s ≤ r → k ≡ s + t → k ≤ r + t
size_up s r t k h e = omega (arith, h, e)

braces_up : (d e t k : ℕ) → d ≤ e → k ≡ max d t → k ≤ max e t
braces_up d e t k h g = omega (arith, h, g)

loops_up : (n t k : ℕ) → n ≡ 0 → k ≡ n + t → k ≡ t
loops_up n t k h e = omega (arith, h, e)

weighed_size : (most deep : ℕ) (piece : List Code) → IsWeighed most deep piece → (tail : Codes) → size_all (onto piece tail) ≤ most + size_all tail
weighed_size most deep piece w tail = size_up (sizes piece) most (size_all tail) (size_all (onto piece tail)) w.few (sizes_onto piece tail)

weighed_braces : (most deep : ℕ) (piece : List Code) → IsWeighed most deep piece → (tail : Codes) → braces_all (onto piece tail) ≤ max deep (braces_all tail)
weighed_braces most deep piece w tail = braces_up (depths piece) deep (braces_all tail) (braces_all (onto piece tail)) w.shallow (braces_onto piece tail)

weighed_loops : (most deep : ℕ) (piece : List Code) → IsWeighed most deep piece → (tail : Codes) → loops_in (onto piece tail) ≡ loops_in tail
weighed_loops most deep piece w tail = loops_up (loop_count piece) (loops_in tail) (loops_in (onto piece tail)) w.none (loops_onto piece tail)

-- an item stands for as many statements as it has room for, outside of a foreach too
item_room_is : (s : StmtTree) → is_item s ≡ true → (item_room s ≤ room s) × (1 ≤ 2 * depth s + 1)
item_room_is (T.message l f t) h = (four_four, one_one)
item_room_is (T.foreach b m items) h = absurd (false≢true h)
item_room_is (T.loop id m body) h = absurd (false≢true h)
item_room_is (T.again id) h = absurd (false≢true h)
item_room_is (T.choice k at bs) h = absurd (false≢true h)
item_room_is (T.run k at) h = (two_two, one_one)
item_room_is T.barrier h = absurd (false≢true h)
item_room_is (T.broadcast l root) h = absurd (false≢true h)
item_room_is (T.reduce l op root) h = absurd (false≢true h)
item_room_is (T.allreduce l op) h = absurd (false≢true h)

collective_weighed : (s : StmtTree) → is_collective s ≡ true → IsWeighed (room s) (2 * depth s + 1) (code_of s ∷ [])
collective_weighed (T.message l f t) h = absurd (false≢true h)
collective_weighed (T.foreach b m items) h = absurd (false≢true h)
collective_weighed (T.loop id m body) h = absurd (false≢true h)
collective_weighed (T.again id) h = absurd (false≢true h)
collective_weighed (T.choice k at bs) h = absurd (false≢true h)
collective_weighed (T.run k at) h = absurd (false≢true h)
collective_weighed T.barrier h = record { few = one_one; shallow = none_one; none = refl }
collective_weighed (T.broadcast l root) h = record { few = one_one; shallow = none_one; none = refl }
collective_weighed (T.reduce l op root) h = record { few = one_one; shallow = none_one; none = refl }
collective_weighed (T.allreduce l op) h = record { few = one_one; shallow = none_one; none = refl }

payload_is : (p : Protocol) (l : Program) (k : ℕ) → IsTabledAs p l → (P.label_at p k).payload ≡ (label_at l k).payload
payload_is p l k tabled = ap (λ (x : List CoreLabel). (get_or {A = CoreLabel} x k (record { name = []; payload = NoWords })).payload) (sym tabled.labels)

collective_flat : (s : StmtTree) (p : Protocol) (l : Program) (ids : List ℕ) → is_collective s ≡ true → IsTabledAs p l → is_stmt (rows_of p) false ids s ≡ true → Goes p s → AreFlat l (code_of s ∷ [])
collective_flat (T.message lab f t) p l ids h tabled sound goes = absurd (false≢true h)
collective_flat (T.foreach b m items) p l ids h tabled sound goes = absurd (false≢true h)
collective_flat (T.loop id m body) p l ids h tabled sound goes = absurd (false≢true h)
collective_flat (T.again id) p l ids h tabled sound goes = absurd (false≢true h)
collective_flat (T.choice k at bs) p l ids h tabled sound goes = absurd (false≢true h)
collective_flat (T.run k at) p l ids h tabled sound goes = absurd (false≢true h)
collective_flat T.barrier p l ids h tabled sound goes = (λ at. tt, tt)
collective_flat (T.broadcast lab root) p l ids h tabled sound goes =
    let z = and_parts (nat_lt lab (length p.labels)) (is_end (rows_of p) false root) sound in
    (λ at. (label_below p l lab tabled z.0, subst HasWords (payload_is p l lab tabled) goes, peer_made p l root tabled (weaker_end (rows_of p) false root z.1)), tt)
collective_flat (T.reduce lab op root) p l ids h tabled sound goes =
    let z = and_parts (nat_lt lab (length p.labels)) (is_end (rows_of p) false root) sound in
    (λ at. (label_below p l lab tabled z.0, subst (GoesWith op) (payload_is p l lab tabled) goes, peer_made p l root tabled (weaker_end (rows_of p) false root z.1)), tt)
collective_flat (T.allreduce lab op) p l ids h tabled sound goes =
    (λ at. (label_below p l lab tabled sound, subst (GoesWith op) (payload_is p l lab tabled) goes), tt)

module _ (range : NRange) (roles : ℕ) (whole : List Area) where
  -- a loop, a continue and a choice add nothing
  pub nothing_piece : (s : StmtTree) (old : List Stmt) → is_straight s ≡ false → Added old old (IsPieceOf range roles whole s)
  nothing_piece s old other =
      let w : IsWeighed (room s) (2 * depth s + 1) [] = weighed_none (room s) (2 * depth s + 1) in
      added_none (IsPieceOf range roles whole s) old (record {
        is = λ sc h rows ids stands open_here come sound straight tail. absurd (false≢true (sym other ∙ straight));
        made = λ p l at ids tabled same sound straight goes tail made. made;
        loops = weighed_loops (room s) (2 * depth s + 1) [] w;
        size = weighed_size (room s) (2 * depth s + 1) [] w;
        braces = weighed_braces (room s) (2 * depth s + 1) [] w;
      })

  pub item_piece : (s : StmtTree) (old new : List Stmt) → is_item s ≡ true → Added old new (IsItemOf range roles whole None [] s) → Added old new (IsPieceOf range roles whole s)
  item_piece s old new item a = added_as (IsItemOf range roles whole None [] s) (IsPieceOf range roles whole s) old new
      (λ p z. record {
        is = λ sc h rows ids stands open_here come sound straight tail. Piece.item ((z.is sc h rows ids stands open_here come sound item).item tail);
        made = λ pr l at ids tabled same sound straight goes tail made. made_onto l p at tail z.weighed.none (z.made pr l ids tabled sound item goes) made;
        loops = weighed_loops (room s) (2 * depth s + 1) p (weighed_less (item_room s) (room s) 1 (2 * depth s + 1) p (item_room_is s item).0 (item_room_is s item).1 z.weighed);
        size = weighed_size (room s) (2 * depth s + 1) p (weighed_less (item_room s) (room s) 1 (2 * depth s + 1) p (item_room_is s item).0 (item_room_is s item).1 z.weighed);
        braces = weighed_braces (room s) (2 * depth s + 1) p (weighed_less (item_room s) (room s) 1 (2 * depth s + 1) p (item_room_is s item).0 (item_room_is s item).1 z.weighed);
      }) a

  pub each_piece : (over : Bounds) (m : Mark) (b : BlockTree) (old new : List Stmt) → Added old new (IsForEach range roles whole over b) → Added old new (IsPieceOf range roles whole (T.foreach over m b))
  each_piece over m b old new a = added_as (IsForEach range roles whole over b) (IsPieceOf range roles whole (T.foreach over m b)) old new
      (λ p z. record {
        is = λ sc h rows ids stands open_here come sound straight tail.
            let x = and_parts (is_bound over.low) (is_bound over.high && is_block rows true ids b) sound in
            let y = and_parts (is_bound over.high) (is_block rows true ids b) x.1 in
            Piece.foreach (z.is sc h rows ids stands open_here come (x.0, y.0) y.1 tail);
        made = λ pr l at ids tabled same sound straight goes tail made.
            let x = and_parts (is_bound over.low) (is_bound over.high && is_block (rows_of pr) true ids b) sound in
            let y = and_parts (is_bound over.high) (is_block (rows_of pr) true ids b) x.1 in
            made_onto l p at tail z.weighed.none (z.made pr l ids tabled same (x.0, y.0) y.1 goes) made;
        loops = weighed_loops (2 + room_each b) 3 p z.weighed;
        size = weighed_size (2 + room_each b) 3 p z.weighed;
        braces = weighed_braces (2 + room_each b) 3 p z.weighed;
      }) a

  joint : (s : StmtTree) (sc : Scope) (h : Here) (tail : Codes) → is_collective s ≡ true → Piece sc h tail s (onto (code_of s ∷ []) tail)
  joint (T.message l f t) sc h tail k = absurd (false≢true k)
  joint (T.foreach b m items) sc h tail k = absurd (false≢true k)
  joint (T.loop id m body) sc h tail k = absurd (false≢true k)
  joint (T.again id) sc h tail k = absurd (false≢true k)
  joint (T.choice kernel at bs) sc h tail k = absurd (false≢true k)
  joint (T.run kernel at) sc h tail k = absurd (false≢true k)
  joint T.barrier sc h tail k = Piece.barrier
  joint (T.broadcast l root) sc h tail k = Piece.broadcast
  joint (T.reduce l op root) sc h tail k = Piece.reduce
  joint (T.allreduce l op) sc h tail k = Piece.allreduce

  pub joint_piece : (s : StmtTree) (old new : List Stmt) → is_collective s ≡ true → Added old new (IsCollective s) → Added old new (IsPieceOf range roles whole s)
  joint_piece s old new k a = added_as (IsCollective s) (IsPieceOf range roles whole s) old new
      (λ p z.
      let w : IsWeighed (room s) (2 * depth s + 1) p = subst (IsWeighed (room s) (2 * depth s + 1)) (sym (z.is k)) (collective_weighed s k) in
      record {
        is = λ sc h rows ids stands open_here come sound straight tail. subst (λ l. Piece sc h tail s (onto l tail)) (sym (z.is k)) (joint s sc h tail k);
        made = λ pr l at ids tabled same sound straight goes tail made. made_onto l p at tail w.none (subst (AreFlat l) (sym (z.is k)) (collective_flat s pr l ids k tabled sound goes)) made;
        loops = weighed_loops (room s) (2 * depth s + 1) p w;
        size = weighed_size (room s) (2 * depth s + 1) p w;
        braces = weighed_braces (room s) (2 * depth s + 1) p w;
      }) a

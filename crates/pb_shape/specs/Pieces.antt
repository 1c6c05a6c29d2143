-- The texts of a statement that is no loop, continue or choice.
use Rattle.std.specs.Prelude.{ℕ, ℤ, pos, Bool, false, ◌&&◌, ◌||◌, not, int_le, List}
use Rattle.pb_affine.specs.declared.guard.Guard.{Guard}
use Rattle.pb_affine.specs.Values.{value}
use Rattle.pb_core_language.specs.declared.tree.CoreEnd.{CoreEnd}
use Rattle.pb_core_language.specs.Tree as T
use Rattle.pb_core_language.specs.Tree.{Mark, StmtTree, BlockTree}
use Rattle.pb_core_language.specs.declared.tree.Bounds.{Bounds}
use Rattle.pb_core_flat.specs.Seated.{is_at}
use Rattle.pb_core_flat.specs.Meets.{is_moving}
use Rattle.pb_local.specs.Tree.{Codes, nothing, more}
use Rattle.pb_local.specs.Tree as L
use Rattle.pb_shape.specs.Places.{Scope, Who, everyone, Here, inside, peer_of}
use Rattle.pb_shape.specs.Guards.{alone, Names, Somebody, Nobody}
use Rattle.pb_shape.specs.Items.{Item, Items}
use Rattle.pb_shape.specs.Segments.{Segments}

-- ---- a foreach: its ends without the variable

abbrev pub is_fixed : CoreEnd → ℤ → ℕ → ℤ → Bool
is_fixed e n role x = not (is_moving e) && is_at e n (pos 0) role x

abbrev pub is_fixed_at : StmtTree → ℤ → ℕ → ℤ → Bool
is_fixed_at (T.message l f t) n role x = is_fixed f n role x || is_fixed t n role x
is_fixed_at (T.run k e) n role x = is_fixed e n role x
is_fixed_at (T.foreach b m items) n role x = false
is_fixed_at (T.loop id m body) n role x = false
is_fixed_at (T.again id) n role x = false
is_fixed_at (T.choice k at bs) n role x = false
is_fixed_at T.barrier n role x = false
is_fixed_at (T.broadcast l root) n role x = false
is_fixed_at (T.reduce l op root) n role x = false
is_fixed_at (T.allreduce l op) n role x = false

abbrev pub fixed_in : BlockTree → ℤ → ℕ → ℤ → Bool
fixed_in T.nothing n role x = false
fixed_in (T.more m s rest) n role x = is_fixed_at s n role x || fixed_in rest n role x

-- ---- a foreach

abbrev pub fixed_here : BlockTree → Who
fixed_here items n i role x = fixed_in items n role x

-- inside the For
abbrev pub in_for : Here → Bounds → BlockTree → Here
in_for h b items = record {
  at = λ n i. int_le (value b.low n (pos 0)) i && int_le i (value b.high n (pos 0));
  comes = λ n i role x. fixed_in items n role x && h.comes n i role x;
}

-- in the other part
abbrev pub but_fixed : Here → BlockTree → Here
but_fixed h items = inside h (λ n i role x. not (fixed_in items n role x))

module _ (sc : Scope) (h : Here) (b : Bounds) (items : BlockTree) where
  pub data ForEach (tail : Codes) : Codes → Type 0 where
    -- the ranks at ends without the variable run the loop, and all others the segments
    both : {gs : List Guard} {body other : Codes} → Names sc h gs (fixed_here items) → Somebody sc (in_for h b items) everyone → Items sc (in_for h b items) items body →
        Segments sc (but_fixed h items) b items nothing 0 sc.roles other → ForEach tail (more (L.when gs (alone (L.for_each b.low b.high body)) other) tail)
    -- where nobody comes into the loop, the segments stand alone
    segments : {codes : Codes} → Nobody sc (in_for h b items) everyone → Segments sc h b items tail 0 sc.roles codes → ForEach tail codes

-- ---- a statement, before what follows

pub data Piece (sc : Scope) (h : Here) (tail : Codes) : StmtTree → Codes → Type 0 where
  item : {s : StmtTree} {codes : Codes} → Item sc h tail s codes → Piece sc h tail s codes
  foreach : {b : Bounds} {m : Mark} {items : BlockTree} {codes : Codes} → ForEach sc h b items tail codes → Piece sc h tail (T.foreach b m items) codes
  barrier : Piece sc h tail T.barrier (more L.barrier tail)
  broadcast : {l : ℕ} {e : CoreEnd} → Piece sc h tail (T.broadcast l e) (more (L.broadcast l (peer_of e)) tail)
  reduce : {l : ℕ} {op : _} {e : CoreEnd} → Piece sc h tail (T.reduce l op e) (more (L.reduce l op (peer_of e)) tail)
  allreduce : {l : ℕ} {op : _} → Piece sc h tail (T.allreduce l op) (more (L.allreduce l op) tail)

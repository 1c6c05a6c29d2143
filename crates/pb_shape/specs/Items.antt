-- The texts of a message and of a compute, and of the items of a `foreach` inside its `For`.
use Rattle.std.specs.Prelude.{ℕ}
use Rattle.pb_core_language.specs.declared.tree.CoreEnd.{CoreEnd}
use Rattle.pb_core_language.specs.Tree as T
use Rattle.pb_core_language.specs.Tree.{Mark, StmtTree, BlockTree}
use Rattle.pb_local.specs.Tree.{Codes, nothing}
use Rattle.pb_local.specs.Tree as L
use Rattle.pb_shape.specs.Places.{Scope, Here, is_end, peer_of}
use Rattle.pb_shape.specs.Guards.{alone, One}

module _ (sc : Scope) (h : Here) where
  pub data Item (tail : Codes) : StmtTree → Codes → Type 0 where
    message : {l : ℕ} {f t : CoreEnd} {middle codes : Codes} →
        One sc h (is_end f) (alone (L.send l (peer_of t))) middle codes → One sc h (is_end t) (alone (L.recv l (peer_of f))) tail middle → Item tail (T.message l f t) codes
    run : {k : ℕ} {e : CoreEnd} {codes : Codes} → One sc h (is_end e) (alone (L.run k)) tail codes → Item tail (T.run k e) codes

  pub data Items : BlockTree → Codes → Type 0 where
    none : Items T.nothing nothing
    item : {m : Mark} {s : StmtTree} {rest : BlockTree} {tail codes : Codes} → Item tail s codes → Items rest tail → Items (T.more m s rest) codes

-- The endpoint's code of a straight statement.
use Rattle.std.proofs.Common.{◌≡◌, ℕ, ◌==◌, ℤ, pos, Bool, true, false, cond, List, [], ◌∷◌, ◌++◌, refl, sym, ap, ◌∙◌}
use Rattle.pb_affine.specs.Values.{value, range}
use Rattle.pb_world.specs.Actions.{Kind, Sends, Receives, Runs, Enters, Leaves, Chooses}
use Rattle.pb_core_language.specs.declared.protocol.CoreRole.{CoreRole}
use Rattle.pb_core_language.specs.Tree as T
use Rattle.pb_core_language.specs.Tree.{Mark, StmtTree, BlockTree}
use Rattle.pb_core_language.specs.Flat.{Block, stop, message, compute, together, choice, looped, again}
use Rattle.pb_core_language.specs.FlatOf.{rank_of, for_each, flat_stmt, flat_block}
use Rattle.pb_core_language.specs.Run.{Env}
use Rattle.pb_core_endpoint.specs.Core.{are_simple, has_simple_items}
use Rattle.pb_core_endpoint.specs.Endpoint.{Code, send, receive, run, code}
use Rattle.pb_core_endpoint.proofs.Kept.{Keeps}
use Rattle.pb_local.specs.Tree.{Codes}
use Rattle.pb_shape.specs.Items as I
use Rattle.pb_shape.specs.Pieces as P
use Rattle.pb_shape.specs.Places.{Scope, Here}
use Rattle.pb_shape.specs.Pieces.{Piece}
use Rattle.pb_shape.specs.Ways.{mine}
use Rattle.pb_shape_follow.proofs.Fronts.{AreStraight, laid}

-- ---- what a rank does of straight statements is no choice

straight_if : (b : Bool) (xs ys : List Kind) → AreStraight xs → AreStraight ys → AreStraight (cond b xs ys)
straight_if true xs ys h g = h
straight_if false xs ys h g = g

pub straight_all : (r : ℕ) (g : Block) → AreStraight (mine r g)
straight_all r stop = tt
straight_all r (message origin p q l g) =
    let h = straight_all r g in
    straight_if (p == r) (Sends q l ∷ mine r g) _ h (straight_if (q == r) (Receives p l ∷ mine r g) (mine r g) h h)
straight_all r (compute origin p k g) = straight_if (p == r) (Runs k ∷ mine r g) (mine r g) (straight_all r g) (straight_all r g)
straight_all r (together origin j g) = straight_all r g
straight_all r (choice origin p k bs g) = tt
straight_all r (looped origin b g) = tt
straight_all r (again n) = tt

-- ---- code is laid out

laid_append : (xs ys : List Kind) (c : Code) → laid (xs ++ ys) c ≡ laid xs (laid ys c)
laid_append [] ys c = refl
laid_append (Sends q l ∷ xs) ys c = ap (send q l) (laid_append xs ys c)
laid_append (Receives q l ∷ xs) ys c = ap (receive q l) (laid_append xs ys c)
laid_append (Runs k ∷ xs) ys c = ap (run k) (laid_append xs ys c)
laid_append (Enters j ∷ xs) ys c = ap (λ z. laid (Enters j ∷ []) z) (laid_append xs ys c)
laid_append (Leaves j ∷ xs) ys c = ap (λ z. laid (Leaves j ∷ []) z) (laid_append xs ys c)
laid_append (Chooses k m ∷ xs) ys c = laid_append xs ys c

message_laid : (a b : Bool) (p q l : ℕ) (kinds : List Kind) (c : Code) →
    cond a (send q l (laid kinds c)) (cond b (receive p l (laid kinds c)) (laid kinds c)) ≡ laid (cond a (Sends q l ∷ kinds) (cond b (Receives p l ∷ kinds) kinds)) c
message_laid true b p q l kinds c = refl
message_laid false true p q l kinds c = refl
message_laid false false p q l kinds c = refl

run_laid : (a : Bool) (k : ℕ) (kinds : List Kind) (c : Code) → cond a (run k (laid kinds c)) (laid kinds c) ≡ laid (cond a (Runs k ∷ kinds) kinds) c
run_laid true k kinds c = refl
run_laid false k kinds c = refl

message_more : (a b : Bool) (p q l : ℕ) (xs ys : List Kind) →
    cond a (Sends q l ∷ (xs ++ ys)) (cond b (Receives p l ∷ (xs ++ ys)) (xs ++ ys)) ≡ cond a (Sends q l ∷ xs) (cond b (Receives p l ∷ xs) xs) ++ ys
message_more true b p q l xs ys = refl
message_more false true p q l xs ys = refl
message_more false false p q l xs ys = refl

run_more : (a : Bool) (k : ℕ) (xs ys : List Kind) → cond a (Runs k ∷ (xs ++ ys)) (xs ++ ys) ≡ cond a (Runs k ∷ xs) xs ++ ys
run_more true k xs ys = refl
run_more false k xs ys = refl

module _ (roles : List CoreRole) (n : ℤ) (r : ℕ) where
  module _ (opens : List ℕ) (i : ℤ) where
    -- what a rank does of items, and then of the rest
    items_more : (items : BlockTree) → are_simple items ≡ true → (g : Block) → mine r (flat_block roles n opens i items g) ≡ mine r (flat_block roles n opens i items stop) ++ mine r g
    items_more T.nothing h g = refl
    items_more (T.more m (T.message l f t) rest) h g =
        let p = rank_of roles n f i in
        let q = rank_of roles n t i in
        ap (λ z. cond (p == r) (Sends q l ∷ z) (cond (q == r) (Receives p l ∷ z) z)) (items_more rest h g) ∙ message_more (p == r) (q == r) p q l (mine r (flat_block roles n opens i rest stop)) (mine r g)
    items_more (T.more m (T.run k e) rest) h g =
        ap (λ z. cond (rank_of roles n e i == r) (Runs k ∷ z) z) (items_more rest h g) ∙ run_more (rank_of roles n e i == r) k (mine r (flat_block roles n opens i rest stop)) (mine r g)
    items_more (T.more m (T.foreach b k items) rest) h g = cc
    items_more (T.more m (T.loop id k body) rest) h g = cc
    items_more (T.more m (T.again id) rest) h g = cc
    items_more (T.more m (T.choice k e bs) rest) h g = cc
    items_more (T.more m T.barrier rest) h g = cc
    items_more (T.more m (T.broadcast l e) rest) h g = cc
    items_more (T.more m (T.reduce l op e) rest) h g = cc
    items_more (T.more m (T.allreduce l op) rest) h g = cc

    items_code : (held : List Bool) (items : BlockTree) → are_simple items ≡ true → (g : Block) → code held r (flat_block roles n opens i items g) ≡ laid (mine r (flat_block roles n opens i items stop)) (code held r g)
    items_code held T.nothing h g = refl
    items_code held (T.more m (T.message l f t) rest) h g =
        let p = rank_of roles n f i in
        let q = rank_of roles n t i in
        ap (λ z. cond (p == r) (send q l z) (cond (q == r) (receive p l z) z)) (items_code held rest h g) ∙ message_laid (p == r) (q == r) p q l (mine r (flat_block roles n opens i rest stop)) (code held r g)
    items_code held (T.more m (T.run k e) rest) h g =
        ap (λ z. cond (rank_of roles n e i == r) (run k z) z) (items_code held rest h g) ∙ run_laid (rank_of roles n e i == r) k (mine r (flat_block roles n opens i rest stop)) (code held r g)
    items_code held (T.more m (T.foreach b k items) rest) h g = cc
    items_code held (T.more m (T.loop id k body) rest) h g = cc
    items_code held (T.more m (T.again id) rest) h g = cc
    items_code held (T.more m (T.choice k e bs) rest) h g = cc
    items_code held (T.more m T.barrier rest) h g = cc
    items_code held (T.more m (T.broadcast l e) rest) h g = cc
    items_code held (T.more m (T.reduce l op e) rest) h g = cc
    items_code held (T.more m (T.allreduce l op) rest) h g = cc

    items_keep : (world : ℕ) (env : Env) (items : BlockTree) → are_simple items ≡ true → (g : Block) → Keeps world env (flat_block roles n opens i items g) → Keeps world env g
    items_keep world env T.nothing h g k = k
    items_keep world env (T.more m (T.message l f t) rest) h g k = items_keep world env rest h g k.3
    items_keep world env (T.more m (T.run k' e) rest) h g k = items_keep world env rest h g k.1
    items_keep world env (T.more m (T.foreach b k' items) rest) h g k = cc
    items_keep world env (T.more m (T.loop id k' body) rest) h g k = cc
    items_keep world env (T.more m (T.again id) rest) h g k = cc
    items_keep world env (T.more m (T.choice k' e bs) rest) h g k = cc
    items_keep world env (T.more m T.barrier rest) h g k = cc
    items_keep world env (T.more m (T.broadcast l e) rest) h g k = cc
    items_keep world env (T.more m (T.reduce l op e) rest) h g k = cc
    items_keep world env (T.more m (T.allreduce l op) rest) h g k = cc

  module _ (opens : List ℕ) (items : BlockTree) (simple : are_simple items ≡ true) where
    abbrev each : List ℤ → Block → Block
    each xs g = for_each xs (λ x. flat_block roles n opens x items) g

    each_code : (held : List Bool) (xs : List ℤ) (g : Block) → code held r (each xs g) ≡ laid (mine r (each xs stop)) (code held r g)
    each_code held [] g = refl
    each_code held (x ∷ xs) g =
        let first = mine r (flat_block roles n opens x items stop) in
        let others = mine r (each xs stop) in
        items_code opens x held items simple (each xs g) ∙ ap (laid first) (each_code held xs g) ∙ sym (laid_append first others (code held r g))
        ∙ ap (λ z. laid z (code held r g)) (sym (items_more opens x items simple (each xs stop)))

    each_keeps : (world : ℕ) (env : Env) (xs : List ℤ) (g : Block) → Keeps world env (each xs g) → Keeps world env g
    each_keeps world env [] g k = k
    each_keeps world env (x ∷ xs) g k = each_keeps world env xs g (items_keep opens x world env items simple (each xs g) k)

  -- the code of a straight statement before the rest
  pub piece_code : {sc : Scope} {h : Here} {tail codes : Codes} (held : List Bool) (opens : List ℕ) (m : Mark) (s : StmtTree) → Piece sc h tail s codes → has_simple_items s ≡ true → (g : Block) →
      code held r (flat_stmt roles n opens (pos 0) m s g) ≡ laid (mine r (flat_stmt roles n opens (pos 0) m s stop)) (code held r g)
  piece_code held opens m _ (P.item (I.message {l = l} {f = f} {t = t} a b)) h g = message_laid (rank_of roles n f (pos 0) == r) (rank_of roles n t (pos 0) == r) (rank_of roles n f (pos 0)) (rank_of roles n t (pos 0)) l [] (code held r g)
  piece_code held opens m _ (P.item (I.run {k = k} {e = e} a)) h g = run_laid (rank_of roles n e (pos 0) == r) k [] (code held r g)
  piece_code held opens m _ (P.foreach {b = b} {items = items} w) h g = each_code opens items h held (range (value b.low n (pos 0)) (value b.high n (pos 0))) g
  piece_code held opens m _ P.barrier h g = refl
  piece_code held opens m _ P.broadcast h g = refl
  piece_code held opens m _ P.reduce h g = refl
  piece_code held opens m _ P.allreduce h g = refl

  pub piece_keeps : {sc : Scope} {h : Here} {tail codes : Codes} (world : ℕ) (env : Env) (opens : List ℕ) (m : Mark) (s : StmtTree) → Piece sc h tail s codes → has_simple_items s ≡ true → (g : Block) →
      Keeps world env (flat_stmt roles n opens (pos 0) m s g) → Keeps world env g
  piece_keeps world env opens m _ (P.item (I.message {l = l} {f = f} {t = t} a b)) h g k = k.3
  piece_keeps world env opens m _ (P.item (I.run a)) h g k = k.1
  piece_keeps world env opens m _ (P.foreach {b = b} {items = items} w) h g k = each_keeps opens items h world env (range (value b.low n (pos 0)) (value b.high n (pos 0))) g k
  piece_keeps world env opens m _ P.barrier h g k = k.1
  piece_keeps world env opens m _ P.broadcast h g k = k.1
  piece_keeps world env opens m _ P.reduce h g k = k.1
  piece_keeps world env opens m _ P.allreduce h g k = k.1

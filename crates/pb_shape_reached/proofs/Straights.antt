-- What a run does of a straight statement, whoever follows, and what a rank does of that.
use Rattle.std.proofs.Common.{◌≡◌, ◌≢◌, ℕ, zero, suc, ◌<◌, ◌==◌, ℤ, pos, ◌+ℤ◌, ◌-ℤ◌, ◌≤ℤ◌, ◌<ℤ◌, Bool, true, cond, List, [], ◌∷◌, ◌++◌, map, refl, sym, ap, ap₂, ◌∙◌, subst, inl, inr, append_assoc, arith}
use Rattle.std.proofs.lemmas.Int.{ints}
use Rattle.std.proofs.lemmas.List.{map-append}
use Rattle.pb_affine.specs.Values.{value, range, count_from, count_of}
use Rattle.pb_world.specs.Actions.{Action, Kind, Run, Send, Recv, Sends, Receives, Runs, Enters, Leaves, Collective, kind_of, of_rank}
use Rattle.pb_world.proofs.Lists.{eqb_cases, of_append}
use Rattle.pb_world.proofs.Sequential.{internal_self, internal_other, message_sender, message_receiver, message_other}
use Rattle.pb_core_language.specs.Flat.{Origin, Block, stop, message, compute, together}
use Rattle.pb_core_language.specs.FlatOf.{for_each, flat_stmt, flat_block}
use Rattle.pb_core_language.specs.Plain.{Protocol}
use Rattle.pb_core_language.specs.Run.{Setting, words_now, emit_at}
use Rattle.pb_core_language.specs.Tree as T
use Rattle.pb_core_language.specs.Tree.{Mark, StmtTree, BlockTree}
use Rattle.pb_core_endpoint.proofs.Keep.{together_of}
use Rattle.pb_core_road.specs.Roads.{mute, none, Across, at_once, by_message, by_compute, by_together}
use Rattle.pb_local.specs.Tree.{Codes}
use Rattle.pb_shape.specs.Items as I
use Rattle.pb_shape.specs.Pieces as P
use Rattle.pb_shape.specs.Pieces.{Piece}
use Rattle.pb_shape.specs.Places.{Scope, Here}
use Rattle.pb_shape.specs.Straight.{AreItems, IsFine}
use Rattle.pb_shape.specs.Ways.{mine}

module _ (w : Setting) where
  -- straight statements are passed
  pub data Straightly : Block → List (ℕ × Action) → Block → Type 0 where
    no_more : {g : Block} → Straightly g [] g
    sends : {origin : Origin} {p q l : ℕ} {g : Block} {s : List (ℕ × Action)} {g' : Block} → p ≢ q → Straightly g s g' → Straightly (message origin p q l g) (emit_at w (message origin p q l g) (mute none) ++ s) g'
    computes : {origin : Origin} {p k : ℕ} {g : Block} {s : List (ℕ × Action)} {g' : Block} → Straightly g s g' → Straightly (compute origin p k g) (emit_at w (compute origin p k g) (mute none) ++ s) g'
    joins : {origin : Origin} {j : Collective} {g : Block} {s : List (ℕ × Action)} {g' : Block} → Straightly g s g' → Straightly (together origin j g) (emit_at w (together origin j g) (mute none) ++ s) g'

  straight_on : {g : Block} {s : List (ℕ × Action)} {g1 : Block} {t : List (ℕ × Action)} {g2 : Block} → Straightly g s g1 → Straightly g1 t g2 → Straightly g (s ++ t) g2
  straight_on no_more b = b
  straight_on (sends ne a) b = sends ne (straight_on a b)
  straight_on (computes a) b = computes (straight_on a b)
  straight_on {t = t} {g2 = g2} (joins {origin = origin} {j = j} {g = g} {s = s} a) b = subst (λ l. Straightly (together origin j g) l g2) (sym (append_assoc (emit_at w (together origin j g) (mute none)) s t)) (joins (straight_on a b))

  pub straight_across : {g : Block} {s : List (ℕ × Action)} {g' : Block} → Straightly g s g' → Across w g s g'
  straight_across no_more = at_once
  straight_across (sends ne a) = by_message (straight_across a)
  straight_across (computes a) = by_compute (straight_across a)
  straight_across (joins a) = by_together (straight_across a)

  module _ (r : ℕ) (there : r < w.total) where
    message_kinds : (p q l : ℕ) (ws : List ℕ) (ks : List Kind) → p ≢ q → cond (p == r) (Sends q l ∷ ks) (cond (q == r) (Receives p l ∷ ks) ks) ≡ map kind_of (of_rank r ((p, Send q l ws) ∷ (q, Recv p l ws) ∷ [])) ++ ks
    message_kinds p q l ws ks ne =
        elim (eqb_cases p r) [
          | inl y ↦ ap (λ b. cond b (Sends q l ∷ ks) (cond (q == r) (Receives p l ∷ ks) ks)) y.1 ∙ ap (λ t. map kind_of t ++ ks) (sym (subst (λ k. of_rank k ((p, Send q l ws) ∷ (q, Recv p l ws) ∷ []) ≡ Send q l ws ∷ []) y.0 (message_sender p q l ws ne)))
          | inr y ↦ elim (eqb_cases q r) [
            | inl z ↦ ap₂ (λ b c. cond b (Sends q l ∷ ks) (cond c (Receives p l ∷ ks) ks)) y.1 z.1 ∙ ap (λ t. map kind_of t ++ ks) (sym (subst (λ k. of_rank k ((p, Send q l ws) ∷ (q, Recv p l ws) ∷ []) ≡ Recv p l ws ∷ []) z.0 (message_receiver p q l ws ne)))
            | inr z ↦ ap₂ (λ b c. cond b (Sends q l ∷ ks) (cond c (Receives p l ∷ ks) ks)) y.1 z.1 ∙ ap (λ t. map kind_of t ++ ks) (sym (message_other p q l ws r y.0 z.0))
          ]
        ]

    compute_kinds : (p k : ℕ) (ks : List Kind) → cond (p == r) (Runs k ∷ ks) ks ≡ map kind_of (of_rank r ((p, Run k) ∷ [])) ++ ks
    compute_kinds p k ks =
        elim (eqb_cases p r) [
          | inl y ↦ ap (λ b. cond b (Runs k ∷ ks) ks) y.1 ∙ ap (λ t. map kind_of t ++ ks) (sym (subst (λ q. of_rank q ((p, Run k) ∷ []) ≡ Run k ∷ []) y.0 (internal_self p (Run k))))
          | inr y ↦ ap (λ b. cond b (Runs k ∷ ks) ks) y.1 ∙ ap (λ t. map kind_of t ++ ks) (sym (internal_other p r (Run k) y.0))
        ]

    -- first these, and then what is done of the rest
    more_kinds : (e s : List (ℕ × Action)) (ks : List Kind) → map kind_of (of_rank r e) ++ (map kind_of (of_rank r s) ++ ks) ≡ map kind_of (of_rank r (e ++ s)) ++ ks
    more_kinds e s ks = sym (append_assoc (map kind_of (of_rank r e)) (map kind_of (of_rank r s)) ks) ∙ ap (λ t. t ++ ks) (sym (ap (map kind_of) (of_append r e s) ∙ map-append kind_of (of_rank r e) (of_rank r s)))

    pub straight_kinds : {g : Block} {s : List (ℕ × Action)} {g' : Block} → Straightly g s g' → mine r g ≡ map kind_of (of_rank r s) ++ mine r g'
    straight_kinds no_more = refl
    straight_kinds {g' = g'} (sends {origin = origin} {p = p} {q = q} {l = l} {g = g} {s = s} ne a) =
        ap (λ ks. cond (p == r) (Sends q l ∷ ks) (cond (q == r) (Receives p l ∷ ks) ks)) (straight_kinds a)
        ∙ message_kinds p q l (words_now w (mute none) p q l) (map kind_of (of_rank r s) ++ mine r g') ne
        ∙ more_kinds (emit_at w (message origin p q l g) (mute none)) s (mine r g')
    straight_kinds {g' = g'} (computes {origin = origin} {p = p} {k = k} {g = g} {s = s} a) =
        ap (λ ks. cond (p == r) (Runs k ∷ ks) ks) (straight_kinds a) ∙ compute_kinds p k (map kind_of (of_rank r s) ++ mine r g') ∙ more_kinds (emit_at w (compute origin p k g) (mute none)) s (mine r g')
    straight_kinds {g' = g'} (joins {origin = origin} {j = j} {g = g} {s = s} a) =
        ap (λ ks. Enters j ∷ Leaves j ∷ ks) (straight_kinds a)
        ∙ ap (λ t. map kind_of t ++ (map kind_of (of_rank r s) ++ mine r g')) (sym (together_of w g (mute none) origin j g r there))
        ∙ more_kinds (emit_at w (together origin j g) (mute none)) s (mine r g')

module _ (w : Setting) (p : Protocol) (n : ℤ) where
  abbrev pub Straight : (Block → Block) → Type 0
  Straight F = (s : List (ℕ × Action)) × ((g : Block) → Straightly w (F g) s g)

  items_straight : (varies : Bool) (opens : List ℕ) (i : ℤ) (items : BlockTree) → AreItems p n varies i items → Straight (flat_block p.roles n opens i items)
  items_straight varies opens i T.nothing h = ([], λ g. no_more)
  items_straight varies opens i (T.more m (T.message l f t) rest) h = let r = items_straight varies opens i rest h.1 in (_, λ g. sends h.0.2 (r.1 g))
  items_straight varies opens i (T.more m (T.run k e) rest) h = let r = items_straight varies opens i rest h.1 in (_, λ g. computes (r.1 g))
  items_straight varies opens i (T.more m (T.foreach b k items) rest) h = absurd h.0
  items_straight varies opens i (T.more m (T.loop id k body) rest) h = absurd h.0
  items_straight varies opens i (T.more m (T.again id) rest) h = absurd h.0
  items_straight varies opens i (T.more m (T.choice k e bs) rest) h = absurd h.0
  items_straight varies opens i (T.more m T.barrier rest) h = absurd h.0
  items_straight varies opens i (T.more m (T.broadcast l e) rest) h = absurd h.0
  items_straight varies opens i (T.more m (T.reduce l op e) rest) h = absurd h.0
  items_straight varies opens i (T.more m (T.allreduce l op) rest) h = absurd h.0

  rounds_straight : (opens : List ℕ) (items : BlockTree) (c : ℕ) (low : ℤ) → ((i : ℤ) → low ≤ℤ i → i <ℤ (low +ℤ pos c) → AreItems p n true i items) → Straight (for_each (count_from c low) (λ v. flat_block p.roles n opens v items))
  rounds_straight opens items zero low h = ([], λ g. no_more)
  rounds_straight opens items (suc c) low h =
      let a = items_straight true opens low items (h low (omega (arith, ints)) (omega (arith, ints))) in
      let b = rounds_straight opens items c (low +ℤ pos 1) (λ i x y. h i (omega (arith, ints, x)) (omega (arith, ints, y))) in
      (a.0 ++ b.0, λ g. straight_on w (a.1 _) (b.1 g))

  up_to : (low high i : ℤ) → low ≤ℤ i → i <ℤ (low +ℤ pos (count_of (high +ℤ pos 1 -ℤ low))) → i ≤ℤ high
  up_to low high i l u = grind (arith, ints)

  pub piece_straight : {sc : Scope} {h : Here} {tail codes : Codes} (opens : List ℕ) (m : Mark) (s : StmtTree) → Piece sc h tail s codes → IsFine p n s → Straight (flat_stmt p.roles n opens (pos 0) m s)
  piece_straight opens m _ (P.item (I.message a b)) fine = (_, λ g. sends fine.2 no_more)
  piece_straight opens m _ (P.item (I.run a)) fine = (_, λ g. computes no_more)
  piece_straight opens m _ (P.foreach {b = b} {items = items} w') fine =
      let low = value b.low n (pos 0) in
      let high = value b.high n (pos 0) in
      rounds_straight opens items (count_of (high +ℤ pos 1 -ℤ low)) low (λ i x y. fine.each i x (up_to low high i x y))
  piece_straight opens m _ P.barrier fine = (_, λ g. joins no_more)
  piece_straight opens m _ P.broadcast fine = (_, λ g. joins no_more)
  piece_straight opens m _ P.reduce fine = (_, λ g. joins no_more)
  piece_straight opens m _ P.allreduce fine = (_, λ g. joins no_more)

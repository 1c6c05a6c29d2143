-- What is put together of what each statement gives, as those that take part, or the places that break a rule.
use Rattle.std.proofs.Common.{◌≡◌, ℕ, ℤ, Bool, true, false, List, [], ◌∷◌, refl, ap, sym, ◌∙◌, not, if◌then◌else◌}
use Rattle.std.proofs.lemmas.Bool.{and_parts, false≢true}
use Rattle.pb_affine.specs.Values.{value, range}
use Rattle.pb_core_language.specs.declared.protocol.CoreRole.{CoreRole}
use Rattle.pb_core_language.specs.Tree.{Mark, StmtTree, message, foreach, loop, again, choice, run, barrier, broadcast, reduce, allreduce, BlockTree, nothing, more, is_again}
use Rattle.pb_core_language.specs.Flat.{Block, stop}
use Rattle.pb_core_language.specs.Sound.{Rows, is_stmt}
use Rattle.pb_core_language.specs.FlatOf.{for_each, flat_stmt, flat_block}
use Rattle.pb_core_flat.specs.GoesOn.{goes_on, go_on}
use Rattle.pb_core_flat.proofs.SoundOnes.{sound_goes_on, dropped}

-- neither a foreach nor a continue
abbrev pub is_single : StmtTree → Bool
is_single (message l f t) = true
is_single (foreach h m items) = false
is_single (loop id m body) = true
is_single (again id) = false
is_single (choice k at bs) = true
is_single (run k at) = true
is_single barrier = true
is_single (broadcast l root) = true
is_single (reduce l op root) = true
is_single (allreduce l op) = true

module _ {X : Type 0} (give : Block → X) (join : X → X → X) (left : (x : X) → join (give stop) x ≡ x) (assoc : (x y z : X) → join (join x y) z ≡ join x (join y z)) where
  abbrev pub Adds : (Block → Block) → Type 0
  Adds f = (g : Block) → give (f g) ≡ join (give (f stop)) (give g)

  none_adds : Adds (λ g. g)
  none_adds g = sym (left (give g))

  both_add : (f h : Block → Block) → Adds f → Adds h → Adds (λ g. f (h g))
  both_add f h a b g =
      a (h g) ∙ ap (join (give (f stop))) (b g) ∙ sym (assoc (give (f stop)) (give (h stop)) (give g))
      ∙ ap (λ x. join x (give g)) (sym (a (h stop)))

  pub each_adds : (f : ℤ → Block → Block) → ((x : ℤ) → Adds (f x)) → (xs : List ℤ) → Adds (for_each xs f)
  each_adds f h [] = none_adds
  each_adds f h (x ∷ xs) = both_add (f x) (for_each xs f) (h x) (each_adds f h xs)

  module _ (roles : List CoreRole) (n : ℤ) (single : (opens : List ℕ) (i : ℤ) (m : Mark) (s : StmtTree) → is_single s ≡ true → Adds (flat_stmt roles n opens i m s)) where
    mutual
      pub stmt_adds : (opens : List ℕ) (i : ℤ) (m : Mark) (s : StmtTree) → goes_on s ≡ true → Adds (flat_stmt roles n opens i m s)
      stmt_adds opens i m (message l f t) h = single opens i m (message l f t) refl
      stmt_adds opens i m (foreach b k items) h = each_adds (λ x. flat_block roles n opens x items) (λ x. block_adds opens x items h) (range (value b.low n i) (value b.high n i))
      stmt_adds opens i m (loop id k body) h = single opens i m (loop id k body) refl
      stmt_adds opens i m (again id) h = absurd (false≢true h)
      stmt_adds opens i m (choice k at bs) h = single opens i m (choice k at bs) refl
      stmt_adds opens i m (run k at) h = single opens i m (run k at) refl
      stmt_adds opens i m barrier h = single opens i m barrier refl
      stmt_adds opens i m (broadcast l root) h = single opens i m (broadcast l root) refl
      stmt_adds opens i m (reduce l op root) h = single opens i m (reduce l op root) refl
      stmt_adds opens i m (allreduce l op) h = single opens i m (allreduce l op) refl

      pub block_adds : (opens : List ℕ) (i : ℤ) (b : BlockTree) → go_on b ≡ true → Adds (flat_block roles n opens i b)
      block_adds opens i nothing h = none_adds
      block_adds opens i (more m s b) h =
          let hs = and_parts (goes_on s) (go_on b) h in
          both_add (flat_stmt roles n opens i m s) (flat_block roles n opens i b) (stmt_adds opens i m s hs.0) (block_adds opens i b hs.1)

    -- the first statement of a block, and the others, which are done where it is no continue
    pub first_adds : (right : (x : X) → join x (give stop) ≡ x) (rows : Rows) (varies : Bool) (ids opens : List ℕ) (i : ℤ) (m : Mark) (s : StmtTree) (b : BlockTree) → is_stmt rows varies ids s ≡ true →
        give (flat_block roles n opens i (more m s b) stop) ≡ join (give (flat_stmt roles n opens i m s stop)) (if is_again s then give stop else give (flat_block roles n opens i b stop))
    first_adds right rows varies ids opens i m s b h = by_kind (is_again s) refl where
      by_kind : (a : Bool) → is_again s ≡ a → give (flat_block roles n opens i (more m s b) stop) ≡ join (give (flat_stmt roles n opens i m s stop)) (if a then give stop else give (flat_block roles n opens i b stop))
      by_kind true e = ap give (dropped roles n opens i m s (flat_block roles n opens i b stop) e) ∙ sym (right (give (flat_stmt roles n opens i m s stop)))
      by_kind false e = stmt_adds opens i m s (sound_goes_on rows varies ids s h ∙ ap not e) (flat_block roles n opens i b stop)

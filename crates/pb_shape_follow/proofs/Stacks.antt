-- The stack of a rank's endpoint beside what its text has still to do.
use Rattle.std.proofs.Common.{◌≡◌, ◌≤◌, ◌<◌, ℕ, zero, suc, ◌+◌, ℤ, pos, Bool, true, false, nat_eq, List, [], ◌∷◌, length, Some, None, refl, sym, subst, arith}
use Rattle.std.proofs.lemmas.Bool.Decides.{nat_tests}
use Rattle.pb_core_language.specs.Ranks.{total}
use Rattle.pb_core_language.specs.Tree.{BlockTree}
use Rattle.pb_core_language.specs.Plain.{Protocol}
use Rattle.pb_core_language.specs.Lists.{nth}
use Rattle.pb_core_language.specs.Flat.{Block, stop}
use Rattle.pb_core_language.specs.FlatOf.{flat_block}
use Rattle.pb_core_language.specs.Run.{Env, at_rank}
use Rattle.pb_core_flat.specs.Seated.{rank}
use Rattle.pb_core_endpoint.specs.Core.{have_simple_items}
use Rattle.pb_core_endpoint.specs.Endpoint.{Code, Part, code, return_to}
use Rattle.pb_core_endpoint.proofs.Kept.{Keeps}
use Rattle.pb_local.specs.Ranks.{Seat}
use Rattle.pb_local.specs.Tree.{Codes, nothing, more, size, size_all, Program}
use Rattle.pb_local.specs.WellMade as W
use Rattle.pb_local.specs.WellMade.{AreMade}
use Rattle.pb_local.specs.Machine.{Todo, finished, do_next, round_of, end_of, leave, pushed, back_to}
use Rattle.pb_shape.specs.Places.{Here, scope_of}
use Rattle.pb_shape.specs.Loops.{Around, outermost, in_loop, number_at}
use Rattle.pb_shape.specs.Shape.{Shape}
use Rattle.pb_shape.specs.Straight.{AreFine, IsOpenTo}

-- ---- what is still to do

-- how many statements
abbrev pub weight : Todo → ℕ
weight finished = 0
weight (do_next k c rest) = size c + weight rest
weight (round_of high k body rest) = weight rest
weight (end_of x k body rest) = weight rest
weight (leave joint rest) = weight rest

pub weight_pushed : (k : ℕ) (cs : Codes) (t : Todo) → weight (pushed k cs t) ≡ size_all cs + weight t
weight_pushed k nothing t = omega arith
weight_pushed k (more c cs) t = omega (arith, weight_pushed (k + size c) cs t)

back_pushed : (x k : ℕ) (cs : Codes) (t : Todo) → back_to x (pushed k cs t) ≡ back_to x t
back_pushed x k nothing t = refl
back_pushed x k (more c cs) t = back_pushed x (k + size c) cs t

module _ (p : Protocol) (l : Program) (n : ℤ) (me : Seat) where
  abbrev pub me_rank : ℕ
  me_rank = rank p.roles n me.role me.index

  -- the statements of the text
  abbrev pub all : ℕ
  all = size_all l.body

  abbrev pub held : Around → List Bool
  held a = a.held n me.role me.index

  abbrev pub flat : Around → BlockTree → Block
  flat a b = flat_block p.roles n a.opens (pos 0) b stop

  abbrev pub coded : Around → BlockTree → Code
  coded a b = code (held a) me_rank (flat a b)

  -- the rank is in all loops around
  pub record IsAround (a : Around) : Type 0 where
    pub env : Env
    pub same : at_rank me_rank env ≡ held a
    pub deep : length env ≡ length a.opens
    pub is_held : (k : ℕ) → k < length a.opens → nth (held a) k ≡ true

  -- the code is well made, and loops in it have numbers above those around it
  pub record IsMadeIn (a : Around) (codes : Codes) : Type 0 where
    pub at : W.Scope
    pub made : AreMade l at codes
    pub below : (k : ℕ) → k < length a.opens → number_at a.numbers k < at.loops

  -- what a block keeps besides its shape
  pub record Sits (h : Here) (a : Around) (core : BlockTree) (codes : Codes) : Type 0 where
    pub fine : AreFine p n core
    pub here : IsOpenTo h n me
    pub simple : have_simple_items core ≡ true
    pub around : IsAround a
    pub keeps : Keeps (total p.roles n) around.env (flat a core)
    pub made : IsMadeIn a codes

  pub record Stands (h : Here) (a : Around) (core : BlockTree) (codes : Codes) : Type 0 where
    pub shape : Shape (scope_of p) h a core codes
    pub sits : Sits h a core codes

  -- no loop around has this number
  abbrev pub IsFresh : Around → ℕ → Type 0
  IsFresh a x = (k : ℕ) → k < length a.opens → nat_eq (number_at a.numbers k) x ≡ false

  -- the two stacks belong together, inside these loops
  pub data Sim : Around → List Part → Todo → Type 0 where
    empty : Sim outermost [] finished
    block : {h : Here} {a : Around} {core : BlockTree} {codes : Codes} {K : List Part} {t : Todo} (number : ℕ) →
        Stands h a core codes → Sim a K t → Sim a (record { body = None; code = coded a core } ∷ K) (pushed number codes t)
    body : {h h' : Here} {a : Around} {core whole : BlockTree} {codes inner : Codes} {K : List Part} {t : Todo} (number id x start : ℕ) →
        Stands h' (in_loop (scope_of p) a id x whole) core codes → Stands h (in_loop (scope_of p) a id x whole) whole inner → IsFresh a x → size_all inner + weight t ≤ all → Sim a K t →
        Sim (in_loop (scope_of p) a id x whole) (record { body = Some (coded (in_loop (scope_of p) a id x whole) whole); code = coded (in_loop (scope_of p) a id x whole) core } ∷ K) (pushed number codes (end_of x start inner t))

  -- ---- going back

  pub record Back (K : List Part) (t : Todo) : Type 0 where
    pub around : Around
    pub sim : Sim around K t
    pub small : weight t ≤ all

  pub go_back : {a : Around} {K : List Part} {t : Todo} → Sim a K t → (k : ℕ) → k < length a.opens → Back (return_to K k) (back_to (number_at a.numbers k) t)
  go_back empty k lt = absurd (omega (arith, lt))
  go_back {a = a} (block {codes = codes} {K = K} {t = t} number stands sim) k lt = subst (λ z. Back (return_to K k) z) (sym (back_pushed (number_at a.numbers k) number codes t)) (go_back sim k lt)
  go_back (body {a = a} {whole = whole} {codes = codes} {inner = inner} {K = K} {t = t} number id x start stands loop fresh small sim) zero lt =
      let e : nat_eq x x ≡ true = grind (arith, nat_tests) in
      rw (back_pushed x number codes (end_of x start inner t), e) (record { around = in_loop (scope_of p) a id x whole; sim = body start id x start loop loop fresh small sim; small = omega (arith, small, weight_pushed start inner (end_of x start inner t)) })
  go_back (body {a = a} {codes = codes} {inner = inner} {t = t} number id x start stands loop fresh small sim) (suc k) lt =
      rw (back_pushed (number_at a.numbers k) number codes (end_of x start inner t), fresh k (omega (arith, lt))) (go_back sim k (omega (arith, lt)))

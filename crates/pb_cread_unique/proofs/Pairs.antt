-- One text spells one tree with its bodies.
use Rattle.std.proofs.Common.{◌≡◌, ℕ, ◌<◌, ◌≤◌, ℤ, List, [], ◌∷◌, ◌++◌, map, length, refl, sym, ap, subst, ◌∙◌, arith, length-append}
use Rattle.std.specs.Prelude.{◌^◌}
use Rattle.pb_local.specs.Ranks.{Sum, ranks_of, bases_of, places_of}
use Rattle.pb_local.specs.Tree.{Program, program_of}
use Rattle.pb_ctree.specs.declared.tree.Formula.{Formula}
use Rattle.pb_ctree.specs.Frame.{text_lines}
use Rattle.pb_ctree.specs.Trees.{sum_of}
use Rattle.pb_cread_frame.specs.Ahead.{spelled_body, words_bodies}
use Rattle.pb_cread_frame.specs.Frames.{frame_lines}
use Rattle.pb_cread_frame.specs.Reading.{Read}
use Rattle.pb_cread_frame.specs.Rows.{bare}
use Rattle.pb_cread.specs.Faults.{Spell}
use Rattle.pb_cread.specs.Reached.{with_body, headed, Framed}
use Rattle.pb_cread.proofs.Heads.{only_head, has_head, length_map}
use Rattle.pb_cread_unique.proofs.Bodied.{as_they_stand}
use Rattle.pb_cread_unique.specs.Laws.{OneText}
use Rattle.pb_cread_unique.proofs.Fronts.{same_statements}
use Rattle.pb_cread_unique.proofs.Framed.{headed_by, only_bodies, frame_within, statements_within, Cut, cut}
use Rattle.pb_cread_unique.proofs.Rows.{AreRows, rows_behind, Rows, rows_are, spelled_rows, fewer}

-- ---- programs and bodies

record Same (p : Program) (prelude : List ℕ) (bodies : List (List ℕ)) (q : Program) (other : List ℕ) (others : List (List ℕ)) : Type 0 where
  program : p ≡ q
  prelude_is : spelled_body prelude ≡ spelled_body other
  bodies_are : words_bodies p.labels p.kernels bodies ≡ words_bodies q.labels q.kernels others

-- of two programs with bodies that the same lines spell
same_where_cut : (frame more : List (List ℕ)) (r : Read) (p : Program) (prelude : List ℕ) (bodies : List (List ℕ)) (q : Program) (other : List ℕ) (others : List (List ℕ))
    → Framed frame r → AreRows (frame ++ more) → length (frame ++ more) < 2 ^ 64 → Spell (frame ++ more) p prelude bodies → Spell (frame ++ more) q other others
    → length (frame ++ more) ≡ length (text_lines p prelude bodies) → length (frame ++ more) ≡ length (text_lines q other others) → Same p prelude bodies q other others
same_where_cut frame more r p prelude bodies q other others f all few sp sq mp mq =
    let rows = rows_behind frame more all in
    let op = only_head frame more r p prelude bodies f rows sp in
    let oq = only_head frame more r q other others f rows sq in
    let bp = only_bodies frame more r p prelude bodies f all sp in
    let bq = only_bodies frame more r q other others f all sq in
    let lp = statements_within frame more r p prelude bodies op mp in
    let lq = statements_within frame more r q other others oq mq in
    let long = length_map bare more in
    let statements = same_statements (headed r) p.body q.body (map bare more) (has_head frame r f) (omega (arith, long, few, length-append frame more)) (omega (arith, long, lp)) (omega (arith, long, lq)) op.behind oq.behind in
    record { program = op.is ∙ ap (with_body (headed r)) statements ∙ sym oq.is; prelude_is = bp.prelude_is ∙ sym bq.prelude_is; bodies_are = bp.bodies_are ∙ sym bq.bodies_are }

same_cut : (bytes : List ℕ) (lines : List (List ℕ)) (p : Program) (prelude : List ℕ) (bodies : List (List ℕ)) (q : Program) (other : List ℕ) (others : List (List ℕ))
    → length bytes < 2 ^ 64 → Rows p prelude bodies bytes lines → Rows q other others bytes lines → Cut lines (length (frame_lines p prelude bodies)) → Same p prelude bodies q other others
same_cut bytes lines p prelude bodies q other others few x y c =
    let back : lines ≡ c.frame ++ c.more = sym c.parts in
    let A : List (List ℕ) → Type 0 = λ ls. Spell ls p prelude bodies in
    let B : List (List ℕ) → Type 0 = λ ls. Spell ls q other others in
    let all = subst AreRows back x.each in
    let sp = subst A back x.spell in
    let h = headed_by p prelude bodies c.frame c.more all sp c.long in
    let many : length (c.frame ++ c.more) ≡ length lines = ap length c.parts in
    let short : length lines ≤ length bytes = (let f = fewer lines x.each in let e = ap length x.whole in omega (arith, f, e)) in
    same_where_cut c.frame c.more h.read p prelude bodies q other others h.framed all (omega (arith, many, short, few)) sp (subst B back y.spell) (many ∙ x.many) (many ∙ y.many)

-- of two programs with bodies whose spellings have the same lines
same_rows : (bytes : List ℕ) (lines : List (List ℕ)) (p : Program) (prelude : List ℕ) (bodies : List (List ℕ)) (q : Program) (other : List ℕ) (others : List (List ℕ))
    → length bytes < 2 ^ 64 → Rows p prelude bodies bytes lines → Rows q other others bytes lines → Same p prelude bodies q other others
same_rows bytes lines p prelude bodies q other others few x y =
    let within = frame_within p prelude bodies in
    same_cut bytes lines p prelude bodies q other others few x y (cut lines (length (frame_lines p prelude bodies)) (omega (arith, within, x.many)))

-- ---- the numbers of ranks

sum_same : (f g : Formula) → sum_of f ≡ sum_of g → f ≡ g
sum_same f g e = ap (λ (x : ℤ). record f { a = x }) (ap (λ (s : Sum). s.a) e) ∙ ap (λ (x : ℤ). record f { a = g.a; b = x }) (ap (λ (s : Sum). s.b) e)

sums_same : (fs gs : List Formula) → map sum_of fs ≡ map sum_of gs → fs ≡ gs
sums_same [] [] e = refl
sums_same [] (g ∷ gs) e = absurd cc
sums_same (f ∷ fs) [] e = absurd cc
sums_same (f ∷ fs) (g ∷ gs) e =
    let first : sum_of f ≡ sum_of g = cc in
    let others : map sum_of fs ≡ map sum_of gs = cc in
    ap (λ x. x ∷ fs) (sum_same f g first) ∙ ap (λ xs. g ∷ xs) (sums_same fs gs others)

-- ---- trees

pub one_text : OneText
one_text a b x y bytes few ax ay sa sb =
    let p = program_of a.local in
    let q = program_of b.local in
    let lines = spelled_rows a x bytes ax sa in
    let other = rows_are b y bytes lines.0 ay sb lines.1.each lines.1.whole in
    let same = same_rows bytes lines.0 p x.prelude x.list.items q y.prelude y.list.items few lines.1 other in
    let wx = as_they_stand p x.prelude x.list.items ax.prelude ax.list sa.many in
    let wy = as_they_stand q y.prelude y.list.items ay.prelude ay.list sb.many in
    let roles : a.local.roles.items ≡ b.local.roles.items = ap (λ (z : Program). z.roles) same.program in (
      same.program,
      sum_same a.size b.size (sa.made.size ∙ ap ranks_of roles ∙ sym sb.made.size),
      sums_same a.bases.items b.bases.items (sa.made.bases ∙ ap bases_of roles ∙ sym sb.made.bases),
      sums_same a.places.items b.places.items (sa.made.places ∙ ap places_of roles ∙ sym sb.made.places),
      sym wx.0 ∙ same.prelude_is ∙ wy.0,
      sym wx.1 ∙ same.bodies_are ∙ wy.1,
    )

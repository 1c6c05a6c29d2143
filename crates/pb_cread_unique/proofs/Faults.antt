-- A spelling that keeps the limits has no fault but want of memory.
use Rattle.std.proofs.Common.{◌≡◌, ℕ, ◌+◌, ◌-◌, ◌≤◌, List, [], ◌∷◌, ◌++◌, map, length, take, refl, sym, ap, subst, ◌∙◌, arith, ◌⊎◌, inl, inr, append_assoc, length-append}
use Rattle.std.specs.Prelude.{true, Bool}
use Rattle.std.proofs.lemmas.List.Elements.{All-push}
use Rattle.pb_text.specs.declared.place.Place.{Place}
use Rattle.pb_local.specs.Pieces.{joined}
use Rattle.pb_local.specs.Tree.{Codes, Program, program_of, size_all}
use Rattle.pb_local.specs.WellMade.{outermost}
use Rattle.pb_ctree.specs.declared.body.Bodies.{Bodies}
use Rattle.pb_ctree.specs.declared.tree.CTree.{CTree}
use Rattle.pb_ctree.specs.Lines.{Line}
use Rattle.pb_ctree.specs.Texts.{Spells}
use Rattle.pb_cread_frame.specs.Frames.{frame_lines}
use Rattle.pb_cread_frame.specs.Reading.{Read}
use Rattle.pb_cread_frame.specs.Rows.{is_line, bare}
use Rattle.pb_cread_statements.specs.Fronts.{main_lines}
use Rattle.pb_cread_statements.specs.Marks.{marks_all, begun_in}
use Rattle.pb_cread_statements.proofs.Marked.{marks_statements}
use Rattle.pb_cread.specs.declared.fault.TextFault.TheVariants.{Unexpected, TooDeep, TooMany, NoMemory}
use Rattle.pb_cread.specs.Faults.{past_frame, Spell, IsUnexpected, IsTooDeep, IsTooMany, Comes}
use Rattle.pb_cread.specs.Limits.{opened, closed, open_behind, begun_behind, KeepsLimits}
use Rattle.pb_cread.specs.Reached.{with_body, headed, Framed}
use Rattle.pb_cread.specs.Rows as W
use Rattle.pb_cread.proofs.Counts.{none_within}
use Rattle.pb_cread.proofs.Heads.{only_head, has_head, length_map}
use Rattle.pb_cread.proofs.Tables.{spelled_same, marks_same}
use Rattle.pb_cread.proofs.Taken.{joined_push}
use Rattle.pb_cread_unique.specs.Laws.{AreBodies, NoFaultOfASpelling}
use Rattle.pb_cread_unique.proofs.Fronts.{IsSameTo, same_to, begun_all}
use Rattle.pb_cread_unique.proofs.Framed.{headed_by, cut, Cut}
use Rattle.pb_cread_unique.proofs.Rows.{AreRows, rows_behind, row_first, Rows, spelled_rows, IsFrontOf, front_of, spell_front}

-- ---- limits behind the same lines

record IsLimited (p : Program) (k : ℕ) : Type 0 where
  deep : open_behind p k ≤ 256
  many : begun_behind p k ≤ 50000

few_begun : (h : Program) (a : Codes) (k : ℕ) → KeepsLimits (with_body h a) → begun_in (take k (marks_all h a)) ≤ 50000
few_begun h a k keeps = let size : size_all a ≤ 50000 = keeps.many in omega (arith, begun_all k (marks_all h a), (marks_statements h a).1, size)

limited : (h : Program) (a b : Codes) (k : ℕ) → KeepsLimits (with_body h a) → IsSameTo h a b k → IsLimited (with_body h b) k
limited h a b k keeps same =
    let braces : List Line → ℕ = λ ls. (1 + opened ls) - closed ls in
    let own : open_behind (with_body h a) k ≡ braces (take k (main_lines h a)) = ap (λ (ls : List Line). braces (take k ls)) (spelled_same h a 1 outermost a) in
    let other : open_behind (with_body h b) k ≡ braces (take k (main_lines h b)) = ap (λ (ls : List Line). braces (take k ls)) (spelled_same h b 1 outermost b) in
    let one : open_behind (with_body h b) k ≡ open_behind (with_body h a) k = other ∙ ap braces (sym same.lines) ∙ sym own in
    let marks : begun_behind (with_body h b) k ≡ begun_in (take k (marks_all h a)) = ap (λ (ms : List Bool). begun_in (take k ms)) (marks_same h b b) ∙ sym same.begun in
    record { deep = (let e = keeps.deep k in omega (arith, one, e)); many = (let e = few_begun h a k keeps in omega (arith, marks, e)) }

none_limited : (p : Program) → IsLimited p 0
none_limited p = let w = none_within p in record { deep = w.deep 0 (omega arith); many = w.many 0 (omega arith) }

-- where statements of both have begun
limited_behind : (frame more : List (List ℕ)) (r : Read) (p : Program) (prelude : List ℕ) (bodies : List (List ℕ)) (q : Program) (other : List ℕ) (others : List (List ℕ))
    → Framed frame r → AreRows (frame ++ more) → Spell (frame ++ more) p prelude bodies → Spell (frame ++ more) q other others → KeepsLimits p → IsLimited q (length more)
limited_behind frame more r p prelude bodies q other others f all sp sq keeps =
    let h = headed r in
    let rows = rows_behind frame more all in
    let op = only_head frame more r p prelude bodies f rows sp in
    let oq = only_head frame more r q other others f rows sq in
    let own = subst KeepsLimits op.is keeps in
    let few = few_begun h p.body (length (map bare more)) own in
    let same = same_to h p.body q.body (map bare more) (has_head frame r f) (omega (arith, few)) op.behind oq.behind in
    let A : ℕ → Type 0 = λ k. IsLimited (with_body h q.body) k in
    let B : Program → Type 0 = λ x. IsLimited x (length more) in
    subst B (sym oq.is) (subst A (length_map bare more) (limited h p.body q.body (length (map bare more)) own same))

before_or : (m n : ℕ) → (m ≤ n) ⊎ (n ≤ m)
before_or m n = grind arith

limited_cut : (lines : List (List ℕ)) (p : Program) (prelude : List ℕ) (bodies : List (List ℕ)) (q : Program) (other : List ℕ) (others : List (List ℕ))
    → AreRows lines → Spell lines p prelude bodies → Spell lines q other others → KeepsLimits p → Cut lines (length (frame_lines q other others)) → IsLimited q (past_frame q other others (length lines))
limited_cut lines p prelude bodies q other others all sp sq keeps c =
    let back : lines ≡ c.frame ++ c.more = sym c.parts in
    let P : List (List ℕ) → Type 0 = λ ls. Spell ls p prelude bodies in
    let Q : List (List ℕ) → Type 0 = λ ls. Spell ls q other others in
    let A : ℕ → Type 0 = λ k. IsLimited q k in
    let rows = subst AreRows back all in
    let own = subst Q back sq in
    let h = headed_by q other others c.frame c.more rows own c.long in
    let many : length c.more ≡ past_frame q other others (length lines) = behind (length lines) (length c.frame) (length c.more) (length (frame_lines q other others)) (ap length back ∙ length-append c.frame c.more) c.long in
    subst A many (limited_behind c.frame c.more h.read p prelude bodies q other others h.framed rows (subst P back sp) own keeps) where
      behind : (a b m n : ℕ) → a ≡ b + m → b ≡ n → m ≡ a - n
      behind a b m n e f = omega (arith, e, f)

nothing_behind : (a n : ℕ) → a ≤ n → 0 ≡ a - n
nothing_behind a n le = omega (arith, le)

-- a program that begins with lines of one that keeps the limits keeps them as far
limited_to : (lines : List (List ℕ)) (p : Program) (prelude : List ℕ) (bodies : List (List ℕ)) (q : Program) (other : List ℕ) (others : List (List ℕ))
    → AreRows lines → Spell lines p prelude bodies → Spell lines q other others → KeepsLimits p → IsLimited q (past_frame q other others (length lines))
limited_to lines p prelude bodies q other others all sp sq keeps = on (before_or (length (frame_lines q other others)) (length lines)) where
  on : (length (frame_lines q other others) ≤ length lines) ⊎ (length lines ≤ length (frame_lines q other others)) → IsLimited q (past_frame q other others (length lines))
  on (inl le) = limited_cut lines p prelude bodies q other others all sp sq keeps (cut lines (length (frame_lines q other others)) le)
  on (inr le) = let A : ℕ → Type 0 = λ k. IsLimited q k in subst A (nothing_behind (length lines) (length (frame_lines q other others)) le) (none_limited q)

-- ---- the lines at fault

-- lines that a spelling begins with, where a line comes next
next_rows : (bytes : List ℕ) (lines : List (List ℕ)) (rest line more : List ℕ) → W.Begins bytes lines rest → rest ≡ line ++ more → bytes ≡ joined (lines ++ line ∷ []) ++ more
next_rows bytes lines rest line more b e =
    b.whole ∙ ap (λ x. joined lines ++ x) e ∙ sym (append_assoc (joined lines) line more) ∙ ap (λ x. x ++ more) (sym (joined_push lines line))

next_limited : (tree : CTree) (bodies : Bodies) (bytes : List ℕ) (lines : List (List ℕ)) (rest line more : List ℕ) (q : Program) (other : List ℕ) (others : List (List ℕ))
    → Spells tree bodies bytes → AreBodies bodies → KeepsLimits (program_of tree.local) → W.Begins bytes lines rest → rest ≡ line ++ more → is_line line ≡ true → Spell (lines ++ line ∷ []) q other others
    → IsLimited q (past_frame q other others (length lines + 1))
next_limited tree bodies bytes lines rest line more q other others s are keeps b e one spell =
    let p = program_of tree.local in
    let r = spelled_rows tree bodies bytes are s in
    let own = All-push (λ l. is_line l ≡ true) lines line b.each one in
    let f = front_of (lines ++ line ∷ []) r.0 more own r.1.each (sym (next_rows bytes lines rest line more b e) ∙ r.1.whole) in
    let P : List (List ℕ) → Type 0 = λ ls. Spell ls p bodies.prelude bodies.list.items in
    let mine = spell_front p bodies.prelude bodies.list.items (lines ++ line ∷ []) f.more (subst P f.is r.1.spell) in
    let A : ℕ → Type 0 = λ k. IsLimited q (past_frame q other others k) in
    subst A (length-append lines (line ∷ [])) (limited_to (lines ++ line ∷ []) p bodies.prelude bodies.list.items q other others own mine spell keeps)

never_deep : (tree : CTree) (bodies : Bodies) (bytes : List ℕ) (place : Place) → Spells tree bodies bytes → AreBodies bodies → KeepsLimits (program_of tree.local) → Comes bytes place IsTooDeep → ⊥
never_deep tree bodies bytes place s are keeps c =
    let f = c.is in
    let l = next_limited tree bodies bytes c.lines c.rest f.line f.more f.program f.prelude f.bodies s are keeps c.begins f.next f.is f.spell in
    let d = l.deep in
    let e = f.deep in
    omega (arith, d, e)

never_many : (tree : CTree) (bodies : Bodies) (bytes : List ℕ) (place : Place) → Spells tree bodies bytes → AreBodies bodies → KeepsLimits (program_of tree.local) → Comes bytes place IsTooMany → ⊥
never_many tree bodies bytes place s are keeps c =
    let f = c.is in
    let l = next_limited tree bodies bytes c.lines c.rest f.line f.more f.program f.prelude f.bodies s are keeps c.begins f.next f.is f.spell in
    let d = l.many in
    let e = f.many in
    omega (arith, d, e)

-- the spelling's own next line goes on, and where none is left, it ends
never_unexpected : (tree : CTree) (bodies : Bodies) (bytes : List ℕ) (place : Place) → Spells tree bodies bytes → AreBodies bodies → Comes bytes place IsUnexpected → ⊥
never_unexpected tree bodies bytes place s are c = on f.more f.is f.behind where
  p : Program
  p = program_of tree.local

  r : (lines : List (List ℕ)) × Rows (program_of tree.local) bodies.prelude bodies.list.items bytes lines
  r = spelled_rows tree bodies bytes are s

  f : IsFrontOf c.lines r.0 c.rest
  f = front_of c.lines r.0 c.rest c.begins.each r.1.each (sym c.begins.whole ∙ r.1.whole)

  on : (more : List (List ℕ)) → r.0 ≡ c.lines ++ more → c.rest ≡ joined more → ⊥
  on [] is behind = c.is.no_end behind tree bodies are.prelude are.list s
  on (l ∷ ls) is behind =
      let rows = rows_behind c.lines (l ∷ ls) (subst AreRows is r.1.each) in
      let P : List (List ℕ) → Type 0 = λ xs. Spell xs (program_of tree.local) bodies.prelude bodies.list.items in
      let own = subst P (is ∙ sym (append_assoc c.lines (l ∷ []) ls)) r.1.spell in
      c.is.no_line l (joined ls) behind (row_first l ls rows) (program_of tree.local, bodies.prelude, bodies.list.items, spell_front (program_of tree.local) bodies.prelude bodies.list.items (c.lines ++ l ∷ []) ls own)

pub no_fault : NoFaultOfASpelling
no_fault tree bodies bytes s are keeps (Unexpected place) c = absurd (never_unexpected tree bodies bytes place s are c)
no_fault tree bodies bytes s are keeps (TooDeep place) c = absurd (never_deep tree bodies bytes place s are keeps c)
no_fault tree bodies bytes s are keeps (TooMany place) c = absurd (never_many tree bodies bytes place s are keeps c)
no_fault tree bodies bytes s are keeps NoMemory c = refl

-- The run of a file with calls and that of the file that it becomes are one.
use Rattle.std.proofs.Common.{◌≡◌, ℕ, zero, suc, ℤ, Option, None, List, [], ◌∷◌, ◌++◌, Ok, refl, sym, ap, ap₂, ◌∙◌, subst}
use Rattle.pb_text.specs.declared.place.Place.{Place}
use Rattle.pb_syntax.specs.Tree.{PlainFile, statements_of}
use Rattle.pb_world.specs.Actions.{Action, AnswerTable, of_rank}
use Rattle.pb_world.specs.Sequencer.{answers_after_all, emitted, state_after}
use Rattle.pb_core_language.specs.FileRules.{broken, broken_1, broken_2, broken_3, first_or, astray_in}
use Rattle.pb_core_language.specs.Run as R
use Rattle.pb_core_language.specs.Rules.{flat_at}
use Rattle.pb_core_language.specs.Meaning.{meaning}
use Rattle.pb_do_syntax.specs.Calls.{PlainCallFile}
use Rattle.pb_do_syntax.specs.Inlining.{InlinesFile, Written, file_with, top_site}
use Rattle.pb_do_laws.specs.Machine as M
use Rattle.pb_do_laws.specs.Machine.{Ground, Frame, emit_of, move_of, ground_of, first_stack}
use Rattle.pb_do_laws.specs.Made.{IsMade}
use Rattle.pb_do_laws.specs.Laws.{HaveOneRun, RunsAreOne, numbering_of}
use Rattle.pb_do_laws.proofs.Becoming.{becomes_of}
use Rattle.pb_do_laws.proofs.Unfolding.{none}
use Rattle.pb_do_laws.proofs.Flattening.{unfolds_of}
use Rattle.pb_do_laws.proofs.Matching.{nothing_left, at_top, Front, together, alone, front}

-- ---- from step to step

module _ (g : Ground) where
  abbrev state : List Frame → AnswerTable → M.State
  state K left = record { stack = K; left = left }

  abbrev flat_state : List R.Frame → AnswerTable → R.State
  flat_state S left = record { stack = S; left = left }

  abbrev after_these : List (ℕ × Action) → AnswerTable → AnswerTable
  after_these actions left = λ r. answers_after_all (of_rank r actions) (left r)

  -- so many steps of the one do what so many of the other do, and are over where they are
  abbrev Same : ℕ → List Frame → ℕ → List R.Frame → AnswerTable → Type 0
  Same m K k S left =
      (emitted (M.emit g) (M.next g) m (state K left) ≡ emitted (R.emit g.setting) (R.next g.setting) k (flat_state S left))
      × (M.is_over_at (state_after (M.emit g) (M.next g) m (state K left)).stack ≡ R.is_over_at (state_after (R.emit g.setting) (R.next g.setting) k (flat_state S left)).stack)

  over_same : {K : List Frame} {S : List R.Frame} → Front g K S → M.is_over_at K ≡ R.is_over_at S
  over_same (together e m o) = o
  over_same (alone L e m o f) = o

  next_alone : (K L : List Frame) (left : AnswerTable) → emit_of g K left ≡ [] → move_of g K left ≡ L → M.next g (state K left) ≡ state L left
  next_alone K L left e m = ap₂ (λ stack actions. state stack (after_these actions left)) m e

  next_together : (K : List Frame) (S : List R.Frame) (left : AnswerTable) → emit_of g K left ≡ R.emit_of g.setting S left →
      R.next g.setting (flat_state S left) ≡ flat_state (R.move_of g.setting S left) (after_these (emit_of g K left) left)
  next_together K S left e = ap (λ actions. flat_state (R.move_of g.setting S left) (after_these actions left)) (sym e)

  one_more : (m k : ℕ) (K : List Frame) (S : List R.Frame) (left : AnswerTable) (e : emit_of g K left ≡ R.emit_of g.setting S left) →
      Same m (move_of g K left) k (R.move_of g.setting S left) (after_these (emit_of g K left) left) → Same (suc m) K (suc k) S left
  one_more m k K S left e s =
      let n = sym (next_together K S left e) in (
        ap₂ (λ xs ys. xs ++ ys) e (s.0 ∙ ap (λ q. emitted (R.emit g.setting) (R.next g.setting) k q) n),
        s.1 ∙ ap (λ q. R.is_over_at (state_after (R.emit g.setting) (R.next g.setting) k q).stack) n,
      )

  none_more : (m k : ℕ) (K L : List Frame) (S : List R.Frame) (left : AnswerTable) → emit_of g K left ≡ [] → move_of g K left ≡ L → Same m L k S left → Same (suc m) K k S left
  none_more m k K L S left e moves s =
      let n = next_alone K L left e moves in
      (ap₂ (λ xs q. xs ++ emitted (M.emit g) (M.next g) m q) e n ∙ s.0, ap (λ q. M.is_over_at (state_after (M.emit g) (M.next g) m q).stack) n ∙ s.1)

  forth : (m : ℕ) {K : List Frame} {S : List R.Frame} → Front g K S → (left : AnswerTable) → (k : ℕ) × Same m K k S left
  forth zero f left = (0, (refl, over_same f))
  forth (suc m) {K = K} {S = S} (together e moves o) left =
      let t = forth m (front g (moves left)) (after_these (emit_of g K left) left) in
      (suc t.0, one_more m t.0 K S left (e left) t.1)
  forth (suc m) {K = K} {S = S} (alone L e moves o f) left =
      let t = forth m f left in (t.0, none_more m t.0 K L S left (e left) (moves left) t.1)

  back_one : (k : ℕ) → ((K : List Frame) (S : List R.Frame) → Front g K S → (left : AnswerTable) → (m : ℕ) × Same m K k S left) →
      {K : List Frame} {S : List R.Frame} → Front g K S → (left : AnswerTable) → (m : ℕ) × Same m K (suc k) S left
  back_one k rest {K = K} {S = S} (together e moves o) left =
      let t = rest (move_of g K left) (R.move_of g.setting S left) (front g (moves left)) (after_these (emit_of g K left) left) in
      (suc t.0, one_more t.0 k K S left (e left) t.1)
  back_one k rest {K = K} {S = S} (alone L e moves o f) left =
      let t = back_one k rest f left in (suc t.0, none_more t.0 (suc k) K L S left (e left) (moves left) t.1)

  back : (k : ℕ) {K : List Frame} {S : List R.Frame} → Front g K S → (left : AnswerTable) → (m : ℕ) × Same m K k S left
  back zero f left = (0, (refl, over_same f))
  back (suc k) f left = back_one k (λ L T h other. back k h other) f left

-- ---- a file

kept_first : (k : ℕ) (places : List Place) (later : Option (ℕ × Place)) → first_or k places later ≡ None → (places ≡ []) × (later ≡ None)
kept_first k [] later h = (refl, h)
kept_first k (p ∷ ps) later h = cc

keeps_third : (file : PlainFile) → broken file ≡ None → astray_in [] file.body.list ≡ []
keeps_third file h =
    let a = kept_first 1 (broken_1 file) _ h in
    let b = kept_first 2 (broken_2 file) _ a.1 in
    (kept_first 3 (broken_3 file) _ b.1).0

module _ (f : PlainCallFile) (w : Written) (n : ℤ) where
  abbrev whole : PlainFile
  whole = file_with f w.list

  abbrev ground : Ground
  ground = ground_of f (numbering_of whole) n

  abbrev flat_stack : List R.Frame
  flat_stack = record { opener = R.Top; rest = flat_at (meaning whole) n } ∷ []

  ready : IsMade f → InlinesFile f (Ok w) → broken whole ≡ None → Front ground (first_stack f) flat_stack
  ready made inlines kept =
      front ground
      (at_top nothing_left none
      (unfolds_of ground (record { params = []; names = [] }) f.body.list (statements_of w.list) 0 1 made.subs made.body (becomes_of f.subs top_site f.body.list 0 w inlines) (keeps_third whole kept)))

  one_run : Front ground (first_stack f) flat_stack → (answers : AnswerTable) → HaveOneRun f whole n answers
  one_run h answers = record {
    forth = λ steps. let t = forth ground steps h answers in (t.0, record { actions = t.1.0; ends = t.1.1 });
    back = λ others. let t = back ground others h answers in (t.0, record { actions = t.1.0; ends = t.1.1 });
  }

pub runs_are_one : RunsAreOne
runs_are_one f file made inlined accepted n within answers =
    subst (λ x. HaveOneRun f x n answers) (sym inlined.same)
    (one_run f inlined.written n (ready f inlined.written n made inlined.inlines (subst (λ x. broken x ≡ None) inlined.same accepted.earlier)) answers)

-- There are as many marks as lines, and as many of them say that a statement begins as there are statements.
use Rattle.std.proofs.Common.{◌≡◌, ℕ, suc, ◌+◌, Bool, true, false, List, [], ◌∷◌, ◌++◌, length, refl, ap, arith}
use Rattle.std.specs.Prelude.{if◌then◌else◌}
use Rattle.std.proofs.lemmas.List.{length-append}
use Rattle.pb_local.specs.Tree.{Code, when, for_each, own, loop, again, choice, send, recv, run, barrier, broadcast, reduce, allreduce, Codes, nothing, more, Parts, no_part, part, Program, size, size_all, size_parts}
use Rattle.pb_local.specs.WellMade.{Scope, behind, in_loop, loops_at, loops_in, outermost}
use Rattle.pb_local.specs.declared.stmt.Test.{Test}
use Rattle.pb_ctree.specs.Lines.{Line}
use Rattle.pb_ctree.specs.Rules.{is_wordy}
use Rattle.pb_ctree.specs.Spelling.{told_lines, spelled, spelled_all, spelled_other, spelled_parts}
use Rattle.pb_cread_statements.specs.Marks.{marks, marks_all, marks_other, marks_parts, begun_in}
use Rattle.pb_cread_statements.specs.Laws.{MarksStatements}
use Rattle.pb_cread_statements.proofs.Follow.{quiet, told_marks}

begun_append : (a b : List Bool) → begun_in (a ++ b) ≡ begun_in a + begun_in b
begun_append [] b = omega arith
begun_append (true ∷ a) b = omega (arith, begun_append a b)
begun_append (false ∷ a) b = begun_append a b

quiet_length : (ls : List Line) → length (quiet ls) ≡ length ls
quiet_length [] = refl
quiet_length (l ∷ ls) = ap (λ x. suc x) (quiet_length ls)

none_begun : (ls : List Line) → begun_in (quiet ls) ≡ 0
none_begun [] = refl
none_begun (l ∷ ls) = none_begun ls

pub record Marked (ms : List Bool) (ls : List Line) (n : ℕ) : Type 0 where
  pub same : length ms ≡ length ls
  pub begun : begun_in ms ≡ n

joined : (ms ns : List Bool) (ls bs : List Line) (n m : ℕ) → Marked ms ls n → Marked ns bs m → Marked (ms ++ ns) (ls ++ bs) (n + m)
joined ms ns ls bs n m a b = record {
  same = omega (arith, length-append ms ns, length-append ls bs, a.same, b.same);
  begun = omega (arith, begun_append ms ns, a.begun, b.begun);
}

begins : (ms : List Bool) (l : Line) (ls : List Line) (n : ℕ) → Marked ms ls n → Marked (true ∷ ms) (l ∷ ls) (suc n)
begins ms l ls n a = record { same = ap (λ x. suc x) a.same; begun = omega (arith, a.begun) }

goes : (ms : List Bool) (l : Line) (ls : List Line) (n : ℕ) → Marked ms ls n → Marked (false ∷ ms) (l ∷ ls) n
goes ms l ls n a = record { same = ap (λ x. suc x) a.same; begun = a.begun }

one : (l : Line) → Marked (true ∷ []) (l ∷ []) 1
one l = record { same = refl; begun = refl }

-- a line that ends a statement
ended : (ms : List Bool) (ls : List Line) (l : Line) (n : ℕ) → Marked ms ls n → Marked (ms ++ false ∷ []) (ls ++ l ∷ []) n
ended ms ls l n a = record {
  same = omega (arith, length-append ms (false ∷ []), length-append ls (l ∷ []), a.same);
  begun = omega (arith, begun_append ms (false ∷ []), a.begun);
}

told_all : (p : Program) (d : ℕ) (ls ks : List Line) (ns : List Bool) (bs : List Line) (n : ℕ) → quiet ks ≡ quiet ls → Marked ns bs n → Marked (quiet ks ++ ns) (ls ++ bs) n
told_all p d ls ks ns bs n e a = record {
  same = omega (arith, length-append (quiet ks) ns, length-append ls bs, a.same, ap length e, quiet_length ls);
  begun = omega (arith, begun_append (quiet ks) ns, none_begun ks, a.begun);
}

in_front : (b : Bool) (l m : Line) → Marked (true ∷ (if b then false ∷ [] else [])) ((if b then l ∷ [] else []) ++ m ∷ []) 1
in_front true l m = record { same = refl; begun = refl }
in_front false l m = record { same = refl; begun = refl }

at_end : (b : Bool) (l m : Line) → Marked (true ∷ (if b then false ∷ [] else [])) (l ∷ (if b then m ∷ [] else [])) 1
at_end true l m = record { same = refl; begun = refl }
at_end false l m = record { same = refl; begun = refl }

mutual
  stmt : (p : Program) (d : ℕ) (s : Scope) (c : Code) → Marked (marks p c) (spelled p d s c) (size c)
  stmt p d s (when guards a b) = begins _ _ _ _ (joined _ _ _ _ _ _ (all p (d + 1) s a) (other p d (behind s (loops_in a)) b))
  stmt p d s (for_each low high body) = begins _ _ _ _ (ended _ _ _ _ (all p (d + 1) s body))
  stmt p d s (loop id body) = begins _ _ _ _ (ended _ _ _ _ (all p (d + 1) (in_loop s id) body))
  stmt p d s (choice who kernel relays from tests bs) = begins _ _ _ _ (goes _ _ _ _ (told_all p d (told_lines p d who relays from tests) (told_lines p 0 who relays from tests) _ _ _ (told_marks p 0 d who relays from tests) (parts p d s 0 bs tests)))
  stmt p d s (own off) = one _
  stmt p d s (again id) = one _
  stmt p d s (send label to) = in_front (is_wordy p label) _ _
  stmt p d s (recv label from) = at_end (is_wordy p label) _ _
  stmt p d s (run kernel) = one _
  stmt p d s barrier = one _
  stmt p d s (broadcast label root) = record { same = refl; begun = refl }
  stmt p d s (reduce label op root) = record { same = refl; begun = refl }
  stmt p d s (allreduce label op) = record { same = refl; begun = refl }

  all : (p : Program) (d : ℕ) (s : Scope) (cs : Codes) → Marked (marks_all p cs) (spelled_all p d s cs) (size_all cs)
  all p d s nothing = record { same = refl; begun = refl }
  all p d s (more c rest) = joined _ _ _ _ _ _ (stmt p d s c) (all p d (behind s (loops_at c)) rest)

  other : (p : Program) (d : ℕ) (s : Scope) (cs : Codes) → Marked (marks_other p cs) (spelled_other p d s cs) (size_all cs)
  other p d s nothing = record { same = refl; begun = refl }
  other p d s (more c rest) = goes _ _ _ _ (ended _ _ _ _ (joined _ _ _ _ _ _ (stmt p (d + 1) s c) (all p (d + 1) (behind s (loops_at c)) rest)))

  parts : (p : Program) (d : ℕ) (s : Scope) (k : ℕ) (bs : Parts) (tests : List Test) → Marked (marks_parts p bs) (spelled_parts p d s k tests bs) (size_parts bs)
  parts p d s k no_part tests = record { same = refl; begun = refl }
  parts p d s k (part b rest) tests = goes _ _ _ _ (joined _ _ _ _ _ _ (all p (d + 1) s b) (parts p d (behind s (loops_in b)) (k + 1) rest tests))

pub marks_statements : MarksStatements
marks_statements p c = let r = all p 1 outermost c in (r.same, r.begun)

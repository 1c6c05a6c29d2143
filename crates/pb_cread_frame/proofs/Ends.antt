-- Where the statements don't come next, some line is ahead.
use Rattle.std.proofs.Common.{◌≡◌, ℕ, Bool, false, List, [], ◌∷◌, ◌++◌, map, Option, Some, None, refl, sym, ap, subst, ◌∙◌}
use Rattle.std.specs.Prelude.{not}
use Rattle.std.proofs.lemmas.Option.{same_Some, none-some}
use Rattle.pb_syntax.specs.declared.core_label.CoreLabel.{CoreLabel}
use Rattle.pb_syntax.specs.declared.core_label.CoreKernel.{CoreKernel}
use Rattle.pb_local.specs.declared.tables.Role.{Role}
use Rattle.pb_ctree.specs.Bodies.{is_marker, lines_of}
use Rattle.pb_ctree.specs.Lines.{line, raw}
use Rattle.pb_ctree.specs.Rules.{has_size}
use Rattle.pb_cread_frame.specs.Ahead.{Shown, sure, show, Rest, Known, known, kernels_from, labels_from, roles_from, ruled, ahead_at, ahead, whole}
use Rattle.pb_cread_frame.specs.Laws.{then_read, read, Begins}
use Rattle.pb_cread_frame.specs.Reading.{Phase, at_protocol, at_range, at_roles, at_labels, in_body, at_kernels, at_statements, Read, State, end_text, step_at, step, is_statements, done_at, is_done}
use Rattle.pb_cread_rows.specs.Spelled.{names_of_roles, names_of_labels, names_of_kernels, tables}
use Rattle.pb_cread_frame.specs.Steps.{GoesAlong}
use Rattle.pb_cread_frame.proofs.Follow.{follows_all}

abbrev HasLine : List Shown → Type 0
HasLine [] = ⊥
HasLine (l ∷ ls) = Unit {0}

labels_some : (k : Known) (names : List (List ℕ)) (all ls : List CoreLabel) (q : Rest) → HasLine (labels_from k names all ls q)
labels_some k names all [] q = tt
labels_some k names all (l ∷ ls) q = tt

ruled_some : (rule : Bool) (xs : List Shown) → HasLine xs → HasLine (ruled rule xs)
ruled_some rule [] h = h
ruled_some rule (x ∷ xs) h = tt

roles_some : (k : Known) (names : List (List ℕ)) (all rs : List Role) (q : Rest) → HasLine (roles_from k names all rs q)
roles_some k names all [] q = ruled_some (has_size (tables k.range all)) (labels_from (record k { roles = all }) (names_of_labels k.labels) (k.labels ++ q.labels) q.labels q) (labels_some (record k { roles = all }) (names_of_labels k.labels) (k.labels ++ q.labels) q.labels q)
roles_some k names all (r ∷ rs) q = tt

body_some : (lines : List (List ℕ)) (behind : List Shown) → HasLine (map show (map (λ l. line 0 (raw l) (not (is_marker l))) lines) ++ (sure end_text ∷ behind))
body_some [] behind = tt
body_some (l ∷ ls) behind = tt

kernels_some : (k : Known) (names : List (List ℕ)) (ks : List CoreKernel) (bodies : List (List ℕ)) → HasLine (kernels_from k names ks bodies)
kernels_some k names [] bodies = tt
kernels_some k names (x ∷ xs) bodies = tt

phase_some : (phase : Phase) (k : Known) (q : Rest) → is_statements phase ≡ false → HasLine (ahead_at phase k q)
phase_some at_protocol k q e = tt
phase_some at_range k q e = tt
phase_some at_roles k q e = roles_some k (names_of_roles k.roles) (k.roles ++ q.roles) q.roles q
phase_some at_labels k q e = labels_some k (names_of_labels k.labels) (k.labels ++ q.labels) q.labels q
phase_some (in_body owner) k q e = body_some (lines_of q.text) _
phase_some at_kernels k q e = kernels_some k (names_of_kernels k.kernels) q.kernels q.bodies
phase_some at_statements k q e = absurd cc

some_at : (awaited : List (List ℕ)) (phase : Phase) (k : Known) (q : Rest) → done_at awaited phase ≡ false → HasLine (map sure awaited ++ ahead_at phase k q)
some_at [] phase k q e = phase_some phase k q e
some_at (text ∷ texts) phase k q e = tt

-- nothing goes on where the statements come next
not_done : (r : Read) (awaited : List (List ℕ)) (phase : Phase) (text : List ℕ) (t : State) → step_at r awaited phase text ≡ Some t → done_at awaited phase ≡ false
not_done r [] at_protocol text t e = refl
not_done r [] at_range text t e = refl
not_done r [] at_roles text t e = refl
not_done r [] at_labels text t e = refl
not_done r [] (in_body owner) text t e = refl
not_done r [] at_kernels text t e = refl
not_done r [] at_statements text t e = absurd (none-some t e)
not_done r (a ∷ more) phase text t e = refl

abbrev Behind : List (List ℕ) → State → Rest → List Shown → Type 0
Behind lines t q tail = Begins lines (ahead t q ++ tail)

-- lines that are read, and one that may not stand there, begin no text
pub refused_in : (lines : List (List ℕ)) (text : List ℕ) (t s : State) (q : Rest) (tail : List Shown) → read lines t ≡ Some s → step s text ≡ None → is_done s ≡ false → Behind (lines ++ text ∷ []) t q tail → ⊥
refused_in [] text t s q tail e none some_left b = last (ahead s q) (some_at s.awaited s.phase (known s.read) q some_left) (follows_all s q) (subst P (same_Some t s e) b) where
  P : State → Type 0
  P = λ u. Behind (text ∷ []) u q tail

  last : (xs : List Shown) → HasLine xs → GoesAlong (step s) (whole s q) xs → Begins (text ∷ []) (xs ++ tail) → ⊥
  last [] h g b = h
  last (x ∷ xs) h g b = let f = g b.1 in none-some f.next (sym none ∙ ap (step s) b.0 ∙ f.goes)
refused_in (l ∷ ls) text t s q tail e none some_left b = on (step t l) refl e (λ n r g c. refused_in ls text n s r tail g none some_left c) where
  next : (n : State) → step t l ≡ Some n → read ls n ≡ Some s → ((n : State) (r : Rest) → read ls n ≡ Some s → Behind (ls ++ text ∷ []) n r tail → ⊥)
      → (xs : List Shown) → HasLine xs → GoesAlong (step t) (whole t q) xs → Begins (l ∷ (ls ++ text ∷ [])) (xs ++ tail) → ⊥
  next n f g others [] h along b = h
  next n f g others (x ∷ xs) h along b =
      let w = along b.1 in
      let same : w.next ≡ n = same_Some w.next n (sym w.goes ∙ sym (ap (step t) b.0) ∙ f) in
      let Q : State → Type 0 = λ u. read ls u ≡ Some s in
      let R : List Shown → Type 0 = λ ys. Begins (ls ++ text ∷ []) (ys ++ tail) in
      others w.next w.arrives.rest (subst Q (sym same) g) (subst R (sym w.arrives.lines) b.2)

  on : (o : Option State) → step t l ≡ o → then_read o (read ls) ≡ Some s → ((n : State) (r : Rest) → read ls n ≡ Some s → Behind (ls ++ text ∷ []) n r tail → ⊥) → ⊥
  on None f g others = none-some s g
  on (Some n) f g others = next n f g others (ahead t q) (some_at t.awaited t.phase (known t.read) q (not_done t.read t.awaited t.phase l n f)) (follows_all t q) b

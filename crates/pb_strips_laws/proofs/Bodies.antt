-- What the body of a file with strips does is, flat, what the body of the file that it stands for does.
use Rattle.std.proofs.Common.{◌≡◌, ℕ, suc, ◌+◌, ℤ, pos, true, nat_eq, Option, None, Some, List, [], ◌∷◌, ◌++◌, refl, sym, ap, ap₂, ◌∙◌, subst, arith, eq-eqb}
use Rattle.std.proofs.lemmas.Bool.{or_left, or_right}
use Rattle.std.proofs.lemmas.List.{append_assoc, append-nil}
use Rattle.pb_syntax.specs.Tree as tree
use Rattle.pb_syntax.specs.Tree.{PlainStatement, PlainStatements, statements_of}
use Rattle.pb_world.specs.Actions.{Barrier, Broadcast, Reduce, Allreduce}
use Rattle.pb_core_language.specs.declared.protocol.CoreRole.{CoreRole}
use Rattle.pb_core_language.specs.FileRules.{role_names, is_nothing, astray_at, astray_in, astray_among}
use Rattle.pb_core_language.specs.Flat as F
use Rattle.pb_core_language.specs.Flat.{Block, stop, Branches}
use Rattle.pb_core_language.specs.FlatOf as flat
use Rattle.pb_core_language.specs.FlatOf.{flat_block, flat_branches, for_each, operation_of}
use Rattle.pb_core_language.specs.Meaning.{Table, Open, end_of, block_of, branches_of, stmts_at, stmts_in, blocks_at, blocks_in}
use Rattle.pb_core_language.specs.Names.{Name, is_named}
use Rattle.pb_strips_syntax.specs.declared.tree.StripEnd.{StripEnd}
use Rattle.pb_strips_syntax.specs.declared.tree.StripRole.{StripRole}
use Rattle.pb_strips_syntax.specs.Columns.{numbers}
use Rattle.pb_strips_syntax.specs.Flattening as S
use Rattle.pb_strips_syntax.specs.Flattening.{flat_end, flat_roles, flat_at, flat_in, flat_among}
use Rattle.pb_strips_syntax.specs.Strips.{Strip, message, foreach, loop, again, choice, compute, barrier, broadcast, reduce, allreduce, columns, Strips, nothing, more, StripBranches, no_branch, branch}
use Rattle.pb_strips_faults.specs.declared.site.Around.{Around}
use Rattle.pb_strips_faults.specs.declared.site.EndSite.{EndSite}
use Rattle.pb_strips_faults.specs.Sites.{site, around_by, sites_at, sites_in, sites_among}
use Rattle.pb_strips_laws.specs.Flat.{StripTable, nowhere, rank_of, label_of, kernel_of, values, for_each_column, strip_stmt, strip_block, strip_branches, bare, bare_branches}
use Rattle.pb_strips_laws.proofs.Each.{Each, each_part, none_in}
use Rattle.pb_strips_laws.proofs.Naming.{AreApart}
use Rattle.pb_strips_laws.proofs.Numbering.{is_in}
use Rattle.pb_strips_laws.proofs.Ends.{IsValue}
use Rattle.pb_strips_laws.proofs.Loops.{loop_names, loop_ids, Descend, descend_on, loop_found, stands_in_loop}
use Rattle.pb_strips_laws.proofs.Statements as M

choice_same : (kernel : ℕ) {p q : ℕ} {bs cs : Branches} {y z : Block} → p ≡ q → bs ≡ cs → y ≡ z → F.choice nowhere p kernel bs y ≡ F.choice nowhere q kernel cs z
choice_same kernel {q = q} {cs = cs} {y = y} at_same branches_same rest_same = ap₂ (λ p bs. F.choice nowhere p kernel bs y) at_same branches_same ∙ ap (λ z. F.choice nowhere q kernel cs z) rest_same

module _ (constant : Name) (roles : List StripRole) (labels kernels : List Name) (n : ℤ) where
  abbrev strip_names : StripTable
  strip_names = M.strip_names constant roles labels kernels n

  abbrev flat_names : Table
  flat_names = M.flat_names constant roles labels kernels n

  abbrev core_roles : List CoreRole
  core_roles = M.core_roles constant roles labels kernels n

  abbrev IsSound : EndSite → Type 0
  IsSound = M.IsSound constant roles labels kernels n

  abbrev flat_all : List Open → ℤ → ℕ → ℕ → List PlainStatement → Block → Block
  flat_all opens i s b xs after = flat_block core_roles n (loop_ids opens) i (block_of flat_names opens s b (statements_of xs)) after

  -- wherever the numbers of these statements begin, this is what they do
  abbrev Does : List Open → ℤ → Block → List PlainStatement → Block → Type 0
  Does opens i after xs done = (s b : ℕ) → Descend s opens → astray_in (loop_names opens) (statements_of xs) ≡ [] → bare (flat_all opens i s b xs after) ≡ done

  -- a block of its own, in front of what is done after it
  closed : (opens : List Open) (i : ℤ) (after : Block) (xs : List PlainStatement) (done whole : Block) → (Does opens i after [] done → Does opens i after (xs ++ []) whole) → bare after ≡ done → Does opens i after xs whole
  closed opens i after xs done whole h e = subst (λ ys. Does opens i after ys whole) (append-nil xs) (h (λ s b descend kept. e))

  -- what stands behind a statement, and the statement itself, keep rule 3
  behind : (opens : List Open) (i : ℤ) (after : Block) (x : PlainStatement) (rest : List PlainStatement) (done : Block) → Does opens i after rest done → (s b : ℕ) → Descend s opens →
      astray_in (loop_names opens) (statements_of (x ∷ rest)) ≡ [] →
      (bare (flat_all opens i (s + stmts_at x) (b + blocks_at x) rest after) ≡ done) × (astray_at (loop_names opens) (is_nothing (statements_of rest)) x ≡ [])
  behind opens i after x rest done does s b descend kept =
      let parts = none_in (astray_at (loop_names opens) (is_nothing (statements_of rest)) x) (astray_in (loop_names opens) (statements_of rest)) kept in
      (does (s + stmts_at x) (b + blocks_at x) (descend_on s (s + stmts_at x) opens (omega arith) descend) parts.1, parts.0)

  -- the copies of a body
  copies : (opens : List Open) (i : ℤ) (after : Block) (body : Strips) (cs : List ℕ) →
      ((c : ℕ) → is_in c cs ≡ true → (rest : List PlainStatement) (done : Block) → Does opens i after rest done → Does opens i after (flat_in body (Some c) ++ rest) (strip_block strip_names n body (loop_names opens) (Some c) i done)) →
      (rest : List PlainStatement) (done : Block) → Does opens i after rest done →
      Does opens i after (S.for_each cs (λ c. flat_in body c) ++ rest) (for_each_column cs (λ c. strip_block strip_names n body (loop_names opens) c i) done)
  copies opens i after body [] one rest done does = does
  copies opens i after body (c ∷ cs) one rest done does =
      let others : List PlainStatement = S.for_each cs (λ d. flat_in body d) in
      let later : Block = for_each_column cs (λ d. strip_block strip_names n body (loop_names opens) d i) done in
      subst (λ xs. Does opens i after xs (strip_block strip_names n body (loop_names opens) (Some c) i later)) (sym (append_assoc (flat_in body (Some c)) others rest))
      (one c (or_left (nat_eq c c) (is_in c cs) (eq-eqb c c refl)) (others ++ rest) later
      (copies opens i after body cs (λ d within. one d (or_right (nat_eq d c) (is_in d cs) within)) rest done does))

  module _ (apart : AreApart (role_names (flat_roles roles))) where
    -- the end of a statement with one end
    rank_same : (around : Option Around) (v : Option ℕ) → IsValue around v → (e : StripEnd) (i : ℤ) → IsSound (site around e) → flat.rank_of core_roles n (end_of flat_names (flat_end v e)) i ≡ rank_of strip_names n e v i
    rank_same around v fits e i good = M.rank_same constant roles labels kernels n apart around v fits e i good

    mutual
      does_at : (x : Strip) (around : Option Around) (v : Option ℕ) → IsValue around v → Each IsSound (sites_at around x) → (opens : List Open) (i : ℤ) (after : Block) (rest : List PlainStatement) (done : Block) →
          Does opens i after rest done → Does opens i after (flat_at x v ++ rest) (strip_stmt strip_names n x (loop_names opens) v i done)
      does_at (message l carries from to) around v fits good opens i after rest done does =
          λ s b descend kept.
          let r = behind opens i after (tree.message l carries (flat_end v from) (flat_end v to)) rest done does s b descend kept in
          M.by_sender_same constant roles labels kernels n apart around v fits (loop_ids opens) l from to good.0 good.1.0 from.index _ s b i _ done r.0
      does_at (foreach place x over at items) around v fits good opens i after rest done does =
          λ s b descend kept.
          let r = behind opens i after (tree.foreach place x over at (statements_of (flat_in items v))) rest done does s b descend kept in
          M.each_bare (λ j a. flat_all opens j (suc s) (suc b) (flat_in items v) a) (λ j z. strip_block strip_names n items (loop_names opens) v j z)
          (λ j a z same.
          closed opens j a (flat_in items v) z (strip_block strip_names n items (loop_names opens) v j z) (does_in items around v fits good opens j a [] z) same (suc s) (suc b) (descend_on s (suc s) opens (omega arith) descend) r.1)
          (values strip_names n over i) _ done r.0
      does_at (loop place x at body) around v fits good opens i after rest done does =
          λ s b descend kept.
          let r = behind opens i after (tree.loop place x at (statements_of (flat_in body v))) rest done does s b descend kept in
          let inside : List Open = record { name = x.name; id = s } ∷ opens in
          let inner : Block = strip_block strip_names n body (x.name ∷ loop_names opens) v i stop in
          ap₂ (λ a z. F.looped nowhere a z) (closed inside i stop (flat_in body v) stop inner (does_in body around v fits good inside i stop [] stop) refl (suc s) (suc b) (omega arith, descend) r.1) r.0
      does_at (again place x) around v fits good opens i after rest done does =
          λ s b descend kept.
          let r = behind opens i after (tree.again place x) rest done does s b descend kept in
          ap (λ k. F.again k) (loop_found x.name s opens descend (stands_in_loop (is_nothing (statements_of rest)) (is_named x.name (loop_names opens)) place r.1))
      does_at (choice place k who branches) around v fits good opens i after rest done does =
          λ s b descend kept.
          let r = behind opens i after (tree.choice place k (flat_end v who) (flat_among branches v)) rest done does s b descend kept in
          let offered = does_among branches around v fits good.1 opens i (suc s) b (descend_on s (suc s) opens (omega arith) descend) r.1 in
          choice_same (kernel_of strip_names n k) (rank_same around v fits who i good.0) offered r.0
      does_at (compute place k who) around v fits good opens i after rest done does =
          λ s b descend kept.
          let r = behind opens i after (tree.compute place k (flat_end v who)) rest done does s b descend kept in
          ap₂ (λ rank z. F.compute nowhere rank (kernel_of strip_names n k) z) (rank_same around v fits who i good.0) r.0
      does_at (barrier place) around v fits good opens i after rest done does =
          λ s b descend kept. ap (λ z. F.together nowhere Barrier z) (behind opens i after (tree.barrier place) rest done does s b descend kept).0
      does_at (broadcast place l carries from) around v fits good opens i after rest done does =
          λ s b descend kept.
          let r = behind opens i after (tree.broadcast place l carries (flat_end v from)) rest done does s b descend kept in
          ap₂ (λ rank z. F.together nowhere (Broadcast (label_of strip_names n l) rank) z) (rank_same around v fits from i good.0) r.0
      does_at (reduce place l carries by to) around v fits good opens i after rest done does =
          λ s b descend kept.
          let r = behind opens i after (tree.reduce place l carries by (flat_end v to)) rest done does s b descend kept in
          ap₂ (λ rank z. F.together nowhere (Reduce (label_of strip_names n l) (operation_of by) rank) z) (rank_same around v fits to i good.0) r.0
      does_at (allreduce place l carries by) around v fits good opens i after rest done does =
          λ s b descend kept.
          ap (λ z. F.together nowhere (Allreduce (label_of strip_names n l) (operation_of by)) z) (behind opens i after (tree.allreduce place l carries by) rest done does s b descend kept).0
      does_at (columns place x low high at body) around v fits good opens i after rest done does =
          copies opens i after body (numbers low high) (λ c within behind_it later d. does_in body (around_by x low high) (Some c) within good opens i after behind_it later d) rest done does

      does_in : (ss : Strips) (around : Option Around) (v : Option ℕ) → IsValue around v → Each IsSound (sites_in around ss) → (opens : List Open) (i : ℤ) (after : Block) (rest : List PlainStatement) (done : Block) →
          Does opens i after rest done → Does opens i after (flat_in ss v ++ rest) (strip_block strip_names n ss (loop_names opens) v i done)
      does_in nothing around v fits good opens i after rest done does = does
      does_in (more x ss) around v fits good opens i after rest done does =
          let parts = each_part IsSound (sites_at around x) (sites_in around ss) good in
          let later : Block = strip_block strip_names n ss (loop_names opens) v i done in
          subst (λ xs. Does opens i after xs (strip_stmt strip_names n x (loop_names opens) v i later)) (sym (append_assoc (flat_at x v) (flat_in ss v) rest))
          (does_at x around v fits parts.0 opens i after (flat_in ss v ++ rest) later (does_in ss around v fits parts.1 opens i after rest done does))

      does_among : (bs : StripBranches) (around : Option Around) (v : Option ℕ) → IsValue around v → Each IsSound (sites_among around bs) → (opens : List Open) (i : ℤ) (s b : ℕ) → Descend s opens →
          astray_among (loop_names opens) (flat_among bs v) ≡ [] → bare_branches (flat_branches core_roles n (loop_ids opens) i (branches_of flat_names opens s b (flat_among bs v))) ≡ strip_branches strip_names n bs (loop_names opens) v i
      does_among no_branch around v fits good opens i s b descend kept = refl
      does_among (branch at first rest) around v fits good opens i s b descend kept =
          let parts = each_part IsSound (sites_in around first) (sites_among around rest) good in
          let xs : PlainStatements = statements_of (flat_in first v) in
          let keeps = none_in (astray_in (loop_names opens) xs) (astray_among (loop_names opens) (flat_among rest v)) kept in
          let inner : Block = strip_block strip_names n first (loop_names opens) v i stop in
          ap₂ (λ a z. F.branch nowhere.mark a z)
          (closed opens i stop (flat_in first v) stop inner (does_in first around v fits parts.0 opens i stop [] stop) refl s (suc b) descend keeps.0)
          (does_among rest around v fits parts.1 opens i (s + stmts_in xs) (suc (b + blocks_in xs)) (descend_on s (s + stmts_in xs) opens (omega arith) descend) keeps.1)

    -- a whole body, whose numbers begin anywhere
    pub body_same : (body : Strips) → Each IsSound (sites_in None body) → (s b : ℕ) → astray_in [] (statements_of (flat_in body None)) ≡ [] →
        bare (flat_block core_roles n [] (pos 0) (block_of flat_names [] s b (statements_of (flat_in body None))) stop) ≡ strip_block strip_names n body [] None (pos 0) stop
    body_same body good s b kept =
        closed [] (pos 0) stop (flat_in body None) stop (strip_block strip_names n body [] None (pos 0) stop) (does_in body None None tt good [] (pos 0) stop [] stop) refl s b tt kept

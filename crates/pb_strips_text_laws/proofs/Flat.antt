-- The statements of the flat file are said.
use Rattle.std.proofs.Common.{◌≡◌, ℕ, suc, ◌-◌, ◌≤◌, inl, inr, Option, Some, List, [], ◌∷◌, ◌++◌, length, refl, ap, subst, arith}
use Rattle.pb_text.specs.declared.token.Mark.TheVariants as marks
use Rattle.pb_text.specs.declared.token.Key.TheVariants as keys
use Rattle.pb_syntax.specs.declared.tree.IndexText.{IndexText}
use Rattle.pb_syntax.specs.declared.tree.IndexText.TheVariants as index
use Rattle.pb_syntax.specs.Bare.{nowhere}
use Rattle.pb_syntax.specs.Form.{Form}
use Rattle.pb_syntax.specs.Tree as tree
use Rattle.pb_syntax.specs.Tree.{PlainStatement, PlainBlock, statements_of}
use Rattle.pb_syntax.specs.Grammar.{plain_end, any_end, end_beside, item, and_semicolon, collective, block}
use Rattle.pb_do_text_laws.proofs.Said.{Said, AllSaid, said_done, said_then, said_left, said_right, said_mark, said_key, said_name}
use Rattle.pb_do_text_laws.proofs.Built.{within, block_said, foreach_said, loop_said, choice_said}
use Rattle.pb_strips_syntax.specs.declared.tree.StripEnd.{StripEnd}
use Rattle.pb_strips_syntax.specs.Columns.{numbers}
use Rattle.pb_strips_syntax.specs.Flattening.{flat_end, flat_at, flat_in, flat_among, for_each, named_column}
use Rattle.pb_strips_syntax.specs.Strips.{Strip, message, foreach, loop, again, choice, compute, barrier, broadcast, reduce, allreduce, columns, Strips, nothing, more, StripBranches, no_branch, branch}
use Rattle.pb_strips_faults.specs.declared.site.Around.{Around}
use Rattle.pb_strips_faults.specs.Sites.{sites_at, sites_in, sites_among, around_by}
use Rattle.pb_strips_text_laws.specs.Limits.{branch_count, IsSmall, AreSmall, AreSmallBranches}
use Rattle.pb_strips_text_laws.proofs.Sound.{IsIn, Allows, IsShort, AllSound, sound_left, sound_right, named_word}
use Rattle.pb_strips_text_laws.proofs.Spoken.{IsPlainEnd, IsAnyEnd, IsEndBeside, IsItem, AreItems, IsSpoken, AreSpoken, AreSpokenBranches}

all_both : (form : Form PlainStatement) (xs ys : List PlainStatement) → AllSaid form xs → AllSaid form ys → AllSaid form (xs ++ ys)
all_both form [] ys a b = b
all_both form (x ∷ xs) ys a b = (a.0, all_both form xs ys a.1 b)

each_said : (form : Form PlainStatement) (cs : List ℕ) (body : Option ℕ → List PlainStatement) → ((c : ℕ) → IsIn c cs → AllSaid form (body (Some c))) → AllSaid form (for_each cs body)
each_said form [] body said = tt
each_said form (c ∷ cs) body said = all_both form (body (Some c)) (for_each cs body) (said c (inl refl)) (each_said form cs body (λ d is. said d (inr is)))

-- ---- parts of statements

semicolon : {form : Form PlainStatement} {s : PlainStatement} → Said form s → Said (and_semicolon form) s
semicolon said = said_then _ said (said_then _ (said_mark marks.Semicolon nowhere) (said_done _))

plain_said : (e : StripEnd) (v : Option ℕ) → IsPlainEnd e → IsShort e.role e.col v → Said plain_end (flat_end v e)
plain_said e v is short = said_then _ (said_name (named_column e.role e.col v) (named_word e.role e.col v is.0 short)) (said_then _ is.1 (said_done _))

any_said : (e : StripEnd) (v : Option ℕ) → IsAnyEnd e → IsShort e.role e.col v → Said any_end (flat_end v e)
any_said e v is short = said_then _ (said_name (named_column e.role e.col v) (named_word e.role e.col v is.0 short)) (said_then _ is.1 (said_done _))

beside_said : (i : IndexText) (e : StripEnd) (v : Option ℕ) → IsEndBeside i e → IsShort e.role e.col v → Said (end_beside i) (flat_end v e)
beside_said (index.Bind var over) e v is short = plain_said e v is short
beside_said index.Zero e v is short = any_said e v is short
beside_said (index.At at) e v is short = any_said e v is short

-- ---- items

mutual
  item_said : (s : Strip) (around : Option Around) (v : Option ℕ) → Allows around v → AllSound (sites_at around s) → IsItem s → AllSaid item (flat_at s v)
  item_said (message label carries from to) around v is sound said = (
    said_left _ (semicolon (said_then _ (said_name label said.0) (said_then _ said.1.0 (said_then _ (said_key keys.From nowhere) (said_then _ (plain_said from v said.1.1.0 (sound.0 v is))
        (said_then _ (said_key keys.To nowhere) (said_then _ (plain_said to v said.1.1.1 (sound.1.0 v is)) (said_done _)))))))),
    tt,
  )
  item_said (foreach place var over at items) around v is sound said = absurd said
  item_said (loop place name at body) around v is sound said = absurd said
  item_said (again place name) around v is sound said = absurd said
  item_said (choice place kernel who branches) around v is sound said = absurd said
  item_said (compute place kernel who) around v is sound said =
      (said_right _ (semicolon (said_then _ (said_key keys.Compute place) (said_then _ (said_name kernel said.0) (said_then _ (said_key keys.At nowhere) (said_then _ (plain_said who v said.1 (sound.0 v is)) (said_done _)))))), tt)
  item_said (barrier place) around v is sound said = absurd said
  item_said (broadcast place label carries from) around v is sound said = absurd said
  item_said (reduce place label carries by to) around v is sound said = absurd said
  item_said (allreduce place label carries by) around v is sound said = absurd said
  item_said (columns place var low high at body) around v is sound said =
      each_said item (numbers low high) (λ c. flat_in body c) (λ c in_it. items_said body (around_by var low high) (Some c) in_it sound said)

  items_said : (ss : Strips) (around : Option Around) (v : Option ℕ) → Allows around v → AllSound (sites_in around ss) → AreItems ss → AllSaid item (flat_in ss v)
  items_said nothing around v is sound said = tt
  items_said (more s rest) around v is sound said =
      all_both item (flat_at s v) (flat_in rest v) (item_said s around v is (sound_left (sites_at around s) (sites_in around rest) sound) said.0)
      (items_said rest around v is (sound_right (sites_at around s) (sites_in around rest) sound) said.1)

-- ---- statements

abbrev blocks : StripBranches → Option ℕ → List PlainBlock
blocks no_branch v = []
blocks (branch at first rest) v = record { place = at; list = statements_of (flat_in first v) } ∷ blocks rest v

among_is : (bs : StripBranches) (v : Option ℕ) → tree.branches_of (blocks bs v) ≡ flat_among bs v
among_is no_branch v = refl
among_is (branch at first rest) v = ap (λ (x : tree.PlainBranches). tree.branch at (statements_of (flat_in first v)) x) (among_is rest v)

blocks_count : (bs : StripBranches) (v : Option ℕ) → length (blocks bs v) ≡ branch_count bs
blocks_count no_branch v = refl
blocks_count (branch at first rest) v = ap suc (blocks_count rest v)

collective_said : {s : PlainStatement} (l : ℕ) → Said collective s → Said (within l) s
collective_said l said = said_right _ (said_right _ (said_right _ (said_right _ (said_right _ (said_right _ (semicolon said))))))

mutual
  one_said : (s : Strip) (l : ℕ) (around : Option Around) (v : Option ℕ) → Allows around v → AllSound (sites_at around s) → IsSpoken s → IsSmall l s → AllSaid (within l) (flat_at s v)
  one_said (message label carries from to) l around v is sound said small = (
    said_left _ (semicolon (said_then _ (said_name label said.0) (said_then _ said.1.0 (said_then _ (said_key keys.From nowhere) (said_then _ (any_said from v said.1.1.0 (sound.0 v is))
        (said_then _ (said_key keys.To nowhere) (said_then _ (beside_said from.index to v said.1.1.1 (sound.1.0 v is)) (said_done _)))))))),
    tt,
  )
  one_said (foreach place var over at items) l around v is sound said small =
      (foreach_said l place var over at (flat_in items v) said.0 said.1.0 (items_said items around v is sound said.1.1), tt)
  one_said (loop place name at body) l around v is sound said small =
      (loop_said l place name at (flat_in body v) small.0 said.0 (all_said body (l - 1) around v is sound said.1 small.1), tt)
  one_said (again place name) l around v is sound said small =
      (said_right _ (said_right _ (said_right _ (said_left _ (semicolon (said_then _ (said_key keys.Continue place) (said_then _ (said_name name said) (said_done _))))))), tt)
  one_said (choice place kernel who branches) l around v is sound said small =
      let bs = blocks branches v in
      let two : 2 ≤ length bs = omega (arith, said.1.1.0, blocks_count branches v) in
      let whole = choice_said l place kernel (flat_end v who) bs small.0 said.0 (plain_said who v said.1.0 (sound.0 v is)) two (branches_said branches (l - 1) around v is sound.1 said.1.1.1 small.1.1.1) in
      (subst (λ (x : tree.PlainBranches). Said (within l) (tree.choice place kernel (flat_end v who) x)) (among_is branches v) whole, tt)
  one_said (compute place kernel who) l around v is sound said small = (
    said_right _ (said_right _ (said_right _ (said_right _ (said_right _ (said_left _
        (semicolon (said_then _ (said_key keys.Compute place) (said_then _ (said_name kernel said.0) (said_then _ (said_key keys.At nowhere) (said_then _ (plain_said who v said.1 (sound.0 v is)) (said_done _))))))))))),
    tt,
  )
  one_said (barrier place) l around v is sound said small = (collective_said l (said_left _ (said_then _ (said_key keys.Barrier place) (said_done _))), tt)
  one_said (broadcast place label carries from) l around v is sound said small = (
    collective_said l (said_right _ (said_left _ (said_then _ (said_key keys.Broadcast place) (said_then _ (said_name label said.0) (said_then _ said.1.0 (said_then _ (said_key keys.From nowhere)
        (said_then _ (plain_said from v said.1.1 (sound.0 v is)) (said_done _)))))))),
    tt,
  )
  one_said (reduce place label carries by to) l around v is sound said small = (
    collective_said l (said_right _ (said_right _ (said_left _ (said_then _ (said_key keys.Reduce place) (said_then _ (said_name label said.0) (said_then _ said.1.0 (said_then _ (said_key keys.With nowhere) (said_then _ said.1.1.0
        (said_then _ (said_key keys.To nowhere) (said_then _ (plain_said to v said.1.1.1 (sound.0 v is)) (said_done _))))))))))),
    tt,
  )
  one_said (allreduce place label carries by) l around v is sound said small = (
    collective_said l (said_right _ (said_right _ (said_right _ (said_then _ (said_key keys.Allreduce place) (said_then _ (said_name label said.0) (said_then _ said.1.0 (said_then _ (said_key keys.With nowhere)
        (said_then _ said.1.1 (said_done _))))))))),
    tt,
  )
  one_said (columns place var low high at body) l around v is sound said small =
      each_said (within l) (numbers low high) (λ c. flat_in body c) (λ c in_it. all_said body l (around_by var low high) (Some c) in_it sound said small)

  pub all_said : (ss : Strips) (l : ℕ) (around : Option Around) (v : Option ℕ) → Allows around v → AllSound (sites_in around ss) → AreSpoken ss → AreSmall l ss → AllSaid (within l) (flat_in ss v)
  all_said nothing l around v is sound said small = tt
  all_said (more s rest) l around v is sound said small =
      all_both (within l) (flat_at s v) (flat_in rest v) (one_said s l around v is (sound_left (sites_at around s) (sites_in around rest) sound) said.0 small.0)
      (all_said rest l around v is (sound_right (sites_at around s) (sites_in around rest) sound) said.1 small.1)

  branches_said : (bs : StripBranches) (l : ℕ) (around : Option Around) (v : Option ℕ) → Allows around v → AllSound (sites_among around bs) → AreSpokenBranches bs → AreSmallBranches l bs → AllSaid (block (suc l)) (blocks bs v)
  branches_said no_branch l around v is sound said small = tt
  branches_said (branch at first rest) l around v is sound said small = (
    block_said l at (flat_in first v) (all_said first l around v is (sound_left (sites_in around first) (sites_among around rest) sound) said.0 small.0),
    branches_said rest l around v is (sound_right (sites_in around first) (sites_among around rest) sound) said.1 small.1,
  )

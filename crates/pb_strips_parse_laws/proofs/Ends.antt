-- What strips, their ends and the statements without braces leave of what is counted, and that their numbers are small.
use Rattle.std.proofs.Common.{ℕ, ◌-◌, Option, Some, None, refl}
use Rattle.pb_text.specs.declared.token.Mark.TheVariants as marks
use Rattle.pb_text.specs.declared.token.Key.TheVariants as keys
use Rattle.pb_syntax.specs.declared.tree.IndexText.{IndexText}
use Rattle.pb_syntax.specs.declared.tree.IndexText.TheVariants as index
use Rattle.pb_syntax.specs.Form.{Form}
use Rattle.pb_do_parse.specs.declared.limits.Counts.{Counts}
use Rattle.pb_do_parse.specs.declared.limits.Behind.TheVariants as behind
use Rattle.pb_do_parse_laws.proofs.Runs.{Runs, Leaves, done_runs, mark_runs, key_runs, name_runs, number_runs, ◌>>=◌, ◌or_runs◌}
use Rattle.pb_do_parse_laws.proofs.Small.{IsBody, at, lin_runs, payload_runs, op_runs, plain_index_runs, any_index_runs, started}
use Rattle.pb_strips_syntax.specs.declared.tree.Col.{Col}
use Rattle.pb_strips_syntax.specs.Strips.{Strip}
use Rattle.pb_strips_grammar.specs.Grammar.{width, width_behind, column, column_behind, plain_end, any_end, end_beside, message_text, item_message, compute_text, continue_text, collective}
use Rattle.pb_strips_text_laws.specs.Limits.{IsSmallEnd, IsSmall}

-- ---- strips and columns

width_runs : (c : Counts) → Runs (at behind.Other c) width (Leaves (at behind.Other c) (λ (o : Option (ℕ × ℕ)). Unit {0}))
width_runs c =
    (mark_runs marks.LeftBracket >>= λ p u. number_runs >>= λ l e. mark_runs marks.Dots >>= λ q v. number_runs >>= λ h f. mark_runs marks.RightBracket >>= λ r w. done_runs _ (refl, tt))
    or_runs done_runs _ (refl, tt)

pub width_behind_runs : {A : Type 0} (c : Counts) (o : Option A) → Runs (at behind.Other c) (width_behind o) (Leaves (at behind.Other c) (λ (w : Option (ℕ × ℕ)). Unit {0}))
width_behind_runs c None = done_runs _ (refl, tt)
width_behind_runs c (Some rows) = width_runs c

module _ (c : Counts) (body : IsBody c.part) where
  column_runs : Runs (at behind.Other c) column (Leaves (at behind.Other c) (λ (o : Option Col). Unit {0}))
  column_runs = (mark_runs marks.LeftBracket >>= λ p u. lin_runs c body >>= λ l e. mark_runs marks.RightBracket >>= λ q v. done_runs _ (refl, tt)) or_runs done_runs _ (refl, tt)

  column_behind_runs : (i : IndexText) → Runs (at behind.Other c) (column_behind i) (Leaves (at behind.Other c) (λ (o : Option Col). Unit {0}))
  column_behind_runs index.Zero = done_runs _ (refl, tt)
  column_behind_runs (index.At l) = column_runs
  column_behind_runs (index.Bind x over) = column_runs

  pub plain_end_runs : Runs (at behind.Other c) plain_end (Leaves (at behind.Other c) IsSmallEnd)
  plain_end_runs = name_runs >>= λ s u. plain_index_runs c body >>= λ i e. column_behind_runs i >>= λ o v. done_runs _ (refl, e)

  any_end_runs : Runs (at behind.Other c) any_end (Leaves (at behind.Other c) IsSmallEnd)
  any_end_runs = name_runs >>= λ s u. any_index_runs c body >>= λ i e. column_behind_runs i >>= λ o v. done_runs _ (refl, e)

  end_beside_runs : (i : IndexText) → Runs (at behind.Other c) (end_beside i) (Leaves (at behind.Other c) IsSmallEnd)
  end_beside_runs (index.Bind x over) = plain_end_runs
  end_beside_runs index.Zero = any_end_runs
  end_beside_runs (index.At l) = any_end_runs

-- ---- statements without braces

abbrev pub Leaf : Counts → Form Strip → Type 0
Leaf c form = Runs (at behind.Boundary c) form (Leaves (at behind.Other (started c)) (IsSmall (64 - c.depth)))

module _ (c : Counts) (body : IsBody c.part) where
  pub message_runs : Leaf c message_text
  message_runs =
      name_runs >>= λ l u. payload_runs (started c) body >>= λ p e. key_runs keys.From >>= λ k v. any_end_runs (started c) body >>= λ f g. key_runs keys.To >>= λ m w.
      end_beside_runs (started c) body f.index >>= λ t h. done_runs _ (refl, (e, (g, h)))

  pub item_message_runs : Leaf c item_message
  item_message_runs =
      name_runs >>= λ l u. payload_runs (started c) body >>= λ p e. key_runs keys.From >>= λ k v. plain_end_runs (started c) body >>= λ f g. key_runs keys.To >>= λ m w.
      plain_end_runs (started c) body >>= λ t h. done_runs _ (refl, (e, (g, h)))

  pub compute_runs : Leaf c compute_text
  compute_runs = key_runs keys.Compute >>= λ p u. name_runs >>= λ k v. key_runs keys.At >>= λ q w. plain_end_runs (started c) body >>= λ e f. done_runs _ (refl, f)

  pub continue_runs : Leaf c continue_text
  continue_runs = key_runs keys.Continue >>= λ p u. name_runs >>= λ s v. done_runs _ (refl, tt)

  pub collective_runs : Leaf c collective
  collective_runs =
      (key_runs keys.Barrier >>= λ p u. done_runs _ (refl, tt))
      or_runs (key_runs keys.Broadcast >>= λ q u. name_runs >>= λ l v. payload_runs (started c) body >>= λ p e. key_runs keys.From >>= λ k w. plain_end_runs (started c) body >>= λ f g. done_runs _ (refl, (e, g)))
      or_runs (key_runs keys.Reduce >>= λ q u. name_runs >>= λ l v. payload_runs (started c) body >>= λ p e. key_runs keys.With >>= λ k w. op_runs (started c) body >>= λ o x. key_runs keys.To >>= λ m y.
      plain_end_runs (started c) body >>= λ t g. done_runs _ (refl, (e, g)))
      or_runs (key_runs keys.Allreduce >>= λ q u. name_runs >>= λ l v. payload_runs (started c) body >>= λ p e. key_runs keys.With >>= λ k w. op_runs (started c) body >>= λ o x. done_runs _ (refl, e))

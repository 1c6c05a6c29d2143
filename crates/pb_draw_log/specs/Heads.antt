-- What a line says in front of its words: a rank, what it does, and a name.
use Rattle.std.specs.Prelude.{ℕ, List, Option, Some, None, codes}
use Rattle.pb_text_read.specs.Fronts.{◌>>=◌, strip, after}
use Rattle.pb_draw_log.specs.Parts.{number_at, name_at}
use Rattle.pb_draw_log.specs.declared.entry.Deed.{Deed}
use Rattle.pb_draw_log.specs.declared.entry.Deed.TheVariants.{Choose, Run, Send, Recv, Enter, Leave}
use Rattle.pb_draw_log.specs.declared.entry.Head.{Head}

abbrev pub named_at : ℕ → Deed → List ℕ → Option (Head × List ℕ)
named_at rank deed text = name_at text >>= λ n. Some (record { rank = rank; deed = deed; name = n.0 }, n.1)

-- `TO LABEL`
abbrev pub sent_at : ℕ → List ℕ → Option (Head × List ℕ)
sent_at rank text = number_at text >>= λ to. strip (codes " ") to.1 >>= λ rest. named_at rank (Send to.0) rest

-- `FROM LABEL`
abbrev pub taken_at : ℕ → List ℕ → Option (Head × List ℕ)
taken_at rank text = number_at text >>= λ from. strip (codes " ") from.1 >>= λ rest. named_at rank (Recv from.0) rest

-- `KERNEL BRANCH`
abbrev pub chosen_at : ℕ → List ℕ → Option (Head × List ℕ)
chosen_at rank text = name_at text >>= λ n. strip (codes " ") n.1 >>= λ rest. number_at rest >>= λ b.
    Some (record { rank = rank; deed = Choose b.0; name = n.0 }, b.1)

-- what a rank does
abbrev pub deed_at : ℕ → List ℕ → Option (Head × List ℕ)
deed_at rank text =
    after (strip (codes " run ") text) (named_at rank Run)
    (after (strip (codes " send ") text) (sent_at rank)
    (after (strip (codes " recv ") text) (taken_at rank)
    (after (strip (codes " enter ") text) (named_at rank Enter)
    (after (strip (codes " leave ") text) (named_at rank Leave)
    (after (strip (codes " choose ") text) (chosen_at rank) None)))))

abbrev pub head_at : List ℕ → Option (Head × List ℕ)
head_at text = number_at text >>= λ rank. deed_at rank.0 rank.1

-- What a record holds, once an event more is kept, and once it is written.
use Rattle.std.proofs.Common.{◌≡◌, ℕ, List, [], ◌∷◌, ◌++◌, Option, Some, None, map, refl, sym, ap, ap₂, subst, ◌∙◌, append_assoc, append-nil, Vec, Global}
use Rattle.std.specs.List.{flat_map}
use Rattle.std.proofs.lemmas.List.{map-append}
use Rattle.std.proofs.lemmas.List.Concat.{flat_map-append}
use Rattle.std.specs.Io.KnownBytes.{Appends}
use Rattle.pb_io.specs.Sinks.{AppendsFront}
use Rattle.pb_cli_status.proofs.Fronts.{appends_both, front_both}
use Rattle.pb_world.specs.Actions.{Action}
use Rattle.pb_local.specs.Tree.{Program, program_of}
use Rattle.pb_ctree.specs.declared.tree.CTree.{CTree}
use Rattle.pb_sched.specs.Formats.{layout}
use Rattle.pb_sched.specs.declared.format.Format.TheVariants.{Two}
use Rattle.pb_sched.specs.declared.schedule.Turn as D
use Rattle.pb_sim.specs.Scheduled.{Turn}
use Rattle.pb_sim_play.specs.Plans.{pair_of}
use Rattle.pb_sim_play.specs.Plays.{log_of, line_of}
use Rattle.pb_sim_play.specs.Endings.{turn_of, schedule_of, part_of, text_of}
use Rattle.pb_sim_play.specs.declared.log.Log.{Log}
use Rattle.pb_sim_play.specs.declared.record.Record.{Record}
use Rattle.pb_sim_play.specs.declared.record.Record.TheVariants.{Lines, Turns}
use Rattle.pb_sim_play.specs.Records.{shown_by, IsLog, Holds}
use Rattle.pb_sim_play.proofs.Logs.{failed}

pub log_more : (p : Program) (w v : List (ℕ × Action)) (more : List ℕ) → more ≡ log_of p v → log_of p w ++ more ≡ log_of p (w ++ v)
log_more p w v more e = ap (λ (l : List ℕ). log_of p w ++ l) e ∙ sym (flat_map-append (line_of p) w v)

pub log_kept : (p : Program) (w v : List (ℕ × Action)) (more : List ℕ) (start now : Option (List ℕ)) (lines : List ℕ) → more ≡ log_of p v → IsLog start lines now (log_of p w ++ more) → IsLog start lines now (log_of p (w ++ v))
log_kept p w v more start now lines e held = subst (λ (t : List ℕ). IsLog start lines now t) (log_more p w v more e) held

pub log_failed : (p : Program) (w v : List (ℕ × Action)) (more : List ℕ) (start now : Option (List ℕ)) → more ≡ log_of p v → AppendsFront start now (log_of p w ++ more) → AppendsFront start now (log_of p (w ++ v))
log_failed p w v more start now e front = subst (λ (t : List ℕ). AppendsFront start now t) (log_more p w v more e) front

pub turns_more : (made all : List D.Turn) (turn : D.Turn) (turns : List Turn) → all ≡ made ++ turn ∷ [] → map pair_of made ≡ turns → map pair_of all ≡ turns ++ pair_of turn ∷ []
turns_more made all turn turns e is = ap (map pair_of) e ∙ (map-append pair_of made (turn ∷ []) ∙ ap (λ l. l ++ pair_of turn ∷ []) is)

pub nothing : (start : Option (List ℕ)) → Appends start start []
nothing None = tt
nothing (Some bytes) = sym (append-nil bytes)

pub no_lines : (start : Option (List ℕ)) (lines : List ℕ) → lines ≡ [] → IsLog start lines start []
no_lines start lines e = ([], nothing start, e)

again : (made : List D.Turn) → map turn_of (map pair_of made) ≡ made
again [] = refl
again (t ∷ ts) = ap (λ l. t ∷ l) (again ts)

pub as_made : (seed : ℕ) (made : List D.Turn) (turns : List Turn) → map pair_of made ≡ turns → layout Two seed made ≡ schedule_of seed turns
as_made seed made turns is = ap (layout Two seed) (sym (again made) ∙ ap (map turn_of) is)

pub schedule_out : (start now later : Option (List ℕ)) (seed : ℕ) (made : List D.Turn) (turns : List Turn) → Appends now later (layout Two seed made) → Appends start now [] → map pair_of made ≡ turns
    → Appends start later (schedule_of seed turns)
schedule_out start now later seed made turns went none is = subst (λ (t : List ℕ). Appends start later t) (as_made seed made turns is) (appends_both start now later [] (layout Two seed made) none went)

pub schedule_failed : (start now later : Option (List ℕ)) (seed : ℕ) (made : List D.Turn) (turns : List Turn) → AppendsFront now later (layout Two seed made) → Appends start now [] → map pair_of made ≡ turns
    → AppendsFront start later (schedule_of seed turns)
schedule_failed start now later seed made turns front none is = subst (λ (t : List ℕ). AppendsFront start later t) (as_made seed made turns is) (front_both start now later [] (layout Two seed made) none front)

-- ---- by the form of the record

pub lines_added : (kept : Record) (log : Log) (start now later : Option (List ℕ)) (p : Program) (turns : List Turn) (w v : List (ℕ × Action)) (more lines : List ℕ) → kept ≡ Lines log → more ≡ log_of p v
    → ((start : Option (List ℕ)) (text : List ℕ) → IsLog start log.lines.items now text → IsLog start lines later (text ++ more)) → Holds start kept now p turns w → IsLog start lines later (log_of p (w ++ v))
lines_added kept log start now later p turns w v more lines is e added held =
    log_kept p w v more start later lines e (added start (log_of p w) (subst (λ k. Holds start k now p turns w) is held))

pub lines_front : (kept : Record) (log : Log) (start now later : Option (List ℕ)) (seed : ℕ) (tree : CTree) (turns : List Turn) (w : List (ℕ × Action)) → kept ≡ Lines log → AppendsFront now later log.lines.items
    → Holds start kept now (program_of tree.local) turns w → AppendsFront start later (text_of (shown_by kept) seed tree turns w)
lines_front kept log start now later seed tree turns w is front held =
    subst (λ k. AppendsFront start later (text_of (shown_by k) seed tree turns w)) (sym is)
    (failed start now later log.lines.items (log_of (program_of tree.local) w) front (subst (λ k. Holds start k now (program_of tree.local) turns w) is held))

pub turns_out : (kept : Record) (made : Vec D.Turn Global) (start now later : Option (List ℕ)) (seed : ℕ) (tree : CTree) (turns : List Turn) (w : List (ℕ × Action)) → kept ≡ Turns made → Appends now later (layout Two seed made.items)
    → Holds start kept now (program_of tree.local) turns w → Appends start later (text_of (shown_by kept) seed tree turns w)
turns_out kept made start now later seed tree turns w is went held =
    let parts = subst (λ k. Holds start k now (program_of tree.local) turns w) is held in
    subst (λ k. Appends start later (text_of (shown_by k) seed tree turns w)) (sym is) (schedule_out start now later seed made.items turns went parts.0 parts.1)

pub turns_front : (kept : Record) (made : Vec D.Turn Global) (start now later : Option (List ℕ)) (seed : ℕ) (tree : CTree) (turns : List Turn) (w : List (ℕ × Action)) → kept ≡ Turns made → AppendsFront now later (layout Two seed made.items)
    → Holds start kept now (program_of tree.local) turns w → AppendsFront start later (text_of (shown_by kept) seed tree turns w)
turns_front kept made start now later seed tree turns w is front held =
    let parts = subst (λ k. Holds start k now (program_of tree.local) turns w) is held in
    subst (λ k. AppendsFront start later (text_of (shown_by k) seed tree turns w)) (sym is) (schedule_failed start now later seed made.items turns front parts.0 parts.1)

pub lines_broken : (kept : Record) (log : Log) (start now later : Option (List ℕ)) (tree : CTree) (turns : List Turn) (w v : List (ℕ × Action)) (more : List ℕ) → kept ≡ Lines log → more ≡ log_of (program_of tree.local) v
    → ((start : Option (List ℕ)) (text : List ℕ) → IsLog start log.lines.items now text → AppendsFront start later (text ++ more)) → Holds start kept now (program_of tree.local) turns w
    → AppendsFront start later (part_of (shown_by kept) tree (w ++ v))
lines_broken kept log start now later tree turns w v more is e broken held =
    subst (λ k. AppendsFront start later (part_of (shown_by k) tree (w ++ v))) (sym is)
    (log_failed (program_of tree.local) w v more start later e (broken start (log_of (program_of tree.local) w) (subst (λ k. Holds start k now (program_of tree.local) turns w) is held)))

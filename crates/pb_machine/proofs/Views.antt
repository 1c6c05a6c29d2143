-- What the program tells by moves is what the definition's counting machine tells.
use Rattle.std.proofs.Common.{◌≡◌, ◌<◌, ◌≤◌, ℕ, zero, suc, ℤ, Bool, true, false, ◌&&◌, cond, nat_lt, nat_le, if◌then◌else◌, Option, Some, None, refl, ap, sym, ◌∙◌, ◌⊎◌, inl, inr, arith}
use Rattle.std.specs.Prelude.{IsSome, unwrap_or}
use Rattle.std.proofs.lemmas.Bool.{cases_lt, and_from}
use Rattle.std.proofs.lemmas.Bool.Decides.{nat_tests}
use Rattle.pb_world.specs.Actions.{Action, Kind, kind_of, branch_in}
use Rattle.pb_world.specs.Machine as W
use Rattle.pb_world.specs.Counted.{Counted, is_quiet, one_more}
use Rattle.pb_local.specs.Tree.{Program, program_of}
use Rattle.pb_local.specs.Machine as M
use Rattle.pb_local.specs.Family.{most_silent}
use Rattle.pb_ctree.specs.declared.tree.CTree.{CTree}
use Rattle.pb_machine.specs.declared.act.Next.TheVariants as N
use Rattle.pb_machine.specs.declared.act.Input.{Input}
use Rattle.pb_machine.specs.declared.act.Input.TheVariants.{Plain, Tag, Answer}
use Rattle.pb_machine.specs.declared.phase.Phase.{Phase}
use Rattle.pb_machine.specs.declared.phase.Phase.TheVariants.{Going, Joined, Misled}
use Rattle.pb_machine.specs.declared.rank.Rank.{Rank}
use Rattle.pb_machine.specs.Acts.{act_of}
use Rattle.pb_machine.specs.Steps.{Shown, going, state_of, shown_in, shown, param_of, IsPlaced, next_of, next_shown, is_there, is_waiting, takes_shown, is_plain, is_tag, goes_with, goes_with_act, is_answer, answered, labelled, answer_in, read_or, IsStep, IsStepOf, unless_lost, next_by, takes_by, counted_as, read_as, if_so, after, move_shown}

-- what comes next after so many silent steps
abbrev counted_next : ℕ → ℕ → M.Move → W.Next
counted_next limit count m = cond (is_quiet (M.next_in m) && nat_le limit count) W.Lost (M.next_in m)

-- whether a silent step is left
pub data Left (limit count : ℕ) : Type 0 where
  some : nat_lt count limit ≡ true → nat_le limit count ≡ false → Left limit count
  none : nat_lt count limit ≡ false → nat_le limit count ≡ true → Left limit count

left : (limit count : ℕ) → Left limit count
left limit count = by_order (cases_lt count limit) where
  by_order : (count < limit) ⊎ (limit ≤ count) → Left limit count
  by_order (inl h) = some (grind (arith, nat_tests)) (grind (arith, nat_tests))
  by_order (inr h) = none (grind (arith, nat_tests)) (grind (arith, nat_tests))

unless_is : (limit count : ℕ) (x : W.Next) → unless_lost limit count (next_of x) ≡ next_of (cond (nat_le limit count) W.Lost x)
unless_is limit count x = by_left (left limit count) where
  by_left : Left limit count → unless_lost limit count (next_of x) ≡ next_of (cond (nat_le limit count) W.Lost x)
  by_left (some e f) = rw (e, f) refl
  by_left (none e f) = rw (e, f) refl

next_is : (limit count : ℕ) (m : M.Move) → next_by limit count m ≡ next_of (counted_next limit count m)
next_is limit count M.ends = refl
next_is limit count M.undefined = refl
next_is limit count (M.silent x) = unless_is limit count W.Silent
next_is limit count (M.does kind x) = refl
next_is limit count (M.chooses kernel branches f) = refl
next_is limit count (M.probes source f) = unless_is limit count (W.Probe source)

next_same : (p : Program) (n : ℤ) (limit : ℕ) (phase : Phase) (x : Counted M.Rank) → limit ≡ most_silent p →
    next_by limit x.count (move_shown p n (shown_in phase x)) ≡ next_shown p n (shown_in phase x)
next_same p n limit Going x h = next_is limit x.count (M.move p n x.state) ∙ ap (λ l. next_of (counted_next l x.count (M.move p n x.state))) h
next_same p n limit (Joined call) x h = next_is limit x.count (M.move p n x.state) ∙ ap (λ l. next_of (counted_next l x.count (M.move p n x.state))) h
next_same p n limit Misled x h = refl

pub next_seen : (tree : CTree) (r : Rank) → IsPlaced tree r →
    next_by r.limit r.silent (move_shown (program_of tree.local) (param_of r) (shown tree r)) ≡ next_shown (program_of tree.local) (param_of r) (shown tree r)
next_seen tree r h = next_same (program_of tree.local) (param_of r) r.limit r.phase (state_of tree r) h.limit

-- ---- labels

there_more : (count : ℕ) (o : Option M.Rank) → is_there o ≡ is_there (one_more count o)
there_more count None = refl
there_more count (Some x) = refl

takes_is : (limit count : ℕ) (m : M.Move) (label : ℕ) → takes_by limit count m label ≡ (is_waiting (counted_next limit count m) && is_there (one_more count (M.read_in m label)))
takes_is limit count M.ends label = refl
takes_is limit count M.undefined label = refl
takes_is limit count (M.silent x) label = by_left (left limit count) where
  by_left : Left limit count → false ≡ (is_waiting (cond (nat_le limit count) W.Lost W.Silent) && false)
  by_left (some e f) = rw f refl
  by_left (none e f) = rw f refl
takes_is limit count (M.does kind x) label = refl
takes_is limit count (M.chooses kernel branches f) label = refl
takes_is limit count (M.probes source f) label = by_left (left limit count) where
  by_left : Left limit count → (nat_lt count limit && is_there (f label)) ≡ (is_waiting (cond (nat_le limit count) W.Lost (W.Probe source)) && is_there (one_more count (f label)))
  by_left (some e g) = rw (e, g) (there_more count (f label))
  by_left (none e g) = rw (e, g) refl

takes_same : (p : Program) (n : ℤ) (limit label : ℕ) (phase : Phase) (x : Counted M.Rank) → limit ≡ most_silent p →
    takes_by limit x.count (move_shown p n (shown_in phase x)) label ≡ takes_shown p n (shown_in phase x) label
takes_same p n limit label Going x h =
    takes_is limit x.count (M.move p n x.state) label ∙ ap (λ l. is_waiting (counted_next l x.count (M.move p n x.state)) && is_there (one_more x.count (M.read_in (M.move p n x.state) label))) h
takes_same p n limit label (Joined call) x h =
    takes_is limit x.count (M.move p n x.state) label ∙ ap (λ l. is_waiting (counted_next l x.count (M.move p n x.state)) && is_there (one_more x.count (M.read_in (M.move p n x.state) label))) h
takes_same p n limit label Misled x h = refl

pub takes_seen : (tree : CTree) (r : Rank) (label : ℕ) → IsPlaced tree r →
    takes_by r.limit r.silent (move_shown (program_of tree.local) (param_of r) (shown tree r)) label ≡ takes_shown (program_of tree.local) (param_of r) (shown tree r) label
takes_seen tree r label h = takes_same (program_of tree.local) (param_of r) r.limit label r.phase (state_of tree r) h.limit

-- ---- the input goes with the step

pub never : {P : Type 0} → false ≡ true → P
never {P} e = absurd (clash e) where
  clash : false ≡ true → ⊥
  clash z = cc

is_some : (b : Bool) (x : Shown) → b ≡ true → IsSome (if_so b x)
is_some true x h = refl
is_some false x h = never h

answers : (branches : ℕ) (f : ℕ → M.Rank) (input : Input) → is_answer branches input ≡ true → IsSome (answered branches f input)
answers branches f Plain h = never h
answers branches f (Tag label) h = never h
answers branches f (Answer x) h = is_some (nat_lt x branches) (counted_as 0 (f x)) h

labels : (f : ℕ → Option M.Rank) (limit count : ℕ) (input : Input) → nat_lt count limit ≡ true → is_tag input ≡ true → IsSome (labelled limit count f input)
labels f limit count Plain less h = never h
labels f limit count (Answer x) less h = never h
labels f limit count (Tag label) less h = is_some (nat_lt count limit) (read_as (suc count) (f label)) less

goes_is : (limit count : ℕ) (input : Input) (m : M.Move) → goes_with (next_by limit count m) input ≡ true → IsSome (after limit count input m)
goes_is limit count input M.ends h = never h
goes_is limit count input M.undefined h = never h
goes_is limit count input (M.silent x) h = by_left (left limit count) where
  by_left : Left limit count → IsSome (if_so (is_plain input && nat_lt count limit) (counted_as (suc count) x))
  by_left (some e f) = is_some _ _ (and_from (is_plain input) (nat_lt count limit) (sym (ap (λ b. goes_with (if b then N.Silent else N.Lost) input) e) ∙ h) e)
  by_left (none e f) = never (sym (ap (λ b. goes_with (if b then N.Silent else N.Lost) input) e) ∙ h)
goes_is limit count input (M.does kind x) h = is_some (goes_with_act (act_of kind) input) (counted_as 0 x) h
goes_is limit count input (M.chooses kernel branches f) h = answers branches f input h
goes_is limit count input (M.probes source f) h = by_left (left limit count) where
  by_left : Left limit count → IsSome (labelled limit count f input)
  by_left (some e g) = labels f limit count input e (sym (ap (λ b. goes_with (if b then N.Waits source else N.Lost) input) e) ∙ h)
  by_left (none e g) = never (sym (ap (λ b. goes_with (if b then N.Waits source else N.Lost) input) e) ∙ h)

pub goes_seen : (tree : CTree) (r : Rank) (input : Input) → IsPlaced tree r → goes_with (next_shown (program_of tree.local) (param_of r) (shown tree r)) input ≡ true →
    IsSome (after r.limit r.silent input (move_shown (program_of tree.local) (param_of r) (shown tree r)))
goes_seen tree r input h g =
    goes_is r.limit r.silent input (move_shown (program_of tree.local) (param_of r) (shown tree r)) (ap (λ z. goes_with z input) (next_seen tree r h) ∙ g)

-- ---- the state behind a step

made : (b : Bool) (x y : Shown) → if_so b x ≡ Some y → y ≡ x
made true x y h = cc
made false x y h = cc

-- a step of each kind
pub record Steps (limit count : ℕ) (s : M.Rank) (m : M.Move) (input : Input) (y : Shown) : Type 0 where
  pub quiet : counted_next limit count m ≡ W.Silent → y ≡ going (record { state = M.quiet_in s m; count = suc count })
  pub act : (a : Action) → counted_next limit count m ≡ W.Does (kind_of a) → branch_in a ≡ answer_in input → y ≡ going (record { state = M.act_in s m a; count = zero })
  pub read : (source label : ℕ) → counted_next limit count m ≡ W.Probe source → input ≡ Tag label → y ≡ read_or (one_more count (M.read_in m label))

read_same : (count : ℕ) (o : Option M.Rank) → read_as (suc count) o ≡ read_or (one_more count o)
read_same count None = refl
read_same count (Some x) = refl

not_act : (b : Bool) (x : W.Next) (k : Kind) → (x ≡ W.Does k → ⊥) → cond b W.Lost x ≡ W.Does k → ⊥
not_act true x k h e = cc
not_act false x k h e = h e

not_probe : (b : Bool) (x : W.Next) (q : ℕ) → (x ≡ W.Probe q → ⊥) → cond b W.Lost x ≡ W.Probe q → ⊥
not_probe true x q h e = cc
not_probe false x q h e = h e

not_silent : (b : Bool) (x : W.Next) → (x ≡ W.Silent → ⊥) → cond b W.Lost x ≡ W.Silent → ⊥
not_silent true x h e = cc
not_silent false x h e = h e

clash_silent_act : (k : Kind) → W.Silent ≡ W.Does k → ⊥
clash_silent_act k e = cc

clash_silent_probe : (q : ℕ) → W.Silent ≡ W.Probe q → ⊥
clash_silent_probe q e = cc

clash_probe_silent : (q : ℕ) → W.Probe q ≡ W.Silent → ⊥
clash_probe_silent q e = cc

clash_probe_act : (q : ℕ) (k : Kind) → W.Probe q ≡ W.Does k → ⊥
clash_probe_act q k e = cc

clash_none : {P : Type 0} (y : Shown) → None ≡ Some y → P
clash_none {P} y e = absurd (clash e) where
  clash : None ≡ Some y → ⊥
  clash z = cc

chose : (branches : ℕ) (f : ℕ → M.Rank) (input : Input) (y : Shown) (a : Action) → answered branches f input ≡ Some y → branch_in a ≡ answer_in input → y ≡ counted_as 0 (f (unwrap_or (branch_in a) 0))
chose branches f Plain y a h e = clash_none y h
chose branches f (Tag label) y a h e = clash_none y h
chose branches f (Answer x) y a h e = made (nat_lt x branches) (counted_as 0 (f x)) y h ∙ ap (λ o. counted_as 0 (f (unwrap_or o 0))) (sym e)

labelled_is : (limit count : ℕ) (f : ℕ → Option M.Rank) (input : Input) (y : Shown) (label : ℕ) → labelled limit count f input ≡ Some y → input ≡ Tag label → y ≡ read_or (one_more count (f label))
labelled_is limit count f input y label h e =
    made (nat_lt count limit) (read_as (suc count) (f label)) y (sym (ap (labelled limit count f) e) ∙ h) ∙ read_same count (f label)

steps : (limit count : ℕ) (s : M.Rank) (input : Input) (y : Shown) (m : M.Move) → after limit count input m ≡ Some y → Steps limit count s m input y
steps limit count s input y M.ends h = clash_none y h
steps limit count s input y M.undefined h = clash_none y h
steps limit count s input y (M.silent x) h = record {
  quiet = λ e. made (is_plain input && nat_lt count limit) (counted_as (suc count) x) y h;
  act = λ a e f. absurd (not_act (nat_le limit count) W.Silent (kind_of a) (clash_silent_act (kind_of a)) e);
  read = λ q l e f. absurd (not_probe (nat_le limit count) W.Silent q (clash_silent_probe q) e);
}
steps limit count s input y (M.does kind x) h = record {
  quiet = λ e. cc;
  act = λ a e f. made (goes_with_act (act_of kind) input) (counted_as 0 x) y h;
  read = λ q l e f. cc;
}
steps limit count s input y (M.chooses kernel branches g) h = record {
  quiet = λ e. cc;
  act = λ a e f. chose branches g input y a h f;
  read = λ q l e f. cc;
}
steps limit count s input y (M.probes source g) h = record {
  quiet = λ e. absurd (not_silent (nat_le limit count) (W.Probe source) (clash_probe_silent source) e);
  act = λ a e f. absurd (not_act (nat_le limit count) (W.Probe source) (kind_of a) (clash_probe_act source (kind_of a)) e);
  read = λ q l e f. labelled_is limit count g input y l h f;
}

step_of : (p : Program) (n : ℤ) (limit : ℕ) (x : Counted M.Rank) (input : Input) (y : Shown) → limit ≡ most_silent p →
    after limit x.count input (M.move p n x.state) ≡ Some y → IsStep p n x input y
step_of p n limit x input y h e =
    let all : Steps (most_silent p) x.count x.state (M.move p n x.state) input y = steps (most_silent p) x.count x.state input y (M.move p n x.state) (ap (λ l. after l x.count input (M.move p n x.state)) (sym h) ∙ e) in
    record { quiet = all.quiet; act = all.act; read = all.read }

step_same : (p : Program) (n : ℤ) (limit : ℕ) (phase : Phase) (x : Counted M.Rank) (input : Input) (y : Shown) → limit ≡ most_silent p →
    after limit x.count input (move_shown p n (shown_in phase x)) ≡ Some y → IsStepOf p n (shown_in phase x) input y
step_same p n limit Going x input y h e = step_of p n limit x input y h e
step_same p n limit (Joined call) x input y h e = step_of p n limit x input y h e
step_same p n limit Misled x input y h e = clash_none y e

pub step_seen : (tree : CTree) (r : Rank) (input : Input) (y : Shown) → IsPlaced tree r →
    after r.limit r.silent input (move_shown (program_of tree.local) (param_of r) (shown tree r)) ≡ Some y →
    IsStepOf (program_of tree.local) (param_of r) (shown tree r) input y
step_seen tree r input y h e = step_same (program_of tree.local) (param_of r) r.limit r.phase (state_of tree r) input y h.limit e

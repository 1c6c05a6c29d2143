-- A branch of a choice, with what the ranks that are told find in it.
use Rattle.std.proofs.Common.{◌≡◌, ℕ, ℤ, pos, Bool, true, false, ◌&&◌, ◌||◌, Option, List, [], ap, ap₂, ◌∙◌, subst}
use Rattle.pb_affine.specs.declared.range.NRange.{NRange}
use Rattle.pb_core_language.specs.declared.protocol.CoreRole.{CoreRole}
use Rattle.pb_core_language.specs.Tree.{Mark, BlockTree}
use Rattle.pb_core_language.specs.Flat.{stop}
use Rattle.pb_core_language.specs.FlatOf.{flat_block}
use Rattle.pb_core_language.specs.Outcomes.{nothing_first, firsts}
use Rattle.pb_core_language.specs.Run.{Env, at_rank}
use Rattle.pb_core_language.specs.Sound.{Rows, is_block}
use Rattle.pb_core_language.specs.Verdict.{IsIn}
use Rattle.pb_part_areas.specs.declared.area.Area.{Area}
use Rattle.pb_part_areas.specs.Areas.{have}
use Rattle.pb_core_flat.specs.Seated.{rank, is_rank}
use Rattle.pb_core_flat.specs.OutcomeSets.{is_outcome}
use Rattle.pb_part_takers.specs.declared.held.Held.{Held}
use Rattle.pb_part_firsts.specs.declared.firsts.Entry.{Entry}
use Rattle.pb_part_firsts.specs.Takers.{IsWhole}
use Rattle.pb_part_takers.specs.Loops.{ids_of}
use Rattle.pb_part_firsts.specs.Firsts.{Gives, first_in, finds, are_small}
use Rattle.pb_choice.specs.declared.found.Found.{Found}
use Rattle.pb_choice.specs.Flaws.{found_in}
use Rattle.pb_choice.specs.Scenes.{Stands, IsFair, Are}
use Rattle.pb_choice.specs.Walks.{FirstOf, FirstWithin, IsHere}
use Rattle.pb_choice.proofs.Seatings.{seated_first}

abbrev GivenIn : (whole : List Area) (held : List Held) (b : BlockTree) (reach left : List Area) (none here : List Entry) → Type 0
GivenIn whole held b reach left none here = (range : NRange) (roles : List CoreRole) (rows : Rows) → IsWhole range roles whole →
    is_block rows false (ids_of held) b ≡ true → Gives range roles reach left none here (first_in roles held b)

abbrev SmallIn : (held : List Held) (b : BlockTree) (none here : List Entry) → Type 0
SmallIn held b none here = (rows : Rows) → is_block rows false (ids_of held) b ≡ true → are_small none ≡ true → are_small here ≡ true

is_here : (range : NRange) (whole : List Area) (held : List Held) (told reach left : List Area) (b : BlockTree) (none here : List Entry)
    (roles : List CoreRole) (rows : Rows) (env : ℤ → Env) (test : ℤ → ℕ → ℤ → Bool) → none ≡ [] →
    ((n : ℤ) (role : ℕ) (x : ℤ) → have reach n role x ≡ have told n role x) → GivenIn whole held b reach left none here → SmallIn held b none here →
    Stands range roles env whole held → IsFair range roles rows (ids_of held) b → Are range roles told test → IsHere range roles test (found_in roles env (ids_of held) b) here left
is_here range whole held told reach left b none here roles rows env test no_none same given small stands fair are =
    let g : Gives range roles reach left none here (first_in roles held b) = given range roles rows stands.whole_is fair.sound in
    let outs : (n : ℤ) (role : ℕ) (x : ℤ) → IsIn range n → is_rank roles n role x ≡ true → first_in roles held b n role x ≡ found_in roles env (ids_of held) b n role x =
    λ n role x w r. ap (λ h. firsts h (rank roles n role x) (flat_block roles n (ids_of held) (pos 0) b stop)) (stands.held_is n role x w r) in
    let told_is : (n : ℤ) (role : ℕ) (x : ℤ) → IsIn range n → is_rank roles n role x ≡ true → have reach n role x ≡ test n role x =
    λ n role x w r. same n role x ∙ are.is n role x w r in
    record {
      small = small rows fair.sound (ap are_small no_none);
      found = λ n role x o w r no. g.out n role x o w r no ∙ ap (λ z. finds roles z n role x o || (have reach n role x && is_outcome o (first_in roles held b n role x))) no_none
          ∙ ap₂ (λ t os. t && is_outcome o os) (told_is n role x w r) (outs n role x w r);
      rest = record { is = λ n role x w r. g.rest n role x w r ∙ ap₂ (λ t os. t && is_outcome nothing_first os) (told_is n role x w r) (outs n role x w r) };
      seated = λ n role x s l w o. seated_first s l roles n (rank roles n role x) (at_rank (rank roles n role x) (env n)) (ids_of held) b (fair.seated n w) o;
    }

pub branch_first : (range : NRange) (whole : List Area) (held : List Held) (told reach left left_seen : List Area) (m : Mark) (b : BlockTree) (none here here_seen : List Entry)
    (entries : List Entry) (mixed : List Area) (now : List Entry) (now_mixed : List Area) (old new : Option Found) → none ≡ [] → here_seen ≡ here → left_seen ≡ left →
    ((n : ℤ) (role : ℕ) (x : ℤ) → have reach n role x ≡ have told n role x) → GivenIn whole held b reach left none here → SmallIn held b none here →
    FirstOf range whole here_seen left_seen m entries mixed now now_mixed old new → FirstWithin range whole held told m b entries mixed now now_mixed old new
branch_first range whole held told reach left left_seen m b none here here_seen entries mixed now now_mixed old new no_none here_is left_is same given small rules =
    let f : FirstOf range whole here left m entries mixed now now_mixed old new =
    subst (λ z. FirstOf range whole z left m entries mixed now now_mixed old new) here_is (subst (λ z. FirstOf range whole here_seen z m entries mixed now now_mixed old new) left_is rules) in
    record {
      is = λ roles rows env test before stands fair are past.
          f.is roles test before (found_in roles env (ids_of held) b) stands.whole_is
          (is_here range whole held told reach left b none here roles rows env test no_none same given small stands fair are) past;
      past = λ roles rows env test before stands fair are past.
          f.past roles test before (found_in roles env (ids_of held) b) stands.whole_is
          (is_here range whole held told reach left b none here roles rows env test no_none same given small stands fair are) past;
    }

-- The walk over a whole core tells the ruling.
use Rattle.std.proofs.Common.{◌≡◌, ◌≤◌, ℕ, Bool, true, false, cond, List, [], ℤ, pos, sym, subst}
use Rattle.std.proofs.lemmas.Bool.{and_parts}
use Rattle.pb_text.specs.declared.action.Action.{Action}
use Rattle.pb_affine.specs.Values.{IsNear}
use Rattle.pb_core_language.specs.declared.protocol.Core.{Core}
use Rattle.pb_core_language.specs.Plain.{plain, plain_block}
use Rattle.pb_core_language.specs.Ranks.{total}
use Rattle.pb_core_language.specs.Sound.{is_sound, is_range, are_roles, is_block, rows_of}
use Rattle.pb_core_language.specs.Flat.{Block}
use Rattle.pb_core_language.specs.FlatOf.{flat, flat_block}
use Rattle.pb_core_language.specs.Run.{Setting}
use Rattle.pb_core_language.specs.Collectives.{setting_of}
use Rattle.pb_judge_ruling.specs.Ruling.{IsRuling}
use Rattle.pb_judge_ruling.specs.declared.ruling.Ruling.{Ruling}
use Rattle.pb_judge_ruling.specs.declared.ruling.Ruling.TheVariants.{Whole, Covered}
use Rattle.pb_judge_follow.specs.Follow.{Left, all_of, IsUsedUp}
use Rattle.pb_judge_walks.specs.declared.flow.Flow.{Flow}
use Rattle.pb_judge_walks.specs.Walks.{Walked}
use Rattle.pb_judge_walks.specs.Laws.{IsRuledBy, Rulings}
use Rattle.pb_judge_walks.proofs.Whole.{walks_are_ruled}
use Rattle.pb_judge_joint.specs.Setting.{setting_with}
use Rattle.pb_judge_blocks.specs.declared.site.Site.{Site}
use Rattle.pb_judge_blocks.specs.Places.{IsSite, setting_at}
use Rattle.pb_judge_blocks.specs.Steps.{BlockWalks}
use Rattle.pb_judge_blocks.proofs.Numbering.{zero_turn}

pub over_is : (s : Setting) (protocol : Block) (log : List (ℕ × Action)) (left : Left) (b : Bool) (r : Ruling) → r ≡ cond b Covered Whole → b ≡ left.owes → Rulings s protocol log left → IsUsedUp left → IsRuling s protocol log r
over_is s protocol log left true r e o h used = subst (λ x. IsRuling s protocol log x) (sym e) (h.covered used (sym o))
over_is s protocol log left false r e o h used = subst (λ x. IsRuling s protocol log x) (sym e) (h.whole used (sym o))

sound_body : (core : Core) → is_sound (plain core) ≡ true → is_block (rows_of (plain core)) false [] (plain_block core.body).block ≡ true
sound_body core h =
    let first = and_parts (is_range core.range) _ h in
    let second = and_parts _ _ first.1 in
    let third = and_parts (are_roles (plain core).roles) (is_block (rows_of (plain core)) false [] (plain core).body.block) second.1 in
    third.1

pub judged : (core : Core) (n : ℤ) (log : List (ℕ × Action)) (site : Site) (old : Left) (flow : Flow) (new : Left) → site.roles.now ≡ core.roles.items → site.n ≡ n → site.setting.total ≡ total core.roles.items n → site.setting.labels.now ≡ core.labels.items →
    is_sound (plain core) ≡ true → IsNear n → total core.roles.items n ≤ 1024 → old ≡ all_of log → BlockWalks site (pos 0) (plain_block core.body).block old flow new → IsRuledBy (setting_of (plain core) n) (flat core.roles.items n (plain core).body.block) log flow new
judged core n log site old flow new er en et el sound near few eo h =
    let roles = core.roles.items in
    let b = (plain_block core.body).block in
    let st : IsSite site = record { near = subst IsNear (sym en) near; few = subst (λ rs. total rs site.n ≤ 1024) (sym er) (subst (λ m. total roles m ≤ 1024) (sym en) few) } in
    let w0 = h (rows_of (plain core)) false [] st zero_turn (sound_body core sound) in
    let w1 : Walked (setting_with site.setting.total site.setting.labels.now) (flat_block roles site.n [] (pos 0) b) [] old flow new = subst (λ rs. Walked (setting_at site) (flat_block rs site.n [] (pos 0) b) [] old flow new) er w0 in
    let w2 : Walked (setting_with site.setting.total site.setting.labels.now) (flat_block roles n [] (pos 0) b) [] old flow new = subst (λ m. Walked (setting_with site.setting.total site.setting.labels.now) (flat_block roles m [] (pos 0) b) [] old flow new) en w1 in
    let w3 : Walked (setting_with (total roles n) site.setting.labels.now) (flat_block roles n [] (pos 0) b) [] old flow new = subst (λ t. Walked (setting_with t site.setting.labels.now) (flat_block roles n [] (pos 0) b) [] old flow new) et w2 in
    let w4 : Walked (setting_with (total roles n) core.labels.items) (flat_block roles n [] (pos 0) b) [] old flow new = subst (λ ls. Walked (setting_with (total roles n) ls) (flat_block roles n [] (pos 0) b) [] old flow new) el w3 in
    let w5 : Walked (setting_of (plain core) n) (flat_block roles n [] (pos 0) b) [] (all_of log) flow new = subst (λ l. Walked (setting_of (plain core) n) (flat_block roles n [] (pos 0) b) [] l flow new) eo w4 in
    walks_are_ruled (setting_of (plain core) n) (flat_block roles n [] (pos 0) b) log flow new w5

-- The numbers in a protocol at one N.
use Rattle.std.specs.Prelude.{◌-◌, ◌^◌, ◌≤◌, ℤ, pos, negsuc, ◌≤ℤ◌}
use Rattle.pb_affine.specs.Values.{IsNear}
use Rattle.pb_core_language.specs.Run as R
use Rattle.pb_core_language.specs.Ranks.{total}
use Rattle.pb_judge_joint.specs.Setting as J
use Rattle.pb_judge_blocks.specs.declared.site.Site.{Site}

-- within 2 ^ 41 of zero, as the ends of roles and of each foreach are, and its variable
pub record IsTurn (x : ℤ) : Type 0 where
  pub low : negsuc (2 ^ 41 - 1) ≤ℤ x
  pub high : x ≤ℤ pos (2 ^ 41)

-- N is near zero, and there are few ranks
pub record IsSite (s : Site) : Type 0 where
  pub near : IsNear s.n
  pub few : total s.roles.now s.n ≤ 1024

-- what the run knows besides the protocol
abbrev pub setting_at : Site → R.Setting
setting_at s = J.setting_of s.setting

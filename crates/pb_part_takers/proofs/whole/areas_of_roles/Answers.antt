use Rattle.std.proofs.Common.{[]}
use Rattle.pb_part_takers.proofs.RoleAreas.{role_at, role_step}
use Rattle.pb_part_takers.proofs.whole.areas_of_roles.Goals as goal

pub loop-i-preserved : goal.loop-i-preserved
loop-i-preserved c =
    let roles = c.args.roles.now in
    let role_here = c.index-roles-i.result in
    record {
      is = λ n role x h within.
          role_step roles c.loop-i.i role_here n role x c.loop-i.out.items c.push.new.out.items _ _ c.loop-i-test.true c.index-roles-i.is (c.in_ok-push.ensures.is n role x)
          (c.role_area.ensures.is n role x (role_at roles c.loop-i.i role_here [] c.loop-i-test.true c.index-roles-i.is h).high within) (c.loop-i.invariant.is n role x h within);
      fits = λ cuts h among.
          let r = role_at roles c.loop-i.i role_here cuts c.loop-i-test.true c.index-roles-i.is h in
          c.in_ok-push.ensures.fits c.args.range cuts (c.loop-i.invariant.fits cuts h among) (c.role_area.ensures.fits cuts r.low r.high (r.among among));
    }

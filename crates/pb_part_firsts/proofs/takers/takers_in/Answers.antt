use Rattle.pb_core_language.specs.Plain.{plain_block}
use Rattle.pb_part_firsts.proofs.TakersAs.{takers_as}
use Rattle.pb_part_firsts.proofs.takers.takers_in.Goals as goal

pub returns : goal.returns
returns c = λ range roles rows w h. takers_as (plain_block c.args.block.now).block rows w h c.in_ok-takers_in.ensures

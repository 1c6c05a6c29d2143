use Rattle.pb_parse_laws.proofs.Sound as sound
use Rattle.pb_parse_laws.proofs.laws.parsed_is_sound.Goals as goal

pub returns : goal.returns
returns c = sound.parsed_is_sound

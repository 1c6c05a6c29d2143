-- The options of the program as definitions have them.
use Rattle.std.specs.Prelude.{List, option_copied}
use Rattle.pb_cli_words.specs.Said as S
use Rattle.pb_cli_words.specs.Reader.{listed}
use Rattle.pb_cli_words.specs.declared.given.Given.{Given}

abbrev pub options_of : Given → List S.Given
options_of g = listed (option_copied g.n) (option_copied g.seed) (option_copied g.turns) (option_copied g.mode) g.schedule

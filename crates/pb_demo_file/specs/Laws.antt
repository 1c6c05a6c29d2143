-- What a tree has that is read from the printed file.
use Rattle.std.specs.Prelude.{◌≡◌, ℕ, List}
use Rattle.pb_text.specs.declared.token.Token.{Token}
use Rattle.pb_text.specs.Tokens.{IsText}
use Rattle.pb_syntax.specs.declared.tree.High.TheVariants.{Max}
use Rattle.pb_syntax.specs.Grammar.{IsFile}
use Rattle.pb_syntax.specs.Layout.{printed}
use Rattle.pb_syntax.specs.Tree.{PlainFile}
use Rattle.pb_demo_file.specs.File.{demo_file}

-- its constant runs from 2 on
abbrev pub RunsFromTwo : Type 0
RunsFromTwo =
    (count : ℕ) (tokens : List Token) (file : PlainFile) → IsText (printed (demo_file count)) tokens → IsFile tokens file
    → (file.low ≡ 2) × (file.high ≡ Max)

-- The forms with optional parts, spelled out as alternatives.
use Rattle.std.specs.Prelude.{pos, ◌-ℤ◌, Some, None}
use Rattle.pb_text.specs.declared.token.Mark.TheVariants.{LeftParen, RightParen, LeftBracket, RightBracket, Colon, Plus, Minus}
use Rattle.pb_text.specs.declared.token.Key.TheVariants as keys
use Rattle.pb_syntax.specs.declared.tree.Payload.{Payload}
use Rattle.pb_syntax.specs.declared.tree.Payload.TheVariants as pay
use Rattle.pb_syntax.specs.declared.tree.LinText.{LinText}
use Rattle.pb_syntax.specs.declared.tree.IndexText.TheVariants as index
use Rattle.pb_syntax.specs.declared.tree.End.{End}
use Rattle.pb_syntax.specs.declared.tree.RoleText.{RoleText}
use Rattle.pb_syntax.specs.Form.{Form, done, one, ◌>>=◌, ◌or◌}
use Rattle.pb_syntax.specs.Grammar.{mark, key, name, number, lin, range, type, reads_count}

-- NUM, or NAME + NUM, or NAME - NUM, or NAME
abbrev pub lin_row : Form LinText
lin_row =
    (do
      n ← number
      done (record { base = None; off = pos n.value; place = n.place }))
    or (do
      base ← name
      plus ← mark Plus
      n ← number
      done (record { base = Some base; off = pos n.value; place = base.place }))
    or (do
      base ← name
      minus ← mark Minus
      n ← number
      done (record { base = Some base; off = pos 0 -ℤ pos n.value; place = base.place }))
    or (do
      base ← name
      done (record { base = Some base; off = pos 0; place = base.place }))

-- role NAME [ lin .. lin ], or role NAME
abbrev pub role_row : Form RoleText
role_row =
    (do
      start ← key keys.Role
      of ← name
      left ← mark LeftBracket
      over ← range
      right ← mark RightBracket
      done (record { role = of; range = Some over }))
    or (do
      start ← key keys.Role
      of ← name
      done (record { role = of; range = None }))

-- ( type [ NUM ] ), or ( type ), or ( )
abbrev pub payload_row : Form Payload
payload_row =
    (do
      left ← mark LeftParen
      of ← type
      open_bracket ← mark LeftBracket
      n ← one reads_count
      close_bracket ← mark RightBracket
      right ← mark RightParen
      done (of n.value))
    or (do
      left ← mark LeftParen
      of ← type
      right ← mark RightParen
      done (of 1))
    or (do
      left ← mark LeftParen
      right ← mark RightParen
      done pay.Unit)

-- NAME [ lin ], or NAME
abbrev pub plain_end_row : Form End
plain_end_row =
    (do
      of ← name
      left ← mark LeftBracket
      at ← lin
      right ← mark RightBracket
      done (record { role = of; index = index.At at }))
    or (do
      of ← name
      done (record { role = of; index = index.Zero }))

-- NAME [ NAME : lin .. lin ], or NAME [ lin ], or NAME
abbrev pub any_end_row : Form End
any_end_row =
    (do
      of ← name
      left ← mark LeftBracket
      var ← name
      colon ← mark Colon
      over ← range
      right ← mark RightBracket
      done (record { role = of; index = index.Bind var over }))
    or plain_end_row

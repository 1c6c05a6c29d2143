-- The flat file is said, where its roles and statements are.
use Rattle.std.proofs.Common.{ℕ, suc, None, sym, subst}
use Rattle.pb_text.specs.declared.place.Spot.{Spot}
use Rattle.pb_text.specs.declared.token.Mark.TheVariants as marks
use Rattle.pb_text.specs.declared.token.Key.TheVariants as keys
use Rattle.pb_syntax.specs.Form.{Form, done, ◌>>=◌}
use Rattle.pb_syntax.specs.Tree.{Numeral, Top}
use Rattle.pb_syntax.specs.Grammar.{mark, key, name, roles, block, file}
use Rattle.pb_do_text_laws.proofs.Said.{Said, AllSaid, said_done, said_then, parts, of_done}
use Rattle.pb_do_text_laws.proofs.Built.{within, block_said, protocol_form}
use Rattle.pb_strips_syntax.specs.Flattening.{flat_roles, flat_in, flat_file}
use Rattle.pb_strips_syntax.specs.Strips.{PlainStripBlock, PlainStripFile}
use Rattle.pb_strips_grammar.specs.Grammar as strips

-- what stands behind the constant
abbrev strips_form : Form PlainStripBlock → Spot → Numeral → Top → Form PlainStripFile
strips_form body_form constant low high = do
  global_key ← key keys.Global
  protocol_key ← key keys.Protocol
  protocol ← name
  left ← mark marks.LeftParen
  list ← strips.roles
  right ← mark marks.RightParen
  body ← body_form
  done (record { constant = constant; low = low.value; low_place = low.place; high = high.high; high_place = high.place; protocol = protocol; roles = list; body = body })

abbrev pub Parts : ℕ → PlainStripFile → Type 0
Parts l f = Said roles (flat_roles f.roles) × AllSaid (within l) (flat_in f.body.list None)

protocol_said : (n l : ℕ) (constant : Spot) (low : Numeral) (high : Top) (f : PlainStripFile) → Said (strips_form (strips.block n) constant low high) f → Parts l f → Said (protocol_form (block (suc l)) constant low high) (flat_file f)
protocol_said n l constant low high f h =
    let k = parts _ _ h in
    let m = parts _ _ k.rest in
    let o = parts _ _ m.rest in
    let p = parts _ _ o.rest in
    let q = parts _ _ p.rest in
    let r = parts _ _ q.rest in
    let s = parts _ _ r.rest in
    subst (λ (x : PlainStripFile). Parts l x → Said (protocol_form (block (suc l)) constant low high) (flat_file x)) (sym (of_done _ s.rest))
    (λ both. said_then _ k.first (said_then _ m.first (said_then _ o.first (said_then _ p.first (said_then _ both.0 (said_then _ r.first (said_then _ (block_said l s.value.place (flat_in s.value.list None) both.1) (said_done _))))))))

pub file_said : (n l : ℕ) (f : PlainStripFile) → Said (strips.file (strips.block n)) f → Parts l f → Said (file (block (suc l))) (flat_file f)
file_said n l f h both =
    let a = parts _ _ h in
    let b = parts _ _ a.rest in
    let c = parts _ _ b.rest in
    let d = parts _ _ c.rest in
    let e = parts _ _ d.rest in
    let g = parts _ _ e.rest in
    let i = parts _ _ g.rest in
    let last : Said (protocol_form (block (suc l)) b.value d.value g.value) (flat_file f) = protocol_said n l b.value d.value g.value f i.rest both in
    said_then _ a.first (said_then _ b.first (said_then _ c.first (said_then _ d.first (said_then _ e.first (said_then _ g.first (said_then _ i.first last))))))

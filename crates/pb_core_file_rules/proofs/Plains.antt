-- The plain trees of statements, and the names around a place.
use Rattle.std.proofs.Common.{◌≡◌, List, ◌∷◌, map, ap, sym, ◌∙◌, Vec}
use Rattle.std.specs.declared.alloc.Global.{Global}
use Rattle.pb_text.specs.declared.place.Place.{Place}
use Rattle.pb_text.specs.declared.place.Spot.{Spot}
use Rattle.pb_syntax.specs.declared.tree.Payload.{Payload}
use Rattle.pb_syntax.specs.declared.tree.Op.{Op}
use Rattle.pb_syntax.specs.declared.tree.RangeText.{RangeText}
use Rattle.pb_syntax.specs.declared.tree.End.{End}
use Rattle.pb_syntax.specs.declared.tree.Block.{Block}
use Rattle.pb_syntax.specs.declared.tree.Statement.{Statement, fold-roll-Statement}
use Rattle.pb_syntax.specs.declared.tree.Statement.TheVariants.{Message, Foreach, Rec, Continue, Choice, Compute, Barrier, Broadcast, Reduce, Allreduce, rolls-Message, rolls-Foreach, rolls-Rec, rolls-Continue, rolls-Choice, rolls-Compute, rolls-Barrier, rolls-Broadcast, rolls-Reduce, rolls-Allreduce}
use Rattle.pb_syntax.specs.declared.tree.Statement.TheOpen as Layer
use Rattle.pb_syntax.specs.Plain.{plain_block, plain_statement, block_layer, statement_layer}
use Rattle.pb_syntax.specs.Tree.{PlainStatement, PlainBlock, branches_of, message, foreach, loop, again, choice, compute, barrier, broadcast, reduce, allreduce}
use Rattle.pb_core_language.specs.Names.{Name}
use Rattle.pb_core_file_rules.specs.declared.scope.Around.{Around, fold-roll-Around}
use Rattle.pb_core_file_rules.specs.declared.scope.Around.TheVariants.{Inside, rolls-Inside}
use Rattle.pb_core_file_rules.specs.declared.scope.Around.TheOpen as A
use Rattle.pb_core_file_rules.specs.Lowering.{names_of, around_layer}
use denote.Bor.{Bor}

pub names_inside : (x : Name) (rest : Bor Around) → names_of (Inside x rest) ≡ x ∷ names_of rest.now
names_inside x rest = ap names_of (sym (rolls-Inside x rest)) ∙ fold-roll-Around (List Name) around_layer (A.Inside x rest)

module _ (s : Statement) where
  pub plain_message : (l : Spot) (p : Payload) (f t : End) → s ≡ Message l p f t → plain_statement s ≡ message l p f t
  plain_message l p f t e = ap plain_statement (e ∙ sym (rolls-Message l p f t)) ∙ fold-roll-Statement PlainStatement PlainBlock statement_layer block_layer (Layer.Message l p f t)

  pub plain_foreach : (at : Place) (v : Spot) (r : RangeText) (items : Block) → s ≡ Foreach at v r items → plain_statement s ≡ foreach at v r (plain_block items).place (plain_block items).list
  plain_foreach at v r items e = ap plain_statement (e ∙ sym (rolls-Foreach at v r items)) ∙ fold-roll-Statement PlainStatement PlainBlock statement_layer block_layer (Layer.Foreach at v r items)

  pub plain_loop : (at : Place) (n : Spot) (body : Block) → s ≡ Rec at n body → plain_statement s ≡ loop at n (plain_block body).place (plain_block body).list
  plain_loop at n body e = ap plain_statement (e ∙ sym (rolls-Rec at n body)) ∙ fold-roll-Statement PlainStatement PlainBlock statement_layer block_layer (Layer.Rec at n body)

  pub plain_again : (at : Place) (n : Spot) → s ≡ Continue at n → plain_statement s ≡ again at n
  plain_again at n e = ap plain_statement (e ∙ sym (rolls-Continue at n)) ∙ fold-roll-Statement PlainStatement PlainBlock statement_layer block_layer (Layer.Continue at n)

  pub plain_choice : (at : Place) (k : Spot) (who : End) (bs : Vec Block Global) → s ≡ Choice at k who bs → plain_statement s ≡ choice at k who (branches_of (map plain_block bs.items))
  plain_choice at k who bs e = ap plain_statement (e ∙ sym (rolls-Choice at k who bs)) ∙ fold-roll-Statement PlainStatement PlainBlock statement_layer block_layer (Layer.Choice at k who bs)

  pub plain_compute : (at : Place) (k : Spot) (who : End) → s ≡ Compute at k who → plain_statement s ≡ compute at k who
  plain_compute at k who e = ap plain_statement (e ∙ sym (rolls-Compute at k who)) ∙ fold-roll-Statement PlainStatement PlainBlock statement_layer block_layer (Layer.Compute at k who)

  pub plain_barrier : (at : Place) → s ≡ Barrier at → plain_statement s ≡ barrier at
  plain_barrier at e = ap plain_statement (e ∙ sym (rolls-Barrier at)) ∙ fold-roll-Statement PlainStatement PlainBlock statement_layer block_layer (Layer.Barrier at)

  pub plain_broadcast : (at : Place) (l : Spot) (p : Payload) (f : End) → s ≡ Broadcast at l p f → plain_statement s ≡ broadcast at l p f
  plain_broadcast at l p f e = ap plain_statement (e ∙ sym (rolls-Broadcast at l p f)) ∙ fold-roll-Statement PlainStatement PlainBlock statement_layer block_layer (Layer.Broadcast at l p f)

  pub plain_reduce : (at : Place) (l : Spot) (p : Payload) (o : Op) (t : End) → s ≡ Reduce at l p o t → plain_statement s ≡ reduce at l p o t
  plain_reduce at l p o t e = ap plain_statement (e ∙ sym (rolls-Reduce at l p o t)) ∙ fold-roll-Statement PlainStatement PlainBlock statement_layer block_layer (Layer.Reduce at l p o t)

  pub plain_allreduce : (at : Place) (l : Spot) (p : Payload) (o : Op) → s ≡ Allreduce at l p o → plain_statement s ≡ allreduce at l p o
  plain_allreduce at l p o e = ap plain_statement (e ∙ sym (rolls-Allreduce at l p o)) ∙ fold-roll-Statement PlainStatement PlainBlock statement_layer block_layer (Layer.Allreduce at l p o)

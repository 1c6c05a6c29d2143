-- Lines with the same bytes.
use Rattle.std.proofs.Common.{◌≡◌, ℕ, List, Option, Some, None, refl, sym, ◌∙◌}
use Rattle.pb_local.specs.Tree.{Program}
use Rattle.pb_ctree.specs.Lines.{Item}
use Rattle.pb_cread_lines.specs.declared.read.ReadLine.{ReadLine}
use Rattle.pb_cread_lines.specs.Fits.{FitsNumber, Fits}
use Rattle.pb_cread_lines.specs.Head.{HasHead}
use Rattle.pb_cread_lines.specs.Items.{item_of}
use Rattle.pb_cread_lines.specs.Reading.{IsLine, line_at}
use Rattle.pb_cread_lines.proofs.Whole.{only_line, no_line}
use Rattle.pb_cread_statements.specs.Reading.{State, goes_on}
use Rattle.pb_cread_statements.proofs.Relabelled.{only_one}
use Rattle.pb_cread_unique.proofs.Held.{tables_of, are_tables}

-- of two lines with the same bytes that both go on, one is the other
pub one_item : (p : Program) (s u v : State) (line : List ℕ) (d e : ℕ) (a b : Item) → HasHead p → FitsNumber d → Fits p a → IsLine p line d a → goes_on p s d a ≡ Some u → FitsNumber e → Fits p b → IsLine p line e b → goes_on p s e b ≡ Some v → (d ≡ e) × (a ≡ b)
one_item p s u v line d e a b head fd fa la ga fe fb lb gb = on (line_at (tables_of p) line) refl where
  on : (o : Option ReadLine) → line_at (tables_of p) line ≡ o → (d ≡ e) × (a ≡ b)
  on None none = absurd (no_line (tables_of p) p line (are_tables p) none head d a fd fa la)
  on (Some r) is =
      let x = only_line (tables_of p) p line r (are_tables p) is head d a fd fa la in
      let y = only_line (tables_of p) p line r (are_tables p) is head e b fe fb lb in
      (x.0 ∙ sym y.0, sym (only_one p s u d a (item_of r.item) x.1 ga) ∙ only_one p s v e b (item_of r.item) y.1 gb)

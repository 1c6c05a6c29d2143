-- The grammar's forms are their rows.
use Rattle.std.proofs.Common.{ℕ, [], Some, None, refl, inl}
use Rattle.std.specs.Prelude.{ℤ, pos, ◌-ℤ◌}
use Rattle.pb_text.specs.declared.place.Place.{Place}
use Rattle.pb_syntax.specs.declared.tree.Payload.{Payload}
use Rattle.pb_syntax.specs.declared.tree.Payload.TheVariants as pay
use Rattle.pb_syntax.specs.declared.tree.LinText.{LinText}
use Rattle.pb_syntax.specs.declared.tree.IndexText.{IndexText}
use Rattle.pb_syntax.specs.declared.tree.IndexText.TheVariants as index
use Rattle.pb_text.specs.declared.token.Mark.{Mark}
use Rattle.pb_text.specs.declared.token.Mark.TheVariants as marks
use Rattle.pb_syntax.specs.Tree.{Numeral}
use Rattle.pb_syntax.specs.Form.{Form, done, one, ◌>>=◌, ◌or◌}
use Rattle.pb_syntax.specs.Grammar.{reads_count, type, range, mark, number, name, offset, lin, role, payload, count, plain_end, bracketed, any_end}
use Rattle.pb_syntax.specs.Rows.{lin_row, role_row, payload_row, plain_end_row, any_end_row}
use Rattle.pb_syntax.specs.Laws.{Same}
use Rattle.pb_syntax.proofs.Same.{same, same_sym, same_trans, behind, ◌or_same◌, turned, spread, share, flat, done_first, or_flat}

done_front : {A : Type 0} (x : A) → (done x).front []
unfolding done
done_front x = refl

-- a sign and a number, and then what stands behind
signed : {A : Type 0} (m : Mark) (g : Numeral → ℤ) (k : ℤ → Form A) → ((x : ℤ) → (k x).front []) → Same ((mark m >>= (λ p. number >>= (λ n. done (g n)))) >>= k) (mark m >>= (λ p. number >>= (λ n. k (g n))))
signed m g k empty = same_trans (flat _ _ _) (behind _ (λ p. same_trans (flat _ _ _) (behind _ (λ n. done_first (g n) k (empty (g n))))))

pub offset_then : {A : Type 0} (k : ℤ → Form A) → ((x : ℤ) → (k x).front []) → Same (offset >>= k)
    ((mark marks.Plus >>= (λ p. number >>= (λ n. k (pos n.value)))) or ((mark marks.Minus >>= (λ p. number >>= (λ n. k (pos 0 -ℤ pos n.value)))) or k (pos 0)))
offset_then k empty = same_trans (share _ _ _) (signed marks.Plus (λ n. pos n.value) k empty or_same same_trans (share _ _ _) (signed marks.Minus (λ n. pos 0 -ℤ pos n.value) k empty or_same done_first (pos 0) k (empty (pos 0))))

pub lin_rows : Same lin lin_row
lin_rows = same or_same same_trans (behind name (λ base. offset_then (λ off. done (record { base = Some base; off = off; place = base.place })) (λ off. done_front _))) (same_trans (spread name _ _) (same or_same spread name _ _))

pub role_rows : Same role role_row
role_rows = same_trans (behind _ (λ start. same_trans (behind name (λ of. same_trans (share _ _ _)
    (same_trans (flat _ _ _) (behind _ (λ left. same_trans (flat _ _ _) (behind _ (λ over. same_trans (flat _ _ _) (behind _ (λ right. done_first _ _ (done_front _))))))) or_same done_first _ _ (done_front _))))
    (spread name _ _))) (spread _ _ _)

pub plain_end_rows : Same plain_end plain_end_row
plain_end_rows = same_trans (behind name (λ of. same_trans (share _ _ _)
    (same_trans (flat _ _ _) (behind _ (λ left. same_trans (flat _ _ _) (behind _ (λ at. same_trans (flat _ _ _) (behind _ (λ right. done_first _ _ (done_front _))))))) or_same done_first _ _ (done_front _))))
    (spread name _ _)

mark_front : {A : Type 0} (m : Mark) (f : Place → Form A) → (mark m >>= f).front []
unfolding ◌>>=◌ one
mark_front m f = inl tt

count_then : {A : Type 0} (k : ℕ → Form A) → ((n : ℕ) → (k n).front []) → Same (count >>= k) ((mark marks.LeftBracket >>= (λ left. one reads_count >>= (λ n. mark marks.RightBracket >>= (λ right. k n.value)))) or k 1)
count_then k empty = same_trans (share _ _ _)
    (same_trans (flat _ _ _) (behind _ (λ left. same_trans (flat _ _ _) (behind _ (λ n. same_trans (flat _ _ _) (behind _ (λ right. done_first n.value k (empty n.value))))))) or_same done_first 1 k (empty 1))

pub payload_rows : Same payload payload_row
payload_rows =
    let K : Payload → Form Payload = λ what. mark marks.RightParen >>= (λ right. done what) in
    let empty : (what : Payload) → (mark marks.RightParen >>= (λ right. done what)).front [] = λ what. mark_front marks.RightParen (λ right. done what) in
    same_trans (behind _ (λ left. same_trans (share _ _ _) (same_trans
    (same_trans (flat _ _ _) (same_trans (behind type (λ of. same_trans (flat _ _ _) (same_trans (behind count (λ n. done_first (of n) K (empty (of n)))) (count_then (λ n. K (of n)) (λ n. empty (of n)))))) (spread type _ _)) or_same done_first pay.Unit K (empty pay.Unit))
    (or_flat _ _ _))))
    (same_trans (spread _ _ _) (same or_same spread _ _ _))

-- a lin, and then what stands behind
lin_then : {A : Type 0} (k : LinText → Form A) → ((l : LinText) → (k l).front []) → Same (lin >>= k)
    ((number >>= (λ n. k (record { base = None; off = pos n.value; place = n.place }))) or (name >>= (λ base. offset >>= (λ off. k (record { base = Some base; off = off; place = base.place })))))
lin_then k empty = same_trans (share _ _ _)
    (same_trans (flat _ _ _) (behind number (λ n. done_first _ k (empty _))) or_same same_trans (flat _ _ _) (behind name (λ base. same_trans (flat _ _ _) (behind offset (λ off. done_first _ k (empty _))))))

shuffle : {A : Type 0} (a b c : Form A) → Same (a or (b or c)) (b or (a or c))
shuffle a b c = same_trans (same_sym (or_flat a b c)) (same_trans (turned a b or_same same) (or_flat b a c))

bracketed_then : {A : Type 0} (k : IndexText → Form A) → ((i : IndexText) → (k i).front []) → Same (bracketed >>= k)
    ((name >>= (λ var. mark marks.Colon >>= (λ colon. range >>= (λ over. k (index.Bind var over))))) or (lin >>= (λ l. k (index.At l))))
bracketed_then k empty = same_trans (share _ _ _) (same_trans
    (same_trans (flat _ _ _) (behind number (λ n. done_first _ k (empty _)))
    or_same same_trans (flat _ _ _) (same_trans (behind name (λ first. same_trans (share _ _ _)
    (same_trans (flat _ _ _) (behind _ (λ colon. same_trans (flat _ _ _) (behind range (λ over. done_first _ k (empty _)))))
    or_same same_trans (flat _ _ _) (behind offset (λ off. done_first _ k (empty _)))))) (spread name _ _)))
    (same_trans (shuffle _ _ _) (same or_same same_sym (lin_then (λ l. k (index.At l)) (λ l. empty (index.At l))))))

pub any_end_rows : Same any_end any_end_row
any_end_rows =
    same_trans (behind name (λ of. same_trans (share _ _ _) (same_trans
    (same_trans (flat _ _ _) (same_trans (behind _ (λ left. same_trans (flat _ _ _) (same_trans (behind bracketed (λ inside. same_trans (flat _ _ _) (behind _ (λ right. done_first _ _ (done_front _)))))
    (bracketed_then (λ inside. mark marks.RightBracket >>= (λ right. done (record { role = of; index = inside }))) (λ inside. mark_front marks.RightBracket _))))) (spread _ _ _)) or_same done_first _ _ (done_front _))
    (or_flat _ _ _))))
    (same_trans (spread name _ _) (same or_same spread name _ _))

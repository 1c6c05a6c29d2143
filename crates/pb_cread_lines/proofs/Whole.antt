-- Lines with their indentation.
use Rattle.std.proofs.Common.{◌≡◌, ℕ, zero, suc, ◌+◌, ◌-◌, ◌/◌, ◌^◌, Bool, true, false, List, [], ◌∷◌, ◌++◌, length, take, drop, Option, Some, None, refl, sym, ap, ◌∙◌, subst, arith, nat_eq, lt-ltb}
use Rattle.std.specs.List.{prefix_len}
use Rattle.std.specs.Cmp.Lexicographic.{pointwise}
use Rattle.std.proofs.Math.Seq.{take-append_seam}
use Rattle.std.proofs.lemmas.List.{length-append}
use Rattle.std.proofs.lemmas.Slice.Eq.{bytes_eq-Decides}
use Rattle.pb_local.specs.Pieces as P
use Rattle.pb_local.specs.Tree.{Program}
use Rattle.pb_ctree.specs.Lines as L
use Rattle.pb_ctree.specs.Lines.{item_text}
use Rattle.pb_ctree.specs.Texts.{line_bytes}
use Rattle.pb_cprint_lines.specs.Printed.{bytes}
use Rattle.pb_cread_lines.specs.declared.read.ReadLine.{ReadLine}
use Rattle.pb_cread_lines.specs.declared.tables.Tables.{Tables}
use Rattle.pb_cread_lines.specs.Fits.{FitsNumber, Fits}
use Rattle.pb_cread_lines.specs.Head.{HasHead, AreTables}
use Rattle.pb_cread_lines.specs.Items.{item_of}
use Rattle.pb_cread_lines.specs.Reading.{is_space, line_of, line_at, IsLine, IsNoLine, IsAlike, IsOnlyLine}
use Rattle.pb_cread_lines.proofs.Lines.{Reads, reads}

abbrev begins_space : List ℕ → Bool
begins_space [] = false
begins_space (c ∷ cs) = is_space c

no_space : (p : Program) (item : L.Item) → Fits p item → begins_space (item_text p item) ≡ false
no_space p (L.raw text) fits = absurd fits
no_space p L.close fits = refl
no_space p L.else_open fits = refl
no_space p (L.if_open gs) fits = refl
no_space p (L.else_if_open gs) fits = refl
no_space p (L.for_open low high) fits = refl
no_space p (L.own_is off) fits = refl
no_space p (L.loop_open id) fits = refl
no_space p (L.goto id) fits = refl
no_space p (L.makes label) fits = refl
no_space p (L.root_makes root label) fits = refl
no_space p (L.takes label s) fits = refl
no_space p (L.root_takes root label) fits = refl
no_space p (L.mpi_send label to) fits = refl
no_space p (L.mpi_recv label from) fits = refl
no_space p L.mpi_barrier fits = refl
no_space p (L.mpi_bcast label root) fits = refl
no_space p (L.mpi_reduce label op root) fits = refl
no_space p (L.mpi_allreduce label op) fits = refl
no_space p (L.calls kernel) fits = refl
no_space p (L.chooses kernel) fits = refl
no_space p (L.probe from) fits = refl
no_space p (L.test_open label gs) fits = refl
no_space p (L.else_test_open label gs) fits = refl
no_space p (L.picks branch) fits = refl
no_space p L.aborts fits = refl
no_space p (L.pick_open branch) fits = refl
no_space p (L.else_pick_open branch) fits = refl

spaces_again : (d : ℕ) (text : List ℕ) → begins_space text ≡ false → prefix_len is_space (P.indent d ++ text) ≡ d + d
spaces_again zero [] dark = refl
spaces_again zero (c ∷ cs) dark = rw dark refl
spaces_again (suc d) text dark = omega (arith, spaces_again d text dark)

drop_again : (d n : ℕ) (text : List ℕ) → n ≡ d + d → drop n (P.indent d ++ text) ≡ text
drop_again zero n text is = let e : n ≡ 0 = omega arith in rw e refl
drop_again (suc d) n text is = let e : n ≡ suc (suc (n - 2)) = omega (arith, is) in rw e (drop_again d (n - 2) text (omega (arith, is)))

-- what is spelled so is read, and is spelled so once more
record Again (t : Tables) (p : Program) (d : ℕ) (item : L.Item) (spelling : List ℕ) : Type 0 where
  line : ReadLine
  read : line_at t spelling ≡ Some line
  same : line_bytes p (L.line line.depth (item_of line.item) true) ≡ spelling
  depth : d ≡ line.depth
  alike : IsAlike p item (item_of line.item)

line_again : (t : Tables) (p : Program) (d : ℕ) (item : L.Item) → AreTables t p → HasHead p → FitsNumber d → Fits p item → Again t p d item (P.indent d ++ item_text p item)
unfolding line_at
line_again t p d item tables head small fits =
    let r : Reads t p item = reads t p item tables head fits in
    let text = item_text p item in
    let long : prefix_len is_space (P.indent d ++ text) ≡ d + d = spaces_again d text (no_space p item fits) in
    let half : prefix_len is_space (P.indent d ++ text) / 2 ≡ d = omega (arith, long) in
    let cut : drop (prefix_len is_space (P.indent d ++ text)) (P.indent d ++ text) ≡ text = drop_again d _ text long in
    record {
      line = line_of d r.line;
      read = rw (half, lt-ltb d (2 ^ 32) small, cut, r.read) refl;
      same = ap (λ w. P.indent d ++ w) r.same;
      depth = refl;
      alike = r.alike;
    }

pub no_line : (t : Tables) (p : Program) (spelling : List ℕ) → AreTables t p → line_at t spelling ≡ None → IsNoLine p spelling
no_line t p spelling tables none head d item small fits is =
    let again : Again t p d item (P.indent d ++ item_text p item) = line_again t p d item tables head small fits in
    apart (sym none ∙ ap (line_at t) is ∙ again.read) where
      apart : {x : ReadLine} → ◌≡◌ {A = Option ReadLine} None (Some x) → ⊥
      apart e = absurd cc

pub not_line : (t : Tables) (p : Program) (spelling : List ℕ) (line : ReadLine) → AreTables t p → line_at t spelling ≡ Some line
    → pointwise nat_eq (line_bytes p (L.line line.depth (item_of line.item) true)) spelling ≡ false → IsNoLine p spelling
not_line t p spelling line tables read other head d item small fits is =
    let again : Again t p d item (P.indent d ++ item_text p item) = line_again t p d item tables head small fits in
    let found : ◌≡◌ {A = Option ReadLine} (Some line) (Some again.line) = sym read ∙ ap (line_at t) is ∙ again.read in
    let one : line ≡ again.line = cc in
    let same : line_bytes p (L.line line.depth (item_of line.item) true) ≡ spelling = ap (λ (l : ReadLine). line_bytes p (L.line l.depth (item_of l.item) true)) one ∙ again.same ∙ sym is in
    let yes : pointwise nat_eq (line_bytes p (L.line line.depth (item_of line.item) true)) spelling ≡ true = (bytes_eq-Decides _ _).1 same in
    absurd cc

pub only_line : (t : Tables) (p : Program) (spelling : List ℕ) (line : ReadLine) → AreTables t p → line_at t spelling ≡ Some line → IsOnlyLine p spelling line.depth (item_of line.item)
only_line t p spelling line tables read head d item small fits is =
    let again : Again t p d item (P.indent d ++ item_text p item) = line_again t p d item tables head small fits in
    let found : ◌≡◌ {A = Option ReadLine} (Some line) (Some again.line) = sym read ∙ ap (line_at t) is ∙ again.read in
    let one : again.line ≡ line = cc in
    (again.depth ∙ ap (λ (l : ReadLine). l.depth) one, subst (λ (l : ReadLine). IsAlike p item (item_of l.item)) one again.alike)

pub is_line : (p : Program) (spelling : List ℕ) (depth : ℕ) (item : L.Item) → pointwise nat_eq (line_bytes p (L.line depth item true)) spelling ≡ true → IsLine p spelling depth item
is_line p spelling depth item e = sym ((bytes_eq-Decides _ _).0 e)

-- a line without its line feed
pub popped : (p : Program) (depth : ℕ) (item : L.Item) (old now : List ℕ) → old ≡ [] ++ bytes p depth item → now ≡ take (length old - 1) old → now ≡ line_bytes p (L.line depth item true)
popped p depth item old now is cut =
    let text = P.indent depth ++ item_text p item in
    let long : length old - 1 ≡ length text = omega (arith, ap length is, length-append text (10 ∷ [])) in
    cut ∙ ap (λ n. take n old) long ∙ ap (take (length text)) is ∙ take-append_seam text (10 ∷ [])

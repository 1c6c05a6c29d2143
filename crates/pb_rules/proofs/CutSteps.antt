-- Cuts one behind the other.
use Rattle.std.proofs.Common.{◌≡◌, ℕ, ◌+◌, ◌<◌, ◌&&◌, Option, Some, List, [], ◌∷◌, ◌++◌, length, get_or, map, drop, refl, sym, ap, ◌∙◌, append_assoc, Vec, Result, Ok, Err}
use Rattle.std.proofs.lemmas.List.{at_drop_more, map-append}
use Rattle.pb_affine.specs.declared.lin.Lin.{Lin}
use Rattle.pb_core_language.specs.declared.protocol.CoreRole.{CoreRole}
use Rattle.std.specs.Prelude.{OnOk}
use Rattle.std.specs.declared.alloc.Global.{Global}
use Rattle.std.proofs.Math.Bool.{and_assoc}
use Rattle.pb_core_language.specs.declared.tree.CoreEnd.{CoreEnd}
use Rattle.pb_core_language.specs.declared.tree.CoreBlock.{CoreBlock}
use Rattle.pb_core_language.specs.declared.tree.CoreKind.TheVariants.{Choice, Foreach}
use Rattle.pb_core_language.specs.declared.tree.CoreStmt.{CoreStmt}
use Rattle.pb_core_language.specs.Plain.{plain_block, plain_stmt, block_of, branches_of}
use Rattle.pb_core_language.specs.declared.tree.Bounds.{Bounds}
use Rattle.pb_core_language.specs.Cuts.{edges, end_cuts, stmt_cuts, block_cuts, branches_cuts, role_cuts}
use Rattle.pb_core_language.proofs.Plains.{plain_choice, plain_foreach}
use Rattle.pb_rules.specs.declared.cuts.Wide.{Wide}
use Rattle.pb_rules.specs.CutLists.{is_cut, are_cuts, lin_of}

pub cuts_both : (xs ys : List Lin) → are_cuts (xs ++ ys) ≡ (are_cuts xs && are_cuts ys)
cuts_both [] ys = refl
cuts_both (x ∷ xs) ys = ap (λ b. is_cut x && b) (cuts_both xs ys) ∙ sym (and_assoc (is_cut x) (are_cuts xs) (are_cuts ys))

pub pushed_one : (out : List Wide) (a : Wide) → map lin_of (out ++ a ∷ []) ≡ map lin_of out ++ lin_of a ∷ []
pushed_one out a = map-append lin_of out (a ∷ [])

-- ---- the steps of the loops: F is what is collected of a list, and of one element

module _ {X : Type 0} (F : List X → List Lin) (f : X → List Lin) (more : (x : X) (xs : List X) → F (x ∷ xs) ≡ f x ++ F xs) where
  unfolded : (items : List X) (i : ℕ) (x : X) → i < length items → x ≡ get_or items i x → F (drop i items) ≡ f x ++ F (drop (i + 1) items)
  unfolded items i x lt is = at_drop_more F items i x lt ∙ ap (λ y. F (y ∷ drop (i + 1) items)) (sym is) ∙ more x (drop (i + 1) items)

  pub step : (items : List X) (i : ℕ) (x : X) (out next all : List Lin) → i < length items → x ≡ get_or items i x → next ≡ out ++ f x → out ++ F (drop i items) ≡ all → next ++ F (drop (i + 1) items) ≡ all
  step items i x out next all lt is e so_far =
      ap (λ l. l ++ F (drop (i + 1) items)) e ∙ append_assoc out (f x) (F (drop (i + 1) items)) ∙ ap (λ l. out ++ l) (sym (unfolded items i x lt is)) ∙ so_far

abbrev pub of_statements : Option Bounds → List CoreStmt → List Lin
of_statements over items = block_cuts over (block_of (map plain_stmt items))

abbrev pub of_branches : Option Bounds → List CoreBlock → List Lin
of_branches over items = branches_cuts over (branches_of (map plain_block items))

pub statements_more : (over : Option Bounds) (x : CoreStmt) (xs : List CoreStmt) → of_statements over (x ∷ xs) ≡ stmt_cuts over (plain_stmt x).stmt ++ of_statements over xs
statements_more over x xs = refl

pub branches_more : (over : Option Bounds) (x : CoreBlock) (xs : List CoreBlock) → of_branches over (x ∷ xs) ≡ block_cuts over (plain_block x).block ++ of_branches over xs
branches_more over x xs = refl

pub roles_more : (x : CoreRole) (xs : List CoreRole) → role_cuts (x ∷ xs) ≡ edges x.low x.high ++ role_cuts xs
roles_more x xs = refl

-- ---- statements with blocks

pub on_ok : {T E : Type 0} (r : Result T E) (P Q : Type 0) → (P → Q) → OnOk r P → OnOk r Q
on_ok (Ok x) P Q f h = f h
on_ok (Err e) P Q f h = tt

pub choice_added : {T E : Type 0} (over : Option Bounds) (s : CoreStmt) (k : ℕ) (at : CoreEnd) (bs : Vec CoreBlock Global) (list : List CoreBlock) (r : Result T E) (old mid new : List Lin)
    → list ≡ bs.items → s.what ≡ Choice k at bs → mid ≡ old ++ end_cuts over at → OnOk r (new ≡ mid ++ branches_cuts over (branches_of (map plain_block list))) → OnOk r (new ≡ old ++ stmt_cuts over (plain_stmt s).stmt)
choice_added over s k at bs list r old mid new same e first h =
    on_ok r _ _ (λ added.
    added ∙ ap (λ l. l ++ branches_cuts over (branches_of (map plain_block list))) first
    ∙ append_assoc old (end_cuts over at) (branches_cuts over (branches_of (map plain_block list)))
    ∙ ap (λ l. old ++ (end_cuts over at ++ branches_cuts over (branches_of (map plain_block l)))) same
    ∙ ap (λ x. old ++ stmt_cuts over x) (sym (plain_choice s k at bs e))) h

pub foreach_added : {T E : Type 0} (over : Option Bounds) (s : CoreStmt) (low high : Lin) (items : CoreBlock) (r : Result T E) (old mid new : List Lin)
    → s.what ≡ Foreach low high items → mid ≡ old ++ edges low high → OnOk r (new ≡ mid ++ block_cuts (Some (record { low = low; high = high })) (plain_block items).block) → OnOk r (new ≡ old ++ stmt_cuts over (plain_stmt s).stmt)
foreach_added over s low high items r old mid new e first h =
    on_ok r _ _ (λ added.
    added ∙ ap (λ l. l ++ block_cuts (Some (record { low = low; high = high })) (plain_block items).block) first
    ∙ append_assoc old (edges low high) (block_cuts (Some (record { low = low; high = high })) (plain_block items).block)
    ∙ ap (λ x. old ++ stmt_cuts over x) (sym (plain_foreach s low high items e))) h

-- The offsets of a role's ends that move.
use Rattle.std.proofs.Common.{◌≡◌, ◌<◌, ◌≤◌, ◌+◌, ◌-◌, ℕ, int_lt, nat_eq, Bool, true, false, ◌&&◌, if◌then◌else◌, List, [], ◌∷◌, ◌++◌, map, drop, get_or, length, refl, sym, ap, ◌∙◌, append-nil, drop_of_length-le, arith}
use Rattle.std.proofs.lemmas.Bool.Decides.{nat_tests}
use Rattle.pb_core_language.specs.declared.tree.CoreBlock.{CoreBlock, out-CoreBlock}
use Rattle.pb_core_language.specs.declared.tree.CoreStmt.{CoreStmt}
use Rattle.pb_core_language.specs.Plain.{plain_block, plain_stmt, block_of}
use Rattle.pb_core_language.proofs.Plains.{plain_list}
use Rattle.pb_core_language.specs.declared.tree.CoreEnd.{CoreEnd}
use Rattle.pb_core_flat.specs.Meets.{is_moving}
use Rattle.pb_shape.specs.Segments.{put_in, put_end, offsets_at, offsets}
use Rattle.pb_project_piece.specs.declared.offsets.Off.{Off}
use Rattle.pb_project_piece.specs.Offsets.{off_of, put_off, rest_of}
use Rattle.pb_project_piece.proofs.Items.{drop_is}

map_if : (b : Bool) (x y : List Off) → map off_of (if b then x else y) ≡ (if b then map off_of x else map off_of y)
map_if true x y = refl
map_if false x y = refl

pub put_is : (c : Off) (list : List Off) → map off_of (put_off c list) ≡ put_in c.off (map off_of list)
put_is c [] = refl
put_is c (d ∷ ds) =
    map_if (int_lt d.off c.off) (c ∷ d ∷ ds) (if int_lt c.off d.off then d ∷ put_off c ds else d ∷ ds)
    ∙ ap (λ z. if int_lt d.off c.off then c.off ∷ d.off ∷ map off_of ds else z)
    (map_if (int_lt c.off d.off) (d ∷ put_off c ds) (d ∷ ds) ∙ ap (λ z. if int_lt c.off d.off then d.off ∷ z else d.off ∷ map off_of ds) (put_is c ds))

same_number : (a b : ℕ) → a ≡ b → nat_eq a b ≡ true
same_number a b e = grind (arith, nat_tests, e)

pub end_put : (role : ℕ) (e : CoreEnd) (c : Off) (old new : List Off) → role ≡ e.role → is_moving e ≡ true → new ≡ put_off c old → c.off ≡ e.at.off → map off_of new ≡ put_end role e (map off_of old)
end_put role e c old new role_is moves put off_is =
    ap (map off_of) put ∙ put_is c old ∙ ap (λ o. put_in o (map off_of old)) off_is
    ∙ sym (ap (λ t. if t then put_in e.at.off (map off_of old) else map off_of old) (ap (λ t. t && is_moving e) (same_number role e.role role_is) ∙ moves))

-- what is left of the list, and the offset if it is still to be put in
pub record PutSoFar (c : Off) (list : List Off) (k : ℕ) (left : Bool) (out : List Off) : Type 0 where
  pub is : out ++ rest_of left c (drop k list) ≡ put_off c list

pub put_step : (c d : Off) (list : List Off) (k : ℕ) (left now : Bool) (old new : List Off) → k < length list → d ≡ get_or list k d →
    ((tail : List Off) → old ++ rest_of left c (d ∷ tail) ≡ new ++ rest_of now c tail) → PutSoFar c list k left old → PutSoFar c list (k + 1) now new
put_step c d list k left now old new lt is step so_far = record {
  is = sym (step (drop (k + 1) list)) ∙ ap (λ l. old ++ rest_of left c l) (sym (drop_is list k d lt is)) ∙ so_far.is;
}

pub put_left : (c : Off) (list : List Off) (k : ℕ) (left : Bool) (old new : List Off) → length list ≤ k → left ≡ true → new ≡ old ++ c ∷ [] → PutSoFar c list k left old → new ≡ put_off c list
put_left c list k left old new le is pushed so_far =
    pushed ∙ ap (λ l. old ++ put_off c l) (sym (drop_of_length-le list le)) ∙ ap (λ b. old ++ rest_of b c (drop k list)) (sym is) ∙ so_far.is

pub put_done : (c : Off) (list : List Off) (k : ℕ) (left : Bool) (old : List Off) → length list ≤ k → left ≡ false → PutSoFar c list k left old → old ≡ put_off c list
put_done c list k left old le is so_far =
    sym (append-nil old) ∙ ap (λ l. old ++ l) (sym (drop_of_length-le list le)) ∙ ap (λ b. old ++ rest_of b c (drop k list)) (sym is) ∙ so_far.is

-- the offsets of the statements from the end on
pub record OffsSoFar (role : ℕ) (items : List CoreStmt) (left : ℕ) (list : List Off) : Type 0 where
  pub within : left ≤ length items
  pub is : map off_of list ≡ offsets role (block_of (map plain_stmt (drop left items)))

pub offs_start : (role : ℕ) (items : List CoreStmt) (left : ℕ) (list : List Off) → list ≡ [] → left ≡ length items → OffsSoFar role items left list
offs_start role items left list is all = record {
  within = omega (arith, all);
  is = ap (map off_of) is ∙ ap (λ l. offsets role (block_of (map plain_stmt l))) (sym (drop_of_length-le items (omega (arith, all))));
}

pub offs_step : (role : ℕ) (items : List CoreStmt) (left : ℕ) (s : CoreStmt) (old new : List Off) → 0 < left → s ≡ get_or items (left - 1) s →
    map off_of new ≡ offsets_at role (plain_stmt s).stmt (map off_of old) → OffsSoFar role items left old → OffsSoFar role items (left - 1) new
offs_step role items left s old new some is added so_far =
    let lt : left - 1 < length items = omega (arith, so_far.within, some) in
    let next : (left - 1) + 1 ≡ left = omega (arith, some) in
    record {
      within = omega (arith, so_far.within);
      is = added ∙ ap (offsets_at role (plain_stmt s).stmt) (so_far.is ∙ ap (λ k. offsets role (block_of (map plain_stmt (drop k items)))) (sym next))
          ∙ ap (λ l. offsets role (block_of (map plain_stmt l))) (sym (drop_is items (left - 1) s lt is));
    }

pub offs_done : (role : ℕ) (b : CoreBlock) (items : List CoreStmt) (left : ℕ) (list : List Off) → items ≡ (out-CoreBlock b).list.items → left ≤ 0 → OffsSoFar role items left list →
    map off_of list ≡ offsets role (plain_block b).block
offs_done role b items left list same le so_far =
    let none : left ≡ 0 = omega (arith, le) in
    so_far.is ∙ ap (λ k. offsets role (block_of (map plain_stmt (drop k items)))) none ∙ ap (λ l. offsets role (block_of (map plain_stmt l))) same ∙ ap (offsets role) (sym (plain_list b))

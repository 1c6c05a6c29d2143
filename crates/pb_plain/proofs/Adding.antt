-- A loop that adds what one thing more of a list gives.
use Rattle.std.proofs.Common.{◌≡◌, ℕ, suc, ◌+◌, ◌<◌, ◌≤◌, ℤ, Bool, List, [], ◌∷◌, ◌++◌, map, length, drop, get_or, refl, sym, ap, ◌∙◌, append_assoc, arith}
use Rattle.std.proofs.lemmas.List.{drop_more, append-nil}
use Rattle.std.proofs.Math.ListN.{drop_of_length-le}
use Rattle.pb_core_language.specs.declared.protocol.CoreRole.{CoreRole}
use Rattle.pb_core_language.specs.declared.tree.CoreBlock.{CoreBlock}
use Rattle.pb_core_language.specs.declared.tree.CoreStmt.{CoreStmt}
use Rattle.pb_core_language.specs.Plain.{plain_block, plain_stmt, block_of, branches_of}
use Rattle.pb_core_language.specs.Ranks.{Seat, seats_from}
use Rattle.pb_core_language.specs.Outcomes.{Outcome}
use Rattle.pb_core_language.specs.Parts.{firsts_within, firsts_below, firsts_across}
use Rattle.pb_plain.specs.Alone.{firsts_if}
use Rattle.pb_plain.specs.View.{seats_of}

next_is : {A : Type 0} (xs : List A) (i : ℕ) (x : A) → i < length xs → x ≡ get_or xs i x → drop i xs ≡ x ∷ drop (i + 1) xs
next_is xs i x less is = drop_more xs i x less ∙ ap (λ v. v ∷ drop (i + 1) xs) (sym is)

adds : {A B : Type 0} (of : List A → List B) (xs : List A) (i : ℕ) (x : A) (here out new whole : List B) → i < length xs → x ≡ get_or xs i x →
    of (x ∷ drop (i + 1) xs) ≡ here ++ of (drop (i + 1) xs) → new ≡ out ++ here → out ++ of (drop i xs) ≡ whole → new ++ of (drop (i + 1) xs) ≡ whole
adds of xs i x here out new whole less is one added so_far =
    let rest = of (drop (i + 1) xs) in
    ap (λ l. l ++ rest) added ∙ append_assoc out here rest ∙ ap (λ l. out ++ l) (sym one) ∙ sym (ap (λ l. out ++ of l) (next_is xs i x less is)) ∙ so_far

pub added : {A B : Type 0} (of : List A → List B) (xs : List A) (i : ℕ) (out whole : List B) → of [] ≡ [] → length xs ≤ i → out ++ of (drop i xs) ≡ whole → out ≡ whole
added of xs i out whole none le so_far = sym (append-nil out) ∙ ap (λ l. out ++ l) (sym none) ∙ ap (λ l. out ++ of l) (sym (drop_of_length-le xs le)) ∙ so_far

-- ---- seats

pub seats_more : (roles : List CoreRole) (k : ℕ) (r : CoreRole) (n : ℤ) (old new whole : List Seat) → k < length roles → r ≡ get_or roles k r →
    new ≡ old ++ seats_of k r n → old ++ seats_from k (drop k roles) n ≡ whole → new ++ seats_from (k + 1) (drop (k + 1) roles) n ≡ whole
seats_more roles k r n old new whole less is grown so_far =
    let up : k + 1 ≡ suc k = omega arith in
    let rest = seats_from (k + 1) (drop (k + 1) roles) n in
    ap (λ l. l ++ rest) grown ∙ append_assoc old (seats_of k r n) rest ∙ ap (λ j. old ++ (seats_of k r n ++ seats_from j (drop (k + 1) roles) n)) up
    ∙ ap (λ l. old ++ seats_from k l n) (sym (next_is roles k r less is)) ∙ so_far

pub seats_full : (roles : List CoreRole) (k : ℕ) (n : ℤ) (old whole : List Seat) → length roles ≤ k → old ++ seats_from k (drop k roles) n ≡ whole → old ≡ whole
seats_full roles k n old whole le so_far = added (λ l. seats_from k l n) roles k old whole refl le so_far

-- ---- first outcomes

module _ (roles : List CoreRole) (n : ℤ) (r k : ℕ) (ids : List ℕ) (held : List Bool) where
  pub within_more : (ss : List CoreStmt) (i : ℕ) (s : CoreStmt) (old new whole : List Outcome) → i < length ss → s ≡ get_or ss i s →
      new ≡ old ++ firsts_below roles n r k ids held (plain_stmt s).stmt →
      old ++ firsts_within roles n r k ids held (block_of (map plain_stmt (drop i ss))) ≡ whole →
      new ++ firsts_within roles n r k ids held (block_of (map plain_stmt (drop (i + 1) ss))) ≡ whole
  within_more ss i s old new whole less is grown so_far =
      adds (λ l. firsts_within roles n r k ids held (block_of (map plain_stmt l))) ss i s (firsts_below roles n r k ids held (plain_stmt s).stmt) old new whole less is refl grown so_far

  pub across_more : (bs : List CoreBlock) (i : ℕ) (b : CoreBlock) (old one new whole : List Outcome) → i < length bs → b ≡ get_or bs i b →
      one ≡ old ++ firsts_if roles n r k ids held (plain_block b) →
      new ≡ one ++ firsts_within roles n r k ids held (plain_block b).block →
      old ++ firsts_across roles n r k ids held (branches_of (map plain_block (drop i bs))) ≡ whole →
      new ++ firsts_across roles n r k ids held (branches_of (map plain_block (drop (i + 1) bs))) ≡ whole
  across_more bs i b old one new whole less is first then so_far =
      let of = (λ (l : List CoreBlock). firsts_across roles n r k ids held (branches_of (map plain_block l))) in
      let own = firsts_if roles n r k ids held (plain_block b) in
      let inside = firsts_within roles n r k ids held (plain_block b).block in
      adds of bs i b (own ++ inside) old new whole less is (sym (append_assoc own inside (of (drop (i + 1) bs))))
      (then ∙ ap (λ l. l ++ inside) first ∙ append_assoc old own inside) so_far

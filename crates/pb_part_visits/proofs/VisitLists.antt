-- The ends of a foreach's items, one after the other, and those that move by falling offset.
use Rattle.std.proofs.Common.{◌≡◌, ◌≤◌, ◌<◌, ℕ, pos, zero, suc, ◌+◌, int_le, cond, Bool, true, false, if◌then◌else◌, List, [], ◌∷◌, ◌++◌, map, take, drop, length, get_or, refl, ap, sym, ◌∙◌, append_assoc, append-nil, subst, arith, drop_of_length-le}
use Rattle.std.specs.List.{prefix_len, insert}
use Rattle.std.proofs.lemmas.Bool.{and_parts, and_from}
use Rattle.std.proofs.lemmas.List.{at_drop_more, map-append, take_more, take_all}
use Rattle.std.proofs.lemmas.List.Elements.{filter-append}
use Rattle.pb_core_language.specs.declared.tree.CoreBlock.{CoreBlock, out-CoreBlock}
use Rattle.pb_core_language.specs.declared.tree.CoreStmt.{CoreStmt}
use Rattle.pb_core_language.specs.Plain.{plain_block, plain_stmt, block_of}
use Rattle.pb_core_flat.specs.Meets.{is_moving}
use Rattle.pb_core_flat.specs.Stops as S
use Rattle.pb_core_flat.specs.Stops.{visits, visits_of, moving, put_behind, off_of, IsByFalling}
use Rattle.pb_core_flat.proofs.Behind.{put_behind_sorts}
use Rattle.pb_part_visits.specs.declared.visit.Visit.{Visit}
use Rattle.pb_affine.specs.declared.lin.Base.TheVariants.{Fixed}
use Rattle.pb_core_language.specs.Sound.{is_small}
use Rattle.pb_part_visits.specs.declared.visit.Finding.TheVariants.{Acts}
use Rattle.pb_part_visits.specs.Visits.{visit_of, finding_of, is_narrow, is_narrow_finding, are_narrow}
use Rattle.pb_core_language.proofs.Plains.{plain_list}

pub pushed : (old new : List Visit) (v : Visit) → new ≡ old ++ v ∷ [] → map visit_of new ≡ map visit_of old ++ visit_of v ∷ []
pushed old new v e = ap (map visit_of) e ∙ map-append visit_of old (v ∷ [])

pub two_pushed : (old mid new : List S.Visit) (v w : S.Visit) → mid ≡ old ++ v ∷ [] → new ≡ mid ++ w ∷ [] → new ≡ old ++ v ∷ w ∷ []
two_pushed old mid new v w e f = f ∙ ap (λ l. l ++ w ∷ []) e ∙ append_assoc old (v ∷ []) (w ∷ [])

pub visits_step : (items : List CoreStmt) (i : ℕ) (s : CoreStmt) (old new all : List S.Visit) → i < length items → s ≡ get_or items i s → new ≡ old ++ visits_of (plain_stmt s).stmt →
    old ++ visits (block_of (map plain_stmt (drop i items))) ≡ all → new ++ visits (block_of (map plain_stmt (drop (i + 1) items))) ≡ all
visits_step items i s old new all lt is e so_far =
    ap (λ l. l ++ visits (block_of (map plain_stmt (drop (i + 1) items)))) e
    ∙ append_assoc old (visits_of (plain_stmt s).stmt) (visits (block_of (map plain_stmt (drop (i + 1) items))))
    ∙ ap (λ y. old ++ visits (block_of (map plain_stmt (y ∷ drop (i + 1) items)))) is
    ∙ ap (λ z. old ++ z) (sym (at_drop_more (λ l. visits (block_of (map plain_stmt l))) items i s lt))
    ∙ so_far

pub visits_done : (b : CoreBlock) (items : List CoreStmt) (i : ℕ) (new : List S.Visit) → items ≡ (out-CoreBlock b).list.items → length items ≤ i →
    new ++ visits (block_of (map plain_stmt (drop i items))) ≡ visits (block_of (map plain_stmt items)) → new ≡ visits (plain_block b).block
visits_done b items i new same le h =
    sym (append-nil new) ∙ ap (λ l. new ++ visits (block_of (map plain_stmt l))) (sym (drop_of_length-le items le)) ∙ h
    ∙ ap (λ l. visits (block_of (map plain_stmt l))) same ∙ ap visits (sym (plain_list b))

-- ---- an end put behind others

one_and : (k : ℕ) → 1 + k ≡ suc k
one_and k = omega arith

place_step : (t : Bool) (v w : Visit) (ws : List Visit) (rest : List S.Visit) (k : ℕ) → rest ≡ map visit_of (insert ws k v) →
    (if t then visit_of w ∷ rest else visit_of v ∷ visit_of w ∷ map visit_of ws) ≡ map visit_of (insert (w ∷ ws) (cond t (1 + k) 0) v)
place_step true v w ws rest k h = ap (λ z. visit_of w ∷ z) h ∙ ap (λ j. map visit_of (insert (w ∷ ws) j v)) (sym (one_and k))
place_step false v w ws rest k h = refl

pub behind_is : (v : Visit) (ws : List Visit) → put_behind (visit_of v) (map visit_of ws) ≡ map visit_of (insert ws (prefix_len (λ w. int_le v.end.at.off w.end.at.off) ws) v)
behind_is v [] = refl
behind_is v (w ∷ ws) =
    place_step (int_le v.end.at.off w.end.at.off) v w ws (put_behind (visit_of v) (map visit_of ws)) (prefix_len (λ w. int_le v.end.at.off w.end.at.off) ws) (behind_is v ws)

pub put_at : (v : Visit) (old new : List Visit) (k : ℕ) → k ≡ prefix_len (λ w. int_le v.end.at.off w.end.at.off) old → new ≡ insert old k v → map visit_of new ≡ put_behind (visit_of v) (map visit_of old)
put_at v old new k e h = ap (map visit_of) (h ∙ ap (λ j. insert old j v) e) ∙ sym (behind_is v old)

at_most : (t : Bool) (k n : ℕ) → k ≤ n → cond t (1 + k) 0 ≤ suc n
at_most true k n h = omega arith
at_most false k n h = omega arith

pub prefix_at_most : {X : Type 0} (p : X → Bool) (xs : List X) → prefix_len p xs ≤ length xs
prefix_at_most p [] = omega arith
prefix_at_most p (x ∷ xs) = at_most (p x) (prefix_len p xs) (length xs) (prefix_at_most p xs)

by_moving : (t : Bool) (v : S.Visit) (sorted vs : List S.Visit) → IsByFalling sorted vs → IsByFalling (if t then put_behind v sorted else sorted) (vs ++ cond t (v ∷ []) [])
by_moving true v sorted vs h = put_behind_sorts sorted vs v h
by_moving false v sorted vs h = subst (IsByFalling sorted) (sym (append-nil vs)) h

taken_more : (list : List Visit) (i : ℕ) (d : Visit) → i < length list →
    moving (map visit_of (take (i + 1) list)) ≡ moving (map visit_of (take i list)) ++ cond (is_moving (get_or list i d).end) (visit_of (get_or list i d) ∷ []) []
taken_more list i d lt =
    ap (λ l. moving (map visit_of l)) (take_more list i d lt) ∙ ap moving (map-append visit_of (take i list) (get_or list i d ∷ []))
    ∙ filter-append (λ v. is_moving v.end) (map visit_of (take i list)) (visit_of (get_or list i d) ∷ [])

pub moving_step : (list : List Visit) (i : ℕ) (v : Visit) (old new : List S.Visit) → i < length list →
    new ≡ (if is_moving (get_or list i v).end then put_behind (visit_of (get_or list i v)) old else old) →
    IsByFalling old (moving (map visit_of (take i list))) → IsByFalling new (moving (map visit_of (take (i + 1) list)))
moving_step list i v old new lt e h =
    let one = get_or list i v in
    let sorted : IsByFalling new (moving (map visit_of (take i list)) ++ cond (is_moving one.end) (visit_of one ∷ []) []) =
    subst (λ z. IsByFalling z (moving (map visit_of (take i list)) ++ cond (is_moving one.end) (visit_of one ∷ []) [])) (sym e) (by_moving (is_moving one.end) (visit_of one) old (moving (map visit_of (take i list))) h) in
    subst (IsByFalling new) (sym (taken_more list i v lt)) sorted

pub none_sorted : (sorted : List Visit) → sorted ≡ [] → IsByFalling (map visit_of sorted) []
none_sorted sorted e = subst (λ l. IsByFalling (map visit_of l) []) (sym e) (record { falls = refl; same = λ c. refl })

pub moving_done : (list : List Visit) (i : ℕ) (sorted : List S.Visit) → length list ≤ i → IsByFalling sorted (moving (map visit_of (take i list))) → IsByFalling sorted (moving (map visit_of list))
moving_done list i sorted le h = subst (λ l. IsByFalling sorted (moving (map visit_of l))) (take_all i list le) h

-- ---- small offsets

behind_narrow : (v : S.Visit) (vs : List S.Visit) → is_narrow v ≡ true → are_narrow vs ≡ true → are_narrow (put_behind v vs) ≡ true
behind_narrow v [] h k = and_from (is_narrow v) true h refl
behind_narrow v (w ∷ ws) h k =
    let ks = and_parts (is_narrow w) (are_narrow ws) k in
    by_test (int_le (off_of v) (off_of w)) (and_from (is_narrow w) (are_narrow (put_behind v ws)) ks.0 (behind_narrow v ws h ks.1)) where
      by_test : (t : Bool) → are_narrow (w ∷ put_behind v ws) ≡ true → are_narrow (if t then w ∷ put_behind v ws else v ∷ w ∷ ws) ≡ true
      by_test true e = e
      by_test false e = and_from (is_narrow v) (are_narrow (w ∷ ws)) h k

at_narrow : (list : List Visit) (i : ℕ) (v : Visit) → i < length list → are_narrow (map visit_of (drop i list)) ≡ true → is_narrow (visit_of (get_or list i v)) ≡ true
at_narrow list i v lt h =
    (and_parts (is_narrow (visit_of (get_or list i v))) (are_narrow (map visit_of (drop (i + 1) list))) (sym (at_drop_more (λ l. are_narrow (map visit_of l)) list i v lt) ∙ h)).0

dropped_narrow : (i : ℕ) (list : List Visit) → are_narrow (map visit_of list) ≡ true → are_narrow (map visit_of (drop i list)) ≡ true
dropped_narrow zero list h = h
dropped_narrow (suc i) [] h = refl
dropped_narrow (suc i) (v ∷ vs) h = dropped_narrow i vs (and_parts (is_narrow (visit_of v)) (are_narrow (map visit_of vs)) h).1

pub narrow_at : (list : List Visit) (i : ℕ) (v : Visit) → i < length list → are_narrow (map visit_of list) ≡ true → is_narrow (visit_of (get_or list i v)) ≡ true
narrow_at list i v lt h = at_narrow list i v lt (dropped_narrow i list h)

by_moving_narrow : (t : Bool) (v : S.Visit) (vs : List S.Visit) → is_narrow v ≡ true → are_narrow vs ≡ true → are_narrow (if t then put_behind v vs else vs) ≡ true
by_moving_narrow true v vs h k = behind_narrow v vs h k
by_moving_narrow false v vs h k = k

pub moving_narrow : (list : List Visit) (i : ℕ) (v : Visit) (old new : List S.Visit) → i < length list →
    new ≡ (if is_moving (get_or list i v).end then put_behind (visit_of (get_or list i v)) old else old) →
    are_narrow (map visit_of list) ≡ true → are_narrow old ≡ true → are_narrow new ≡ true
moving_narrow list i v old new lt e h k = ap are_narrow e ∙ by_moving_narrow (is_moving (get_or list i v).end) (visit_of (get_or list i v)) old (narrow_at list i v lt h) k

pub none_narrow : (sorted : List Visit) → sorted ≡ [] → are_narrow (map visit_of sorted) ≡ true
none_narrow sorted e = ap (λ l. are_narrow (map visit_of l)) e

-- ---- one of a list

-- the end that stands past the last of a list
abbrev pub blank : Visit
blank = record { end = record { role = 0; at = record { base = Fixed; off = pos 0 }; place = record { line = 0; col = 0 } }; finding = Acts }

pub end_at : (list : List Visit) (i : ℕ) → i < length list → are_narrow (map visit_of list) ≡ true → is_small (get_or list i blank).end.at.off ≡ true
end_at list i lt h = (and_parts (is_small (get_or list i blank).end.at.off) (is_narrow_finding (finding_of (get_or list i blank).finding)) (narrow_at list i blank lt h)).0

pub finding_at : (list : List Visit) (i : ℕ) → i < length list → are_narrow (map visit_of list) ≡ true → is_narrow_finding (finding_of (get_or list i blank).finding) ≡ true
finding_at list i lt h = (and_parts (is_small (get_or list i blank).end.at.off) (is_narrow_finding (finding_of (get_or list i blank).finding)) (narrow_at list i blank lt h)).1

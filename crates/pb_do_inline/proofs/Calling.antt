-- What a call gives.
use Rattle.std.proofs.Common.{◌≡◌, ℕ, ◌<◌, ◌≤◌, zero, suc, Option, Some, None, List, [], ◌∷◌, length, map, drop, Ok, refl, sym, ap, ◌∙◌, subst, arith}
use Rattle.std.specs.List.{slice_get}
use Rattle.std.proofs.lemmas.Option.{slice_get-map, slice_get_past}
use Rattle.std.specs.Option.{option_map}
use Rattle.pb_text.specs.declared.place.Place.{Place}
use Rattle.pb_text.specs.declared.place.Spot.{Spot}
use Rattle.pb_text.specs.Tables.{position_of}
use Rattle.pb_do_syntax.specs.declared.tree.Sub.{Sub}
use Rattle.pb_do_syntax.specs.declared.tree.CallBlock.{CallBlock, out-CallBlock}
use Rattle.pb_do_syntax.specs.declared.tree.CallStatement.TheFolds.{fold_out-CallBlock}
use Rattle.pb_do_syntax.specs.Calls as C
use Rattle.pb_do_syntax.specs.Calls.{Call, Calls, PlainSub, calls_of}
use Rattle.pb_do_syntax.specs.Plain.{plain_sub, plain_statement, plain_block, statement_layer, block_layer}
use Rattle.pb_do_syntax.specs.Names.{Name, sub_at, sub_names, params_of, names}
use Rattle.pb_do_syntax.specs.Inlining as I
use Rattle.pb_do_syntax.specs.Inlining.{Written, Outcome, limit_passed, place_or, passed_on, counted, inside, Inlines, called, lost, InlinesAll}
use Rattle.pb_do_inline.specs.declared.site.Site.{Site}
use Rattle.pb_do_inline.specs.declared.frame.Frame.{Frame}
use Rattle.pb_do_inline.specs.Ends.{site_of, roles_of}
use Rattle.pb_do_inline.specs.Frames.{FrameInlines, list_of, rest_of}

-- no subprotocol has the name
pub unknown : (subs : List PlainSub) (site : I.Site) (place : Place) (f : Spot) (args : List Spot) (before now : Written) →
    limit_passed site before.count (C.call place f args) ≡ None → now ≡ counted before → None ≡ position_of f.name (sub_names subs) →
    Inlines subs site (C.call place f args) before (Ok now)
unknown subs site place f args before now none e absent = lost none (ap (sub_at subs) (sym absent)) (ap Ok e)

pub beyond : (list : List Sub) (site : I.Site) (place : Place) (f : Spot) (args : List Spot) (before now : Written) (i : ℕ) →
    limit_passed site before.count (C.call place f args) ≡ None → now ≡ counted before → Some i ≡ position_of f.name (sub_names (map plain_sub list)) → length list ≤ i →
    Inlines (map plain_sub list) site (C.call place f args) before (Ok now)
beyond list site place f args before now i none e found h =
    lost none (ap (sub_at (map plain_sub list)) (sym found) ∙ slice_get-map plain_sub list i ∙ ap (option_map plain_sub) (slice_get_past list i h)) (ap Ok e)

moved : (subs : List PlainSub) (left : ℕ) (params params' roles roles' : List Name) (root root' : Option Place) (list list' : Calls) (w w' : Written) (after : Outcome) →
    params ≡ params' → roles ≡ roles' → root ≡ root' → list ≡ list' → w ≡ w' →
    InlinesAll subs (record { roles = record { params = params; names = roles }; left = left; root = root }) list w after →
    InlinesAll subs (record { roles = record { params = params'; names = roles' }; left = left; root = root' }) list' w' after
moved subs left params params' roles roles' root root' list list' w w' after ep er eo el ew h =
    subst (λ (x : Written). InlinesAll subs (record { roles = record { params = params'; names = roles' }; left = left; root = root' }) list' x after) ew
    (subst (λ (x : Calls). InlinesAll subs (record { roles = record { params = params'; names = roles' }; left = left; root = root' }) x w after) el
    (subst (λ (x : Option Place). InlinesAll subs (record { roles = record { params = params'; names = roles' }; left = left; root = x }) list w after) eo
    (subst (λ (x : List Name). InlinesAll subs (record { roles = record { params = params'; names = x }; left = left; root = root }) list w after) er
    (subst (λ (x : List Name). InlinesAll subs (record { roles = record { params = x; names = roles }; left = left; root = root }) list w after) ep h))))

sub_there : (list : List Sub) (i : ℕ) (s : Sub) → slice_get list i ≡ Some s → slice_get (map plain_sub list) i ≡ Some (plain_sub s)
sub_there list i s h = slice_get-map plain_sub list i ∙ ap (option_map plain_sub) h

-- the statements of a block
pub listed : (b : CallBlock) → calls_of (map plain_statement (out-CallBlock b).list.items) ≡ (plain_block b).list
listed b = sym (ap (λ (p : C.PlainCallBlock). p.list) (fold_out-CallBlock Call C.PlainCallBlock statement_layer block_layer b))

pub placed : (b : CallBlock) → (out-CallBlock b).place ≡ (plain_block b).place
placed b = sym (ap (λ (p : C.PlainCallBlock). p.place) (fold_out-CallBlock Call C.PlainCallBlock statement_layer block_layer b))

there : (list : List Sub) (i : ℕ) → i < length list → (s : Sub) × (slice_get list i ≡ Some s)
there [] i h = absurd (omega (arith, h))
there (s ∷ ss) zero h = (s, refl)
there (s ∷ ss) (suc i) h = there ss i (omega (arith, h))

-- a call begins at the first statement of its subprotocol
begun_at : (list : List Sub) (site : Site) (left : ℕ) (place : Place) (f : Spot) (args : List Spot) (before now : Written) (i : ℕ) (s : Sub) (frame : Frame) →
    limit_passed (site_of (map plain_sub list) site left) before.count (C.call place f args) ≡ None → now ≡ counted before →
    Some i ≡ position_of f.name (sub_names (map plain_sub list)) → slice_get list i ≡ Some s →
    frame.body ≡ i → frame.next ≡ 0 → frame.site.sub ≡ Some i → frame.site.root ≡ Some (place_or site.root place) →
    frame.site.names.items ≡ passed_on (roles_of (map plain_sub list) site) args →
    (after : Outcome) → FrameInlines list left frame now after → Inlines (map plain_sub list) (site_of (map plain_sub list) site left) (C.call place f args) before after
begun_at list site left place f args before now i s frame none e found is body next sub root roles after h =
    let at : slice_get (map plain_sub list) i ≡ Some (plain_sub s) = sub_there list i s is in
    called (plain_sub s) none (ap (sub_at (map plain_sub list)) (sym found) ∙ at)
    (moved (map plain_sub list) left (params_of (sub_at (map plain_sub list) frame.site.sub)) (names (plain_sub s).params)
    frame.site.names.items (passed_on (roles_of (map plain_sub list) site) args) frame.site.root (Some (place_or site.root place))
    (rest_of list frame) (plain_sub s).body.list now (counted before) after
    (ap (λ (o : Option ℕ). params_of (sub_at (map plain_sub list) o)) sub ∙ ap params_of at)
    roles root
    (ap (λ (n : ℕ). calls_of (map plain_statement (drop n (list_of (slice_get list frame.body))))) next
    ∙ ap (λ (n : ℕ). calls_of (map plain_statement (list_of (slice_get list n)))) body
    ∙ ap (λ (o : Option Sub). calls_of (map plain_statement (list_of o))) is
    ∙ listed s.body)
    e h)

pub begun : (list : List Sub) (site : Site) (left : ℕ) (place : Place) (f : Spot) (args : List Spot) (before now : Written) (i : ℕ) (frame : Frame) →
    limit_passed (site_of (map plain_sub list) site left) before.count (C.call place f args) ≡ None → now ≡ counted before →
    Some i ≡ position_of f.name (sub_names (map plain_sub list)) → i < length list →
    frame.body ≡ i → frame.next ≡ 0 → frame.site.sub ≡ Some i → frame.site.root ≡ Some (place_or site.root place) →
    frame.site.names.items ≡ passed_on (roles_of (map plain_sub list) site) args →
    (after : Outcome) → FrameInlines list left frame now after → Inlines (map plain_sub list) (site_of (map plain_sub list) site left) (C.call place f args) before after
begun list site left place f args before now i frame none e found h body next sub root roles after x =
    let s = there list i h in
    begun_at list site left place f args before now i s.0 frame none e found s.1 body next sub root roles after x

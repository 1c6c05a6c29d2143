-- A file with strips and the file that it stands for have one flat protocol, and the same ranks.
use Rattle.std.proofs.Common.{◌≡◌, ℕ, ℤ, Option, None, List, [], ◌∷◌, map, refl, sym, ap, ◌∙◌, subst}
use Rattle.pb_text.specs.declared.place.Place.{Place}
use Rattle.pb_syntax.specs.Tree.{PlainFile}
use Rattle.pb_core_language.specs.FileRules.{broken, broken_1, broken_2, broken_3, first_or, role_names}
use Rattle.pb_core_language.specs.Meaning.{roles_of, table_of}
use Rattle.pb_core_language.specs.Names.{Name}
use Rattle.pb_core_language.specs.Ranks.{seats}
use Rattle.pb_strips_syntax.specs.declared.tree.StripRole.{StripRole}
use Rattle.pb_strips_syntax.specs.Flattening.{flat_file, flat_roles}
use Rattle.pb_strips_syntax.specs.Strips.{PlainStripFile}
use Rattle.pb_strips_faults.specs.declared.site.EndSite.{EndSite}
use Rattle.pb_strips_faults.specs.Faults.{sites, clash}
use Rattle.pb_strips_faults.specs.Found.{HasNoFault, first}
use Rattle.pb_strips_faults.specs.Spelled.{of_roles, spelled_in, spelled}
use Rattle.pb_strips_laws.specs.Cells.{cells, seat_of}
use Rattle.pb_strips_laws.specs.Laws.{FlatIsStrip}
use Rattle.pb_strips_laws.proofs.Each.{Each, each_part}
use Rattle.pb_strips_laws.proofs.Naming.{AreApart, AreAt, all_at, names_apart}
use Rattle.pb_strips_laws.proofs.Lanes.{Lane, lanes, roles_by_lanes, named, cells_by_lanes, seats_by_lanes, seats_of_lanes}
use Rattle.pb_strips_laws.proofs.Ends.{IsFine, are_fine}
use Rattle.pb_strips_laws.proofs.Spelling.{IsOwn, HasOwn, are_own, own_in}
use Rattle.pb_strips_laws.proofs.Statements.{IsSound}
use Rattle.pb_strips_laws.proofs.Bodies.{body_same}

-- each cell has the number of its seat
ranks_same : (roles : List StripRole) → AreApart (role_names (flat_roles roles)) → (constant : Name) (n : ℤ) →
    map (seat_of roles (role_names (flat_roles roles))) (cells constant n roles) ≡ seats (roles_of constant (flat_roles roles)) n
ranks_same roles apart constant n =
    let ls : List Lane = lanes 0 roles in
    let e = roles_by_lanes 0 roles in
    ap (map (seat_of roles (role_names (flat_roles roles)))) (cells_by_lanes constant n 0 roles)
    ∙ seats_of_lanes constant n roles (role_names (flat_roles roles)) 0 ls (named roles)
    (subst (λ rs. AreAt (role_names (flat_roles roles)) 0 (role_names rs)) e (all_at (role_names (flat_roles roles)) apart))
    ∙ sym (seats_by_lanes constant n 0 ls)
    ∙ ap (λ rs. seats (roles_of constant rs) n) (sym e)

-- ---- what is kept

none_first : (ps : List Place) → first ps ≡ None → ps ≡ []
none_first [] h = refl
none_first (p ∷ ps) h = cc

kept_first : (k : ℕ) (places : List Place) (later : Option (ℕ × Place)) → first_or k places later ≡ None → (places ≡ []) × (later ≡ None)
kept_first k [] later h = (refl, h)
kept_first k (p ∷ ps) later h = cc

keeps : (file : PlainFile) → broken file ≡ None → (broken_1 file ≡ []) × (broken_3 file ≡ [])
keeps file h =
    let a = kept_first 1 (broken_1 file) _ h in
    let b = kept_first 2 (broken_2 file) _ a.1 in
    (a.0, (kept_first 3 (broken_3 file) _ b.1).0)

both_sound : (roles : List StripRole) (es : List EndSite) → Each (IsFine roles) es → Each (HasOwn roles) es → (constant : Name) (labels kernels : List Name) (n : ℤ) → Each (IsSound constant roles labels kernels n) es
both_sound roles [] h g constant labels kernels n = tt
both_sound roles (e ∷ es) h g constant labels kernels n = ((h.0, g.0), both_sound roles es h.1 g.1 constant labels kernels n)

-- the names of the ends are spelled behind those of the roles
ends_own : (f : PlainStripFile) → HasNoFault f → Each (HasOwn f.roles) (sites f)
ends_own f h =
    let all = are_own f.roles (spelled f) (none_first (clash f) h.own) in
    own_in f.roles f.body.list None (each_part (IsOwn f.roles) (of_roles f.roles) (spelled_in f.body.list) all.1.1).1

pub flat_is_strip : FlatIsStrip
flat_is_strip f h kept n within =
    let rules = keeps (flat_file f) kept in
    let apart = names_apart (flat_file f) rules.0 in
    let fine = are_fine f.roles (sites f) (none_first _ h.in_columns) (none_first _ h.bound) (none_first _ h.within) in
    let labels : List Name = (table_of (flat_file f)).labels in
    let kernels : List Name = (table_of (flat_file f)).kernels in
    record {
      ranks = ranks_same f.roles apart f.constant.name n;
      flat = body_same f.constant.name f.roles labels kernels n apart f.body.list (both_sound f.roles (sites f) fine (ends_own f h) f.constant.name labels kernels n) 0 1 rules.1;
    }

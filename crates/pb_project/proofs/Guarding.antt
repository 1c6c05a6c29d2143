-- Those that take part in a statement, and the guards that hold of them.
use Rattle.std.proofs.Common.{◌≡◌, ◌≤◌, ℕ, ℤ, pos, Bool, true, false, ◌&&◌, List, [], ◌∷◌, length, sym, ap, ◌∙◌, subst, arith}
use Rattle.std.specs.List.{All}
use Rattle.std.proofs.lemmas.Bool.{false≢true}
use Rattle.pb_affine.specs.declared.guard.Guard.{Guard}
use Rattle.pb_affine.specs.declared.lin.Lin.{Lin}
use Rattle.pb_affine.specs.Values.{hold}
use Rattle.pb_part_areas.specs.declared.area.Area.{Area}
use Rattle.pb_part_areas.specs.Areas.{have}
use Rattle.pb_part_areas.specs.Fits.{Fits}
use Rattle.pb_core_language.specs.declared.protocol.CoreRole.{CoreRole}
use Rattle.pb_core_language.specs.Flat.{stop, takes_part}
use Rattle.pb_core_language.specs.FlatOf.{flat_stmt}
use Rattle.pb_core_language.specs.Plain.{Protocol}
use Rattle.pb_core_language.specs.Sound.{rows_of, is_stmt}
use Rattle.pb_core_language.specs.Tree.{Mark, StmtTree}
use Rattle.pb_core_language.specs.Verdict.{IsIn}
use Rattle.pb_core_flat.specs.Seated.{rank, is_rank}
use Rattle.pb_local.specs.Tree.{Program}
use Rattle.pb_local.specs.WellMade.{AreGuards, IsGuard, IsRange}
use Rattle.pb_affine.specs.declared.range.NRange.{NRange}
use Rattle.pb_part_takers.specs.Loops.{ids_of, held_of}
use Rattle.pb_project_piece.specs.Ranked.{Ranked, IsThere}
use Rattle.pb_project_piece.proofs.Nears.{few_fitting}
use Rattle.pb_shape.specs.Places.{Here, scope_of, inside, everyone}
use Rattle.pb_shape.specs.Guards.{Names, Somebody, Nobody}
use Rattle.pb_shape.specs.Loops.{Around, takers}
use Rattle.pb_project_choice.specs.Sayable.{AreSayable}
use Rattle.pb_project.specs.Places.{Known, IsPlace, IsGoodStmt, IsReached}
use Rattle.pb_project.specs.Takers.{AreTakers}

-- guards that hold of the ranks in these areas
pub record AreGuardsOf (range : NRange) (roles : ℕ) (areas : List Area) (gs : List Guard) : Type 0 where
  pub is : (list : List CoreRole) (n i : ℤ) (role : ℕ) (x : ℤ) → length list ≡ roles → IsRange range → AreSayable range areas → IsIn range n → is_rank list n role x ≡ true → hold gs n i role x ≡ have areas n role x
  pub each : (l : Program) → length l.roles ≡ roles → All (IsGuard l) gs

-- guards that hold of somebody are some
held_some : (gs : List Guard) (n i : ℤ) (role : ℕ) (x : ℤ) → hold gs n i role x ≡ true → 1 ≤ length gs
held_some [] n i role x h = absurd (false≢true h)
held_some (g ∷ gs) n i role x h = omega arith

module _ (k : Known) (p : Protocol) (l : Program) (cuts : List Lin) (a : Around) (place : IsPlace k p l cuts a) where
  pub in_range : (n : ℤ) → IsIn p.range n → IsIn k.range n
  in_range n within = subst (λ r. IsIn r n) place.stands.range_is within

  pub of_range : (n : ℤ) → IsIn k.range n → IsIn p.range n
  of_range n within = subst (λ r. IsIn r n) (sym place.stands.range_is) within

  pub whole_has : (n : ℤ) (role : ℕ) (x : ℤ) → IsIn p.range n → have k.whole n role x ≡ is_rank p.roles n role x
  whole_has n role x within = place.stands.whole_is.is n role x (in_range n within)

  pub roles_are : k.roles ≡ length l.roles
  roles_are = place.stands.roles_is ∙ sym place.tabled.roles

  module _ (m : Mark) (s : StmtTree) (fair : IsGoodStmt p cuts a m s) (areas : List Area) (taken : AreTakers k.whole k.held m s areas) where
    sound : is_stmt (rows_of p) false (ids_of k.held) s ≡ true
    sound = subst (λ o. is_stmt (rows_of p) false o s ≡ true) place.around.opens fair.fair.sound

    pub areas_are : (n i : ℤ) (role : ℕ) (x : ℤ) → IsIn p.range n → is_rank p.roles n role x ≡ true → have areas n role x ≡ takers (scope_of p) a m s n i role x
    areas_are n i role x within r =
        taken.is (rows_of p) p.roles n role x sound r (whole_has n role x within ∙ r)
        ∙ ap (λ o. takes_part (held_of k.held n role x) (rank p.roles n role x) (flat_stmt p.roles n o (pos 0) m s stop)) (sym place.around.opens)
        ∙ ap (λ h. takes_part h (rank p.roles n role x) (flat_stmt p.roles n a.opens (pos 0) m s stop)) (place.around.within n role x within r)

    pub areas_fit : All (Fits k.range cuts) areas
    areas_fit = taken.fits (rows_of p) k.range cuts sound fair.among place.whole_fits place.held_fits

    sayable : AreSayable k.range areas
    sayable = record { cuts = cuts; are_cuts = place.small; fit = areas_fit }

    guards_hold : (gs : List Guard) → AreGuardsOf k.range k.roles areas gs → (n i : ℤ) (role : ℕ) (x : ℤ) → IsIn p.range n → is_rank p.roles n role x ≡ true → hold gs n i role x ≡ have areas n role x
    guards_hold gs of n i role x within r = of.is p.roles n i role x (sym place.stands.roles_is) place.range_is sayable (in_range n within) r

    pub names : (gs : List Guard) → AreGuardsOf k.range k.roles areas gs → (h : Here) → Names (scope_of p) h gs (takers (scope_of p) a m s)
    names gs of h = λ n i role x within r at. guards_hold gs of n i role x within r ∙ areas_are n i role x within r

    pub somebody : (h : Here) → IsReached (scope_of p) h (takers (scope_of p) a m s) → Ranked k.range k.whole areas → Somebody (scope_of p) h (takers (scope_of p) a m s)
    somebody h reached t =
        let within = of_range t.n t.within in
        let r : is_rank p.roles t.n t.role t.index ≡ true = sym (whole_has t.n t.role t.index within) ∙ t.rank in
        let is = sym (areas_are t.n (pos 0) t.role t.index within r) ∙ t.there in
        record {
          n = t.n;
          i = pos 0;
          role = t.role;
          index = t.index;
          within = within;
          few = few_fitting k.range k.roles k.whole (scope_of p) place.stands areas t (record { cuts = cuts; small = place.small; fits = areas_fit });
          rank = r;
          at = reached.free.at t.n (pos 0);
          comes = reached.come.come t.n (pos 0) t.role t.index within r is;
          is = is;
        }

    pub nobody : IsThere k.range k.whole areas false → (h : Here) → Nobody (scope_of p) h (takers (scope_of p) a m s)
    nobody none h = λ n i role x within r at comes. sym (areas_are n i role x within r) ∙ none n role x (in_range n within) (whole_has n role x within ∙ r)

    pub guards_made : (gs : List Guard) → AreGuardsOf k.range k.roles areas gs → Ranked k.range k.whole areas → AreGuards l gs
    guards_made gs of t =
        let within = of_range t.n t.within in
        let r : is_rank p.roles t.n t.role t.index ≡ true = sym (whole_has t.n t.role t.index within) ∙ t.rank in
        record { some = held_some gs t.n (pos 0) t.role t.index (guards_hold gs of t.n (pos 0) t.role t.index within r ∙ t.there); each = of.each l (sym roles_are) }

    -- inside the statement, of which nobody takes part
    absent : (t c : Bool) → t ≡ false → t && c ≡ true → true ≡ false
    absent true c e h = e
    absent false c e h = absurd (false≢true h)

    pub nobody_inside : IsThere k.range k.whole areas false → (h : Here) → Nobody (scope_of p) (inside h (takers (scope_of p) a m s)) everyone
    nobody_inside none h = λ n i role x within r at comes.
        absent (takers (scope_of p) a m s n i role x) (h.comes n i role x) (sym (areas_are n i role x within r) ∙ none n role x (in_range n within) (whole_has n role x within ∙ r)) comes

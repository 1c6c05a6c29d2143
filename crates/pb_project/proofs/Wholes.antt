-- A whole program.
use Rattle.std.proofs.Common.{◌≡◌, ◌≤◌, ℕ, ℤ, pos, ◌≤ℤ◌, Bool, true, false, ◌&&◌, ◌||◌, nat_eq, nat_le, nat_lt, int_le, List, [], ◌∷◌, length, map, inl, Option, Some, None, refl, sym, ap, ◌∙◌, subst, arith}
use Rattle.std.specs.List.{All}
use Rattle.std.proofs.lemmas.Int.{ints}
use Rattle.std.proofs.lemmas.Bool.Decides.{nat_tests}
use Rattle.std.proofs.lemmas.Bool.{and_parts}
use Rattle.std.proofs.lemmas.List.{length-map}
use Rattle.pb_affine.specs.declared.range.NRange.{NRange}
use Rattle.pb_affine.specs.Values.{value}
use Rattle.pb_choice.specs.declared.rule.ChoiceRule.{ChoiceRule}
use Rattle.pb_choice.specs.Flaws.{fits_of, number_of, misled}
use Rattle.pb_choice.proofs.Leasts.{to_range}
use Rattle.pb_choice.proofs.Tops.{goes, none_strays}
use Rattle.pb_core_language.specs.Cuts.{cuts, role_cuts, block_cuts}
use Rattle.pb_core_language.specs.Plain.{Protocol}
use Rattle.pb_core_language.specs.Rules.{misfits, flat_at, ranked}
use Rattle.pb_core_language.specs.Sound.{is_range, are_roles, is_block, rows_of, is_sound}
use Rattle.pb_core_language.specs.declared.protocol.CoreRole.{CoreRole}
use Rattle.pb_core_language.specs.Verdict as V
use Rattle.pb_core_language.specs.Verdict.{IsIn, KeepsAll}
use Rattle.pb_core_flat.specs.Seated.{rank, is_rank}
use Rattle.pb_core_flat.proofs.Seats.{seat_in_role}
use Rattle.std.specs.Prelude.{IsTrue}
use Rattle.pb_local.specs.Names.{is_name}
use Rattle.pb_local.specs.Tree.{Codes, Program}
use Rattle.pb_local.specs.WellMade as W
use Rattle.pb_local.specs.WellMade.{IsWellMade, AreMade, AreRoles, IsRole, IsRange, AreLabels, AreKernels}
use Rattle.pb_part_takers.proofs.Among.{among_left, among_right}
use Rattle.pb_part_takers.proofs.Finds.{among_itself}
use Rattle.pb_project_piece.proofs.Brought.{rank_brought}
use Rattle.pb_project_piece.proofs.Fews.{few_early}
use Rattle.pb_rules.proofs.CutSets.{nothing_listed}
use Rattle.pb_rules.proofs.CutsSound.{are_all}
use Rattle.pb_rules.proofs.Lists.{Has, contains}
use Rattle.pb_shape.specs.Places.{everyone, everywhere, scope_of, role_of}
use Rattle.pb_shape.specs.Guards.{Somebody}
use Rattle.pb_shape.specs.Loops.{outermost}
use Rattle.pb_shape.specs.Shape.{HasShape, Shape}
use Rattle.pb_shape.specs.Tabled.{IsTabled}
use Rattle.pb_project.specs.Blocks.{known}
use Rattle.pb_project.specs.Places.{IsPlace, IsGood}
use Rattle.pb_project.specs.Wholes.{IsBodyOf, IsLocalOf}

none_in : {X : Type 0} (l : List X) → ((x : X) → Has l x → ⊥) → l ≡ []
none_in [] h = refl
none_in (x ∷ l) h = absurd (h x (inl refl))

-- ---- somebody comes to the start

least_in : (low : ℕ) (high : Option ℕ) → W.IsUpperEnd low high → V.IsUpTo (pos low) high
least_in low None h = tt
least_in low (Some high) h = let le : low ≤ high = h.0 in omega (arith, ints)

least_up_to : (low : ℕ) (high : Option ℕ) → W.IsUpperEnd low high → W.IsUpTo low high
least_up_to low None h = tt
least_up_to low (Some high) h = h.0

first_seat : (low high : ℤ) (b : Bool) → low ≤ℤ high → (nat_eq 0 0 && (int_le low low && int_le low high)) || b ≡ true
first_seat low high b h = grind (arith, ints, nat_tests)

-- the first rank at the least N
some_rank : (range : NRange) (roles : List CoreRole) → range.low ≤ 100000 → are_roles roles ≡ true → length roles ≤ 64 → IsRange range → 1 ≤ length (map role_of roles) → All (IsRole range) (map role_of roles) → Somebody (record { roles = roles; range = range }) everywhere everyone
some_rank range [] early sound few r some each = absurd (omega (arith, some))
some_rank range (c ∷ cs) early sound few r some each =
    let role : IsRole range (role_of c) = each 0 (role_of c) (omega arith) in
    record {
      n = pos range.low;
      i = pos 0;
      role = 0;
      index = value c.low (pos range.low) (pos 0);
      within = record { low = omega (arith, ints); high = least_in range.low range.high r.high };
      few = few_early (c ∷ cs) (pos range.low) sound few (omega (arith, ints)) (omega (arith, ints));
      rank = seat_in_role 0 c cs (pos range.low) 0 (value c.low (pos range.low) (pos 0))
          ∙ first_seat (value c.low (pos range.low) (pos 0)) (value c.high (pos range.low) (pos 0)) _ (role.some range.low (record { low = omega arith; high = least_up_to range.low range.high r.high }));
      at = refl;
      comes = refl;
      is = refl;
    }

module _ (p : Protocol) (sound : is_sound p ≡ true) (tabled : IsTabled p) (keeps : KeepsAll p) where
  roles_sound : are_roles p.roles ≡ true
  roles_sound = (and_parts (are_roles p.roles) _ (and_parts (nat_le (length p.roles) 64) _ (and_parts (is_range p.range) _ sound).1).1).0

  few_roles : length p.roles ≤ 64
  few_roles = grind (arith, nat_tests, (and_parts (nat_le (length p.roles) 64) _ (and_parts (is_range p.range) _ sound).1).0)

  early_range : p.range.low ≤ 100000
  early_range = grind (arith, nat_tests, (and_parts (nat_le p.range.low 100000) _ (and_parts (nat_lt 0 p.range.low) _ (and_parts (is_range p.range) _ sound).0).1).0)

  body_sound : is_block (rows_of p) false [] p.body.block ≡ true
  body_sound = (and_parts (are_roles p.roles) _ (and_parts (nat_le (length p.roles) 64) _ (and_parts (is_range p.range) _ sound).1).1).1

  none_misfits : (k : ChoiceRule) (n : ℤ) (role : ℕ) (x : ℤ) → IsIn p.range n → is_rank p.roles n role x ≡ true → misfits (fits_of k) [] (rank p.roles n role x) (flat_at p n) ≡ []
  none_misfits k n role x within r = none_in _ (λ m there.
      keeps (record { n = n; breach = ranked (number_of k) (record { role = role; index = x }) m })
      (goes p (record { n = n; breach = ranked (number_of k) (record { role = role; index = x }) m }) (misled k m role x within r refl (contains _ m there))))

  body_good : IsGood p (cuts p) outermost p.body.block
  body_good = record {
    fair = record { sound = body_sound; seated = λ n within. none_strays p (λ b broken le. keeps b broken) n within };
    goes = tabled.body;
    among = among_right (role_cuts p.roles) (block_cuts None p.body.block) (cuts p) (among_itself (cuts p));
    keeps = none_misfits;
  }

  module _ (codes : Codes) (body : IsBodyOf p codes) (l : Program) (local : IsLocalOf p codes l) where
    place : IsPlace (known p.range (length p.roles) body.whole [] []) p l (cuts p) outermost
    place = record {
      stands = record {
        range_is = refl;
        roles_is = refl;
        whole_is = record { is = λ n role x within. body.is n role x roles_sound (to_range p.range n within) };
        early = early_range;
        steady = rank_brought p.roles roles_sound;
        fitting = record {
          cuts = cuts p;
          small = are_all p (cuts p) (cuts p) sound refl (nothing_listed (cuts p));
          fits = body.fits (cuts p) roles_sound (among_left (role_cuts p.roles) (block_cuts None p.body.block) (cuts p) (among_itself (cuts p)));
        };
        few = λ n within le. few_early p.roles n roles_sound few_roles (let low = within.low in omega (arith, ints)) le;
      };
      around = record { opens = refl; within = λ n role x within r. refl };
      numbers_are = refl;
      as_many = refl;
      tabled = record { roles = ap length local.roles ∙ length-map p.roles role_of; labels = local.labels; kernels = local.kernels };
      range_is = tabled.range;
      small = are_all p (cuts p) (cuts p) sound refl (nothing_listed (cuts p));
      whole_fits = body.fits (cuts p) roles_sound (among_left (role_cuts p.roles) (block_cuts None p.body.block) (cuts p) (among_itself (cuts p)));
      held_fits = tt;
    }

    pub has_shape : HasShape p l
    has_shape = record {
      protocol = local.protocol;
      range = local.range;
      roles = local.roles;
      labels = local.labels;
      kernels = local.kernels;
      body = subst (λ cs. Shape (scope_of p) everywhere outermost p.body.block cs) (sym local.body)
          (body.block.shape p l (cuts p) outermost everywhere place body_good (record {
            free = record { at = λ n i. refl };
            some = some_rank p.range p.roles early_range roles_sound few_roles tabled.range tabled.roles.some tabled.roles.each;
            come = record { come = λ n i role x within is takes. refl };
          }));
    }

    pub is_well_made : IsWellMade l
    is_well_made = record {
      protocol = subst (λ n. IsTrue (is_name n)) (sym local.protocol) tabled.protocol;
      range = subst IsRange (sym local.range) tabled.range;
      roles = subst (λ r. AreRoles r l.roles) (sym local.range) (subst (AreRoles p.range) (sym local.roles) tabled.roles);
      labels = subst AreLabels (sym local.labels) tabled.labels;
      kernels = subst AreKernels (sym local.kernels) tabled.kernels;
      body = subst (λ cs. AreMade l W.outermost cs) (sym local.body) (body.block.made p l (cuts p) outermost place body_good);
    }

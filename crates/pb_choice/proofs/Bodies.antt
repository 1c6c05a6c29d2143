-- Who takes part in the body of a loop.
use Rattle.std.proofs.Common.{◌≡◌, ℕ, ℤ, pos, true, false, ◌||◌, Option, List, [], ◌∷◌, sym, ap, ap₂, ◌∙◌, subst}
use Rattle.pb_affine.specs.declared.range.NRange.{NRange}
use Rattle.pb_core_language.specs.Tree.{Mark, StmtTree, loop, BlockTree}
use Rattle.pb_core_language.specs.Flat.{stop, takes_part}
use Rattle.pb_core_language.specs.FlatOf.{flat_block}
use Rattle.pb_core_language.specs.Sound.{is_block}
use Rattle.pb_part_areas.specs.declared.area.Area.{Area}
use Rattle.pb_part_areas.specs.Areas.{have}
use Rattle.pb_core_flat.specs.Seated.{rank}
use Rattle.pb_part_takers.specs.declared.held.Held.{Held}
use Rattle.pb_part_takers.specs.Loops.{ids_of, held_of}
use Rattle.pb_part_takers.specs.Pieces.{IsAdded, block_piece}
use Rattle.pb_choice.specs.declared.found.Found.{Found}
use Rattle.pb_choice.specs.Flaws.{IsFlaw, lone_at, of_block, of_stmt, in_body, env_in, is_deserted}
use Rattle.pb_choice.specs.Found.{Improves}
use Rattle.pb_choice.specs.Scenes.{Stands, IsFair, Are}
use Rattle.pb_choice.specs.Walks.{FirstIn, FirstAt, AreInBody, FirstLone}
use Rattle.pb_choice.proofs.FlawSteps.{improves_both}
use Rattle.pb_choice.proofs.Fairs.{fair_body}
use Rattle.pb_choice.proofs.Parts.{loop_parts}

pub in_body_are : (range : NRange) (whole : List Area) (held inside : List Held) (id : ℕ) (body : BlockTree) (none old areas : List Area) →
    none ≡ [] → old ≡ [] → ids_of inside ≡ id ∷ ids_of held → ((n : ℤ) (role : ℕ) (x : ℤ) → held_of inside n role x ≡ have none n role x ∷ held_of held n role x) →
    IsAdded whole inside (block_piece inside body) old areas → AreInBody range whole held id body areas
in_body_are range whole held inside id body none old areas none_is old_is ids_is held_is takers = record {
  is = λ roles rows env stands fair. record {
    is = λ n role x within r.
        takers.is rows roles n role x (subst (λ l. is_block rows false l body ≡ true) (sym ids_is) fair.sound) r (stands.whole_is.is n role x within ∙ r)
        ∙ ap (λ l. have l n role x || takes_part (held_of inside n role x) (rank roles n role x) (flat_block roles n (ids_of inside) (pos 0) body stop)) old_is
        ∙ ap₂ (λ h l. takes_part h (rank roles n role x) (flat_block roles n l (pos 0) body stop))
        (held_is n role x ∙ ap (λ l. have l n role x ∷ held_of held n role x) none_is ∙ ap (λ h. false ∷ h) (stands.held_is n role x within r)) ids_is;
  };
}

pub loop_first : (range : NRange) (whole : List Area) (held inside : List Held) (m k : Mark) (id : ℕ) (body : BlockTree) (areas seen : List Area) (old first new : Option Found) (s : StmtTree) →
    s ≡ loop id k body → seen ≡ areas → AreInBody range whole held id body areas → FirstLone range whole held m id body seen old first →
    ids_of inside ≡ id ∷ ids_of held → ((n : ℤ) (role : ℕ) (x : ℤ) → held_of inside n role x ≡ have areas n role x ∷ held_of held n role x) →
    FirstIn range whole inside body first new → FirstAt range whole held m s old new
loop_first range whole held inside m k id body areas seen old first new s is same are lone ids_is held_is within =
    subst (λ z. FirstAt range whole held m z old new) (sym is) (record {
      is = λ roles rows env stands fair.
          let body_fair : IsFair range roles rows (id ∷ ids_of held) body = fair_body range roles rows (ids_of held) m k id body fair in
          let here : Are range roles areas (λ n role x. in_body roles env (ids_of held) id body n (rank roles n role x)) = are.is roles rows env stands body_fair in
          let inside_stands : Stands range roles (env_in roles env (ids_of held) id body) whole inside = record {
            whole_is = stands.whole_is;
            held_is = λ n role x w r. held_is n role x ∙ ap₂ (λ b l. b ∷ l) (here.is n role x w r) (stands.held_is n role x w r);
          } in
          let a : Improves (IsFlaw range roles (lone_at m (is_deserted roles env (ids_of held) id body))) old first =
          lone.is roles rows env stands body_fair (subst (λ l. Are range roles l (λ n role x. in_body roles env (ids_of held) id body n (rank roles n role x))) (sym same) here) in
          let b : Improves (IsFlaw range roles (of_block roles (env_in roles env (ids_of held) id body) (ids_of inside) body)) first new =
          within.is roles rows (env_in roles env (ids_of held) id body) inside_stands (subst (λ l. IsFair range roles rows l body) (sym ids_is) body_fair) in
          improves_both range roles (lone_at m (is_deserted roles env (ids_of held) id body)) (of_block roles (env_in roles env (ids_of held) id body) (id ∷ ids_of held) body)
          (of_stmt roles env (ids_of held) m (loop id k body)) old first new (loop_parts roles env (ids_of held) m k id body) a
          (subst (λ l. Improves (IsFlaw range roles (of_block roles (env_in roles env (ids_of held) id body) l body)) first new) ids_is b);
    })

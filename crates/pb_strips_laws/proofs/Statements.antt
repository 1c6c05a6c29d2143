-- What a statement of a file with strips does is, flat, what the statements do that it stands for.
use Rattle.std.proofs.Common.{◌≡◌, ℕ, ℤ, Option, None, Some, List, [], ◌∷◌, refl, sym, ap, ap₂, ◌∙◌}
use Rattle.pb_affine.specs.Values.{value}
use Rattle.pb_text.specs.declared.place.Spot.{Spot}
use Rattle.pb_syntax.specs.declared.tree.IndexText.{IndexText}
use Rattle.pb_syntax.specs.declared.tree.IndexText.TheVariants.{Zero, At, Bind}
use Rattle.pb_core_language.specs.declared.protocol.CoreRole.{CoreRole}
use Rattle.pb_core_language.specs.FileRules.{role_names}
use Rattle.pb_core_language.specs.Flat as F
use Rattle.pb_core_language.specs.Flat.{Block, stop}
use Rattle.pb_core_language.specs.FlatOf as flat
use Rattle.pb_core_language.specs.FlatOf.{flat_stmt, flat_block, flat_branches, for_each, operation_of}
use Rattle.pb_core_language.specs.Meaning.{Table, index_of, position_of, roles_of, end_of, with_sender, message_of}
use Rattle.pb_core_language.specs.Names.{Name}
use Rattle.pb_core_language.specs.Ranks as R
use Rattle.pb_core_language.specs.Tree as T
use Rattle.pb_strips_syntax.specs.declared.tree.Col.{Col}
use Rattle.pb_strips_syntax.specs.declared.tree.StripEnd.{StripEnd}
use Rattle.pb_strips_syntax.specs.declared.tree.StripRole.{StripRole}
use Rattle.pb_strips_syntax.specs.Flattening.{named_column, flat_end, flat_roles}
use Rattle.pb_strips_faults.specs.declared.site.Around.{Around}
use Rattle.pb_strips_faults.specs.declared.site.EndSite.{EndSite}
use Rattle.pb_strips_faults.specs.Sites.{site}
use Rattle.pb_strips_laws.specs.Cells.{flat_name}
use Rattle.pb_strips_laws.specs.Flat.{StripTable, nowhere, column_at, rank_of, label_of, values, sent, by_receiver, by_sender, bare}
use Rattle.pb_strips_laws.proofs.Naming.{AreApart}
use Rattle.pb_strips_laws.proofs.Numbering.{number_same}
use Rattle.pb_strips_laws.proofs.Ends.{IsValue, IsFine, has_column}
use Rattle.pb_strips_laws.proofs.Spelling.{IsOwn}

-- the items for each value, whatever is done after
pub each_bare : (items others : ℤ → Block → Block) → ((j : ℤ) (a z : Block) → bare a ≡ z → bare (items j a) ≡ others j z) → (js : List ℤ) (after done : Block) → bare after ≡ done →
    bare (for_each js items after) ≡ for_each js others done
each_bare items others h [] after done e = e
each_bare items others h (j ∷ js) after done e = h j (for_each js items after) (for_each js others done) (each_bare items others h js after done e)

module _ (constant : Name) (roles : List StripRole) (labels kernels : List Name) (n : ℤ) where
  -- the names of the file with strips, and those of the file that it stands for
  abbrev pub strip_names : StripTable
  strip_names = record { constant = constant; roles = roles; labels = labels; kernels = kernels }

  abbrev pub flat_names : Table
  flat_names = record { constant = constant; roles = role_names (flat_roles roles); labels = labels; kernels = kernels }

  abbrev pub core_roles : List CoreRole
  core_roles = roles_of constant (flat_roles roles)

  abbrev pub IsSound : EndSite → Type 0
  IsSound e = IsFine roles e × IsOwn roles e.role

  name_same : (role : Spot) (col : Option Col) (v : Option ℕ) → flat_name role.name (column_at strip_names n col v) ≡ (named_column role col v).name
  name_same role None v = refl
  name_same role (Some col) v = refl

  module _ (apart : AreApart (role_names (flat_roles roles))) (around : Option Around) (v : Option ℕ) (fits : IsValue around v) where
    abbrev IsGood : StripEnd → Type 0
    IsGood e = IsSound (site around e)

    pub rank_same : (e : StripEnd) (i : ℤ) → IsGood e → flat.rank_of core_roles n (end_of flat_names (flat_end v e)) i ≡ rank_of strip_names n e v i
    rank_same e i good =
        let row : ℤ = value (index_of constant e.index) n i in
        ap (λ x. R.number_in (record { role = position_of x (role_names (flat_roles roles)); index = row }) (R.seats core_roles n)) (sym (name_same e.role e.col v))
        ∙ sym (number_same roles e.role.name constant n row (column_at strip_names n e.col v) (has_column strip_names n _ e.col around v fits good.0.alike good.0.free good.0.within) good.1 apart)

    module _ (ids : List ℕ) (l : Spot) (from to : StripEnd) (sender : IsGood from) (receiver : IsGood to) where
      abbrev as_sent : T.StmtTree
      as_sent = message_of flat_names l (flat_end v from) (flat_end v to)

      sent_same : (own : T.Mark) (i : ℤ) (after done : Block) → bare after ≡ done → bare (flat_stmt core_roles n ids i own as_sent after) ≡ sent strip_names n l from to v i done
      sent_same own i after done e =
          let put : ℕ → ℕ → Block → Block = λ a b rest. F.message nowhere a b (label_of strip_names n l) rest in
          ap₂ (λ a b. put a b (bare after)) (rank_same from i sender) (rank_same to i receiver)
          ∙ ap (put (rank_of strip_names n from v i) (rank_of strip_names n to v i)) e

      each_sent : (inner : T.Mark) (js : List ℤ) (after done : Block) → bare after ≡ done →
          bare (for_each js (λ j. flat_block core_roles n ids j (T.more inner as_sent T.nothing)) after) ≡ for_each js (λ j. sent strip_names n l from to v j) done
      each_sent inner js after done e =
          each_bare (λ j a. flat_block core_roles n ids j (T.more inner as_sent T.nothing) a) (λ j z. sent strip_names n l from to v j z) (λ j a z same. sent_same inner j a z same) js after done e

      by_receiver_same : (index : IndexText) (own : T.Mark) (s b : ℕ) (i : ℤ) (after done : Block) → bare after ≡ done →
          bare (flat_stmt core_roles n ids i own (with_sender flat_names s b l (flat_end v from) (flat_end v to) index as_sent) after) ≡ by_receiver strip_names n l from to index v i done
      by_receiver_same Zero own s b i after done e = sent_same own i after done e
      by_receiver_same (At x) own s b i after done e = sent_same own i after done e
      by_receiver_same (Bind x over) own s b i after done e = each_sent _ (values strip_names n over i) after done e

      pub by_sender_same : (index : IndexText) (own : T.Mark) (s b : ℕ) (i : ℤ) (after done : Block) → bare after ≡ done →
          bare
          (flat_stmt core_roles n ids i own (with_sender flat_names s b l (flat_end v from) (flat_end v to) index (with_sender flat_names s b l (flat_end v from) (flat_end v to) to.index as_sent)) after)
          ≡ by_sender strip_names n l from to index v i done
      by_sender_same Zero own s b i after done e = by_receiver_same to.index own s b i after done e
      by_sender_same (At x) own s b i after done e = by_receiver_same to.index own s b i after done e
      by_sender_same (Bind x over) own s b i after done e = each_sent _ (values strip_names n over i) after done e

-- What is known of the parts of a part of a protocol.
use Rattle.std.proofs.Common.{◌≡◌, ℕ, pos, true, false, not, ◌||◌, List, [], ◌∷◌, length, nat_lt, sym, ap, ◌∙◌}
use Rattle.std.proofs.lemmas.Bool.{and_parts}
use Rattle.pb_affine.specs.declared.range.NRange.{NRange}
use Rattle.pb_core_language.specs.declared.protocol.CoreRole.{CoreRole}
use Rattle.pb_core_language.specs.declared.tree.CoreEnd.{CoreEnd}
use Rattle.pb_core_language.specs.Ranks.{seats}
use Rattle.pb_core_language.specs.Tree.{Mark, StmtTree, loop, choice, BlockTree, more, BranchTrees, branch, is_again}
use Rattle.pb_core_language.specs.Flat.{stop}
use Rattle.pb_core_language.specs.FlatOf.{from_none, from_one, flat_stmt, flat_block, flat_branches}
use Rattle.pb_core_language.specs.Rules.{strays, each_origin, each_origin_among}
use Rattle.pb_core_language.specs.Sound.{Rows, is_item, is_end, has_branch, is_stmt, is_block, are_branches}
use Rattle.pb_core_flat.specs.GoesOn.{goes_on}
use Rattle.pb_core_flat.proofs.SoundOnes.{sound_goes_on}
use Rattle.pb_choice.specs.Scenes.{IsFairStmt, IsFair, AreFair}
use Rattle.pb_choice.proofs.Origins.{origins_one_by_one, none_left, none_right}

module _ (range : NRange) (roles : List CoreRole) (rows : Rows) where
  pub goes_if : (opens : List ℕ) (s : StmtTree) → is_stmt rows false opens s ≡ true → is_again s ≡ false → goes_on s ≡ true
  goes_if opens s h e = sound_goes_on rows false opens s h ∙ ap not e

  sound_parts : (opens : List ℕ) (m : Mark) (s : StmtTree) (b : BlockTree) → is_block rows false opens (more m s b) ≡ true → (is_stmt rows false opens s ≡ true) × (is_block rows false opens b ≡ true)
  sound_parts opens m s b h = and_parts (is_stmt rows false opens s) (is_block rows false opens b) (and_parts (not false || is_item s) _ h).1

  -- the first statement, which is no continue
  pub fair_first : (opens : List ℕ) (m : Mark) (s : StmtTree) (b : BlockTree) → is_again s ≡ false → IsFair range roles rows opens (more m s b) → IsFairStmt range roles rows opens m s
  fair_first opens m s b e h =
      let parts = sound_parts opens m s b h.sound in
      record {
        sound = parts.0;
        seated = λ n within. none_left (each_origin (strays (seats roles n)) (flat_stmt roles n opens (pos 0) m s stop)) (each_origin (strays (seats roles n)) (flat_block roles n opens (pos 0) b stop))
            (sym (origins_one_by_one (strays (seats roles n)) roles n opens (pos 0) m s (flat_block roles n opens (pos 0) b stop) (goes_if opens s parts.0 e)) ∙ h.seated n within);
      }

  pub fair_rest : (opens : List ℕ) (m : Mark) (s : StmtTree) (b : BlockTree) → is_again s ≡ false → IsFair range roles rows opens (more m s b) → IsFair range roles rows opens b
  fair_rest opens m s b e h =
      let parts = sound_parts opens m s b h.sound in
      record {
        sound = parts.1;
        seated = λ n within. none_right (each_origin (strays (seats roles n)) (flat_stmt roles n opens (pos 0) m s stop)) (each_origin (strays (seats roles n)) (flat_block roles n opens (pos 0) b stop))
            (sym (origins_one_by_one (strays (seats roles n)) roles n opens (pos 0) m s (flat_block roles n opens (pos 0) b stop) (goes_if opens s parts.0 e)) ∙ h.seated n within);
      }

  pub fair_body : (opens : List ℕ) (m k : Mark) (id : ℕ) (body : BlockTree) → IsFairStmt range roles rows opens m (loop id k body) → IsFair range roles rows (id ∷ opens) body
  fair_body opens m k id body h = record {
    sound = (and_parts (nat_lt (length opens) 64) (is_block rows false (id ∷ opens) body) h.sound).1;
    seated = λ n within.
        none_left (each_origin (strays (seats roles n)) (flat_block roles n (id ∷ opens) (pos 0) body stop)) []
        (none_right (strays (seats roles n) (from_none m)) _ (h.seated n within));
  }

  pub fair_branches : (opens : List ℕ) (m : Mark) (k : ℕ) (at : CoreEnd) (bs : BranchTrees) → IsFairStmt range roles rows opens m (choice k at bs) → AreFair range roles rows opens bs
  fair_branches opens m k at bs h = record {
    sound = (and_parts (has_branch bs) (are_branches rows opens bs) (and_parts (is_end rows false at) _ (and_parts (nat_lt k rows.kernels) _ h.sound).1).1).1;
    seated = λ n within.
        none_left (each_origin_among (strays (seats roles n)) (flat_branches roles n opens (pos 0) bs)) []
        (none_right (strays (seats roles n) (from_one m at n (pos 0))) _ (h.seated n within));
  }

  pub fair_branch : (opens : List ℕ) (m : Mark) (b : BlockTree) (bs : BranchTrees) → AreFair range roles rows opens (branch m b bs) → IsFair range roles rows opens b
  fair_branch opens m b bs h = record {
    sound = (and_parts (is_block rows false opens b) (are_branches rows opens bs) h.sound).0;
    seated = λ n within. none_left (each_origin (strays (seats roles n)) (flat_block roles n opens (pos 0) b stop)) (each_origin_among (strays (seats roles n)) (flat_branches roles n opens (pos 0) bs)) (h.seated n within);
  }

  pub fair_others : (opens : List ℕ) (m : Mark) (b : BlockTree) (bs : BranchTrees) → AreFair range roles rows opens (branch m b bs) → AreFair range roles rows opens bs
  fair_others opens m b bs h = record {
    sound = (and_parts (is_block rows false opens b) (are_branches rows opens bs) h.sound).1;
    seated = λ n within. none_right (each_origin (strays (seats roles n)) (flat_block roles n opens (pos 0) b stop)) (each_origin_among (strays (seats roles n)) (flat_branches roles n opens (pos 0) bs)) (h.seated n within);
  }

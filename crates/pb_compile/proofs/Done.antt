-- A tree of the projection of an accepted file does the protocol.
use Rattle.std.proofs.Common.{◌≡◌, ◌≤◌, ℕ, ◌+◌, ◌*◌, true, List, refl, sym, subst, arith}
use Rattle.pb_core_language.specs.Meaning.{meaning}
use Rattle.pb_core_language.specs.Plain.{Protocol}
use Rattle.pb_core_language.specs.Rules.{breaches}
use Rattle.pb_local.specs.Tree.{program_of, size_all}
use Rattle.pb_ctree.specs.declared.tree.CTree.{CTree}
use Rattle.pb_shape.specs.Sizes.{room_all, braces_all, depth_all}
use Rattle.pb_core_endpoint.proofs.FileDone.{no_breach}
use Rattle.pb_compile_laws.specs.Laws.{FileIsProper, FileIsTabled, FileIsSmall}
use Rattle.pb_shape_ranks.specs.Ranks.{TextRanks}
use Rattle.pb_shape_reached.specs.Reached.{TextIsReached}
use Rattle.pb_compile.specs.Verdict.{IsAcceptedAs}
use Rattle.pb_compile.specs.Compiled.{IsProjected, IsSmall, DoesProtocol, HasNoDeadBranch, IsCompiled}
use Rattle.pb_compile.proofs.Accepted.{of_file, sound_of, keeps_of, proper_of}

module _ (bytes : List ℕ) (p : Protocol) (tree : CTree) (is : IsAcceptedAs bytes p) (projected : IsProjected p tree) where
  does : FileIsProper → TextRanks → DoesProtocol p tree
  does proper ranks n within few =
      ranks p (program_of tree.local) n (sound_of bytes p is) (proper_of bytes p is proper) projected.shape projected.made.made within few
      (no_breach p n within (keeps_of bytes p is) (breaches p n) refl)

  reached : FileIsProper → TextIsReached → HasNoDeadBranch p tree
  reached proper law =
      law p (program_of tree.local) (sound_of bytes p is) (proper_of bytes p is proper) projected.shape projected.made.made
      (λ n within. no_breach p n within (keeps_of bytes p is) (breaches p n) refl)

  -- the bounds of the text, by those of the file
  small : FileIsSmall → size_all (program_of tree.local).body ≤ room_all p.body.block → braces_all (program_of tree.local).body ≤ (2 * depth_all p.body.block + 1) → IsSmall tree
  small law size braces =
      let of_meaning = law bytes is.0 is.1 in
      let room = of_file bytes p is (λ q. room_all q.body.block ≤ 48000) of_meaning.0 in
      let depth = of_file bytes p is (λ q. depth_all q.body.block ≤ 64) of_meaning.1 in
      record { statements = omega (arith, size, room); braces = omega (arith, braces, depth) }

  pub compiled : FileIsProper → FileIsSmall → TextRanks → TextIsReached → size_all (program_of tree.local).body ≤ room_all p.body.block → braces_all (program_of tree.local).body ≤ (2 * depth_all p.body.block + 1) → IsCompiled bytes p tree
  compiled proper law ranks alive size braces = record { accepted = is; projected = projected; small = small law size braces; does = does proper ranks; reached = reached proper alive }

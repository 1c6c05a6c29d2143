-- Parts of a protocol, with who takes part in them.
use Rattle.std.specs.Prelude.{◌≡◌, ◌==◌, ℕ, ℤ, pos, Bool, true, false, ◌&&◌, ◌||◌, nat_eq, List, [], ◌∷◌, ◌++◌, Some, None}
use Rattle.std.specs.List.{All, Contains}
use Rattle.pb_affine.specs.declared.lin.Lin.{Lin}
use Rattle.pb_affine.specs.declared.range.NRange.{NRange}
use Rattle.pb_affine.specs.Values.{value}
use Rattle.pb_part_areas.specs.declared.area.Area.{Area}
use Rattle.pb_part_areas.specs.Areas.{have}
use Rattle.pb_part_areas.specs.Fits.{Fits}
use Rattle.pb_core_language.specs.declared.protocol.CoreRole.{CoreRole}
use Rattle.pb_core_language.specs.declared.tree.CoreEnd.{CoreEnd}
use Rattle.pb_core_language.specs.Cuts.{edges, end_cuts, stmt_cuts, block_cuts, branches_cuts}
use Rattle.pb_core_language.specs.Flat.{stop, takes_part, takes_part_among}
use Rattle.pb_core_language.specs.FlatOf.{rank_of, flat_stmt, flat_block, flat_branches}
use Rattle.pb_core_language.specs.Parts.{takes_part_below, takes_part_within, takes_part_across}
use Rattle.pb_core_language.specs.Plain.{MarkedStmt}
use Rattle.pb_core_language.specs.Sound.{Rows, is_bound, is_end, is_stmt, is_block, are_branches}
use Rattle.pb_core_language.specs.Tree.{Mark, StmtTree, BlockTree, BranchTrees}
use Rattle.pb_core_language.specs.declared.tree.Bounds.{Bounds}
use Rattle.pb_core_flat.specs.Seated.{rank, is_rank}
use Rattle.pb_core_flat.specs.Meets.{is_met, meets, meet}
use Rattle.pb_part_takers.specs.declared.held.Held.{Held}
use Rattle.pb_part_takers.specs.Loops.{ids_of, held_of, HeldFit}

-- each lin of the first list is in the second
abbrev pub AreAmong : List Lin → List Lin → Type 0
AreAmong [] cuts = Unit {0}
AreAmong (l ∷ ls) cuts = Contains cuts l × AreAmong ls cuts

-- whether it is sound, which ranks take part in it, by their role and index at each N, and its cuts
pub record Piece : Type 0 where
  pub sound : Rows → Bool
  pub part : List CoreRole → ℤ → ℕ → ℤ → Bool
  pub cuts : List Lin

-- Among the ranks of `whole` the new areas hold of those that the old ones do, and of those that take part in the piece. They
-- fit wherever the old ones do, and what they are made of.
pub record IsAdded (whole : List Area) (held : List Held) (piece : Piece) (old new : List Area) : Type 0 where
  pub is : (rows : Rows) (roles : List CoreRole) (n : ℤ) (role : ℕ) (x : ℤ) → piece.sound rows ≡ true → is_rank roles n role x ≡ true → have whole n role x ≡ true →
      have new n role x ≡ have old n role x || piece.part roles n role x
  pub fits : (rows : Rows) (range : NRange) (cuts : List Lin) → piece.sound rows ≡ true → AreAmong piece.cuts cuts → All (Fits range cuts) whole → HeldFit range cuts held →
      All (Fits range cuts) old → All (Fits range cuts) new

-- ---- the pieces of a tree, inside these loops

abbrev pub end_piece : CoreEnd → Piece
end_piece e = record {
  sound = λ rows. is_end rows false e;
  part = λ roles n role x. rank_of roles n e (pos 0) == rank roles n role x;
  cuts = end_cuts None e;
}

abbrev pub stmt_piece : List Held → MarkedStmt → Piece
stmt_piece held s = record {
  sound = λ rows. is_stmt rows false (ids_of held) s.stmt;
  part = λ roles n role x. takes_part (held_of held n role x) (rank roles n role x) (flat_stmt roles n (ids_of held) (pos 0) s.mark s.stmt stop);
  cuts = stmt_cuts None s.stmt;
}

abbrev pub block_piece : List Held → BlockTree → Piece
block_piece held b = record {
  sound = λ rows. is_block rows false (ids_of held) b;
  part = λ roles n role x. takes_part (held_of held n role x) (rank roles n role x) (flat_block roles n (ids_of held) (pos 0) b stop);
  cuts = block_cuts None b;
}

abbrev pub branches_piece : List Held → BranchTrees → Piece
branches_piece held bs = record {
  sound = λ rows. are_branches rows (ids_of held) bs;
  part = λ roles n role x. takes_part_among (held_of held n role x) (rank roles n role x) (flat_branches roles n (ids_of held) (pos 0) bs);
  cuts = branches_cuts None bs;
}

-- ---- an end, an item and the items of a foreach, for some value of its variable

abbrev pub met_piece : Bounds → CoreEnd → Piece
met_piece h e = record {
  sound = λ rows. is_bound h.low && (is_bound h.high && is_end rows true e);
  part = λ roles n role x. is_met e (value h.low n (pos 0)) (value h.high n (pos 0)) n role x;
  cuts = edges h.low h.high ++ end_cuts (Some h) e;
}

abbrev pub item_piece : Bounds → List ℕ → StmtTree → Piece
item_piece h ids s = record {
  sound = λ rows. is_bound h.low && (is_bound h.high && is_stmt rows true ids s);
  part = λ roles n role x. meets s (value h.low n (pos 0)) (value h.high n (pos 0)) n role x;
  cuts = edges h.low h.high ++ stmt_cuts (Some h) s;
}

abbrev pub items_piece : Bounds → List ℕ → BlockTree → Piece
items_piece h ids b = record {
  sound = λ rows. is_bound h.low && (is_bound h.high && is_block rows true ids b);
  part = λ roles n role x. meet b (value h.low n (pos 0)) (value h.high n (pos 0)) n role x;
  cuts = edges h.low h.high ++ block_cuts (Some h) b;
}

-- ---- the statements with a number, in a tree

abbrev pub below_piece : List Held → ℕ → StmtTree → Piece
below_piece held k s = record {
  sound = λ rows. is_stmt rows false (ids_of held) s;
  part = λ roles n role x. takes_part_below roles n (rank roles n role x) k (ids_of held) (held_of held n role x) s;
  cuts = stmt_cuts None s;
}

abbrev pub numbered_piece : List Held → ℕ → MarkedStmt → Piece
numbered_piece held k s = record {
  sound = λ rows. is_stmt rows false (ids_of held) s.stmt;
  part = λ roles n role x. nat_eq k s.mark.number && takes_part (held_of held n role x) (rank roles n role x) (flat_stmt roles n (ids_of held) (pos 0) s.mark s.stmt stop);
  cuts = stmt_cuts None s.stmt;
}

abbrev pub within_piece : List Held → ℕ → BlockTree → Piece
within_piece held k b = record {
  sound = λ rows. is_block rows false (ids_of held) b;
  part = λ roles n role x. takes_part_within roles n (rank roles n role x) k (ids_of held) (held_of held n role x) b;
  cuts = block_cuts None b;
}

abbrev pub across_piece : List Held → ℕ → BranchTrees → Piece
across_piece held k bs = record {
  sound = λ rows. are_branches rows (ids_of held) bs;
  part = λ roles n role x. takes_part_across roles n (rank roles n role x) k (ids_of held) (held_of held n role x) bs;
  cuts = branches_cuts None bs;
}

-- ---- all ranks

abbrev pub joint_piece : Piece
joint_piece = record { sound = λ rows. true; part = λ roles n role x. true; cuts = [] }

abbrev pub stmt_of : Mark → StmtTree → MarkedStmt
stmt_of m s = record { mark = m; stmt = s }

-- A simulation that was begun is one of its own tree and N.
use Rattle.std.proofs.Common.{◌≡◌, ℤ, sym, subst}
use Rattle.pb_ctree.specs.declared.tree.CTree.{CTree}
use Rattle.pb_sim.specs.declared.seen.Seen.{Seen}
use Rattle.pb_sim.specs.Made.{IsBegun}

pub as_it_stands : (tree : CTree) (n : ℤ) (x : Seen) → IsBegun tree n x → IsBegun x.state.tree x.state.n x
as_it_stands tree n x h = subst (λ (t : CTree). IsBegun t x.state.n x) (sym h.tree_is) (subst (λ (m : ℤ). IsBegun tree m x) (sym h.n_is) h)

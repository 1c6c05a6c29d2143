-- How many statements a tree has, and how deep they stand.
use Rattle.std.specs.Prelude.{◌≡◌, ◌<◌, ◌^◌}
use Rattle.pb_local.specs.Tree.{plain_all, size_all}
use Rattle.pb_ctree.specs.declared.tree.CTree.{CTree}
use Rattle.pb_machine_next.specs.Heights.{height_all}
use Rattle.pb_machine.specs.declared.sizes.Sizes.{Sizes}

-- exact where they are below 2^60
pub record AreSizes (tree : CTree) (s : Sizes) : Type 0 where
  pub size : s.size < 2 ^ 60 → s.size ≡ size_all (plain_all tree.local.body.items)
  pub height : s.height < 2 ^ 60 → s.height ≡ height_all (plain_all tree.local.body.items)

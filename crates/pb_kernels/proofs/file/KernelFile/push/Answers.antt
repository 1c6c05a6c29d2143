use Rattle.std.proofs.Common.{◌≡◌, ◌∙◌, ap, sym, subst, false, List, [], ◌∷◌, ◌++◌}
use Rattle.pb_kernels.specs.declared.file.NamedBody.{NamedBody}
use Rattle.pb_kernels.specs.Names.{is_among, named_bodies}
use Rattle.pb_kernels.proofs.Keys.{pushed, pushed_distinct}
use Rattle.pb_kernels.proofs.file.KernelFile.push.Goals as goal

fresh : (c : goal.Joined-insert-2) → is_among c.args.body.name (named_bodies c.self.inside.bodies.entries) ≡ false
fresh c = subst (λ (l : List NamedBody). is_among c.args.body.name l ≡ false) (sym c.self.view_is) c.requires

pub invariant_of-self : goal.invariant_of-self
invariant_of-self c =
    pushed_distinct c.self.inside.bodies.entries c.insert.new.self.entries c.args.body.name c.args.body.body (fresh c) c.in-Ok.ensures.entries c.self.invariant

pub returns-in-Ok : goal.returns-in-Ok
returns-in-Ok c =
    pushed c.self.inside.bodies.entries c.insert.new.self.entries c.args.body.name c.args.body.body (fresh c) c.in-Ok.ensures.entries
    ∙ ap (λ (l : List NamedBody). l ++ c.args.body ∷ []) c.self.view_is

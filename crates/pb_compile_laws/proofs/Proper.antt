-- The core of an accepted file keeps the rules on scopes and ends.
use Rattle.pb_core_endpoint.proofs.Shapes.{files_are_shaped}
use Rattle.pb_core_endpoint.proofs.FileProper.{proper_of}
use Rattle.pb_compile_laws.specs.Laws.{FileIsProper}
use Rattle.pb_compile_laws.proofs.Unbroken.{unbroken}

pub file_is_proper : FileIsProper
file_is_proper bytes f text accepted =
    let u = unbroken f accepted.earlier in
    proper_of f (files_are_shaped text.0 f text.2.0) u.three u.four

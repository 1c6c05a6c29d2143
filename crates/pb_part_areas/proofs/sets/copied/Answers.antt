use Rattle.std.proofs.Common.{sym, subst, length, ap, arith}
use Rattle.std.specs.List.{All}
use Rattle.std.proofs.lemmas.List.Elements.{All-nil}
use Rattle.pb_part_areas.specs.Fits.{Fits}
use Rattle.pb_part_areas.specs.Areas.{IsSomewhere, AreSomewhere}
use Rattle.pb_part_areas.specs.Joins.{IsJoinedFrom}
use Rattle.pb_part_areas.proofs.Neighbours.{joined_nothing}
use Rattle.pb_part_areas.proofs.sets.copied.Goals.{then-list-le-SHORT+in_ok-add_all, else-list-le-SHORT+in_ok-attach_all}
use Rattle.pb_part_areas.proofs.sets.copied.Goals as goal

pub returns-clause-fits : goal.returns-clause-fits
returns-clause-fits c = λ range cuts f.
    let none = subst (All (Fits range cuts)) (sym c.new-copy.ensures.items) (All-nil (Fits range cuts)) in
    elim c.if-list-le-SHORT.branch [
      | then-list-le-SHORT+in_ok-add_all w ↦ subst (λ v. All (Fits range cuts) v.items) (sym w.copy-is) (w.in_ok-add_all.ensures.fits range cuts none f)
      | else-list-le-SHORT+in_ok-attach_all w ↦ subst (λ v. All (Fits range cuts) v.items) (sym w.copy-is) (w.in_ok-attach_all.ensures.fits range cuts none f)
    ]

pub returns-clause-some : goal.returns-clause-some
returns-clause-some c =
    let none = subst AreSomewhere (sym c.new-copy.ensures.items) (All-nil IsSomewhere) in
    elim c.if-list-le-SHORT.branch [
      | then-list-le-SHORT+in_ok-add_all w ↦ subst (λ v. AreSomewhere v.items) (sym w.copy-is) (w.in_ok-add_all.ensures.some none)
      | else-list-le-SHORT+in_ok-attach_all w ↦ subst (λ v. AreSomewhere v.items) (sym w.copy-is) (w.in_ok-attach_all.ensures.some none)
    ]

pub returns-clause-joined : goal.returns-clause-joined
returns-clause-joined c = λ few.
    let none = ap length c.new-copy.ensures.items in
    elim c.if-list-le-SHORT.branch [
      | then-list-le-SHORT+in_ok-add_all w ↦
          subst (λ v. IsJoinedFrom 0 v.items) (sym w.copy-is) (w.in_ok-add_all.ensures.joined 0 (omega arith) (subst (IsJoinedFrom 0) (sym c.new-copy.ensures.items) joined_nothing))
      | else-list-le-SHORT+in_ok-attach_all w ↦ let many = w.if-list-le-SHORT.false in absurd (omega arith)
    ]

use Rattle.std.proofs.Common.{◌≡◌, rules, ℕ, ◌+◌, ℤ, List, length, get_or, true, false, ap, sym, ◌∙◌, subst, SFits, w64, to_z, of_z, to_z-of_z}
use Rattle.std.proofs.lemmas.List.Elements.{All-get_or}
use Rattle.pb_cases.specs.Bounds.{IsBounded}
use Rattle.pb_cases.specs.Spans.{IsTops, IsWithSpan}
use Rattle.pb_cases.specs.Live.{IsSpansOf, is_live}
use Rattle.pb_cases.proofs.Live.{no_guard, live_step, still_step, cover_done}
use Rattle.pb_cases.proofs.cover.cover_of.Goals as goal
use Rattle.pb_cases.proofs.cover.cover_of.Goals.{then-is_live+in_ok-add_span, else-is_live}

pub loop-guard-preserved : goal.loop-guard-preserved
loop-guard-preserved c =
    let gs = c.args.guards.now in
    let n = to_z w64 (of_z w64 c.args.n) in
    let i = c.loop-guard.guard-index in
    let g = get_or c.args.guards.now c.loop-guard.guard-index no_guard in
    let bounded : IsBounded g = All-get_or IsBounded gs i no_guard c.loop-guard-test.true c.requires.bounded in
    elim c.if-is_live.branch [
      | then-is_live+in_ok-add_span w ↦
          let live : is_live g n c.args.role ≡ true = sym c.is_live.ensures ∙ w.if-is_live.true in
          let low_fits : SFits w64 w.low_at.result = search rules in
          let high_fits : SFits w64 w.high_at.result = search rules in
          let added : IsWithSpan w.low_at.result w.high_at.result c.loop-guard.lows.items c.loop-guard.highs.items w.add_span.new.lows.items w.add_span.new.highs.items = simp to_z-of_z at w.in_ok-add_span.ensures in
          let next : IsSpansOf gs n c.args.role (i + 1) w.add_span.new.lows.items w.add_span.new.highs.items = live_step gs n c.args.role i c.loop-guard.lows.items c.loop-guard.highs.items w.add_span.new.lows.items w.add_span.new.highs.items w.low_at.result w.high_at.result c.loop-guard-test.true bounded live w.low_at.ensures.is w.high_at.ensures.is added c.loop-guard.invariant in
          subst (λ (l : List ℤ). IsSpansOf gs n c.args.role (i + 1) l c.if-is_live.highs.items) (sym (ap (λ v. v.items) w.lows-is)) (subst (λ (h : List ℤ). IsSpansOf gs n c.args.role (i + 1) w.add_span.new.lows.items h) (sym (ap (λ v. v.items) w.highs-is)) next)
      | else-is_live w ↦
          let still : is_live g n c.args.role ≡ false = sym c.is_live.ensures ∙ w.if-is_live.false in
          let next : IsSpansOf gs n c.args.role (i + 1) c.loop-guard.lows.items c.loop-guard.highs.items = still_step gs n c.args.role i c.loop-guard.lows.items c.loop-guard.highs.items c.loop-guard-test.true bounded still c.loop-guard.invariant in
          subst (λ (l : List ℤ). IsSpansOf gs n c.args.role (i + 1) l c.if-is_live.highs.items) (sym (ap (λ v. v.items) w.lows-is)) (subst (λ (h : List ℤ). IsSpansOf gs n c.args.role (i + 1) c.loop-guard.lows.items h) (sym (ap (λ v. v.items) w.highs-is)) next)
    ]

pub returns : goal.returns
returns c =
    let fits : SFits w64 c.args.n = c.ranges.n in
    let so_far : IsSpansOf c.args.guards.now c.args.n c.args.role c.loop-guard.guard-index c.loop-guard.lows.items c.loop-guard.highs.items = simp to_z-of_z at c.loop-guard.invariant in
    let tops : IsTops c.loop-guard.highs.items c.in_ok-tops.tops.items (length c.loop-guard.highs.items) = simp (c.deref.ensures.value) at c.in_ok-tops.ensures in
    (cover_done c.args.guards.now c.args.n c.args.role c.loop-guard.guard-index c.loop-guard.lows.items c.loop-guard.highs.items c.loop-guard-test.false so_far, subst (λ (k : ℕ). IsTops c.loop-guard.highs.items c.in_ok-tops.tops.items k) so_far.spans.same tops)

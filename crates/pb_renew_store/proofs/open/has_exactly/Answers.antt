use Rattle.std.proofs.Common.{◌≡◌, ◌∙◌, ℕ, List, true, false, length, take, drop, nat_eq, subst, sym, ap, arith, rules, length-drop}
use Rattle.std.proofs.lemmas.List.{drop-drop, take_rest}
use Rattle.std.specs.List.{starts_with}
use Rattle.pb_renew_store.proofs.Bytes.{Compares, compares_not, compares_on}
use Rattle.pb_renew_store.proofs.open.has_exactly.Goals as goal

pub returns-then-not-starts_with : goal.returns-then-not-starts_with
returns-then-not-starts_with g c =
    let differs : starts_with nat_eq (drop c.loop-count.done c.args.bytes.now) (take c.in_ok-count.count c.read_some.new.buf) ≡ false =
    ap (λ (l : List ℕ). starts_with nat_eq l (take c.in_ok-count.count c.read_some.new.buf)) (sym (take_rest c.args.bytes.now c.loop-count.done)) ∙ sym c.starts_with.ensures.value ∙ c.if-not-starts_with.true in
    compares_not _ _ _ _ _ _ c.loop-count.invariant.compares c.in_ok-count.ensures.bytes.0 differs

pub loop-count-preserved : goal.loop-count-preserved
loop-count-preserved g c =
    let fits : starts_with nat_eq (drop c.loop-count.done c.args.bytes.now) (take c.in_ok-count.count c.read_some.new.buf) ≡ true =
    ap (λ (l : List ℕ). starts_with nat_eq l (take c.in_ok-count.count c.read_some.new.buf)) (sym (take_rest c.args.bytes.now c.loop-count.done)) ∙ sym c.starts_with.ensures.value ∙ c.if-not-starts_with.false in
    let long : length (take c.in_ok-count.count c.read_some.new.buf) ≡ c.in_ok-count.count = search rules in
    let within = c.starts_with.ensures.bound c.if-not-starts_with.false in
    record {
      within = omega (arith, long, rw (take_rest c.args.bytes.now c.loop-count.done, length-drop c.loop-count.done c.args.bytes.now) at within);
      compares = subst (λ (l : List ℕ). Compares (g.F.Read.remaining c.args.file.now) (g.F.Read.remaining c.read_some.new.file) c.args.bytes.now l)
          (ap (λ (n : ℕ). drop n (drop c.loop-count.done c.args.bytes.now)) long ∙ drop-drop c.in_ok-count.count c.loop-count.done c.args.bytes.now)
          (compares_on _ _ _ _ _ _ c.loop-count.invariant.compares c.in_ok-count.ensures.bytes.0 fits);
    }

use Rattle.std.proofs.Common.{rules, ◌∙◌, sym, ap, pos, ◌≤ℤ◌, arith, SFits, w64, of_z}
use Rattle.std.proofs.lemmas.Int.{ints}
use Rattle.pb_cost_pieces.specs.Lines.{value_at}
use Rattle.pb_cost_pieces.proofs.Words.{next_word, apart_words, same_words}
use Rattle.pb_cost_pieces.proofs.Extend.{number_extends}
use Rattle.pb_cost_pieces.proofs.longer.with_number.Goals as goal

pub returns-then-value : goal.returns-then-value
returns-then-value c =
    let from_low = c.args.latest.now.from_low in
    let to_low = c.args.latest.now.to_low in
    let low : pos 0 ≤ℤ c.args.latest.now.to = omega (arith, ints, from_low, to_low) in
    let to_is = next_word c.args.latest.now.to low c.args.latest.now.to_high in
    record {
      long = apart_words c.args.latest.now.from c.args.latest.now.to c.if-latest.false;
      off = λ e. c.if-value.true (ap (of_z w64) (c.value.ensures ∙ ap (λ x. value_at c.args.latest.now x) to_is ∙ sym e));
    }

pub returns : goal.returns
returns c =
    let from_low = c.args.latest.now.from_low in
    let to_low = c.args.latest.now.to_low in
    let low : pos 0 ≤ℤ c.args.latest.now.to = omega (arith, ints, from_low, to_low) in
    let to_is = next_word c.args.latest.now.to low c.args.latest.now.to_high in
    let fits : SFits w64 c.value.result = search rules in
    number_extends c.args.latest.now c.longer.result c.args.value
    (ap (λ x. value_at c.args.latest.now x) (sym to_is) ∙ sym c.value.ensures ∙ same_words c.value.result c.args.value fits c.ranges.value c.if-value.false)
    c.longer.ensures.from (c.longer.ensures.to ∙ to_is) c.longer.ensures.start c.longer.ensures.slope

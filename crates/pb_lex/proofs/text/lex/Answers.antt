use Rattle.std.proofs.Common.{◌≡◌, ◌-◌, true, List, ℕ, [], length, length-drop, take, drop, sym, subst, ap, ◌∙◌, arith, rules, append-nil}
use Rattle.std.proofs.lemmas.List.{drop-drop, drop_all}
use Rattle.pb_text.specs.Places.{first_place}
use Rattle.pb_text.specs.Tokens.{Lexes, done, IsText}
use Rattle.pb_text.specs.declared.token.Token.{Token}
use Rattle.pb_lex.proofs.Fronts.{rest_is}
use Rattle.pb_lex.proofs.Refusals.{no_text, one_error}
use Rattle.pb_lex.proofs.Ways.{one_text, text_or_fault}
use Rattle.pb_lex.proofs.Steps.{SoFar, read_on, read_sound, refused}
use Rattle.pb_lex.specs.Seen.{IsBegun, IsRefusal, Reads}
use Rattle.pb_lex.proofs.text.lex.Goals as goal

refusal : (c : goal.After-drop-tokens) → IsRefusal c.args.bytes.now c.stop_of.result
refusal c =
    let bytes = c.args.bytes.now in
    let r = c.lexeme_of-lexeme.result in
    let seen : IsBegun r.sort r.len (drop c.loop-at.at bytes) = subst (IsBegun r.sort r.len) (rest_is bytes c.loop-at.at) c.lexeme_of-lexeme.ensures.seen in
    subst (IsRefusal bytes) (sym c.stop_of.ensures)
    (refused r.sort r.len c.loop-at.place bytes (drop c.loop-at.at bytes) c.loop-at.tokens.items seen c.loop-at.invariant.so_far)

pub returns-then-not-read-clause-refused : goal.returns-then-not-read-clause-refused
returns-then-not-read-clause-refused c = refusal c

pub returns-then-not-read-clause-only_text : goal.returns-then-not-read-clause-only_text
returns-then-not-read-clause-only_text c tokens text = no_text c.args.bytes.now c.stop_of.result (refusal c) tokens text

pub returns-then-not-read-clause-only_fault : goal.returns-then-not-read-clause-only_fault
returns-then-not-read-clause-only_fault c why place first = one_error c.args.bytes.now c.stop_of.result (refusal c) why place first

pub loop-at-preserved : goal.loop-at-preserved
loop-at-preserved c =
    let bytes = c.args.bytes.now in
    let at = c.loop-at.at in
    let r = c.lexeme_of-lexeme.result in
    let text = take (length bytes - at) (drop at bytes) in
    let old = c.loop-at.tokens.items in
    let new = c.read.new.tokens.items in
    let same : text ≡ drop at bytes = rest_is bytes at in
    let ok : c.read.result ≡ true = search rules in
    let reads : Reads r.sort r.len text c.loop-at.place old new = c.read.ensures ok in
    let before : SoFar bytes c.loop-at.place text old = subst (λ (l : List ℕ). SoFar bytes c.loop-at.place l old) (sym same) c.loop-at.invariant.so_far in
    let next : SoFar bytes c.behind-place.result (drop r.len text) new =
    subst (λ p. SoFar bytes p (drop r.len text) new) (sym c.behind-place.ensures)
    (read_on r.sort r.len c.loop-at.place bytes text old new c.lexeme_of-lexeme.ensures.seen reads before) in
    record {
      within = omega (arith, c.lexeme_of-lexeme.ensures.within, ap length same, length-drop at bytes);
      sound = read_sound r.sort r.len text c.loop-at.place old new c.lexeme_of-lexeme.ensures.sound reads c.loop-at.invariant.sound;
      so_far =
          subst (λ (l : List ℕ). SoFar bytes c.behind-place.result l new) (ap (drop r.len) same ∙ drop-drop r.len at bytes) next;
    }

found : (c : goal.After-loop-at) → IsText c.args.bytes.now c.loop-at.tokens.items
found c =
    let bytes = c.args.bytes.now in
    let none : drop c.loop-at.at bytes ≡ [] = drop_all c.loop-at.at bytes (omega arith) in (
      c.loop-at.place,
      subst (λ (l : List Token). Lexes c.loop-at.place [] first_place bytes l) (append-nil c.loop-at.tokens.items)
          (c.loop-at.invariant.so_far c.loop-at.place [] [] (subst (λ (l : List ℕ). Lexes c.loop-at.place [] c.loop-at.place l []) (sym none) done)),
    )

pub returns-clause-text : goal.returns-clause-text
returns-clause-text c = found c

pub returns-clause-only_text : goal.returns-clause-only_text
returns-clause-only_text c tokens text = one_text c.args.bytes.now c.loop-at.tokens.items tokens (found c) text

pub returns-clause-only_fault : goal.returns-clause-only_fault
returns-clause-only_fault c why place first = text_or_fault c.args.bytes.now c.loop-at.tokens.items why place (found c) first

-- A word that is no keyword is a name.
use Rattle.std.proofs.Common.{◌≡◌, ℕ, ◌<◌, ◌≤◌, Bool, true, false, ◌||◌, List, length, take, get_or, None, sym, ap, subst, ◌∙◌, arith, refl}
use Rattle.std.specs.Char.{is_ascii_digit}
use Rattle.std.specs.List.{prefix_len}
use Rattle.std.proofs.lemmas.List.{get_or-take}
use Rattle.std.proofs.lemmas.List.Folds.{length-prefix_len}
use Rattle.pb_text.specs.Lexemes.{begins_word, goes_on_word}
use Rattle.pb_text.specs.Spellings.{key_of}
use Rattle.pb_text.specs.Tokens.{IsName}
use Rattle.pb_lex.proofs.Prefixes.{prefix_some, prefix_passes}

widen : (d a b u : Bool) → ((a || b) || u) ≡ true → (((d || a) || b) || u) ≡ true
widen true a b u h = refl
widen false a b u h = h

pub begun_goes_on : (byte : ℕ) → begins_word byte ≡ true → goes_on_word byte ≡ true
begun_goes_on byte begun = widen (is_ascii_digit byte) _ _ _ begun

pub is_name : (text name : List ℕ) → name ≡ take (prefix_len goes_on_word text) text → 0 < length text → begins_word (get_or text 0 0) ≡ true
    → length name ≤ 64 → key_of name ≡ None → IsName name
is_name text name is some begun few own =
    let len = prefix_len goes_on_word text in
    let begins : 0 < len = prefix_some goes_on_word text some (begun_goes_on (get_or text 0 0) begun) in
    record {
      some = omega (arith, ap length is, length-prefix_len goes_on_word text);
      few = few;
      begins = ap (λ (l : List ℕ). begins_word (get_or l 0 0)) is ∙ ap begins_word (get_or-take len text 0 0 begins) ∙ begun;
      goes_on = subst (λ (l : List ℕ). (k d : ℕ) → k < length l → goes_on_word (get_or l k d) ≡ true) (sym is) (prefix_passes goes_on_word text);
      own = own;
    }

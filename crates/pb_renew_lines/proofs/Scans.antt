-- The rows of a text, one on.
use Rattle.std.proofs.Common.{◌≡◌, ℕ, Bool, true, false, cond, ◌+◌, ◌-◌, ◌≤◌, List, ◌∷◌, length, take, drop, Option, None, Some, sym, ap, subst, ◌∙◌, arith}
use Rattle.std.specs.Prelude.{find}
use Rattle.std.specs.Option.{option_map}
use Rattle.std.proofs.lemmas.List.{drop-drop, drop_all}
use Rattle.pb_text.specs.Places.{one_more}
use Rattle.pb_kernels.specs.Files.{lines}
use Rattle.pb_kernels.proofs.Steps.{FirstLine, rest_is, slice_of}
use Rattle.pb_renew_lines.specs.Lines.{Row, behind, is_sought, number_in, rows_from}
use Rattle.pb_renew_lines.specs.declared.scan.Sought.{Sought}

line_at : (bytes : List ℕ) (at len : ℕ) → take (at + len - at) (drop at bytes) ≡ take len (drop at bytes)
line_at bytes at len = ap (λ n. take n (drop at bytes)) (omega arith)

module _ (sought : Sought) (n : ℕ) (inside : Bool) where
  -- the first row is the one that is sought, or it isn't
  one_found : (line : List ℕ) (rest : List (List ℕ)) → is_sought sought inside line ≡ true → number_in sought (rows_from n inside (line ∷ rest)) ≡ Some n
  one_found line rest e = ap (λ b. option_map (λ (row : Row). row.number) (cond b (Some (record { number = n; is_inside = inside; line = line })) (find (λ (row : Row). is_sought sought row.is_inside row.line) (rows_from (one_more n) (behind inside line) rest)))) e

  one_passed : (line : List ℕ) (rest : List (List ℕ)) → is_sought sought inside line ≡ false → number_in sought (rows_from n inside (line ∷ rest)) ≡ number_in sought (rows_from (one_more n) (behind inside line) rest)
  one_passed line rest e = ap (λ b. option_map (λ (row : Row). row.number) (cond b (Some (record { number = n; is_inside = inside; line = line })) (find (λ (row : Row). is_sought sought row.is_inside row.line) (rows_from (one_more n) (behind inside line) rest)))) e

  -- the same at a place of the bytes
  pub found : (bytes : List ℕ) (at len : ℕ) (whole : Option ℕ) → FirstLine (slice_of bytes at) len → is_sought sought inside (take (at + len - at) (drop at bytes)) ≡ true
      → number_in sought (rows_from n inside (lines (drop at bytes))) ≡ whole → Some n ≡ whole
  found bytes at len whole first is before =
      let split = subst (λ (l : List ℕ). FirstLine l len) (rest_is bytes at) first in
      let here = subst (λ (l : List ℕ). is_sought sought inside l ≡ true) (line_at bytes at len) is in
      sym (one_found (take len (drop at bytes)) (lines (drop len (drop at bytes))) here) ∙ ap (λ (ls : List (List ℕ)). number_in sought (rows_from n inside ls)) (sym split) ∙ before

  pub passed : (bytes : List ℕ) (at len m : ℕ) (then : Bool) (whole : Option ℕ) → FirstLine (slice_of bytes at) len → m ≡ one_more n → then ≡ behind inside (take (at + len - at) (drop at bytes))
      → is_sought sought inside (take (at + len - at) (drop at bytes)) ≡ false
      → number_in sought (rows_from n inside (lines (drop at bytes))) ≡ whole → number_in sought (rows_from m then (lines (drop (at + len) bytes))) ≡ whole
  passed bytes at len m then whole first number goes isnt before =
      let split = subst (λ (l : List ℕ). FirstLine l len) (rest_is bytes at) first in
      let here = subst (λ (l : List ℕ). is_sought sought inside l ≡ false) (line_at bytes at len) isnt in
      let next = goes ∙ ap (behind inside) (line_at bytes at len) in
      ap (λ k. number_in sought (rows_from k then (lines (drop (at + len) bytes)))) number
      ∙ ap (λ b. number_in sought (rows_from (one_more n) b (lines (drop (at + len) bytes)))) next
      ∙ ap (λ (l : List ℕ). number_in sought (rows_from (one_more n) (behind inside (take len (drop at bytes))) (lines l))) (sym (drop-drop len at bytes))
      ∙ sym (one_passed (take len (drop at bytes)) (lines (drop len (drop at bytes))) here)
      ∙ ap (λ (ls : List (List ℕ)). number_in sought (rows_from n inside ls)) (sym split)
      ∙ before

  -- no line is left
  pub ended : (bytes : List ℕ) (at : ℕ) (whole : Option ℕ) → length bytes ≤ at → number_in sought (rows_from n inside (lines (drop at bytes))) ≡ whole → None ≡ whole
  unfolding lines
  ended bytes at whole past before = ap (λ (l : List ℕ). number_in sought (rows_from n inside (lines l))) (sym (drop_all at bytes past)) ∙ before

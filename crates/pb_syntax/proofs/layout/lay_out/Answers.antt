use Rattle.std.proofs.Common.{◌≡◌, ℕ, ◌+◌, ◌-◌, ◌<◌, ◌≤◌, Bool, true, false, if◌then◌else◌, Option, Some, List, [], ◌∷◌, ◌++◌, length, drop, get_or, sym, ap, ◌∙◌, append_assoc, arith}
use Rattle.std.proofs.lemmas.List.{drop_more}
use Rattle.std.proofs.Math.ListN.{drop_of_length-le}
use Rattle.pb_text.specs.declared.token.TokenKind.{TokenKind}
use Rattle.pb_text.specs.declared.token.Mark.TheVariants.{LeftBrace, RightBrace}
use Rattle.pb_syntax.specs.Grammar.{is_mark}
use Rattle.pb_syntax.specs.Layout.{gap_text, gap_at, spelling, depth_of, depth_behind, laid}
use Rattle.pb_syntax.proofs.layout.lay_out.Goals as goal

lay_on : (ks : List TokenKind) (i : ℕ) (k : TokenKind) (last : Option TokenKind) (depth deeper : ℕ) (out new whole : List ℕ) → i < length ks → k ≡ get_or ks i k →
    new ≡ (out ++ gap_text (gap_at last k) (depth_of depth k)) ++ spelling k → deeper ≡ depth_behind depth k →
    out ++ laid last depth (drop i ks) ≡ whole → new ++ laid (Some k) deeper (drop (i + 1) ks) ≡ whole
lay_on ks i k last depth deeper out new whole less is pushed behind so_far =
    let gap = gap_text (gap_at last k) (depth_of depth k) in
    let rest = laid (Some k) (depth_behind depth k) (drop (i + 1) ks) in
    let next : drop i ks ≡ k ∷ drop (i + 1) ks = drop_more ks i k less ∙ ap (λ v. v ∷ drop (i + 1) ks) (sym is) in
    ap (λ l. l ++ laid (Some k) deeper (drop (i + 1) ks)) pushed
    ∙ ap (λ d. ((out ++ gap) ++ spelling k) ++ laid (Some k) d (drop (i + 1) ks)) behind
    ∙ append_assoc (out ++ gap) (spelling k) rest
    ∙ append_assoc out gap (spelling k ++ rest)
    ∙ sym (ap (λ l. out ++ laid last depth l) next)
    ∙ so_far

lay_end : (ks : List TokenKind) (i : ℕ) (last : Option TokenKind) (depth : ℕ) (out new whole : List ℕ) → length ks ≤ i → new ≡ out ++ (10 ∷ []) → out ++ laid last depth (drop i ks) ≡ whole → new ≡ whole
lay_end ks i last depth out new whole le pushed so_far = pushed ∙ sym (ap (λ l. out ++ laid last depth l) (drop_of_length-le ks le)) ∙ so_far

by_brace : (opens closes : Bool) (depth i : ℕ) → depth ≤ i → (if opens then depth + 1 else (if closes then depth - 1 else depth)) ≤ i + 1
by_brace true close depth i le = omega arith
by_brace false true depth i le = omega arith
by_brace false false depth i le = omega arith

still_within : (k : TokenKind) (depth deeper i : ℕ) → deeper ≡ depth_behind depth k → depth ≤ i → deeper ≤ i + 1
still_within k depth deeper i behind le = let h = by_brace (is_mark LeftBrace k) (is_mark RightBrace k) depth i le in omega (arith, behind, h)

pub loop-kind-preserved : goal.loop-kind-preserved
loop-kind-preserved c = record {
  so_far = lay_on c.args.kinds.now c.loop-kind.kind-index c.kind-item.result c.loop-kind.last c.loop-kind.depth c.depth_behind-depth.result c.loop-kind.out.items c.push_token.new.out.items _ c.loop-kind-test.true c.kind-item.is c.in_ok-push_token.ensures c.depth_behind-depth.ensures c.loop-kind.invariant.so_far;
  depth = still_within c.kind-item.result c.loop-kind.depth c.depth_behind-depth.result c.loop-kind.kind-index c.depth_behind-depth.ensures c.loop-kind.invariant.depth;
}

pub returns : goal.returns
returns c = lay_end c.args.kinds.now c.loop-kind.kind-index c.loop-kind.last c.loop-kind.depth c.loop-kind.out.items _ _ c.loop-kind-test.false c.in_ok-push_bytes.ensures c.loop-kind.invariant.so_far

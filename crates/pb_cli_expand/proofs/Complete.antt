-- Of a file with subprotocols whose calls can be replaced all is done, or memory is wanting, or the file can't be read.
use Rattle.std.proofs.Common.{◌≡◌, ◌⊎◌, ◌<◌, ◌≤◌, inl, inr, ℕ, List, length, Option, None, Some, Result, Ok, Err, refl, sym, ap, subst, ◌∙◌, arith}
use Rattle.pb_text.specs.declared.token.Token.{Token}
use Rattle.pb_text.specs.Tokens.{IsText}
use Rattle.pb_lex.proofs.Ways.{one_text}
use Rattle.pb_io.specs.Files.{File, content_of}
use Rattle.pb_syntax.specs.Tree.{PlainFile}
use Rattle.pb_parse.specs.declared.fault.ParseFault.{ParseFault}
use Rattle.pb_parse.specs.declared.fault.ParseFault.TheVariants as P
use Rattle.pb_do_syntax.specs.declared.tree.CallTree.{CallTree}
use Rattle.pb_do_syntax.specs.Calls.{PlainCallFile}
use Rattle.pb_do_syntax.specs.Inlining.{IsInlined}
use Rattle.pb_do_grammar.specs.Grammar.{IsCallFile}
use Rattle.pb_do_grammar.proofs.Final.{one_tree}
use Rattle.pb_do_parse.specs.Limits.{AreWithin}
use Rattle.pb_do_parse.specs.Parsed.{Gives, IsTextFault}
use Rattle.pb_do_parse.proofs.Texts.{only_text}
use Rattle.pb_do_faults.specs.Found.{HasNoFault}
use Rattle.pb_do.specs.Inlined.{IsRefused}
use Rattle.pb_do.specs.declared.fault.DoFault.{DoFault}
use Rattle.pb_do.specs.declared.fault.DoFault.TheVariants as D
use Rattle.pb_do.proofs.Refused.{only_memory}
use Rattle.pb_cli_status.specs.Lines.{status_of}
use Rattle.pb_cli_status.specs.declared.refusal.Refusal.{Refusal}
use Rattle.pb_cli_status.specs.declared.refusal.Refusal.TheVariants as refusal
use Rattle.pb_cli_status.specs.declared.status.Status.{Status}
use Rattle.pb_cli_status.specs.declared.status.Status.TheVariants as S
use Rattle.pb_cli_file.specs.Files.{most_bytes}
use Rattle.pb_cli_expand.specs.Expand.{IsCallTree, IsExpandReply, IsToldOf, IsUnexpanded, call_refusal, text_refusal}

gives_none : (calls : PlainCallFile) (fault : ParseFault) → Gives calls (Err fault) → fault ≡ P.NoMemory
gives_none calls P.NoMemory is = refl
gives_none calls (P.Lex error) is = absurd is
gives_none calls (P.Unexpected place) is = absurd is
gives_none calls (P.TooDeep place) is = absurd is
gives_none calls (P.TooMany limit place) is = absurd is

-- bytes are a file with subprotocols in one way
same_calls : (bytes : List ℕ) (f g : PlainCallFile) → IsCallTree bytes f → IsCallTree bytes g → f ≡ g
same_calls bytes f g p q =
    let same : p.0 ≡ q.0 = one_text bytes p.0 q.0 p.1 q.1 in
    one_tree q.0 f g (subst (λ (ts : List Token). IsCallFile ts f) same p.2.0) q.2.0

module _ (bytes : List ℕ) (calls : PlainCallFile) (file : PlainFile) (read : IsCallTree bytes calls) (sound : HasNoFault calls) (inlined : IsInlined calls file) where
  unexpanded_is : (why : Refusal) → IsUnexpanded bytes why → why ≡ refusal.NoMemory
  unexpanded_is why (inl (fault, is, same)) =
      same ∙ ap text_refusal (gives_none calls fault (only_text bytes (Err fault) is read.0 calls read.1 read.2.0 read.2.1))
  unexpanded_is why (inr (others, is, (fault, refused, same))) =
      same ∙ ap call_refusal (only_memory calls file fault sound inlined (subst (λ (f : PlainCallFile). IsRefused f fault) (same_calls bytes others calls is read) refused))

  told_is : (status : Status) (text : List ℕ) → IsToldOf bytes status text → status ≡ S.NoMemory
  told_is status text (why, is, same, line) = same ∙ ap status_of (unexpanded_is why is)

not_refused : S.Refused ≡ S.NoMemory → ⊥
not_refused e = absurd cc

not_call_fault : S.CallFault ≡ S.NoMemory → ⊥
not_call_fault e = absurd cc

not_limit : S.Limit ≡ S.NoMemory → ⊥
not_limit e = absurd cc

-- no other status belongs to it
pub expand_comes : (name : List ℕ) (files : List File) (calls : PlainCallFile) (file : PlainFile) → length (content_of files name) ≤ most_bytes → IsCallTree (content_of files name) calls → HasNoFault calls → IsInlined calls file
    → (status : Status) (text : List ℕ) → IsExpandReply name (Some files) status text → (status ≡ S.Done) ⊎ ((status ≡ S.NoMemory) ⊎ (status ≡ S.ReadFault))
expand_comes name files calls file short read sound inlined S.Done text is = inl refl
expand_comes name files calls file short read sound inlined S.NoMemory text is = inr (inl refl)
expand_comes name files calls file short read sound inlined S.ReadFault text is = inr (inr refl)
expand_comes name files calls file short read sound inlined S.Refused text is = absurd (not_refused (told_is (content_of files name) calls file read sound inlined S.Refused text is.1))
expand_comes name files calls file short read sound inlined S.CallFault text is = absurd (not_call_fault (told_is (content_of files name) calls file read sound inlined S.CallFault text is.1))
expand_comes name files calls file short read sound inlined S.Limit text (inl is) = absurd (omega (arith, short, is.0))
expand_comes name files calls file short read sound inlined S.Limit text (inr is) = absurd (not_limit (told_is (content_of files name) calls file read sound inlined S.Limit text is.1))
expand_comes name files calls file short read sound inlined other text is = absurd is

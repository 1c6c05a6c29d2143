-- Of a file with strips that stands for a protocol file all is done, or memory is wanting, or the file can't be read.
use Rattle.std.proofs.Common.{◌≡◌, ◌⊎◌, ◌≤◌, inl, inr, ℕ, List, length, None, Some, Err, refl, ap, subst, ◌∙◌, arith}
use Rattle.pb_text.specs.declared.token.Token.{Token}
use Rattle.pb_lex.proofs.Ways.{one_text}
use Rattle.pb_io.specs.Files.{File, content_of}
use Rattle.pb_parse.specs.declared.fault.ParseFault.{ParseFault}
use Rattle.pb_parse.specs.declared.fault.ParseFault.TheVariants as P
use Rattle.pb_strips_syntax.specs.Strips.{PlainStripFile}
use Rattle.pb_strips_grammar.specs.Grammar.{IsStripFile}
use Rattle.pb_strips_grammar.proofs.Final.{one_tree}
use Rattle.pb_strips_grammar.specs.Tokens.{tokens_here}
use Rattle.pb_strips_parse.specs.Parsed.{Gives}
use Rattle.pb_strips_parse.proofs.Texts.{only_text}
use Rattle.pb_strips_faults.specs.Found.{HasNoFault}
use Rattle.pb_strips_flatten.specs.Excess.{excess_of}
use Rattle.pb_strips.specs.Flattened.{IsRefused}
use Rattle.pb_strips.proofs.Refused.{only_memory}
use Rattle.pb_cli_status.specs.Lines.{status_of}
use Rattle.pb_cli_status.specs.declared.refusal.Refusal.{Refusal}
use Rattle.pb_cli_status.specs.declared.refusal.Refusal.TheVariants as refusal
use Rattle.pb_cli_status.specs.declared.status.Status.{Status}
use Rattle.pb_cli_status.specs.declared.status.Status.TheVariants as S
use Rattle.pb_cli_file.specs.Files.{most_bytes}
use Rattle.pb_cli_strips.specs.Strips.{IsStripTree, IsStripsReply, IsToldOf, IsUnflattened, strip_refusal, text_refusal}

gives_none : (strips : PlainStripFile) (fault : ParseFault) → Gives strips (Err fault) → fault ≡ P.NoMemory
gives_none strips P.NoMemory is = refl
gives_none strips (P.Lex error) is = absurd is
gives_none strips (P.Unexpected place) is = absurd is
gives_none strips (P.TooDeep place) is = absurd is
gives_none strips (P.TooMany limit place) is = absurd is

-- bytes are a file with strips in one way
same_strips : (bytes : List ℕ) (f g : PlainStripFile) → IsStripTree bytes f → IsStripTree bytes g → f ≡ g
same_strips bytes f g p q =
    let same : p.0 ≡ q.0 = one_text bytes p.0 q.0 p.1 q.1 in
    one_tree (tokens_here q.0) f g (subst (λ (ts : List Token). IsStripFile (tokens_here ts) f) same p.2.0) q.2.0

module _ (bytes : List ℕ) (strips : PlainStripFile) (read : IsStripTree bytes strips) (sound : HasNoFault strips) (small : excess_of strips ≡ None) where
  unflattened_is : (why : Refusal) → IsUnflattened bytes why → why ≡ refusal.NoMemory
  unflattened_is why (inl (fault, is, same)) =
      same ∙ ap text_refusal (gives_none strips fault (only_text bytes (Err fault) is read.0 strips read.1 read.2.0 read.2.1))
  unflattened_is why (inr (others, is, (fault, refused, same))) =
      same ∙ ap strip_refusal (only_memory strips fault sound small (subst (λ (f : PlainStripFile). IsRefused f fault) (same_strips bytes others strips is read) refused))

  told_is : (status : Status) (text : List ℕ) → IsToldOf bytes status text → status ≡ S.NoMemory
  told_is status text (why, is, same, line) = same ∙ ap status_of (unflattened_is why is)

not_refused : S.Refused ≡ S.NoMemory → ⊥
not_refused e = absurd cc

not_strip_fault : S.StripFault ≡ S.NoMemory → ⊥
not_strip_fault e = absurd cc

not_limit : S.Limit ≡ S.NoMemory → ⊥
not_limit e = absurd cc

-- no other status belongs to it
pub strips_comes : (name : List ℕ) (files : List File) (strips : PlainStripFile) → length (content_of files name) ≤ most_bytes → IsStripTree (content_of files name) strips → HasNoFault strips → excess_of strips ≡ None
    → (status : Status) (text : List ℕ) → IsStripsReply name (Some files) status text → (status ≡ S.Done) ⊎ ((status ≡ S.NoMemory) ⊎ (status ≡ S.ReadFault))
strips_comes name files strips short read sound small S.Done text is = inl refl
strips_comes name files strips short read sound small S.NoMemory text is = inr (inl refl)
strips_comes name files strips short read sound small S.ReadFault text is = inr (inr refl)
strips_comes name files strips short read sound small S.Refused text is = absurd (not_refused (told_is (content_of files name) strips read sound small S.Refused text is.1))
strips_comes name files strips short read sound small S.StripFault text is = absurd (not_strip_fault (told_is (content_of files name) strips read sound small S.StripFault text is.1))
strips_comes name files strips short read sound small S.Limit text (inl is) = absurd (omega (arith, short, is.0))
strips_comes name files strips short read sound small S.Limit text (inr is) = absurd (not_limit (told_is (content_of files name) strips read sound small S.Limit text is.1))
strips_comes name files strips short read sound small other text is = absurd is

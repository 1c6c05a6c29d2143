-- What is inlined is readable.
use Rattle.std.proofs.Common.{ℕ, ◌≤◌, None, Ok, length, refl, sym, subst, arith}
use Rattle.pb_text.specs.Places.{first_place}
use Rattle.pb_syntax.specs.Printed.{Kinds, file_tokens}
use Rattle.pb_syntax.specs.Tree.{PlainFile}
use Rattle.pb_syntax.specs.Grammar as plain_grammar
use Rattle.pb_syntax.proofs.PrintsGrammar.{file_again}
use Rattle.pb_syntax.proofs.Relex.{IsWritten, laid_again}
use Rattle.pb_syntax.proofs.Written.{text_written}
use Rattle.pb_parse.specs.Limits.{at_start}
use Rattle.pb_do_syntax.specs.Calls.{PlainCallFile}
use Rattle.pb_do_syntax.specs.Inlining.{Written, file_with, InlinesFile}
use Rattle.pb_do_grammar.specs.Grammar as calls
use Rattle.pb_do_text_laws.specs.Limits.{AreSmallRoles, IsSmallFile}
use Rattle.pb_do_text_laws.specs.Laws.{IsReadable, InlinedIsReadable}
use Rattle.pb_do_text_laws.proofs.Said.{Said}
use Rattle.pb_do_text_laws.proofs.Spoken.{file_is}
use Rattle.pb_do_text_laws.proofs.Built.{within, file_said}
use Rattle.pb_do_text_laws.proofs.Inlined.{Holds, begun, all_hold}
use Rattle.pb_do_text_laws.proofs.Fits.{AllFit, size_in}
use Rattle.pb_do_text_laws.proofs.Counted.{NonePass, none_passes}
use Rattle.pb_do_text_laws.proofs.Passes.{file_passes}
use Rattle.pb_do_text_laws.proofs.Bytes.{laid_short}
use Rattle.pb_do_text_laws.proofs.Costs.{file_costs, cost_of}

-- a file that is said and fits
pub readable : (f : PlainFile) → Said (plain_grammar.file (plain_grammar.block 64)) f → f.low ≤ 100000 → length f.roles ≤ 64 → AreSmallRoles f.roles → AllFit 63 f.body.list → size_in f.body.list ≤ 4000 → IsReadable f
readable f said small few roles fit most =
    let again = file_again IsWritten said.tokens f (64, said.text) said.written in
    let ks : Kinds = file_tokens f in
    let r = laid_again ks None 0 first_place again.0 in
    let g = again.1 r.tokens r.kinds in
    let passes = file_passes f small few roles fit most in
    let within_limits : NonePass at_start ks = passes.1.within in
    let short = laid_short ks None 0 at_start refl (omega arith) within_limits again.0 in
    record {
      few = omega (arith, short, cost_of ks 50000000 (file_costs f few fit most));
      tokens = r.tokens;
      text = (r.end, r.lexes);
      within = none_passes at_start r.tokens (subst (NonePass at_start) (sym r.kinds) within_limits);
      tree = g.0;
      whole = g.1;
      alike = sym g.2;
    }

-- the statements that are written
holds : (n : ℕ) (f : PlainCallFile) (w : Written) → Said (calls.file (calls.block n)) f → IsSmallFile f → InlinesFile f (Ok w) → Holds (within 63) 63 0 w
holds n f w said small way =
    let spoken = file_is n f said in
    all_hold f.subs spoken.0 small.subs way w refl tt spoken.1 small.body 0 (begun (within 63) 63 0 (omega arith))

pub inlined_is_readable : InlinedIsReadable
inlined_is_readable bytes tokens f file text whole small inlined =
    let said : Said (calls.file (calls.block whole.0)) f = record { tokens = tokens; text = whole.1; written = text_written text.1 } in
    let w = inlined.written in
    let h = holds whole.0 f w said small inlined.inlines in
    subst IsReadable (sym inlined.same)
    (readable (file_with f w.list) (file_said whole.0 63 f w.list said h.said) small.low small.few small.roles h.fits (omega (arith, h.few, h.most)))

-- Why a file isn't inlined, by the parts that say so.
use Rattle.std.proofs.Common.{◌≡◌, ℕ, ◌+◌, Option, Some, None, List, [], ◌∷◌, Result, Ok, Err, MatchResult, IfOk, IfErr, refl, sym, ap, ◌∙◌, arith}
use Rattle.pb_text.specs.declared.place.Place.{Place}
use Rattle.pb_syntax.specs.declared.tree.FileTree.{FileTree}
use Rattle.pb_syntax.specs.Plain as flat
use Rattle.pb_syntax.specs.Tree.{PlainFile, PlainStatement}
use Rattle.pb_do_syntax.specs.Calls.{PlainCallFile}
use Rattle.pb_do_syntax.specs.Inlining.{Written, Excess, Outcome, InlinesFile, IsInlined, file_with, top_site, block_behind}
use Rattle.pb_do_inline.specs.Ends.{HaltsAs}
use Rattle.pb_do_inline.specs.declared.halt.Halt.{Halt}
use Rattle.pb_do_inline.specs.declared.halt.Halt.TheVariants as H
use Rattle.pb_do_faults.specs.declared.call_site.CallSite.{CallSite}
use Rattle.pb_do_faults.specs.declared.fault.CallFault.{CallFault}
use Rattle.pb_do_faults.specs.declared.fault.CallFault.TheVariants as C
use Rattle.pb_do_faults.specs.CallSites.{bodies}
use Rattle.pb_do_faults.specs.Cycles.{Bodies, FirstCycleIn, no_call, on_cycle, off_cycle, FirstCycleFrom, no_body, here, later}
use Rattle.pb_do_faults.specs.Found.{IsFault, HasNoFault}
use Rattle.pb_do.specs.declared.fault.DoFault.{DoFault}
use Rattle.pb_do.specs.declared.fault.DoFault.TheVariants.{Twice, Unknown, Arity, Stranger, Cycle, TooMany, NoMemory}
use Rattle.pb_do.specs.Inlined.{do_fault, stopped, IsRefused, IsExcess}
use Rattle.pb_do.proofs.Once.{one_of_all, same_ok, ok_or_err}

pub refused : (f : PlainCallFile) (e : CallFault) → IsFault f e → IsRefused f (do_fault e)
refused f (C.Twice p) h = h
refused f (C.Unknown p) h = h
refused f (C.Arity p) h = h
refused f (C.Stranger p) h = h
refused f (C.Cycle p) h = h
refused f C.NoMemory h = h

pub exceeded : (f : PlainCallFile) (e : DoFault) → HasNoFault f → IsExcess f e → IsRefused f e
exceeded f (Twice p) n h = absurd h
exceeded f (Unknown p) n h = absurd h
exceeded f (Arity p) n h = absurd h
exceeded f (Stranger p) n h = absurd h
exceeded f (Cycle p) n h = absurd h
exceeded f (TooMany q p) n h = (n, h)
exceeded f NoMemory n h = h

pub halted : (f : PlainCallFile) (h : Halt) → HaltsAs h (InlinesFile f) → IsExcess f (stopped h)
halted f (H.TooMany q p) x = x
halted f H.NoMemory x = x

-- ---- a file without faults that has a result

none_or_some : (p : Place) (o : Option Place) → o ≡ None → o ≡ Some p → ⊥
none_or_some p None e f = absurd (grind arith)
none_or_some p (Some q) e f = absurd (grind arith)

no_cycle_in : (bodies : Bodies) (i : ℕ) (ds : List CallSite) (a b : Option Place) (p : Place) → FirstCycleIn bodies i ds a → a ≡ None → FirstCycleIn bodies i ds b → b ≡ Some p → ⊥
no_cycle_in bodies i [] a b p (no_call e) q (no_call f) r = none_or_some p b f r
no_cycle_in bodies i (d ∷ ds) a b p (on_cycle c e) q y r = none_or_some d.place a q e
no_cycle_in bodies i (d ∷ ds) a b p (off_cycle n x) q (on_cycle c e) r = n c
no_cycle_in bodies i (d ∷ ds) a b p (off_cycle n x) q (off_cycle m y) r = no_cycle_in bodies i ds a b p x q y r

no_cycle : (bodies : Bodies) (i : ℕ) (rest : Bodies) (a b : Option Place) (p : Place) → FirstCycleFrom bodies i rest a → a ≡ None → FirstCycleFrom bodies i rest b → b ≡ Some p → ⊥
no_cycle bodies i [] a b p (no_body e) q (no_body f) r = none_or_some p b f r
no_cycle bodies i (calls ∷ rest) a b p (here place x e) q y r = none_or_some place a q e
no_cycle bodies i (calls ∷ rest) a b p (later x z) q (here place y e) r = no_cycle_in bodies i calls None (Some place) place x refl y refl
no_cycle bodies i (calls ∷ rest) a b p (later x z) q (later y w) r = no_cycle bodies (i + 1) rest a b p z q w r

pub only_memory : (f : PlainCallFile) (file : PlainFile) (e : DoFault) → HasNoFault f → IsInlined f file → IsRefused f e → e ≡ NoMemory
only_memory f file (Twice p) n t h = absurd (none_or_some p _ n.once h)
only_memory f file (Unknown p) n t h = absurd (none_or_some p _ n.known h.1)
only_memory f file (Arity p) n t h = absurd (none_or_some p _ n.counted h.2)
only_memory f file (Stranger p) n t h = absurd (none_or_some p _ n.no_stranger h.3)
only_memory f file (Cycle p) n t h = absurd (no_cycle (bodies f) 0 (bodies f) None (Some p) p n.no_cycle refl h.4 refl)
only_memory f file (TooMany q p) n t h =
    absurd (ok_or_err t.written (record { limit = q; place = p }) (one_of_all f.subs top_site f.body.list (block_behind 0) (Ok t.written) (Err (record { limit = q; place = p })) t.inlines h.1))
only_memory f file NoMemory n t h = refl

pub one_result : (f : PlainCallFile) (a b : PlainFile) → IsInlined f a → IsInlined f b → a ≡ b
one_result f a b x y =
    x.same ∙ ap (λ (w : Written). file_with f w.list) (same_ok x.written y.written (one_of_all f.subs top_site f.body.list (block_behind 0) (Ok x.written) (Ok y.written) x.inlines y.inlines)) ∙ sym y.same

-- what was answered is that result, unless memory ran out
pub only_then : (f : PlainCallFile) (result : Result FileTree DoFault) → IfOk result (λ given. IsInlined f (flat.plain_file given)) → IfErr result (IsRefused f) → HasNoFault f
    → (file : PlainFile) → IsInlined f file → MatchResult result (λ given. flat.plain_file given ≡ file) (λ e. e ≡ NoMemory)
only_then f (Ok given) is denied n file t = one_result f (flat.plain_file given) file is t
only_then f (Err e) is denied n file t = only_memory f file e n t denied

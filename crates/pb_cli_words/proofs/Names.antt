-- What is asked for by a command's name.
use Rattle.std.proofs.Common.{◌≡◌, ℕ, Bool, true, false, cond, codes, nat_eq, List, Option, Some, None, IfSome, refl, sym, ap, ◌∙◌, subst}
use Rattle.std.specs.Cmp.Lexicographic.{pointwise, same_text}
use Rattle.pb_cli_words.specs.declared.command.Command.{Command}
use Rattle.pb_cli_words.specs.declared.command.Command.TheVariants as C
use Rattle.pb_cli_words.specs.Said.{Given}
use Rattle.pb_cli_words.specs.Request.{◌>>=◌, AsksForFew, HasFewTurns, Request, check, gen, gen_with, project, sim, replay, run, demo, expand, strips, cost, judge, asked, demo_in, gen_in, judge_in, of_file, only_n, plain_file, replay_in, request_if, run_in, sim_in, two_files}

abbrev Text : Type 0
Text = List ℕ

-- ---- a command whose name is known

pub gen_named : (command : Text) (files : List Text) (options : List Given) → command ≡ codes "gen" → gen_in files options ≡ asked command files options
gen_named command files options is = sym (ap (λ name. asked name files options) is)

pub sim_named : (command : Text) (files : List Text) (options : List Given) → command ≡ codes "sim" → sim_in files options ≡ asked command files options
sim_named command files options is = sym (ap (λ name. asked name files options) is)

pub replay_named : (command : Text) (files : List Text) (options : List Given) → command ≡ codes "replay" → replay_in files options ≡ asked command files options
replay_named command files options is = sym (ap (λ name. asked name files options) is)

pub run_named : (command : Text) (files : List Text) (options : List Given) → command ≡ codes "run" → run_in files options ≡ asked command files options
run_named command files options is = sym (ap (λ name. asked name files options) is)

pub demo_named : (command : Text) (files : List Text) (options : List Given) → command ≡ codes "demo" → demo_in files options ≡ asked command files options
demo_named command files options is = sym (ap (λ name. asked name files options) is)

pub judge_named : (command : Text) (files : List Text) (options : List Given) → command ≡ codes "judge" → judge_in files options ≡ asked command files options
judge_named command files options is = sym (ap (λ name. asked name files options) is)

-- ---- a command of another name

not_named : (command name : Text) → (command ≡ name → ⊥) → false ≡ pointwise nat_eq command name
not_named command name differs = go (pointwise nat_eq command name) refl
  where
    go : (b : Bool) → pointwise nat_eq command name ≡ b → false ≡ b
    go true e = absurd (differs (same_text command name (sym e)))
    go false e = refl

-- the chain of names, with the value of each test
abbrev chain : (c g p s r u d e t k j : Bool) → Option Text → (gens sims replays runs demos judges : Option Request) → Option Request
chain c g p s r u d e t k j file gens sims replays runs demos judges =
    cond c (file >>= λ file. Some (check file))
    (cond g gens
    (cond p (file >>= λ file. Some (project file))
    (cond s sims
    (cond r replays
    (cond u runs
    (cond d demos
    (cond e (file >>= λ file. Some (expand file))
    (cond t (file >>= λ file. Some (strips file)) (cond k (file >>= λ file. Some (cost file)) (cond j judges None))))))))))

abbrev plain_chain : (c p e t k : Bool) → Text → Option Request
plain_chain c p e t k file =
    cond c (Some (check file)) (cond p (Some (project file)) (cond e (Some (expand file)) (cond t (Some (strips file)) (cond k (Some (cost file)) None))))

either : {x : Option Request} (b : Bool) → None ≡ x → None ≡ cond b None x
either true none = refl
either false none = none

left : (c p e t k : Bool) (file : Option Text) (gens sims replays runs demos judges : Option Request)
    → (file >>= λ file. plain_chain c p e t k file) ≡ chain c false p false false false false e t k false file gens sims replays runs demos judges
left c p e t k (Some file) gens sims replays runs demos judges = refl
left c p e t k None gens sims replays runs demos judges = either c (either p (either e (either t (either k refl))))

pub by_file : (command : Text) (files : List Text) (options : List Given) (file : Option Text) (r : Option Request) → file ≡ plain_file files options → r ≡ (file >>= λ f. of_file command f)
    → (command ≡ codes "gen" → ⊥) → (command ≡ codes "sim" → ⊥) → (command ≡ codes "replay" → ⊥) → (command ≡ codes "run" → ⊥) → (command ≡ codes "demo" → ⊥) → (command ≡ codes "judge" → ⊥)
    → r ≡ asked command files options
by_file command files options file r one is g s p u d j =
    is ∙ left (named (codes "check")) (named (codes "project")) (named (codes "expand")) (named (codes "strips")) (named (codes "cost")) file (gen_in files options)
    (sim_in files options) (replay_in files options) (run_in files options) (demo_in files options) (judge_in files options)
    ∙ (λ i. chain (named (codes "check")) (not_named command (codes "gen") g i) (named (codes "project")) (not_named command (codes "sim") s i) (not_named command (codes "replay") p i)
    (not_named command (codes "run") u i) (not_named command (codes "demo") d i) (named (codes "expand")) (named (codes "strips")) (named (codes "cost"))
    (not_named command (codes "judge") j i) (one i) (gen_in files options) (sim_in files options) (replay_in files options) (run_in files options) (demo_in files options)
    (judge_in files options))
  where
    named : Text → Bool
    named name = pointwise nat_eq command name

-- ---- that few events are asked for

abbrev pub IsOfFew : Request → Type 0
IsOfFew (check file) = Unit {0}
IsOfFew (gen file) = Unit {0}
IsOfFew (gen_with file kernels) = Unit {0}
IsOfFew (project file) = Unit {0}
IsOfFew (sim text options) = HasFewTurns options
IsOfFew (replay text schedule n) = Unit {0}
IsOfFew (run file options) = HasFewTurns options
IsOfFew (demo count) = Unit {0}
IsOfFew (expand file) = Unit {0}
IsOfFew (strips file) = Unit {0}
IsOfFew (cost file) = Unit {0}
IsOfFew (judge file log n) = Unit {0}

few_if : (r : Option Command) → IfSome (request_if r) IsOfFew → IfSome r AsksForFew
few_if None few = few
few_if (Some (C.Check file)) few = few
few_if (Some (C.Gen file)) few = few
few_if (Some (C.GenWith file kernels)) few = few
few_if (Some (C.Project file)) few = few
few_if (Some (C.Sim text options)) few = few
few_if (Some (C.Replay text schedule n)) few = few
few_if (Some (C.Run file options)) few = few
few_if (Some (C.Demo count)) few = few
few_if (Some (C.Expand file)) few = few
few_if (Some (C.Strips file)) few = few
few_if (Some (C.Cost file)) few = few
few_if (Some (C.Judge file log n)) few = few

few_both : (of : Text → Text → ℕ → Request) → ((file other : Text) (n : ℕ) → IsOfFew (of file other n)) → (both : Option (Text × Text)) (n : Option ℕ)
    → IfSome (both >>= λ both. n >>= λ n. Some (of both.0 both.1 n)) IsOfFew
few_both of few None n = tt
few_both of few (Some both) None = tt
few_both of few (Some both) (Some n) = few both.0 both.1 n

pub few_replay : (r : Option Command) (files : List Text) (options : List Given) → request_if r ≡ replay_in files options → IfSome r AsksForFew
few_replay r files options is = few_if r (subst (λ x. IfSome x IsOfFew) (sym is) (few_both replay (λ file other n. tt) (two_files files) (only_n options)))

pub few_judge : (r : Option Command) (files : List Text) (options : List Given) → request_if r ≡ judge_in files options → IfSome r AsksForFew
few_judge r files options is = few_if r (subst (λ x. IfSome x IsOfFew) (sym is) (few_both judge (λ file other n. tt) (two_files files) (only_n options)))

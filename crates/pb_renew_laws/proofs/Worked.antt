-- Calls at once on a worked example: one has the lock and puts its bodies and its text, the other meets the lock, tries again, and finds
-- another OUT than it was told.
use Rattle.std.proofs.Common.{◌≡◌, ℕ, ◌<◌, zero, suc, nat_eq, Bool, true, false, if◌then◌else◌, List, [], ◌∷◌, ◌++◌, Option, None, Some, IsSome, inl, inr, codes, refl, sym, ap, subst, ◌∙◌, arith}
use Rattle.std.specs.Cmp.Lexicographic.{pointwise}
use Rattle.std.proofs.lemmas.Bool.Decides.{Decides-eqb}
use Rattle.std.proofs.lemmas.Option.{same_Some}
use Rattle.pb_ctree.specs.Functions.{named as function_named}
use Rattle.pb_ctree.specs.declared.kernel.Kind.TheVariants.{Compute}
use Rattle.pb_ctree.specs.declared.kernel.KName.{KName}
use Rattle.pb_io.specs.Files.{File}
use Rattle.pb_kernels.specs.Files.{program_file, lines, read_from, step}
use Rattle.pb_kernels.specs.Marks.{ends_marker, kernel_of, marker_of, opening_of}
use Rattle.pb_kernels.specs.Names.{body_of}
use Rattle.pb_renew_merge.specs.Lost.{Keeps, NothingLost}
use Rattle.pb_renew_store.specs.Changes.{KeepsOthers}
use Rattle.pb_renew_store.specs.Deeds.{Deed, made, met, wrote, compared, synced, settled, renamed, removed}
use Rattle.pb_renew_store.proofs.Files.{behind_front, named}
use Rattle.pb_renew_put.specs.Jobs.{Task}
use Rattle.pb_renew_put.specs.Names.{left_name, new_name, spare_name}
use Rattle.pb_renew_put.specs.Phases.{start, walk}
use Rattle.pb_renew_laws.specs.Bodies.{Sound, Stands, StandsIn}
use Rattle.pb_renew_laws.specs.Calls.{AreOf, AtOnce, Turn, deeds_of}
use Rattle.pb_renew_laws.proofs.Calls.{lose_nothing}
use Rattle.pb_renew_laws.proofs.Moves.{no_body}

abbrev file : List ℕ
file = codes "p.pbl"

abbrev out : List ℕ
out = codes "p.c"

-- the old OUT, whose only body has no function any more
abbrev was : List ℕ
was = codes "/*@ kernel k_A */\na = 1;\n/*@ end */\n"

abbrev first : List ℕ
first = codes "int a;\n"

abbrev second : List ℕ
second = codes "int b;\n"

-- the body goes to OUT.left, which isn't there yet
abbrev puts : List ℕ → Task
puts text = record { file = file; source = codes "P"; out = out; old = Some was; text = text; behind = Some (record { before = None; bodies = was }); keeps_old = false }

abbrev tasks : ℕ → Task
tasks zero = puts first
tasks (suc call) = puts second

abbrev by : ℕ → Deed → Turn
by call deed = record { call = call; deed = deed }

abbrev turns : List Turn
turns =
    by 0 (made (new_name out)) ∷ by 1 (met (new_name out)) ∷ by 0 (wrote (new_name out) first) ∷ by 0 (synced (new_name out))
    ∷ by 0 (compared file (Some (codes "P")) true) ∷ by 0 (compared out (Some was) true) ∷ by 0 (compared (left_name out) None true)
    ∷ by 0 (made (spare_name out)) ∷ by 0 (wrote (spare_name out) was) ∷ by 0 (synced (spare_name out)) ∷ by 0 (renamed (spare_name out) (left_name out))
    ∷ by 0 (settled (left_name out)) ∷ by 0 (renamed (new_name out) out) ∷ by 1 (made (new_name out)) ∷ by 0 (settled out)
    ∷ by 1 (compared file (Some (codes "P")) true) ∷ by 1 (compared out (Some was) false) ∷ by 1 (removed (new_name out)) ∷ []

abbrev before : List File
before = named file (codes "P") ∷ named out was ∷ []

-- the lock, with these bytes
abbrev locked : List ℕ → List File
locked bytes = named (new_name out) bytes ∷ before

-- under it a new OUT.left
abbrev spared : List ℕ → List File
spared bytes = named (spare_name out) bytes ∷ locked first

abbrev grown : List File
grown = named (left_name out) was ∷ locked first

-- OUT has the text of the call that had the lock first, and OUT.left the body
abbrev after : List File
after = named (left_name out) was ∷ named out first ∷ before

-- the lock of the other call
abbrev again : List File
again = named (new_name out) [] ∷ after

-- ---- what the deeds do

others_back : (name bytes : List ℕ) (files : List File) → KeepsOthers name (named name bytes ∷ files) files
others_back name bytes files other apart = sym (behind_front name bytes files other apart)

others_same : (name bytes now : List ℕ) (files : List File) → KeepsOthers name (named name bytes ∷ files) (named name now ∷ files)
others_same name bytes now files other apart = behind_front name now files other apart ∙ sym (behind_front name bytes files other apart)

grows : (piece had : List ℕ) → Some [] ≡ Some had → Some piece ≡ Some (had ++ piece)
grows piece had e = ap (λ (l : List ℕ). Some (l ++ piece)) (same_Some _ _ e)

-- there is no third call
apart : (one call : ℕ) (test : Bool) → one < suc (suc call) → nat_eq one (suc (suc call)) ≡ test → nat_eq one (suc (suc call)) ≡ false
apart one call true less e =
    let same : one ≡ suc (suc call) = (Decides-eqb one (suc (suc call))).0 e in
    absurd (omega arith)
apart one call false less e = e

quiet : (call : ℕ) → nat_eq 0 call ≡ false → nat_eq 1 call ≡ false → deeds_of call turns ≡ []
quiet call not_first not_second = rw not_first (rw not_second refl)

may : (call : ℕ) → IsSome (walk (tasks call) (deeds_of call turns) start)
may zero = refl
may (suc zero) = refl
may (suc (suc call)) =
    let none : deeds_of (suc (suc call)) turns ≡ [] = quiet (suc (suc call)) (apart 0 call _ (omega arith) refl) (apart 1 call _ (omega arith) refl) in
    subst (λ (deeds : List Deed). IsSome (walk (puts second) deeds start)) (sym none) refl

pub at_once : AtOnce tasks turns before after
at_once = record {
  may = may;
  files = (
    locked [],
    (refl, refl, behind_front (new_name out) [] before),
    (
      locked [],
      (refl, refl),
      (
        locked first,
        (refl, grows first, others_same (new_name out) [] first before),
        (
          locked first,
          refl,
          (
            locked first,
            (refl, refl),
            (
              locked first,
              (refl, refl),
              (
                locked first,
                (refl, refl),
                (
                  spared [],
                  (refl, refl, behind_front (spare_name out) [] (locked first)),
                  (
                    spared was,
                    (refl, grows was, others_same (spare_name out) [] was (locked first)),
                    (
                      spared was,
                      refl,
                      (
                        grown,
                        (
                          refl,
                          record {
                            there = refl;
                            gone = λ apart. refl;
                            others = λ other from to. behind_front (left_name out) was (locked first) other to ∙ sym (behind_front (spare_name out) was (locked first) other from);
                          },
                        ),
                        (
                          grown,
                          refl,
                          (
                            after,
                            (
                              refl,
                              record {
                                there = refl;
                                gone = λ apart. refl;
                                others = λ other from to. ap (λ (o : Option (List ℕ)). if pointwise nat_eq (left_name out) other then Some was else o)
                                    (behind_front out first before other to ∙ sym (behind_front (new_name out) first before other from));
                              },
                            ),
                            (
                              again,
                              (refl, refl, behind_front (new_name out) [] after),
                              (
                                again,
                                refl,
                                (
                                  again,
                                  (refl, refl),
                                  (
                                    again,
                                    (refl, refl),
                                    (
                                      after,
                                      (refl, others_back (new_name out) [] after),
                                      refl,
                                    ),
                                  ),
                                ),
                              ),
                            ),
                          ),
                        ),
                      ),
                    ),
                  ),
                ),
              ),
            ),
          ),
        ),
      ),
    ),
  );
}

-- ---- what the law says of it

all_there : (bytes text : List ℕ) → NothingLost bytes text bytes
all_there bytes text = λ list read name there. inr (record { list = list; read = read; there = there; same = refl })

none_there : (bytes : List ℕ) → StandsIn [] bytes
none_there bytes = λ list read name there. no_body name (body_of name list) (record { list = list; read = read; there = there; same = refl })

pub sound : (call : ℕ) → Sound (tasks call)
sound zero = record { whole = all_there was first; grows = none_there was; known = all_there was [] }
sound (suc call) = record { whole = all_there was second; grows = none_there was; known = all_there was [] }

pub are_of : AreOf out tasks
are_of zero = refl
are_of (suc call) = refl

pub none_lost : (name : KName) (body : List ℕ) → Stands name body out before → Stands name body out after
none_lost = lose_nothing out tasks are_of sound turns before after at_once

abbrev name : KName
name = function_named Compute (codes "A")

abbrev body : List ℕ
body = codes "a = 1;\n"

stood : Keeps name body was
unfolding program_file lines read_from step marker_of kernel_of opening_of ends_marker
stood = record { list = record { name = name; body = body } ∷ []; read = refl; there = refl; same = refl }

pub stands : Stands name body out after
stands = none_lost name body (inl stood)

-- The flat endpoint of one rank, and its machine.
use Rattle.std.specs.Prelude.{ℕ, zero, suc, ◌==◌, cond, Bool, false, List, [], ◌∷◌, Option, Some, None}
use Rattle.pb_world.specs.Actions.{Action, Choose, Run, Send, Recv, Enter, Leave, Collective, Chooses, Runs, Sends, Receives, Enters, Leaves}
use Rattle.pb_world.specs.Machine.{Next, Silent, Does, Probe, Ended, Machine}
use Rattle.pb_core_language.specs.Flat as F
use Rattle.pb_core_language.specs.Lists.{nth, is_among}
use Rattle.pb_core_language.specs.Flat.{Block, stop, message, compute, together, choice, looped, Branches, no_branch, branch, takes_part, takes_part_among}
use Rattle.pb_core_language.specs.Run.{Opener, Top, Chosen, Body, Frame, Env, at_rank, env_over, env_of, live}
use Rattle.pb_core_language.specs.Outcomes.{firsts, firsts_among, source_of, labels_of}

mutual
  pub data Code : Type 0 where
    done : Code
    send : (to label : ℕ) (rest : Code) → Code
    receive : (from label : ℕ) (rest : Code) → Code
    run : (kernel : ℕ) (rest : Code) → Code
    enter : (joint : Collective) (rest : Code) → Code
    leave : (joint : Collective) (rest : Code) → Code
    choose : (kernel : ℕ) (arms : Arms) (rest : Code) → Code
    told : (source : ℕ) (arms : Arms) (rest : Code) → Code
    loop : (body rest : Code) → Code
    again : (n : ℕ) → Code

  -- the branches, each with the labels that say that it was taken
  pub data Arms : Type 0 where
    no_arm : Arms
    arm : (labels : List ℕ) (first : Code) (rest : Arms) → Arms

-- what a rank does of a block: all in which it takes no part is dropped
abbrev mutual
  pub code : List Bool → ℕ → Block → Code
  code held r stop = done
  code held r (message origin p q l g) = cond (p == r) (send q l (code held r g)) (cond (q == r) (receive p l (code held r g)) (code held r g))
  code held r (compute origin p k g) = cond (p == r) (run k (code held r g)) (code held r g)
  code held r (together origin j g) = enter j (leave j (code held r g))
  code held r (choice origin p k bs g) =
      cond (p == r) (choose k (arms held r bs) (code held r g))
      (cond (takes_part_among held r bs) (told (source_of (firsts_among held r bs)) (arms held r bs) (code held r g)) (code held r g))
  code held r (looped origin b g) = cond (takes_part (false ∷ held) r b) (loop (code (takes_part (false ∷ held) r b ∷ held) r b) (code held r g)) (code held r g)
  code held r (F.again n) = cond (nth held n) (again n) done

  pub arms : List Bool → ℕ → Branches → Arms
  arms held r no_branch = no_arm
  arms held r (branch mark b bs) = arm (labels_of (firsts held r b)) (code held r b) (arms held r bs)

-- what is still to do of a block, and the body where it is a loop's
pub record Part : Type 0 where
  pub body : Option Code
  pub code : Code

abbrev pub count_arms : Arms → ℕ
count_arms no_arm = 0
count_arms (arm t c xs) = suc (count_arms xs)

abbrev pub arm_at : ℕ → Arms → Code
arm_at x no_arm = done
arm_at zero (arm t c xs) = c
arm_at (suc x) (arm t c xs) = arm_at x xs

-- the first arm that has the label
abbrev pub arm_of : Arms → ℕ → Option Code
arm_of no_arm l = None
arm_of (arm t c xs) l = cond (is_among l t) (Some c) (arm_of xs l)

abbrev pub next_code : Code → Next
next_code done = Silent
next_code (send q l c) = Does (Sends q l)
next_code (receive p l c) = Does (Receives p l)
next_code (run k c) = Does (Runs k)
next_code (enter j c) = Does (Enters j)
next_code (leave j c) = Does (Leaves j)
next_code (choose k xs c) = Does (Chooses k (count_arms xs))
next_code (told p xs c) = Probe p
next_code (loop b c) = Silent
next_code (again n) = Silent

abbrev pub next_at : List Part → Next
next_at [] = Ended
next_at (f ∷ K) = next_code f.code

abbrev pub return_over : Option Code → ℕ → List Part → (ℕ → List Part) → List Part
return_over None n K k = k n
return_over (Some b) zero K k = record { body = Some b; code = b } ∷ K
return_over (Some b) (suc n) K k = k n

abbrev pub return_to : List Part → ℕ → List Part
return_to [] n = []
return_to (f ∷ K) n = return_over f.body n K (return_to K)

abbrev pub quiet_code : Option Code → List Part → Code → List Part
quiet_code o K done = K
quiet_code o K (loop b c) = record { body = Some b; code = b } ∷ record { body = o; code = c } ∷ K
quiet_code o K (again n) = return_over o n K (return_to K)
quiet_code o K (send q l c) = []
quiet_code o K (receive p l c) = []
quiet_code o K (run k c) = []
quiet_code o K (enter j c) = []
quiet_code o K (leave j c) = []
quiet_code o K (choose k xs c) = []
quiet_code o K (told p xs c) = []

abbrev pub quiet_at : List Part → List Part
quiet_at [] = []
quiet_at (f ∷ K) = quiet_code f.body K f.code

abbrev pub branch_of : Action → ℕ
branch_of (Choose k n b) = b
branch_of (Run k) = 0
branch_of (Send q l ws) = 0
branch_of (Recv q l ws) = 0
branch_of (Enter j ws) = 0
branch_of (Leave j ws) = 0

abbrev pub act_code : Option Code → List Part → Code → ℕ → List Part
act_code o K (send q l c) x = record { body = o; code = c } ∷ K
act_code o K (receive p l c) x = record { body = o; code = c } ∷ K
act_code o K (run k c) x = record { body = o; code = c } ∷ K
act_code o K (enter j c) x = record { body = o; code = c } ∷ K
act_code o K (leave j c) x = record { body = o; code = c } ∷ K
act_code o K (choose k xs c) x = record { body = None; code = arm_at x xs } ∷ record { body = o; code = c } ∷ K
act_code o K (told p xs c) x = []
act_code o K done x = []
act_code o K (loop b c) x = []
act_code o K (again n) x = []

abbrev pub act_at : List Part → ℕ → List Part
act_at [] x = []
act_at (f ∷ K) x = act_code f.body K f.code x

abbrev pub chosen : List Part → Option Code → Option (List Part)
chosen K None = None
chosen K (Some c) = Some (record { body = None; code = c } ∷ K)

abbrev pub read_code : Option Code → List Part → Code → ℕ → Option (List Part)
read_code o K (told p xs c) l = chosen (record { body = o; code = c } ∷ K) (arm_of xs l)
read_code o K done l = None
read_code o K (send q m c) l = None
read_code o K (receive p m c) l = None
read_code o K (run k c) l = None
read_code o K (enter j c) l = None
read_code o K (leave j c) l = None
read_code o K (choose k xs c) l = None
read_code o K (loop b c) l = None
read_code o K (again n) l = None

abbrev pub read_at : List Part → ℕ → Option (List Part)
read_at [] l = None
read_at (f ∷ K) l = read_code f.body K f.code l

abbrev pub machine : Machine (List Part)
machine = record { next = next_at; quiet = quiet_at; read = read_at; act = λ x a. act_at x (branch_of a) }

-- the endpoint of a rank at its start
abbrev pub endpoint : Block → ℕ → List Part
endpoint protocol r = record { body = None; code = code [] r protocol } ∷ []

-- ---- the endpoint's stack beside the run's

abbrev pub body_of : ℕ → Opener → Env → Option Code
body_of r Top env = None
body_of r (Chosen p bs) env = None
body_of r (Body b) env = Some (code (at_rank r (env_over (Body b) env)) r b)

-- a frame in which the rank takes no part is dropped
abbrev pub shadow : ℕ → List Frame → List Part
shadow r [] = []
shadow r (f ∷ K) =
    cond (live r f.opener (env_of K))
    (record { body = body_of r f.opener (env_of K); code = code (at_rank r (env_over f.opener (env_of K))) r f.rest } ∷ shadow r K)
    (shadow r K)

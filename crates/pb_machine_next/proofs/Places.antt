-- A place that was found is the first that is to do.
use Rattle.std.proofs.Common.{◌≡◌, ℕ, zero, suc, ◌+◌, List, [], ◌∷◌, ◌++◌, length, ap, sym, ◌∙◌, refl, Option, Some, None, Bool, true, false, nat_eq, if◌then◌else◌, add-one, append_assoc, length-append}
use Rattle.std.proofs.lemmas.Bool.{eq-eqb}
use Rattle.pb_local.specs.Tree.{Code, when, for_each, own, loop, again, choice, send, recv, run, barrier, broadcast, reduce, allreduce, Codes, nothing, more, size}
use Rattle.pb_local.specs.Machine.{Todo, do_next, round_of, end_of, pushed, back_to}
use Rattle.pb_machine_next.specs.declared.step.Step.{Step}
use Rattle.pb_machine_next.specs.Place.{block_from, number_at, head, marked, Spot, on_from, beyond, enter, spot, root, todo, block_at, settled, Found, nowhere, at_code, at_round, at_or, round_or, better, found, loop_or, looped}
use Rattle.pb_machine_next.specs.Meaning.{IsFront, IsAt, IsLoop, IsBack}

pub spot-append : (s : Spot) (xs ys : List Step) → spot s (xs ++ ys) ≡ spot (spot s xs) ys
spot-append s [] ys = refl
spot-append s (x ∷ xs) ys = spot-append (enter s x) xs ys

-- the block of the spot that a path leads to
pub block_is : (s : Spot) (path : List Step) → block_at s.block path ≡ (spot s path).block
block_is s [] = refl
block_is s (f ∷ fs) = block_is (enter s f) fs

pub from-suc : (k : ℕ) (b : Codes) (c : Code) (cs : Codes) → block_from k b ≡ more c cs → block_from (suc k) b ≡ cs
from-suc zero nothing c cs h = cc
from-suc zero (more x xs) c cs h = cc
from-suc (suc k) nothing c cs h = cc
from-suc (suc k) (more x xs) c cs h = from-suc k xs c cs h

pub number-suc : (m k : ℕ) (b : Codes) (c : Code) (cs : Codes) → block_from k b ≡ more c cs → number_at m (suc k) b ≡ number_at m k b + size c
number-suc m zero nothing c cs h = cc
number-suc m zero (more x xs) c cs h = let e : x ≡ c = cc in ap (λ z. m + size z) e
number-suc m (suc k) nothing c cs h = cc
number-suc m (suc k) (more x xs) c cs h = number-suc (m + size x) k xs c cs h

-- the same place is that of what settles to the same
pub as_settled : (b : Codes) (path : List Step) (s t : Todo) (f : Found) → settled t ≡ settled s → IsAt b path s f → IsAt b path t f
as_settled b path s t nowhere e h = e ∙ h
as_settled b path s t (at_code d k after c) e h = record { front = h.front; is_front = h.is_front; after_is = h.after_is; there = h.there; todo_is = e ∙ h.todo_is }
as_settled b path s t (at_round d k c) e h = record { front = h.front; step = h.step; low = h.low; body = h.body; is_front = h.is_front; is_path = h.is_path; after_is = h.after_is; inner = h.inner; code_is = h.code_is; todo_is = e ∙ h.todo_is }

pub at_or_is : (b : Codes) (path front : List Step) (d k : ℕ) (best : Found) (cs : Codes) → IsFront path d front → block_from k (spot (root b) front).block ≡ cs →
    IsAt b path (spot (root b) front).rest best →
    IsAt b path (pushed (number_at (spot (root b) front).number k (spot (root b) front).block) cs (spot (root b) front).rest) (at_or d k best cs)
at_or_is b path front d k best nothing is h old = old
at_or_is b path front d k best (more c cs) is h old =
    let s : Spot = spot (root b) front in
    let e1 : block_from (suc k) s.block ≡ cs = from-suc k s.block c cs h in
    let e2 : number_at s.number (suc k) s.block ≡ number_at s.number k s.block + size c = number-suc s.number k s.block c cs h in
    record {
      front = front;
      is_front = is;
      after_is = refl;
      there = h ∙ ap (more c) (sym e1);
      todo_is = ap (λ z. do_next (number_at s.number k s.block) c (pushed (number_at s.number k s.block + size c) z s.rest)) (sym e1)
          ∙ ap (λ z. do_next (number_at s.number k s.block) c (pushed z (block_from (suc k) s.block) s.rest)) (sym e2);
    }

-- the best place once a step was taken
pub better_is : (b : Codes) (path front : List Step) (step : Step) (d : ℕ) (best : Found) (c : Code) → IsFront path d front → IsFront path (suc d) (front ++ step ∷ []) →
    head (block_from step.at (spot (root b) front).block) ≡ c →
    IsAt b path (beyond (spot (root b) front) step.at) best →
    IsAt b path (marked (number_at (spot (root b) front).number step.at (spot (root b) front).block) c (beyond (spot (root b) front) step.at)) (round_or d (suc step.at) best c)
better_is b path front step d best (for_each low high body) is all code old = record {
  front = front;
  step = step;
  low = low;
  body = body;
  is_front = is;
  is_path = all;
  after_is = refl;
  inner = spot-append (root b) front (step ∷ []);
  code_is = code;
  todo_is = refl;
}
better_is b path front step d best (loop id body) is all code old =
    as_settled b path (beyond (spot (root b) front) step.at) (end_of id (suc (number_at (spot (root b) front).number step.at (spot (root b) front).block)) body (beyond (spot (root b) front) step.at)) best refl old
better_is b path front step d best (when gs x y) is all code old = old
better_is b path front step d best (choice who k rs e ts bs) is all code old = old
better_is b path front step d best (own off) is all code old = old
better_is b path front step d best (again id) is all code old = old
better_is b path front step d best (send l e) is all code old = old
better_is b path front step d best (recv l e) is all code old = old
better_is b path front step d best (run k) is all code old = old
better_is b path front step d best barrier is all code old = old
better_is b path front step d best (broadcast l e) is all code old = old
better_is b path front step d best (reduce l op e) is all code old = old
better_is b path front step d best (allreduce l op) is all code old = old

abbrev pub longer : (path front : List Step) (f : Step) (fs : List Step) (d : ℕ) → path ≡ front ++ f ∷ fs → length front ≡ d → IsFront path (suc d) (front ++ f ∷ [])
longer path front f fs d h e = record { others = fs; joined = h ∙ sym (append_assoc front (f ∷ []) fs); long = length-append front (f ∷ []) ∙ add-one (length front) ∙ ap suc e }

pub found_is : (b : Codes) (path front fs : List Step) (d k : ℕ) (best : Found) → path ≡ front ++ fs → length front ≡ d →
    IsAt b path (spot (root b) front).rest best →
    IsAt b path (on_from (spot (spot (root b) front) fs) k) (found (spot (root b) front).block fs d k best)
found_is b path front [] d k best h e old = at_or_is b path front d k best _ (record { others = []; joined = h; long = e }) refl old
found_is b path front (f ∷ fs) d k best h e old =
    let is : IsFront path d front = record { others = f ∷ fs; joined = h; long = e } in
    let all : IsFront path (suc d) (front ++ f ∷ []) = longer path front f fs d h e in
    let inner : spot (root b) (front ++ f ∷ []) ≡ enter (spot (root b) front) f = spot-append (root b) front (f ∷ []) in
    let new = better_is b path front f d (at_or d (suc f.at) best (block_from (suc f.at) (spot (root b) front).block)) (head (block_from f.at (spot (root b) front).block)) is all refl (at_or_is b path front d (suc f.at) best (block_from (suc f.at) (spot (root b) front).block) is refl old) in
    let later = found_is b path (front ++ f ∷ []) fs (suc d) k (better (spot (root b) front).block f d best) all.joined all.long (rw inner new) in
    rw inner at later

-- the place that a whole path leads to
pub found_whole : (b : Codes) (path : List Step) (k : ℕ) → IsAt b path (todo b path k) (found b path 0 k nowhere)
found_whole b path k = found_is b path [] path 0 k nowhere refl refl refl

-- ---- loops

pub back-pushed : (id m : ℕ) (cs : Codes) (rest : Todo) → back_to id (pushed m cs rest) ≡ back_to id rest
back-pushed id m nothing rest = refl
back-pushed id m (more c cs) rest = back-pushed id (m + size c) cs rest

pub back-passed : (id : ℕ) (s : Spot) (k : ℕ) → back_to id (beyond s k) ≡ back_to id s.rest
back-passed id s k = back-pushed id (number_at s.number (suc k) s.block) (block_from (suc k) s.block) s.rest

pub as_back : (b : Codes) (path : List Step) (id : ℕ) (s t : Todo) (f : Option ℕ) → back_to id t ≡ back_to id s → IsBack b path id s f → IsBack b path id t f
as_back b path id s t None e h = e ∙ h
as_back b path id s t (Some d) e h = record { front = h.front; is_front = h.is_front; todo_is = e ∙ h.todo_is }

nat_eq-refl : (n : ℕ) → nat_eq n n ≡ true
nat_eq-refl n = eq-eqb n n refl

looped_at : (b : Codes) (path : List Step) (id x d k : ℕ) (best : Option ℕ) (body : Codes) (rest : Todo) (t : Bool) → nat_eq id x ≡ t →
    IsBack b path id rest best → IsLoop b path x (end_of x k body rest) d → IsBack b path id (end_of x k body rest) (if t then Some d else best)
looped_at b path id x d k best body rest true e old new = record {
  front = new.front;
  is_front = new.is_front;
  todo_is = (rw e refl) ∙ sym (same x) ∙ new.todo_is;
} where
  same : (y : ℕ) → back_to y (end_of y k body rest) ≡ pushed k body (end_of y k body rest)
  same y = rw nat_eq-refl refl
looped_at b path id x d k best body rest false e old new = as_back b path id rest (end_of x k body rest) best (rw e refl) old

looped_one : (b : Codes) (path front : List Step) (step : Step) (id d : ℕ) (best : Option ℕ) (c : Code) → IsFront path (suc d) (front ++ step ∷ []) →
    head (block_from step.at (spot (root b) front).block) ≡ c →
    IsBack b path id (spot (root b) front).rest best →
    IsBack b path id (marked (number_at (spot (root b) front).number step.at (spot (root b) front).block) c (beyond (spot (root b) front) step.at)) (loop_or id (suc d) best c)
looped_one b path front step id d best (loop x body) all code old =
    let s : Spot = spot (root b) front in
    let k : ℕ = suc (number_at s.number step.at s.block) in
    let passed : back_to id (beyond s step.at) ≡ back_to id s.rest = back-passed id s step.at in
    let inner : spot (root b) (front ++ step ∷ []) ≡ enter s step = spot-append (root b) front (step ∷ []) in
    let same : enter s step ≡ record { number = k; block = body; rest = end_of x k body (beyond s step.at) } = rw code refl in
    looped_at b path id x (suc d) k best body (beyond s step.at) (nat_eq id x) refl
    (as_back b path id s.rest (beyond s step.at) best passed old)
    (record { front = front ++ step ∷ []; is_front = all; todo_is = (rw nat_eq-refl refl) ∙ sym (ap (λ (z : Spot). on_from z 0) (inner ∙ same)) })
looped_one b path front step id d best (for_each low high body) all code old = as_back b path id (spot (root b) front).rest (round_of high (suc (number_at (spot (root b) front).number step.at (spot (root b) front).block)) body (beyond (spot (root b) front) step.at)) best (back-passed id (spot (root b) front) step.at) old
looped_one b path front step id d best (when gs x y) all code old = as_back b path id (spot (root b) front).rest (beyond (spot (root b) front) step.at) best (back-passed id (spot (root b) front) step.at) old
looped_one b path front step id d best (choice who k rs e ts bs) all code old = as_back b path id (spot (root b) front).rest (beyond (spot (root b) front) step.at) best (back-passed id (spot (root b) front) step.at) old
looped_one b path front step id d best (own off) all code old = as_back b path id (spot (root b) front).rest (beyond (spot (root b) front) step.at) best (back-passed id (spot (root b) front) step.at) old
looped_one b path front step id d best (again x) all code old = as_back b path id (spot (root b) front).rest (beyond (spot (root b) front) step.at) best (back-passed id (spot (root b) front) step.at) old
looped_one b path front step id d best (send l e) all code old = as_back b path id (spot (root b) front).rest (beyond (spot (root b) front) step.at) best (back-passed id (spot (root b) front) step.at) old
looped_one b path front step id d best (recv l e) all code old = as_back b path id (spot (root b) front).rest (beyond (spot (root b) front) step.at) best (back-passed id (spot (root b) front) step.at) old
looped_one b path front step id d best (run k) all code old = as_back b path id (spot (root b) front).rest (beyond (spot (root b) front) step.at) best (back-passed id (spot (root b) front) step.at) old
looped_one b path front step id d best barrier all code old = as_back b path id (spot (root b) front).rest (beyond (spot (root b) front) step.at) best (back-passed id (spot (root b) front) step.at) old
looped_one b path front step id d best (broadcast l e) all code old = as_back b path id (spot (root b) front).rest (beyond (spot (root b) front) step.at) best (back-passed id (spot (root b) front) step.at) old
looped_one b path front step id d best (reduce l op e) all code old = as_back b path id (spot (root b) front).rest (beyond (spot (root b) front) step.at) best (back-passed id (spot (root b) front) step.at) old
looped_one b path front step id d best (allreduce l op) all code old = as_back b path id (spot (root b) front).rest (beyond (spot (root b) front) step.at) best (back-passed id (spot (root b) front) step.at) old

looped_is : (b : Codes) (path front fs : List Step) (id d : ℕ) (best : Option ℕ) → path ≡ front ++ fs → length front ≡ d →
    IsBack b path id (spot (root b) front).rest best →
    IsBack b path id (spot (spot (root b) front) fs).rest (looped (spot (root b) front).block fs id d best)
looped_is b path front [] id d best h e old = old
looped_is b path front (f ∷ fs) id d best h e old =
    let all : IsFront path (suc d) (front ++ f ∷ []) = longer path front f fs d h e in
    let inner : spot (root b) (front ++ f ∷ []) ≡ enter (spot (root b) front) f = spot-append (root b) front (f ∷ []) in
    let new = looped_one b path front f id d best (head (block_from f.at (spot (root b) front).block)) all refl old in
    let later = looped_is b path (front ++ f ∷ []) fs id (suc d) (loop_or id (suc d) best (head (block_from f.at (spot (root b) front).block))) all.joined all.long (rw inner new) in
    rw inner at later

-- where an again goes back to, from the place at the end of a path
pub looped_whole : (b : Codes) (path : List Step) (id : ℕ) → IsBack b path id (spot (root b) path).rest (looped b path id 0 None)
looped_whole b path id = looped_is b path [] path id 0 None refl refl refl

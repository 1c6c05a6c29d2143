-- Known bytes that grow by some bytes and then by more, or by a front of these.
use Rattle.std.proofs.Common.{ℕ, ◌+◌, ◌<◌, ◌≤◌, List, ◌++◌, length, take, Option, None, Some, Result, Ok, Err, OnOk, OnErr, sym, ap, subst, ◌∙◌, append_assoc, length-append, arith}
use Rattle.std.proofs.Math.Seq.{take-append-add}
use Rattle.std.proofs.lemmas.List.{take-append-le}
use Rattle.std.specs.Io.KnownBytes.{Appends}
use Rattle.pb_io.specs.Sinks.{AppendsFront}

pub appends_both : (start middle last : Option (List ℕ)) (xs ys : List ℕ)
    → Appends start middle xs → Appends middle last ys → Appends start last (xs ++ ys)
appends_both None middle last xs ys before now = tt
appends_both (Some a) None last xs ys before now = absurd before
appends_both (Some a) (Some b) None xs ys before now = absurd now
appends_both (Some a) (Some b) (Some c) xs ys before now = now ∙ ap (λ (l : List ℕ). l ++ ys) before ∙ append_assoc a xs ys

pub front_first : (start last : Option (List ℕ)) (xs ys : List ℕ) → AppendsFront start last xs → AppendsFront start last (xs ++ ys)
front_first start last xs ys some =
    let short : some.count < length xs = some.short in
    let within : some.count ≤ length xs = omega arith in
    record {
      count = some.count;
      short = rw (length-append xs ys) (omega arith);
      front = subst (λ (l : List ℕ). Appends start last l) (sym (take-append-le some.count xs ys within)) some.front;
    }

pub front_both : (start middle last : Option (List ℕ)) (xs ys : List ℕ)
    → Appends start middle xs → AppendsFront middle last ys → AppendsFront start last (xs ++ ys)
front_both start middle last xs ys before some =
    let short : some.count < length ys = some.short in
    record {
      count = length xs + some.count;
      short = rw (length-append xs ys) (omega arith);
      front = subst (λ (l : List ℕ). Appends start last l) (sym (take-append-add xs ys some.count))
          (appends_both start middle last xs (take some.count ys) before some.front);
    }

-- where writing the rest failed
pub front_then : {T E : Type 0} (result : Result T E) (start middle last : Option (List ℕ)) (xs ys : List ℕ)
    → Appends start middle xs → OnErr result (AppendsFront middle last ys) → OnErr result (AppendsFront start last (xs ++ ys))
front_then (Ok v) start middle last xs ys before some = some
front_then (Err e) start middle last xs ys before some = front_both start middle last xs ys before some

-- where the rest was written
pub whole_then : {T E : Type 0} (result : Result T E) (start middle last : Option (List ℕ)) (xs ys : List ℕ)
    → Appends start middle xs → OnOk result (Appends middle last ys) → OnOk result (Appends start last (xs ++ ys))
whole_then (Ok v) start middle last xs ys before now = appends_both start middle last xs ys before now
whole_then (Err e) start middle last xs ys before now = now

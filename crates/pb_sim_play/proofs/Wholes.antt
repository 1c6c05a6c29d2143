-- How a simulation that was played is told.
use Rattle.std.proofs.Common.{◌≡◌, ℕ, ℤ, suc, ◌+◌, ◌<◌, ◌≤◌, ◌⊎◌, inl, inr, List, [], ◌∷◌, ◌++◌, Option, Some, None, refl, sym, ap, subst, ◌∙◌, length, take, map, slice_get, arith, zero, true}
use Rattle.std.proofs.lemmas.List.{length-map}
use Rattle.std.specs.Io.KnownBytes.{Appends}
use Rattle.pb_io.specs.Sinks.{AppendsFront}
use Rattle.pb_world.specs.Actions.{Action}
use Rattle.pb_world.specs.Counted.{Counted}
use Rattle.pb_world.specs.Family.{Family}
use Rattle.pb_world.specs.World as W
use Rattle.pb_local.specs.Machine as M
use Rattle.pb_local.specs.Tree.{Program, program_of}
use Rattle.pb_local.specs.Family.{Sequence, family}
use Rattle.pb_ctree.specs.declared.tree.CTree.{CTree}
use Rattle.pb_sim_world.specs.declared.state.State.{State}
use Rattle.pb_sim_world.specs.States.{program}
use Rattle.pb_sim_world.specs.Worlds.{world_of}
use Rattle.pb_cli_words.specs.declared.options.Shown.{Shown}
use Rattle.pb_sim.specs.declared.seen.Seen.{Seen}
use Rattle.pb_sim.specs.declared.standing.Standing.{Standing}
use Rattle.pb_sim.specs.declared.standing.Standing.TheVariants as S
use Rattle.pb_sim.specs.Made.{HasStep, IsBegun}
use Rattle.pb_sim.specs.Scheduled as R
use Rattle.pb_sim.specs.Scheduled.{Turn, ScheduledRun}
use Rattle.pb_sim.specs.Standing.{IsStanding}
use Rattle.pb_sim.proofs.Runs.{begins}
use Rattle.pb_sim_play.specs.declared.record.Record.{Record}
use Rattle.pb_sim_play.specs.declared.record.Record.TheVariants.{Lines, Turns}
use Rattle.pb_sim_play.specs.declared.ending.Ending.{Ending}
use Rattle.pb_sim_play.specs.declared.ending.Ending.TheVariants as E
use Rattle.pb_sim_play.specs.Plans.{Source, drawn, given, May, pair_of}
use Rattle.pb_sim_play.specs.Plays.{IsPlay}
use Rattle.pb_sim_play.specs.Records.{shown_by, Holds, IsShort, HasPlayed}
use Rattle.pb_sim_play.specs.Endings.{Ran, Tells, IsOut, IsSoFar, EndsWith, IsFull, IsUnready, IsWhole, Stands, IsSpent, HasMade, HasHalted, HasBroken, WritesWhole, WritesPart, IsMostOf, ending_of, text_of, part_of}

-- ---- a run by a list is a front of it

take_next : {A : Type 0} (xs : List A) (k : ℕ) (x : A) → slice_get xs k ≡ Some x → take (suc k) xs ≡ take k xs ++ x ∷ []
take_next [] zero x e = absurd cc
take_next [] (suc k) x e = absurd cc
take_next (y ∷ xs) zero x e = cc
take_next (y ∷ xs) (suc k) x e = ap (λ l. y ∷ l) (take_next xs k x e)

one_more : {A : Type 0} (xs : List A) (x : A) → length (xs ++ x ∷ []) ≡ suc (length xs)
one_more [] x = refl
one_more (y ∷ xs) x = ap suc (one_more xs x)

front : {S : Type 0} (F : Family S) (post : ℕ → ℕ → ℕ → Type 0) (all : List Turn) (may : ℕ → W.World S → Turn → Type 0) → ((t : ℕ) (X : W.World S) (turn : Turn) → may t X turn → slice_get all t ≡ Some turn)
    → {turns : List Turn} {w : List (ℕ × Action)} {X : W.World S} → ScheduledRun F post may turns w X → turns ≡ take (length turns) all
front F post all may is R.start = refl
front F post all may is (R.event {turns = turns} {W = X} {turn = turn} run allowed turned) =
    ap (λ l. l ++ turn ∷ []) (front F post all may is run)
    ∙ (sym (take_next all (length turns) turn (is (length turns) X turn allowed)) ∙ ap (λ k. take k all) (sym (one_more turns turn)))

take_whole : {A : Type 0} (xs : List A) (k : ℕ) → length xs ≤ k → take k xs ≡ xs
take_whole [] zero e = refl
take_whole [] (suc k) e = refl
take_whole (x ∷ xs) zero e = absurd (omega (arith, e))
take_whole (x ∷ xs) (suc k) e = ap (λ l. x ∷ l) (take_whole xs k (omega (arith, e)))

some_sequence : Sequence
some_sequence = record { run = λ A k. []; over = λ A k. true }

module _ (tree : CTree) (n : ℤ) (post : ℕ → ℕ → ℕ → Type 0) where
  pub whole_run : (source : Source) (turns : List Turn) (w : List (ℕ × Action)) (x : Seen) → IsPlay tree n post source turns w x → (most : ℕ) → IsMostOf source most → most ≤ length turns → IsWhole source turns
  whole_run (drawn seed modes) turns w x play most is e = tt
  whole_run (given all) turns w x play most is e =
      front (family (program x.state) x.state.n some_sequence) post all (May tree n (given all)) (λ t X turn m. m) (play.run.run some_sequence)
      ∙ take_whole all (length turns) (omega (arith, is, e))

-- a simulation stands as its tree and N tell
stands_so : (tree : CTree) (n : ℤ) (x : Seen) (standing : Standing) → x.state.tree ≡ tree → x.state.n ≡ n
    → ((sequence : Sequence) → IsStanding (family (program x.state) x.state.n sequence) (world_of x.state) standing) → Stands tree n x standing
stands_so tree n x standing e f stands sequence =
    subst (λ (t : CTree). IsStanding (family (program_of t.local) n sequence) (world_of x.state) standing) e
    (subst (λ (m : ℤ). IsStanding (family (program x.state) m sequence) (world_of x.state) standing) f (stands sequence))

-- where some rank has a step, all events were made
counted : (x : Seen) (source : Source) (most count : ℕ) → IsMostOf source most → count ≤ most → (count ≡ most) ⊎ IsSpent source count x
    → ((sequence : Sequence) → IsStanding (family (program x.state) x.state.n sequence) (world_of x.state) S.Going) → count ≡ most
counted x source most count is few (inl e) going = e
counted x (drawn seed modes) most count is few (inr still) going = let g = going some_sequence in absurd (still some_sequence g.rank g.can)
counted x (given all) most count is few (inr over) going = omega (arith, is, few, over)

-- where nobody has one, all of a schedule were made
covered : (x : Seen) (source : Source) (most count : ℕ) → IsMostOf source most → count ≤ most → (count ≡ most) ⊎ IsSpent source count x → (turns : List Turn) → length turns ≡ count
    → ((tree : CTree) (n : ℤ) (post : ℕ → ℕ → ℕ → Type 0) (w : List (ℕ × Action)) → IsPlay tree n post source turns w x → IsWhole source turns)
covered x (drawn seed modes) most count is few over turns e tree n post w play = tt
covered x (given all) most count is few (inl k) turns e tree n post w play = whole_run tree n post (given all) turns w x play most is (omega (arith, e, k))
covered x (given all) most count is few (inr k) turns e tree n post w play = whole_run tree n post (given all) turns w x play most is (omega (arith, e, k, is))

not_over : {k most : ℕ} → k < most → k ≤ most
not_over less = omega (arith, less)

pub few_kept : (kept : Record) (start now : Option (List ℕ)) (p : Program) (turns : List Turn) (w : List (ℕ × Action)) → length turns ≤ 1000000 → Holds start kept now p turns w → IsShort kept
few_kept (Lines log) start now p turns w few held = tt
few_kept (Turns made) start now p turns w few (none, is) = let e = sym (length-map made.items pair_of) ∙ ap length is in omega (arith, e, few)

module _ (tree : CTree) (n : ℤ) (post : ℕ → ℕ → ℕ → Type 0) (source : Source) (most : ℕ) (shown : Shown) (seed : ℕ) (start later : Option (List ℕ)) where
  written : (turns : List Turn) (w : List (ℕ × Action)) (x : Seen) → IsPlay tree n post source turns w x → length turns ≤ most
      → IsWhole source turns → (standing : Standing) → (standing ≡ S.Going → length turns ≡ most) → Stands tree n x standing → Appends start later (text_of shown seed tree turns w)
      → Tells tree n post source most shown seed (ending_of standing) start later
  written turns w x play few whole S.Going full stands went = (text_of shown seed tree turns w, record { turns = turns; w = w; x = x; play = play; few = few; is = (stands, full refl, whole, refl) }, went)
  written turns w x play few whole S.Ended full stands went = (text_of shown seed tree turns w, record { turns = turns; w = w; x = x; play = play; few = few; is = (stands, whole, refl) }, went)
  written turns w x play few whole (S.Stuck rank cause) full stands went = (text_of shown seed tree turns w, record { turns = turns; w = w; x = x; play = play; few = few; is = (stands, whole, refl) }, went)

  lost : (turns : List Turn) (w : List (ℕ × Action)) (x : Seen) → IsPlay tree n post source turns w x → length turns ≤ most → Appends start later (part_of shown tree w) → Tells tree n post source most shown seed E.NoMemory start later
  lost turns w x play few went = (part_of shown tree w, record { turns = turns; w = w; x = x; play = play; few = few; is = refl }, went)

  broken : (turns : List Turn) (w : List (ℕ × Action)) (x : Seen) (text : List ℕ) → IsPlay tree n post source turns w x → length turns ≤ most → (text ≡ part_of shown tree w) ⊎ (text ≡ text_of shown seed tree turns w)
      → AppendsFront start later text → Tells tree n post source most shown seed E.WriteFault start later
  broken turns w x text play few is front = (text, record { turns = turns; w = w; x = x; play = play; few = few; is = is }, front)

  pub told_whole : (x : Seen) (kept : Record) (now : Option (List ℕ)) (standing : Standing) (result : Ending) → IsMostOf source most → HasMade tree n post source most start x kept now → shown_by kept ≡ shown
      → ((sequence : Sequence) → IsStanding (family (program x.state) x.state.n sequence) (world_of x.state) standing)
      → ((start : Option (List ℕ)) (tree : CTree) (turns : List Turn) (w : List (ℕ × Action)) → Holds start kept now (program_of tree.local) turns w
      → WritesWhole (ending_of standing) result start later (text_of (shown_by kept) seed tree turns w) (part_of (shown_by kept) tree w))
      → Tells tree n post source most shown seed result start later
  told_whole x kept now standing result is made same stands writes =
      by (subst (λ s. WritesWhole (ending_of standing) result start later (text_of s seed tree played.turns played.w) (part_of s tree played.w)) same (writes start tree played.turns played.w played.holds)) where
        played : HasPlayed tree n post source start made.count x kept now
        played = made.played

        few : length played.turns ≤ most
        few = let e = played.count_is in let f = made.few in omega (arith, e, f)

        full : standing ≡ S.Going → length played.turns ≡ most
        full e = played.count_is ∙ counted x source most made.count is made.few made.over (subst (λ s. (sequence : Sequence) → IsStanding (family (program x.state) x.state.n sequence) (world_of x.state) s) e stands)

        by : WritesWhole (ending_of standing) result start later (text_of shown seed tree played.turns played.w) (part_of shown tree played.w) → Tells tree n post source most shown seed result start later
        by (inl (e, went)) = subst (λ r. Tells tree n post source most shown seed r start later) (sym e)
            (written played.turns played.w x played.play few (covered x source most made.count is made.few made.over played.turns played.count_is tree n post played.w played.play) standing full
            (stands_so tree n x standing played.play.tree_is played.play.n_is stands) went)
        by (inr (inl (e, went))) = subst (λ r. Tells tree n post source most shown seed r start later) (sym e) (lost played.turns played.w x played.play few went)
        by (inr (inr (e, front))) = subst (λ r. Tells tree n post source most shown seed r start later) (sym e)
            (broken played.turns played.w x (text_of shown seed tree played.turns played.w) played.play few (inr refl) front)

  pub broken_off : HasBroken tree n post source most shown start later → Tells tree n post source most shown seed E.WriteFault start later
  broken_off ran = broken ran.turns ran.w ran.x (part_of shown tree ran.w) ran.play ran.few (inl refl) ran.is

  module _ (kept : Record) (now : Option (List ℕ)) (ending result : Ending) (same : shown_by kept ≡ shown)
      (writes : (start : Option (List ℕ)) (tree : CTree) (turns : List Turn) (w : List (ℕ × Action)) → Holds start kept now (program_of tree.local) turns w → WritesPart ending result start later (part_of (shown_by kept) tree w)) where
    -- what was written of some events, where this ending is told of them
    part_told : (k : ℕ) (y : Seen) (played : HasPlayed tree n post source start k y kept now) → k ≤ most → (Appends start later (part_of shown tree played.w) → Tells tree n post source most shown seed ending start later)
        → Tells tree n post source most shown seed result start later
    part_told k y played few tells = by (subst (λ s. WritesPart ending result start later (part_of s tree played.w)) same (writes start tree played.turns played.w played.holds)) where
      fewer : length played.turns ≤ most
      fewer = let e = played.count_is in omega (arith, e, few)

      by : WritesPart ending result start later (part_of shown tree played.w) → Tells tree n post source most shown seed result start later
      by (inl (e, went)) = subst (λ r. Tells tree n post source most shown seed r start later) (sym e) (tells went)
      by (inr (e, front)) = subst (λ r. Tells tree n post source most shown seed r start later) (sym e) (broken played.turns played.w y (part_of shown tree played.w) played.play fewer (inl refl) front)

    pub told_refused : (t : ℕ) → ending ≡ E.Refused t → HasHalted tree n post source most start kept now (λ k w y. (t ≡ k) × IsUnready tree n source k y) → Tells tree n post source most shown seed result start later
    told_refused t is h = part_told h.count h.x h.played (not_over h.few) (λ went. subst (λ e. Tells tree n post source most shown seed e start later) (sym is) (
      part_of shown tree h.played.w,
      record {
        turns = h.played.turns;
        w = h.played.w;
        x = h.x;
        play = h.played.play;
        few = (let e = h.played.count_is in let f = h.few in omega (arith, e, f));
        is = (h.is.0 ∙ sym h.played.count_is, subst (λ k. IsUnready tree n source k h.x) (sym h.is.0) h.is.1, refl);
      },
      went,
    ))

    pub told_full : ending ≡ E.Full → HasHalted tree n post source most start kept now (λ k w y. IsFull tree n source k w y) → Tells tree n post source most shown seed result start later
    told_full is h = part_told h.count h.x h.played (not_over h.few) (λ went. subst (λ e. Tells tree n post source most shown seed e start later) (sym is) (
      part_of shown tree h.played.w,
      record {
        turns = h.played.turns;
        w = h.played.w;
        x = h.x;
        play = h.played.play;
        few = (let e = h.played.count_is in let f = h.few in omega (arith, e, f));
        is = ((let e = h.played.count_is in let f = h.few in omega (arith, e, f)), subst (λ k. IsFull tree n source k h.played.w h.x) (sym h.played.count_is) h.is, refl);
      },
      went,
    ))

    pub told_lost : ending ≡ E.NoMemory → HasHalted tree n post source most start kept now (λ k w y. Unit {0}) → Tells tree n post source most shown seed result start later
    told_lost is h = part_told h.count h.x h.played (not_over h.few) (λ went. subst (λ e. Tells tree n post source most shown seed e start later) (sym is)
        (lost h.played.turns h.played.w h.x h.played.play (let e = h.played.count_is in let f = h.few in omega (arith, e, f)) went))

-- nothing was played yet
pub begun : (tree : CTree) (n : ℤ) (post : ℕ → ℕ → ℕ → Type 0) (source : Source) (start : Option (List ℕ)) (x : Seen) (kept : Record) → IsBegun tree n x → Holds start kept start (program_of tree.local) [] []
    → HasPlayed tree n post source start 0 x kept start
begun tree n post source start x kept is held = record {
  turns = [];
  w = [];
  play = record { tree_is = is.tree_is; n_is = is.n_is; run = begins post (May tree n source) tree n x is };
  count_is = refl;
  holds = held;
}

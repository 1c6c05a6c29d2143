-- Where ranks are found inside the text of a straight statement, and that each message and compute there is reached.
use Rattle.std.proofs.Common.{◌≡◌, ◌≤◌, ℕ, suc, ◌+◌, ℤ, Bool, true, if◌then◌else◌, List, [], ◌∷◌, ◌++◌, Some, refl, sym, ap, ◌∙◌, subst, append_assoc, arith}
use Rattle.pb_world.specs.Actions.{Kind, Sends, Receives, Runs}
use Rattle.pb_core_language.specs.declared.tree.CoreEnd.{CoreEnd}
use Rattle.pb_core_language.specs.FlatOf.{rank_of}
use Rattle.pb_core_language.specs.Plain.{Protocol}
use Rattle.pb_core_language.specs.Ranks.{total}
use Rattle.pb_core_language.specs.Tree as T
use Rattle.pb_core_language.specs.Tree.{StmtTree, BlockTree}
use Rattle.pb_core_language.specs.Verdict.{IsIn}
use Rattle.pb_core_flat.specs.Seated.{is_rank}
use Rattle.pb_local.specs.Ranks.{Seat}
use Rattle.pb_local.specs.Tree as L
use Rattle.pb_local.specs.Tree.{Code, Codes, nothing, more, size, size_all, Program}
use Rattle.pb_local.specs.Machine.{Todo, Rank, silent, pushed, move_from, next_in}
use Rattle.pb_local.specs.Alone.{FirstPart, OtherPart}
use Rattle.pb_local.proofs.Moves.{move_is}
use Rattle.pb_shape.specs.Places.{Here, Who, is_end, peer_of, scope_of}
use Rattle.pb_shape.specs.Guards.{One, there, gone, alone}
use Rattle.pb_shape.specs.Items as I
use Rattle.pb_shape.specs.Items.{Item, Items}
use Rattle.pb_shape.specs.Straight.{at_todo, IsItem, AreItems}
use Rattle.pb_shape_straight.proofs.Passing.{Comes, Made, IsAct, send_act, recv_act, run_act, one_part, one_made}
use Rattle.pb_shape_straight.proofs.Segment.{if_so, part, is_mine, my_parts}
use Rattle.pb_shape_reached.specs.Reached.{AreReached}
use Rattle.pb_shape_reached.proofs.Standing.{Present, Spot, spot_reached, spot_taken, spot_silent, spot_way}
use Rattle.pb_shape_reached.proofs.Texts.{after_one, one_counts}

-- the kinds of actions that a rank has ahead, by N, rank and variable
abbrev pub Ahead : Type 0
Ahead = ℤ → Seat → ℤ → List Kind

pub same_behind : (a b c d : ℕ) → a + c ≡ d → b + c ≡ d → a ≡ b
same_behind a b c d e f = omega (arith, e, f)

module _ (p : Protocol) (l : Program) where
  -- the machine of a rank that comes here is found before these statements, with these actions ahead
  pub record Found (At : ℤ → Seat → ℤ → ℤ → Type 0) (h : Here) (n : ℤ) (me : Seat) (i : ℤ) (k : ℕ) (codes : Codes) (ahead : Ahead) : Type 0 where
    pub present : Present p l n me
    pub j : ℤ
    pub link : At n me i j
    pub comes : Comes h n me j
    pub todo : Todo
    pub made : Made l codes
    pub spot : Spot p l n me present (at_todo me j (pushed k codes todo)) (ahead n me j)

  module _ (At : ℤ → Seat → ℤ → ℤ → Type 0) (h : Here) where
    -- each rank that comes here is
    abbrev pub Find : ℕ → Codes → Ahead → Type 0
    Find k codes ahead =
        (n i : ℤ) (me : Seat) → IsIn p.range n → total p.roles n ≤ 2000000000 → is_rank p.roles n me.role me.index ≡ true → h.at n i ≡ true → h.comes n i me.role me.index ≡ true →
        Found At h n me i k codes ahead

    -- who is of these ranks is so for the variable that it has
    abbrev pub Keeps : Who → Type 0
    Keeps who = (n : ℤ) (me : Seat) (i j : ℤ) → At n me i j → who n i me.role me.index ≡ true → who n j me.role me.index ≡ true

    pub find_same : {k : ℕ} {codes : Codes} (a b : Ahead) → ((n : ℤ) (me : Seat) (j : ℤ) → a n me j ≡ b n me j) → Find k codes a → Find k codes b
    find_same {k = k} {codes = codes} a b same find n i me within few is at comes =
        let f = find n i me within few is at comes in
        record { present = f.present; j = f.j; link = f.link; comes = f.comes; todo = f.todo; made = f.made; spot = subst (λ s. Spot p l n me f.present (at_todo me f.j (pushed k codes f.todo)) s) (same n me f.j) f.spot }

    -- what is reached inside of an If, by a rank that goes into it
    abbrev pub Inside : Who → ℕ → Codes → Ahead → Type 0
    Inside who k first ahead =
        (n i j : ℤ) (me : Seat) (present : Present p l n me) (t : Todo) → At n me i j → Comes h n me j → who n j me.role me.index ≡ true → Made l first → Spot p l n me present (at_todo me j (pushed k first t)) (ahead n me j) →
        AreReached p l k first

    pub reach_one : {who : Who} {first tail codes : Codes} (ahead : Ahead) (k : ℕ) (one : One (scope_of p) h who first tail codes) → Keeps who → Find k codes ahead → Inside who (suc k) first ahead → AreReached p l (after_one one k) tail →
        AreReached p l k codes
    reach_one ahead k (gone nobody) keeps find inner rest = rest
    reach_one {first = first} {tail = tail} ahead k (there {gs = gs} names some) keeps find inner rest =
        let me : Seat = record { role = some.role; index = some.index } in
        let f = find some.n some.i me some.within some.few some.rank some.at some.comes in
        let so = keeps some.n me some.i f.j f.link some.is in
        let fit = f.present.given.guards f.j f.comes.near gs f.made.made.0.0 in
        let held = names some.n f.j me.role me.index some.within some.rank f.comes.at ∙ so in
        let behind = pushed (k + size (L.when gs first nothing)) tail f.todo in
        let x = at_todo me f.j (pushed k (more (L.when gs first nothing) tail) f.todo) in
        let y = at_todo me f.j (pushed (suc k) first behind) in
        let goes : move_from l some.n x x.todo ≡ silent y = rw (fit, held) refl in (
          (
            spot_reached p l some.n me f.present k refl f.spot,
            (λ s. spot_taken p l some.n me f.present k FirstPart refl (ap next_in (move_is l some.n x ∙ goes)) (ap (λ b. Some (if b then FirstPart else OtherPart)) held) f.spot),
            (λ s. absurd s),
            inner some.n some.i f.j me f.present behind f.link f.comes so (record { scope = f.made.scope; made = f.made.made.0.1 }) (spot_silent p l some.n me f.present y goes f.spot),
            tt,
          ),
          rest,
        )

    -- behind an If with one action in it
    pub next_one : {who : Who} {code : Code} {tail codes : Codes} (act : ℤ → Seat → ℤ → Kind) (others : Ahead) (k : ℕ) (one : One (scope_of p) h who (alone code) tail codes) →
        ((n j : ℤ) (me : Seat) (present : Present p l n me) → Comes h n me j → IsAct p l n me present.setting (size_all codes) j code (act n me j)) →
        Find k codes (λ n me j. if_so (who n j me.role me.index) (act n me j) ++ others n me j) → Find (after_one one k) tail others
    next_one {who = who} {tail = tail} {codes = codes} act others k one acts find n i me within few is at comes =
        let f = find n i me within few is at comes in
        let d = one_part p l n me f.present.setting (size_all codes) (size_all codes) k f.j f.todo (who n f.j me.role me.index) (act n me f.j) one f.comes refl f.made (record { now = omega arith; ever = omega arith }) (acts n f.j me f.present f.comes) in
        record {
          present = f.present;
          j = f.j;
          link = f.link;
          comes = f.comes;
          todo = f.todo;
          made = one_made p l n me f.present.setting (size_all codes) one f.made;
          spot = subst (λ b. Spot p l n me f.present (at_todo me f.j (pushed b tail f.todo)) (others n me f.j)) (same_behind _ _ (size_all tail) (k + size_all codes) d.counts (one_counts k one))
              (spot_way p l n me f.present (others n me f.j) f.spot d.go.way);
        }

    -- ---- a message or a compute

    abbrev pub after_item : {s : StmtTree} {tail codes : Codes} → Item (scope_of p) h tail s codes → ℕ → ℕ
    after_item (I.message a b) k = after_one b (after_one a k)
    after_item (I.run a) k = after_one a k

    abbrev pub KeepsEnds : StmtTree → Type 0
    KeepsEnds (T.message lab f t) = Keeps (is_end f) × Keeps (is_end t)
    KeepsEnds (T.run kernel e) = Keeps (is_end e)
    KeepsEnds (T.foreach b m items) = Unit {0}
    KeepsEnds (T.loop id m body) = Unit {0}
    KeepsEnds (T.again id) = Unit {0}
    KeepsEnds (T.choice kernel e bs) = Unit {0}
    KeepsEnds T.barrier = Unit {0}
    KeepsEnds (T.broadcast lab e) = Unit {0}
    KeepsEnds (T.reduce lab op e) = Unit {0}
    KeepsEnds (T.allreduce lab op) = Unit {0}

    abbrev pub KeepAllEnds : BlockTree → Type 0
    KeepAllEnds T.nothing = Unit {0}
    KeepAllEnds (T.more m s rest) = KeepsEnds s × KeepAllEnds rest

    -- the ends of the statement are ranks here
    abbrev pub IsItemHere : Bool → StmtTree → Type 0
    IsItemHere varies s = (n j : ℤ) (me : Seat) → Present p l n me → Comes h n me j → IsItem p n varies j s

    abbrev pub AreItemsHere : Bool → BlockTree → Type 0
    AreItemsHere varies items = (n j : ℤ) (me : Seat) → Present p l n me → Comes h n me j → AreItems p n varies j items

    abbrev pub part_of : StmtTree → Ahead → Ahead
    part_of s others n me j = part p.roles n (is_mine p.roles n me j) j s ++ others n me j

    abbrev pub parts_of : BlockTree → Ahead → Ahead
    parts_of items others n me j = my_parts p.roles n me j items ++ others n me j

    abbrev sent : ℕ → CoreEnd → CoreEnd → Ahead → Ahead
    sent lab f t others n me j = if_so (is_mine p.roles n me j f) (Sends (rank_of p.roles n t j) lab) ++ others n me j

    abbrev got : ℕ → CoreEnd → CoreEnd → Ahead → Ahead
    got lab f t others n me j = if_so (is_mine p.roles n me j t) (Receives (rank_of p.roles n f j) lab) ++ others n me j

    split_message : (lab : ℕ) (f t : CoreEnd) (others : Ahead) (n : ℤ) (me : Seat) (j : ℤ) → part_of (T.message lab f t) others n me j ≡ sent lab f t (got lab f t others) n me j
    split_message lab f t others n me j = append_assoc (if_so (is_mine p.roles n me j f) (Sends (rank_of p.roles n t j) lab)) (if_so (is_mine p.roles n me j t) (Receives (rank_of p.roles n f j) lab)) (others n me j)

    behind_send : (varies : Bool) {lab : ℕ} {f t : CoreEnd} {middle codes : Codes} (others : Ahead) (k : ℕ) (a : One (scope_of p) h (is_end f) (alone (L.send lab (peer_of t))) middle codes) → IsItemHere varies (T.message lab f t) →
        Find k codes (part_of (T.message lab f t) others) → Find (after_one a k) middle (got lab f t others)
    behind_send varies {lab = lab} {f = f} {t = t} {codes = codes} others k a fine find =
        next_one (λ n me j. Sends (rank_of p.roles n t j) lab) (got lab f t others) k a (λ n j me present comes. send_act p l n me present.setting (size_all codes) j lab t (fine n j me present comes).1.is)
        (find_same (part_of (T.message lab f t) others) (sent lab f t (got lab f t others)) (split_message lab f t others) find)

    pub behind_item : (varies : Bool) {s : StmtTree} {tail codes : Codes} (others : Ahead) (k : ℕ) (item : Item (scope_of p) h tail s codes) → IsItemHere varies s → Find k codes (part_of s others) → Find (after_item item k) tail others
    behind_item varies others k (I.message {l = lab} {f = f} {t = t} {middle = middle} a b) fine find =
        next_one (λ n me j. Receives (rank_of p.roles n f j) lab) others (after_one a k) b (λ n j me present comes. recv_act p l n me present.setting (size_all middle) j lab f (fine n j me present comes).0.is) (behind_send varies others k a fine find)
    behind_item varies {codes = codes} others k (I.run {k = kernel} {e = e} a) fine find =
        next_one (λ n me j. Runs kernel) others k a (λ n j me present comes. run_act p l n me present.setting (size_all codes) j kernel) find

    pub reach_item : (varies : Bool) {s : StmtTree} {tail codes : Codes} (others : Ahead) (k : ℕ) (item : Item (scope_of p) h tail s codes) → KeepsEnds s → IsItemHere varies s → Find k codes (part_of s others) → AreReached p l (after_item item k) tail →
        AreReached p l k codes
    reach_item varies others k (I.message {l = lab} {f = f} {t = t} a b) keeps fine find rest =
        reach_one (part_of (T.message lab f t) others) k a keeps.0 find (λ n i j me present u link comes is made spot. (spot_reached p l n me present (suc k) refl spot, tt))
        (reach_one (got lab f t others) (after_one a k) b keeps.1 (behind_send varies others k a fine find) (λ n i j me present u link comes is made spot. (spot_reached p l n me present (suc (after_one a k)) refl spot, tt)) rest)
    reach_item varies others k (I.run {k = kernel} {e = e} a) keeps fine find rest =
        reach_one (part_of (T.run kernel e) others) k a keeps find (λ n i j me present u link comes is made spot. (spot_reached p l n me present (suc k) refl spot, tt)) rest

    more_parts : (m : T.Mark) (s : StmtTree) (items : BlockTree) (others : Ahead) (n : ℤ) (me : Seat) (j : ℤ) → parts_of (T.more m s items) others n me j ≡ part_of s (parts_of items others) n me j
    more_parts m s items others n me j = append_assoc (part p.roles n (is_mine p.roles n me j) j s) (my_parts p.roles n me j items) (others n me j)

    -- all of one iteration
    pub reach_items : (varies : Bool) {items : BlockTree} {codes : Codes} (others : Ahead) (k : ℕ) → Items (scope_of p) h items codes → KeepAllEnds items → AreItemsHere varies items → Find k codes (parts_of items others) → AreReached p l k codes
    reach_items varies others k I.none keeps fine find = tt
    reach_items varies others k (I.item {m = m} {s = s} {rest = rest} a more') keeps fine find =
        let find' = find_same (parts_of (T.more m s rest) others) (part_of s (parts_of rest others)) (more_parts m s rest others) find in
        let here : IsItemHere varies s = λ n j me present comes. (fine n j me present comes).0 in
        reach_item varies (parts_of rest others) k a keeps.0 here find' (reach_items varies others (after_item a k) more' keeps.1 (λ n j me present comes. (fine n j me present comes).1) (behind_item varies (parts_of rest others) k a here find'))

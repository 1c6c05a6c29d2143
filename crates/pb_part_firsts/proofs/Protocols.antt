-- What the ranks of a whole protocol find first.
use Rattle.std.proofs.Common.{◌≡◌, ◌<◌, ◌||◌, nat_eq, if◌then◌else◌, None, ℕ, ℤ, pos, true, false, List, [], ◌++◌, ap, ◌∙◌}
use Rattle.std.specs.List.{All}
use Rattle.pb_affine.specs.declared.lin.Lin.{Lin}
use Rattle.pb_part_areas.specs.declared.area.Area.{Area}
use Rattle.pb_part_areas.specs.Areas.{have}
use Rattle.pb_part_areas.specs.Fits.{Fits}
use Rattle.pb_core_language.specs.Cuts.{cuts, role_cuts, block_cuts}
use Rattle.pb_core_language.specs.Outcomes.{Outcome, nothing_first, firsts}
use Rattle.pb_core_language.specs.Flat.{stop}
use Rattle.pb_core_language.specs.FlatOf.{flat_block}
use Rattle.pb_core_language.specs.Parts.{firsts_in, firsts_within}
use Rattle.pb_core_language.specs.Plain.{Protocol}
use Rattle.pb_core_language.specs.Ranks.{seats, seat_at, total}
use Rattle.pb_core_language.specs.Sound.{is_sound, are_roles}
use Rattle.pb_core_language.specs.Verdict.{IsIn}
use Rattle.pb_core_flat.specs.Seated.{is_rank}
use Rattle.pb_core_flat.specs.OutcomeSets.{is_nothing, is_outcome}
use Rattle.pb_core_flat.proofs.Seats.{rank_of_seat}
use Rattle.pb_cases.specs.Breakpoints.{IsInRange}
use Rattle.pb_part_takers.specs.Pieces.{AreAmong}
use Rattle.pb_part_takers.proofs.Among.{among_left}
use Rattle.pb_part_takers.proofs.Finds.{in_range, sound_core, among_itself}
use Rattle.pb_part_firsts.specs.declared.firsts.Entry.{Entry}
use Rattle.pb_part_firsts.specs.Takers.{IsWhole}
use Rattle.pb_part_firsts.specs.Firsts.{finds}
use Rattle.pb_part_firsts.specs.Answers.{Answers, numbered, within_of}

pub whole_is : (p : Protocol) (whole : List Area) → is_sound p ≡ true → ((n : ℤ) (role : ℕ) (x : ℤ) → are_roles p.roles ≡ true → IsInRange p.range n → have whole n role x ≡ is_rank p.roles n role x) → IsWhole p.range p.roles whole
whole_is p whole h f = record { is = λ n role x w. f n role x (sound_core p h).roles (in_range p.range n w) }

pub whole_fits : (p : Protocol) (whole : List Area) → is_sound p ≡ true → ((lins : List Lin) → are_roles p.roles ≡ true → AreAmong (role_cuts p.roles) lins → All (Fits p.range lins) whole) → All (Fits p.range (cuts p)) whole
whole_fits p whole h f = f (cuts p) (sound_core p h).roles (among_left (role_cuts p.roles) (block_cuts None p.body.block) (cuts p) (among_itself (cuts p)))

-- all outcomes of the block with number k
abbrev pub all_outs : Protocol → ℕ → ℤ → ℕ → ℤ → List Outcome
all_outs p k n role x = numbered p.roles [] k p.body.mark p.body.block n role x ++ within_of p.roles [] k p.body.block n role x

outs_is : (p : Protocol) (k : ℕ) (n : ℤ) (r : ℕ) → r < total p.roles n → all_outs p k n (seat_at r (seats p.roles n)).role (seat_at r (seats p.roles n)).index ≡ firsts_in p n k r
outs_is p k n r lt =
    ap (λ z. (if nat_eq k p.body.mark.number then firsts [] z (flat_block p.roles n [] (pos 0) p.body.block stop) else []) ++ firsts_within p.roles n z k [] [] p.body.block) (rank_of_seat p.roles n r lt).1

pub found_gives : (p : Protocol) (k : ℕ) (passed all : List Area) (old new : List Entry) (n : ℤ) (r : ℕ) (o : Outcome) → Answers p.range p.roles passed all old new (all_outs p k) → old ≡ [] → IsIn p.range n → r < total p.roles n → is_nothing o ≡ false →
    finds p.roles new n (seat_at r (seats p.roles n)).role (seat_at r (seats p.roles n)).index o ≡ is_outcome o (firsts_in p n k r)
found_gives p k passed all old new n r o a e w lt h =
    let seat = seat_at r (seats p.roles n) in
    a.out n seat.role seat.index o w (rank_of_seat p.roles n r lt).0 h ∙ ap (λ z. finds p.roles z n seat.role seat.index o || is_outcome o (all_outs p k n seat.role seat.index)) e ∙ ap (is_outcome o) (outs_is p k n r lt)

pub found_rest : (p : Protocol) (k : ℕ) (passed all : List Area) (old new : List Entry) (n : ℤ) (r : ℕ) → Answers p.range p.roles passed all old new (all_outs p k) → passed ≡ [] → IsIn p.range n → r < total p.roles n →
    have all n (seat_at r (seats p.roles n)).role (seat_at r (seats p.roles n)).index ≡ is_outcome nothing_first (firsts_in p n k r)
found_rest p k passed all old new n r a e w lt =
    let seat = seat_at r (seats p.roles n) in
    a.rest n seat.role seat.index w (rank_of_seat p.roles n r lt).0 ∙ ap (λ z. have z n seat.role seat.index || is_outcome nothing_first (all_outs p k n seat.role seat.index)) e ∙ ap (is_outcome nothing_first) (outs_is p k n r lt)

use Rattle.std.proofs.Common.{sym, subst, ◌≤◌, length, None, []}
use Rattle.std.specs.List.{All}
use Rattle.std.proofs.lemmas.List.Elements.{All-nil}
use Rattle.pb_part_areas.specs.Fits.{Fits}
use Rattle.pb_core_language.specs.Cuts.{cuts, role_cuts, block_cuts}
use Rattle.pb_core_language.specs.Plain.{plain}
use Rattle.pb_core_language.specs.Sound.{rows_of}
use Rattle.pb_part_takers.proofs.Among.{among_right}
use Rattle.pb_part_takers.proofs.Finds.{sound_core, among_itself}
use Rattle.pb_part_firsts.specs.Takers.{IsWhole}
use Rattle.pb_part_firsts.specs.Fitting.{AllFit, EntriesFit}
use Rattle.pb_part_firsts.specs.Answers.{numbered, within_of}
use Rattle.pb_part_firsts.proofs.Searches.{answers_both}
use Rattle.pb_part_firsts.proofs.Protocols.{whole_is, whole_fits, found_gives, found_rest}
use Rattle.pb_part_firsts.proofs.whole.found_in.Goals as goal

pub areas_of_roles-requires : goal.areas_of_roles-requires
areas_of_roles-requires c = subst (λ z. length z ≤ 64) (sym c.deref.ensures.value) (sound_core (plain c.args.core.now) c.requires.sound).few

pub returns-clause-gives : goal.returns-clause-gives
returns-clause-gives c = λ n r o w lt h.
    let p = plain c.args.core.now in
    let k = c.args.block in
    let sound = sound_core p c.requires.sound in
    let all : IsWhole p.range p.roles c.in_ok-whole.whole.items = whole_is p c.in_ok-whole.whole.items c.requires.sound (rw c.deref.ensures.value at c.in_ok-whole.ensures.is) in
    let one = (rw (c.deref-2.ensures.value, c.deref-3.ensures.value, c.new-held.ensures.items) at (c.in_ok-here.ensures.gives p.range p.roles (rows_of p))) all sound.body in
    let two = (rw (c.deref-4.ensures.value, c.deref-5.ensures.value, c.new-held.ensures.items) at (c.in_ok-within.ensures.gives p.range p.roles (rows_of p))) all sound.body in
    let both = answers_both (numbered p.roles [] k p.body.mark p.body.block) (within_of p.roles [] k p.body.block) one two in
    found_gives p k _ _ c.new.result.items _ n r o both c.new.ensures.items w lt h

pub returns-clause-rest : goal.returns-clause-rest
returns-clause-rest c = λ n r w lt.
    let p = plain c.args.core.now in
    let k = c.args.block in
    let sound = sound_core p c.requires.sound in
    let all : IsWhole p.range p.roles c.in_ok-whole.whole.items = whole_is p c.in_ok-whole.whole.items c.requires.sound (rw c.deref.ensures.value at c.in_ok-whole.ensures.is) in
    let one = (rw (c.deref-2.ensures.value, c.deref-3.ensures.value, c.new-held.ensures.items) at (c.in_ok-here.ensures.gives p.range p.roles (rows_of p))) all sound.body in
    let two = (rw (c.deref-4.ensures.value, c.deref-5.ensures.value, c.new-held.ensures.items) at (c.in_ok-within.ensures.gives p.range p.roles (rows_of p))) all sound.body in
    let both = answers_both (numbered p.roles [] k p.body.mark p.body.block) (within_of p.roles [] k p.body.block) one two in
    found_rest p k c.new-2.result.items _ _ _ n r both c.new-2.ensures.items w lt

pub returns-clause-fits : goal.returns-clause-fits
returns-clause-fits c =
    let p = plain c.args.core.now in
    let sound = sound_core p c.requires.sound in
    let fit : All (Fits p.range (cuts p)) c.in_ok-whole.whole.items = whole_fits p c.in_ok-whole.whole.items c.requires.sound (rw c.deref.ensures.value at c.in_ok-whole.ensures.fits) in
    let among = among_right (role_cuts p.roles) (block_cuts None p.body.block) (cuts p) (among_itself (cuts p)) in
    let start : AllFit p.range (cuts p) c.new-2.result.items c.new.result.items = record {
      areas = subst (All (Fits p.range (cuts p))) (sym c.new-2.ensures.items) (All-nil (Fits p.range (cuts p)));
      entries = subst (EntriesFit p.range (cuts p)) (sym c.new.ensures.items) tt;
    } in
    (rw (c.deref-4.ensures.value, c.deref-5.ensures.value, c.new-held.ensures.items) at (c.in_ok-within.ensures.fits p.range (cuts p) (rows_of p))) sound.body among fit tt
    ((rw (c.deref-2.ensures.value, c.deref-3.ensures.value, c.new-held.ensures.items) at (c.in_ok-here.ensures.fits p.range (cuts p) (rows_of p))) sound.body among fit tt start)

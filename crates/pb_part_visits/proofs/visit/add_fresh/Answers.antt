use Rattle.std.proofs.Common.{◌≡◌, pos, true, not, nat_eq, ◌&&◌, map, ap, subst}
use Rattle.std.specs.Ordering.{int_eq}
use Rattle.std.specs.List.{list_any}
use Rattle.pb_affine.specs.Values.{value}
use Rattle.pb_core_flat.specs.Meets.{is_moving, is_var}
use Rattle.pb_core_flat.specs.Seated.{is_at}
use Rattle.pb_core_flat.specs.Stops as S
use Rattle.pb_core_flat.specs.Stops.{first_of, at_value, has_fixed}
use Rattle.pb_part_visits.specs.Visits.{visit_of}
use Rattle.pb_part_visits.proofs.Fresh.{known_first, known_any, joined, pushed_narrow, pushed_among}
use Rattle.pb_part_visits.proofs.visit.add_fresh.Goals as goal

pub returns-then-has_end-clause-same : goal.returns-then-has_end-clause-same
returns-then-has_end-clause-same c = λ roles n i role x rest.
    known_first (at_value roles n i) role x (visit_of c.args.visit) (map visit_of c.args.list.now.items) rest
    (λ h. subst (λ l. list_any (λ (v : S.Visit). nat_eq v.end.role role && int_eq (value v.end.at n i) x) (map visit_of l) ≡ true) c.deref.ensures.value (c.has_end.ensures c.if-has_end.true (λ r l. nat_eq r role && int_eq (value l n i) x) h))

pub returns-then-has_end-clause-fixed : goal.returns-then-has_end-clause-fixed
returns-then-has_end-clause-fixed c = λ roles n role x rest.
    known_any (λ v. not (is_moving v.end) && is_at v.end n (pos 0) role x) (visit_of c.args.visit) (map visit_of c.args.list.now.items) rest
    (λ h. subst (λ l. list_any (λ (v : S.Visit). not (is_moving v.end) && is_at v.end n (pos 0) role x) (map visit_of l) ≡ true) c.deref.ensures.value (c.has_end.ensures c.if-has_end.true (λ r l. not (is_var l.base) && (nat_eq r role && int_eq (value l n (pos 0)) x)) h))

pub returns-clause-same : goal.returns-clause-same
returns-clause-same c = λ roles n i role x rest. ap (λ l. first_of (map (at_value roles n i) l) role x) (joined _ _ c.args.visit rest c.in_ok-push.ensures.items)

pub returns-clause-fixed : goal.returns-clause-fixed
returns-clause-fixed c = λ roles n role x rest. ap (λ l. has_fixed roles n l role x) (joined _ _ c.args.visit rest c.in_ok-push.ensures.items)

pub returns-clause-narrow : goal.returns-clause-narrow
returns-clause-narrow c = λ h k. pushed_narrow _ _ c.args.visit c.in_ok-push.ensures.items h k

pub returns-clause-among : goal.returns-clause-among
returns-clause-among c = λ h cuts a b. pushed_among h cuts _ _ c.args.visit c.in_ok-push.ensures.items a b

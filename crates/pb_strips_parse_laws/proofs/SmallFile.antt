-- A text with strips that is within the limits has small numbers, and braces that stand at most 64 deep.
use Rattle.std.proofs.Common.{◌≡◌, ℕ, ◌+◌, refl}
use Rattle.pb_text.specs.declared.quantity.Quantity.TheVariants as quantity
use Rattle.pb_text.specs.declared.token.Mark.TheVariants as marks
use Rattle.pb_text.specs.declared.token.Key.TheVariants as keys
use Rattle.pb_do_parse.specs.declared.limits.Counts.{Counts}
use Rattle.pb_do_parse.specs.declared.limits.Behind.TheVariants as behind
use Rattle.pb_do_parse.specs.declared.limits.Part.TheVariants as part
use Rattle.pb_do_parse.specs.Limits.{at_start}
use Rattle.pb_do_text_laws.specs.Limits.{IsSmallOver}
use Rattle.pb_do_parse_laws.proofs.Runs.{Runs, after, done_runs, many_runs, mark_runs, key_runs, name_runs, number_runs, ◌>>=◌}
use Rattle.pb_do_parse_laws.proofs.Small.{under, at, moved, role_range_runs, top_runs}
use Rattle.pb_strips_syntax.specs.declared.tree.StripRole.{StripRole}
use Rattle.pb_strips_grammar.specs.Tokens.{tokens_here}
use Rattle.pb_strips_grammar.specs.Grammar.{role, comma_role, roles, block, file}
use Rattle.pb_strips_text_laws.specs.Limits.{AreSmallRoles, IsSmallFile}
use Rattle.pb_strips_parse_laws.specs.Laws.{ReadIsSmall}
use Rattle.pb_strips_parse_laws.proofs.Ends.{width_behind_runs}
use Rattle.pb_strips_parse_laws.proofs.Small.{block_runs}

-- ---- roles

-- within the list of roles
abbrev roled : ℕ → Counts
roled r = record at_start { part = part.Protocol; roles = r }

abbrev AmongRoles : Counts → Type 0
AmongRoles c = (r : ℕ) × (c ≡ at behind.Other (roled r))

role_runs : (c : Counts) → AmongRoles c → Runs c role (λ d (x : StripRole). AmongRoles d × IsSmallOver x.range)
role_runs c h =
    moved h.1 (key_runs keys.Role >>= λ p e. name_runs >>= λ s u. role_range_runs (roled (h.0 + 1)) tt >>= λ over f. width_behind_runs (roled (h.0 + 1)) over >>= λ w v. done_runs _ ((h.0 + 1, refl), f))

comma_role_runs : (c : Counts) → AmongRoles c → Runs c comma_role (λ d (x : StripRole). AmongRoles d × IsSmallOver x.range)
comma_role_runs c h = moved h.1 (mark_runs marks.Comma >>= λ p u. role_runs (at behind.Other (roled h.0)) (h.0, refl))

roles_run : Runs (at behind.Other (roled 0)) roles (λ d xs. AmongRoles d × AreSmallRoles xs)
roles_run =
    after (role_runs (at behind.Other (roled 0)) (0, refl)) (λ b x h.
    after (many_runs {all = AreSmallRoles} comma_role_runs tt (λ x2 xs small all. (small, all)) b h.0) (λ d xs g. done_runs _ (g.0, (h.1, g.1))))

-- ---- a file

file_runs : (n : ℕ) → Runs at_start (file (block n)) (λ d f. IsSmallFile f)
file_runs n =
    key_runs keys.Const >>= λ p u. name_runs >>= λ constant v. mark_runs marks.Equals >>= λ q w. number_runs >>= λ low e. mark_runs marks.Dots >>= λ r x. top_runs >>= λ high y. mark_runs marks.Semicolon >>= λ s z.
    key_runs keys.Global >>= λ p1 u1. key_runs keys.Protocol >>= λ q1 v1. name_runs >>= λ protocol w1. mark_runs marks.LeftParen >>= λ r1 x1.
    after roles_run (λ b list g. moved g.0.1 (mark_runs marks.RightParen >>= λ s1 z1. after (block_runs n (roled g.0.0) tt refl) (λ last body k.
    done_runs _ (record { low = under 100000 low.value quantity.Constant e; roles = g.1; body = k.1.1 }))))

-- a file of a text within the limits
pub small_file : ReadIsSmall
small_file ts f h within = (file_runs h.0).runs (tokens_here ts) f h.1 within

-- The lines of a text before its statements.
use Rattle.std.specs.Prelude.{ℕ, List, [], ◌++◌}
use Rattle.pb_local.specs.Ranks.{ranks_of, bases_of, places_of}
use Rattle.pb_local.specs.Tree.{Program}
use Rattle.pb_local.specs.WellMade.{outermost}
use Rattle.pb_ctree.specs.Frame.{head_lines, prelude_lines, number_lines, kernels_after, start_lines, size_lines, seat_lines, end_lines}
use Rattle.pb_ctree.specs.Lines.{Line}
use Rattle.pb_ctree.specs.Spelling.{spelled_all}
use Rattle.pb_ctree.specs.Texts.{line_text}
use Rattle.pb_cread_frame.specs.Ahead.{Shown, shown, Rest}

-- main's lines before the statements
abbrev pub main_start : Program → List Line
main_start p = start_lines ++ size_lines p.range (ranks_of p.roles) ++ seat_lines 0 (bases_of p.roles) (places_of p.roles)

abbrev pub frame_lines : Program → List ℕ → List (List ℕ) → List Line
frame_lines p prelude bodies = head_lines p ++ prelude_lines prelude ++ number_lines p.roles (places_of p.roles) ++ kernels_after p.labels p.kernels bodies ++ main_start p

-- the statements, and the end of main
abbrev pub behind_frame : Program → List Line
behind_frame p = spelled_all p 1 outermost p.body ++ end_lines

abbrev pub rest_of : Program → List ℕ → List (List ℕ) → Rest
rest_of p prelude bodies = record { protocol = p.protocol; range = p.range; roles = p.roles; labels = p.labels; kernels = p.kernels; text = []; prelude = prelude; bodies = bodies }

-- a line of this program, with its line feed
abbrev pub shown_of : Program → Line → Shown
shown_of p l = shown (line_text p l) l.kept

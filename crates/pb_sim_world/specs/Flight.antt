-- How many words actions put in flight, and how many they take out again.
use Rattle.std.specs.Prelude.{ℕ, List, length, map, sum}
use Rattle.pb_world.specs.Actions.{Action, Choose, Run, Send, Recv, Enter, Leave}

-- the words of a send
abbrev pub puts : Action → ℕ
puts (Send to label words) = length words
puts (Choose kernel branches branch) = 0
puts (Run kernel) = 0
puts (Recv from label words) = 0
puts (Enter collective words) = 0
puts (Leave collective words) = 0

-- the words of a receive
abbrev pub gets : Action → ℕ
gets (Recv from label words) = length words
gets (Choose kernel branches branch) = 0
gets (Run kernel) = 0
gets (Send to label words) = 0
gets (Enter collective words) = 0
gets (Leave collective words) = 0

abbrev pub words_sent : List Action → ℕ
words_sent acts = sum (map puts acts)

abbrev pub words_received : List Action → ℕ
words_received acts = sum (map gets acts)

-- What a line that begins with `/*@` is in a file of a dialect. A line is given with the line feed that ends it.
use Rattle.std.specs.Prelude.{ℕ, Bool, false, ◌&&◌, List, [], ◌∷◌, codes, length, take, drop, None, nat_eq, nat_le, if◌then◌else◌}
use Rattle.std.specs.Cmp.Lexicographic.{pointwise}
use Rattle.std.specs.List.{prefix_len, list_all}
use Rattle.pb_text.specs.Lexemes.{is_blank, begins_word, goes_on_word}
use Rattle.pb_ctree.specs.Functions.{named}
use Rattle.pb_ctree.specs.declared.kernel.Kind.{Kind}
use Rattle.pb_ctree.specs.declared.kernel.Kind.TheVariants.{Prelude, Compute, Choice, Make, Take, Room}
use Rattle.pb_ctree.specs.declared.kernel.KName.{KName}
use Rattle.pb_kernels.specs.declared.dialect.Dialect.{Dialect}
use Rattle.pb_kernels.specs.declared.dialect.Dialect.TheVariants.{Plain, Program}
use Rattle.pb_kernels.specs.declared.marker.Marker.{Marker}
use Rattle.pb_kernels.specs.declared.marker.Marker.TheVariants.{Opening, Closing, Bad}

abbrev pub prelude_name : KName
prelude_name = record { kind = Prelude; name = None }

-- the text begins with these bytes
abbrev pub begins_with : List ℕ → List ℕ → Bool
begins_with front text = pointwise nat_eq (take (length front) text) front

-- spaces, tabs and carriage returns, and the line feed that ends the line
abbrev pub are_blank : List ℕ → Bool
are_blank bytes = list_all is_blank bytes

-- ` */`, and behind it only spaces, tabs and carriage returns up to the line's end
unfoldable pub ends_marker : List ℕ → Bool
ends_marker text = begins_with (codes " */") text && are_blank (drop 3 text)

-- these bytes, and the end of a marker
abbrev pub is_mark : List ℕ → List ℕ → Bool
is_mark front line = begins_with front line && ends_marker (drop (length front) line)

-- the first byte is a letter or `_`
abbrev pub begins_name : List ℕ → Bool
begins_name [] = false
begins_name (byte ∷ bytes) = begins_word byte

-- a word of 1 to 64 bytes, and the end of a marker
unfoldable pub opening_of : Kind → List ℕ → Marker
opening_of kind text =
    let len = prefix_len goes_on_word text in
    if begins_name text && ends_marker (drop len text) && nat_le 1 len && nat_le len 64 then Opening (named kind (take len text)) else Bad

-- `room_` opens a body in program texts alone
abbrev pub room_of : Dialect → List ℕ → Marker
room_of Plain text = Bad
room_of Program text = if begins_with (codes "room_") text then opening_of Room (drop 5 text) else Bad

unfoldable pub kernel_of : Dialect → List ℕ → Marker
kernel_of dialect text =
    if begins_with (codes "k_") text then opening_of Compute (drop 2 text)
    else if begins_with (codes "c_") text then opening_of Choice (drop 2 text)
    else if begins_with (codes "make_") text then opening_of Make (drop 5 text)
    else if begins_with (codes "take_") text then opening_of Take (drop 5 text)
    else room_of dialect text

unfoldable pub marker_of : Dialect → List ℕ → Marker
marker_of dialect line =
    if is_mark (codes "/*@ end") line then Closing
    else if is_mark (codes "/*@ prelude") line then Opening prelude_name
    else if begins_with (codes "/*@ kernel ") line then kernel_of dialect (drop 11 line)
    else Bad

-- A kernel file of a plain text is one of a program text.
use Rattle.std.proofs.Common.{◌≡◌, ℕ, Bool, true, false, List, codes, drop, refl, if◌then◌else◌}
use Rattle.pb_ctree.specs.declared.kernel.Kind.TheVariants.{Compute, Choice, Make, Take}
use Rattle.pb_kernels.specs.declared.dialect.Dialect.TheVariants.{Plain, Program}
use Rattle.pb_kernels.specs.declared.file.NamedBody.{NamedBody}
use Rattle.pb_kernels.specs.declared.marker.Marker.{Marker}
use Rattle.pb_kernels.specs.declared.marker.Marker.TheVariants.{Opening, Closing, Bad}
use Rattle.pb_kernels.specs.Format.{IsBody, close, more, IsFile, done, pass, body}
use Rattle.pb_kernels.specs.Marks.{prelude_name, begins_with, is_mark, opening_of, room_of, kernel_of, marker_of}

-- a marker, and no line of another form
abbrev is_good : Marker → Bool
is_good (Opening name) = true
is_good Closing = true
is_good Bad = false

-- what is a marker in the one dialect is the same in the other
abbrev Keeps : Marker → Marker → Type 0
Keeps plain program = (m : Marker) → is_good m ≡ true → plain ≡ m → program ≡ m

kept_at : (b : Bool) (x y z : Marker) → Keeps y z → Keeps (if b then x else y) (if b then x else z)
kept_at true x y z h m good e = e
kept_at false x y z h m good e = h m good e

none_kept : (z : Marker) → Keeps Bad z
none_kept z (Opening name) good e = cc
none_kept z Closing good e = cc
none_kept z Bad good e = cc

kernel_kept : (text : List ℕ) → Keeps (kernel_of Plain text) (kernel_of Program text)
unfolding kernel_of
kernel_kept text =
    kept_at (begins_with (codes "k_") text) (opening_of Compute (drop 2 text)) _ _
    (kept_at (begins_with (codes "c_") text) (opening_of Choice (drop 2 text)) _ _
    (kept_at (begins_with (codes "make_") text) (opening_of Make (drop 5 text)) _ _
    (kept_at (begins_with (codes "take_") text) (opening_of Take (drop 5 text)) _ _ (none_kept (room_of Program text)))))

then_kept : (b : Bool) (x y z : Marker) → Keeps x y → Keeps (if b then x else z) (if b then y else z)
then_kept true x y z h m good e = h m good e
then_kept false x y z h m good e = e

marker_kept : (line : List ℕ) → Keeps (marker_of Plain line) (marker_of Program line)
unfolding marker_of
marker_kept line =
    kept_at (is_mark (codes "/*@ end") line) Closing _ _
    (kept_at (is_mark (codes "/*@ prelude") line) (Opening prelude_name) _ _
    (then_kept (begins_with (codes "/*@ kernel ") line) _ _ Bad (kernel_kept (drop 11 line))))

body_same : {rest below : List (List ℕ)} {bytes : List ℕ} → IsBody Plain rest below bytes → IsBody Program rest below bytes
body_same (close line marker closes) = close line marker (marker_kept line Closing refl closes)
body_same (more line plain rests) = more line plain (body_same rests)

pub file_same : {below : List (List ℕ)} {list : List NamedBody} → IsFile Plain below list → IsFile Program below list
file_same done = done
file_same (pass line plain file) = pass line plain (file_same file)
file_same (body line name marker opens inner file) =
    body line name marker (marker_kept line (Opening name) refl opens) (body_same inner) (file_same file)

-- A stack whose top is the last of a vector.
use Rattle.std.proofs.Common.{◌≡◌, suc, ◌+◌, List, [], ◌∷◌, ◌++◌, length, map, reverse, refl, ap, ◌∙◌, arith, add-one}
use Rattle.std.proofs.lemmas.List.{reverse-append, length-reverse}
use Rattle.pb_cread_statements.specs.declared.brace.Brace.{Brace}
use Rattle.pb_cread_statements.specs.Reading.{Frame, depth_of, closing_depth}
use Rattle.pb_cread_statements.specs.Views.{frame_of, frames_of}

-- a brace more
pub pushed : (old new : List Brace) (b : Brace) → new ≡ old ++ b ∷ [] → frames_of new ≡ frame_of b ∷ frames_of old
pushed old new b is = ap frames_of is ∙ ap (map frame_of) (reverse-append old (b ∷ []))

pub popped : (old new : List Brace) (b : Brace) → old ≡ new ++ b ∷ [] → frames_of old ≡ frame_of b ∷ frames_of new
popped old new b is = pushed new old b is

pub empty : (old : List Brace) → old ≡ [] → frames_of old ≡ []
empty old is = ap frames_of is

depth_length : (fs : List Frame) → depth_of fs ≡ length fs + 1
depth_length [] = refl
depth_length (f ∷ fs) = omega (arith, depth_length fs)

frames_length : (bs : List Brace) → length (map frame_of bs) ≡ length bs
frames_length [] = refl
frames_length (b ∷ bs) = ap (λ x. suc x) (frames_length bs)

-- the depth of statements
pub depth_is : (bs : List Brace) → depth_of (frames_of bs) ≡ length bs + 1
depth_is bs = depth_length (frames_of bs) ∙ ap (λ x. x + 1) (frames_length (reverse bs) ∙ length-reverse bs)

closing_length : (fs : List Frame) → closing_depth fs ≡ length fs
closing_length [] = refl
closing_length (f ∷ fs) = depth_length fs ∙ add-one (length fs)

-- the depth of the line that closes the last brace
pub closing_is : (bs : List Brace) → closing_depth (frames_of bs) ≡ length bs
closing_is bs = closing_length (frames_of bs) ∙ frames_length (reverse bs) ∙ length-reverse bs

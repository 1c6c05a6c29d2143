-- Pages on files that are held.
use Rattle.std.proofs.Common.{◌≡◌, refl, sym, ℕ, zero, suc, ◌≤◌, List, [], take, Option, Some, None, subst, arith, Result, Ok, Err, IfOk}
use Rattle.std.specs.Global.{Vec}
use Rattle.pb_text.specs.Places.{first_place, place_after}
use Rattle.pb_text.specs.declared.place.Place.{Place}
use Rattle.pb_io.specs.Files.{File, IsContent, content_of}
use Rattle.pb_explain_source.specs.declared.tail.Tail.{Tail}
use Rattle.pb_explain_source.specs.Pages.{IsPage, IsPageOf, IsPlaceOf, empty, grown, headed, quoted}
use Rattle.pb_explain_again.specs.declared.again.Again.{Again}
use Rattle.pb_explain_again.specs.declared.again.Again.TheVariants.{Bytes}
use Rattle.pb_explain_again.specs.Told.{IsAgain, IsTold}

none_taken : (count : ℕ) → take {A = ℕ} count [] ≡ []
none_taken zero = refl
none_taken (suc count) = refl

-- the first place is one of each file
first_of_each : (bytes : List ℕ) (place : Place) → IsPlaceOf [] place → IsPlaceOf bytes place
first_of_each bytes place h = record {
  count = 0;
  within = omega arith;
  there = subst (λ (front : List ℕ). place ≡ place_after first_place front) (none_taken h.count) h.there;
}

page_of_each : (file bytes : List ℕ) (tail : Tail) (page : List ℕ) → IsPage file [] tail page → IsPage file bytes tail page
page_of_each file bytes _ _ empty = empty
page_of_each file bytes _ _ (grown byte on is) = grown byte (page_of_each file bytes _ _ on) is
page_of_each file bytes _ _ (headed place on is) = headed place (page_of_each file bytes _ _ on) (first_of_each bytes place is)
page_of_each file bytes _ _ (quoted place on is) = quoted place (page_of_each file bytes _ _ on) (first_of_each bytes place is)

told_file : (holds : Option (List File)) (file bytes text : List ℕ) → IsContent holds file bytes → IsPageOf file bytes text
    → IsTold holds text
told_file holds file bytes text content page = record { file = file; bytes = bytes; content = content; page = page }

told_words : (holds : Option (List File)) (text : List ℕ) → IsPageOf [] [] text → IsTold holds text
told_words None text page = record { file = []; bytes = []; content = tt; page = page }
told_words (Some files) text page = record {
  file = [];
  bytes = content_of files [];
  content = refl;
  page = record { tail = page.tail; page_of = page_of_each [] (content_of files []) page.tail text page.page_of };
}

-- what was read is the file's content
pub read_file : (holds : Option (List File)) (name : List ℕ) (again : Again) (bytes : Vec ℕ) (read : List ℕ) → IsAgain holds name again
    → again ≡ Bytes bytes → read ≡ bytes.items → IsContent holds name read
read_file holds name again bytes read is bytes_are read_is =
    subst (λ (b : List ℕ). IsContent holds name b) (sym read_is) (subst (λ (a : Again). IsAgain holds name a) bytes_are is)

-- a folder that holds what it held has the same content
pub still : (holds now : Option (List File)) (name bytes : List ℕ) → now ≡ holds → IsContent holds name bytes → IsContent now name bytes
still holds now name bytes same is = subst (λ (h : Option (List File)). IsContent h name bytes) (sym same) is

-- a page on a file as it was read
pub of_file : {E : Type 0} (r : Result (Vec ℕ) E) (holds : Option (List File)) (file bytes : List ℕ) → IsContent holds file bytes
    → IfOk r (λ text. IsPageOf file bytes text.items) → IfOk r (λ text. IsTold holds text.items)
of_file (Ok text) holds file bytes content page = told_file holds file bytes text.items content page
of_file (Err e) holds file bytes content page = tt

-- a page of words
pub of_words : {E : Type 0} (r : Result (Vec ℕ) E) (holds : Option (List File)) → IfOk r (λ text. IsPageOf [] [] text.items)
    → IfOk r (λ text. IsTold holds text.items)
of_words (Ok text) holds page = told_words holds text.items page
of_words (Err e) holds page = tt

-- a folder that holds what it held
pub of_same : {E : Type 0} (r : Result (Vec ℕ) E) (holds now : Option (List File)) → now ≡ holds
    → IfOk r (λ text. IsTold now text.items) → IfOk r (λ text. IsTold holds text.items)
of_same r holds now same told = subst (λ (h : Option (List File)). IfOk r (λ text. IsTold h text.items)) same told

pub of_nothing : (holds : Option (List File)) → IsTold holds []
of_nothing holds = told_words holds [] (record { tail = _; page_of = empty })

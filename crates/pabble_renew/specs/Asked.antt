-- What the words behind the program's name ask for.
use Rattle.std.specs.Prelude.{ℕ, zero, suc, Bool, ◌&&◌, ◌||◌, not, List, [], ◌∷◌, Option, None, Some, codes, length, nat_eq, nat_lt, if◌then◌else◌}
use Rattle.std.specs.Cmp.Lexicographic.{pointwise}
use Rattle.std.specs.Option.{option_map}
use Rattle.std.specs.List.{filter, list_any, starts_with}
use Rattle.pb_renew.specs.declared.losing.Losing.{Losing}
use Rattle.pb_renew.specs.declared.losing.Losing.TheVariants as losing
use Rattle.pabble_renew.specs.declared.doing.Doing.{Doing}
use Rattle.pabble_renew.specs.declared.doing.Doing.TheVariants as doing
use Rattle.pabble_renew.specs.declared.request.Request.{Request}

-- the protocol, the text that is to be renewed, and how
pub record Asked : Type 0 where
  pub file : List ℕ
  pub out : List ℕ
  pub losing : Losing
  pub doing : Doing

-- a word in the form of an option
abbrev pub is_option : List ℕ → Bool
is_option word = starts_with nat_eq word (codes "-")

abbrev pub force : List ℕ
force = codes "--force"

abbrev pub dry_run : List ℕ
dry_run = codes "--dry-run"

-- an option that there isn't
abbrev pub is_unknown : List ℕ → Bool
is_unknown word = is_option word && not (pointwise nat_eq word force || pointwise nat_eq word dry_run)

-- how often a word stands among these
abbrev pub count_of : List ℕ → List (List ℕ) → ℕ
count_of word words = length (filter (λ other. pointwise nat_eq other word) words)

-- the words that are no options, in their order
abbrev pub files_of : List (List ℕ) → List (List ℕ)
files_of words = filter (λ word. not (is_option word)) words

abbrev pub losing_of : ℕ → Losing
losing_of zero = losing.Refused
losing_of (suc n) = losing.Kept

abbrev pub doing_of : ℕ → Doing
doing_of zero = doing.Renew
doing_of (suc n) = doing.Tell

abbrev pub pair_of : List (List ℕ) → Option (List ℕ × List ℕ)
pair_of (file ∷ out ∷ []) = Some (file, out)
pair_of other = None

abbrev pub of_pair : Losing → Doing → List ℕ × List ℕ → Asked
of_pair l d pair = record { file = pair.0; out = pair.1; losing = l; doing = d }

-- two files, and each option once at most, anywhere
abbrev pub asked : List (List ℕ) → Option Asked
asked words =
    if list_any is_unknown words || nat_lt 1 (count_of force words) || nat_lt 1 (count_of dry_run words) then None
    else option_map (of_pair (losing_of (count_of force words)) (doing_of (count_of dry_run words))) (pair_of (files_of words))

abbrev pub asked_by : Request → Asked
asked_by request = record { file = request.file.now; out = request.out.now; losing = request.losing; doing = request.doing }

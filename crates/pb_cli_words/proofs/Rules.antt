-- The command as `clap` builds it, and which of its arguments a name stands for.
use Rattle.std.proofs.Common.{◌≡◌, ℕ, Bool, true, false, ◌||◌, cond, codes, List, [], ◌∷◌, Option, Some, None, refl, option_map}
use Rattle.std.specs.Str.{bytes_eq}
use Rattle.clap.specs.Words.{Rule, Shape, Text, built, is_simple, is_simple_and_free}
use Rattle.clap.specs.Walk.{arg_by_id, arg_by_index, arg_by_long, arg_by_short}
use Rattle.clap.specs.declared.builder.action.ArgAction.TheVariants.{Append, Set, SetTrue}
use Rattle.clap.specs.declared.builder.value_parser.ValueParser.TheVariants as vp
use Rattle.clap.proofs.OnLiterals.{clap_on_literals}
use Rattle.pb_cli_words.specs.Said.{Key, N, Seed, Turns, Mode, Schedule}
use Rattle.pb_cli_words.specs.Reader.{reader_app}

-- ---- what is built

abbrev pub text_rule : Text → Rule
text_rule name = record {
  id = name;
  long = Some name;
  aliases = [];
  short = None;
  short_aliases = [];
  index = None;
  action = Some Set;
  range = Some (record { start_inclusive = 1; end_inclusive = 1 });
  value_names = 0;
  defaults = [];
  missing = [];
  trailing_var_arg = false;
  parser = Some vp.String;
  ignore_case = false;
  required = false;
  is_simple = true;
  is_free = true;
}

abbrev pub command_rule : Rule
command_rule = record (text_rule (codes "command")) { long = None; index = Some 1 }

abbrev pub files_rule : Rule
files_rule = record (text_rule (codes "files")) { long = None; index = Some 2; action = Some Append }

abbrev pub flag_rule : Rule
flag_rule = record (text_rule (codes "schedule")) {
  action = Some SetTrue;
  range = Some (record { start_inclusive = 0; end_inclusive = 0 });
  defaults = codes "false" ∷ [];
  missing = codes "true" ∷ [];
  parser = Some vp.Bool;
}

unfoldable pub rules : List Rule
rules =
    command_rule ∷ files_rule ∷ text_rule (codes "n") ∷ text_rule (codes "seed") ∷ text_rule (codes "turns") ∷ text_rule (codes "mode") ∷ flag_rule ∷ []

abbrev pub top : Shape
top = record {
  name = codes "pabble";
  aliases = [];
  rules = rules;
  is_plain = true;
  is_leaf = true;
  no_binary_name = true;
  disable_help_flag = true;
  disable_help_subcommand = true;
  disable_version_flag = true;
  propagate_version = false;
  has_version = false;
  has_long_version = false;
  args_override_self = false;
  arg_required_else_help = false;
  subcommand_required = false;
  subcommand_negates_reqs = false;
  is_built = true;
}

pub built_is : built reader_app ≡ record { top = top; subs = [] }
unfolding clap_on_literals rules
built_is = refl

pub simple : is_simple reader_app ≡ true
unfolding clap_on_literals
simple = refl

pub simple_and_free : is_simple_and_free reader_app ≡ true
unfolding clap_on_literals
simple_and_free = refl

-- ---- what a name stands for

abbrev pub id_of : Key → Text
id_of N = codes "n"
id_of Seed = codes "seed"
id_of Turns = codes "turns"
id_of Mode = codes "mode"
id_of Schedule = codes "schedule"

abbrev pub rule_by : Key → Rule
rule_by N = text_rule (codes "n")
rule_by Seed = text_rule (codes "seed")
rule_by Turns = text_rule (codes "turns")
rule_by Mode = text_rule (codes "mode")
rule_by Schedule = flag_rule

-- the option of this name
abbrev pub key_named : Text → Option Key
key_named name =
    cond (bytes_eq (codes "n") name) (Some N)
    (cond (bytes_eq (codes "seed") name) (Some Seed)
    (cond (bytes_eq (codes "turns") name) (Some Turns)
    (cond (bytes_eq (codes "mode") name) (Some Mode) (cond (bytes_eq (codes "schedule") name) (Some Schedule) None))))

pick : {A B : Type 0} (f : A → B) (b : Bool) (x : A) (y : Option B) (z : Option A) → y ≡ option_map f z → cond (b || false) (Some (f x)) y ≡ option_map f (cond b (Some x) z)
pick f true x y z e = refl
pick f false x y z e = e

pub by_long : (name : Text) → arg_by_long rules name ≡ option_map rule_by (key_named name)
unfolding rules
by_long name =
    pick rule_by (bytes_eq (codes "n") name) N _ _
    (pick rule_by (bytes_eq (codes "seed") name) Seed _ _
    (pick rule_by (bytes_eq (codes "turns") name) Turns _ _
    (pick rule_by (bytes_eq (codes "mode") name) Mode _ _
    (pick rule_by (bytes_eq (codes "schedule") name) Schedule _ _ refl))))

pub by_short : (x : ℕ) → arg_by_short rules x ≡ None
unfolding rules
by_short x = refl

pub by_key : (key : Key) → arg_by_id rules (id_of key) ≡ Some (rule_by key)
unfolding rules
by_key N = refl
by_key Seed = refl
by_key Turns = refl
by_key Mode = refl
by_key Schedule = refl

pub command_by_id : arg_by_id rules (codes "command") ≡ Some command_rule
unfolding rules
command_by_id = refl

pub files_by_id : arg_by_id rules (codes "files") ≡ Some files_rule
unfolding rules
files_by_id = refl

pub first_place : arg_by_index rules 1 ≡ Some command_rule
unfolding rules
first_place = refl

pub second_place : arg_by_index rules 2 ≡ Some files_rule
unfolding rules
second_place = refl

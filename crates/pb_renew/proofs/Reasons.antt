-- From what a call below told to why a text isn't renewed.
use Rattle.std.proofs.Common.{◌≡◌, ◌≢◌, ℕ, ◌<◌, ◌≤◌, ◌⊎◌, inl, inr, Bool, true, false, List, [], ◌∷◌, length, Option, None, Some, unwrap_or, refl, sym, ap, subst, ◌∙◌, arith, Ok, true≢false}
use Rattle.std.specs.Prelude.{IfSome}
use Rattle.std.specs.String.{string_bytes}
use Rattle.pb_io.specs.Files.{File, content_of, file_of}
use Rattle.pb_ctree.specs.declared.body.Bodies.{Bodies}
use Rattle.pb_ctree.specs.Texts.{Spells}
use Rattle.pb_renew_lines.specs.Outside.{AreBlank, IsOutside}
use Rattle.pb_renew_lines.specs.declared.outside.Outside.{Outside}
use Rattle.pb_renew_lines.specs.declared.outside.Outside.TheVariants as outside
use Rattle.pb_renew.specs.Made.{IsMade, IsMarked, IsTold, is_line}
use Rattle.pb_renew.specs.Places.{Agrees, IsThere}
use Rattle.pb_renew.specs.Plans.{IsPlan, IsPutTogether, LeavesAs, SparesLines, WasBefore, WasTold, bytes_of}
use Rattle.pb_renew.specs.declared.made.Made.{Made}
use Rattle.pb_renew.specs.declared.plan.Plan.{Plan}
use Rattle.pb_renew_laws.specs.Bodies.{SavesIn}
use Rattle.pb_renew_merge.specs.Lost.{NothingLost}
use Rattle.pb_renew_put.specs.Jobs.{Behind, task_of}
use Rattle.pb_renew.specs.declared.place.Place.{Place}
use Rattle.pb_ctree.specs.declared.tree.CTree.{CTree}
use Rattle.pb_renew_text.specs.declared.wanted.Wanted.{Wanted}
use Rattle.pb_kernels.specs.declared.fault.KernelFault.{KernelFault}
use Rattle.pb_kernels.specs.declared.fault.KernelFault.TheVariants as kernels
use Rattle.pb_kernels.specs.Marks.{prelude_name}
use Rattle.pb_renew_merge.specs.declared.renewed.Renewed.{Renewed}
use Rattle.pb_renew_merge.specs.Renewed.{IsLeftFault, IsRenewal, IsTextFault}
use Rattle.pb_renew.specs.Faults.{no_left, no_text}
use Rattle.pb_renew.specs.Reasons.{IsLosing, IsNoContent, IsNoLeft, IsNoRenewal, IsRead, IsReasonWith, most_bytes}
use Rattle.pb_renew.specs.declared.losing.Losing.{Losing}
use Rattle.pb_renew.specs.declared.unrenewed.Unrenewed.{Unrenewed}
use Rattle.pb_renew.specs.declared.unrenewed.Unrenewed.TheVariants as why

pub none_in : {A : Type 0} (list : List A) → length list ≡ 0 → list ≡ []
none_in [] e = refl
none_in (x ∷ xs) e = absurd (omega arith)

pub untexted : (fault : KernelFault) (bytes : List ℕ) (wanted : Wanted) → (fault ≡ kernels.NoMemory) ⊎ IsTextFault bytes wanted fault → IsNoRenewal (no_text fault) bytes wanted
untexted kernels.NoMemory bytes wanted is = tt
untexted (kernels.BadMarker line) bytes wanted (inl e) = absurd cc
untexted (kernels.BadMarker line) bytes wanted (inr is) = inl is
untexted (kernels.Twice name) bytes wanted (inl e) = absurd cc
untexted (kernels.Twice name) bytes wanted (inr is) = inl is
untexted (kernels.Missing name) bytes wanted (inl e) = absurd cc
untexted (kernels.Missing name) bytes wanted (inr is) = inl is
untexted (kernels.Extra name) bytes wanted (inl e) = absurd cc
untexted (kernels.Extra name) bytes wanted (inr is) = inl is

pub bodiless : (bytes : List ℕ) (wanted : Wanted) (renewed : Renewed) → IsRenewal bytes wanted renewed → 0 < length bytes → renewed.old ≡ [] → IsNoRenewal (why.Out (kernels.Missing prelude_name)) bytes wanted
bodiless bytes wanted renewed is some none = inr (record { some = some; none = is.read ∙ ap Ok none }, refl)

pub unleft : (fault : KernelFault) (losing : Losing) (renewed : Renewed) (before : List ℕ) → (fault ≡ kernels.NoMemory) ⊎ IsLeftFault renewed before fault → IsNoLeft (no_left fault) losing renewed before
unleft kernels.NoMemory losing renewed before is = tt
unleft (kernels.BadMarker line) losing renewed before (inl e) = absurd cc
unleft (kernels.BadMarker line) losing renewed before (inr is) = is
unleft (kernels.Twice name) losing renewed before (inl e) = absurd cc
unleft (kernels.Twice name) losing renewed before (inr is) = is
unleft (kernels.Missing name) losing renewed before (inl e) = absurd cc
unleft (kernels.Missing name) losing renewed before (inr is) = is
unleft (kernels.Extra name) losing renewed before (inl e) = absurd cc
unleft (kernels.Extra name) losing renewed before (inr is) = is

-- ---- what OUT gets

pub long_text : (losing : Losing) (renewed : Renewed) (old : List ℕ) (wanted : Wanted) → IsRenewal old wanted renewed → most_bytes < length renewed.text.items → (left : List ℕ) → IsReasonWith losing old left wanted why.TooLong
long_text losing renewed old wanted is long left = inr (inl (renewed, is, long))

pub losing_so : (losing : Losing) (old : List ℕ) (wanted : Wanted) (reason : Unrenewed) → IsLosing reason losing old → (left : List ℕ) → IsReasonWith losing old left wanted reason
losing_so losing old wanted why.ReadFault is left = absurd is
losing_so losing old wanted why.NoFile is left = absurd is
losing_so losing old wanted why.Shared is left = absurd is
losing_so losing old wanted why.TooLong is left = absurd is
losing_so losing old wanted why.NoMemory is left = tt
losing_so losing old wanted (why.Indented line) is left = is
losing_so losing old wanted (why.Out fault) is left = absurd is
losing_so losing old wanted (why.Outside line) is left = is
losing_so losing old wanted (why.LeftIndented line) is left = absurd is
losing_so losing old wanted (why.Left fault) is left = absurd is
losing_so losing old wanted why.Busy is left = absurd is
losing_so losing old wanted why.Changed is left = absurd is
losing_so losing old wanted why.Olds is left = absurd is
losing_so losing old wanted why.WriteFault is left = absurd is
losing_so losing old wanted why.Halfway is left = absurd is

-- ---- what OUT.left gets

pub gone_some : {A : Type 0} (list : List A) → 0 < length list → list ≢ []
gone_some [] some e = omega (arith, some)
gone_some (x ∷ xs) some e = true≢false (ap (λ (l : List _). is_more l) e) where
  is_more : {A : Type 0} → List A → Bool
  is_more [] = false
  is_more (y ∷ ys) = true

module _ (losing : Losing) (renewed : Renewed) (some : renewed.gone.items ≢ []) where
  -- so it is of each old text that is renewed so
  abbrev Each : List ℕ → Unrenewed → Type 0
  Each left reason = (old : List ℕ) (wanted : Wanted) → IsRenewal old wanted renewed → IsReasonWith losing old left wanted reason

  pub left_unread : (reason : Unrenewed) (h : Option (List File)) (name left : List ℕ) (it : Bool) (a b : ℕ) → name ≡ left → IsNoContent reason name h a b
      → IfSome h (λ files. IsThere left it files → Each (content_of files left) reason)
  left_unread why.ReadFault None name left it a b e is = tt
  left_unread why.ReadFault (Some files) name left it a b e is = λ there old wanted r. tt
  left_unread why.NoFile h name left it a b e is = absurd is
  left_unread why.Shared h name left it a b e is = absurd is
  left_unread why.TooLong None name left it a b e is = tt
  left_unread why.TooLong (Some files) name left it a b e is = λ there old wanted r. inr (inr (renewed, r, some, inl (subst (λ (n : List ℕ). most_bytes < length (content_of files n)) e is)))
  left_unread why.NoMemory None name left it a b e is = tt
  left_unread why.NoMemory (Some files) name left it a b e is = λ there old wanted r. tt
  left_unread (why.Indented line) h name left it a b e is = absurd is
  left_unread (why.Out fault) h name left it a b e is = absurd is
  left_unread (why.Outside line) h name left it a b e is = absurd is
  left_unread (why.LeftIndented line) h name left it a b e is = absurd is
  left_unread (why.Left fault) h name left it a b e is = absurd is
  left_unread why.Busy h name left it a b e is = absurd is
  left_unread why.Changed h name left it a b e is = absurd is
  left_unread why.Olds h name left it a b e is = absurd is
  left_unread why.WriteFault h name left it a b e is = absurd is
  left_unread why.Halfway h name left it a b e is = absurd is

  no_left_so : (reason : Unrenewed) (left : List ℕ) → IsNoLeft reason losing renewed left → Each left reason
  no_left_so why.ReadFault left is = absurd is
  no_left_so why.NoFile left is = absurd is
  no_left_so why.Shared left is = absurd is
  no_left_so why.TooLong left is = λ old wanted r. inr (inr (renewed, r, some, inr is))
  no_left_so why.NoMemory left is = λ old wanted r. tt
  no_left_so (why.Indented line) left is = absurd is
  no_left_so (why.Out fault) left is = absurd is
  no_left_so (why.Outside line) left is = absurd is
  no_left_so (why.LeftIndented line) left is = λ old wanted r. (is.0, is.1, (renewed, r, some, tt))
  no_left_so (why.Left fault) left is = λ old wanted r. (renewed, r, some, is)
  no_left_so why.Busy left is = absurd is
  no_left_so why.Changed left is = absurd is
  no_left_so why.Olds left is = absurd is
  no_left_so why.WriteFault left is = absurd is
  no_left_so why.Halfway left is = absurd is

  pub left_unmade : (reason : Unrenewed) (h : Option (List File)) (name left bytes : List ℕ) (before : Option (List ℕ)) (it : Bool) → name ≡ left → IfSome h (λ files. IsThere name it files → before ≡ file_of files name)
      → bytes ≡ unwrap_or before [] → IsNoLeft reason losing renewed bytes → IfSome h (λ files. IsThere left it files → Each (content_of files left) reason)
  left_unmade reason None name left bytes before it e was are is = tt
  left_unmade reason (Some files) name left bytes before it e was are is = λ there.
      let was_there = subst (λ (n : List ℕ). IsThere n it files → before ≡ file_of files n) e was in
      let content : bytes ≡ content_of files left = are ∙ ap (λ (o : Option (List ℕ)). unwrap_or o []) (was_there there) in
      subst (λ (l : List ℕ). Each l reason) content (no_left_so reason bytes is)

-- ---- which reasons there can be

pub read_content : (reason : Unrenewed) (name : List ℕ) (h : Option (List File)) (a b : ℕ) → IsNoContent reason name h a b → IsRead reason a b
read_content why.ReadFault name h a b is = is
read_content why.NoFile name h a b is = absurd is
read_content why.Shared name h a b is = absurd is
read_content why.TooLong name h a b is = tt
read_content why.NoMemory name h a b is = tt
read_content (why.Indented line) name h a b is = absurd is
read_content (why.Out fault) name h a b is = absurd is
read_content (why.Outside line) name h a b is = absurd is
read_content (why.LeftIndented line) name h a b is = absurd is
read_content (why.Left fault) name h a b is = absurd is
read_content why.Busy name h a b is = absurd is
read_content why.Changed name h a b is = absurd is
read_content why.Olds name h a b is = absurd is
read_content why.WriteFault name h a b is = absurd is
read_content why.Halfway name h a b is = absurd is

pub read_made : (reason : Unrenewed) (losing : Losing) (bytes : List ℕ) (wanted : Wanted) (a b : ℕ) → ((left : List ℕ) → IsReasonWith losing bytes left wanted reason) → (reason ≡ why.ReadFault → ⊥) → IsRead reason a b
read_made why.ReadFault losing bytes wanted a b is never = absurd (never refl)
read_made why.NoFile losing bytes wanted a b is never = absurd (is [])
read_made why.Shared losing bytes wanted a b is never = absurd (is [])
read_made why.TooLong losing bytes wanted a b is never = tt
read_made why.NoMemory losing bytes wanted a b is never = tt
read_made (why.Indented line) losing bytes wanted a b is never = tt
read_made (why.Out fault) losing bytes wanted a b is never = tt
read_made (why.Outside line) losing bytes wanted a b is never = tt
read_made (why.LeftIndented line) losing bytes wanted a b is never = tt
read_made (why.Left fault) losing bytes wanted a b is never = tt
read_made why.Busy losing bytes wanted a b is never = absurd (is [])
read_made why.Changed losing bytes wanted a b is never = absurd (is [])
read_made why.Olds losing bytes wanted a b is never = absurd (is [])
read_made why.WriteFault losing bytes wanted a b is never = absurd (is [])
read_made why.Halfway losing bytes wanted a b is never = absurd (is [])

pub read_left : (reason : Unrenewed) (losing : Losing) (renewed : Renewed) (before : List ℕ) (a b : ℕ) → IsNoLeft reason losing renewed before → IsRead reason a b
read_left why.ReadFault losing renewed before a b is = absurd is
read_left why.NoFile losing renewed before a b is = absurd is
read_left why.Shared losing renewed before a b is = absurd is
read_left why.TooLong losing renewed before a b is = tt
read_left why.NoMemory losing renewed before a b is = tt
read_left (why.Indented line) losing renewed before a b is = absurd is
read_left (why.Out fault) losing renewed before a b is = absurd is
read_left (why.Outside line) losing renewed before a b is = absurd is
read_left (why.LeftIndented line) losing renewed before a b is = tt
read_left (why.Left fault) losing renewed before a b is = tt
read_left why.Busy losing renewed before a b is = absurd is
read_left why.Changed losing renewed before a b is = absurd is
read_left why.Olds losing renewed before a b is = absurd is
read_left why.WriteFault losing renewed before a b is = absurd is
read_left why.Halfway losing renewed before a b is = absurd is

pub read_sooner : (reason : Unrenewed) (a b c : ℕ) → a ≤ b → IsRead reason b c → IsRead reason a c
read_sooner why.ReadFault a b c le is = omega (arith, le, is)
read_sooner why.NoFile a b c le is = absurd is
read_sooner why.Shared a b c le is = absurd is
read_sooner why.TooLong a b c le is = tt
read_sooner why.NoMemory a b c le is = tt
read_sooner (why.Indented line) a b c le is = tt
read_sooner (why.Out fault) a b c le is = tt
read_sooner (why.Outside line) a b c le is = tt
read_sooner (why.LeftIndented line) a b c le is = tt
read_sooner (why.Left fault) a b c le is = tt
read_sooner why.Busy a b c le is = absurd is
read_sooner why.Changed a b c le is = absurd is
read_sooner why.Olds a b c le is = absurd is
read_sooner why.WriteFault a b c le is = absurd is
read_sooner why.Halfway a b c le is = absurd is

-- ---- a plan that isn't made

-- OUT can't be read
pub out_unread : (losing : Losing) (wanted : Wanted) (reason : Unrenewed) (h : Option (List File)) (name : List ℕ) (place : Place) (a b : ℕ) → name ≡ string_bytes place.out → IsNoContent reason name h a b
    → IfSome h (λ files. Agrees place files → IsReasonWith losing (content_of files (string_bytes place.out)) (content_of files (string_bytes place.left)) wanted reason)
out_unread losing wanted why.ReadFault None name place a b e is = tt
out_unread losing wanted why.ReadFault (Some files) name place a b e is = λ agrees. tt
out_unread losing wanted why.NoFile h name place a b e is = absurd is
out_unread losing wanted why.Shared h name place a b e is = absurd is
out_unread losing wanted why.TooLong None name place a b e is = tt
out_unread losing wanted why.TooLong (Some files) name place a b e is = λ agrees. inl (subst (λ (n : List ℕ). most_bytes < length (content_of files n)) e is)
out_unread losing wanted why.NoMemory None name place a b e is = tt
out_unread losing wanted why.NoMemory (Some files) name place a b e is = λ agrees. tt
out_unread losing wanted (why.Indented line) h name place a b e is = absurd is
out_unread losing wanted (why.Out fault) h name place a b e is = absurd is
out_unread losing wanted (why.Outside line) h name place a b e is = absurd is
out_unread losing wanted (why.LeftIndented line) h name place a b e is = absurd is
out_unread losing wanted (why.Left fault) h name place a b e is = absurd is
out_unread losing wanted why.Busy h name place a b e is = absurd is
out_unread losing wanted why.Changed h name place a b e is = absurd is
out_unread losing wanted why.Olds h name place a b e is = absurd is
out_unread losing wanted why.WriteFault h name place a b e is = absurd is
out_unread losing wanted why.Halfway h name place a b e is = absurd is

-- what was read of OUT is its content
out_content : (before : Option (List ℕ)) (name bytes : List ℕ) (place : Place) (files : List File) → name ≡ string_bytes place.out → (IsThere name place.is_out files → before ≡ file_of files name) → bytes ≡ unwrap_or before []
    → Agrees place files → bytes ≡ content_of files (string_bytes place.out)
out_content before name bytes place files e was are agrees =
    let there = subst (λ (n : List ℕ). IsThere n place.is_out files → before ≡ file_of files n) e was in
    are ∙ ap (λ (o : Option (List ℕ)). unwrap_or o []) (there agrees.out)

-- its text can't be made
pub out_unmade : (losing : Losing) (wanted : Wanted) (reason : Unrenewed) (h : Option (List File)) (name bytes : List ℕ) (before : Option (List ℕ)) (place : Place) → name ≡ string_bytes place.out
    → IfSome h (λ files. IsThere name place.is_out files → before ≡ file_of files name) → bytes ≡ unwrap_or before [] → ((left : List ℕ) → IsReasonWith losing bytes left wanted reason)
    → IfSome h (λ files. Agrees place files → IsReasonWith losing (content_of files (string_bytes place.out)) (content_of files (string_bytes place.left)) wanted reason)
out_unmade losing wanted reason None name bytes before place e was are is = tt
out_unmade losing wanted reason (Some files) name bytes before place e was are is = λ agrees.
    subst (λ (t : List ℕ). IsReasonWith losing t (content_of files (string_bytes place.left)) wanted reason) (out_content before name bytes place files e was are agrees) (is _)

-- nor can OUT.left
pub left_failed : (losing : Losing) (wanted : Wanted) (reason : Unrenewed) (h0 h1 : Option (List File)) (name bytes : List ℕ) (before : Option (List ℕ)) (place : Place) (renewed : Renewed) → h1 ≡ h0 → name ≡ string_bytes place.out
    → IfSome h0 (λ files. IsThere name place.is_out files → before ≡ file_of files name) → bytes ≡ unwrap_or before [] → IsRenewal bytes wanted renewed
    → IfSome h1 (λ files. IsThere (string_bytes place.left) place.is_left files → (old : List ℕ) (t : Wanted) → IsRenewal old t renewed → IsReasonWith losing old (content_of files (string_bytes place.left)) t reason)
    → IfSome h0 (λ files. Agrees place files → IsReasonWith losing (content_of files (string_bytes place.out)) (content_of files (string_bytes place.left)) wanted reason)
left_failed losing wanted reason None h1 name bytes before place renewed same e was are r is = tt
left_failed losing wanted reason (Some files) h1 name bytes before place renewed same e was are r is = λ agrees.
    let given = subst (λ (h : Option (List File)). IfSome h (λ files. IsThere (string_bytes place.left) place.is_left files → (old : List ℕ) (t : Wanted) → IsRenewal old t renewed → IsReasonWith losing old (content_of files (string_bytes place.left)) t reason)) same is in
    subst (λ (t : List ℕ). IsReasonWith losing t (content_of files (string_bytes place.left)) wanted reason) (out_content before name bytes place files e was are agrees) (given agrees.left bytes wanted r)

-- ---- a plan that is made

-- bodies that go to OUT.left, behind what it had
pub saves_so : (renewed : Renewed) (before : Option (List ℕ)) (was left : List ℕ) → was ≡ unwrap_or before []
    → ((old : List ℕ) (wanted : Wanted) → IsRenewal old wanted renewed → NothingLost old renewed.text.items left) → NothingLost was left []
    → ((old : List ℕ) (wanted : Wanted) → IsRenewal old wanted renewed → NothingLost left was old)
    → (old : List ℕ) (wanted : Wanted) → IsRenewal old wanted renewed → SavesIn (Some (record { before = before; bodies = left })) old renewed.text.items
saves_so renewed before was left is lost keeps adds old wanted renewal = record {
  whole = lost old wanted renewal;
  grows = subst (λ (b : List ℕ). NothingLost b left []) is keeps;
  known = subst (λ (b : List ℕ). NothingLost left b old) is (adds old wanted renewal);
}

pub plan_so : (wanted : Wanted) (bytes : List ℕ) (old : Option (List ℕ)) (made : Made) (behind : Option Behind) (plan : Plan) → bytes ≡ unwrap_or old [] → IsMade bytes wanted made → LeavesAs made.renewed.gone.items made.renewed behind
    → ((out : List ℕ) (t : Wanted) → IsRenewal out t made.renewed → SavesIn behind out made.renewed.text.items) → IsPutTogether old made behind plan → IsPlan wanted plan
plan_so wanted bytes old made behind plan are is leaves sound of =
    let was : bytes ≡ bytes_of (task_of plan.job).old = are ∙ ap bytes_of (sym of.was) in
    let renewal = subst (λ (b : List ℕ). IsRenewal b wanted made.renewed) was is.renewal in
    record {
      renewal = subst (λ (r : Renewed). IsRenewal (bytes_of (task_of plan.job).old) wanted r) (sym of.renewed) renewal;
      text = refl;
      left = subst (λ (r : Renewed). LeavesAs r.gone.items r (task_of plan.job).behind) (sym of.renewed) (subst (λ (b : Option Behind). LeavesAs made.renewed.gone.items made.renewed b) (sym of.left) leaves);
      sound = subst (λ (b : Option Behind). SavesIn b (bytes_of (task_of plan.job).old) plan.job.text.items) (sym of.left)
          (subst (λ (r : Renewed). SavesIn behind (bytes_of (task_of plan.job).old) r.text.items) (sym of.renewed) (sound _ wanted renewal));
      lines = λ spared. subst SparesLines was (is.lines (sym of.lines ∙ spared));
    }

-- and it has what the folder tells
pub told_so : (h0 h1 : Option (List File)) (name : List ℕ) (old : Option (List ℕ)) (made : Made) (behind : Option Behind) (place : Place) (plan : Plan) → h1 ≡ h0 → name ≡ string_bytes place.out
    → IfSome h0 (λ files. IsThere name place.is_out files → old ≡ file_of files name)
    → IfSome h1 (λ files. IsThere (string_bytes place.left) place.is_left files → WasBefore behind (file_of files (string_bytes place.left))) → IsPutTogether old made behind plan
    → IfSome h0 (λ files. Agrees place files → WasTold (task_of plan.job) place files)
told_so None h1 name old made behind place plan same e was before of = tt
told_so (Some files) h1 name old made behind place plan same e was before of = λ agrees.
    let there = subst (λ (n : List ℕ). IsThere n place.is_out files → old ≡ file_of files n) e was in
    let left = subst (λ (h : Option (List File)). IfSome h (λ files. IsThere (string_bytes place.left) place.is_left files → WasBefore behind (file_of files (string_bytes place.left)))) same before in
    record {
      out = of.was ∙ there agrees.out;
      left = subst (λ (b : Option Behind). WasBefore b (file_of files (string_bytes place.left))) (sym of.left) (left agrees.left);
    }

-- ---- what is made of OUT

spared_outside : (bytes : List ℕ) (lines : Outside) → IsOutside bytes lines → is_line lines ≡ false → ((tree : CTree) × (bodies : Bodies) × Spells tree bodies bytes) ⊎ AreBlank bytes
spared_outside bytes (outside.Text text) is none = inl (text.tree, text.bodies, is)
spared_outside bytes outside.Blank is none = inr is
spared_outside bytes (outside.Line line) is none = absurd (true≢false none)

pub made_so : (bytes : List ℕ) (wanted : Wanted) (renewed : Renewed) (mark : Bool) (lines : Outside) (made : Made) → IsRenewal bytes wanted renewed → IsMarked bytes mark → IsOutside bytes lines → made.renewed ≡ renewed
    → IsTold mark lines made.is_losing → IsMade bytes wanted made
made_so bytes wanted renewed mark lines made is marked out e told = record {
  renewal = subst (λ (r : Renewed). IsRenewal bytes wanted r) (sym e) is;
  lines = λ spared. record { markers = marked (told.markers spared); outside = spared_outside bytes lines out (told.outside spared) };
}

-- What a sound statement has.
use Rattle.std.proofs.Common.{◌≡◌, ℕ, ℤ, true, ◌&&◌, List, refl}
use Rattle.std.proofs.lemmas.Bool.{and_parts, and_from, false≢true}
use Rattle.pb_core_language.specs.declared.protocol.CoreRole.{CoreRole}
use Rattle.pb_core_language.specs.Flat.{Block, stop}
use Rattle.pb_core_language.specs.FlatOf.{flat_stmt}
use Rattle.pb_core_language.specs.Tree.{Mark, StmtTree, message, foreach, loop, again, choice, run, barrier, broadcast, reduce, allreduce, BlockTree, nothing, more, is_again}
use Rattle.pb_core_language.specs.Sound.{Rows, is_item, is_bound, is_stmt, is_block}
use Rattle.pb_core_flat.specs.GoesOn.{goes_on, go_on, are_items}
use Rattle.pb_core_flat.specs.Laws.{SoundGoesOn}

pub item_goes_on : (s : StmtTree) → is_item s ≡ true → goes_on s ≡ true
item_goes_on (message l f t) h = refl
item_goes_on (foreach b m items) h = absurd (false≢true h)
item_goes_on (loop id m body) h = absurd (false≢true h)
item_goes_on (again id) h = absurd (false≢true h)
item_goes_on (choice k at bs) h = absurd (false≢true h)
item_goes_on (run k at) h = refl
item_goes_on barrier h = absurd (false≢true h)
item_goes_on (broadcast l root) h = absurd (false≢true h)
item_goes_on (reduce l op root) h = absurd (false≢true h)
item_goes_on (allreduce l op) h = absurd (false≢true h)

pub items_go_on : (b : BlockTree) → are_items b ≡ true → go_on b ≡ true
items_go_on nothing h = refl
items_go_on (more m s b) h =
    let hs = and_parts (is_item s) (are_items b) h in
    and_from (goes_on s) (go_on b) (item_goes_on s hs.0) (items_go_on b hs.1)

-- the items of a sound foreach are messages and computes
pub sound_items : (rows : Rows) (ids : List ℕ) (b : BlockTree) → is_block rows true ids b ≡ true → are_items b ≡ true
sound_items rows ids nothing h = refl
sound_items rows ids (more m s b) h =
    let hs = and_parts (is_item s) (is_stmt rows true ids s && is_block rows true ids b) h in
    let ks = and_parts (is_stmt rows true ids s) (is_block rows true ids b) hs.1 in
    and_from (is_item s) (are_items b) hs.0 (sound_items rows ids b ks.1)

pub sound_goes_on : SoundGoesOn
sound_goes_on rows varies ids (message l f t) h = refl
sound_goes_on rows varies ids (foreach b m items) h =
    let hs = and_parts (is_bound b.low) (is_bound b.high && is_block rows true ids items) h in
    let ks = and_parts (is_bound b.high) (is_block rows true ids items) hs.1 in
    items_go_on items (sound_items rows ids items ks.1)
sound_goes_on rows varies ids (loop id m body) h = refl
sound_goes_on rows varies ids (again id) h = refl
sound_goes_on rows varies ids (choice k at bs) h = refl
sound_goes_on rows varies ids (run k at) h = refl
sound_goes_on rows varies ids barrier h = refl
sound_goes_on rows varies ids (broadcast l root) h = refl
sound_goes_on rows varies ids (reduce l op root) h = refl
sound_goes_on rows varies ids (allreduce l op) h = refl

-- what is written behind a continue is dropped
pub dropped : (roles : List CoreRole) (n : ℤ) (opens : List ℕ) (i : ℤ) (m : Mark) (s : StmtTree) (g : Block) → is_again s ≡ true → flat_stmt roles n opens i m s g ≡ flat_stmt roles n opens i m s stop
dropped roles n opens i m (message l f t) g e = absurd (false≢true e)
dropped roles n opens i m (foreach b k items) g e = absurd (false≢true e)
dropped roles n opens i m (loop id k body) g e = absurd (false≢true e)
dropped roles n opens i m (again id) g e = refl
dropped roles n opens i m (choice k at bs) g e = absurd (false≢true e)
dropped roles n opens i m (run k at) g e = absurd (false≢true e)
dropped roles n opens i m barrier g e = absurd (false≢true e)
dropped roles n opens i m (broadcast l root) g e = absurd (false≢true e)
dropped roles n opens i m (reduce l op root) g e = absurd (false≢true e)
dropped roles n opens i m (allreduce l op) g e = absurd (false≢true e)

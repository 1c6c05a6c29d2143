-- The segments of a `foreach`: what a rank does of it as an end that is the variable plus a constant, without a loop.
use Rattle.std.specs.Prelude.{ℕ, suc, ℤ, pos, ◌+ℤ◌, ◌-ℤ◌, Bool, ◌&&◌, nat_eq, int_le, int_lt, if◌then◌else◌, List, [], ◌∷◌}
use Rattle.std.specs.Ordering.{int_eq}
use Rattle.pb_affine.specs.Values.{value}
use Rattle.pb_core_language.specs.declared.protocol.CoreRole.{CoreRole}
use Rattle.pb_core_language.specs.declared.tree.CoreEnd.{CoreEnd}
use Rattle.pb_core_language.specs.Tree as T
use Rattle.pb_core_language.specs.Tree.{StmtTree, BlockTree}
use Rattle.pb_core_language.specs.declared.tree.Bounds.{Bounds}
use Rattle.pb_core_flat.specs.Meets.{is_moving}
use Rattle.pb_local.specs.Tree.{Code, Codes, nothing, more}
use Rattle.pb_local.specs.Tree as L
use Rattle.pb_shape.specs.Places.{Scope, Who, Here, peer_of}
use Rattle.pb_shape.specs.Guards.{One}

-- the end is the variable plus c, of role k
abbrev pub is_at_offset : ℕ → ℤ → CoreEnd → Bool
is_at_offset k c e = nat_eq k e.role && (int_eq c e.at.off && is_moving e)

abbrev pub put : Bool → Code → Codes → Codes
put b c cs = if b then more c cs else cs

-- what an item is to the ranks of role k with this offset, before the rest
abbrev pub segment_code : ℕ → ℤ → StmtTree → Codes → Codes
segment_code k c (T.message l f t) rest = put (is_at_offset k c f) (L.send l (peer_of t)) (put (is_at_offset k c t) (L.recv l (peer_of f)) rest)
segment_code k c (T.run kernel e) rest = put (is_at_offset k c e) (L.run kernel) rest
segment_code k c (T.foreach b m items) rest = rest
segment_code k c (T.loop id m body) rest = rest
segment_code k c (T.again id) rest = rest
segment_code k c (T.choice kernel at bs) rest = rest
segment_code k c T.barrier rest = rest
segment_code k c (T.broadcast l root) rest = rest
segment_code k c (T.reduce l op root) rest = rest
segment_code k c (T.allreduce l op) rest = rest

abbrev pub segment_codes : ℕ → ℤ → BlockTree → Codes
segment_codes k c T.nothing = nothing
segment_codes k c (T.more m s rest) = segment_code k c s (segment_codes k c rest)

-- into a descending list, once
abbrev pub put_in : ℤ → List ℤ → List ℤ
put_in c [] = c ∷ []
put_in c (d ∷ ds) = if int_lt d c then c ∷ d ∷ ds else (if int_lt c d then d ∷ put_in c ds else d ∷ ds)

abbrev pub put_end : ℕ → CoreEnd → List ℤ → List ℤ
put_end k e cs = if nat_eq k e.role && is_moving e then put_in e.at.off cs else cs

abbrev pub offsets_at : ℕ → StmtTree → List ℤ → List ℤ
offsets_at k (T.message l f t) cs = put_end k f (put_end k t cs)
offsets_at k (T.run kernel e) cs = put_end k e cs
offsets_at k (T.foreach b m items) cs = cs
offsets_at k (T.loop id m body) cs = cs
offsets_at k (T.again id) cs = cs
offsets_at k (T.choice kernel at bs) cs = cs
offsets_at k T.barrier cs = cs
offsets_at k (T.broadcast l root) cs = cs
offsets_at k (T.reduce l op root) cs = cs
offsets_at k (T.allreduce l op) cs = cs

-- the offsets of a role's ends, descending, each once
abbrev pub offsets : ℕ → BlockTree → List ℤ
offsets k T.nothing = []
offsets k (T.more m s rest) = offsets_at k s (offsets k rest)

-- the ranks of role k that are an end with offset c in some iteration
abbrev pub in_segment : Bounds → ℕ → ℤ → Who
in_segment b k c n i role x = nat_eq k role && (int_le (value b.low n (pos 0) +ℤ c) x && int_le x (value b.high n (pos 0) +ℤ c))

module _ (sc : Scope) (h : Here) (b : Bounds) (items : BlockTree) where
  -- the segments of role k with these offsets, before what follows
  pub data OfRole (k : ℕ) (tail : Codes) : List ℤ → Codes → Type 0 where
    none : OfRole k tail [] tail
    segment : {c : ℤ} {cs : List ℤ} {middle codes : Codes} →
        One sc h (in_segment b k c) (more (L.own (pos 0 -ℤ c)) (segment_codes k c items)) middle codes → OfRole k tail cs middle → OfRole k tail (c ∷ cs) codes

  -- the segments of the roles from number k on
  pub data Segments (tail : Codes) : ℕ → List CoreRole → Codes → Type 0 where
    none : {k : ℕ} → Segments tail k [] tail
    of_role : {k : ℕ} {r : CoreRole} {rs : List CoreRole} {middle codes : Codes} →
        OfRole k middle (offsets k items) codes → Segments tail (suc k) rs middle → Segments tail k (r ∷ rs) codes

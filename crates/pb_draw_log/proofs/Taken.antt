-- Lines that were read, and one more.
use Rattle.std.proofs.Common.{◌≡◌, ℕ, ◌+◌, List, [], ◌∷◌, ◌++◌, length, sym, ap, subst, ◌∙◌, arith, length-append}
use Rattle.pb_text.specs.Tables.{IsTable, AreDistinct}
use Rattle.pb_draw_log.specs.Ends.{IsEnd, IsLog, IsBadLine}
use Rattle.pb_draw_log.specs.Lines.{IsLine, Says, Reads, no_line, line}
use Rattle.pb_draw_log.specs.Taking.{Keeps, Adds, HasRead, HasReadAll}
use Rattle.pb_draw_log.specs.declared.entry.Entry.{Entry}
use Rattle.pb_draw_log.specs.declared.entry.Log.{Log}
use Rattle.pb_draw_log.specs.declared.line.Line.{Line}
use Rattle.pb_draw_log.proofs.Shorter.{line_shorter}

says_kept : (size : ℕ) (old new : List (List ℕ)) (e : Entry) (l : Line) (tail : List ℕ) → Keeps old new → Says size old e l tail → Says size new e l tail
says_kept size old new e l tail keeps h = record { rank = h.rank; deed = h.deed; name = keeps e.step.name l.head.name h.name; words = h.words; start = h.start }

reads_kept : (size : ℕ) (old new : List (List ℕ)) (text rest : List ℕ) (es : List Entry) → Keeps old new → Reads size old text es rest → Reads size new text es rest
reads_kept size old new _ _ _ keeps (no_line text) = no_line text
reads_kept size old new _ rest _ keeps (line text tail next _ l e es is says more) =
    line text tail next rest l e es is (says_kept size old new e l tail keeps says) (reads_kept size old new next rest es keeps more)

reads_last : (size : ℕ) (names : List (List ℕ)) (text tail rest next : List ℕ) (es : List Entry) (e : Entry) (l : Line) → Reads size names text es rest
    → IsLine rest l tail next → Says size names e l tail → Reads size names text (es ++ e ∷ []) next
reads_last size names _ tail _ next _ e l (no_line text) is says = line text tail next next l e [] is says (no_line next)
reads_last size names _ tail rest next _ e l (line text tail2 next2 _ l2 e2 es is2 says2 more) is says =
    line text tail2 next2 next l2 e2 (es ++ e ∷ []) is2 says2 (reads_last size names next2 tail rest next es e l more is says)

pub one_more : (bytes rest tail next : List ℕ) (table table_new : List (List ℕ)) (log log_new : Log) (l : Line) (start : ℕ) → HasRead bytes table log rest
    → IsLine rest l tail next → Adds table log table_new log_new l start → start + length tail ≡ length bytes → HasRead bytes table_new log_new next
one_more bytes rest tail next table table_new log log_new l start h is adds at =
    let keeps : Keeps log.names.items log_new.names.items = subst (λ t. Keeps t log_new.names.items) h.same adds.name.keeps in
    let says : Says (length bytes) log_new.names.items adds.entry l tail = record {
      rank = adds.rank;
      deed = adds.deed;
      name = adds.name.there;
      words = adds.words;
      start = ap (λ k. k + length tail) adds.from ∙ at;
    } in
    let count : length log_new.entries.items ≡ length log.entries.items + 1 = ap length adds.entries ∙ length-append log.entries.items (adds.entry ∷ []) in
    record {
      lines = subst (λ es. Reads (length bytes) log_new.names.items bytes es next) (sym adds.entries)
          (reads_last (length bytes) log_new.names.items bytes tail rest next log.entries.items adds.entry l
          (reads_kept (length bytes) log.names.items log_new.names.items bytes rest log.entries.items keeps h.lines) is says);
      same = adds.name.same;
      is_table = adds.name.is_table;
      room = omega (arith, h.room, count, (line_shorter rest l tail next is).rest_shorter);
      few = omega (arith, h.few, count, adds.name.few, ap length adds.name.same);
    }

no_names : (t : List (List ℕ)) → t ≡ [] → IsTable t
no_names t e = record { distinct = λ i j lt within same. absurd (omega (arith, lt, within, ap length e)); few = omega (arith, ap length e) }

pub begun : (bytes : List ℕ) (table : List (List ℕ)) (log : Log) → table ≡ [] → log.names.items ≡ [] → log.entries.items ≡ [] → HasRead bytes table log bytes
begun bytes table log a b c = record {
  lines = subst (λ es. Reads (length bytes) log.names.items bytes es bytes) (sym c) (no_line bytes);
  same = a ∙ sym b;
  is_table = no_names table a;
  room = omega (arith, ap length c);
  few = omega (arith, ap length a);
}

pub ended : (bytes rest : List ℕ) (table : List (List ℕ)) (log now : Log) → HasReadAll bytes table log rest → IsEnd rest → now.names.items ≡ log.names.items
    → now.entries.items ≡ log.entries.items → now.end + length rest ≡ length bytes → IsLog bytes now
ended bytes rest table log now h ends names entries place = record {
  rest = rest;
  lines = subst (λ es. Reads (length bytes) now.names.items bytes es rest) (sym entries) (subst (λ ns. Reads (length bytes) ns bytes log.entries.items rest) (sym names) h.read.lines);
  distinct = subst AreDistinct (h.read.same ∙ sym names) h.read.is_table.distinct;
  ends = ends;
  place = place;
}

pub refused : (bytes rest : List ℕ) (table : List (List ℕ)) (log : Log) (n : ℕ) → HasReadAll bytes table log rest → (IsEnd rest → ⊥) → n ≡ length log.entries.items + 1 → IsBadLine bytes n
refused bytes rest table log n h none count = record {
  names = log.names.items;
  entries = log.entries.items;
  rest = rest;
  lines = h.read.lines;
  count = count;
  no_line = h.stops;
  no_end = none;
}

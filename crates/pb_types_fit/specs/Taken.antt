-- The names that a constant can't have: the text of the program declares them, or they belong to C or to MPI.
use Rattle.std.specs.Prelude.{ℕ, Bool, true, false, ◌||◌, ◌-◌, List, [], ◌∷◌, codes, length, drop, Option, Some, None, nat_eq}
use Rattle.std.specs.List.{list_any}
use Rattle.std.specs.Cmp.Lexicographic.{pointwise}
use Rattle.pb_text_read.specs.Fronts.{strip}
use Rattle.pb_local.specs.Tree.{Program}

-- a text was found, and what is behind it passes the test
abbrev pub found : Option (List ℕ) → (List ℕ → Bool) → Bool
found None test = false
found (Some rest) test = test rest

-- the word stands first, between blanks
abbrev pub stands_first : List ℕ → List ℕ → Bool
stands_first word text = found (strip (codes " ") text) (λ rest. found (strip word rest) (λ more. found (strip (codes " ") more) (λ all. true)))

abbrev pub stands_in : List ℕ → List ℕ → Bool
stands_in word [] = false
stands_in word (b ∷ bs) = stands_first word (b ∷ bs) || stands_in word bs

-- of the text: its buffers, variables, parameters, and main
unfoldable pub own_words : List ℕ
own_words = codes " is ir us ur main argc argv size rank N R I a i st x role index to_role to_index from_role from_index v count most "

-- keywords of C99, C11, C17 and C23, and what compilers define
unfoldable pub keywords : List ℕ
keywords =
    codes " alignas alignof auto bool break case char const constexpr continue default do double else enum extern false float for goto if inline int long nullptr register restrict return short signed sizeof static static_assert struct switch thread_local true typedef typeof typeof_unqual union unsigned void volatile while asm linux unix i386 "

-- names of stdio.h
unfoldable pub library_words : List ℕ
library_words =
    codes " NULL EOF BUFSIZ FILE FILENAME_MAX FOPEN_MAX L_tmpnam SEEK_CUR SEEK_END SEEK_SET TMP_MAX stderr stdin stdout clearerr fclose feof ferror fflush fgetc fgetpos fgets fopen fprintf fputc fputs fread freopen fscanf fseek fsetpos ftell fwrite getc getchar gets perror printf putc putchar puts remove rename rewind scanf setbuf setvbuf snprintf sprintf sscanf tmpfile tmpnam ungetc vfprintf vfscanf vprintf vscanf vsnprintf vsprintf vsscanf "

abbrev pub any_rest : List ℕ → Bool
any_rest rest = true

-- MPI, the recorder, and what C keeps for itself
abbrev pub is_reserved : List ℕ → Bool
is_reserved name =
    found (strip (codes "_") name) any_rest
    || found (strip (codes "MPI_") name) any_rest
    || found (strip (codes "PMPI_") name) any_rest
    || found (strip (codes "PABBLE_") name) any_rest
    || found (strip (codes "pabble_") name) any_rest
    || pointwise nat_eq (drop (length name - 2) name) (codes "_t")

abbrev pub has_role : Program → List ℕ → Bool
has_role p name = list_any (λ r. pointwise nat_eq r.name name) p.roles

abbrev pub has_label : Program → List ℕ → Bool
has_label p name = list_any (λ l. pointwise nat_eq l.name name) p.labels

abbrev pub has_kernel : Program → List ℕ → Bool
has_kernel p name = list_any (λ k. pointwise nat_eq k.name name) p.kernels

-- the functions of roles and kernels, and the functions, buffers and counts of labels
abbrev pub is_of_role : Program → List ℕ → Bool
is_of_role p name = found (strip (codes "r_") name) (has_role p)

abbrev pub is_of_kernel : Program → List ℕ → Bool
is_of_kernel p name = found (strip (codes "k_") name) (has_kernel p) || found (strip (codes "c_") name) (has_kernel p)

abbrev pub is_of_label : Program → List ℕ → Bool
is_of_label p name =
    found (strip (codes "make_") name) (has_label p)
    || found (strip (codes "take_") name) (has_label p)
    || found (strip (codes "room_") name) (has_label p)
    || found (strip (codes "s_") name) (has_label p)
    || found (strip (codes "t_") name) (has_label p)
    || found (strip (codes "n_") name) (has_label p)

abbrev pub is_word_taken : List ℕ → Bool
is_word_taken name = stands_in name own_words || stands_in name keywords || stands_in name library_words

abbrev pub is_taken : Program → List ℕ → Bool
is_taken p name = is_word_taken name || is_reserved name || is_of_role p name || is_of_kernel p name || is_of_label p name

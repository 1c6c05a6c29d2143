-- A worked text.
use Rattle.std.specs.Prelude.{ℤ, pos, negsuc, [], ◌∷◌, Some, None, codes, map, ◌≡◌, true, refl}
use Rattle.std.specs.Fmt.{digits}
use Rattle.pb_text.specs.Spellings as spellings
use Rattle.pb_affine.specs.declared.lin.Base.TheVariants.{Fixed, Param}
use Rattle.pb_affine.specs.declared.lin.Lin.{Lin}
use Rattle.pb_affine.specs.declared.guard.Guard.{Guard}
use Rattle.pb_syntax.specs.declared.tree.Payload.TheVariants.{Unit as NoWords}
use Rattle.pb_local.specs.Tree.{Program, when, send, recv, nothing, codes_of}
use Rattle.pb_ctree.specs.Frame.{text_lines}
use Rattle.pb_ctree.specs.Texts.{line_bytes, all_kept}

abbrev fixed : ℤ → Lin
fixed n = record { base = Fixed; off = n }

abbrev param : ℤ → Lin
param n = record { base = Param; off = n }

abbrev seat : Lin → Guard
seat l = record { role = 0; low = Some l; high = Some l; from = None; to = None }

-- rank 0 sends a message without words to the last rank
abbrev first_to_last : Program
first_to_last = record {
  protocol = codes "P";
  range = record { low = 2; high = None };
  roles = record { name = codes "W"; low = fixed (pos 0); high = param (negsuc 0) } ∷ [];
  labels = record { name = codes "A"; payload = NoWords } ∷ [];
  kernels = [];
  body = codes_of (when (seat (fixed (pos 0)) ∷ []) (codes_of (send 0 (record { role = 0; at = param (negsuc 0) }) ∷ [])) nothing
      ∷ when (seat (param (negsuc 0)) ∷ []) (codes_of (recv 0 (record { role = 0; at = fixed (pos 0) }) ∷ [])) nothing ∷ []);
}

worked : map (line_bytes first_to_last) (text_lines first_to_last [] []) ≡
    (codes "/* pabble 1 */"
    ∷ codes "/* protocol P */"
    ∷ codes "/* N 2 to max */"
    ∷ codes "/* role W 0 to N - 1 */"
    ∷ codes "/* label A () */"
    ∷ codes "#include <mpi.h>"
    ∷ codes "#include <stdint.h>"
    ∷ codes "static int32_t is[1024], ir[1024];"
    ∷ codes "static uint32_t us[1024], ur[1024];"
    ∷ codes "/*@ prelude */"
    ∷ codes "/*@ end */"
    ∷ codes "static int32_t r_W(int32_t N, int32_t x)"
    ∷ codes "{"
    ∷ codes "  return x + 0 * N + 0;"
    ∷ codes "}"
    ∷ codes "int main(int argc, char **argv)"
    ∷ codes "{"
    ∷ codes "  int size, rank;"
    ∷ codes "  int32_t N, R, I, a, i;"
    ∷ codes "  MPI_Status st;"
    ∷ codes "  MPI_Init(&argc, &argv);"
    ∷ codes "  MPI_Comm_size(MPI_COMM_WORLD, &size);"
    ∷ codes "  MPI_Comm_rank(MPI_COMM_WORLD, &rank);"
    ∷ codes "  N = (size - 0) / 1;"
    ∷ codes "  R = 0;"
    ∷ codes "  I = 0;"
    ∷ codes "  a = 0;"
    ∷ codes "  i = 0;"
    ∷ codes "  if (N < 2 || 1 * N + 0 != size) {"
    ∷ codes "    MPI_Abort(MPI_COMM_WORLD, 2);"
    ∷ codes "  }"
    ∷ codes "  if (rank >= 0 * N + 0) {"
    ∷ codes "    R = 0;"
    ∷ codes "    I = rank - (0 * N + 0);"
    ∷ codes "  }"
    ∷ codes "  if (R == 0 && I == 0) {"
    ∷ codes "    MPI_Send(us, 0, MPI_UINT32_T, r_W(N, N - 1), 0, MPI_COMM_WORLD);"
    ∷ codes "  }"
    ∷ codes "  if (R == 0 && I == N - 1) {"
    ∷ codes "    MPI_Recv(ur, 0, MPI_UINT32_T, r_W(N, 0), 0, MPI_COMM_WORLD, MPI_STATUS_IGNORE);"
    ∷ codes "  }"
    ∷ codes "  MPI_Finalize();"
    ∷ codes "  return 0;"
    ∷ codes "}"
    ∷ [])
unfolding digits
worked = refl

worked_kept : all_kept (text_lines first_to_last [] []) ≡ true
unfolding spellings.keys
worked_kept = refl

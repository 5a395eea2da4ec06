-- The files of a matrix: what is promised of them. Assumes nothing.
use mathlib.Core.Path.{◌≡◌, refl, sym, ap, ◌∙◌}
use mathlib.Core.List.{List, ◌++◌}
use Prim.Native.Nat.{ℕ, zero, suc, ◌+◌, ◌*◌, ◌<◌}
use native.Mathlib.Omega.{arith}
use lib.ListN.{length, get_or, length-append}
use Rattle.base.specs.Cat.{join}
use Rattle.csr.specs.Csr.{Accepted}
use Rattle.csr.proofs.Yes.{accepted_of}
use Rattle.csr.specs.Counts.{size_w, Counted}
use Rattle.layout.specs.declared.Plan.{Plan}
use Rattle.layout.specs.Lists.{sizes_of}
use Rattle.lists.specs.Lists.{plan_words}
use Rattle.lists.proofs.Joined.{From, plan_from, plan_joined}
use Rattle.lists.specs.declared.Which.TheVariants.{AnormIndptr, AnormIndptrI, AnormIndptrJ, AnormIndices, LdecompIndptr, LdecompIndptrI, LdecompIndptrJ, Lindptr, LdiagIndptr, Lindices}
use Rattle.lists.specs.declared.Side.TheVariants.{Factor, Matrix}
use Rattle.lists.specs.declared.What.TheVariants.{Numbers, Places}
use Rattle.lists.proofs.Sizes.{plan_size, size_list, size_ends, size_factor, size_matrix}
use Rattle.plan_file.specs.Tables.{wide}
use Rattle.plan_file.specs.Verdicts.{lists_from}
use Rattle.plan_file.specs.Written.{wide_writer, words_in}
use Rattle.plan_file.specs.Matrix.{matrix_lists}
use Rattle.plan_file.specs.Promises.{plan_file, Files, AllFiles}
use Rattle.plan_file.proofs.Yes.{passes_gives, passes_iff}
use Rattle.plan_file.proofs.Files.{size_wide, wide_sound, wide_writes, written_noted, noted_passes}
use Rattle.plan_file.proofs.Bounds.{sixteen_long, wide_fits}
use Rattle.plan_file.proofs.Cuts.{cut_refused, other_refused, own_bodies, body_refused}

pub words_joined : (lists : ℕ → List ℕ) (n k : ℕ) → words_in lists k n ≡ length (join (lists_from lists k n))
unfolding lists_from words_in
words_joined lists zero k = refl
words_joined lists (suc n) k =
    ap (λ (x : ℕ). length (lists k) + x) (words_joined lists n (suc k)) ∙ sym (length-append (lists k) (join (lists_from lists (suc k) n)))

module _ (off cols : List ℕ) (m n : ℕ) where
  -- the sixteen lists, one after the other, are the plan's words
  pub joined_plan : join (lists_from (matrix_lists off cols m n) 1 16) ≡ plan_words off cols m n
  unfolding lists_from
  joined_plan = sym (plan_joined off cols m n)

  -- and stand so at the start of a memory that begins with the plan
  pub lists_from_lem : (index rest : List ℕ) → index ≡ plan_words off cols m n ++ rest → From index 0 (lists_from (matrix_lists off cols m n) 1 16)
  unfolding lists_from
  lists_from_lem index rest e = plan_from off cols m n index rest e

  module _ (ok : Accepted off cols m n) where
    -- how many words each list has, by the sizes of the plan
    module _ (p : Plan) (c : Counted off cols m p.stored p.shared p.products) (em : p.m ≡ m) (en : p.n ≡ n) (et : p.t ≡ length cols) where
      pub sizes_are : (k : ℕ) → k < 16 → get_or (sizes_of p) k 0 ≡ length (matrix_lists off cols m n (suc k))
      sizes_are zero h = omega (arith, c.stored, c.shared, c.products, em, size_list off cols m AnormIndptr)
      sizes_are (suc zero) h = omega (arith, c.stored, c.shared, c.products, em, size_list off cols m AnormIndptrI)
      sizes_are (suc (suc zero)) h = omega (arith, c.stored, c.shared, c.products, em, size_list off cols m AnormIndptrJ)
      sizes_are (suc (suc (suc zero))) h = omega (arith, c.stored, c.shared, c.products, em, size_list off cols m AnormIndices)
      sizes_are (suc (suc (suc (suc zero)))) h = omega (arith, c.stored, c.shared, c.products, em, size_list off cols m LdecompIndptr)
      sizes_are (suc (suc (suc (suc (suc zero))))) h = omega (arith, c.stored, c.shared, c.products, em, size_list off cols m LdecompIndptrI)
      sizes_are (suc (suc (suc (suc (suc (suc zero)))))) h = omega (arith, c.stored, c.shared, c.products, em, size_list off cols m LdecompIndptrJ)
      sizes_are (suc (suc (suc (suc (suc (suc (suc zero))))))) h = omega (arith, c.stored, c.shared, c.products, em, size_list off cols m Lindptr)
      sizes_are (suc (suc (suc (suc (suc (suc (suc (suc zero)))))))) h = omega (arith, c.stored, c.shared, c.products, em, size_list off cols m LdiagIndptr)
      sizes_are (suc (suc (suc (suc (suc (suc (suc (suc (suc zero))))))))) h = omega (arith, c.stored, c.shared, c.products, em, size_list off cols m Lindices)
      sizes_are (suc (suc (suc (suc (suc (suc (suc (suc (suc (suc zero)))))))))) h = omega (arith, c.stored, em, en, et, size_ends off cols Factor m m)
      sizes_are (suc (suc (suc (suc (suc (suc (suc (suc (suc (suc (suc zero))))))))))) h = omega (arith, c.stored, em, en, et, size_factor off cols m n ok Numbers)
      sizes_are (suc (suc (suc (suc (suc (suc (suc (suc (suc (suc (suc (suc zero)))))))))))) h = omega (arith, c.stored, em, en, et, size_factor off cols m n ok Places)
      sizes_are (suc (suc (suc (suc (suc (suc (suc (suc (suc (suc (suc (suc (suc zero))))))))))))) h = omega (arith, c.stored, em, en, et, size_ends off cols Matrix m n)
      sizes_are (suc (suc (suc (suc (suc (suc (suc (suc (suc (suc (suc (suc (suc (suc zero)))))))))))))) h = omega (arith, c.stored, em, en, et, size_matrix off cols m n ok Numbers)
      sizes_are (suc (suc (suc (suc (suc (suc (suc (suc (suc (suc (suc (suc (suc (suc (suc zero))))))))))))))) h = omega (arith, c.stored, em, en, et, size_matrix off cols m n ok Places)
      sizes_are (suc (suc (suc (suc (suc (suc (suc (suc (suc (suc (suc (suc (suc (suc (suc (suc k)))))))))))))))) h = absurd (omega arith)

    plan_words_lem : words_in (matrix_lists off cols m n) 1 16 ≡ size_w off cols m n
    plan_words_lem = words_joined (matrix_lists off cols m n) 16 1 ∙ ap length joined_plan ∙ plan_size off cols m n ok

    -- '4W + 96 bytes'
    pub file_bytes_lem : length (plan_file off cols m n) ≡ 4 * size_w off cols m n + 96
    file_bytes_lem = size_wide (matrix_lists off cols m n) ∙ omega (arith, plan_words_lem)

    -- THE FILES OF A MATRIX
    pub files : Files off cols m n
    files = record {
      exactly = λ file b. passes_iff wide (matrix_lists off cols m n) wide_sound file b (wide_fits off cols m n ok);
      yes = noted_passes wide wide_writer (matrix_lists off cols m n) wide_sound (wide_fits off cols m n ok) wide_writes;
      plain = written_noted wide wide_writer (matrix_lists off cols m n);
      gives = passes_gives wide (matrix_lists off cols m n);
      planned = joined_plan;
      bytes = file_bytes_lem;
      cuts = cut_refused wide wide_writer (matrix_lists off cols m n) wide_sound (wide_fits off cols m n ok) wide_writes (matrix_lists off cols m n);
      others = λ lists fit. other_refused wide wide_writer lists wide_sound fit wide_writes (matrix_lists off cols m n);
      flipped = λ bodies b long. body_refused (matrix_lists off cols m n) bodies (sixteen_long off cols m n ok) b long;
      own = own_bodies (matrix_lists off cols m n) 16 1;
    }

pub all_files : AllFiles
all_files m n off cols values e = files off cols m n (accepted_of m n off cols values e)

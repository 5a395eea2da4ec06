-- The regions of the working memory: x, z, dx, dz, tmp of n entries; y, dy, rhs of m; w, dw of s; l of E. Definitions only.
use Rattle.std.specs.Prelude.{ℕ, ◌+◌, ◌*◌}
use Rattle.layout.specs.declared.Plan.{Plan}
use Rattle.layout.specs.declared.Regions.{Regions}

abbrev pub y_at : ℕ → ℕ
y_at n = 5 * n

abbrev pub dy_at : ℕ → ℕ → ℕ
dy_at n m = 5 * n + m

abbrev pub rhs_at : ℕ → ℕ → ℕ
rhs_at n m = 5 * n + m + m

abbrev pub w_at : ℕ → ℕ → ℕ
w_at n m = 5 * n + m + m + m

abbrev pub dw_at : ℕ → ℕ → ℕ → ℕ
dw_at n m s = 5 * n + m + m + m + s

abbrev pub l_at : ℕ → ℕ → ℕ → ℕ
l_at n m s = 5 * n + m + m + m + s + s

-- where each region begins, in entries
abbrev pub regions_of : ℕ → ℕ → ℕ → Regions
regions_of m n s =
    record {
      m = m;
      n = n;
      s = s;
      x = 0;
      z = n;
      dx = 2 * n;
      dz = 3 * n;
      tmp = 4 * n;
      y = y_at n;
      dy = dy_at n m;
      rhs = rhs_at n m;
      w = w_at n m;
      dw = dw_at n m s;
      l = l_at n m s;
    }

-- the largest number of 64 bits
-- asked of a plan in clauses: a plan of any numbers can be made
abbrev pub top_word : ℕ
top_word = 18446744073709551615

abbrev pub plan_of : ℕ → ℕ → ℕ → ℕ → ℕ → ℕ → ℕ → Plan
plan_of m n s t stored shared products = record { m = m; n = n; s = s; t = t; stored = stored; shared = shared; products = products }

-- where the factor begins in the working memory, and where it ends
abbrev pub l_in : Plan → ℕ
l_in p = l_at p.n p.m p.s

abbrev pub top_in : Plan → ℕ
top_in p = l_in p + p.stored

-- 'F = 4(5n + 3m + 2s + E)', for K lanes
abbrev pub working_size : ℕ → ℕ → ℕ → ℕ → ℕ → ℕ
working_size K m n s E = K * (5 * n + 3 * m + 2 * s + E)

abbrev pub numbers_of : Plan → ℕ → ℕ
numbers_of p K = working_size K p.m p.n p.s p.stored

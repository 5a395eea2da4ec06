-- What the writing starts from: well formed lists, and the pattern as bits. Assumes nothing.
use Rattle.std.specs.Prelude.{◌≡◌, List, ℕ, ◌<◌, ◌≤◌, length}
use Rattle.csr.specs.Csr.{Csr}
use Rattle.csr.specs.Pattern.{neighbours}
use Rattle.pattern.specs.Word.{Done, pattern_words}
use Rattle.csr.specs.Questions.{max_entries}

pub record Ready (off cols : List ℕ) (m : ℕ) (p : List ℕ) : Type 0 where
  pub csr : Csr off cols m
  pub short : length cols ≤ max_entries
  pub words : length p ≡ pattern_words
  pub rows : (i : ℕ) → i < m → Done (neighbours off cols) p i

-- What a contract sees of a matrix.
use Rattle.std.specs.Prelude.{ℕ, List}

-- `height` rows of `width` items, one row after the other
pub record Matrix (T : Type 0) : Type 0 where
  pub items : List T
  pub width : ℕ
  pub height : ℕ

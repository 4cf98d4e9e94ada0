-- What a contract sees of a short list.
use Rattle.std.specs.Prelude.{List}

-- its items, in order
pub record ShortList (T : Type 0) : Type 0 where
  pub items : List T

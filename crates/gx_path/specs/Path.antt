-- Paths of daughters in a hierarchy (this project's own: how long they are).
use Rattle.std.specs.Prelude.{ℕ}

-- how many ordinals a path has at most
unfoldable pub max_length : ℕ
max_length = 32

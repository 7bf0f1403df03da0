-- To be believed. The user that is there from the first.
use Rattle.std.specs.Prelude.{ℕ, List, codes}

-- `root`
abbrev pub root : List ℕ
root = codes "root"

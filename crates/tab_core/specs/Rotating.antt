-- For proofs. The base on which a history begins anew.
use Rattle.std.specs.Prelude.{ℤ}
use Rattle.std.specs.Int.{int_max}
use Rattle.tab_history.specs.Bases.{Base}

-- the base with its clock at this moment, if that is greater
abbrev pub raised : ℤ → Base → Base
raised moment b = record b { clock = int_max b.clock moment }

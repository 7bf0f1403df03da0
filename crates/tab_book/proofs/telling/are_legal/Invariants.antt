use Rattle.std.specs.Prelude.{All, take}
use Rattle.tab_book.proofs.Alike.{IsLegalPart}
use Rattle.tab_book.proofs.telling.are_legal.Given as goal

abbrev pub invariant-loop-part : goal.invariant-loop-part
invariant-loop-part g l = All IsLegalPart (take l.part-index l.parts)

-- A history of steps that stand alone is legal.
use Rattle.std.proofs.Common.{inl, List, [], ◌∷◌}
use Rattle.tab_history.specs.Histories.{Entry, World}
use Rattle.tab_history.specs.Legal.{answer_at, LegalAlone}
use Rattle.tab_history.specs.declared.event.Step.{Step}
use Rattle.tab_history.proofs.LeftOpen.{one_is_reply}
use Rattle.tab_server_law.specs.Examples.{reply_alone, played_alone}

pub played_legal : (w : World) (es : List Entry) (steps : List Step) → LegalAlone w es → LegalAlone w (played_alone w es steps)
played_legal w es [] legal = legal
played_legal w es (step ∷ steps) legal = played_legal w (record { step = step; reply = reply_alone w es step } ∷ es) steps (legal, inl (one_is_reply step (answer_at w es [] step)))

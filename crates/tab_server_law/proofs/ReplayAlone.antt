-- A user's covered replies, computed from what they see alone, where nobody has a list of sessions.
use Rattle.std.proofs.Common.{◌≡◌, ℕ, ℤ, pos, List, [], ◌∷◌, ◌++◌, refl, ap}
use Rattle.std.specs.Prelude.{map, unwrap_or}
use Rattle.tab_history.specs.Bases.{Base}
use Rattle.tab_history.specs.Changes.{Change}
use Rattle.tab_history.specs.declared.event.Step.{Step}
use Rattle.tab_noninterference.specs.Hearing.{Heard}
use Rattle.tab_noninterference.specs.Views.{Sight, Asked, Changed}
use Rattle.tab_noninterference.proofs.Replay.{Replay, own, changed_by}

-- what is known after some sights: the changes seen and the covered replies, and no list of sessions
abbrev pub knowing : List Change → List Heard → Replay
knowing changes told = record { changes = changes; moves = []; heard = told }

-- one's own step, answered from what is known
abbrev pub own_alone : Base → List (List ℕ) → List ℕ → Step → ℤ → Replay → Replay
own_alone b held user step now s = record (own b held user step now (record s { moves = [] })) { moves = [] }

-- what is known after these sights
abbrev pub replay_alone : Base → List (List ℕ) → List ℕ → List Sight → Replay
replay_alone b held user [] = knowing [] []
replay_alone b held user (Asked step now ∷ ss) = own_alone b held user step (unwrap_or now (pos 0)) (replay_alone b held user ss)
replay_alone b held user (Changed c ∷ ss) = changed_by c (replay_alone b held user ss)

-- changes of others are added to what is known
pub alone_changed : (b : Base) (held : List (List ℕ)) (user : List ℕ) (cs : List Change) (ss : List Sight) → replay_alone b held user (map Changed cs ++ ss) ≡ record (replay_alone b held user ss) { changes = cs ++ (replay_alone b held user ss).changes }
alone_changed b held user [] ss = refl
alone_changed b held user (c ∷ cs) ss = ap (changed_by c) (alone_changed b held user cs ss)

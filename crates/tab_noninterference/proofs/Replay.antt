-- A user's covered replies, computed from what he sees alone.
use Rattle.std.proofs.Common.{◌≡◌, ℕ, ℤ, pos, List, [], ◌∷◌, ◌++◌, refl, sym, ◌∙◌, ap, append_assoc}
use Rattle.std.specs.Prelude.{map, unwrap_or}
use Rattle.tab_history.specs.Bases.{Base}
use Rattle.tab_history.specs.Changes.{Change}
use Rattle.tab_history.specs.Sessions.{Move}
use Rattle.tab_history.specs.Answers.{changes_by, moves_by}
use Rattle.tab_history.specs.declared.event.Step.{Step}
use Rattle.tab_noninterference.proofs.Ample.{ample_answer}
use Rattle.tab_noninterference.specs.Concerns.{concerning, visible}
use Rattle.tab_noninterference.specs.Views.{Sight, Asked, Changed}
use Rattle.tab_noninterference.specs.Hearing.{Heard, heard_of}

-- what is known after some sights: the changes seen, what was done with sessions, and the covered replies
pub record Replay : Type 0 where
  pub changes : List Change
  pub moves : List Move
  pub heard : List Heard

-- one's own step, answered from what is known
abbrev pub own : Base → List (List ℕ) → List ℕ → Step → ℤ → Replay → Replay
own b held user step now s =
    let reply = ample_answer b s.changes s.moves now step in
    record { changes = visible held user (changes_by now step reply) ++ s.changes; moves = moves_by b s.changes step reply ++ s.moves; heard = heard_of b s.changes step reply ++ s.heard }

-- a change made by somebody else
abbrev pub changed_by : Change → Replay → Replay
changed_by c s = record s { changes = c ∷ s.changes }

-- what is known after these sights
abbrev pub replay : Base → List (List ℕ) → List ℕ → List Sight → Replay
replay b held user [] = record { changes = []; moves = []; heard = [] }
replay b held user (Asked step now ∷ ss) = own b held user step (unwrap_or now (pos 0)) (replay b held user ss)
replay b held user (Changed c ∷ ss) = changed_by c (replay b held user ss)

-- what is seen of two lists of changes in a row
pub visible_append : (held : List (List ℕ)) (user : List ℕ) (cs j : List Change) → visible held user (cs ++ j) ≡ visible held user cs ++ visible held user j
visible_append held user [] j = refl
visible_append held user (c ∷ cs) j = ap (λ r. concerning held user c ++ r) (visible_append held user cs j) ∙ sym (append_assoc (concerning held user c) (visible held user cs) (visible held user j))

-- changes of others are added to what is known
pub replay_changed : (b : Base) (held : List (List ℕ)) (user : List ℕ) (cs : List Change) (ss : List Sight) → replay b held user (map Changed cs ++ ss) ≡ record (replay b held user ss) { changes = cs ++ (replay b held user ss).changes }
replay_changed b held user [] ss = refl
replay_changed b held user (c ∷ cs) ss = ap (changed_by c) (replay_changed b held user cs ss)

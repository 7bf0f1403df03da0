-- For proofs. What holds of connections whose events are answered as histories say.
use Rattle.std.specs.Prelude.{ℕ, ℤ, ◌≡◌, ◌⊎◌, List, [], ◌∷◌, ◌++◌, Some, None}
use Rattle.tab_history.specs.declared.event.Event.{Event}
use Rattle.tab_history.specs.declared.event.Step.TheVariants as step
use Rattle.tab_history.specs.Answers.{Told, session_list}
use Rattle.tab_history.specs.Histories.{Entry, World, journal, moves_of}
use Rattle.tab_history.specs.Legal.{Legal, IsAnswer, LacksMemory}
use Rattle.tab_wire.specs.Stream.{Piece}
use Rattle.tab_wire.specs.Talking.{Talk, Exchange, Talks, entries_of}

-- the user's sessions are those of the history; before Hello that is so of each user
abbrev pub KnowsSessions : World → List Entry → Talk → Type 0
KnowsSessions w h talk = (user : List ℕ) → (talk.user ≡ Some user) ⊎ (talk.user ≡ None) → moves_of w user h ≡ talk.moves

-- an event that took a moment was answered as histories say, and the session that it opened has the list that is defined there
abbrev pub IsRight : World → List Entry → Exchange → Type 0
IsRight w h x = (moment : ℤ) (event : Event) (answer : Told) → x.moments ≡ moment ∷ [] → x.entries ≡ record { step = step.Event event; reply = answer } ∷ []
    → (IsAnswer w h h (step.Event event) answer ⊎ LacksMemory (step.Event event) answer) × (x.all ≡ session_list w.base (journal w h) event.act)

-- the same of each, after those before it
abbrev pub AreRight : World → List Entry → List Exchange → Type 0
AreRight w h [] = Unit {0}
AreRight w h (x ∷ xs) = IsRight w h x × AreRight w (x.entries ++ h) xs

-- ---- The law: such a connection makes a legal history, in which its sessions are those that it knows.
abbrev pub TalksStayLegal : Type 0
TalksStayLegal = (w : World) (h : List Entry) (talk : Talk) (pieces : List Piece) (xs : List Exchange) (last : Talk)
    → Legal w h → KnowsSessions w h talk → Talks talk pieces xs last → AreRight w h xs → Legal w (entries_of xs ++ h) × KnowsSessions w (entries_of xs ++ h) last

-- To be believed by whoever relies on it. When two connections are replied the same bytes.
use Rattle.std.specs.Prelude.{◌≡◌, ◌⊎◌, List, [], ◌∷◌, map}
use Rattle.tab_history.specs.Answers.{Told, told_opened}
use Rattle.tab_history.specs.Histories.{Entry}
use Rattle.tab_history.specs.Legal.{HasMemory}
use Rattle.tab_wire.specs.declared.request.Request.TheVariants as asks
use Rattle.tab_wire.specs.Heard.{Heard}
use Rattle.tab_wire.specs.Heard as heard
use Rattle.tab_wire.specs.Stream.{Piece}
use Rattle.tab_wire.specs.Talking.{Talk, new_talk, Exchange, Talks, replied}

-- what the steps of an exchange were answered
abbrev pub answers_in : Exchange → List Told
answers_in x = map (λ (e : Entry). e.reply) x.entries

-- An act that took no moment in the first exchange, as an Open past the limit of sessions (nor does it in the second then); or one that was
-- answered the same in both, with the same whole list where a session was opened.
abbrev pub ActAlike : Exchange → Exchange → Type 0
ActAlike x y = (x.moments ≡ []) ⊎ ((answers_in x ≡ answers_in y) × (answers_in x ≡ told_opened ∷ [] → x.all ≡ y.all))

-- Two exchanges of which this was asked are alike: an act, as that says; and for anything else memory lacked in neither.
abbrev pub AreAlike : Heard → Exchange → Exchange → Type 0
AreAlike (heard.Request user (asks.Act act)) x y = ActAlike x y
AreAlike what x y = HasMemory x.entries × HasMemory y.entries

-- the same is asked in both, one exchange after another, and they are alike
abbrev pub AllAlike : List Exchange → List Exchange → Type 0
AllAlike [] [] = Unit {0}
AllAlike [] (y ∷ ys) = ⊥
AllAlike (x ∷ xs) [] = ⊥
AllAlike (x ∷ xs) (y ∷ ys) = (x.what ≡ y.what) × AreAlike x.what x y × AllAlike xs ys

-- The law: two connections of such exchanges are replied the same bytes.
abbrev pub SameReplies : Type 0
SameReplies = (pieces pieces' : List Piece) (xs ys : List Exchange) (last last' : Talk) → Talks new_talk pieces xs last → Talks new_talk pieces' ys last' → AllAlike xs ys → replied xs ≡ replied ys

-- Worked examples, computed: of a small history, what the users were told, and what of it is covered.
use Rattle.std.specs.Prelude.{◌≡◌, ℕ, List, [], ◌∷◌, pos, codes, refl}
use Rattle.tab_policy.specs.Roots.{root}
use Rattle.tab_history.specs.Answers.{Told, told_opened}
use Rattle.tab_history.specs.Histories.{Entry, steps_of}
use Rattle.tab_history.specs.declared.event.Act.{Act}
use Rattle.tab_history.specs.declared.event.Act.TheVariants as act
use Rattle.tab_history.specs.declared.event.Step.{Step}
use Rattle.tab_history.specs.declared.event.Step.TheVariants.{Event, Next, Close}
use Rattle.tab_history.specs.declared.reply.Refusal.TheVariants.{NoSession, EmptyMutation, UserExists}
use Rattle.tab_history.specs.declared.reply.Reply.TheVariants.{Done, Refused, Batch}
use Rattle.tab_key.specs.declared.range.Bound.TheVariants.{Unbounded}
use Rattle.tab_core.specs.Comparing.{replies_to, covered_replies}

-- a user
abbrev bob : List ℕ
bob = codes "bob"

-- a step and its reply
abbrev answered : Step → Told → Entry
answered s r = record { step = s; reply = r }

-- an event at 0
abbrev asks : List ℕ → Act → Step
asks user a = Event (record { user = user; moment = pos 0; act = a })

-- opens a session on all of a table
abbrev opens : Act
opens = act.Open (record { table = codes "t"; bounds = record { low = Unbounded; high = Unbounded }; columns = []; authorizations = [] })

-- writes nothing
abbrev writes : Act
writes = act.Write (codes "t") (record { row = codes "r"; updates = [] })

-- bob opens a session, root too, bob takes a batch, makes himself, closes, takes a batch, writes; the last one first
abbrev mixed : List Entry
mixed =
    answered (asks bob writes) (Refused EmptyMutation)
    ∷ answered (Next bob 0 7) (Refused (NoSession 0))
    ∷ answered (Close bob 0) Done
    ∷ answered (asks bob (act.CreateUser bob)) (Refused (UserExists bob))
    ∷ answered (Next bob 0 9) (Batch [])
    ∷ answered (asks root opens) told_opened
    ∷ answered (asks bob opens) told_opened
    ∷ []

-- all of them in order, root's left out
told_bob : replies_to bob mixed ≡ told_opened ∷ Batch [] ∷ Refused (UserExists bob) ∷ Done ∷ Refused (NoSession 0) ∷ Refused EmptyMutation ∷ []
told_bob = refl

told_root : replies_to root mixed ≡ told_opened ∷ []
told_root = refl

told_nobody : replies_to (codes "dan") mixed ≡ []
told_nobody = refl

-- that a user exists isn't covered, and what closing a session is answered isn't
covered_bob : covered_replies bob (steps_of mixed) (replies_to bob mixed) ≡ told_opened ∷ Batch [] ∷ Refused (NoSession 0) ∷ Refused EmptyMutation ∷ []
covered_bob = refl

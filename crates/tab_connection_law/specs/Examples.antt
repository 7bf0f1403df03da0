-- Examples, computed: which exchanges of two connections are alike.
use Rattle.std.specs.Prelude.{◌≡◌, ℤ, pos, List, [], ◌∷◌, refl}
use Rattle.std.proofs.Common.{inl, inr}
use Rattle.tab_key.specs.Records.{Cell}
use Rattle.tab_history.specs.Answers.{told_opened}
use Rattle.tab_history.specs.ExampleWords.{t, r, f, q, v, bob, everywhere}
use Rattle.tab_history.specs.declared.event.Act.{Act}
use Rattle.tab_history.specs.declared.event.Act.TheVariants as act
use Rattle.tab_history.specs.declared.event.Step.TheVariants.{Next}
use Rattle.tab_history.specs.declared.reply.Refusal.TheVariants.{NoMemory}
use Rattle.tab_history.specs.declared.reply.Reply.TheVariants.{Batch, Refused}
use Rattle.tab_wire.specs.declared.request.Request.TheVariants as asks
use Rattle.tab_wire.specs.Heard.{Request}
use Rattle.tab_wire.specs.Replies.{sent_of}
use Rattle.tab_wire.specs.Talking.{Exchange, event}
use Rattle.tab_connection_law.specs.SameReplies.{ActAlike, AllAlike}

-- opens a session on all of t
abbrev opens : Act
opens = act.Open (record { table = t; bounds = everywhere; columns = []; authorizations = [] })

-- bob opens it at this moment, on this list
abbrev opened_at : ℤ → List Cell → Exchange
opened_at moment list = record {
  what = Request bob (asks.Act opens);
  moments = moment ∷ [];
  entries = record { step = event bob moment opens; reply = told_opened } ∷ [];
  all = list;
  told = sent_of 0 0 told_opened;
}

-- and takes a cell of it
abbrev taken : List Cell → Exchange
taken cells = record {
  what = Request bob (asks.Next 0 1);
  moments = [];
  entries = record { step = Next bob 0 1; reply = Batch cells } ∷ [];
  all = [];
  told = sent_of 1 1 (Batch cells);
}

-- or lacks the memory for it
abbrev lacking : Exchange
lacking = record (taken []) { entries = record { step = Next bob 0 1; reply = Refused NoMemory } ∷ []; told = sent_of 1 1 (Refused NoMemory) }

abbrev cell : Cell
cell = record { key = record { row = r; family = f; qualifier = q; label = []; timestamp = pos 5 }; value = v }

-- moments don't matter, and nothing is asked of what a batch has: it is cut from the list of its Open
alike : AllAlike (opened_at (pos 5) (cell ∷ []) ∷ taken (cell ∷ []) ∷ []) (opened_at (pos 9) (cell ∷ []) ∷ taken (cell ∷ []) ∷ [])
alike = (refl, inr (refl, λ is. refl), (refl, ((tt, λ lacks. absurd (cc)), (tt, λ lacks. absurd (cc))), tt))

-- two sessions on different lists aren't alike, though the replies to their Opens are
lists_count : ActAlike (opened_at (pos 5) (cell ∷ [])) (opened_at (pos 5) []) → ⊥
lists_count (inl none) = let gone : pos 5 ∷ [] ≡ [] = none in absurd (cc)
lists_count (inr same) = let gone : cell ∷ [] ≡ [] = same.1 refl in absurd (cc)

-- nor is a batch for which memory lacked like one that was given
memory_counts : AllAlike (taken (cell ∷ []) ∷ []) (lacking ∷ []) → ⊥
memory_counts same = absurd (same.1.1.1 refl)

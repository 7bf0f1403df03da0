-- A step of a user's own, replayed over what they know where nobody has a list of sessions.
use Rattle.std.proofs.Common.{◌≡◌, ℕ, ℤ, pos, List, [], ◌++◌, refl, sym, ◌∙◌, ap}
use Rattle.std.specs.Prelude.{unwrap_or}
use Rattle.tab_label.specs.Laws.{IsSubset}
use Rattle.tab_key.specs.Order.{NumbersBelow}
use Rattle.tab_history.specs.Bases.{Base}
use Rattle.tab_history.specs.Changes.{Change}
use Rattle.tab_history.specs.Checks.{refusal_of}
use Rattle.tab_history.specs.Readings.{base_table, base_records}
use Rattle.tab_history.specs.Sessions.{Move}
use Rattle.tab_history.specs.Answers.{Told, changes_by}
use Rattle.tab_history.specs.Histories.{Entry, World, clock_of, clock_at, journal, user_of}
use Rattle.tab_history.specs.declared.event.Act.{Act}
use Rattle.tab_history.specs.declared.event.Act.TheVariants.{Open}
use Rattle.tab_history.specs.declared.event.Step.{Step}
use Rattle.tab_history.specs.declared.event.Step.TheVariants.{Event}
use Rattle.tab_noninterference.specs.Given.{auths_given}
use Rattle.tab_noninterference.specs.Concerns.{visible}
use Rattle.tab_noninterference.specs.Views.{clock_shown}
use Rattle.tab_noninterference.specs.Hearing.{heard_of, heard}
use Rattle.tab_noninterference.proofs.Ample.{ample_answer}
use Rattle.tab_noninterference.proofs.SeenBase.{base_seen}
use Rattle.tab_noninterference.proofs.Effects.{asks, no_changes, SameEffect, own_effect}
use Rattle.tab_noninterference.proofs.Replay.{Replay, visible_append}
use Rattle.tab_server_law.proofs.ReplayAlone.{knowing, own_alone}

-- the clock that is shown of a step
abbrev pub shown_clock : List Move → ℤ → Step → ℤ
shown_clock moves clock step = unwrap_or (clock_shown moves (clock_at clock step) step) (pos 0)

-- Whichever moves hide the clock, they hide that of an Open alone, whose answer doesn't read it, and which changes nothing.
module _ (c : Base) (held : List (List ℕ)) (user : List ℕ) (hiding : List Move) (clock : ℤ) (s : Replay) where
  -- the step, replayed at this clock
  abbrev at : Step → ℤ → Replay
  at step now = own_alone c held user step now s

  event_irrelevant : (u : List ℕ) (m : ℤ) (act : Act) → at (asks u m act) (shown_clock hiding clock (asks u m act)) ≡ at (asks u m act) (clock_at clock (asks u m act))
  unfolding ample_answer refusal_of
  event_irrelevant u m (Open scan) =
      let step : Step = asks u m (Open scan) in
      let reply : Told = ample_answer c s.changes [] (pos 0) step in
      let none : (now : ℤ) → changes_by now step reply ≡ [] = λ now. no_changes now u m (Open scan) reply refl in
      ap (λ cs. knowing (visible held user cs ++ s.changes) (heard_of c s.changes step reply ++ s.heard)) (none (shown_clock hiding clock step) ∙ sym (none (clock_at clock step)))
  event_irrelevant u m act = refl

  clock_irrelevant : (step : Step) → at step (shown_clock hiding clock step) ≡ at step (clock_at clock step)
  unfolding ample_answer
  clock_irrelevant (Event e) = event_irrelevant e.user e.moment e.act
  clock_irrelevant step = refl

module _ (b : Base) (clock : ℤ) (held : List (List ℕ)) (user : List ℕ) (low : (t : List ℕ) → NumbersBelow b.next (base_records (base_table b t))) where
  -- what they may read of the base
  abbrev c : Base
  c = base_seen held b

  abbrev w : World
  w = record { base = b; changes = []; clock = clock }

  -- what the replay of the user's sights knows
  abbrev pub known : List Entry → Replay
  known es = knowing (visible held user (journal w es)) (heard user w es)

  -- what it knows behind a step of the user's own that was answered so
  abbrev pub known_next : Entry → List Entry → Replay
  known_next e es =
      let j : List Change = journal w es in
      knowing (visible held user (changes_by (clock_at (clock_of w es) e.step) e.step e.reply ++ j)) (heard_of b j e.step e.reply ++ heard user w es)

  -- such a step, replayed over what the user knows, leads to what they know next, whichever moves hide the clock
  pub own_step : (hiding : List Move) (e : Entry) (es : List Entry) → user_of e.step ≡ user → e.reply ≡ ample_answer b (journal w es) [] (clock_at (clock_of w es) e.step) e.step → IsSubset (auths_given b user (journal w es)) held
      → own_alone c held user e.step (shown_clock hiding (clock_of w es) e.step) (known es) ≡ known_next e es
  own_step hiding e es his is within =
      let j : List Change = journal w es in
      let now : ℤ = clock_at (clock_of w es) e.step in
      let see : List Change → List Change = visible held user in
      let told : Told = ample_answer c (see j) [] now e.step in
      let effect : SameEffect held c b user now e.step (see j) j told (ample_answer b j [] now e.step) = own_effect held b user low [] now j e.step his within in
      let changes : see (changes_by now e.step told) ++ see j ≡ see (changes_by now e.step e.reply ++ j) =
      ap (λ cs. cs ++ see j) effect.changes ∙ ap (λ x. see (changes_by now e.step x) ++ see j) (sym is) ∙ sym (visible_append held user (changes_by now e.step e.reply) j) in
      let heard_too : heard_of c (see j) e.step told ++ heard user w es ≡ heard_of b j e.step e.reply ++ heard user w es =
      ap (λ hs. hs ++ heard user w es) effect.heard ∙ ap (λ x. heard_of b j e.step x ++ heard user w es) (sym is) in
      clock_irrelevant c held user hiding (clock_of w es) (known es) e.step ∙ (λ i. knowing (changes i) (heard_too i))

-- Histories that look alike to a user answer him alike.
use Rattle.std.proofs.Common.{◌≡◌, ◌⊎◌, ◌&&◌, inl, inr, ℕ, ℤ, pos, List, [], ◌∷◌, ◌++◌, Bool, true, false, cond, refl, sym, ◌∙◌, ap, subst}
use Rattle.std.specs.Prelude.{Some, None, unwrap_or}
use Rattle.std.specs.Cmp.Lexicographic.{bytes_decides}
use Rattle.tab_key.specs.declared.limited_part.LimitedPart.TheVariants.{Sessions}
use Rattle.tab_label.specs.Laws.{IsSubset}
use Rattle.tab_history.specs.Bases.{Base, new_core}
use Rattle.tab_history.specs.Changes.{Change}
use Rattle.tab_history.specs.Readings.{base_table, base_records}
use Rattle.tab_history.specs.Sessions.{Move, is_full}
use Rattle.tab_history.specs.Answers.{Told, is_open, changes_by, moves_by}
use Rattle.tab_history.specs.Histories.{Entry, World, world_of, clock_of, clock_at, journal, moves_of, jobs_of, is_by, user_of}
use Rattle.tab_history.specs.Legal.{answer_at, IsAnswer, Legal, IsAmple, IsExhausted, LacksMemory}
use Rattle.tab_history.specs.declared.event.Act.{Act}
use Rattle.tab_history.specs.declared.event.Act.TheVariants.{Open}
use Rattle.tab_history.specs.declared.event.Step.{Step}
use Rattle.tab_history.specs.declared.event.Step.TheVariants.{Event, Next}
use Rattle.tab_history.specs.declared.reply.Refusal.TheVariants.{TooLarge}
use Rattle.tab_history.specs.declared.reply.Reply.TheVariants.{Refused}
use Rattle.tab_noninterference.proofs.Ample.{is_ample, ample_event, ample_answer}
use Rattle.tab_noninterference.specs.Given.{auths_given}
use Rattle.tab_noninterference.specs.Concerns.{visible}
use Rattle.tab_noninterference.specs.Views.{Asked, clock_shown, is_aside, own_sight, other_sight, sights, View, view}
use Rattle.tab_noninterference.specs.Hearing.{Heard, heard_of, heard}
use Rattle.tab_noninterference.specs.Noninterference.{Noninterference, NoninterferenceFromABase}
use Rattle.tab_history.proofs.Chains.{new_core_is_sound}
use Rattle.tab_history.proofs.LeftOpen.{closed_reply}
use Rattle.tab_key.specs.Order.{NumbersBelow}
use Rattle.tab_noninterference.proofs.SeenBase.{base_seen, sound_below}
use Rattle.tab_noninterference.proofs.Auths.{given_before}
use Rattle.tab_noninterference.proofs.Effects.{asks, no_changes, SameEffect, own_effect}
use Rattle.tab_noninterference.proofs.Aside.{aside_changes, aside_moves, aside_heard, outside_closed}
use Rattle.tab_noninterference.proofs.Replay.{Replay, own, replay, visible_append, replay_changed}

-- the clock that is shown of a step
abbrev shown_clock : List Move → ℤ → Step → ℤ
shown_clock moves clock step = unwrap_or (clock_shown moves (clock_at clock step) step) (pos 0)

-- where the clock isn't shown, the answer doesn't read it
clock_irrelevant : (b : Base) (j : List Change) (moves : List Move) (clock : ℤ) (step : Step) → ample_answer b j moves (shown_clock moves clock step) step ≡ ample_answer b j moves (clock_at clock step) step
unfolding ample_answer
clock_irrelevant b j moves clock (Event e) = go (is_open e.act && is_full moves)
  where
    now : ℤ
    now = clock_at clock (Event e)

    go : (v : Bool) → cond v (Refused (TooLarge Sessions)) (ample_event b j (unwrap_or (cond v None (Some now)) (pos 0)) e.user e.act) ≡ cond v (Refused (TooLarge Sessions)) (ample_event b j now e.user e.act)
    go true = refl
    go false = refl
clock_irrelevant b j moves clock (Next u slot n) = refl
clock_irrelevant b j moves clock step = refl

-- and neither do the changes
event_changes_irrelevant : (moves : List Move) (clock : ℤ) (u : List ℕ) (m : ℤ) (act : Act) (r : Told) → changes_by (shown_clock moves clock (asks u m act)) (asks u m act) r ≡ changes_by (clock_at clock (asks u m act)) (asks u m act) r
event_changes_irrelevant moves clock u m (Open scan) r = no_changes (shown_clock moves clock (asks u m (Open scan))) u m (Open scan) r refl ∙ sym (no_changes (clock_at clock (asks u m (Open scan))) u m (Open scan) r refl)
event_changes_irrelevant moves clock u m act r = refl

changes_irrelevant : (moves : List Move) (clock : ℤ) (step : Step) (r : Told) → changes_by (shown_clock moves clock step) step r ≡ changes_by (clock_at clock step) step r
changes_irrelevant moves clock (Event e) r = event_changes_irrelevant moves clock e.user e.moment e.act r
changes_irrelevant moves clock step r = refl

module _ (b : Base) (clock : ℤ) (held : List (List ℕ)) (user : List ℕ) (low : (t : List ℕ) → NumbersBelow b.next (base_records (base_table b t))) where
  -- what he may read of the base
  abbrev c : Base
  c = base_seen held b

  abbrev w : World
  w = record { base = b; changes = []; clock = clock }

  -- what the replay of a user's sights knows
  abbrev known : List Entry → Replay
  known es = record { changes = visible held user (journal w es); moves = moves_of w user es; heard = heard user w es }

  abbrev answered : Entry → List Entry → Told
  answered e es = ample_answer b (journal w es) (moves_of w user es) (clock_at (clock_of w es) e.step) e.step

  -- a step of the user's own, replayed over what he knows, leads to what he knows next
  own_step : (e : Entry) (es : List Entry) → user_of e.step ≡ user → e.reply ≡ answered e es → IsSubset (auths_given b user (journal w es)) held
      → own c held user e.step (shown_clock (moves_of w user es) (clock_of w es) e.step) (known es)
      ≡ record { changes = visible held user (changes_by (clock_at (clock_of w es) e.step) e.step e.reply ++ journal w es); moves = moves_by b (journal w es) e.step e.reply ++ moves_of w user es; heard = heard_of b (journal w es) e.step e.reply ++ heard user w es }
  own_step e es u is within =
      let j : List Change = journal w es in
      let now : ℤ = clock_at (clock_of w es) e.step in
      let effect : SameEffect held c b user now e.step (visible held user j) j (ample_answer c (visible held user j) (moves_of w user es) now e.step) (ample_answer b j (moves_of w user es) now e.step) = own_effect held b user low (moves_of w user es) now j e.step u within in
      let r : ample_answer c (visible held user j) (moves_of w user es) (shown_clock (moves_of w user es) (clock_of w es) e.step) e.step ≡ ample_answer c (visible held user j) (moves_of w user es) now e.step = clock_irrelevant c (visible held user j) (moves_of w user es) (clock_of w es) e.step in
      let see : List Change → List Change = visible held user in
      let changes : see (changes_by (shown_clock (moves_of w user es) (clock_of w es) e.step) e.step (ample_answer c (see j) (moves_of w user es) (shown_clock (moves_of w user es) (clock_of w es) e.step) e.step)) ++ see j ≡ see (changes_by now e.step e.reply ++ j) =
      ap (λ x. see (changes_by (shown_clock (moves_of w user es) (clock_of w es) e.step) e.step x) ++ see j) r
      ∙ ap (λ cs. see cs ++ see j) (changes_irrelevant (moves_of w user es) (clock_of w es) e.step (ample_answer c (see j) (moves_of w user es) now e.step))
      ∙ ap (λ cs. cs ++ see j) effect.changes
      ∙ ap (λ x. see (changes_by now e.step x) ++ see j) (sym is)
      ∙ sym (visible_append held user (changes_by now e.step e.reply) j) in
      let moves : moves_by c (see j) e.step (ample_answer c (see j) (moves_of w user es) (shown_clock (moves_of w user es) (clock_of w es) e.step) e.step) ++ moves_of w user es ≡ moves_by b j e.step e.reply ++ moves_of w user es =
      ap (λ x. moves_by c (see j) e.step x ++ moves_of w user es) r ∙ ap (λ ms. ms ++ moves_of w user es) effect.moves ∙ ap (λ x. moves_by b j e.step x ++ moves_of w user es) (sym is) in
      let told : heard_of c (see j) e.step (ample_answer c (see j) (moves_of w user es) (shown_clock (moves_of w user es) (clock_of w es) e.step) e.step) ++ heard user w es ≡ heard_of b j e.step e.reply ++ heard user w es =
      ap (λ x. heard_of c (see j) e.step x ++ heard user w es) r ∙ ap (λ hs. hs ++ heard user w es) effect.heard ∙ ap (λ x. heard_of b j e.step x ++ heard user w es) (sym is) in
      λ i. record { changes = changes i; moves = moves i; heard = told i }

  -- what is seen, replayed, gives what the user knows and was told
  pub replay_is : (es : List Entry) → Legal w es → IsAmple es → IsSubset (auths_given b user (journal w es)) held → replay c held user (sights held user w es) ≡ known es
  unfolding sights journal moves_of heard
  replay_is [] legal ample within = refl
  replay_is (e ∷ es) legal ample within = by_whom (is_by user e.step) refl (replay_is es legal.0 ample.0 earlier)
    where
      cs : List Change
      cs = changes_by (clock_at (clock_of w es) e.step) e.step e.reply

      earlier : IsSubset (auths_given b user (journal w es)) held
      earlier term h = within term (given_before b user cs (journal w es) term h)

      now : ℤ
      now = clock_at (clock_of w es) e.step

      is_answer : is_aside e.step ≡ false → IsAnswer w es es e.step e.reply ⊎ LacksMemory e.step e.reply → e.reply ≡ ample_answer b (journal w es) (moves_of w (user_of e.step) es) now e.step
      is_answer a (inl h) =
          let one : e.reply ≡ answer_at w es es e.step = closed_reply e.step (answer_at w es es e.step) e.reply (outside_closed e.step a) h in
          one ∙ is_ample b (journal w es) (moves_of w (user_of e.step) es) (jobs_of es) now e.step a (λ x. ample.1 (subst IsExhausted (sym one) x))
      is_answer a (inr h) = absurd (ample.1 (inl h.1))

      by_whom : (v : Bool) → is_by user e.step ≡ v → replay c held user (sights held user w es) ≡ known es
          → replay c held user (cond v (own_sight (moves_of w user es) now e.step) (other_sight held user now e.step e.reply) ++ sights held user w es)
          ≡ record { changes = visible held user (cs ++ journal w es); moves = cond v (moves_by b (journal w es) e.step e.reply ++ moves_of w user es) (moves_of w user es); heard = cond v (heard_of b (journal w es) e.step e.reply ++ heard user w es) (heard user w es) }
      by_whom true t ih = by_side (is_aside e.step) refl
        where
          by_side : (x : Bool) → is_aside e.step ≡ x
              → replay c held user (cond x [] (Asked e.step (clock_shown (moves_of w user es) now e.step) ∷ []) ++ sights held user w es)
              ≡ record { changes = visible held user (cs ++ journal w es); moves = moves_by b (journal w es) e.step e.reply ++ moves_of w user es; heard = heard_of b (journal w es) e.step e.reply ++ heard user w es }
          by_side true a = ih ∙ (λ i. record { changes = visible held user (sym (aside_changes now e.step e.reply a) i ++ journal w es); moves = sym (aside_moves b (journal w es) e.step e.reply a) i ++ moves_of w user es; heard = sym (aside_heard b (journal w es) e.step e.reply a) i ++ heard user w es })
          by_side false a =
              let his : user_of e.step ≡ user = (bytes_decides (user_of e.step) user).0 t in
              ap (own c held user e.step (shown_clock (moves_of w user es) (clock_of w es) e.step)) ih ∙ own_step e es his (is_answer a legal.1 ∙ ap (λ x. ample_answer b (journal w es) (moves_of w x es) now e.step) his) earlier
      by_whom false t ih = replay_changed c held user (visible held user cs) (sights held user w es) ∙ (λ i. record { changes = visible held user cs ++ (ih i).changes; moves = (ih i).moves; heard = (ih i).heard }) ∙ (λ i. record { changes = sym (visible_append held user cs (journal w es)) i; moves = moves_of w user es; heard = heard user w es })

-- Two histories that look alike to a user tell him the same.
pub two_worlds_from_a_base : NoninterferenceFromABase
two_worlds_from_a_base b sound user h k p q a c same = from_view h p a ∙ ap told same ∙ sym (from_view k q c)
  where
    told : View → List Heard
    told v = (replay (base_seen v.held b) v.held user v.sights).heard

    from_view : (es : List Entry) → Legal (world_of b) es → IsAmple es → heard user (world_of b) es ≡ told (view b user es)
    from_view es l m = sym (ap (λ (r : Replay). r.heard) (replay_is b b.clock (auths_given b user (journal (world_of b) es)) user (sound_below b sound) es l m (λ term x. x)))

-- So it is from a new core.
pub two_worlds : Noninterference
two_worlds = two_worlds_from_a_base new_core new_core_is_sound

-- A step of a user's own does the same over the changes that he sees as over all of them.
use Rattle.std.proofs.Common.{◌≡◌, ℕ, ℤ, List, [], ◌∷◌, ◌++◌, Bool, true, false, cond, refl, sym, ◌∙◌, ap, subst}
use Rattle.std.specs.Prelude.{bytes_eq, Option, Some, None, length, option_map, nat_lt}
use Rattle.std.specs.Cmp.Lexicographic.{bytes_decides}
use Rattle.tab_key.specs.Ranges.{is_bad_range}
use Rattle.tab_key.specs.declared.limited_part.LimitedPart.TheVariants.{Columns, Authorizations, Sessions}
use Rattle.tab_label.specs.Sets.{first_missing}
use Rattle.tab_label.specs.Holding.{label_holds}
use Rattle.tab_label.specs.Laws.{IsSubset}
use Rattle.tab_label.proofs.Unions.{none_missing}
use Rattle.tab_label.proofs.More.{label_more}
use Rattle.tab_mutation.specs.Shape.{when}
use Rattle.tab_policy.specs.Decisions.{decision}
use Rattle.tab_policy.specs.declared.permission.Permission.TheVariants.{OfSystem, OfTable}
use Rattle.tab_history.specs.Settings.{Settings}
use Rattle.tab_history.specs.Bases.{Base}
use Rattle.tab_history.specs.Changes.{Change, changes_of}
use Rattle.tab_history.specs.Readings.{base_table, base_records, has_user, held_auths, settings_of, updates_of}
use Rattle.tab_history.specs.Checks.{standing, denial, action_of, too_many_auths, refusal_of, user_named, exists_in}
use Rattle.tab_history.specs.Sessions.{Move, Opening, is_full}
use Rattle.tab_history.specs.Answers.{Told, told_opened, told, granted, is_open, query_of, listed, session_list, changes_by, moves_by}
use Rattle.tab_history.specs.Histories.{user_of}
use Rattle.tab_history.specs.declared.event.Scan.{Scan}
use Rattle.tab_history.specs.declared.event.Act.{Act}
use Rattle.tab_history.specs.declared.event.Act.TheVariants.{Open, Write, CreateUser, DropUser, SetAuths, Grant, Revoke, Rights}
use Rattle.tab_history.specs.declared.event.Step.{Step}
use Rattle.tab_history.specs.declared.event.Step.TheVariants.{Event, Next, Many, Close, Merge}
use Rattle.tab_history.specs.declared.reply.Refusal.{Refusal}
use Rattle.tab_history.specs.declared.reply.Refusal.TheVariants.{BadAuthorizations, TooLarge, BadRange}
use Rattle.tab_history.specs.declared.reply.Reply.TheVariants.{Done, Refused, Opened, Batch}
use Rattle.tab_history.proofs.Options.{or_else_left, or_else_right, unmapped}
use Rattle.tab_noninterference.proofs.Ample.{ample_event, ample_answer}
use Rattle.tab_noninterference.specs.Given.{auths_given}
use Rattle.tab_noninterference.specs.Concerns.{only_if, visible}
use Rattle.tab_noninterference.specs.Hearing.{is_covered_act, heard_of}
use Rattle.tab_key.specs.Order.{NumbersBelow}
use Rattle.tab_noninterference.proofs.SeenBase.{base_seen}
use Rattle.tab_noninterference.proofs.SeenState.{user_visible, settings_visible, standing_visible}
use Rattle.tab_noninterference.proofs.SeenUpdates.{cells_visible}
use Rattle.tab_noninterference.proofs.Auths.{held_given}

-- an event, by its parts
abbrev pub asks : List ℕ → ℤ → Act → Step
asks user moment act = Event (record { user = user; moment = moment; act = act })

-- what changes nothing when it is accepted changes nothing
pub no_changes : (now : ℤ) (u : List ℕ) (moment : ℤ) (act : Act) (r : Told) → changes_of now u act ≡ [] → changes_by now (asks u moment act) r ≡ []
no_changes now u moment act (Refused x) e = refl
no_changes now u moment act _ e = e

-- what is no Open does nothing to sessions
pub no_moves : (b : Base) (j : List Change) (u : List ℕ) (moment : ℤ) (act : Act) (r : Told) → is_open act ≡ false → moves_by b j (asks u moment act) r ≡ []
no_moves b j u moment act (Opened session) e = rw e refl
no_moves b j u moment act _ e = refl

-- what the answers r and k mean to the user, over two bases and two lists of changes
pub record SameEffect (held : List (List ℕ)) (c b : Base) (user : List ℕ) (now : ℤ) (step : Step) (i j : List Change) (r k : Told) : Type 0 where
  pub changes : visible held user (changes_by now step r) ≡ visible held user (changes_by now step k)
  pub moves : moves_by c i step r ≡ moves_by b j step k
  pub heard : heard_of c i step r ≡ heard_of b j step k

-- where the answers are the same, and no session is opened
same_reply : (held : List (List ℕ)) (c b : Base) (user : List ℕ) (now moment : ℤ) (act : Act) (i j : List Change) (r k : Told) → r ≡ k → is_open act ≡ false → ((x : Told) → heard_of c i (asks user moment act) x ≡ heard_of b j (asks user moment act) x) → SameEffect held c b user now (asks user moment act) i j r k
same_reply held c b user now moment act i j r k e o h = record {
  changes = ap (λ x. visible held user (changes_by now (asks user moment act) x)) e;
  moves = no_moves c i user moment act r o ∙ sym (no_moves b j user moment act k o);
  heard = h r ∙ ap (heard_of b j (asks user moment act)) e;
}

-- an act on another user concerns this one in nothing
other_effect : (held : List (List ℕ)) (c b : Base) (user : List ℕ) (now moment : ℤ) (act : Act) (i j : List Change) (r k : Told) → visible held user (changes_of now user act) ≡ [] → is_open act ≡ false → is_covered_act act ≡ false → SameEffect held c b user now (asks user moment act) i j r k
other_effect held c b user now moment act i j r k none o uncovered = record {
  changes = unseen r ∙ sym (unseen k);
  moves = no_moves c i user moment act r o ∙ sym (no_moves b j user moment act k o);
  heard = rw uncovered refl;
}
  where
    unseen : (x : Told) → visible held user (changes_by now (asks user moment act) x) ≡ []
    unseen (Refused y) = refl
    unseen _ = none

-- what a session's step does to it doesn't depend on the changes
next_moves : (c b : Base) (i j : List Change) (u : List ℕ) (slot n : ℕ) (r : Told) → moves_by c i (Next u slot n) r ≡ moves_by b j (Next u slot n) r
next_moves c b i j u slot n (Batch cells) = refl
next_moves c b i j u slot n _ = refl

close_moves : (c b : Base) (i j : List Change) (u : List ℕ) (slot : ℕ) (r : Told) → moves_by c i (Close u slot) r ≡ moves_by b j (Close u slot) r
close_moves c b i j u slot Done = refl
close_moves c b i j u slot _ = refl

-- an event that is no Open tells no list
listless : (c b : Base) (i j : List Change) (u : List ℕ) (m : ℤ) (act : Act) (r : Told) → session_list c i act ≡ session_list b j act → heard_of c i (asks u m act) r ≡ heard_of b j (asks u m act) r
listless c b i j u m act (Opened session) e = ap (λ (l : List _). cond (is_covered_act act) (record { reply = Opened session; list = l } ∷ []) []) e
listless c b i j u m act _ e = refl

module _ (held : List (List ℕ)) (b : Base) (user : List ℕ) (low : (t : List ℕ) → NumbersBelow b.next (base_records (base_table b t))) (moves : List Move) (now : ℤ) (j : List Change) where
  -- what he may read of the base
  abbrev c : Base
  c = base_seen held b

  -- what he sees of the changes
  abbrev his : List Change
  his = visible held user j

  -- over both lists of changes the step does the same
  abbrev Same : Step → Type 0
  Same step = SameEffect held c b user now step his j (ample_answer c his moves now step) (ample_answer b j moves now step)

  answer_visible : (act : Act) → exists_in c his (user_named act) ≡ exists_in b j (user_named act) → ample_event c his now user act ≡ ample_event b j now user act
  answer_visible act e = λ i. told (refusal_of (standing_visible held b user j i) (e i) now user act) (granted (standing_visible held b user j i) act)

  -- an act without a second user that opens no session
  plain_effect : (moment : ℤ) (act : Act) → user_named act ≡ None → is_open act ≡ false → ((x : Told) → heard_of c his (asks user moment act) x ≡ heard_of b j (asks user moment act) x) → Same (asks user moment act)
  unfolding ample_answer
  plain_effect moment act e o h = same_reply held c b user now moment act his j _ _ (rw (o, e) (λ i. told (refusal_of (standing_visible held b user j i) true now user act) (granted (standing_visible held b user j i) act))) o h

  -- an act on a user
  named_effect : (moment : ℤ) (act : Act) (n : List ℕ) → user_named act ≡ Some n → is_open act ≡ false → is_covered_act act ≡ false → (bytes_eq n user ≡ false → visible held user (changes_of now user act) ≡ []) → Same (asks user moment act)
  unfolding ample_answer
  named_effect moment act n e o uncovered unseen = go (bytes_eq n user) refl
    where
      go : (v : Bool) → bytes_eq n user ≡ v → Same (asks user moment act)
      go true t =
          let p : n ≡ user = (bytes_decides n user).0 t in
          let there : exists_in c his (user_named act) ≡ exists_in b j (user_named act) = rw e (ap (has_user c his) p ∙ user_visible held b user j ∙ sym (ap (has_user b j) p)) in
          same_reply held c b user now moment act his j _ _ (rw o (answer_visible act there)) o (λ x. rw uncovered refl)
      go false t = other_effect held c b user now moment act his j _ _ (unseen t) o uncovered

  module _ (moment : ℤ) (scan : Scan) (within : IsSubset (auths_given b user j) held) where
    abbrev refused : Option Refusal
    refused = refusal_of (standing b j user) true now user (Open scan)

    -- an Open is admitted only if the user holds what it asks for
    all_held : refused ≡ None → first_missing scan.authorizations (held_auths b j user) ≡ None
    unfolding refusal_of standing
    all_held e =
        let e1 = or_else_right (denial user (decision (standing b j user).policy (action_of (Open scan)))) _ e in
        let e2 = or_else_right (when (nat_lt 1000 (length scan.columns)) (TooLarge Columns)) _ e1 in
        let e3 = or_else_right (when (too_many_auths scan.authorizations) (TooLarge Authorizations)) _ e2 in
        let e4 = or_else_right (when (is_bad_range scan.bounds.low scan.bounds.high) BadRange) _ e3 in
        unmapped BadAuthorizations (first_missing scan.authorizations (held_auths b j user)) (or_else_left (option_map BadAuthorizations (first_missing scan.authorizations (held_auths b j user))) None e4)

    -- so its session shows the same
    same_list : refused ≡ None → session_list c his (Open scan) ≡ session_list b j (Open scan)
    unfolding session_list
    same_list e = ap (listed (updates_of c his scan.table) (query_of scan)) (settings_visible held b user scan.table j) ∙ by_settings (settings_of b j scan.table)
      where
        more : (label : List ℕ) → label_holds label scan.authorizations ≡ true → label_holds label held ≡ true
        more = label_more scan.authorizations held (λ term h. within term (held_given b user j term (none_missing scan.authorizations (held_auths b j user) (all_held e) term h)))

        by_settings : (o : Option Settings) → listed (updates_of c his scan.table) (query_of scan) o ≡ listed (updates_of b j scan.table) (query_of scan) o
        by_settings None = refl
        by_settings (Some s) = cells_visible held b low user j scan.table s.versions (query_of scan) more

    open_effect : Same (asks user moment (Open scan))
    unfolding ample_answer
    open_effect = by_room (is_full moves)
      where
        by_refusal : (o : Option Refusal) → refused ≡ o → SameEffect held c b user now (asks user moment (Open scan)) his j (told o told_opened) (told o told_opened)
        by_refusal (Some r) e = record { changes = refl; moves = refl; heard = refl }
        by_refusal None e = record { changes = refl; moves = ap (λ l. Opening l ∷ []) (same_list e); heard = ap (λ l. record { reply = told_opened; list = l } ∷ []) (same_list e) }

        by_room : (v : Bool) → SameEffect held c b user now (asks user moment (Open scan)) his j (cond v (Refused (TooLarge Sessions)) (ample_event c his now user (Open scan))) (cond v (Refused (TooLarge Sessions)) (ample_event b j now user (Open scan)))
        by_room true = record { changes = refl; moves = refl; heard = refl }
        by_room false = subst (λ o. SameEffect held c b user now (asks user moment (Open scan)) his j (told o told_opened) (told refused told_opened)) (ap (λ s. refusal_of s true now user (Open scan)) (sym (standing_visible held b user j))) (by_refusal refused refl)

  unseen_one : (n : List ℕ) (c : Change) → bytes_eq n user ≡ false → only_if (bytes_eq n user) c ++ [] ≡ []
  unseen_one n c e = rw e refl

  event_effect : (m : ℤ) (act : Act) → IsSubset (auths_given b user j) held → Same (asks user m act)
  unfolding session_list
  event_effect m (Open scan) within = open_effect m scan within
  event_effect m (Write t x) within = plain_effect m (Write t x) refl refl (λ r. listless c b his j user m (Write t x) r refl)
  event_effect m (Rights t) within = plain_effect m (Rights t) refl refl (λ r. listless c b his j user m (Rights t) r refl)
  event_effect m (CreateUser n) within = named_effect m (CreateUser n) n refl refl refl (unseen_one n _)
  event_effect m (DropUser n) within = named_effect m (DropUser n) n refl refl refl (unseen_one n _)
  event_effect m (Grant n (OfSystem p)) within = named_effect m (Grant n (OfSystem p)) n refl refl refl (unseen_one n _)
  event_effect m (Grant n (OfTable p t)) within = named_effect m (Grant n (OfTable p t)) n refl refl refl (unseen_one n _)
  event_effect m (Revoke n (OfSystem p)) within = named_effect m (Revoke n (OfSystem p)) n refl refl refl (unseen_one n _)
  event_effect m (Revoke n (OfTable p t)) within = named_effect m (Revoke n (OfTable p t)) n refl refl refl (unseen_one n _)
  event_effect m (SetAuths n auths) within = named_effect m (SetAuths n auths) n refl refl refl (unseen_one n _)
  event_effect m act within = plain_effect m act refl refl (λ x. refl)

  pub own_effect : (step : Step) → user_of step ≡ user → IsSubset (auths_given b user j) held → Same step
  unfolding ample_answer
  own_effect (Event e) u within = subst (λ y. Same (asks y e.moment e.act)) (sym u) (event_effect e.moment e.act within)
  own_effect (Next x slot n) u within = record { changes = refl; moves = next_moves c b his j x slot n _; heard = refl }
  own_effect (Many x slot ranges) u within = record { changes = refl; moves = refl; heard = refl }
  own_effect (Close x slot) u within = record { changes = refl; moves = close_moves c b his j x slot _; heard = refl }
  own_effect (Merge slot) u within = record { changes = refl; moves = refl; heard = refl }

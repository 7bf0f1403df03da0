-- Standing for is transitive, so a chain of cores makes a legal history.
use Rattle.std.proofs.Common.{◌≡◌, ◌⊎◌, ℕ, List, [], ◌∷◌, true, false, not, ◌&&◌, refl, sym, ◌∙◌, ap, subst, arith}
use Rattle.std.specs.Prelude.{ℤ, int_le, ◌<ℤ◌, ◌<◌, Option, Some, None, Contains}
use Rattle.std.specs.List.{list_any}
use Rattle.std.specs.Cmp.{first_so, second_so}
use Rattle.std.proofs.lemmas.Int.{ints}
use mathlib.Core.Bool.{true≢false}
use Rattle.tab_key.specs.Kept.{is_put, same_column}
use Rattle.tab_key.specs.Records.{Record}
use Rattle.tab_key.specs.Sorted.{IsDistinct, IsIn}
use Rattle.tab_key.proofs.Rising.{in_from, in_to}
use Rattle.tab_history.specs.Bases.{BaseTable, Base}
use Rattle.tab_history.specs.Chains.{GoesRight, IsChain, RightStep}
use Rattle.tab_history.specs.Held.{floor_of, RefinesUpdates, RefinesTable}
use Rattle.tab_history.specs.Histories.{Entry, World, world_of, clock_of, journal, world_after, moves_of}
use Rattle.tab_history.specs.Legal.{IsAnswer, LacksMemory, LegalAlone}
use Rattle.tab_history.specs.Readings.{base_table, base_settings, base_records, settings_of, next_number, updates_of}
use Rattle.tab_history.specs.Refinement.{Refines, GoOnAlike, IsSound, IsAlike, AnswersAreOne, NewCoreIsSound, RefinementIsSound}
use Rattle.tab_history.proofs.GoOn.{histories_down, events_down}
use Rattle.tab_history.proofs.Held.{any_in, any_from, not_false, column_trans, kept_down}
use Rattle.tab_cells.proofs.Lists.{by_bool}
use Rattle.tab_history.proofs.HeldWrite.{column_itself, le_trans_z, le_itself_z, covers}
use Rattle.tab_history.proofs.Holds.{holds_members}
use Rattle.tab_cells.proofs.OneAnswer.{one_answer_list}

under : (x y z : ℤ) → int_le x y ≡ true → y <ℤ z → x <ℤ z
under x y z p q = grind (arith, ints)

-- a marker that covers what covers m covers m
covers_over : (m k l : Record) → covers m k ≡ true → covers k l ≡ true → covers m l ≡ true
covers_over m k l p q =
    let a = first_so (not (is_put k.kind) && same_column k.key m.key) (int_le m.key.timestamp k.key.timestamp) p in
    let b = first_so (not (is_put l.kind) && same_column l.key k.key) (int_le k.key.timestamp l.key.timestamp) q in
    let marker = first_so (not (is_put l.kind)) (same_column l.key k.key) b in
    let column = column_trans l.key k.key m.key (second_so (not (is_put l.kind)) (same_column l.key k.key) b) (second_so (not (is_put k.kind)) (same_column k.key m.key) a) in
    let above = le_trans_z m.key.timestamp k.key.timestamp l.key.timestamp (second_so (not (is_put k.kind) && same_column k.key m.key) (int_le m.key.timestamp k.key.timestamp) p) (second_so (not (is_put l.kind) && same_column l.key k.key) (int_le k.key.timestamp l.key.timestamp) q) in
    rw (marker, column, above) refl

module _ (c b a : List Record) (n : ℕ) (floor : ℤ) (top : RefinesUpdates c b n floor) (low : RefinesUpdates b a n floor) (once_b : IsDistinct b) (once_a : IsDistinct a) where
  dropped_over : (m : Record) → IsIn a m → not (is_put m.kind) ≡ true → list_any (covers m) c ≡ false → m.key.timestamp <ℤ floor
  dropped_over m h p f = by_bool (list_any (covers m) b) (λ t. through (any_from (covers m) b t)) (λ g. low.dropped m (in_to a m h) p (ap not g))
    where
      through : ((k : Record) × IsIn b k × (covers m k ≡ true)) → m.key.timestamp <ℤ floor
      through k =
          let parts = first_so (not (is_put k.0.kind) && same_column k.0.key m.key) (int_le m.key.timestamp k.0.key.timestamp) k.2 in
          let marker = first_so (not (is_put k.0.kind)) (same_column k.0.key m.key) parts in
          let above = second_so (not (is_put k.0.kind) && same_column k.0.key m.key) (int_le m.key.timestamp k.0.key.timestamp) k.2 in
          let none : list_any (covers k.0) c ≡ false = by_bool (list_any (covers k.0) c) (λ t. let l = any_from (covers k.0) c t in absurd (true≢false (sym (any_in (covers m) c l.0 l.1 (covers_over m k.0 l.0 k.2 l.2)) ∙ f))) (λ g. g) in
          under m.key.timestamp k.0.key.timestamp floor above (top.dropped k.0 (in_to b k.0 k.1) marker (ap not none))

  stands_again : RefinesUpdates c a n floor
  stands_again = record {
    accepted = λ u h. low.accepted u (top.accepted u h);
    kept = λ u h e. let k = kept_down b a n floor low once_a once_b u (in_from a u h) e in top.kept u (in_to b u k.0) k.1;
    deleted = λ u h p d. top.deleted u h p (low.deleted u (top.accepted u h) p d);
    dropped = λ m h p f. dropped_over m (in_from a m h) p (not_false _ f);
  }

pub refinement_is_transitive : (u v w : World) → Refines u v → Refines v w → Refines u w
refinement_is_transitive u v w p q = record {
  reads = record {
    clock = p.reads.clock ∙ q.reads.clock;
    next = p.reads.next ∙ q.reads.next;
    users = p.reads.users ∙ q.reads.users;
    tables = p.reads.tables ∙ q.reads.tables;
    known = λ n. p.reads.known n ∙ q.reads.known n;
    auths = λ n. p.reads.auths n ∙ q.reads.auths n;
    system = λ n x. p.reads.system n x ∙ q.reads.system n x;
    rights = λ n x t. p.reads.rights n x t ∙ q.reads.rights n x t;
    settings = λ t. p.reads.settings t ∙ q.reads.settings t;
  };
  tables = λ t s e.
      let x = q.tables t s e in
      let y : RefinesTable (updates_of u.base u.changes t) (updates_of v.base v.changes t) (next_number v.base v.changes) s.versions (floor_of s.time w.clock s.horizon) = subst (λ c. RefinesTable (updates_of u.base u.changes t) (updates_of v.base v.changes t) (next_number v.base v.changes) s.versions (floor_of s.time c s.horizon)) q.reads.clock (p.tables t s (q.reads.settings t ∙ e)) in
      record {
        refines = stands_again (updates_of u.base u.changes t) (updates_of v.base v.changes t) (updates_of w.base w.changes t) s.versions (floor_of s.time w.clock s.horizon) y.refines x.refines y.updates_once x.updates_once;
        held_once = y.held_once;
        updates_once = x.updates_once;
        numbered = x.numbered;
      };
}

covers_itself : (m : Record) → not (is_put m.kind) ≡ true → covers m m ≡ true
covers_itself m p = rw (p, column_itself m.key, le_itself_z m.key.timestamp) refl

pub sound_refines_itself : (w : World) → IsSound w → Refines w w
sound_refines_itself w sound = record {
  reads = record {
    clock = refl;
    next = refl;
    users = refl;
    tables = refl;
    known = λ n. refl;
    auths = λ n. refl;
    system = λ n p. refl;
    rights = λ n p t. refl;
    settings = λ t. refl;
  };
  tables = λ t s e. record {
    refines = record {
      accepted = λ u h. h;
      kept = λ u h k. h;
      deleted = λ u h p d. d;
      dropped = λ m h p f. absurd (true≢false (sym (any_in (covers m) (updates_of w.base w.changes t) m (in_from _ m h) (covers_itself m p)) ∙ not_false _ f));
    };
    held_once = (sound t).0;
    updates_once = (sound t).0;
    numbered = (sound t).1;
  };
}

-- ---- the same records in another order
pub alike_refines : (v w : World) → Refines w w → IsAlike v w → Refines v w
alike_refines v w self a = record {
  reads = a.reads;
  tables = λ t s e. holds_members (updates_of w.base w.changes t) (updates_of v.base v.changes t) (updates_of w.base w.changes t) (next_number w.base w.changes) s.versions (floor_of s.time w.clock s.horizon)
      (λ u m. in_from _ u ((a.members t s e u).1 (in_to _ u m)))
      (λ u m. in_from _ u ((a.members t s e u).0 (in_to _ u m)))
      (a.once t s e) (self.tables t s e);
}

-- ---- sound bases
pub new_core_is_sound : NewCoreIsSound
unfolding updates_of
new_core_is_sound t = (tt, λ u c. absurd (in_from [] u c))

pub refinement_is_sound : RefinementIsSound
unfolding updates_of settings_of
refinement_is_sound b w h t = go (base_table b t) refl
  where
    go : (o : Option BaseTable) → base_table b t ≡ o → IsDistinct (base_records o) × ((u : Record) → Contains (base_records o) u → u.seq < next_number b [])
    go None e = (tt, λ u c. absurd (in_from [] u c))
    go (Some x) e =
        let found : settings_of w.base w.changes t ≡ Some x.settings = sym (h.reads.settings t) ∙ ap base_settings e in
        let held : RefinesTable (base_records (base_table b t)) (updates_of w.base w.changes t) (next_number w.base w.changes) x.settings.versions (floor_of x.settings.time w.clock x.settings.horizon) = h.tables t x.settings found in
        let here : RefinesTable x.records (updates_of w.base w.changes t) (next_number w.base w.changes) x.settings.versions (floor_of x.settings.time w.clock x.settings.horizon) = subst (λ o. RefinesTable (base_records o) (updates_of w.base w.changes t) (next_number w.base w.changes) x.settings.versions (floor_of x.settings.time w.clock x.settings.horizon)) e held in
        (here.held_once, λ u c. subst (λ n. u.seq < n) (sym h.reads.next) (here.numbered u (here.refines.accepted u c)))

-- what refines itself does so after each legal history
pub stays_itself : (w : World) → Refines w w → (es : List Entry) → LegalAlone w es → Refines (world_after w es) (world_after w es)
stays_itself w h es l = (events_down w w h es l).1

pub right_step : RightStep
right_step before e after sound legal alike = record {
  legal = legal;
  refines = alike_refines (world_of after) (world_after (world_of before) (e ∷ [])) (stays_itself (world_of before) (sound_refines_itself (world_of before) sound) (e ∷ []) legal) alike;
}

-- ---- one answer to each scan
pub answers_are_one : AnswersAreOne
answers_are_one w sound es l t s e q =
    let g : GoOnAlike w w es = (histories_down w w (sound_refines_itself w sound) es l).1 in
    one_answer_list (updates_of w.base (journal w es) t) s.versions q (g.refines.tables t s e).updates_once

-- ---- chains
pub one_more : (w : World) (es : List Entry) (e : Entry) → LegalAlone (world_after w es) (e ∷ []) → IsAnswer w es [] e.step e.reply ⊎ LacksMemory e.step e.reply
unfolding journal clock_of moves_of
one_more w es e l = go l.1
  where
    go : IsAnswer (world_after w es) [] [] e.step e.reply ⊎ LacksMemory e.step e.reply → IsAnswer w es [] e.step e.reply ⊎ LacksMemory e.step e.reply
    go h = h

pub after_more : (u w : World) (es : List Entry) (e : Entry) → Refines u (world_after (world_after w es) (e ∷ [])) → Refines u (world_after w (e ∷ es))
unfolding journal clock_of
after_more u w es e h = h

pub chains_refine : (w : World) (first last : Base) (es : List Entry) → Refines (world_of first) w → IsChain GoesRight first es last → LegalAlone w es × Refines (world_of last) (world_after w es)
unfolding journal clock_of
chains_refine w first last [] h e = (tt, subst (λ b. Refines (world_of b) w) e h)
chains_refine w first last (e ∷ es) h chain =
    let r = chains_refine w first chain.0 es h chain.1 in
    let goes : GoesRight chain.0 e last = chain.2 in
    let d = events_down (world_of chain.0) (world_after w es) r.1 (e ∷ []) goes.legal in
    ((r.0, one_more w es e d.0), after_more (world_of last) w es e (refinement_is_transitive (world_of last) (world_after (world_of chain.0) (e ∷ [])) (world_after (world_after w es) (e ∷ [])) goes.refines d.1))

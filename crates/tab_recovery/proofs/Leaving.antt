-- The entries of batches that each hold whole ones.
use Rattle.std.proofs.Common.{◌≡◌, ℕ, ◌+◌, ◌≤◌, List, [], ◌∷◌, ◌++◌, length, refl, sym, ap, subst, ◌∙◌, append_assoc, append-nil, length-append, arith}
use Rattle.std.specs.Prelude.{Ok, map, reverse}
use Rattle.std.specs.List.{flat_map}
use Rattle.std.proofs.lemmas.List.{reverse-append, map-append}
use Rattle.tab_history.specs.Histories.{Entry}
use Rattle.tab_history.specs.declared.event.Event.{Event}
use Rattle.tab_history.specs.declared.reply.Reply.TheVariants.{Done}
use Rattle.tab_core.specs.Recording.{entry_of}
use Rattle.tab_core.specs.Stores.{CoreContents}
use Rattle.tab_codec.specs.Parts.{IsBytes}
use Rattle.tab_journal.specs.Journals.{Batch, AreEntries}
use Rattle.tab_journal.proofs.Entries.{entries_are_read, from_whole, in_whole, parts_joined}
use Rattle.tab_journal.proofs.Forms.{entry_long}
use Rattle.tab_recovery.specs.Recovering.{GoesOn, Recovers, all_done}
use Rattle.tab_recovery.proofs.Going.{goes_nowhere, goes_further}

abbrev pub bodies : List Batch → List ℕ
bodies bs = flat_map (λ (b : Batch). b.body) bs

bodies_both : (bs cs : List Batch) → bodies (bs ++ cs) ≡ bodies bs ++ bodies cs
bodies_both [] cs = refl
bodies_both (b ∷ bs) cs = ap (λ (z : List ℕ). b.body ++ z) (bodies_both bs cs) ∙ sym (append_assoc b.body (bodies bs) (bodies cs))

pub bodies_more : (bs : List Batch) (b : Batch) (body : List ℕ) → body ≡ b.body → bodies (bs ++ b ∷ []) ≡ bodies bs ++ body
bodies_more bs b body is = bodies_both bs (b ∷ []) ∙ ap (λ (z : List ℕ). bodies bs ++ z) (append-nil b.body ∙ sym is)

-- as many entries at most as bytes
few : (bytes : List ℕ) (es : List Event) → AreEntries bytes es → length es ≤ length bytes
few bytes [] are = omega arith
few bytes (e ∷ es) are = omega (arith, few are.1 es are.4, entry_long are.0 e are.3, ap (λ (z : List ℕ). length z) are.2, length-append are.0 are.1)

-- ---- of these bytes all entries are done
pub record HasDone (old : CoreContents) (text : List ℕ) (count : ℕ) (new : CoreContents) : Type 0 where
  pub events : List Event
  pub are : AreEntries text events
  pub counted : count ≡ length events
  pub goes : GoesOn old (all_done events) new

pub none_done : (core : CoreContents) → HasDone core [] 0 core
none_done core = record { events = []; are = refl; counted = refl; goes = goes_nowhere core }

done_both : (es fs : List Event) → all_done (es ++ fs) ≡ all_done fs ++ all_done es
done_both es fs = ap (map (λ x. entry_of x Done)) (reverse-append es fs) ∙ map-append (λ x. entry_of x Done) (reverse fs) (reverse es)

pub more_done : (old mid new : CoreContents) (text body : List ℕ) (n m : ℕ) → HasDone old text n mid → IsBytes body → Recovers mid body (Ok m) new → HasDone old (text ++ body) (n + m) new
more_done old mid new text body n m h fits r =
    let are : AreEntries body r.0 = (entries_are_read body r.0 fits).0 r.1 in
    record {
      events = h.events ++ r.0;
      are = parts_joined text body h.events r.0 h.are are;
      counted = omega (arith, h.counted, r.2, length-append h.events r.0);
      goes = subst (λ (z : List Entry). GoesOn old z new) (sym (done_both h.events r.0)) (goes_further old mid new (all_done h.events) (all_done r.0) h.goes r.3);
    }

-- no more than there are bytes
pub few_done : (mid new : CoreContents) (body : List ℕ) (m : ℕ) → IsBytes body → Recovers mid body (Ok m) new → m ≤ length body
few_done mid new body m fits r = omega (arith, r.2, few body r.0 ((entries_are_read body r.0 fits).0 r.1))

pub all_recovered : (old new : CoreContents) (text : List ℕ) (count : ℕ) → HasDone old text count new → Recovers old text (Ok count) new
all_recovered old new text count h =
    let read = from_whole text h.events h.are in
    (h.events, in_whole text h.events (ap (λ (p : List Event × List ℕ). p.0) read) (ap (λ (p : List Event × List ℕ). p.1) read), h.counted, h.goes)

-- How far a replay is.
use Rattle.std.proofs.Common.{◌≡◌, ℕ, ◌+◌, ◌≤◌, ◌<◌, List, [], ◌∷◌, ◌++◌, length, take, refl, sym, ap, subst, ◌∙◌, append_assoc, append-nil, arith}
use Rattle.std.specs.Prelude.{Ok, Err, map}
use Rattle.std.proofs.lemmas.List.{reverse-append, take_at, length-append}
use Rattle.tab_history.specs.Histories.{Entry}
use Rattle.tab_history.specs.declared.event.Event.{Event}
use Rattle.tab_history.specs.declared.reply.Reply.TheVariants.{Done}
use Rattle.tab_core.specs.Stores.{CoreContents}
use Rattle.tab_core.specs.Recording.{entry_of}
use Rattle.tab_codec.specs.Parts.{IsBytes}
use Rattle.tab_journal.specs.Reading.{entries_from}
use Rattle.tab_journal.proofs.Entries.{nothing_there, from_more, from_none, in_whole, in_part}
use Rattle.tab_recovery.specs.declared.fault.ReplayFault.{ReplayFault}
use Rattle.tab_recovery.specs.declared.fault.ReplayFault.TheVariants.{Unfit, Bad, NoMemory}
use Rattle.tab_recovery.specs.Recovering.{all_done, GoesOn, Recovers}
use Rattle.tab_recovery.specs.Redoing.{TakesNext}
use Rattle.tab_recovery.proofs.Going.{goes_nowhere, goes_further}

-- of these bytes some entries are done, and the rest isn't read yet
pub record Progress (old : CoreContents) (body rest : List ℕ) (count : ℕ) (new : CoreContents) : Type 0 where
  pub es : List Event
  pub many : count ≡ length es
  pub few : length es + length rest ≤ length body
  pub fits : IsBytes rest
  pub goes : GoesOn old (all_done es) new
  pub front : (entries_from body).0 ≡ es ++ (entries_from rest).0
  pub left : (entries_from body).1 ≡ (entries_from rest).1

pub begins : (core : CoreContents) (body : List ℕ) → IsBytes body → Progress core body body 0 core
begins core body fits = record { es = []; many = refl; few = omega arith; fits = fits; goes = goes_nowhere core; front = refl; left = refl }

one_more : (es : List Event) (e : Event) → all_done (es ++ e ∷ []) ≡ entry_of e Done ∷ all_done es
one_more es e = ap (map (λ x. entry_of x Done)) (reverse-append es (e ∷ []))

pub goes_on : (old mid new : CoreContents) (body rest behind : List ℕ) (count : ℕ) → Progress old body rest count mid → TakesNext mid rest new (Ok behind) → Progress old body behind (count + 1) new
goes_on old mid new body rest behind count p t =
    let more = from_more rest t.event behind p.fits t.read in
    let long : length (p.es ++ t.event ∷ []) ≡ length p.es + 1 = length-append p.es (t.event ∷ []) in
    record {
      es = p.es ++ t.event ∷ [];
      many = omega (arith, long, p.many);
      few = omega (arith, long, p.few, more.shorter);
      fits = more.fits;
      goes = subst (λ (z : List Entry). GoesOn old z new) (sym (one_more p.es t.event)) (goes_further old mid new (all_done p.es) (entry_of t.event Done ∷ []) p.goes t.goes);
      front = p.front ∙ ap (λ (z : List Event). p.es ++ z) more.front ∙ sym (append_assoc p.es (t.event ∷ []) (entries_from behind).0);
      left = p.left ∙ more.left;
    }

pub shorter : (old mid new : CoreContents) (body rest behind : List ℕ) (count : ℕ) → Progress old body rest count mid → TakesNext mid rest new (Ok behind) → length behind < length rest
shorter old mid new body rest behind count p t = (from_more rest t.event behind p.fits t.read).shorter

pub counts : (old new : CoreContents) (body rest : List ℕ) (count : ℕ) → Progress old body rest count new → count + length rest ≤ length body
counts old new body rest count p = omega (arith, p.many, p.few)

pub ends : (old new : CoreContents) (body rest : List ℕ) (count : ℕ) → Progress old body rest count new → rest ≡ [] → Recovers old body (Ok count) new
ends old new body rest count p none =
    let nothing = from_none [] nothing_there in
    let all : (entries_from body).0 ≡ p.es = p.front ∙ ap (λ (z : List ℕ). p.es ++ (entries_from z).0) none ∙ ap (λ (z : List Event). p.es ++ z) nothing.0 ∙ append-nil p.es in
    let over : (entries_from body).1 ≡ [] = p.left ∙ ap (λ (z : List ℕ). (entries_from z).1) none ∙ nothing.1 in
    (p.es, in_whole body p.es all over, p.many, p.goes)

pub fails : (old mid new : CoreContents) (body rest : List ℕ) (count : ℕ) (fault : ReplayFault) → Progress old body rest count mid → 0 < length rest → TakesNext mid rest new (Err fault) → Recovers old body (Err fault) new
fails old mid new body rest count Bad p some t =
    let nothing = from_none rest t.0 in
    let all : (entries_from body).0 ≡ p.es = p.front ∙ ap (λ (z : List Event). p.es ++ z) nothing.0 ∙ append-nil p.es in
    let over : (entries_from body).1 ≡ rest = p.left ∙ nothing.1 in (
      in_part body (subst (λ (z : List ℕ). 0 < length z) (sym over) some),
      subst (λ (z : List Event). GoesOn old (all_done z) new) (sym all) (goes_further old mid new (all_done p.es) [] p.goes t.1),
    )
fails old mid new body rest count NoMemory p some t =
    let first : take (length p.es) (entries_from body).0 ≡ p.es = ap (take (length p.es)) p.front ∙ take_at p.es (entries_from rest).0 (length p.es) refl in
    (length p.es, subst (λ (z : List Event). GoesOn old (all_done z) new) (sym first) (goes_further old mid new (all_done p.es) [] p.goes t))
fails old mid new body rest count Unfit p some t =
    let more = from_more rest t.3.event t.0 p.fits t.3.read in
    record {
      before = p.es;
      here = t.3.event;
      behind = (entries_from t.0).0;
      parts = p.front ∙ ap (λ (z : List Event). p.es ++ z) more.front;
      reply = t.1;
      unfit = t.2;
      goes = goes_further old mid new (all_done p.es) (entry_of t.3.event t.1 ∷ []) p.goes t.3.goes;
    }

-- What is gathered, entry by entry.
use Rattle.std.proofs.Common.{◌≡◌, ℕ, ℤ, ◌<◌, ◌^◌, FitsSigned, true, List, [], ◌∷◌, ◌++◌, length, take, drop, Some, refl, sym, ap, subst, ◌∙◌, append-nil, arith}
use Rattle.std.specs.Int.{w64}
use Rattle.std.proofs.lemmas.List.{take_all, take_at, length-drop}
use Rattle.tab_io.specs.Streams.{Gathers, GathersPart}
use Rattle.tab_history.specs.declared.event.Event.{Event}
use Rattle.tab_lasting.specs.Lasting.{leaves_trace}
use Rattle.tab_key.specs.Names.{IsName}
use Rattle.tab_codec.specs.Parts.{IsBytes}
use Rattle.tab_codec.proofs.Written.{i64_written, field_written, name_written as coded_name_of}
use Rattle.tab_wire.specs.Forms.{IsRequest}
use Rattle.tab_wire.specs.Replies.{i64, field}
use Rattle.tab_wire.specs.Sending.{act_bytes}
use Rattle.tab_wire.specs.declared.request.Request.TheVariants as asks
use Rattle.tab_event_record.specs.Records.{act_in, body_bytes}
use Rattle.tab_journal.specs.Journals.{IsEntry, AreEntries}
use Rattle.tab_journal.specs.Reading.{entries_from}
use Rattle.tab_journal.specs.Spelling.{entry_bytes, entries_bytes}
use Rattle.tab_journal.specs.Stretches.{Stretch, begun, kept_behind}
use Rattle.tab_journal.proofs.Entries.{from_whole, parts_joined}
use Rattle.tab_journal.proofs.Bodies.{asked, frame_is}

-- ---- bytes that are gathered in memory
pub gathered_is : (old new bs : List ℕ) → Gathers (Some old) [] (Some new) [] bs → new ≡ old ++ bs
gathered_is old new bs g =
    let none : 0 ≡ length (drop g.count bs) = ap (λ (z : List ℕ). length z) g.left in
    g.written ∙ ap (λ (z : List ℕ). old ++ z) (take_all g.count bs (omega (arith, none, length-drop g.count bs)))

pub cut_back : (old new bs : List ℕ) → GathersPart (Some old) [] (Some new) [] bs → take (length old) new ≡ old
cut_back old new bs g = ap (λ (z : List ℕ). take (length old) z) (gathered_is old new g.part g.put) ∙ take_at old g.part (length old) refl

-- ---- stretches
pub none_kept : (xs : List ℕ) → xs ≡ [] → AreEntries xs (entries_from xs).0
none_kept xs is = subst (λ (z : List ℕ). AreEntries z (entries_from z).0) (sym is) (subst (λ (es : List Event). AreEntries [] es) (sym (ap (λ (p : List Event × List ℕ). p.0) (from_whole [] [] refl))) refl)

pub begun_is : (clock : ℤ) (xs : List ℕ) → xs ≡ [] → record { clock = clock; entries = (entries_from xs).0; bytes = xs } ≡ begun clock
begun_is clock xs is =
    ap (λ (z : List ℕ). record { clock = clock; entries = (entries_from z).0; bytes = z }) is
    ∙ ap (λ (es : List Event). record { clock = clock; entries = es; bytes = [] }) (ap (λ (p : List Event × List ℕ). p.0) (from_whole [] [] refl))

-- one entry more
pub record KeepsMore (old new : List ℕ) (e : Event) : Type 0 where
  pub are : AreEntries new (entries_from new).0
  pub entries : (entries_from new).0 ≡ (entries_from old).0 ++ e ∷ []
  pub bytes : new ≡ old ++ entries_bytes (e ∷ [])

pub keeps_more : (old new : List ℕ) (e : Event) → AreEntries old (entries_from old).0 → IsEntry (entry_bytes e) e → new ≡ old ++ entry_bytes e → KeepsMore old new e
keeps_more old new e are one is =
    let single : AreEntries (entry_bytes e) (e ∷ []) = (entry_bytes e, [], sym (append-nil (entry_bytes e)), one, refl) in
    let all : AreEntries new ((entries_from old).0 ++ e ∷ []) = subst (λ (z : List ℕ). AreEntries z ((entries_from old).0 ++ e ∷ [])) (sym is) (parts_joined old (entry_bytes e) (entries_from old).0 (e ∷ []) are single) in
    let read : (entries_from new).0 ≡ (entries_from old).0 ++ e ∷ [] = ap (λ (p : List Event × List ℕ). p.0) (from_whole new ((entries_from old).0 ++ e ∷ []) all) in
    record {
      are = subst (λ (es : List Event). AreEntries new es) (sym read) all;
      entries = read;
      bytes = is ∙ ap (λ (z : List ℕ). old ++ z) (sym (append-nil (entry_bytes e)));
    }

pub stretch_more : (clock : ℤ) (old new : List ℕ) (e : Event) → KeepsMore old new e → record { clock = clock; entries = (entries_from new).0; bytes = new } ≡ kept_behind (record { clock = clock; entries = (entries_from old).0; bytes = old }) clock (e ∷ [])
stretch_more clock old new e k = λ i. record { clock = clock; entries = k.entries i; bytes = k.bytes i }

-- the entry of an event that leaves something, put at this clock
pub puts_one : (old new user body : List ℕ) (e : Event) (clock : ℤ) → AreEntries old (entries_from old).0 → leaves_trace e.act ≡ true → IsName e.user → FitsSigned w64 clock → IsBytes body
    → act_in body ≡ Some e.act → body ≡ body_bytes e.act → length body < 2 ^ 32 → user ≡ e.user → (t : ℤ) → t ≡ clock → new ≡ old ++ (i64 t ++ (field user ++ field body)) → KeepsMore old new (record e { moment = clock })
puts_one old new user body e clock are leaves name time bytes read written low user_is t same_time is =
    let spelled : body ≡ act_bytes e.act = written ∙ frame_is e.act leaves in
    keeps_more old new (record e { moment = clock }) are
    (record {
      c = i64 clock;
      u = field e.user;
      f = field (act_bytes e.act);
      body = act_bytes e.act;
      spelled = refl;
      moment = i64_written clock time;
      user = coded_name_of e.user name;
      text = (field_written (act_bytes e.act) (subst (λ (z : List ℕ). length z < 2 ^ 32) spelled low), subst IsBytes spelled bytes);
      act = subst (λ (z : List ℕ). IsRequest z (asks.Act e.act)) (frame_is e.act leaves) (asked e.act leaves (ap act_in (sym written) ∙ read) (subst IsBytes written bytes));
    })
    (is ∙ (λ i. old ++ (i64 (same_time i) ++ (field (user_is i) ++ field (spelled i)))))

-- ---- nothing
pub kept_nothing : (s : Stretch) → s ≡ kept_behind s s.clock []
kept_nothing s = λ i. record { clock = s.clock; entries = sym (append-nil s.entries) i; bytes = sym (append-nil s.bytes) i }

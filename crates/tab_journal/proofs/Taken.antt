-- What was taken of a journal's bytes, and where they end.
use Rattle.std.proofs.Common.{◌≡◌, ℕ, ◌+◌, ◌-◌, ◌≤◌, ◌↔◌, Bool, true, false, ◌&&◌, List, [], ◌∷◌, ◌++◌, length, take, drop, Some, None, refl, sym, ap, subst, ◌∙◌, append_assoc, append-nil, take-append-drop, drop-drop, arith, inl, inr}
use Rattle.std.specs.Prelude.{nat_le, slice_range}
use Rattle.std.proofs.Math.ListN.{get_or-append}
use Rattle.std.proofs.lemmas.Bool.{cases_lt}
use Rattle.std.proofs.lemmas.List.{get_or-append_right, take_at, drop_at, take-append-le, drop-append-le, length-append, length-take, length-drop}
use Rattle.tab_codec.specs.Parts.{IsBytes}
use Rattle.tab_codec.proofs.Exact.{bind_some}
use Rattle.std.specs.Int.{w32, to_be_bytes}
use Rattle.tab_journal.specs.declared.cursor.Cursor.{Cursor}
use Rattle.tab_journal.specs.declared.header.Header.{Header as TheFront}
use Rattle.tab_journal.specs.declared.journal_end.JournalEnd.{JournalEnd}
use Rattle.tab_journal.specs.declared.seal.Form.{Form}
use Rattle.tab_journal.specs.declared.seal.Form.TheVariants.{Plain, Tagged}
use Rattle.tab_journal.specs.declared.seal.Seal.{Seal}
use Rattle.tab_journal.specs.Cursors.{window_of, unread_of, IsPlaced, HasTaken, end_of}
use Rattle.tab_journal.specs.Damage.{IsDamaged, IsDamagedIn}
use Rattle.tab_journal.specs.Journals.{Header, Batch, IsHeader, IsBatch, AreBatches, IsJournal}
use Rattle.tab_journal.specs.Laws.{last_sum}
use Rattle.tab_journal.specs.Reading.{header_at, batch_at, batches_within, journal_from, journal_of}
use Rattle.tab_journal.specs.Readers.{Ends}
use Rattle.tab_journal.specs.Said.{header_in, End, end_in, ends_of, are_timely}
use Rattle.tab_journal.specs.Writing.{around}
use Rattle.tab_journal.proofs.Crashing.{journal_more, last_sum_more}
use Rattle.tab_journal.proofs.Forms.{exact_front, exact_batch, front_long}
use Rattle.tab_journal.proofs.Timely.{batch_length, both}
use Rattle.tab_journal.proofs.Whole.{batches_complete}
use Rattle.tab_journal.proofs.Windows.{damaged_by_window}

-- ---- bytes
pub bytes-append : (xs ys : List ℕ) → IsBytes xs → IsBytes ys → IsBytes (xs ++ ys)
bytes-append xs ys a b i =
    elim (cases_lt i (length xs)) [
      | inl lt ↦ rw (get_or-append xs ys 0 i lt) (a i)
      | inr le ↦ rw (get_or-append_right xs ys (length xs) i 0 refl le) (b (i - length xs))
    ]

-- ---- the batch in front of some bytes
pub record BatchHere (seal : Seal) (before : ℕ) (unread rest : List ℕ) (b : Batch) : Type 0 where
  pub text : List ℕ
  pub parts : unread ≡ text ++ rest
  pub is : IsBatch seal before text b
  pub within : length text ≤ length unread
  pub count : length unread - length rest ≡ length text
  pub short : length rest ≤ length unread
  pub room : length b.body + 20 ≤ length text

pub batch_here : (seal : Seal) (before : ℕ) (unread from rest : List ℕ) (b : Batch) → from ≡ unread → IsBytes from → Some (b, rest) ≡ batch_at seal before from → BatchHere seal before unread rest b
batch_here seal before unread from rest b same fits read =
    let t = (exact_batch seal before).sound from b rest fits (sym read) in
    let parts : unread ≡ t.front ++ rest = sym same ∙ t.parts in
    let long : length unread ≡ length t.front + length rest = ap (λ (z : List ℕ). length z) parts ∙ length-append t.front rest in
    record {
      text = t.front;
      parts = parts;
      is = t.says;
      within = omega (arith, long);
      count = omega (arith, long);
      short = omega (arith, long);
      room = omega (arith, batch_length seal before t.front b t.says, around_least seal.form);
    }
  where
    around_least : (form : Form) → 20 ≤ around form
    around_least Plain = omega arith
    around_least Tagged = omega arith

-- ---- where the window stands
module _ (bytes : List ℕ) (c : Cursor) (p : IsPlaced bytes c) where
  pub unread_is : 8 ≤ c.start → unread_of c ≡ drop c.taken bytes
  unread_is low =
      let s : c.start ≡ (c.start - 8) + 8 = omega (arith, low) in
      let high = p.low in
      let n : (c.taken - 8) + 8 ≡ c.taken = omega (arith, high) in
      ap (λ (k : ℕ). drop k c.buffer.items) s ∙ sym (drop-drop 8 (c.start - 8) c.buffer.items) ∙ ap (λ (z : List ℕ). drop 8 z) p.window ∙ drop-drop 8 (c.taken - 8) bytes ∙ ap (λ (k : ℕ). drop k bytes) n

  pub judged_by : IsDamagedIn c.header.seal c.taken (window_of c) ↔ IsDamaged c.header.seal c.taken bytes
  judged_by =
      let n = c.taken - 8 in
      let low = p.low in
      let long = p.long in
      damaged_by_window c.header.seal (take n bytes) (window_of c) bytes c.taken (sym (take-append-drop n bytes) ∙ ap (λ (z : List ℕ). take n bytes ++ z) (sym p.window))
      (omega (arith, low, long, length-take n bytes))

  -- more bytes behind them
  pub placed_still : (new : Cursor) (more : List ℕ) → new.taken ≡ c.taken → window_of new ≡ window_of c ++ more → IsPlaced (bytes ++ more) new
  placed_still new more taken window =
      let low = p.low in
      let long = p.long in
      record {
        low = omega (arith, low, taken);
        long = omega (arith, taken, long, length-append bytes more);
        window = window ∙ ap (λ (z : List ℕ). z ++ more) p.window ∙ sym (drop-append-le (c.taken - 8) bytes more (omega (arith, long))) ∙ ap (λ (k : ℕ). drop (k - 8) (bytes ++ more)) (sym taken);
      }

  -- so many bytes more are taken
  pub placed_more : (new : Cursor) (n : ℕ) → n ≤ length (unread_of c) → 8 ≤ c.start → new.buffer.items ≡ c.buffer.items → new.start ≡ c.start + n → new.taken ≡ c.taken + n → IsPlaced bytes new
  placed_more new n enough at_least buffer start taken =
      let low = p.low in
      let long = p.long in
      let at : new.start - 8 ≡ (c.start - 8) + n = omega (arith, start, at_least) in
      let there : (c.taken - 8) + n ≡ new.taken - 8 = omega (arith, taken, low) in
      record {
        low = omega (arith, low, taken);
        long = omega (arith, taken, long, enough, ap (λ (z : List ℕ). length z) (unread_is at_least), length-drop c.taken bytes);
        window = ap (λ (z : List ℕ). drop (new.start - 8) z) buffer ∙ ap (λ (k : ℕ). drop k c.buffer.items) at ∙ sym (drop-drop n (c.start - 8) c.buffer.items) ∙ ap (λ (z : List ℕ). drop n z) p.window
            ∙ drop-drop n (c.taken - 8) bytes ∙ ap (λ (k : ℕ). drop k bytes) there;
      }

-- ---- what was taken
module _ (bytes : List ℕ) (c : Cursor) (bs : List Batch) (h : HasTaken bytes c bs) where
  pub read_whole : 8 ≤ c.start → batch_at c.header.seal c.sum (unread_of c) ≡ None → journal_of bytes ≡ Some (record { header = header_in c.header; batches = bs; left = unread_of c })
  unfolding journal_of
  read_whole low none =
      let j = h.journal in
      let header = header_in c.header in
      let rest = drop c.taken bytes in
      let whole : bytes ≡ j.0 ++ (j.1 ++ rest) = sym (take-append-drop c.taken bytes) ∙ ap (λ (z : List ℕ). z ++ rest) j.2 ∙ append_assoc j.0 j.1 rest in
      let front : header_at bytes ≡ Some (header, j.1 ++ rest) = ap header_at whole ∙ exact_front.complete j.0 (j.1 ++ rest) header j.3 in
      let ends : batch_at header.seal (last_sum header bs) rest ≡ None = ap (λ (s : ℕ). batch_at header.seal s rest) (sym h.summed) ∙ ap (λ (z : List ℕ). batch_at header.seal c.sum z) (sym (unread_is bytes c h.placed low)) ∙ none in
      let all : batches_within header.seal header.sum (length (j.1 ++ rest)) (j.1 ++ rest) ≡ (bs, rest) = batches_complete header.seal bs (length (j.1 ++ rest)) header.sum j.1 rest j.4 (omega arith) ends in
      bind_some (header_at bytes) (header, j.1 ++ rest) (λ f. Some (journal_from f)) (Some (record { header = header; batches = bs; left = unread_of c })) front
      (ap (λ (p : List Batch × List ℕ). Some (record { header = header; batches = p.0; left = p.1 })) all ∙ ap (λ (z : List ℕ). Some (record { header = header; batches = bs; left = z })) (sym (unread_is bytes c h.placed low)))

  pub end_is : 8 ≤ c.start → end_of c ≡ ends_of bytes (record { header = header_in c.header; batches = bs; left = unread_of c })
  end_is low =
      let long : c.taken ≡ length bytes - length (unread_of c) = let long = h.placed.long in omega (arith, long, ap (λ (z : List ℕ). length z) (unread_is bytes c h.placed low), length-drop c.taken bytes) in
      λ i. record { header = header_in c.header; sum = h.summed i; length = long i; left = length (unread_of c); is_timely = h.timely i }

  pub taken_still : (new : Cursor) (more : List ℕ) → new.header ≡ c.header → new.taken ≡ c.taken → new.sum ≡ c.sum → new.is_timely ≡ c.is_timely → window_of new ≡ window_of c ++ more → IsBytes more → HasTaken (bytes ++ more) new bs
  taken_still new more header taken sum timely window fits = record {
    fits = bytes-append bytes more h.fits fits;
    placed = placed_still bytes c h.placed new more taken window;
    journal = subst (λ (f : TheFront). IsJournal (take new.taken (bytes ++ more)) (header_in f) bs) (sym header)
        (subst (λ (z : List ℕ). IsJournal z (header_in c.header) bs) (sym (take-append-le c.taken bytes more h.placed.long) ∙ ap (λ (k : ℕ). take k (bytes ++ more)) (sym taken)) h.journal);
    summed = sum ∙ h.summed ∙ ap (λ (f : TheFront). last_sum (header_in f) bs) (sym header);
    timely = timely ∙ h.timely ∙ ap (λ (f : TheFront). are_timely f.seal.form 48 bs) (sym header);
  }

-- ---- one batch more
timely_and : (a b c : Bool) → (a && (b && c)) ≡ ((a && b) && c)
timely_and true b c = refl
timely_and false b c = refl

true_last : (a : Bool) → (a && true) ≡ a
true_last true = refl
true_last false = refl

timely_behind : (seal : Seal) (before at : ℕ) (text : List ℕ) (bs : List Batch) (b : Batch) → AreBatches seal before text bs → are_timely seal.form at (bs ++ b ∷ []) ≡ (are_timely seal.form at bs && nat_le b.settled (at + length text))
timely_behind seal before at text [] b are =
    let place : at ≡ at + length text = omega (arith, ap (λ (z : List ℕ). length z) are) in
    true_last (nat_le b.settled at) ∙ ap (λ (k : ℕ). nat_le b.settled k) place
timely_behind seal before at text (x ∷ bs) b are =
    ap (λ (t : Bool). nat_le x.settled at && t) (timely_behind seal x.sum (at + (around seal.form + length x.body)) are.1 bs b are.4 ∙ ap (λ (k : ℕ). are_timely seal.form (at + (around seal.form + length x.body)) bs && nat_le b.settled k) (sym (both seal before at text x bs are)))
    ∙ timely_and (nat_le x.settled at) (are_timely seal.form (at + (around seal.form + length x.body)) bs) (nat_le b.settled (at + length text))

module _ (bytes : List ℕ) (c new : Cursor) (bs : List Batch) (h : HasTaken bytes c bs) (low : 8 ≤ c.start) (text rest : List ℕ) (b : Batch) (parts : unread_of c ≡ text ++ rest) (is : IsBatch c.header.seal c.sum text b) where
  behind : drop c.taken bytes ≡ text ++ rest
  behind = sym (unread_is bytes c h.placed low) ∙ parts

  whole : bytes ≡ (take c.taken bytes ++ text) ++ rest
  whole = sym (take-append-drop c.taken bytes) ∙ ap (λ (z : List ℕ). take c.taken bytes ++ z) behind ∙ sym (append_assoc (take c.taken bytes) text rest)

  longer : length (take c.taken bytes ++ text) ≡ c.taken + length text
  longer = let l = h.placed.long in omega (arith, l, length-append (take c.taken bytes) text, length-take c.taken bytes)

  pub taken_more : new.header ≡ c.header → new.buffer.items ≡ c.buffer.items → new.start ≡ c.start + length text → new.taken ≡ c.taken + length text → new.sum ≡ b.sum → new.is_timely ≡ (c.is_timely && nat_le b.settled c.taken) → HasTaken bytes new (bs ++ b ∷ [])
  taken_more header buffer start taken sum timely =
      let front = header_in c.header in
      let first : take new.taken bytes ≡ take c.taken bytes ++ text = ap (λ (k : ℕ). take k bytes) taken ∙ ap (λ (z : List ℕ). take (c.taken + length text) z) whole ∙ take_at (take c.taken bytes ++ text) rest (c.taken + length text) longer in
      let j = h.journal in
      let l = h.placed.long in
      let here : c.taken ≡ 48 + length j.1 = omega (arith, l, front_long j.0 front j.3, ap (λ (z : List ℕ). length z) j.2, length-append j.0 j.1, length-take c.taken bytes) in
      record {
        fits = h.fits;
        placed = placed_more bytes c h.placed new (length text) (omega (arith, ap (λ (z : List ℕ). length z) parts, length-append text rest)) low buffer start taken;
        journal = subst (λ (f : TheFront). IsJournal (take new.taken bytes) (header_in f) (bs ++ b ∷ [])) (sym header)
            (subst (λ (z : List ℕ). IsJournal z front (bs ++ b ∷ [])) (sym first) (journal_more (take c.taken bytes) text front bs b h.journal (subst (λ (s : ℕ). IsBatch c.header.seal s text b) h.summed is)));
        summed = sum ∙ sym (last_sum_more front bs b) ∙ ap (λ (f : TheFront). last_sum (header_in f) (bs ++ b ∷ [])) (sym header);
        timely = timely ∙ ap (λ (t : Bool). t && nat_le b.settled c.taken) h.timely ∙ ap (λ (k : ℕ). are_timely c.header.seal.form 48 bs && nat_le b.settled k) here
            ∙ sym (timely_behind c.header.seal c.header.sum 48 h.journal.1 bs b h.journal.4) ∙ ap (λ (f : TheFront). are_timely f.seal.form 48 (bs ++ b ∷ [])) (sym header);
      }

-- ---- the body ends before the sum
module _ (c : Cursor) (low : 8 ≤ c.start) (text rest : List ℕ) (b : Batch) (parts : unread_of c ≡ text ++ rest) (is : IsBatch c.header.seal c.sum text b) where
  pub body_here : (items : List ℕ) (from size : ℕ) → items ≡ c.buffer.items → from ≡ c.start + length text → size ≡ length b.body → c.start ≤ length c.buffer.items → slice_range items (from - 8 - size) (from - 8) ≡ b.body
  body_here items from size buffer start body within =
      let s = is.summed in
      let len = to_be_bytes w32 (length b.body) in
      let head = (take c.start c.buffer.items ++ (is.t ++ s.s)) ++ len in
      let back = s.m ++ rest in
      let eight : length s.m ≡ 8 = ap (λ (z : List ℕ). length z) s.sum.0 in
      let text_is : text ≡ ((is.t ++ s.s) ++ len) ++ (b.body ++ s.m) =
      is.whole
      ∙ ap (λ (z : List ℕ). is.t ++ z) (s.spelled ∙ ap (λ (z : List ℕ). s.s ++ (z ++ s.m)) s.body.0 ∙ ap (λ (z : List ℕ). s.s ++ z) (append_assoc len b.body s.m))
      ∙ sym (append_assoc is.t s.s (len ++ (b.body ++ s.m)))
      ∙ sym (append_assoc (is.t ++ s.s) len (b.body ++ s.m)) in
      let all : c.buffer.items ≡ head ++ (b.body ++ back) =
      sym (take-append-drop c.start c.buffer.items)
      ∙ ap (λ (z : List ℕ). take c.start c.buffer.items ++ z) (parts ∙ ap (λ (z : List ℕ). z ++ rest) text_is ∙ append_assoc ((is.t ++ s.s) ++ len) (b.body ++ s.m) rest ∙ append_assoc (is.t ++ s.s) len ((b.body ++ s.m) ++ rest))
      ∙ sym (append_assoc (take c.start c.buffer.items) (is.t ++ s.s) (len ++ ((b.body ++ s.m) ++ rest)))
      ∙ sym (append_assoc (take c.start c.buffer.items ++ (is.t ++ s.s)) len ((b.body ++ s.m) ++ rest))
      ∙ ap (λ (z : List ℕ). head ++ z) (append_assoc b.body s.m rest) in
      let long : length text ≡ length ((is.t ++ s.s) ++ len) + (length b.body + length s.m) = ap (λ (z : List ℕ). length z) text_is ∙ length-append ((is.t ++ s.s) ++ len) (b.body ++ s.m) ∙ ap (λ (k : ℕ). length ((is.t ++ s.s) ++ len) + k) (length-append b.body s.m) in
      let start_long : length (take c.start c.buffer.items) ≡ c.start = omega (arith, within, length-take c.start c.buffer.items) in
      let ahead : from - 8 - size ≡ length head =
      omega (arith, start, body, long, eight, start_long, length-append (take c.start c.buffer.items ++ (is.t ++ s.s)) len, length-append (take c.start c.buffer.items) (is.t ++ s.s), length-append (is.t ++ s.s) len) in
      let count : (from - 8) - (from - 8 - size) ≡ length b.body = omega (arith, start, body, long, eight) in
      ap (λ (z : List ℕ). take ((from - 8) - (from - 8 - size)) (drop (from - 8 - size) z)) (buffer ∙ all)
      ∙ ap (λ (k : ℕ). take ((from - 8) - (from - 8 - size)) (drop k (head ++ (b.body ++ back)))) ahead
      ∙ ap (λ (z : List ℕ). take ((from - 8) - (from - 8 - size)) z) (drop_at head (b.body ++ back) (length head) refl)
      ∙ ap (λ (k : ℕ). take k (b.body ++ back)) count
      ∙ take_at b.body back (length b.body) refl

-- ---- the header alone
pub begins : (bytes text rest : List ℕ) (c : Cursor) → bytes ≡ text ++ rest → IsHeader text (header_in c.header) → c.buffer.items ≡ bytes → c.start ≡ 48 → c.taken ≡ 48 → c.sum ≡ c.header.sum → c.is_timely ≡ true → IsBytes bytes → HasTaken bytes c []
begins bytes text rest c parts is buffer start taken sum timely fits =
    let long = front_long text (header_in c.header) is in
    let first : take c.taken bytes ≡ text ++ [] = ap (λ (k : ℕ). take k bytes) taken ∙ ap (λ (z : List ℕ). take 48 z) parts ∙ take_at text rest 48 long ∙ sym (append-nil text) in
    record {
      fits = fits;
      placed = record {
        low = omega (arith, taken);
        long = omega (arith, taken, long, ap (λ (z : List ℕ). length z) parts, length-append text rest);
        window = ap (λ (z : List ℕ). drop (c.start - 8) z) buffer ∙ ap (λ (k : ℕ). drop (k - 8) bytes) (start ∙ sym taken);
      };
      journal = (text, [], first, is, refl);
      summed = sum;
      timely = timely;
    }

pub header_here : (bytes from rest : List ℕ) (f : Header) → from ≡ bytes → IsBytes from → Some (f, rest) ≡ header_at from → (text : List ℕ) × (bytes ≡ text ++ rest) × IsHeader text f × (length bytes - length rest ≡ 48) × (length rest ≤ length bytes)
header_here bytes from rest f same fits read =
    let t = exact_front.sound from f rest fits (sym read) in
    let parts : bytes ≡ t.front ++ rest = sym same ∙ t.parts in
    let all : length bytes ≡ length t.front + length rest = ap (λ (z : List ℕ). length z) parts ∙ length-append t.front rest in
    (t.front, parts, t.says, omega (arith, front_long t.front f t.says, all), omega (arith, all))

-- ---- where a journal ends that was read
pub ends_by : (seen : List ℕ) (c : Cursor) (bs : List Batch) (e : JournalEnd) → HasTaken seen c bs → 8 ≤ c.start → batch_at c.header.seal c.sum (unread_of c) ≡ None → end_in e ≡ end_of c → (e.is_damaged ≡ true) ↔ IsDamagedIn c.header.seal c.taken (window_of c) → Ends seen e
ends_by seen c bs e h low none told judged =
    let by = judged_by seen c h.placed in
    let all : (e.is_damaged ≡ true) ↔ IsDamaged c.header.seal c.taken seen = (λ yes. by.0 (judged.0 yes), λ d. judged.1 (by.1 d)) in
    record {
      journal = record { header = header_in c.header; batches = bs; left = unread_of c };
      fits = h.fits;
      read = read_whole seen c bs h low none;
      end = told ∙ end_is seen c bs h low;
      whole = subst (λ (x : End). IsJournal (take x.length seen) (header_in c.header) bs) (sym told) h.journal;
      judged = subst (λ (x : End). (e.is_damaged ≡ true) ↔ IsDamaged x.header.seal x.length seen) (sym told) all;
    }
